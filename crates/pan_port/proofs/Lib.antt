pub mod LineFeeds
pub mod ReplyLemmas
pub mod Runs
pub mod WriterLemmas
