pub mod AnswerLemmas
pub mod AdvanceLemmas
pub mod NameLemmas
pub mod EndLemmas
