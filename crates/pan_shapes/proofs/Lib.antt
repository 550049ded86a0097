mod Answering
mod ArgumentLemmas
mod BodyLemmas
mod ClosingLayers
mod Combining
mod DoLayers
mod DoSteps
mod ExprLayers
mod GoodNames
mod HeadLemmas
mod Inducting
mod Judgements
mod Keeping
mod NameLemmas
mod Sums
pub mod FieldLemmas
pub mod Scoping
