pub mod ShapeLayers
pub mod MeaningLayers
pub mod OwnWeights
pub mod GoesOn
pub mod Ends
pub mod InOrder
pub mod SourceOrder
pub mod CheckLayers
