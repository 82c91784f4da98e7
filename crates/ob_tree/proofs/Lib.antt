mod Capped
mod Folds
mod Keys
mod Spacing
mod NameRows
pub mod PartLaws
pub mod PartWalks
pub mod PartNames
