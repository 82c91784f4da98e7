pub mod AnyScope
pub mod FreezingLaws
pub mod FreezingMarks
pub mod KeepsLaws
pub mod Kept
pub mod KeptCalled
pub mod KeptWalk
mod RowParts
mod RowsBodies
mod RowsChanges
mod RowsControl
mod RowsFrozen
mod RowsGenerators
mod RowsLimits
mod RowsOutput
mod RowsPrelude
mod RowsScopes
mod RowsValues
pub mod RunsKeep
