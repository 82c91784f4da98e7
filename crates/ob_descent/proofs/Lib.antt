pub mod BracketTurns
mod CellTurns
mod SpecTurns
pub mod WithinLimits
pub mod YieldsOf
