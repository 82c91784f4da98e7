pub mod CellStarts
pub mod YieldsIn
