pub mod Chain
pub mod Found
