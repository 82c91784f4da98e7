pub mod Forms
pub mod Meanings
pub mod Chain
pub mod Found
pub mod Kept
pub mod Sets
pub mod Resolved
pub mod Flags
