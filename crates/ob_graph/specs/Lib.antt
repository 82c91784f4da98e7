pub mod Paths
pub mod Searches
pub mod Lending
