pub mod Variables
pub mod Imports
pub mod PairKeys
pub mod Readings
pub mod Built
