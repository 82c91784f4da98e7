pub mod Inside
pub mod Nests
pub mod Then
pub mod Views
pub mod Turns
pub mod Starts
pub mod Beginnings
