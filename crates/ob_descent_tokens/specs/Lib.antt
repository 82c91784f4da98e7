pub mod Gives
pub mod Lists
pub mod Tests
