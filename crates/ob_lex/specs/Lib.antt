pub mod Words
pub mod Characters
pub mod Pieces
pub mod Tokens
pub mod Reading
pub mod Closing
