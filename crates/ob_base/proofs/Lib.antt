pub mod AsciiWords
pub mod ReservedWords
