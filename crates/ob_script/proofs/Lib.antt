pub mod Back
pub mod Entries
pub mod JsonReading
pub mod Props
pub mod Readable
pub mod Returning
pub mod Utf16
pub mod Written
