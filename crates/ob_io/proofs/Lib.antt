pub mod Feeds
pub mod Known
pub mod Lines
pub mod Pieces
