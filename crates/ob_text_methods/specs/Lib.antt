pub mod Join
pub mod Parts
pub mod Room
pub mod Search
