pub mod Keys
pub mod PrintLemmas
