pub mod NumberLemmas
pub mod PowerLemmas
pub mod SumLemmas
