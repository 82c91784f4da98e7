pub mod ErrorLemmas
pub mod JoinLemmas
pub mod PartLemmas
pub mod PieceLemmas
pub mod PlaceLemmas
pub mod SearchLemmas
pub mod UnitLemmas
