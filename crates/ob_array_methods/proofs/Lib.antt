pub mod AppendLemmas
pub mod LoopLemmas
pub mod PairLemmas
pub mod ResultLemmas
pub mod SpreadLemmas
