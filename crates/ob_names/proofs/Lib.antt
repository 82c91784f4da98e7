pub mod Running
pub mod ChainLaws
pub mod SetLaws
pub mod KeyLaws
pub mod SlotLaws
