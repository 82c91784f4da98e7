pub mod CommaLists
pub mod ParameterNames
