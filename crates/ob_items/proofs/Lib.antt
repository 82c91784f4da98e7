pub mod ColumnLemmas
pub mod DecimalLemmas
pub mod FewLemmas
pub mod IndexLemmas
pub mod ListLemmas
pub mod LiteralLemmas
mod NumberRows
pub mod UnitsMapLemmas
