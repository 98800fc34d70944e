pub mod RowsOf
pub mod RefusalOrder
pub mod Laws
