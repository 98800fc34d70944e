pub mod RefusalOrder
pub mod RunLaws
pub mod RowsOf
pub mod FittingDrafts
