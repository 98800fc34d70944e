pub mod Rows
pub mod Halves
pub mod EdgeForms
pub mod EdgeLists
