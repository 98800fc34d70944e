pub mod Order
pub mod Rows
pub mod Places
pub mod EdgeLists
pub mod RisingNames
pub mod LabelsToAll
