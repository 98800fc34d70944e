pub mod Names
pub mod NameFields
pub mod Sets
pub mod Letters
pub mod RightsWords
pub mod Laws
