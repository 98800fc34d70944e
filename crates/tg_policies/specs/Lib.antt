pub mod Derived
pub mod Policies
pub mod PolicyParts
