pub mod Inputs
pub mod Forms
pub mod FormLaws
pub mod Faults
pub mod Dealings
pub mod RunLaws
