pub mod TextExamples
pub mod Forms
pub mod FaultKinds
pub mod PolicyKinds
pub mod CanonicalLaws
