pub mod DealingLemmas
pub mod RunLaws
pub mod FormLaws
