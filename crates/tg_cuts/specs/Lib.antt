pub mod Cuts
pub mod CutParts
