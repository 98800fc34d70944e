pub mod AcceptedCuts
pub mod OneCut
