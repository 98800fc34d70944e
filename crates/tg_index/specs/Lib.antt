pub mod IslandEdges
pub mod ByTarget
pub mod HeldInto
