pub mod Sharing
pub mod Linked
pub mod Numbering
pub mod Positions
pub mod DisjointSets
pub mod JoinedSets
pub mod Moves
pub mod Questions
