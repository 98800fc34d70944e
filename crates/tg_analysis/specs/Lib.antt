pub mod Holdings
pub mod Gathered
pub mod Tables
pub mod Reaching
pub mod Cases
