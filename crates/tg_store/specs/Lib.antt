pub mod Running
pub mod Weighing
pub mod Outcomes
pub mod Looks
pub mod Offers
pub mod Attempts
pub mod Agreed
