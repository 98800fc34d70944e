pub mod Limits
pub mod Lists
pub mod Known
pub mod Pass
pub mod Front
pub mod Answers
