pub mod Cuts
pub mod LineFeeds
pub mod Digits
