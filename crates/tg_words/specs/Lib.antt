pub mod Limits
pub mod Lines
pub mod Reading
pub mod Words
pub mod Versions
pub mod Spelling
