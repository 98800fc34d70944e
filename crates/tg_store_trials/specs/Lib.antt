pub mod Chairs
