pub mod Flooding
pub mod Spreading
pub mod Derivations
pub mod SetDerivations
pub mod Searches
pub mod Holders
