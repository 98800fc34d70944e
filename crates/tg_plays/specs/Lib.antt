pub mod Runs
pub mod RunParts
pub mod Races
pub mod RaceParts
