pub mod ActLemmas
pub mod ScriptLemmas
pub mod OnePlay
pub mod RaceTurns
pub mod RaceHistory
pub mod RaceReports
