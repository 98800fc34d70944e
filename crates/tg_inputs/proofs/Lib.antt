pub mod Parting
pub mod RulesPlayed
pub mod PlayableScripts
pub mod KeptEdges
pub mod MadeReports
