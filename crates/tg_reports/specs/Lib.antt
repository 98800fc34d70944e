pub mod Reports
pub mod ReportParts
pub mod ReportLaws
