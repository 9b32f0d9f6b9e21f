pub mod Holds
pub mod WitnessPlaces
pub mod Reports
pub mod ReportCases
