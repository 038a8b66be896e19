pub mod Reports
pub mod Schedule
