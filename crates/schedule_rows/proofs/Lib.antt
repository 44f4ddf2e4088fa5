pub mod Refused
pub mod Reports
