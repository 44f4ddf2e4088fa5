pub mod Inputs
pub mod Sources
pub mod Players
pub mod Audits
pub mod Findings
pub mod Evidence
pub mod Laws
