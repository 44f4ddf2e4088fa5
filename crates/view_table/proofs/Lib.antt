mod Distinct
mod Following
