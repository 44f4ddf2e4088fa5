mod Keyed
mod Short
mod Begun
mod Statuses
