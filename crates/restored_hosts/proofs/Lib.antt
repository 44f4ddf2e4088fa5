pub mod Below
mod Going
mod Keyed
mod Walked
