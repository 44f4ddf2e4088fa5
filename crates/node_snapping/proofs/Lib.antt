pub mod Handed
mod Marked
mod Each
mod Read
mod Written
