mod Walks
mod Lists
mod Read
mod Parts
mod Phases
mod Putting
