mod Gathered
mod Entries
mod Ends
mod Phases
