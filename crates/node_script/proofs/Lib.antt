mod Answered
mod Joined
mod Carried
mod Ending
mod NoDisk
mod Asked
