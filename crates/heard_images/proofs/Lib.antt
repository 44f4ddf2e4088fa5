mod Each
mod Heard
mod New
mod Once
mod Said
mod Ranks
mod Walks
