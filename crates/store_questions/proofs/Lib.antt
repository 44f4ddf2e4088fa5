mod LineWords
mod Written
mod Gathering
mod Texts
mod Runs
mod Statuses
