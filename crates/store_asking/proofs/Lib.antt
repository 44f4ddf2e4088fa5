mod LineFaults
mod Keys
mod Questions
mod Reported
mod Votes
mod Runs
mod Written
mod Statuses
