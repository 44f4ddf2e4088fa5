mod Kits
mod Lines
mod Keys
mod FirstViews
mod Replies
mod Asked
mod Answers
