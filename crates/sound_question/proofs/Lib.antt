mod Lists
mod Perceived
mod Counted
mod Behind
mod Steps
mod Fronts
