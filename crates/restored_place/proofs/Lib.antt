mod Counted
mod Mapped
mod Gathered
mod Slots
mod Ordered
mod Standing
