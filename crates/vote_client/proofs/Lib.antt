mod Leasts
mod Mapped
mod Offering
