mod Mapped
mod Offering
