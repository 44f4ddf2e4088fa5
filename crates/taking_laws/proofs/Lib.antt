mod Ranges
mod Taking
