mod Orders
mod ReadFaults
mod Services
mod Reported
