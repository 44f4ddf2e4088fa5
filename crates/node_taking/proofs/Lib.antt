pub mod Machine
pub mod Lines
pub mod Still
pub mod Kept
pub mod Ends
pub mod Reported
pub mod Answered
pub mod Stepped
pub mod Away
pub mod Whole
pub mod Lent
pub mod Joined
pub mod Leads
pub mod Expelled
pub mod Handed
mod Counted
