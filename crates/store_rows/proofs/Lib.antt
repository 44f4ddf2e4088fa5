pub mod EachCommand
pub mod Serving
pub mod Asking
pub mod Joined
pub mod Voted
pub mod Transferred
pub mod Placed
