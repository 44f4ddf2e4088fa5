pub mod AtDisk
pub mod OnReported
