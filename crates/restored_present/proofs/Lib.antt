mod Judged
mod Phased
mod Current
pub mod Below
