pub mod SharedLaws
pub mod TreeLaws
pub mod LevelLaws
pub mod SignatureLaws
