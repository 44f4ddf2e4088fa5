pub mod StringLaws
pub mod PartLaws
pub mod ChainLaws
pub mod OtsLaws
pub mod TreeLaws
pub mod LmsLaws
pub mod HssLaws
