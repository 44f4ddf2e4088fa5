pub mod Tree
pub mod SigningTree
pub mod Key
