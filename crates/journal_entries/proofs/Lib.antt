pub mod AtGates
