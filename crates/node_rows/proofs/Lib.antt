pub mod TwoProcesses
pub mod FailingCalls
pub mod TurnStopped
pub mod Begun
pub mod ScriptLines
