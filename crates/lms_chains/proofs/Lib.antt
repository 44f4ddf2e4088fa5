mod LaneBlock
mod ChainSteps
mod Placed
