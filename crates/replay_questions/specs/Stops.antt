-- Why a run stops, each passed on to those who ask about it.
pub use Rattle.replay_world.specs.declared.fault.WorldFault.TheVariants.{NoSuchFrame, TooMuchSent, NoMemory}
