-- A run in code and why it stops, passed on to those who ask about it.
pub use Rattle.replay_world.specs.declared.world.World.{World}
pub use Rattle.replay_world.specs.declared.fault.WorldFault.{WorldFault}
