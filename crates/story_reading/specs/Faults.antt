-- Faults of a text, as plain data.
use Rattle.std.specs.Prelude.{Option, Some, None}
use Rattle.story_defs.specs.declared.StoryFault as plain
use Rattle.story_reading.specs.declared.faults.AssembleFault.{AssembleFault}
use Rattle.story_reading.specs.declared.faults.AssembleFault.TheVariants.{Story, NoMemory}

-- the fault of the text; None where memory ran out
abbrev pub fault_of : AssembleFault → Option plain.StoryFault
fault_of (Story fault) = Some fault
fault_of NoMemory = None
