-- What a guard's process sends, where it came to be by the events of a run: the accusation, whole.
use Rattle.std.specs.Prelude.{◌≡◌, ℕ}
use Rattle.group_defs.specs.Process.{Setting, Process}
use Rattle.node_defs.specs.Nodes.{Answer, Said}
use Rattle.guard_defs.specs.Lines.{accusation, accuse_line}
use Rattle.guard_laws.specs.Guards.{CanAccuse}
use Rattle.guard_service.specs.Accusing.{Accuses, letters_of}

-- where frames can carry what the process keeps, and each member of its view has a key, the letters of its answer are all letters of the
-- accusation
abbrev pub AccusationsAreWhole : Type 0
AccusationsAreWhole = (s : Setting) (now : Process) (q : ℕ) (a : Answer) → CanAccuse s now → Accuses s now q a
    → a ≡ Said (accuse_line now q) (letters_of (accusation now q))
