-- What looking at all claims answers, where they are not kept.
use Rattle.std.specs.Prelude.{List, Result, Ok}
use Rattle.frame_codec.specs.Below.{◌>>=◌}
use Rattle.message_defs.specs.declared.FrameFault.{FrameFault}
use Rattle.message_defs.specs.Statements.{Claim}

-- the fault, or that there is none
abbrev pub looked : Result (List Claim) FrameFault → Result (Unit {0}) FrameFault
looked read = read >>= λ _. Ok tt
