-- The verdict on a claim, in the two parts in which it is found, and what is heard after it.
use Rattle.std.specs.Prelude.{Bool, not, nat_lt, List, [], ◌∷◌, is_some, if◌then◌else◌}
use Rattle.message_defs.specs.Statements.{Claim, slot_of, view_of}
use Rattle.group_defs.specs.Process.{Setting, Pool, Process}
use Rattle.group_defs.specs.Certified.{heard_on, says}
use Rattle.group_defs.specs.Hearing as defs
use Rattle.own_place.specs.Claims.{with_heard}
use Rattle.claim_pool.specs.declared.verdict.Verdict.{Verdict}
use Rattle.claim_pool.specs.declared.verdict.Verdict.TheVariants.{Old, Early, Stranger, OutOfWindow, Known, Unsigned, Conflict, Heard}

-- the verdict, as the definitions have it
abbrev pub verdict : Verdict → defs.Verdict
verdict Old = defs.Old
verdict Early = defs.Early
verdict Stranger = defs.Stranger
verdict OutOfWindow = defs.OutOfWindow
verdict Known = defs.Known
verdict Unsigned = defs.Unsigned
verdict Conflict = defs.Conflict
verdict Heard = defs.Heard

-- what is heard after the verdict: one claim more, or what was
abbrev pub after : defs.Verdict → Pool → Claim → Pool
after defs.Heard h c = with_heard h c
after _ h c = h

-- an own claim is heard at once, unless one of its signer for that slot is heard
abbrev pub with_own : Pool → Claim → Pool
with_own h c = if is_some (heard_on h c.signer (slot_of c.statement)) then h else with_heard h c

-- the first four tests, which look at no heard claim
abbrev pub early_tests : Process → Claim → List (Bool × defs.Verdict)
early_tests p c =
    (nat_lt (view_of c.statement) p.pool.view.number, defs.Old)
    ∷ (nat_lt p.pool.view.number (view_of c.statement), defs.Early)
    ∷ (defs.is_strange p c, defs.Stranger)
    ∷ (defs.is_beyond p c.signer c.statement, defs.OutOfWindow)
    ∷ []

-- and the other three, which look at nothing but the heard claims and the signature
abbrev pub late_tests : Setting → Pool → Claim → List (Bool × defs.Verdict)
late_tests s h c =
    (says h c.statement c.signer, defs.Known)
    ∷ (not (defs.is_valid s c), defs.Unsigned)
    ∷ (is_some (heard_on h c.signer (slot_of c.statement)), defs.Conflict)
    ∷ []
