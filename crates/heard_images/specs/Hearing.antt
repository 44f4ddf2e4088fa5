-- What a list of claims is to a process that hears it.
use Rattle.std.specs.Prelude.{◌≡◌, List, [], ◌∷◌, ◌++◌}
use Rattle.message_defs.specs.Statements.{Claim}
use Rattle.group_defs.specs.Views.{View}
use Rattle.group_defs.specs.Process.{Setting, Pool, Process}
use Rattle.group_defs.specs.Hearing.{Heard, verdict, with_heard}

-- the pool of the view in which these claims are heard
abbrev pub heard_in : View → List Claim → Pool
heard_in v cs = record { view = v; heard = cs }

-- the pool with these claims heard too
abbrev pub with_more : Pool → List Claim → Pool
with_more h more = record { view = h.view; heard = h.heard ++ more }

-- the process hears each of the claims new, one after the other
abbrev pub AreNew : Setting → Process → List Claim → Type 0
AreNew s p [] = Unit {0}
AreNew s p (c ∷ cs) = (verdict s p c ≡ Heard) × AreNew s (with_heard p c) cs
