-- That a header is in its ranges has at most one proof, so it may be got of a reader of which only some input is known.
use Rattle.std.proofs.Common.{ℕ, ◌+◌, List, [], ◌∷◌, Option, Some, None}
use Rattle.std.specs.Prelude.{IfSome}
use Rattle.std.proofs.Props.{props}
use Rattle.replay_defs.specs.declared.Scheme.{Scheme}
use Rattle.replay_defs.specs.declared.Scheme.TheVariants as schemes
use Rattle.replay_defs.specs.Keys.{Key, Plain, Lms, Hss, IsKey}
use Rattle.replay_defs.specs.Schedules.{Listed, Header, AreListed, IsHeader}
use Rattle.replay_run.specs.declared.run.Run.{Run}
use Rattle.replay_run.specs.declared.run.Run.TheVariants.{Waits, Runs, Stops}
use Rattle.replay_run.specs.Running.{CanCount}

key-once : (scheme : Scheme) (k : Key) → IsProp (IsKey scheme k)
key-once schemes.Plain (Plain key total) = hlevel props
key-once schemes.Plain (Lms code kind id seed) = hlevel props
key-once schemes.Plain (Hss levels code kind id seed) = hlevel props
key-once schemes.Lms (Plain key total) = hlevel props
key-once schemes.Lms (Lms code kind id seed) = hlevel props
key-once schemes.Lms (Hss levels code kind id seed) = hlevel props
key-once schemes.Hss (Plain key total) = hlevel props
key-once schemes.Hss (Lms code kind id seed) = hlevel props
key-once schemes.Hss (Hss levels code kind id seed) = hlevel props

listed-once : (scheme : Scheme) (least : ℕ) (ls : List Listed) → IsProp (AreListed scheme least ls)
listed-once scheme least [] = hlevel props
listed-once scheme least (l ∷ ls) = hlevel (props, key-once scheme l.key, listed-once scheme (l.process + 1) ls)

header-once : (h : Header) → IsProp (IsHeader h)
header-once h = hlevel (props, listed-once)

pub header_if-once : (o : Option Header) → IsProp (IfSome o IsHeader)
header_if-once None = hlevel props
header_if-once (Some h) = header-once h

pub can_count-once : (run : Run) → IsProp (CanCount run)
can_count-once (Runs w) = hlevel props
can_count-once (Stops f) = hlevel props
can_count-once Waits = hlevel props
