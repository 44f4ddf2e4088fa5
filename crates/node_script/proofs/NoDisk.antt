-- Stops that the disk is not to blame for.
use Rattle.std.proofs.Common.{◌≡◌, inl, inr, ℕ, List, refl}
use Rattle.node_defs.specs.Lines.{Stop, DiskFailed}
use Rattle.node_traces.specs.Outside.{SourceSeen}
use Rattle.node_input.specs.Reads.{AsksNone, EndsAfter, TakesBad, TakesNone}
use Rattle.node_snapping.specs.Stops.{stop as stop_of, Stop as Why, StopsByDisk}
use Rattle.node_script.specs.Ends.{HasStopCause}

no-disk : (count : ℕ) (why : Stop) → (why ≡ DiskFailed → ⊥) → StopsByDisk count count why
no-disk count DiskFailed not = absurd (not refl)
no-disk count _ not = refl

none-by-disk : (most number : ℕ) (k o : SourceSeen) (why : Stop) → TakesNone most number k o why → why ≡ DiskFailed → ⊥
none-by-disk most number k o DiskFailed none is = none
none-by-disk most number k o _ none is = absurd cc

bad-by-disk : (P : List ℕ → Type 0) (most number : ℕ) (k o : SourceSeen) (why : Stop) → TakesBad P most number k o why → why ≡ DiskFailed → ⊥
bad-by-disk P most number k o why bad is = let reported = bad.reported in cc

-- a line that asks for nothing
pub asked-cause : (hosted : List ℕ) (most number count : ℕ) (k o : SourceSeen) (why : Why) → AsksNone most hosted number k o (stop_of why)
    → HasStopCause count count why
asked-cause hosted most number count k o why (inl none) = no-disk count (stop_of why) (none-by-disk most number k o (stop_of why) none)
asked-cause hosted most number count k o why (inr bad) = no-disk count (stop_of why) (bad-by-disk _ most number k o (stop_of why) bad)

-- a line too many
pub ended-cause : (most number count : ℕ) (k o : SourceSeen) (why : Why) → EndsAfter most number k o (stop_of why) → HasStopCause count count why
ended-cause most number count k o why (inl none) = no-disk count (stop_of why) (none-by-disk most number k o (stop_of why) none)
ended-cause most number count k o why (inr bad) = no-disk count (stop_of why) (bad-by-disk _ most number k o (stop_of why) bad)
