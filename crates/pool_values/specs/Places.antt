-- What is kept beside the heard claims.
use Rattle.std.specs.Prelude.{◌≡◌, ℕ, ◌+◌, ◌≤◌, ◌==◌, Bool, false, max, List, length, take, Option, Some, None, slice_get}
use Rattle.message_defs.specs.Statements.{Batch, Statement, Place}
use Rattle.group_defs.specs.Process.{Pool}
use Rattle.group_defs.specs.Certified.{place_at, placed, fixed_length}
use Rattle.placed_batches.specs.Rows.{Prefix}
use Rattle.pool_values.specs.declared.updates.UpdateSet.{UpdateSet}
use Rattle.pool_values.specs.declared.places.Reached.{Reached}
use Rattle.pool_values.specs.Updates.{AreNotified}
use Rattle.pool_values.specs.Ends.{AreInitsEnds}

-- the places that are certified from the first on, in the pool's view
abbrev pub placed_in : Pool → Prefix
placed_in h = record { view = h.view; batches = placed h }

-- they are these, places are kept up to `kept_to`, these updates are notified, and `ends` is up to where each process's Inits are heard
pub record AreCounted (h : Pool) (prefix : Prefix) (kept_to : ℕ) (notified : UpdateSet) (ends : List ℕ) : Type 0 where
  pub places : prefix ≡ placed_in h
  pub fixed : kept_to ≡ fixed_length h
  pub updates : AreNotified h notified
  pub inits : AreInitsEnds h ends

-- so it is now, of h; and so it was at the mark, of g, with the first `m.placed` places certified
pub record AreMarkedCounted (h g : Pool) (prefix : Prefix) (kept_to : ℕ) (notified : UpdateSet) (ends : List ℕ) (m : Reached) : Type 0 where
  pub here : AreCounted h prefix kept_to notified ends
  pub there : AreCounted g (record prefix { batches = take m.placed prefix.batches }) m.fixed m.notified m.ends
  pub few : m.placed ≤ length prefix.batches

-- each of these batches is certified at its place, and there are 1,024 at most
pub record ArePlaced (h : Pool) (batches : List Batch) : Type 0 where
  pub each : (k : ℕ) (b : Batch) → slice_get batches k ≡ Some b → place_at h k ≡ Some b
  pub few : length batches ≤ 1024

-- the statement is a Place of this place
abbrev pub is_place_of : ℕ → Statement → Bool
is_place_of n (Place x k b) = k == n
is_place_of n _ = false

-- the greater of what it was and the place + 1, where there is one
abbrev pub after_one : ℕ → Option ℕ → ℕ
after_one most None = most
after_one most (Some k) = max most (k + 1)
