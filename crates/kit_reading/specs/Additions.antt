-- Which lines may be put after those so far.
use Rattle.std.specs.Prelude.{◌≡◌, ℕ, ◌≤◌, ◌<◌, true, length, All, Ok}
use Rattle.signature_defs.specs.Secrets.{Secret, Plain, levels_are_built}
use Rattle.kit_defs.specs.Kits.{KitLine, Key, PlainHost, LmsHost, HssHost}
use Rattle.kit_defs.specs.KitReading.{Draft, listed_key, with_line}
use Rattle.kit_draft.specs.Drafts.{IsDraft}

-- what the line needs of those so far
abbrev pub Fits : Draft → KitLine → Type 0
Fits d (Key process key) = All (λ k. k.0 < process) d.keys
Fits d (PlainHost process total) = length (listed_key d process) ≡ 32
Fits d (LmsHost process code kind id seed) = (length (listed_key d process) ≡ 56) × (5 ≤ code) × (code ≤ 7)
Fits d (HssHost process levels code kind id seed) = (length (listed_key d process) ≡ 60) × (levels_are_built levels code kind ≡ true)
Fits d _ = Unit {0}

-- the line may be put after those so far
pub record CanAdd (n : ℕ) (d : Draft) (said : KitLine) : Type 0 where
  pub fits : Fits d said
  pub keeps : (e : Draft) → with_line n d said ≡ Ok e → IsDraft e

-- the secret is of trees
abbrev pub IsOfTrees : Secret → Type 0
IsOfTrees (Plain key total) = ⊥
IsOfTrees _ = Unit {0}
