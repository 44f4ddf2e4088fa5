-- The members of a view have keys.
use Rattle.std.proofs.Common.{◌≡◌, ℕ, Bool, List, map, None, Some, ap, ◌∙◌}
use Rattle.std.specs.Prelude.{if◌then◌else◌}
use Rattle.std.specs.List.{list_all}
use Rattle.byte_defs.specs.Members.{has}
use Rattle.group_defs.specs.Views.{View}
use Rattle.group_defs.specs.Process.{Setting}
use Rattle.proof_defs.specs.Starts.{if_keyed}

pub kept : (s : Setting) (v : View) (roster : List (ℕ × List ℕ)) (keys members : List ℕ) (b : Bool) → roster ≡ s.roster
    → keys ≡ map (λ k. k.0) roster → members ≡ v.members → b ≡ list_all (has keys) members → (if b then Some v else None) ≡ if_keyed s (Some v)
kept s v roster keys members b r k m e =
    ap (λ t. if t then Some v else None) (e ∙ (λ i. list_all (has ((k ∙ ap (map (λ (x : ℕ × List ℕ). x.0)) r) i)) (m i)))
