-- A view more that is kept, and its commit certificate.
use Rattle.std.specs.Prelude.{◌≡◌, ℕ, ◌+◌, Bool, true, ◌&&◌, ◌==◌, List, [], ◌∷◌, ◌++◌, Option, Some, option_and_then, slice_get}
use Rattle.byte_defs.specs.Choices.{is_some_and}
use Rattle.byte_defs.specs.Equality.{is_yes, bytes_discrete}
use Rattle.message_defs.specs.Statements.{Claim, Ready}
use Rattle.message_defs.specs.Updates.{Value}
use Rattle.message_defs.specs.Packing.{Signed}
use Rattle.group_defs.specs.Process.{Pool}
use Rattle.group_defs.specs.Certified.{certificate}
use Rattle.reliable_mcast.specs.Archives.{Archived}
use Rattle.reliable_mcast.specs.Certificates.{all_signed}

-- the view of this pool is kept too, as left by the Ready of this rank and value
pub record KeepsOne (old new : Archived) (h : Pool) (rank : ℕ) (value : Value) : Type 0 where
  pub previous : new.previous ≡ Some h
  pub commits : new.commits ≡ old.commits ++ all_signed (certificate h (Ready h.view.number rank value)) ∷ []

-- the claim's signer and signature are those of the i-th claim of the commit certificate of view x
abbrev pub is_kept_at : List (List Signed) → ℕ → ℕ → Claim → Bool
is_kept_at commits x i c = is_some_and (option_and_then (λ cs. slice_get cs i) (slice_get commits x))
    (λ d. d.signer == c.signer && is_yes (bytes_discrete d.signature c.signature))

-- and so for each of these, from the i-th on
abbrev pub are_kept_at : List (List Signed) → ℕ → ℕ → List Claim → Bool
are_kept_at commits x i [] = true
are_kept_at commits x i (c ∷ cs) = is_kept_at commits x i c && are_kept_at commits x (i + 1) cs
