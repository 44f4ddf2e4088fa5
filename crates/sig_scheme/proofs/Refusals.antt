-- Which keys of trees are refused.
use Rattle.std.proofs.Common.{◌≡◌, ℕ, ◌≤◌, ◌&&◌, Bool, true, not, [], ◌∷◌, None, refl}
use Rattle.std.proofs.lemmas.Bool.{le-leb}
use Rattle.byte_defs.specs.Choices.{first_that_holds}
use Rattle.signature_defs.specs.declared.OtsType.{OtsType}
use Rattle.signature_defs.specs.Hss.{height_in_range, length_in_range, levels_in_range}
use Rattle.signature_defs.specs.Secrets.{levels_are_built}
use Rattle.lms_hss.specs.Refusals.{refusal}
use Rattle.lms_hss.specs.declared.faults.KeyFault.TheVariants.{Levels, TooTall, TooLong}
use Rattle.sig_scheme.specs.Keys.{tree_refusal}

pub tree_not_refused : (code : ℕ) → 5 ≤ code → code ≤ 7 → tree_refusal code ≡ None
tree_not_refused code least most = rw (le-leb 5 code least, le-leb code 7 most) refl

passes : (a b c : Bool) → (a && (b && c)) ≡ true → first_that_holds ((not a, Levels) ∷ (not b, TooTall) ∷ (not c, TooLong) ∷ []) ≡ None
passes true true true e = refl
passes _ _ _ e = absurd cc

fails : (a b c : Bool) → first_that_holds ((not a, Levels) ∷ (not b, TooTall) ∷ (not c, TooLong) ∷ []) ≡ None → (a && (b && c)) ≡ true
fails true true true e = refl
fails _ _ _ e = absurd cc

pub levels_not_refused : (levels code : ℕ) (kind : OtsType) → levels_are_built levels code kind ≡ true → refusal levels code kind ≡ None
levels_not_refused levels code kind e = passes (levels_in_range levels) (height_in_range levels code) (length_in_range levels kind) e

pub not_refused_built : (levels code : ℕ) (kind : OtsType) → refusal levels code kind ≡ None → levels_are_built levels code kind ≡ true
not_refused_built levels code kind e = fails (levels_in_range levels) (height_in_range levels code) (length_in_range levels kind) e
