-- Bytes that are taken as they come.
use Rattle.std.proofs.Common.{◌≡◌, ℕ, ◌<◌, ◌==◌, Bool, true, false, List, [], ◌∷◌, ◌++◌, length, take, drop, Option, Result, Ok, Err, refl, sym, ap, ◌∙◌, append_assoc, append-nil, arith, take-append-drop}
use Rattle.std.specs.Prelude.{IfOk}
use Rattle.std.proofs.lemmas.Bool.{eqb-true}
use Rattle.std.specs.Io.KnownBytes.{IsAtEnd}
use Rattle.std.proofs.KnownBytes.{Consumes-nil, Consumes-trans}
use Rattle.line_input.specs.Taking.{ReadOn}

-- nothing was read yet
pub none_read : (before : Option (List ℕ)) (ahead : List ℕ) → ReadOn before before ahead ahead
none_read before ahead = ([], Consumes-nil before, sym (append-nil ahead))

-- more is ahead, behind what was taken
pub reads_further : (before mid now : Option (List ℕ)) (ahead taken left more : List ℕ) → ReadOn before mid ahead (taken ++ left)
    → ReadOn mid now left more → ReadOn before now ahead (taken ++ more)
reads_further before mid now ahead taken left more first second = (
  first.0 ++ second.0,
  Consumes-trans before mid now first.0 second.0 first.1 second.1,
  ap (λ (t : List ℕ). taken ++ t) second.2 ∙ sym (append_assoc taken left second.0) ∙ ap (λ (t : List ℕ). t ++ second.0) first.2
      ∙ append_assoc ahead first.0 second.0,
)

-- the first of what is ahead is taken too
pub takes_more : (before now : Option (List ℕ)) (ahead taken left new rest : List ℕ) (most : ℕ) → ReadOn before now ahead (taken ++ left)
    → new ≡ taken ++ take most left → rest ≡ drop most left → ReadOn before now ahead (new ++ rest)
takes_more before now ahead taken left new rest most read is behind = (
  read.0,
  read.1,
  (λ i. is i ++ behind i) ∙ append_assoc taken (take most left) (drop most left)
      ∙ ap (λ (t : List ℕ). taken ++ t) (take-append-drop most left) ∙ read.2,
)

no_bytes : (bytes : List ℕ) → length bytes ≡ 0 → bytes ≡ []
no_bytes [] e = refl
no_bytes (b ∷ bytes) e = absurd (omega (arith, e))

-- a piece was read where nothing was ahead
pub piece_or_end : {E : Type 0} (old new : List ℕ) (now : Option (List ℕ)) (empty : Bool) (r : Result Bool E) → empty ≡ (length old == 0)
    → empty ≡ true → IfOk r (λ some. (some ≡ true → length old < length new) × (some ≡ false → (new ≡ old) × IsAtEnd now))
    → IfOk r (λ some. (some ≡ true → 0 < length new) × (some ≡ false → (new ≡ []) × IsAtEnd now))
piece_or_end old new now empty (Ok some) is holds h = (
  λ t. omega (arith, h.0 t),
  λ f. ((h.1 f).0 ∙ no_bytes old (eqb-true (length old) 0 (sym is ∙ holds)), (h.1 f).1),
)
piece_or_end old new now empty (Err e) is holds h = tt
