-- The first bytes of a journal, and how long a disk is.
use Rattle.std.proofs.Common.{◌≡◌, ℕ, ◌+◌, ◌≤◌, max, List, [], ◌∷◌, ◌++◌, length, take, drop, Option, Some, None, refl, sym, ap, subst, ◌∙◌, arith, length-append, length-take, length-drop}
use Rattle.std.specs.Option.{IfSome}
use Rattle.std.proofs.Math.Seq.{drop-nil}
use Rattle.std.proofs.lemmas.List.{append-nil}
use Rattle.rp_base.specs.Disks.{Writes, Only}
use Rattle.journal_defs.specs.Journals.{closed_gate}
use Rattle.journal_disk.specs.Disks.{HasRest, HasLength}

pub begun_rest : (seen mid last : Option (List ℕ)) (after : List ℕ → Type 0) (head piece : List ℕ) → piece ≡ head ++ closed_gate ∷ []
    → seen ≡ Some [] → Writes seen mid 0 piece → last ≡ mid → IfSome mid (λ file. Only file after)
    → HasRest last after head [] (length head)
begun_rest seen mid last after head piece is empty writes same only = by mid refl
    (subst (λ (o : Option (List ℕ)). Writes o mid 0 piece) empty writes)
  where
    by : (m : Option (List ℕ)) → mid ≡ m → Writes (Some []) mid 0 piece → HasRest last after head [] (length head)
    by None m w = absurd (subst (λ (o : Option (List ℕ)). Writes (Some []) o 0 piece) m w)
    by (Some new) m w =
        let is_new = subst (λ (o : Option (List ℕ)). Writes (Some []) o 0 piece) m w in
        let written : new ≡ piece = is_new ∙ ap (λ (l : List ℕ). piece ++ l) (drop-nil (0 + length piece)) ∙ append-nil piece in
        record {
          file = new;
          reported = same ∙ m;
          rest = record { behind = []; parts = written ∙ is ∙ ap (λ (l : List ℕ). l ++ closed_gate ∷ []) (sym (append-nil head)) };
          place = ap length (sym (append-nil head));
          only = subst (λ (o : Option (List ℕ)). IfSome o (λ file. Only file after)) m only;
          each = tt;
        }

-- after a write the bytes end where they did, or with the piece
pub length_after : (seen mid : Option (List ℕ)) (at len : ℕ) (piece : List ℕ) → IfSome seen (λ file. at ≤ length file)
    → Writes seen mid at piece → HasLength seen len → HasLength mid (max len (at + length piece))
length_after None None at len piece within w has = tt
length_after None (Some new) at len piece within w has = absurd w
length_after (Some old) None at len piece within w has = absurd w
length_after (Some old) (Some new) at len piece within w has =
    omega (
      arith,
      has,
      within,
      ap length w,
      length-append (take at old ++ piece) (drop (at + length piece) old),
      length-append (take at old) piece,
      length-take at old,
      length-drop (at + length piece) old,
    )

pub length_begun : (seen mid : Option (List ℕ)) (piece : List ℕ) → Writes seen mid 0 piece → HasLength seen 0 → HasLength mid (length piece)
length_begun None None piece w has = tt
length_begun None (Some new) piece w has = absurd w
length_begun (Some old) None piece w has = absurd w
length_begun (Some old) (Some new) piece w has =
    omega (
      arith,
      has,
      ap length w,
      length-append (take 0 old ++ piece) (drop (0 + length piece) old),
      length-append (take 0 old) piece,
      length-take 0 old,
      length-drop (0 + length piece) old,
    )

-- a byte over one that there is
pub length_same : (seen mid : Option (List ℕ)) (at len b : ℕ) → at + 1 ≤ len → Writes seen mid at (b ∷ []) → HasLength seen len
    → HasLength mid len
length_same None None at len b within w has = tt
length_same None (Some new) at len b within w has = absurd w
length_same (Some old) None at len b within w has = absurd w
length_same (Some old) (Some new) at len b within w has =
    omega (
      arith,
      has,
      ap length w,
      length-append (take at old ++ b ∷ []) (drop (at + 1) old),
      length-append (take at old) (b ∷ []),
      length-take at old,
      length-drop (at + 1) old,
    )
