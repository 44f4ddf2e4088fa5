-- A node whose input and journal are in order.
use Rattle.std.proofs.Common.{◌≡◌, ◌⊎◌, inl, inr, ℕ, List, [], ◌∷◌, ◌++◌, length, get_or, Some, refl, sym, ap, subst, arith, ◌∙◌, append_assoc, length-append}
use Rattle.kit_defs.specs.Kits.{Kit}
use Rattle.journal_defs.specs.declared.Version.{Version}
use Rattle.journal_defs.specs.declared.Version.TheVariants.{One, Two}
use Rattle.journal_defs.specs.Entries.{Entry}
use Rattle.std.specs.List.{flat_map}
use Rattle.journal_defs.specs.Journals.{Header, ReadsAs, header_bytes, record_bytes, up_to_gate}
use Rattle.journal_defs.proofs.Recording.{one_reading}
use Rattle.node_defs.specs.Casts.{cast_of, from_start}
use Rattle.node_defs.specs.Lives.{FitsFrom}
use Rattle.opening_laws.specs.Reading.{BreaksReading}
use Rattle.node_opening.specs.Holding.{HoldsAs, IsOther, header_in}
use Rattle.stop_laws.proofs.Whole.{journal_is_read}
use Rattle.node_loop.specs.Inputs.{IsJournalOf}

-- ---- the header says of which kind a journal is

pub one-kind : (h : Header) (v w : Version) (xs ys : List ℕ) → header_bytes v h ++ xs ≡ header_bytes w h ++ ys → v ≡ w
one-kind h One One xs ys e = refl
one-kind h One Two xs ys e = let differ : 49 ≡ 50 = ap (λ (l : List ℕ). get_or l 3 0) e in absurd (omega (arith, differ))
one-kind h Two One xs ys e = let differ : 50 ≡ 49 = ap (λ (l : List ℕ). get_or l 3 0) e in absurd (omega (arith, differ))
one-kind h Two Two xs ys e = refl

-- what follows the header
after-head : (head file records : List ℕ) (rest : List ℕ) → file ≡ (head ++ records) ++ rest → file ≡ head ++ (records ++ rest)
after-head head file records rest parts = parts ∙ append_assoc head records rest

some-left : (head : List ℕ) (es : List Entry) (gate : ℕ) (unread : List ℕ) → up_to_gate head es ++ gate ∷ unread ≡ [] → ⊥
some-left head es gate unread e = absurd (omega (arith, ap length e, length-append (up_to_gate head es) (gate ∷ unread)))

not-empty : (head : List ℕ) (es : List Entry) → ReadsAs head [] es → ⊥
not-empty head es reads = some-left head es reads.gate reads.unread (sym reads.parts)

same-kind : (kit : Kit) (v w : Version) (file : List ℕ) (es fs : List Entry) → ReadsAs (cast_of kit v).header file es
    → ReadsAs (cast_of kit w).header file fs → v ≡ w
same-kind kit v w file es fs a b =
    one-kind (header_in kit) v w _ _ (sym (after-head (cast_of kit v).header file _ _ a.parts) ∙ after-head (cast_of kit w).header file _ _ b.parts)

-- ---- what the disk held

module _ (kit : Kit) where
  same-entries : (j : Version) (v : Version) (file : List ℕ) (es fs : List Entry) → j ≡ v → ReadsAs (cast_of kit j).header file fs
      → FitsFrom (cast_of kit j) (from_start (cast_of kit j)).from fs → ReadsAs (cast_of kit v).header file es
      → FitsFrom (cast_of kit v) (from_start (cast_of kit v)).from es
  same-entries j v file es fs same reads fits read =
      let reads' = subst (λ (w : Version). ReadsAs (cast_of kit w).header file fs) same reads in
      let fits' = subst (λ (w : Version). FitsFrom (cast_of kit w) (from_start (cast_of kit w)).from fs) same fits in
      subst (FitsFrom (cast_of kit v) (from_start (cast_of kit v)).from) (one_reading (cast_of kit v).header file fs es reads' read) fits'

  -- the entries that the disk held fit
  pub fits-there : (file : List ℕ) (v : Version) (es : List Entry) → (file ≡ []) ⊎ IsJournalOf kit file → HoldsAs kit v es (Some file)
      → FitsFrom (cast_of kit v) (from_start (cast_of kit v)).from es
  fits-there file v es order (inl new) = subst (FitsFrom (cast_of kit v) (from_start (cast_of kit v)).from) (sym new.none) tt
  fits-there file v es (inl empty) (inr read) =
      absurd (not-empty (cast_of kit v).header es (subst (λ (b : List ℕ). ReadsAs (cast_of kit v).header b es) empty read))
  fits-there file v es (inr journal) (inr read) =
      same-entries journal.version v file es journal.entries
      (same-kind kit journal.version v file journal.entries es journal.reads read) journal.reads journal.fits read

  -- and its reading breaks off nowhere
  pub no-place : (go : ℕ) (file : List ℕ) (v : Version) (es : List Entry) (place : ℕ) → (file ≡ []) ⊎ IsJournalOf kit file
      → BreaksReading (cast_of kit v) (from_start (cast_of kit v)) go (cast_of kit v).header file es place → ⊥
  no-place go file v es place (inl empty) breaks =
      let s = breaks.stands in
      let none : up_to_gate (cast_of kit v).header es ++ s.rest ≡ [] = sym s.parts ∙ empty in
      absurd (omega (arith, ap length none, length-append (up_to_gate (cast_of kit v).header es) s.rest, s.goes_on))
  no-place go file v es place (inr journal) breaks =
      let s = breaks.stands in
      let same : journal.version ≡ v = one-kind (header_in kit) journal.version v _ _
      (sym (after-head (cast_of kit journal.version).header file _ _ journal.reads.parts) ∙ after-head (cast_of kit v).header file _ _ s.parts) in
      let reads = subst (λ (w : Version). ReadsAs (cast_of kit w).header file journal.entries) same journal.reads in
      let fits = subst (λ (w : Version). FitsFrom (cast_of kit w) (from_start (cast_of kit w)).from journal.entries) same journal.fits in
      journal_is_read (cast_of kit v) (from_start (cast_of kit v)) go (cast_of kit v).header file es journal.entries place reads fits breaks

  pub not-other : (file : List ℕ) → (file ≡ []) ⊎ IsJournalOf kit file → IsOther kit file → ⊥
  not-other file (inl empty) other = absurd (other.some empty)
  not-other file (inr journal) other =
      let r = journal.reads in
      absurd (other.neither journal.version (record {
        rest = flat_map record_bytes journal.entries ++ r.gate ∷ r.unread;
        parts = after-head (cast_of kit journal.version).header file _ _ r.parts;
        goes_on = omega (arith, length-append (flat_map record_bytes journal.entries) (r.gate ∷ r.unread));
      }))
