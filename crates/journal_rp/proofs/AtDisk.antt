-- What was read of a record on a disk, and what so stands at its gate.
use Rattle.std.proofs.Common.{◌≡◌, ◌≢◌, ℕ, ◌+◌, ◌<◌, ◌≤◌, ◌^◌, List, [], ◌∷◌, ◌++◌, length, take, drop, Ok, Err, refl, sym, ap, ◌∙◌, arith, append_assoc, length-append, length-drop}
use Rattle.std.specs.Int.{w32}
use Rattle.std.proofs.lemmas.List.{take_at, drop-drop}
use Rattle.byte_defs.specs.Fields.{four_bytes, number_at}
use Rattle.byte_defs.proofs.Fields.{long_again, ok_is}
use Rattle.journal_defs.specs.Entries.{Entry, IsEntry, Reading, entry_of, entry_bytes}
use Rattle.journal_defs.specs.Journals.{open_gate, behind_gate, record_bytes, IsClosedAt, HasEntryAt, IsBrokenAt}
use Rattle.journal_defs.proofs.Entering.{entry_is_read, entry_len}
use Rattle.journal_disk.specs.Disks.{BeginsAt}
use Rattle.journal_rp.specs.Gates.{HasLengthAt}

abbrev long : ℕ × List ℕ → Reading (ℕ × List ℕ)
long x = Ok x

abbrev one : Entry → Reading Entry
one e = Ok e

abbrev none : Reading Entry
none = Err tt

-- two lengths that are spelled at one place are one
same_length : (n k : ℕ) (r s : List ℕ) → n < 4294967296 → k < 4294967296 → four_bytes n ++ r ≡ four_bytes k ++ s → (n ≡ k) × (r ≡ s)
same_length n k r s n_fits k_fits e =
    let both : long (n, r) ≡ long (k, s) = sym (long_again tt n r n_fits) ∙ ap
    (λ (l : List ℕ). number_at tt w32 l) e ∙ long_again tt k s k_fits in
    let pair : (n, r) ≡ (k, s) = ok_is (n, r) (k, s) both in
    (ap (λ (x : ℕ × List ℕ). x.0) pair, ap (λ (x : ℕ × List ℕ). x.1) pair)

-- a record has the gate, the length and the entry's bytes
pub record_long : (e : Entry) (bytes : List ℕ) (n : ℕ) → bytes ≡ entry_bytes e → length bytes ≡ n → 5 + n ≡ length (record_bytes e)
unfolding behind_gate
record_long e bytes n is long =
    omega (arith, ap length is, long, length-append (four_bytes (length (entry_bytes e))) (entry_bytes e))

module _ (file : List ℕ) (gate : ℕ) where
  pub closed_at : (b : ℕ) → b ≢ open_gate → BeginsAt file gate (b ∷ []) → IsClosedAt file gate
  closed_at b shut there = record { gate = b; behind = there.0; parts = there.1; closed = shut }

  behind_open : (rest : List ℕ) → drop gate file ≡ open_gate ∷ rest → drop (gate + 1) file ≡ rest
  behind_open rest is = sym (drop-drop 1 gate file) ∙ ap (λ (l : List ℕ). drop 1 l) is

  how_long : (rest : List ℕ) → drop gate file ≡ open_gate ∷ rest → length file ≡ gate + 1 + length rest
  how_long rest is = omega (arith, length-drop gate file, ap length is)

  pub room_at : (n : ℕ) → HasLengthAt file gate n → gate + 5 + n ≤ length file
  room_at n h = omega (arith, how_long (four_bytes n ++ h.rest) h.parts, h.room, length-append (four_bytes n) h.rest)

  -- an entry behind the gate takes its length, and the next gate a byte
  record_len : (e : Entry) (next : ℕ) (more rest : List ℕ) → rest ≡ behind_gate e ++ next ∷ more → 5 + length (entry_bytes e) ≤ length rest
  unfolding behind_gate
  record_len e next more rest is = omega (
    arith,
    ap length is,
    length-append (behind_gate e) (next ∷ more),
    length-append (four_bytes (length (entry_bytes e))) (entry_bytes e),
  )

  -- there is no room for a length and a gate
  pub short_at : BeginsAt file gate (open_gate ∷ []) → length file ≤ gate + 5 → IsBrokenAt file gate
  short_at there short = record {
    behind = there.0;
    parts = there.1;
    no_entry = λ e next more is spelled. absurd (omega (arith, how_long there.0 there.1, record_len e next more there.0 spelled));
  }

  opens : (n : ℕ) → BeginsAt file gate (open_gate ∷ []) → (l : BeginsAt file (gate + 1) (four_bytes n))
      → drop gate file ≡ open_gate ∷ (four_bytes n ++ l.0)
  opens n there l = there.1 ∙ ap (λ (r : List ℕ). open_gate ∷ r) (sym (behind_open there.0 there.1) ∙ l.1)

  pub length_at : (n : ℕ) → BeginsAt file gate (open_gate ∷ []) → BeginsAt file (gate + 1) (four_bytes n) → n < 2 ^ 32
      → gate + 6 + n ≤ length file → HasLengthAt file gate n
  length_at n there l fits room = record {
    rest = l.0;
    parts = opens n there l;
    room = omega (arith, how_long (four_bytes n ++ l.0) (opens n there l), length-append (four_bytes n) l.0);
    below = fits;
  }

  spelled_length : (e : Entry) (next n : ℕ) (more rest : List ℕ) → n < 4294967296 → IsEntry e
      → four_bytes n ++ rest ≡ behind_gate e ++ next ∷ more → (n ≡ length (entry_bytes e)) × (rest ≡ entry_bytes e ++ next ∷ more)
  unfolding behind_gate
  spelled_length e next n more rest fits is spelled =
      same_length n (length (entry_bytes e)) rest (entry_bytes e ++ next ∷ more) fits (entry_len e is)
      (spelled ∙ append_assoc (four_bytes (length (entry_bytes e))) (entry_bytes e) (next ∷ more))

  -- there is a length, and no room for so many bytes and a gate
  pub long_at : (n : ℕ) → BeginsAt file gate (open_gate ∷ []) → BeginsAt file (gate + 1) (four_bytes n) → n < 2 ^ 32
      → length file ≤ gate + 5 + n → IsBrokenAt file gate
  long_at n there l fits short = record {
    behind = four_bytes n ++ l.0;
    parts = opens n there l;
    no_entry = λ e next more is spelled.
        let s = spelled_length e next n more l.0 fits is spelled in
        absurd (omega (
          arith,
          how_long (four_bytes n ++ l.0) (opens n there l),
          length-append (four_bytes n) l.0,
          s.0,
          ap length s.1,
          length-append (entry_bytes e) (next ∷ more),
        ));
  }

  module _ (n : ℕ) (items : List ℕ) (h : HasLengthAt file gate n) (there : BeginsAt file (gate + 5) items) (size : length items ≡ n) where
    behind_length : h.rest ≡ items ++ there.0
    behind_length = sym (sym (drop-drop 5 gate file) ∙ ap (λ (l : List ℕ). drop 5 l) h.parts) ∙ there.1

    pub entry_at : (e : Entry) → items ≡ entry_bytes e → IsEntry e → HasEntryAt file gate e (gate + (5 + n))
    unfolding behind_gate
    entry_at e spelled is = record {
      more = there.0;
      parts = h.parts ∙ ap (λ (l : List ℕ). open_gate ∷ (four_bytes n ++ l))
          (behind_length ∙ ap (λ (l : List ℕ). l ++ there.0) spelled) ∙ ap
          (λ (k : ℕ). open_gate ∷ (four_bytes k ++ (entry_bytes e ++ there.0))) (sym size ∙ ap length spelled)
          ∙ ap (λ (l : List ℕ). open_gate ∷ l) (sym (append_assoc (four_bytes (length (entry_bytes e))) (entry_bytes e) there.0));
      goes_on = omega (arith, h.room, ap length behind_length, length-append items there.0, size);
      next_is = omega (arith, size, ap length spelled, length-append (four_bytes (length (entry_bytes e))) (entry_bytes e));
      entry = is;
    }

    -- what stands there is no entry
    pub unread_at : entry_of items ≡ none → IsBrokenAt file gate
    unread_at fails = record {
      behind = four_bytes n ++ h.rest;
      parts = h.parts;
      no_entry = λ e next more is spelled.
          let s = spelled_length e next n more h.rest h.below is spelled in
          differ e (sym fails ∙ ap entry_of (same_items e next more (sym behind_length ∙ s.1) (size ∙ s.0)) ∙ entry_is_read e is);
    }
      where
        same_items : (e : Entry) (next : ℕ) (more : List ℕ) → items ++ there.0 ≡ entry_bytes e ++ next ∷ more
            → length items ≡ length (entry_bytes e) → items ≡ entry_bytes e
        same_items e next more both len =
            sym (take_at items there.0 (length items) refl) ∙ ap (λ (l : List ℕ). take (length items) l) both ∙ take_at (entry_bytes e)
            (next ∷ more) (length items) (sym len)

        differ : (e : Entry) → none ≡ one e → ⊥
        differ e h = cc
