-- The entries of a journal, told one after another.
use Rattle.std.proofs.Common.{◌≡◌, ℕ, ◌+◌, ◌-◌, ◌<◌, ◌≤◌, List, [], ◌∷◌, ◌++◌, length, take, drop, refl, sym, ap, ◌∙◌, append_assoc, arith, length-append, length-drop}
use Rattle.std.specs.List.{flat_map}
use Rattle.std.proofs.lemmas.Grind.{flat_map-append}
use Rattle.std.proofs.lemmas.List.{append-nil, length-take-le, take-append-drop}
use Rattle.journal_defs.specs.Entries.{Entry}
use Rattle.journal_defs.specs.Journals.{HasEntryAt, LieBefore, up_to_gate}
use Rattle.journal_defs.proofs.Gates.{entry_goes_on}
use Rattle.interop_node.specs.Journals.{entry_words, header_of}

abbrev reported : List Entry → List ℕ
reported es = flat_map entry_words es

-- no entry stands before the first gate, and none was told
pub starts : (bytes out : List ℕ) → 60 < length bytes
    → (es : List Entry) × LieBefore (header_of bytes) bytes es 60 × (out ≡ out ++ reported es)
starts bytes out long = (
  [],
  record {
    rest = drop 60 bytes;
    parts = sym (take-append-drop 60 bytes) ∙ ap (λ (l : List ℕ). l ++ drop 60 bytes) (sym (append-nil (header_of bytes)));
    goes_on = omega (arith, long, length-drop 60 bytes);
    where_it_is = sym (ap length (append-nil (header_of bytes)) ∙ length-take-le 60 bytes (omega (arith, long)));
    each = tt;
  },
  sym (append-nil out),
)

-- entries stand before a place that has a byte
pub within : (head bytes : List ℕ) (es : List Entry) (place : ℕ) → LieBefore head bytes es place → place < length bytes
within head bytes es place s = omega (arith, s.where_it_is, s.goes_on, ap length s.parts, length-append (up_to_gate head es) s.rest)

-- the next gate stands behind this one
pub goes_less : (bytes : List ℕ) (place : ℕ) (e : Entry) (next : ℕ) → place < length bytes → HasEntryAt bytes place e next
    → length bytes - next < length bytes - place
goes_less bytes place e next less h = omega (arith, less, h.next_is)

module _ (head bytes : List ℕ) (place next : ℕ) (e : Entry) (first before after : List ℕ) where
  -- one entry more was told
  pub next_reported : (before_it : (es : List Entry) × LieBefore head bytes es place × (before ≡ first ++ reported es))
      → HasEntryAt bytes place e next → after ≡ before ++ entry_words e
      → (es : List Entry) × LieBefore head bytes es next × (after ≡ first ++ reported es)
  next_reported b h is =
      let es = b.0 in
      let one : reported (es ++ e ∷ []) ≡ reported es
      ++ entry_words e = flat_map-append entry_words es (e ∷ []) ∙ ap (λ (l : List ℕ). reported es ++ l) (append-nil (entry_words e)) in (
        es ++ e ∷ [],
        entry_goes_on head bytes es place e next b.1 h,
        is ∙ ap (λ (l : List ℕ). l ++ entry_words e) b.2 ∙ append_assoc first (reported es) (entry_words e) ∙ ap (λ (l : List ℕ). first ++ l)
            (sym one),
      )
