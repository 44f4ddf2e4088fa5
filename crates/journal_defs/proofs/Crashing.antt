-- What the two writes of an append leave.
use Rattle.std.proofs.Common.{◌≡◌, ◌≢◌, inl, inr, ℕ, suc, ◌+◌, List, [], ◌∷◌, ◌++◌, length, get_or, take, drop, refl, sym, ap, ◌∙◌, arith, append_assoc, length-append, take-append-drop}
use Rattle.std.specs.List.{flat_map, AllByRecursion}
use Rattle.std.proofs.lemmas.Bool.{cases_eq}
use Rattle.std.proofs.lemmas.Grind.{flat_map-append}
use Rattle.std.proofs.lemmas.List.{take_at, drop_at, drop_more, drop-drop, append-nil}
use Rattle.rp_base.specs.Disks.{Torn}
use Rattle.journal_defs.specs.Entries.{Entry, IsEntry}
use Rattle.journal_defs.specs.Journals.{open_gate, closed_gate, behind_gate, record_bytes, up_to_gate}
use Rattle.journal_defs.specs.Crashes.{IsAtRest, IsOpening, staged, TornBehindTheGate, WrittenBehindTheGate, TornGate, AtRestIsImage, OpeningIsImage, OpenedIsAtRest, ImageReads}

-- ---- over plain lists: a front, one byte, and what is behind it

-- a write behind the byte leaves the front and the byte
behind_stays : (front : List ℕ) (gate n : ℕ) (behind old new : List ℕ) → old ≡ front ++ gate ∷ behind → Torn (length front + 1) n old new
    → new ≡ front ++ gate ∷ drop (length front + 1) new
behind_stays front gate n behind old new is torn =
    let k = length front + 1 in
    let split : front ++ gate ∷ behind ≡ front ++ (gate ∷ []) ++ behind = sym (append_assoc front (gate ∷ []) behind) in
    let kept : take k new ≡ front ++ gate
    ∷ [] = torn.before ∙ ap (λ (l : List ℕ). take k l)
    (is ∙ split) ∙ take_at (front ++ gate ∷ []) behind k (length-append front (gate ∷ [])) in
    sym (take-append-drop k new) ∙ ap (λ (l : List ℕ). l ++ drop k new) kept ∙ append_assoc front (gate ∷ []) (drop k new)

-- a write of the byte leaves the front and what is behind it
gate_changes : (front : List ℕ) (gate : ℕ) (behind old new : List ℕ) → old ≡ front ++ gate ∷ behind → Torn (length front) 1 old new
    → new ≡ front ++ get_or new (length front) 0 ∷ behind
gate_changes front gate behind old new is torn =
    let k = length front in
    let kept : take k new ≡ front = torn.before ∙ ap (λ (l : List ℕ). take k l) is ∙ take_at front (gate ∷ behind) k refl in
    let rest : drop (k + 1) new ≡ behind = torn.after ∙ ap (λ (l : List ℕ). drop (k + 1) l) is ∙ sym
    (drop-drop 1 k (front ++ gate ∷ behind)) ∙ ap (λ (l : List ℕ). drop 1 l) (drop_at front (gate ∷ behind) k refl) in
    let long : length old ≡ k + suc (length behind) = ap length is ∙ length-append front (gate ∷ behind) in
    sym (take-append-drop k new) ∙ ap (λ (l : List ℕ). l ++ drop k new) kept ∙ ap (λ (l : List ℕ). front ++ l)
    (drop_more new k 0 (omega (arith, torn.no_shorter, long)) ∙ ap (λ (l : List ℕ). get_or new k 0 ∷ l) rest)

-- ---- the laws

pub torn_behind_the_gate : TornBehindTheGate
torn_behind_the_gate head es n old new rest torn =
    record {
      behind = drop (length (up_to_gate head es) + 1) new;
      parts = behind_stays (up_to_gate head es) closed_gate n rest.behind old new rest.parts torn;
    }

pub written_behind_the_gate : WrittenBehindTheGate
written_behind_the_gate head es e old new rest is =
    let front = up_to_gate head es in
    let k = length front + 1 in
    let more = drop (k + length (staged e)) old in
    let split : old ≡ front ++ (closed_gate ∷ []) ++ rest.behind = rest.parts ∙ sym (append_assoc front (closed_gate ∷ []) rest.behind) in
    let kept : take k old ≡ front ++ closed_gate
    ∷ [] = ap (λ (l : List ℕ). take k l) split ∙ take_at (front ++ closed_gate ∷ []) rest.behind k
    (length-append front (closed_gate ∷ [])) in (
      more,
      is ∙ ap (λ (l : List ℕ). l ++ staged e ++ more) kept
          ∙ append_assoc (front ++ closed_gate ∷ []) (staged e) more
          ∙ append_assoc front (closed_gate ∷ []) (staged e ++ more)
          ∙ ap (λ (l : List ℕ). front ++ closed_gate ∷ l) (append_assoc (behind_gate e) (closed_gate ∷ []) more),
    )

pub torn_gate : TornGate
torn_gate head es e more old new opening torn =
    record {
      gate = get_or new (length (up_to_gate head es)) 0;
      parts = gate_changes (up_to_gate head es) opening.gate (behind_gate e ++ closed_gate ∷ more) old new opening.parts torn;
    }

pub not_open : closed_gate ≢ open_gate
not_open e = absurd (omega (arith, e))

pub at_rest_is_image : AtRestIsImage
at_rest_is_image head es bytes each rest =
    record { gate = closed_gate; behind = rest.behind; parts = rest.parts; closed = not_open; safe = inl refl; each = each }

-- one more record stands at the end
pub one_more : (head : List ℕ) (es : List Entry) (e : Entry) (rest : List ℕ)
    → up_to_gate head es ++ open_gate ∷ (behind_gate e ++ rest) ≡ up_to_gate head (es ++ e ∷ []) ++ rest
one_more head es e rest =
    let records = flat_map record_bytes es in
    sym (ap (λ (l : List ℕ). head ++ l ++ rest)
    (flat_map-append record_bytes es (e ∷ []) ∙ ap (λ (l : List ℕ). records ++ l) (append-nil (record_bytes e)))
    ∙ append_assoc head (records ++ record_bytes e) rest
    ∙ ap (λ (l : List ℕ). head ++ l) (append_assoc records (record_bytes e) rest)
    ∙ sym (append_assoc head records (record_bytes e ++ rest)))

pub each_push : (es : List Entry) (e : Entry) → AllByRecursion IsEntry es → IsEntry e → AllByRecursion IsEntry (es ++ e ∷ [])
each_push [] e each is = (is, tt)
each_push (x ∷ es) e each is = (each.0, each_push es e each.1 is)

pub opened_is_at_rest : OpenedIsAtRest
opened_is_at_rest head es e more = record { behind = more; parts = one_more head es e (closed_gate ∷ more) }

pub opening_is_image : OpeningIsImage
opening_is_image head es e more bytes each is opening = elim (cases_eq opening.gate open_gate) [
  | inl opened ↦
      inr (at_rest_is_image head (es ++ e ∷ []) bytes (each_push es e each is)
      (record {
        behind = more;
        parts = opening.parts ∙ ap
            (λ (g : ℕ). up_to_gate head es ++ g ∷ (behind_gate e ++ closed_gate ∷ more)) opened ∙ one_more head es e (closed_gate ∷ more);
      }))
  | inr shut ↦
      inl (record {
        gate = opening.gate;
        behind = behind_gate e ++ closed_gate ∷ more;
        parts = opening.parts;
        closed = shut;
        safe = inr (e, record { more = more; parts = refl; entry = is });
        each = each;
      })
]

pub image_reads : ImageReads
image_reads head bytes es image = record {
  gate = image.gate;
  unread = image.behind;
  parts = image.parts;
  closed = image.closed;
  each = image.each;
}

-- the gate was written open
pub opened_to_rest : (head : List ℕ) (es : List Entry) (e : Entry) (more old new : List ℕ) → IsOpening head es e more old
    → new ≡ take (length (up_to_gate head es)) old ++ (open_gate ∷ []) ++ drop (length (up_to_gate head es) + 1) old
    → IsAtRest head (es ++ e ∷ []) new
opened_to_rest head es e more old new opening is =
    let front = up_to_gate head es in
    let k = length front in
    let behind = behind_gate e ++ closed_gate ∷ more in
    let kept : take k old ≡ front = ap (λ (l : List ℕ). take k l) opening.parts ∙ take_at front (opening.gate ∷ behind) k refl in
    let rest : drop (k + 1) old ≡ behind = ap (λ (l : List ℕ). drop (k + 1) l) opening.parts ∙ sym
    (drop-drop 1 k (front ++ opening.gate ∷ behind)) ∙ ap (λ (l : List ℕ). drop 1 l) (drop_at front (opening.gate ∷ behind) k refl) in
    record {
      behind = more;
      parts = is ∙ ap (λ (l : List ℕ). l ++ (open_gate ∷ []) ++ drop (k + 1) old) kept ∙ append_assoc front (open_gate ∷ [])
          (drop (k + 1) old) ∙ ap (λ (l : List ℕ). front ++ open_gate ∷ l) rest ∙ one_more head es e (closed_gate ∷ more);
    }

-- the next closed gate stands behind the entry
pub next_place : (head : List ℕ) (es : List Entry) (e : Entry)
    → length (up_to_gate head es) + length (staged e) ≡ length (up_to_gate head (es ++ e ∷ []))
next_place head es e =
    let one = ap length (one_more head es e []) ∙ ap length (append-nil (up_to_gate head (es ++ e ∷ []))) in
    omega (
      arith,
      one,
      length-append (up_to_gate head es) (open_gate ∷ (behind_gate e ++ [])),
      length-append (behind_gate e) [],
      length-append (behind_gate e) (closed_gate ∷ []),
    )
