-- What was read at a gate is what stands there.
use Rattle.std.proofs.Common.{◌≡◌, ◌≢◌, ℕ, ◌+◌, ◌-◌, ◌<◌, ◌≤◌, List, ◌∷◌, ◌++◌, length, get_or, drop, true, false, Option, Some, None, Ok, Err, sym, ap, subst, ◌∙◌, arith, length-append, length-drop}
use Rattle.std.specs.Option.{IfSome, IsSomeAnd, is_some}
use Rattle.std.proofs.lemmas.List.{drop_more}
use Rattle.journal_defs.specs.Entries.{Entry, IsEntry, AreBytes, Reading, entry_of, entry_bytes}
use Rattle.journal_defs.specs.Journals.{open_gate, behind_gate, record_at, IsClosedAt, HasEntryAt, IsBrokenAt}
use Rattle.journal_defs.proofs.Entering.{entry_is_spelled, entry_is_read}
use Rattle.journal_defs.proofs.Recording.{record_is_read, record_is_spelled}
use Rattle.member_events.specs.Finds.{Finds}
use Rattle.journal_entries.specs.Kept.{entry_or_tick}

abbrev fault : Reading (Entry × List ℕ)
fault = Err tt

abbrev found : Entry × List ℕ → Reading (Entry × List ℕ)
found x = Ok x

abbrev none : Reading Entry
none = Err tt

abbrev one : Entry → Reading Entry
one e = Ok e

module _ (bytes : List ℕ) (place : ℕ) (within : place < length bytes) where
  gate_there : drop place bytes ≡ get_or bytes place 0 ∷ drop (place + 1) bytes
  gate_there = drop_more bytes place 0 within

  pub closed_there : get_or bytes place 0 ≢ open_gate → IsClosedAt bytes place
  closed_there shut = record { gate = get_or bytes place 0; behind = drop (place + 1) bytes; parts = gate_there; closed = shut }

  opened_there : (behind : List ℕ) → get_or bytes place 0 ≡ open_gate → behind ≡ drop (place + 1) bytes
      → drop place bytes ≡ open_gate ∷ behind
  opened_there behind opened is = gate_there ∙ ap (λ (g : ℕ). g ∷ drop (place + 1) bytes) opened ∙ ap (λ (l : List ℕ). open_gate ∷ l)
      (sym is)

  pub broken_there : (behind : List ℕ) → get_or bytes place 0 ≡ open_gate → behind ≡ drop (place + 1) bytes → record_at behind ≡ Err tt
      → IsBrokenAt bytes place
  broken_there behind opened is fails = record {
    behind = behind;
    parts = opened_there behind opened is;
    no_entry = λ e gate more fits spelled. differ (e, gate ∷ more)
        (sym fails ∙ ap record_at spelled ∙ record_is_read e (gate ∷ more) fits (omega arith));
  }
    where
      differ : (x : Entry × List ℕ) → fault ≡ found x → ⊥
      differ x e = cc

  pub entry_there : (behind rest : List ℕ) (e : Entry) → get_or bytes place 0 ≡ open_gate → behind ≡ drop (place + 1) bytes
      → behind ≡ behind_gate e ++ rest → 1 ≤ length rest → IsEntry e → HasEntryAt bytes place e (length bytes - length rest)
  entry_there behind rest e opened is spelled goes_on fits = record {
    more = rest;
    parts = opened_there behind opened is ∙ ap (λ (l : List ℕ). open_gate ∷ l) spelled;
    goes_on = goes_on;
    next_is = omega (arith, length-drop (place + 1) bytes, ap length is, ap length spelled, length-append (behind_gate e) rest);
    entry = fits;
  }

-- ---- over what was found

module _ {X : Type 0} (view : X → Entry) where
  pub found_is_spelled : (r : Option X) (bytes : List ℕ) → AreBytes bytes → Finds view r (entry_of bytes)
      → IfSome r (λ x. IsEntry (view x) × (bytes ≡ entry_bytes (view x)))
  found_is_spelled None bytes fits finds = tt
  found_is_spelled (Some x) bytes fits finds = let s = entry_is_spelled bytes (view x) fits finds in (s.1, s.0)

  pub spelled_is_found : (r : Option X) (bytes : List ℕ) (e : Entry) → Finds view r (entry_of bytes) → IsEntry e → bytes ≡ entry_bytes e
      → IsSomeAnd r (λ x. view x ≡ e)
  spelled_is_found None bytes e finds is spelled = absurd (no_entry (sym finds ∙ ap entry_of spelled ∙ entry_is_read e is))
    where
      no_entry : none ≡ one e → ⊥
      no_entry h = cc
  spelled_is_found (Some x) bytes e finds is spelled = same (view x) (sym finds ∙ ap entry_of spelled ∙ entry_is_read e is)
    where
      same : (y : Entry) → one y ≡ one e → y ≡ e
      same y h = cc

  -- what is kept of it
  pub kept_is_spelled : (r : Option X) (bytes : List ℕ) → Finds view r (entry_of bytes)
      → IfSome r (λ x. IsEntry (view x) × (bytes ≡ entry_bytes (view x))) → is_some r ≡ true
      → (bytes ≡ entry_bytes (entry_or_tick (entry_of bytes))) × IsEntry (entry_or_tick (entry_of bytes))
  kept_is_spelled None bytes finds spelled some = absurd (differ some)
    where
      differ : false ≡ true → ⊥
      differ h = cc
  kept_is_spelled (Some x) bytes finds spelled some = subst
      (λ (r : Reading Entry). (bytes ≡ entry_bytes (entry_or_tick r)) × IsEntry (entry_or_tick r)) (sym finds) (spelled.1, spelled.0)

module _ {X : Type 0} (view : X → Entry × List ℕ) where
  pub record_is_there : (r : Option X) (behind : List ℕ) → AreBytes behind → Finds view r (record_at behind)
      → IfSome r (λ x. (behind ≡ behind_gate (view x).0 ++ (view x).1) × (1 ≤ length (view x).1) × IsEntry (view x).0)
  record_is_there None behind fits finds = tt
  record_is_there (Some x) behind fits finds = record_is_spelled behind (view x).1 (view x).0 fits finds

  pub record_is_shorter : (r : Option X) (behind : List ℕ) → AreBytes behind → Finds view r (record_at behind)
      → IfSome r (λ x. length (view x).1 ≤ length behind)
  record_is_shorter None behind fits finds = tt
  record_is_shorter (Some x) behind fits finds = let s = record_is_spelled behind (view x).1 (view x).0 fits finds in omega
      (arith, ap length s.0, length-append (behind_gate (view x).0) (view x).1)
