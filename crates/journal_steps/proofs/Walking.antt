-- The steps from a place on, by what is at the gate there.
use Rattle.std.proofs.Common.{◌≡◌, ◌≢◌, ℕ, zero, suc, ◌+◌, ◌≤◌, List, [], ◌∷◌, ◌++◌, length, drop, Bool, true, false, Option, Some, None, Result, Ok, Err, refl, sym, ap, subst, ◌∙◌, arith, length-append, length-drop}
use Rattle.std.specs.Prelude.{◌==◌, ◌<◌, if◌then◌else◌, IfOk, IfErr, IfSome, IfNone}
use Rattle.std.proofs.lemmas.Bool.{eqb-true}
use Rattle.std.proofs.lemmas.List.{drop_at, drop-drop}
use Rattle.byte_defs.proofs.Fields.{IsBytes, IsBytes-drop}
use Rattle.journal_defs.specs.Entries.{Entry, IsEntry, Reading}
use Rattle.journal_defs.specs.Journals.{open_gate, behind_gate, record_bytes, record_at, IsClosedAt, HasEntryAt, IsBrokenAt}
use Rattle.journal_defs.proofs.Recording.{record_is_read, record_is_spelled}
use Rattle.audit_defs.specs.Sources.{Step, Takes, Breaks, steps_from}
use Rattle.journal_steps.specs.Places.{steps_at}

-- behind an open gate, at most so many gates on
abbrev behind_open : ℕ → ℕ → ℕ → Reading (Entry × List ℕ) → List Step
behind_open more j place r = elim r [
  | Err none ↦ Breaks j place ∷ []
  | Ok r ↦ Takes j place r.0 ∷ steps_from more j (place + length (record_bytes r.0)) r.1
]

-- what is left behind a record has no more bytes, and they are bytes
rest_fits : (behind : List ℕ) (x : Entry × List ℕ) → IsBytes behind → record_at behind ≡ Ok x → (length x.1 ≤ length behind) × IsBytes x.1
rest_fits behind x fits read =
    let s = record_is_spelled behind x.1 x.0 fits read in
    let cut : drop (length (behind_gate x.0)) behind ≡ x.1 =
    ap (λ (l : List ℕ). drop (length (behind_gate x.0)) l) s.0 ∙ drop_at (behind_gate x.0) x.1 (length (behind_gate x.0)) refl in
    (omega (arith, ap length s.0, length-append (behind_gate x.0) x.1), subst IsBytes cut (IsBytes-drop (length (behind_gate x.0)) behind fits))

-- how many gates are allowed matters nothing, where they are as many as the bytes
enough : (m n j place : ℕ) (bytes : List ℕ) → IsBytes bytes → length bytes ≤ m → length bytes ≤ n
    → steps_from m j place bytes ≡ steps_from n j place bytes
unfolding steps_from
enough zero zero j place [] fits a b = refl
enough zero (suc n) j place [] fits a b = refl
enough (suc m) zero j place [] fits a b = refl
enough (suc m) (suc n) j place [] fits a b = refl
enough zero n j place (gate ∷ behind) fits a b = absurd (omega (arith, a))
enough (suc m) zero j place (gate ∷ behind) fits a b = absurd (omega (arith, b))
enough (suc m) (suc n) j place (gate ∷ behind) fits a b = go (gate == open_gate) (record_at behind) refl
    (λ x small are. enough m n j (place + length (record_bytes x.0)) x.1 are (omega (arith, a, small)) (omega (arith, b, small)))
  where
    tail_fits : IsBytes behind
    tail_fits i = fits (suc i)

    go : (is : Bool) (r : Reading (Entry × List ℕ)) → record_at behind ≡ r
        → ((x : Entry × List ℕ) → length x.1 ≤ length behind → IsBytes x.1
        → steps_from m j (place + length (record_bytes x.0)) x.1 ≡ steps_from n j (place + length (record_bytes x.0)) x.1)
        → (let left : List Step = if is then behind_open m j place r else [] in left)
        ≡ (let right : List Step = if is then behind_open n j place r else [] in right)
    go false r e same = refl
    go true (Err none) e same = refl
    go true (Ok x) e same = let f = rest_fits behind x tail_fits e in ap (λ (steps : List Step). Takes j place x.0 ∷ steps) (same x f.0 f.1)

-- ---- at one gate

taken : (more j place : ℕ) (e : Entry) (behind rest : List ℕ) → record_at behind ≡ Ok (e, rest)
    → steps_from (suc more) j place (open_gate ∷ behind) ≡ Takes j place e ∷ steps_from more j (place + length (record_bytes e)) rest
unfolding steps_from
taken more j place e behind rest is = ap (behind_open more j place) is

broken : (more j place : ℕ) (behind : List ℕ) → record_at behind ≡ Err tt → steps_from (suc more) j place (open_gate ∷ behind) ≡ Breaks j place ∷ []
unfolding steps_from
broken more j place behind is = ap (behind_open more j place) is

closed : (more j place gate : ℕ) (behind : List ℕ) → gate ≢ open_gate → steps_from (suc more) j place (gate ∷ behind) ≡ []
unfolding steps_from
closed more j place gate behind shut = go (gate == open_gate) refl
  where
    go : (b : Bool) → (gate == open_gate) ≡ b
        → (let it : List Step = if b then behind_open more j place (record_at behind) else [] in it) ≡ []
    go true e = absurd (shut (eqb-true gate open_gate e))
    go false e = refl

-- ---- from a place on

module _ (j place : ℕ) (bytes : List ℕ) (fits : IsBytes bytes) where
  pub takes_there : (e : Entry) (next : ℕ) → HasEntryAt bytes place e next → steps_at j place bytes ≡ Takes j place e ∷ steps_at j next bytes
  takes_there e next h =
      let behind = behind_gate e ++ h.more in
      let at_next : drop next bytes ≡ h.more =
      ap (λ (n : ℕ). drop n bytes) h.next_is
      ∙ sym (drop-drop (length (record_bytes e)) place bytes)
      ∙ ap (λ (l : List ℕ). drop (length (record_bytes e)) l) h.parts
      ∙ drop_at (record_bytes e) h.more (length (record_bytes e)) refl in
      let are : IsBytes h.more = subst IsBytes at_next (IsBytes-drop next bytes fits) in
      let one : steps_from (suc (length behind)) j place (open_gate ∷ behind)
      ≡ Takes j place e ∷ steps_from (length behind) j (place + length (record_bytes e)) h.more =
      taken (length behind) j place e behind h.more (record_is_read e h.more h.entry h.goes_on) in
      let fuel : steps_from (length behind) j (place + length (record_bytes e)) h.more
      ≡ steps_from (length h.more) j (place + length (record_bytes e)) h.more =
      enough (length behind) (length h.more) j (place + length (record_bytes e)) h.more are
      (omega (arith, length-append (behind_gate e) h.more)) (omega arith) in
      let there : steps_from (length h.more) j (place + length (record_bytes e)) h.more ≡ steps_at j next bytes =
      ap (λ (n : ℕ). steps_from (length h.more) j n h.more) (sym h.next_is)
      ∙ ap (λ (l : List ℕ). steps_from (length l) j next l) (sym at_next) in
      ap (λ (l : List ℕ). steps_from (length l) j place l) h.parts ∙ one ∙ ap (λ (steps : List Step). Takes j place e ∷ steps) (fuel ∙ there)

  pub ends_there : IsClosedAt bytes place → steps_at j place bytes ≡ []
  ends_there c = ap (λ (l : List ℕ). steps_from (length l) j place l) c.parts ∙ closed (length c.behind) j place c.gate c.behind c.closed

  pub breaks_there : IsBrokenAt bytes place → steps_at j place bytes ≡ Breaks j place ∷ []
  breaks_there b =
      ap (λ (l : List ℕ). steps_from (length l) j place l) b.parts ∙ broken (length b.behind) j place b.behind (none (record_at b.behind) refl)
    where
      behind_is : drop 1 (drop place bytes) ≡ b.behind
      behind_is = ap (λ (l : List ℕ). drop 1 l) b.parts

      are : IsBytes b.behind
      are = subst IsBytes behind_is (IsBytes-drop 1 (drop place bytes) (IsBytes-drop place bytes fits))

      none : (r : Reading (Entry × List ℕ)) → record_at b.behind ≡ r → record_at b.behind ≡ Err tt
      none (Err tt) e = e
      none (Ok x) e = absurd (no_record x.0 x.1 (record_is_spelled b.behind x.1 x.0 are e))
        where
          no_record : (e : Entry) (rest : List ℕ) → (b.behind ≡ behind_gate e ++ rest) × (1 ≤ length rest) × IsEntry e → ⊥
          no_record e [] s = absurd (omega (arith, s.1))
          no_record e (gate ∷ more) s = b.no_entry e gate more s.2 s.0

-- ---- over what was read

next_within : (place next : ℕ) (bytes : List ℕ) (e : Entry) → HasEntryAt bytes place e next → next < length bytes
next_within place next bytes e h = omega
    (arith, length-drop place bytes, ap length h.parts, length-append (behind_gate e) h.more, h.goes_on, h.next_is)

module _ {X : Type 0} (entry_of : X → Entry) (next_of : X → ℕ) (place : ℕ) (bytes : List ℕ) where
  pub all_take : IsBytes bytes → (r : Result (Option X) ℕ) → IfOk r (λ o. IfSome o (λ x. HasEntryAt bytes place (entry_of x) (next_of x)))
      → IfOk r (λ o. IfSome o (λ x. (j : ℕ) → steps_at j place bytes ≡ Takes j place (entry_of x) ∷ steps_at j (next_of x) bytes))
  all_take fits (Ok (Some x)) h = λ j. takes_there j place bytes fits (entry_of x) (next_of x) h
  all_take fits (Ok None) h = tt
  all_take fits (Err e) h = tt

  pub all_within : (r : Result (Option X) ℕ) → IfOk r (λ o. IfSome o (λ x. HasEntryAt bytes place (entry_of x) (next_of x)))
      → IfOk r (λ o. IfSome o (λ x. next_of x < length bytes))
  all_within (Ok (Some x)) h = next_within place (next_of x) bytes (entry_of x) h
  all_within (Ok None) h = tt
  all_within (Err e) h = tt

module _ {X : Type 0} (place : ℕ) (bytes : List ℕ) (fits : IsBytes bytes) where
  pub all_end : (r : Result (Option X) ℕ) → IfOk r (λ o. IfNone o (IsClosedAt bytes place))
      → IfOk r (λ o. IfNone o ((j : ℕ) → steps_at j place bytes ≡ []))
  all_end (Ok (Some x)) h = tt
  all_end (Ok None) h = λ j. ends_there j place bytes fits h
  all_end (Err e) h = tt

  pub all_break : (r : Result (Option X) ℕ) → IfErr r (λ at. (at ≡ place) × IsBrokenAt bytes place)
      → IfErr r (λ at. (j : ℕ) → steps_at j place bytes ≡ Breaks j at ∷ [])
  all_break (Ok o) h = tt
  all_break (Err at) h = λ j. breaks_there j place bytes fits h.1 ∙ ap (λ (n : ℕ). Breaks j n ∷ []) (sym h.0)
