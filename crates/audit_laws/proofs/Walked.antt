-- A journal that is spelled is walked entry by entry, to its closed gate or to the gate that breaks.
use Rattle.std.proofs.Common.{◌≡◌, ◌≢◌, ℕ, zero, suc, ◌+◌, ◌≤◌, List, [], ◌∷◌, ◌++◌, length, Bool, true, false, refl, ap, ◌∙◌, arith}
use Rattle.std.specs.Prelude.{◌==◌, if◌then◌else◌, Ok, Err}
use Rattle.std.specs.List.{flat_map, AllByRecursion}
use Rattle.std.proofs.lemmas.Bool.{eqb-true}
use Rattle.std.proofs.lemmas.List.{append_assoc, length-append}
use Rattle.journal_defs.specs.Entries.{Entry, IsEntry, Reading}
use Rattle.journal_defs.specs.Journals.{open_gate, behind_gate, record_bytes, record_at}
use Rattle.journal_defs.proofs.Recording.{record_is_read}
use Rattle.audit_defs.specs.Sources.{Step, Takes, Breaks, steps_from}
use Rattle.audit_defs.specs.Laws.{takes_at, JournalIsWalked, BreakIsMet}

abbrev records : List Entry → List ℕ
records es = flat_map record_bytes es

-- one entry, where bytes go on behind it
one : (more j place : ℕ) (e : Entry) (rest : List ℕ) → IsEntry e → 1 ≤ length rest
    → steps_from (suc more) j place (open_gate ∷ (behind_gate e ++ rest))
    ≡ Takes j place e ∷ steps_from more j (place + length (record_bytes e)) rest
unfolding steps_from
one more j place e rest is some = ap (λ (r : Reading (Entry × List ℕ)). elim r [
  | Err none ↦ Breaks j place ∷ []
  | Ok r ↦ Takes j place r.0 ∷ steps_from more j (place + length (record_bytes r.0)) r.1
]) (record_is_read e rest is some)

closed : (more j place gate : ℕ) (unread : List ℕ) → gate ≢ open_gate → steps_from (suc more) j place (gate ∷ unread) ≡ []
unfolding steps_from
closed more j place gate unread not' = go (gate == open_gate) refl
  where
    go : (b : Bool) → (gate == open_gate) ≡ b
        → (let it : List Step = if b then elim (record_at unread) [
          | Err none ↦ Breaks j place ∷ []
          | Ok r ↦ Takes j place r.0 ∷ steps_from more j (place + length (record_bytes r.0)) r.1
        ] else [] in it) ≡ []
    go true e = absurd (not' (eqb-true gate open_gate e))
    go false e = refl

broken : (more j place : ℕ) (behind : List ℕ) → record_at behind ≡ Err tt → steps_from (suc more) j place (open_gate ∷ behind) ≡ Breaks j place ∷ []
unfolding steps_from
broken more j place behind e = ap (λ (r : Reading (Entry × List ℕ)). elim r [
  | Err none ↦ Breaks j place ∷ []
  | Ok r ↦ Takes j place r.0 ∷ steps_from more j (place + length (record_bytes r.0)) r.1
]) e

-- the entries, and then what stands behind them
walks : (es : List Entry) (fuel j place : ℕ) (rest : List ℕ) (last : List Step) → AllByRecursion IsEntry es → 1 ≤ length rest
    → length es + 1 ≤ fuel → ((more at : ℕ) → at ≡ place + length (records es) → steps_from (suc more) j at rest ≡ last)
    → steps_from fuel j place (records es ++ rest) ≡ takes_at j place es ++ last
walks [] zero j place rest last are some le ends = absurd (omega (arith, le))
walks [] (suc more) j place rest last are some le ends = ends more place (omega arith)
walks (e ∷ es) zero j place rest last are some le ends = absurd (omega (arith, le))
walks (e ∷ es) (suc more) j place rest last are some le ends =
    let shift : (record_bytes e ++ records es) ++ rest ≡ open_gate ∷ (behind_gate e ++ (records es ++ rest)) =
    append_assoc (record_bytes e) (records es) rest in
    let long : 1 ≤ length (records es ++ rest) = omega (arith, some, length-append (records es) rest) in
    let size : length (record_bytes e ++ records es) ≡ length (record_bytes e) + length (records es) =
    length-append (record_bytes e) (records es) in
    ap (steps_from (suc more) j place) shift ∙ one more j place e (records es ++ rest) are.0 long
    ∙ ap (λ steps. Takes j place e ∷ steps) (walks es more j (place + length (record_bytes e)) rest last are.1 some (omega (arith, le))
    (λ m at is. ends m at (omega (arith, is, size))))

pub journal_is_walked : JournalIsWalked
journal_is_walked j place es gate unread are not' =
    walks es (length (records es ++ gate ∷ unread)) j place (gate ∷ unread) [] are (omega arith) (long es are)
    (λ more at is. closed more j at gate unread not') ∙ nothing-behind (takes_at j place es)
  where
    nothing-behind : (steps : List Step) → steps ++ [] ≡ steps
    nothing-behind [] = refl
    nothing-behind (s ∷ steps) = ap (λ ss. s ∷ ss) (nothing-behind steps)

    long : (es : List Entry) → AllByRecursion IsEntry es → length es + 1 ≤ length (records es ++ gate ∷ unread)
    long [] are = omega arith
    long (e ∷ es) are =
        let rest = long es are.1 in
        let shift = ap length (append_assoc (record_bytes e) (records es) (gate ∷ unread)) in
        let size = length-append (behind_gate e) (records es ++ gate ∷ unread) in
        omega (arith, rest, shift, size)

pub break_is_met : BreakIsMet
break_is_met j place es behind are none =
    walks es (length (records es ++ open_gate ∷ behind)) j place (open_gate ∷ behind) (Breaks j (place + length (records es)) ∷ [])
    are (omega arith) (long es are)
    (λ more at is. broken more j at behind none ∙ ap (λ (n : ℕ). Breaks j n ∷ []) is)
  where
    long : (es : List Entry) → AllByRecursion IsEntry es → length es + 1 ≤ length (records es ++ open_gate ∷ behind)
    long [] are = omega arith
    long (e ∷ es) are =
        let rest = long es are.1 in
        let shift = ap length (append_assoc (record_bytes e) (records es) (open_gate ∷ behind)) in
        let size = length-append (behind_gate e) (records es ++ open_gate ∷ behind) in
        omega (arith, rest, shift, size)
