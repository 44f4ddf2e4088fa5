-- The append of a turn's entry, in the node's words.
use Rattle.std.proofs.Common.{◌≡◌, inl, inr, ℕ, ◌+◌, ◌-◌, ◌<◌, ◌^◌, Bool, true, false, List, [], ◌∷◌, ◌++◌, length, Option, None, Some, Result, Err, refl, sym, ap, subst, ◌∙◌, arith, length-append}
use Rattle.std.specs.Prelude.{flat_map, is_some, nat_lt, IsSome}
use Rattle.std.proofs.lemmas.Bool.{lt-ltb, ltb-false, ltb-true}
use Rattle.std.proofs.lemmas.List.{append-nil}
use Rattle.byte_defs.specs.Fields.{four_bytes}
use Rattle.journal_defs.specs.Entries.{Event, Entry, IsEntry, entry_bytes}
use Rattle.journal_defs.specs.Journals.{behind_gate, record_bytes}
use Rattle.journal_defs.specs.Crashes.{IsWithOrWithout, Survives, staged}
use Rattle.journal_disk.specs.Disks.{HasLength, HasRest, LeavesOnly, StaysUntold}
use Rattle.journal_disk.proofs.Moments.{weaker}
use Rattle.journal_rp.specs.declared.journal.Journal.{Journal}
use Rattle.journal_rp.specs.declared.journal.Writing.{Writing}
use Rattle.journal_rp.specs.declared.fault.JournalFault.{JournalFault}
use Rattle.journal_rp.specs.declared.fault.JournalFault.TheVariants as faults
use Rattle.journal_rp.specs.Stages.{gate_of, len_of}
use Rattle.journal_rp.specs.Answers.{HasCauses, IfFull, IsFull, of_append}
use Rattle.sealing_laws.proofs.Passed.{verdict-is}
use Rattle.node_defs.specs.Casts.{Cast, entry_for, live, outcome_of}
use Rattle.node_defs.specs.Lines as lines
use Rattle.node_defs.specs.Lines.{DiskFailed}
use Rattle.node_defs.specs.Lives as lives
use Rattle.node_defs.specs.Lives.{leaves}
use Rattle.node_defs.specs.Nodes.{Node, Task, Take, Append, Answer, Done, Failed, Snapper, answered, run}
use Rattle.node_traces.specs.Stops.{Outset, LeftFrom}
use Rattle.node_traces.specs.Goes.{Outside}
use Rattle.node_traces.specs.Went.{Went}
use Rattle.node_traces.proofs.Went.{went_on}
use Rattle.sealing_laws.specs.Running.{IsAt, IsJournalOf, stop_of_fault}
use Rattle.node_taking.specs.Taking.{StopsSo}
use Rattle.node_taking.specs.Turns.{IsTurnOf}
use Rattle.node_taking.specs.Keeping.{at, grown, letting, Keeps}
use Rattle.node_taking.proofs.Machine.{answers, append-failed, appended-so, appends-does, at-so, full-so, steps-does, taken-so}
use Rattle.node_taking.proofs.Still.{if-reported, left-at-first, still, stops-after, stops-still, reported}

-- ---- sizes

staged-length : (e : Entry) → length (staged e) ≡ length (entry_bytes e) + 5
unfolding behind_gate
staged-length e = omega (arith, length-append (behind_gate e) (0 ∷ []), length-append (four_bytes (length (entry_bytes e))) (entry_bytes e))

record-length : (e : Entry) → length (flat_map record_bytes (e ∷ [])) ≡ length (staged e)
record-length e = omega (arith, ap length (append-nil (record_bytes e)), length-append (behind_gate e) (0 ∷ []))

over-is : (limit a b : ℕ) → a ≡ b → limit < b → nat_lt limit a ≡ true
over-is limit a b same over = lt-ltb limit a (subst (λ k. limit < k) (sym same) over)

room-is : (limit a b : ℕ) → a ≡ b → (limit < b → ⊥) → nat_lt limit a ≡ false
room-is limit a b same fits = go (nat_lt limit a) refl
  where
    go : (t : Bool) → nat_lt limit a ≡ t → nat_lt limit a ≡ false
    go true e = absurd (fits (subst (λ k. limit < k) same (ltb-true limit a e)))
    go false e = e

-- where it fits, the gate is below the limit
pub fits-below : (limit gate more : ℕ) → (limit < gate + 1 + more → ⊥) → gate < limit
fits-below limit gate more fits = go (nat_lt limit (gate + 1 + more)) refl
  where
    go : (t : Bool) → nat_lt limit (gate + 1 + more) ≡ t → gate < limit
    go true e = absurd (fits (ltb-true limit (gate + 1 + more) e))
    go false e = let le = ltb-false limit (gate + 1 + more) e in omega (arith, le)

tells-before : (old new : Option (List ℕ)) → StaysUntold old new → IsSome new → IsSome old
tells-before None new untold some = sym (ap is_some untold) ∙ some
tells-before (Some file) new untold some = refl

module _ {D : Type 0} (seen : D → Option (List ℕ)) (may_leave : D → List ℕ → Type 0) (moment : D → ℕ)
    (left_since : D → ℕ → List ℕ → Type 0) (only_now : (d : D) (image : List ℕ) → left_since d (moment d) image → may_leave d image) (c : Cast)
    (snap : Snapper) (most : ℕ) (f : Outset) (n : Node) (p : ℕ) (e : Event) (ts : List Task) (x : Outside) (old new : D)
    (journal : Journal Writing) (bytes : List ℕ) (is : IsAt n (Take p e ∷ ts)) (of : IsJournalOf f.head n journal (seen old) (may_leave old))
    (turn : IsTurnOf c (n.now p) e bytes) where
  verdict : (outcome_of c (n.now p) e).verdict ≡ None
  verdict = verdict-is c.setting (n.now p) (live c (n.now p) e) ∙ turn.taken

  sizes : n.gate + 1 + length (entry_bytes (entry_for c (n.now p) e)) + 5 ≡ gate_of journal + 1 + length bytes
  sizes = omega (arith, of.gate, ap length turn.staged, staged-length (entry_for c (n.now p) e))

  rest-at : IsSome (seen old) → HasRest (seen old) (may_leave old) f.head n.kept (gate_of journal)
  rest-at some = subst (λ (g : ℕ). HasRest (seen old) (may_leave old) f.head n.kept g) of.gate (reported (seen old) of.rest some)

  abbrev over : Type 0
  over = 2 ^ 30 < gate_of journal + 1 + length bytes

  -- memory for the event
  steps-on : (over → ⊥) → Went seen moment left_since c snap most f (at n (Take p e ∷ ts)) x old (at n (Append p e ∷ ts)) x old
  steps-on fits = still seen may_leave moment left_since only_now c snap most f (at n (Take p e ∷ ts)) (at n (Append p e ∷ ts)) x x old refl
      of.rest (answers c snap most (at n (Take p e ∷ ts)) (at n (Append p e ∷ ts)) Done x x
      (taken-so c snap n p e ts verdict (room-is (2 ^ 30) _ _ sizes fits)) (steps-does c most n p e ts x))

  -- any moment of the append
  left-appending : (more : List Answer) (image : List ℕ) → IsWithOrWithout f.head n.kept (entry_for c (n.now p) e) image
      → LeftFrom c snap f (at n (Append p e ∷ ts)) more [] image
  unfolding run leaves lives.staged
  left-appending more image (inl without) = left-at-first c snap f (at n (Append p e ∷ ts)) more image refl without
  left-appending more image (inr with) = record { front = []; fronts = (more, refl); with_more = true; reads = with }

  -- what `append` says of a moment
  abbrev AnyMoment : Type 0
  AnyMoment = (head : List ℕ) (es : List Entry) (d : Entry) → HasRest (seen old) (may_leave old) head es (gate_of journal) → IsEntry d
      → bytes ≡ staged d → LeavesOnly moment left_since old new (IsWithOrWithout head es d)

  appending : (more : List Answer) → AnyMoment → IsSome (seen old)
      → LeavesOnly moment left_since old new (LeftFrom c snap f (at n (Append p e ∷ ts)) more [])
  appending more any some = weaker moment left_since old new (IsWithOrWithout f.head n.kept (entry_for c (n.now p) e))
      (LeftFrom c snap f (at n (Append p e ∷ ts)) more []) (left-appending more)
      (any f.head n.kept (entry_for c (n.now p) e) (rest-at some) turn.entry turn.staged)

  -- ---- it is appended

  kept-on : (journal' : Journal Writing)
      → ((head : List ℕ) (es : List Entry) (d : Entry) → HasRest (seen old) (may_leave old) head es (gate_of journal) → IsEntry d
      → bytes ≡ staged d → HasRest (seen new) (may_leave new) head (es ++ d ∷ []) (gate_of journal'))
      → gate_of journal' ≡ gate_of journal + length bytes → HasLength (seen new) (len_of journal') → StaysUntold (seen old) (seen new)
      → IsJournalOf f.head (grown c n p e) journal' (seen new) (may_leave new)
  kept-on journal' ok place length-is untold =
      let here : (grown c n p e).gate ≡ gate_of journal'
      = omega (arith, of.gate, place, ap length turn.staged, record-length (entry_for c (n.now p) e)) in
      record {
        gate = here;
        length = length-is;
        rest = if-reported (seen new) (λ some. subst (λ (g : ℕ). HasRest (seen new) (may_leave new) f.head (grown c n p e).kept g) (sym here)
            (ok f.head n.kept (entry_for c (n.now p) e) (rest-at (tells-before (seen old) (seen new) untold some)) turn.entry turn.staged));
      }

  pub kept : (journal' : Journal Writing) → (over → ⊥) → AnyMoment
      → ((head : List ℕ) (es : List Entry) (d : Entry) → HasRest (seen old) (may_leave old) head es (gate_of journal) → IsEntry d
      → bytes ≡ staged d → HasRest (seen new) (may_leave new) head (es ++ d ∷ []) (gate_of journal'))
      → gate_of journal' ≡ gate_of journal + length bytes → HasLength (seen new) (len_of journal') → StaysUntold (seen old) (seen new)
      → Keeps seen may_leave moment left_since c snap most f n p e ts x old new journal'
  kept journal' fits any ok place length-is untold =
      let goes = answers c snap most (at n (Append p e ∷ ts)) (letting c n p e ts) Done x x (appended-so c snap n p e ts)
      (appends-does c most n p e ts x).0 in
      let second : Went seen moment left_since c snap most f (at n (Append p e ∷ ts)) x old (letting c n p e ts) x new = record {
        goes = goes;
        tells = λ some. ap is_some
            (ok f.head n.kept (entry_for c (n.now p) e) (rest-at some) turn.entry turn.staged).reported;
        leaves = appending goes.answers any;
      } in
      record {
        went = subst (λ (m : Node). Went seen moment left_since c snap most f m x old (letting c n p e ts) x new) (sym (at-so n (Take p e ∷ ts) is))
            (went_on seen moment left_since c snap most f (at n (Take p e ∷ ts)) (at n (Append p e ∷ ts)) (letting c n p e ts) x x x old old new
            (steps-on fits) second);
        journal = kept-on journal' ok place length-is untold;
      }

  -- ---- the disk failed

  abbrev StandsStill : Type 0
  StandsStill = (head : List ℕ) (es : List Entry) (d : Entry) → HasRest (seen old) (may_leave old) head es (gate_of journal) → IsEntry d
      → bytes ≡ staged d → Survives head es (may_leave new)

  disk-failed : (over → ⊥) → AnyMoment → StandsStill → StopsSo seen may_leave moment left_since c snap most f (at n (Take p e ∷ ts)) x old DiskFailed x new
  disk-failed fits any stands =
      let m : Node = at n (Append p e ∷ ts) in
      let last : Node = answered c snap m Failed in
      let ends = append-failed c snap n p e ts in
      let goes = answers c snap most m last Failed x x refl (appends-does c most n p e ts x).1 in
      stops-after seen may_leave moment left_since only_now c snap most f (at n (Take p e ∷ ts)) m x x x old old new DiskFailed (steps-on fits)
      (record {
        stop = record { last = last; stops = ends.0; goes = goes; leaves = appending goes.answers any };
        stands = if-reported (seen old) (λ some. subst (λ (es : List Entry). Survives f.head es (may_leave new)) (sym ends.1)
            (stands f.head n.kept (entry_for c (n.now p) e) (rest-at some) turn.entry turn.staged));
      })

  -- ---- the journal is full

  is-full : over → StopsSo seen may_leave moment left_since c snap most f (at n (Take p e ∷ ts)) x old
      (lines.Full (n.gate + 1) (length (entry_bytes (entry_for c (n.now p) e)))) x old
  is-full so =
      let m : Node = at n (Take p e ∷ ts) in
      let last : Node = answered c snap m Done in
      let ends = full-so c snap n p e ts verdict (over-is (2 ^ 30) _ _ sizes so) in
      stops-still seen may_leave moment left_since only_now c snap most f m last x x old
      (lines.Full (n.gate + 1) (length (entry_bytes (entry_for c (n.now p) e)))) refl of.rest
      (answers c snap most m last Done x x refl (steps-does c most n p e ts x)) ends.0 ends.1

  full-stops : (whole size : ℕ) → whole ≡ gate_of journal + 1 → size ≡ length bytes - 5 → over → new ≡ old
      → StopsSo seen may_leave moment left_since c snap most f (at n (Take p e ∷ ts)) x old (lines.Full whole size) x new
  full-stops whole size whole-is size-is so same =
      let both : lines.Full (n.gate + 1) (length (entry_bytes (entry_for c (n.now p) e))) ≡ lines.Full whole size
      = ap (λ (a : ℕ). lines.Full a (length (entry_bytes (entry_for c (n.now p) e)))) (omega (arith, of.gate, whole-is))
      ∙ ap (λ (b : ℕ). lines.Full whole b) (omega (arith, size-is, ap length turn.staged, staged-length (entry_for c (n.now p) e))) in
      subst (λ (d : D). StopsSo seen may_leave moment left_since c snap most f (at n (Take p e ∷ ts)) x old (lines.Full whole size) x d) (sym same)
      (subst (λ (why : lines.Stop). StopsSo seen may_leave moment left_since c snap most f (at n (Take p e ∷ ts)) x old why x old) both (is-full so))

  -- as `append` says why it failed
  stopped-by : (fault : JournalFault) (before now : ℕ) → HasCauses of_append before now (let r : Result (Unit {0}) JournalFault = Err fault in r)
      → IfFull (let r : Result (Unit {0}) JournalFault = Err fault in r) (λ whole size. (whole ≡ gate_of journal + 1) × (size ≡ length bytes - 5) × over × (new ≡ old))
      → (over → IsFull (let r : Result (Unit {0}) JournalFault = Err fault in r)) → AnyMoment → StandsStill
      → StopsSo seen may_leave moment left_since c snap most f (at n (Take p e ∷ ts)) x old (stop_of_fault fault) x new
  stopped-by faults.DiskFault before now cause full room any stands = disk-failed room any stands
  stopped-by (faults.Full whole size) before now cause full room any stands = full-stops whole size full.0 full.1 full.2 full.3
  stopped-by faults.NotAJournal before now cause full room any stands = absurd cc
  stopped-by (faults.Entry place) before now cause full room any stands = absurd cc
  stopped-by (faults.Other place) before now cause full room any stands = absurd cc
  stopped-by faults.NoMemory before now cause full room any stands = absurd cc

  pub stopped : (fault : JournalFault) (before now : ℕ) (why : lines.Stop)
      → HasCauses of_append before now (let r : Result (Unit {0}) JournalFault = Err fault in r)
      → IfFull (let r : Result (Unit {0}) JournalFault = Err fault in r) (λ whole size. (whole ≡ gate_of journal + 1) × (size ≡ length bytes - 5) × over × (new ≡ old))
      → (over → IsFull (let r : Result (Unit {0}) JournalFault = Err fault in r)) → AnyMoment → StandsStill → why ≡ stop_of_fault fault
      → StopsSo seen may_leave moment left_since c snap most f n x old why x new
  stopped fault before now why cause full room any stands why-is =
      subst (λ (m : Node). StopsSo seen may_leave moment left_since c snap most f m x old why x new) (sym (at-so n (Take p e ∷ ts) is))
      (subst (λ (w : lines.Stop). StopsSo seen may_leave moment left_since c snap most f (at n (Take p e ∷ ts)) x old w x new) (sym why-is)
      (stopped-by fault before now cause full room any stands))
