-- What a guard holds as evidence was handed to it.
use Rattle.std.proofs.Common.{◌≡◌, ◌≢◌, ◌⊎◌, inl, inr, ℕ, ◌+◌, List, [], ◌∷◌, ◌++◌, length, map, drop, Option, Some, None, Bool, true, false, refl, sym, ap, ◌∙◌, subst}
use Rattle.std.specs.Prelude.{◌&&◌, ◌||◌, if◌then◌else◌, not, nat_lt, ◌==◌, is_some, unwrap_or, filter_map, option_map}
use Rattle.std.specs.Option.{option_map_or}
use Rattle.std.specs.List.{list_any, range_with_len}
use Rattle.std.proofs.lemmas.Bool.{eqb-true}
use Rattle.byte_defs.specs.Choices.{first_that_holds, is_some_and}
use Rattle.byte_defs.specs.Orders.{put}
use Rattle.byte_defs.specs.Members.{has}
use Rattle.message_defs.specs.Limits.{last_process}
use Rattle.message_defs.specs.Updates.{Update, Remove, Add, Renew}
use Rattle.message_defs.specs.Statements.{Statement, Claim, Conflicts, slot_of, same_slot, same_statement, view_of}
use Rattle.message_defs.specs.Claims.{Claims, Wants, Faulty}
use Rattle.group_defs.specs.Process.{Setting, Process, places_in}
use Rattle.group_defs.specs.Certified.{claim_on, heard_on, says}
use Rattle.group_defs.specs.Due.{is_perceived}
use Rattle.group_defs.specs.Hearing.{Verdict, Old, Early, Stranger, OutOfWindow, Known, Unsigned, Conflict, Heard, verdict, with_verdict, kept_conflicts, hear, hear_all, is_valid, is_strange, is_beyond}
use Rattle.group_defs.specs.Signing.{Signer, Signing, own_claim, signs}
use Rattle.group_defs.specs.Settle.{settle, decide, deliver, leave}
use Rattle.group_defs.specs.Events.{Event, Submit, Hand, Suspect, Join, RenewView, Tick, Turn, EventFault, Note, Delivers, Installs, Liar, Spent, Halts, Outcome, answered, perceived_numbers, perceives, refusal, take_in, signing, after, outcome, notes, note_if}
use Rattle.group_defs.specs.Family.{claims_in}
use Rattle.event_laws.proofs.Settled.{settling_leaves}
use Rattle.event_laws.proofs.Signed.{signing_leaves}
use Rattle.conviction_defs.specs.Convictions.{Convicts, is_convicted}
use Rattle.guard_defs.specs.Guarding.{liar_of, shown_by, shown}
use Rattle.conviction_laws.proofs.Convicted.{convicts-more, conviction_is_tested}
use Rattle.pool_laws.proofs.Members.{Mem, append-mem, filter-mem, filter_map-mem, find-is, list_any-mem, map-mem, mem-Contains, mem-drop, snoc-mem}
use Rattle.pool_laws.proofs.Slots.{is-same_statement, same_slot-is}
use Rattle.pool_laws.proofs.Tests.{and-first, and-second, none-some, not-false, or-cases, some-same}
use Rattle.pool_laws.proofs.Heard.{verdict-valid}
use Rattle.safety_laws.proofs.Induction.{AreFrom, Keeps, after-keeps}
use Rattle.safety_laws.proofs.Settlings.{after-none}

-- the claim was handed over and is valid, or has the own number
abbrev pub IsOf : Setting → List Claim → ℕ → Claim → Type 0
IsOf s from me c = (Mem c from × (is_valid s c ≡ true)) ⊎ (c.signer ≡ me)

-- ---- what is heard

pub record Hears (s : Setting) (from : List Claim) (me : ℕ) (p : Process) : Type 0 where
  pub number : p.me ≡ me
  pub heard : (c : Claim) → Mem c p.pool.heard → IsOf s from me c

-- of the seven tests the first six failed
conflict-tests : (old early strange beyond known unsigned conflict : Bool)
    → unwrap_or (first_that_holds ((old, Old) ∷ (early, Early) ∷ (strange, Stranger) ∷ (beyond, OutOfWindow) ∷ (known, Known)
    ∷ (unsigned, Unsigned) ∷ (conflict, Conflict) ∷ [])) Heard ≡ Conflict
    → (known ≡ false) × (unsigned ≡ false)
conflict-tests true early strange beyond known unsigned conflict e = absurd cc
conflict-tests false true strange beyond known unsigned conflict e = absurd cc
conflict-tests false false true beyond known unsigned conflict e = absurd cc
conflict-tests false false false true known unsigned conflict e = absurd cc
conflict-tests false false false false true unsigned conflict e = absurd cc
conflict-tests false false false false false true conflict e = absurd cc
conflict-tests false false false false false false conflict e = (refl, refl)

-- ---- an event, refused or not

pub after-some : (s : Setting) (p : Process) (t : Turn) (fault : EventFault) → refusal s p t.event ≡ Some fault → after s p t ≡ p
unfolding after
after-some s p t fault e = ap (λ (o : Option EventFault). elim o [ None ↦ settle s (signing s p t).now | Some fault ↦ p ]) e

noted-is : (s : Setting) (p : Process) (t : Turn) → refusal s p t.event ≡ None
    → (outcome s p t).notes ≡ notes p (signing s p t) (deliver (decide s (signing s p t).now)) (after s p t)
unfolding after settle
noted-is s p t e = answered-notes ∙ sym (ap (notes p (signing s p t) (deliver (decide s (signing s p t).now)))
    (ap (λ (o : Option EventFault). elim o [ None ↦ settle s (signing s p t).now | Some fault ↦ p ]) e))
  where
    answered-notes : (outcome s p t).notes ≡ notes p (signing s p t) (deliver (decide s (signing s p t).now))
        (leave (deliver (decide s (signing s p t).now)))
    answered-notes = ap (λ (o : Option EventFault). let it : Outcome = elim o [
      | None ↦ answered s p t (signing s p t)
      | Some fault ↦ record { verdict = Some fault; heard = 0; signed = []; spent = false; sends = []; notes = [] }
    ] in it.notes) e

module _ (s : Setting) (from : List Claim) (me : ℕ) where
  hears-heard : (p : Process) (c : Claim) → Mem c from → is_valid s c ≡ true → Hears s from me p → Hears s from me (with_verdict Heard p c)
  hears-heard p c m valid ok = record { number = ok.number; heard = λ d there. either d (snoc-mem p.pool.heard c d there) }
    where
      either : (d : Claim) → Mem d p.pool.heard ⊎ (c ≡ d) → IsOf s from me d
      either d (inl before) = ok.heard d before
      either d (inr is) = inl (subst (λ c. Mem c from × (is_valid s c ≡ true)) is (m, valid))

  hears-own : (p : Process) (signer : Signer) (st : Statement) → Hears s from me p → Hears s from me (signs s signer p st)
  hears-own p signer st ok = record {
    number = ok.number;
    heard = λ d there. go d (is_some (heard_on p.pool p.me (slot_of st))) there;
  }
    where
      own : Claim
      own = own_claim s signer p st

      one : (d : Claim) → Mem d p.pool.heard ⊎ (own ≡ d) → IsOf s from me d
      one d (inl before) = ok.heard d before
      one d (inr is) = inr (sym (ap (λ (c : Claim). c.signer) is) ∙ ok.number)

      go : (d : Claim) (b : Bool) → Mem d (if b then p.pool.heard else p.pool.heard ++ own ∷ []) → IsOf s from me d
      go d true m = ok.heard d m
      go d false m = one d (snoc-mem p.pool.heard own d m)

  hears-keeps : Keeps s from (Hears s from me)
  hears-keeps = record {
    accepts = λ p payload ok. record { number = ok.number; heard = ok.heard };
    perceives = λ p e ok. record { number = ok.number; heard = ok.heard };
    hears = λ p c m e ok. hears-heard p c m (verdict-valid s p c e) ok;
    doubts = λ p conflicts ok. record { number = ok.number; heard = ok.heard };
    signs = λ p signer st next none ok. hears-own p signer st ok;
    decides = λ p ok. record { number = ok.number; heard = ok.heard };
    delivers = λ p ds member room e ok. record { number = ok.number; heard = ok.heard };
    installs = λ p d decided whole ok. record { number = ok.number; heard = λ c m. absurd m };
    halts = λ p d decided member ok. record { number = ok.number; heard = ok.heard };
  }

  -- ---- the conflicts that are kept

  -- the two conflict, and were handed over and are valid, but for the heard one where it has the own number
  abbrev pub IsKept : Claim × Claim → Type 0
  IsKept pair = Conflicts pair.0 pair.1 × IsOf s from me pair.0 × Mem pair.1 from × (is_valid s pair.1 ≡ true)

  abbrev pub AreKept : List (Claim × Claim) → Type 0
  AreKept pairs = (pair : Claim × Claim) → Mem pair pairs → IsKept pair

  -- the heard claim on the slot says something else
  pair-kept : (p : Process) (c first : Claim) → Hears s from me p → Mem c from → verdict s p c ≡ Conflict
      → claim_on p.pool.heard c.signer (slot_of c.statement) ≡ Some first → IsKept (first, c)
  pair-kept p c first ok m e at =
      let tests = conflict-tests (nat_lt (view_of c.statement) p.pool.view.number) (nat_lt p.pool.view.number (view_of c.statement))
      (is_strange p c) (is_beyond p c.signer c.statement) (says p.pool c.statement c.signer) (not (is_valid s c))
      (is_some (heard_on p.pool c.signer (slot_of c.statement))) e in
      let found = find-is (λ d. (d.signer == c.signer) && same_slot (slot_of d.statement) (slot_of c.statement)) p.pool.heard first at in (
        (
          eqb-true first.signer c.signer
              (and-first (first.signer == c.signer) (same_slot (slot_of first.statement) (slot_of c.statement)) found.1),
          same_slot-is (slot_of first.statement) (slot_of c.statement)
              (and-second (first.signer == c.signer) (same_slot (slot_of first.statement) (slot_of c.statement)) found.1),
          λ same. differs (sym tests.0 ∙ ap (λ (o : Option Claim). is_some_and (option_map (λ c. c.statement) o) (same_statement c.statement)) at
              ∙ is-same_statement c.statement first.statement (sym same)),
        ),
        ok.heard first found.0,
        m,
        not-false (is_valid s c) tests.1,
      )
    where
      differs : false ≡ true → ⊥
      differs e = cc

  conflict-kept : (p : Process) (c : Claim) → Hears s from me p → Mem c from → AreKept p.conflicts → verdict s p c ≡ Conflict
      → AreKept (kept_conflicts p c)
  conflict-kept p c ok m kept e pair there = go (list_any (λ pair. pair.1.signer == c.signer) p.conflicts) there
    where
      behind : (o : Option Claim) → claim_on p.pool.heard c.signer (slot_of c.statement) ≡ o
          → Mem pair (elim o [ None ↦ [] | Some first ↦ (first, c) ∷ [] ]) → IsKept pair
      behind None at there = absurd there
      behind (Some first) at (inl is) = subst IsKept is (pair-kept p c first ok m e at)
      behind (Some first) at (inr there) = absurd there

      more : Mem pair p.conflicts ⊎ Mem pair (elim (claim_on p.pool.heard c.signer (slot_of c.statement)) [
        | None ↦ []
        | Some first ↦ (first, c) ∷ []
      ]) → IsKept pair
      more (inl before) = kept pair before
      more (inr there) = behind (claim_on p.pool.heard c.signer (slot_of c.statement)) refl there

      go : (b : Bool) → Mem pair (if b then p.conflicts else p.conflicts
          ++ elim (claim_on p.pool.heard c.signer (slot_of c.statement)) [ None ↦ [] | Some first ↦ (first, c) ∷ [] ]) → IsKept pair
      go true there = kept pair there
      go false there = more (append-mem p.conflicts _ pair there)

  hear-kept : (p : Process) (c : Claim) → Hears s from me p → Mem c from → AreKept p.conflicts → (v : Verdict) → verdict s p c ≡ v
      → AreKept (with_verdict v p c).conflicts
  hear-kept p c ok m kept Conflict e = conflict-kept p c ok m kept e
  hear-kept p c ok m kept Heard e = kept
  hear-kept p c ok m kept Old e = kept
  hear-kept p c ok m kept Early e = kept
  hear-kept p c ok m kept Stranger e = kept
  hear-kept p c ok m kept OutOfWindow e = kept
  hear-kept p c ok m kept Known e = kept
  hear-kept p c ok m kept Unsigned e = kept

  hear-hears : (p : Process) (c : Claim) → Hears s from me p → Mem c from → (v : Verdict) → verdict s p c ≡ v
      → Hears s from me (with_verdict v p c)
  hear-hears p c ok m Heard e = hears-heard p c m (verdict-valid s p c e) ok
  hear-hears p c ok m Conflict e = record { number = ok.number; heard = ok.heard }
  hear-hears p c ok m Old e = ok
  hear-hears p c ok m Early e = ok
  hear-hears p c ok m Stranger e = ok
  hear-hears p c ok m OutOfWindow e = ok
  hear-hears p c ok m Known e = ok
  hear-hears p c ok m Unsigned e = ok

  all-kept : (cs : List Claim) → ((c : Claim) → Mem c cs → Mem c from) → (p : Process) → Hears s from me p → AreKept p.conflicts
      → AreKept (hear_all s p cs).conflicts
  unfolding hear_all
  all-kept [] are p ok kept = kept
  all-kept (c ∷ cs) are p ok kept = all-kept cs (λ d m. are d (inr m)) (hear s p c)
      (hear-hears p c ok (are c (inl refl)) (verdict s p c) refl) (hear-kept p c ok (are c (inl refl)) kept (verdict s p c) refl)

  asked-kept : (p : Process) (u : Update) → AreKept p.conflicts → AreKept (perceives p u).conflicts
  asked-kept p u kept = go (is_perceived p (p.pool.view.number, u))
    where
      go : (b : Bool) → let it : Process = if b then p else record p {
        perceived = put perceived_numbers (p.pool.view.number, u) p.perceived;
      } in AreKept it.conflicts
      go true = kept
      go false = kept

  taken-kept : (e : Event) → ((c : Claim) → Mem c (claims_in e) → Mem c from) → (p : Process) → Hears s from me p → AreKept p.conflicts
      → AreKept (take_in s p e).conflicts
  taken-kept (Submit payload) are p ok kept = kept
  taken-kept (Hand at (Claims claims)) are p ok kept = all-kept claims are p ok kept
  taken-kept (Hand at (Wants x k)) are p ok kept = kept
  taken-kept (Hand at (Faulty fault)) are p ok kept = kept
  taken-kept (Suspect q) are p ok kept = asked-kept p (Remove q) kept
  taken-kept (Join q) are p ok kept = asked-kept p (Add q) kept
  taken-kept RenewView are p ok kept = asked-kept p Renew kept
  taken-kept Tick are p ok kept = kept

  -- ---- a process whose evidence was handed to it

  pub record Fair (p : Process) : Type 0 where
    pub hears : Hears s from me p
    pub kept : AreKept p.conflicts

  pub after-fair : (p : Process) (t : Turn) → ((c : Claim) → Mem c (claims_in t.event) → Mem c from) → Fair p → Fair (after s p t)
  after-fair p t are ok = record {
    hears = after-keeps s from (Hears s from me) hears-keeps t (unfold AreFrom in are) p ok.hears;
    kept = go (refusal s p t.event) refl;
  }
    where
      go : (o : Option EventFault) → refusal s p t.event ≡ o → AreKept (after s p t).conflicts
      go (Some fault) e = subst (λ (q : Process). AreKept q.conflicts) (sym (after-some s p t fault e)) ok.kept
      go None e = subst (λ (q : Process). AreKept q.conflicts) (sym (after-none s p t e))
          (subst AreKept (sym (settling_leaves s (signing s p t).now).conflicts)
          (subst AreKept (sym (ap (λ (q : Process). q.conflicts) (signing_leaves s t.signer t.allowance (take_in s p t.event)).rest))
          (taken-kept t.event are p ok.hears ok.kept)))

  -- ---- what a turn shows

  liar-kept : (p : Process) (one : Signing) (done q : Process) (n : Note) (m : ℕ) → Mem n (notes p one done q) → liar_of n ≡ Some m
      → (pair : Claim × Claim) × Mem pair q.conflicts × (pair.1.signer ≡ m)
  liar-kept p one done q n m there is = fourth (append-mem (delivers ++ installs ++ liars ++ spent) halts n there)
    where
      delivers : List Note
      delivers = map (Delivers p.pool.view.number) (drop (length p.delivered) done.delivered)

      installs : List Note
      installs = note_if (nat_lt (length p.left) (length q.left)) (Installs q.pool.view)

      liars : List Note
      liars = map (λ (pair : Claim × Claim). Liar pair.1.signer) (drop (length p.conflicts) q.conflicts)

      spent : List Note
      spent = note_if one.spent Spent

      halts : List Note
      halts = note_if q.halted (Halts (places_in q.delivered) (option_map_or (λ d. d.1.cut) q.decision 0))

      noted : (b : Bool) (note : Note) → liar_of note ≡ None → Mem n (note_if b note) → ⊥
      noted true note none (inl e) = none-some none (subst (λ n. liar_of n ≡ Some m) (sym e) is)
      noted true note none (inr there) = absurd there
      noted false note none there = absurd there

      first : Mem n delivers ⊎ Mem n installs → ⊥
      first (inl there) =
          let d = map-mem (Delivers p.pool.view.number) (drop (length p.delivered) done.delivered) n there in
          none-some refl (subst (λ n. liar_of n ≡ Some m) (sym d.2) is)
      first (inr there) = noted (nat_lt (length p.left) (length q.left)) (Installs q.pool.view) refl there

      second : Mem n (delivers ++ installs) ⊎ Mem n liars → (pair : Claim × Claim) × Mem pair q.conflicts × (pair.1.signer ≡ m)
      second (inl there) = absurd (first (append-mem delivers installs n there))
      second (inr there) =
          let k = map-mem (λ (pair : Claim × Claim). Liar pair.1.signer) (drop (length p.conflicts) q.conflicts) n there in (
            k.0,
            mem-drop (length p.conflicts) q.conflicts k.0 k.1,
            some-same k.0.1.signer m (subst (λ n. liar_of n ≡ Some m) (sym k.2) is),
          )

      third : Mem n (delivers ++ installs ++ liars) ⊎ Mem n spent → (pair : Claim × Claim) × Mem pair q.conflicts × (pair.1.signer ≡ m)
      third (inl there) = second (append-mem (delivers ++ installs) liars n there)
      third (inr there) = absurd (noted one.spent Spent refl there)

      fourth : Mem n (delivers ++ installs ++ liars ++ spent) ⊎ Mem n halts
          → (pair : Claim × Claim) × Mem pair q.conflicts × (pair.1.signer ≡ m)
      fourth (inl there) = third (append-mem (delivers ++ installs ++ liars) spent n there)
      fourth (inr there) = absurd
          (noted q.halted (Halts (places_in q.delivered) (option_map_or (λ d. d.1.cut) q.decision 0)) refl there)

  -- a kept pair convicts its signer, where that is another
  kept-convicts : (pair : Claim × Claim) → IsKept pair → (q : ℕ) → pair.1.signer ≡ q → q ≢ me → Convicts s from q
  kept-convicts pair (conflicts, (inl first), m, valid) q is other = record {
    one = pair.0;
    other = pair.1;
    one_of = mem-Contains from pair.0 first.0;
    other_of = mem-Contains from pair.1 m;
    signer = conflicts.0 ∙ is;
    one_valid = first.1;
    other_valid = valid;
    conflict = conflicts;
  }
  kept-convicts pair (conflicts, (inr own), m, valid) q is other = absurd (other (sym is ∙ sym conflicts.0 ∙ own))

  pub shown-convicts : (p : Process) (t : Turn) → ((c : Claim) → Mem c (claims_in t.event) → Mem c from) → Fair p → (q : ℕ)
      → Mem q (shown s p t) → q ≢ me → Convicts s from q
  shown-convicts p t are ok q there other = go (refusal s p t.event) refl there
    where
      then' : Process
      then' = after s p t

      liar : refusal s p t.event ≡ None → (n : Note) (m : ℕ) → Mem n (outcome s p t).notes → liar_of n ≡ Some m → m ≡ q → Convicts s from q
      liar e n m noted is same =
          let pair = liar-kept p (signing s p t) (deliver (decide s (signing s p t).now)) then' n m
          (subst (Mem n) (noted-is s p t e) noted) is in
          kept-convicts pair.0 ((after-fair p t are ok).kept pair.0 pair.1) q (pair.2 ∙ same) other

      by-event : (e : Event) → t.event ≡ e → refusal s p t.event ≡ None → Mem q (shown_by s e (outcome s p t).notes) → Convicts s from q
      by-event (Hand at frame) is none m =
          let ms : List Note = (outcome s p t).notes in
          let test = filter-mem (λ q. is_convicted s (claims_in (Hand at frame)) q || has (filter_map liar_of ms) q)
          (range_with_len 0 (last_process + 1)) q m in
          elim (or-cases (is_convicted s (claims_in (Hand at frame)) q) (has (filter_map liar_of ms) q) test.1) [
            | inl by ↦ convicts-more s (claims_in (Hand at frame)) from q
                (λ c n. are c (subst (λ e. Mem c (claims_in e)) (sym is) n))
                ((conviction_is_tested s (claims_in (Hand at frame)) q).0 by)
            | inr named ↦ (let found = list_any-mem (λ m. m == q) (filter_map liar_of ms) named in
                let note = filter_map-mem liar_of ms found.0 found.1 in
                liar none note.0 found.0 note.1 note.2 (eqb-true found.0 q found.2))
          ]
      by-event (Submit payload) is none m = absurd m
      by-event (Suspect r) is none m = absurd m
      by-event (Join r) is none m = absurd m
      by-event RenewView is none m = absurd m
      by-event Tick is none m = absurd m

      go : (o : Option EventFault) → refusal s p t.event ≡ o
          → Mem q (elim o [ None ↦ shown_by s t.event (outcome s p t).notes | Some fault ↦ [] ]) → Convicts s from q
      go None e m = by-event t.event refl e m
      go (Some fault) e m = absurd m
