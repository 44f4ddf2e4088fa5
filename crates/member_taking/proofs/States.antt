-- What taking in keeps of whose state it is.
use Rattle.std.proofs.Common.{◌≡◌, ℕ, ◌+◌, ◌≤◌, List, ◌∷◌, Bool, true, false, Some, None, inl, inr, refl, sym, ap, subst, ◌∙◌, arith, length}
use Rattle.std.specs.Prelude.{if◌then◌else◌, not, All}
use Rattle.std.specs.List.{AllByRecursion}
use Rattle.std.specs.Option.{option_map_or}
use Rattle.byte_defs.specs.Members.{has}
use Rattle.byte_defs.specs.Choices.{first_that_holds}
use Rattle.byte_defs.specs.Orders.{put}
use Rattle.message_defs.specs.Spelling.{IsClaim, IsUpdate}
use Rattle.message_defs.specs.Updates.{Update, Value, Remove, Add, Renew}
use Rattle.message_defs.specs.Statements.{Claim, ReadyAt}
use Rattle.group_defs.specs.Views.{is_member}
use Rattle.group_defs.specs.Process.{Setting, Pool, Process, keyed, places_in}
use Rattle.group_defs.specs.Certified.{value_at, number_of_members}
use Rattle.group_defs.specs.Hearing.{hear, hear_all}
use Rattle.group_defs.specs.Events.{EventFault, HaltedNow, Outsider, NoKey, refusal, perceives, perceived_numbers, take_in, no_next}
use Rattle.pool_laws.proofs.Members.{All-mem, mem-All}
use Rattle.pool_laws.proofs.Sorting.{mem-put}
use Rattle.claim_hearing.specs.Kept.{Holding, Pairing}
use Rattle.claim_hearing.specs.Hearing.{IsHeard}
use Rattle.member_state.specs.Perceiving.{asking, IsPerceivedOf}
use Rattle.member_state.specs.Parts.{has_update}
use Rattle.member_state.specs.Perceiving.{Perceived}
use Rattle.member_state.specs.Phases.{Phase, Observing, OpenView, ClosingView, DecidedView, HaltedView, IsIn}
use Rattle.member_state.specs.Below.{IsLawful}
use Rattle.member_state.proofs.Below.{hearing_is_lawful}
use Rattle.accounts.specs.Views.{account as account_as}
use Rattle.accounts.specs.declared.account.Account as code
use Rattle.member_state.specs.declared.state.ProcessState.{ProcessState}
use Rattle.member_state.specs.States.{IsStateOf, ArePairs}
use Rattle.member_taking.proofs.Heard.{with_hearing, hear-changes, hear-value, hear-pairs, hear-in-range, all-keep, all-change, all-length, AreOfOne, IsOnce, AreInRange}
pub use Rattle.member_state.proofs.Ranges.{claims-once}

-- ---- hearing

-- none is forgotten, and no more are newly heard than there are claims
pub newly-heard : (r : Setting) (p : Process) (cs : List Claim) (old new : Pool) (pairs : List (Claim × Claim)) → p.pool ≡ old
    → IsHeard (hear_all r p cs) new pairs → (length old.heard ≤ length new.heard) × (length new.heard ≤ length old.heard + length cs)
newly-heard r p cs old new pairs same heard =
    let one = all-length r p cs in
    let before = ap (λ (h : Pool). length h.heard) same in
    let after = ap (λ (h : Pool). length h.heard) heard.pool in
    (omega (arith, one.0, before, after), omega (arith, one.1, before, after))

-- a phase looks at nothing that hearing changes
phase-stays : (phase : Phase) (p : Process) (heard : List Claim) (pairs : List (Claim × Claim)) → IsIn phase p
    → IsIn phase (with_hearing p heard pairs)
phase-stays (Observing o) p heard pairs is = is
phase-stays (OpenView o) p heard pairs is = is
phase-stays (ClosingView k) p heard pairs is = record { phase = is.phase; length = is.length }
phase-stays (DecidedView d) p heard pairs is = record { phase = is.phase; decision = is.decision }
phase-stays (HaltedView h) p heard pairs is = record { phase = is.phase; decision = is.decision; delivered = is.delivered }

-- ---- helpers of the changes

-- the members of the view stay
hear-members : (r : Setting) (q : Process) (c : Claim) → number_of_members (hear r q c).pool ≡ number_of_members q.pool
hear-members r q c = ap (λ (x : Process). number_of_members x.pool) (hear-changes r q c)

-- a phase looks at nothing that perceiving changes
perceiving-phase : (phase : Phase) (p : Process) (perceived : List (ℕ × Update)) → IsIn phase p
    → IsIn phase (record p { perceived = perceived })
perceiving-phase (Observing o) p perceived is = is
perceiving-phase (OpenView o) p perceived is = is
perceiving-phase (ClosingView k) p perceived is = record { phase = is.phase; length = is.length }
perceiving-phase (DecidedView d) p perceived is = record { phase = is.phase; decision = is.decision }
perceiving-phase (HaltedView h) p perceived is = record { phase = is.phase; decision = is.decision; delivered = is.delivered }

-- what holds of each element and of one more holds of each where it is put among them
all-put : (P : ℕ × Update → Type 0) (e : ℕ × Update) (es : List (ℕ × Update)) → P e → All P es → All P (put perceived_numbers e es)
all-put P e es one all = mem-All P (put perceived_numbers e es)
    (λ d m. elim (mem-put perceived_numbers e es d m) [ inl same ↦ subst P same one | inr there ↦ All-mem P es d all there ])

-- who may ask for an update has not halted, and is a member
pub may-ask : (s : Setting) (p : Process) (u : Update) → refusal s p (asking u) ≡ None
    → (p.halted ≡ false) × (is_member p.pool.view p.me ≡ true)
may-ask s p u admitted = both u admitted
  where
    go : (halted member : Bool) (rest : List (Bool × EventFault))
        → first_that_holds ((halted, HaltedNow (places_in p.delivered) (option_map_or (λ d. d.1.cut) p.decision 0)) ∷ (not member, Outsider)
        ∷ rest) ≡ None → (halted ≡ false) × (member ≡ true)
    go true member rest none = absurd cc
    go false false rest none = absurd cc
    go false true rest none = (refl, refl)

    both : (u : Update) → refusal s p (asking u) ≡ None → (p.halted ≡ false) × (is_member p.pool.view p.me ≡ true)
    both (Remove q) none = go p.halted (is_member p.pool.view p.me) (no_next p (Remove q)) none
    both (Add q) none = go p.halted (is_member p.pool.view p.me) ((not (has (keyed s) q), NoKey) ∷ no_next p (Add q)) none
    both Renew none = go p.halted (is_member p.pool.view p.me) (no_next p Renew) none

-- to ask for an update is to perceive it
pub asks : (s : Setting) (p : Process) (u : Update) → take_in s p (asking u) ≡ perceives p u
asks s p (Remove q) = refl
asks s p (Add q) = refl
asks s p Renew = refl

module _ (s : Setting) (p : Process) (st : ProcessState) (is : IsStateOf s p st) where
  -- with these heard claims and these conflicts the state is the process's that has them
  with-hearing : (heard : List Claim) (pairs : List (Claim × Claim)) → IsLawful (with_hearing p heard pairs)
      → ((d : ℕ × Value) → p.decision ≡ Some d
      → value_at (record { view = p.pool.view; heard = heard }) (ReadyAt p.pool.view.number d.0) ≡ Some d.1) → ArePairs pairs
      → AreInRange pairs → (pool' : Holding) (conflicts' : Pairing) → record { view = p.pool.view; heard = heard } ≡ pool'.pool → pairs ≡ conflicts'.pairs
      → IsStateOf s (with_hearing p heard pairs) (record st { pool = pool'; conflicts = conflicts' })
  with-hearing heard pairs lawful certified each range pool' conflicts' pool same = record {
    lawful = lawful;
    bounded = record { now = is.bounded.now; before = is.bounded.before; backlog = is.bounded.backlog };
    number = is.number;
    some = is.some;
    decided = λ d e. record { certified = certified d e; possible = (is.decided d e).possible };
    each = each;
    asked_for = is.asked_for;
    halted_member = is.halted_member;
    halted_beyond = is.halted_beyond;
    ranged = record {
      pairs_ranged = range;
      commits_ranged = is.ranged.commits_ranged;
      commits_few = is.ranged.commits_few;
      previous_ranged = is.ranged.previous_ranged;
    };
    limit = is.limit;
    place = record {
      pool = pool;
      number = is.place.number;
      position = is.place.position;
      keys = is.place.keys;
      signed = record {
        slots = is.place.signed.slots;
        end = is.place.signed.end;
        greatest = is.place.signed.greatest;
        last_ready = is.place.signed.last_ready;
        how_many = is.place.signed.how_many;
        names = is.place.signed.names;
      };
      delivered = record { places = is.place.delivered.places; counts = is.place.delivered.counts };
      before = is.place.before;
    };
    phase = phase-stays st.phase p heard pairs is.phase;
    asked = is.asked;
    said = is.said;
    signed = is.signed;
    pairs = same;
    kept = record { numbers = is.kept.numbers; previous = is.kept.previous; commits = is.kept.commits };
    account = is.account;
  }

  -- the view has a member
  peopled : 1 ≤ number_of_members p.pool
  peopled = is.lawful.pool.view.some

  -- what is certified on the slot stays so
  still-certified : (r : Setting) (cs : List Claim) → AllByRecursion IsClaim cs → (x : ℕ) (v : Value)
      → value_at p.pool (ReadyAt p.pool.view.number x) ≡ Some v → value_at (hear_all r p cs).pool (ReadyAt p.pool.view.number x) ≡ Some v
  still-certified r cs range x v e =
      (all-keep r (λ q. (1 ≤ number_of_members q.pool) × (value_at q.pool (ReadyAt p.pool.view.number x) ≡ Some v))
      (λ q c ok so. (
        subst (λ n. 1 ≤ n) (sym (hear-members r q c)) so.0,
        hear-value r q c so.0 (ReadyAt p.pool.view.number x) v so.1,
      )) p cs range (peopled, e)).1

  -- the state of a process that hears claims, in whatever setting they are judged
  pub hears : (r : Setting) (cs : List Claim) → AllByRecursion IsClaim cs → (pool' : Holding) (conflicts' : Pairing)
      → IsHeard (hear_all r p cs) pool'.pool conflicts'.pairs
      → IsStateOf s (hear_all r p cs) (record st { pool = pool'; conflicts = conflicts' })
  hears r cs range pool' conflicts' heard =
      let q : Process = hear_all r p cs in
      let changed : q ≡ with_hearing p q.pool.heard q.conflicts = all-change r p cs in
      let pairs = all-keep r (λ q. AreOfOne q.conflicts × IsOnce q.conflicts)
      (λ q c ok both. hear-pairs r q c both.0 both.1) p cs range (is.each.same, is.each.once) in
      let lawful = all-keep r (λ q. IsLawful q × AreInRange q.conflicts)
      (λ q c ok both. (hearing_is_lawful r q c ok both.0, hear-in-range r q c ok both.0.pool.in_range both.1)) p cs range
      (is.lawful, is.ranged.pairs_ranged) in
      subst (λ q'. IsStateOf s q' (record st { pool = pool'; conflicts = conflicts' })) (sym changed)
      (with-hearing q.pool.heard q.conflicts
      (subst IsLawful changed lawful.0)
      (λ d e. subst (λ h. value_at h (ReadyAt p.pool.view.number d.0) ≡ Some d.1) (ap (λ (x : Process). x.pool) changed)
      (still-certified r cs range d.0 d.1 (is.decided d e).certified))
      (record { same = pairs.0; once = pairs.1 }) lawful.1
      pool' conflicts'
      (sym (ap (λ (x : Process). x.pool) changed) ∙ heard.pool) heard.pairs)

  -- ---- perceiving

  -- an update that is perceived already
  pub perceives-again : (u : Update) → has_update st.perceived u ≡ true → IsStateOf s (perceives p u) st
  perceives-again u e = subst (λ q. IsStateOf s q st)
      (sym (ap (λ b. if b then p else record p { perceived = put perceived_numbers (p.pool.view.number, u) p.perceived })
      (is.asked u ∙ e))) is

  -- one that is perceived now
  pub perceives-now : (u : Update) → IsUpdate u → has_update st.perceived u ≡ false → (set' : Perceived)
      → IsPerceivedOf set' (perceives p u) → (account' : code.Account)
      → account_as account' ≡ record
      (account_as st.account) { perceived = put perceived_numbers (st.pool.pool.view.number, u) (account_as st.account).perceived }
      → IsStateOf s (perceives p u) (record st { perceived = set'; account = account' })
  perceives-now u range e set' tells account' now =
      subst (λ q. IsStateOf s q (record st { perceived = set'; account = account' })) (sym so) (record {
        lawful = record {
          number = is.lawful.number;
          pool = is.lawful.pool;
          own = is.lawful.own;
          past = is.lawful.past;
          said = is.lawful.said;
          short = is.lawful.short;
          batches = is.lawful.batches;
          asked = all-put (λ (e : ℕ × Update). IsUpdate e.1) (p.pool.view.number, u) p.perceived range is.lawful.asked;
        };
        bounded = record { now = is.bounded.now; before = is.bounded.before; backlog = is.bounded.backlog };
        number = is.number;
        some = is.some;
        decided = λ d e. record { certified = (is.decided d e).certified; possible = (is.decided d e).possible };
        each = is.each;
        asked_for = all-put (λ (e : ℕ × Update). e.0 ≤ p.pool.view.number) (p.pool.view.number, u) p.perceived (omega arith) is.asked_for;
        halted_member = is.halted_member;
        halted_beyond = is.halted_beyond;
        ranged = is.ranged;
        limit = is.limit;
        place = record {
          pool = is.place.pool;
          number = is.place.number;
          position = is.place.position;
          keys = is.place.keys;
          signed = record {
            slots = is.place.signed.slots;
            end = is.place.signed.end;
            greatest = is.place.signed.greatest;
            last_ready = is.place.signed.last_ready;
            how_many = is.place.signed.how_many;
            names = is.place.signed.names;
          };
          delivered = record { places = is.place.delivered.places; counts = is.place.delivered.counts };
          before = is.place.before;
        };
        phase = perceiving-phase st.phase p (put perceived_numbers (p.pool.view.number, u) p.perceived) is.phase;
        asked = subst (IsPerceivedOf set') so tells;
        said = is.said;
        signed = is.signed;
        pairs = is.pairs;
        kept = record { numbers = is.kept.numbers; previous = is.kept.previous; commits = is.kept.commits };
        account = (λ i. record (is.account i) {
          perceived = put perceived_numbers ((is.place.pool i).view.number, u)
              (is.account i).perceived;
        }) ∙ sym now;
      })
    where
      so : perceives p u ≡ record p { perceived = put perceived_numbers (p.pool.view.number, u) p.perceived }
      so = ap (λ b. if b then p else record p { perceived = put perceived_numbers (p.pool.view.number, u) p.perceived }) (is.asked u ∙ e)
