-- The state of a process that has installed a view.
use Rattle.std.proofs.Common.{◌≡◌, ℕ, ◌+◌, ◌≤◌, List, [], ◌∷◌, ◌++◌, map, drop, length, Option, Some, None, Bool, true, false, refl, sym, ap, ◌∙◌, subst, arith, inl, inr}
use Rattle.std.specs.Prelude.{All, is_none, Result, Ok, Err, if◌then◌else◌, ◌==◌, nat_lt}
use Rattle.std.specs.Result.{result_ok}
use Rattle.std.proofs.lemmas.Bool.{cases_lt, eq-eqb, lt-ltb}
use Rattle.byte_defs.specs.Choices.{first_that_holds}
use Rattle.message_defs.specs.Limits.{last_number, most_members}
use Rattle.group_defs.proofs.FollowingViews.{next_is_view}
use Rattle.std.proofs.lemmas.List.{append-nil, map-append}
use Rattle.std.proofs.lemmas.List.Elements.{All-from_recursion, All-push, recursion_from_All}
use Rattle.message_defs.specs.Spelling.{IsClaim}
use Rattle.message_defs.specs.Statements.{Ready}
use Rattle.message_defs.specs.Updates.{Update, Value}
use Rattle.group_defs.specs.Views.{View, UpdateFault, ViewsSpent, IsView, update_faults, has_keys, next, next_fault, next_view}
use Rattle.group_defs.specs.Process as defs
use Rattle.group_defs.specs.Process.{Setting, Process, Left, delivered_from, deliveries_of, earlier, keyed, views_of}
use Rattle.group_defs.specs.Certified.{certificate, is_ended}
use Rattle.group_defs.specs.Settle.{install}
use Rattle.group_defs.specs.Accounts.{Account, account_of}
use Rattle.group_defs.specs.Events.{Note, Installs, note_if}
use Rattle.member_events.specs.declared.events.Note as code
use Rattle.member_state.specs.Events.{note}
use Rattle.member_settling.specs.Reported.{ReportsInstalled}
use Rattle.member_settling.specs.Begun.{IsLast}
use Rattle.member_settling.proofs.Real.{last}
use Rattle.pool_laws.proofs.Members.{All-mem, mem-All}
use Rattle.pool_laws.proofs.Tests.{and-first, none-is}
use Rattle.member_state.proofs.Laws.{certificate-ranged}
use Rattle.claim_index.specs.Kept.{empty_pool}
use Rattle.own_place.specs.Owns.{IsOwnOf}
use Rattle.member_state.specs.Parts.{has_update}
use Rattle.member_state.specs.Parts.{all_signed}
use Rattle.member_state.specs.Below.{IsIn, Begins}
use Rattle.accounts.specs.Views.{account}
use Rattle.member_state.proofs.Below.{installing_is_lawful, installing_begins_own}
use Rattle.member_state.specs.declared.state.ProcessState.{ProcessState}
use Rattle.member_state.specs.States.{IsStateOf, claims_of}
use Rattle.member_settling.specs.Steps.{in_phase, IsLeaving}
use Rattle.member_settling.proofs.Bounded.{installing-bounded}
use Rattle.member_settling.proofs.Installing.{length-more, none-perceived, none-signed, numbered}
use Rattle.member_settling.proofs.Lists.{certificate-few}

-- ---- the view that follows

-- its number is in range
next-number : (v : View) (u : Update) → next_fault v u ≡ None → v.number ≤ 1023 → v.number + 1 ≤ 1023
next-number v u none le = go (v.number == last_number) refl none
  where
    go : (b : Bool) → (v.number == last_number) ≡ b → (if b then Some ViewsSpent else first_that_holds (update_faults v u)) ≡ None
        → v.number + 1 ≤ 1023
    go true e f = absurd cc
    go false e f = elim (cases_lt v.number 1023) [
      | inl lt ↦ omega (arith, lt)
      | inr ge ↦ absurd (let yes : (v.number == 1023) ≡ true = eq-eqb v.number 1023 (omega (arith, le, ge)) in let no : false
          ≡ true = sym e ∙ yes in cc)
    ]

-- ---- the state

same-pool : (g h : defs.Pool) → (let o : Option defs.Pool = Some g in o) ≡ Some h → g ≡ h
same-pool g h e = cc

-- the parts of the state that begin the view, and those that keep the one before it, whose own messages delivered there are `mine`
pub record HasBegun (v : View) (d : ℕ × Value) (mine : ℕ) (old new : ProcessState) : Type 0 where
  pub limit : new.batch_limit ≡ old.batch_limit
  pub own : Begins v old.own new.own mine
  pub pool : new.pool.pool ≡ empty_pool v
  pub phase : (p : Process) → p.pool.view ≡ v → p.me ≡ new.own.me → p.halted ≡ false → p.decision ≡ None → is_ended p ≡ false
      → IsIn new.phase p
  pub asked : (u : Update) → has_update new.perceived u ≡ false
  pub said : new.said.claims ≡ []
  pub said_from : new.said_from ≡ 0
  pub said_before : claims_of new.said_before.items ≡ claims_of old.said_before.items ++ drop old.said_from old.said.claims
  pub pairs : new.conflicts.pairs ≡ old.conflicts.pairs
  pub previous : new.archive.previous ≡ Some old.pool.pool
  pub commits : new.archive.commits ≡ old.archive.commits
      ++ all_signed (certificate old.pool.pool (Ready old.pool.pool.view.number d.0 d.1)) ∷ []
  pub account : account new.account
      ≡ record (account old.account) {
        views = (account old.account).views ++ v ∷ [];
        delivered = (account old.account).delivered ++ [] ∷ [];
      }

later : (x : ℕ) (es : List (ℕ × Update)) → All (λ e. e.0 ≤ x) es → All (λ e. e.0 ≤ x + 1) es
later x es all = mem-All (λ (e : ℕ × Update). e.0 ≤ x + 1) es
    (λ e m. let le = All-mem (λ (e : ℕ × Update). e.0 ≤ x) es e all m in omega (arith, le))

module _ (s : Setting) (p : Process) (d : ℕ × Value) (old new : ProcessState) (v : View) (mine : ℕ) (leaving : IsLeaving s p d old)
    (is : v ≡ next_view p.pool.view d.1.update) (own : mine ≡ delivered_from p.me p.delivered) (begun : HasBegun v d mine old new) where
  abbrev ok : IsStateOf s p (in_phase leaving.phase old)
  ok = leaving.state

  abbrev q : Process
  q = install d p

  begins : Begins (next_view p.pool.view d.1.update) old.own new.own (delivered_from p.me p.delivered)
  begins = subst (λ v. Begins v old.own new.own (delivered_from p.me p.delivered)) is
      (subst (λ n. Begins v old.own new.own n) own begun.own)

  fresh : new.pool.pool ≡ record { view = next_view p.pool.view d.1.update; heard = [] }
  fresh = begun.pool ∙ ap empty_pool is

  tells : IsOwnOf s q (record { view = next_view p.pool.view d.1.update; heard = [] }) new.own
  tells = installing_begins_own s p old.pool.pool old.own new.own d ok.lawful begins ok.place

  more : earlier q ≡ earlier p + delivered_from p.me p.delivered
  more = tells.before ∙ begins.before ∙ ap (λ n. n + delivered_from p.me p.delivered) (sym ok.place.before)

  abbrev left-now : Left
  left-now = record { view = p.pool.view; delivered = p.delivered; commit = certificate p.pool (Ready p.pool.view.number d.0 d.1) }

  commits : map (λ (l : Left). all_signed l.commit) q.left ≡ new.archive.commits
  commits =
      map-append (λ (l : Left). all_signed l.commit) p.left (left-now ∷ [])
      ∙ ap (λ cs. cs ++ all_signed (certificate p.pool (Ready p.pool.view.number d.0 d.1)) ∷ []) ok.kept.commits
      ∙ ap (λ h. old.archive.commits ++ all_signed (certificate h (Ready h.view.number d.0 d.1)) ∷ []) ok.place.pool
      ∙ sym begun.commits

  -- one view more, in which nothing is delivered
  with_view : account_of q ≡ record
      (account_of p) { views = views_of p ++ next_view p.pool.view d.1.update ∷ []; delivered = deliveries_of p ++ [] ∷ [] }
  with_view = λ i. record {
    me = p.me;
    views = map-append (λ (l : Left). l.view) p.left (left-now ∷ []) i ++ next_view p.pool.view d.1.update ∷ [];
    delivered = map-append (λ (l : Left). l.delivered) p.left (left-now ∷ []) i ++ [] ∷ [];
    accepted = p.accepted;
    perceived = p.perceived;
  }

  reported : account_of q ≡ account new.account
  reported =
      with_view
      ∙ ap (λ (a : Account). record a {
        views = a.views ++ next_view p.pool.view d.1.update ∷ [];
        delivered = a.delivered ++ [] ∷ [];
      }) ok.account
      ∙ ap (λ (w : View). record (account old.account) {
        views = (account old.account).views ++ w ∷ [];
        delivered = (account old.account).delivered ++ [] ∷ [];
      }) (sym is)
      ∙ sym begun.account

  pub installs-state : IsStateOf s q new
  installs-state = record {
    lawful = installing_is_lawful p d number view ok.lawful;
    bounded = installing-bounded p d more ok.bounded;
    number = (let before = ok.number in let one = length-more p.left left-now in omega (arith, before, one));
    some = ok.some;
    decided = λ e none. absurd cc;
    each = ok.each;
    asked_for = later p.pool.view.number p.perceived ok.asked_for;
    halted_member = λ stops. absurd (let no : false ≡ true = sym leaving.runs ∙ stops in cc);
    halted_beyond = λ stops. absurd (let no : false ≡ true = sym leaving.runs ∙ stops in cc);
    ranged = record {
      pairs_ranged = ok.ranged.pairs_ranged;
      commits_ranged = All-push (λ (l : Left). All IsClaim l.commit) p.left left-now ok.ranged.commits_ranged commit-ranged;
      commits_few = All-push (λ (l : Left). length l.commit ≤ most_members) p.left left-now ok.ranged.commits_few
          (let few = certificate-few p.pool (Ready p.pool.view.number d.0 d.1) in
          let members = ok.lawful.pool.view.few in
          omega (arith, few, members));
      previous_ranged = λ h e. subst (λ (g : defs.Pool). All IsClaim g.heard) (same-pool p.pool h e) ok.lawful.pool.in_range;
    };
    limit = ok.limit ∙ sym begun.limit;
    place = subst (λ h. IsOwnOf s q h new.own) (sym fresh) tells;
    phase = begun.phase q (sym is) (tells.number) leaving.runs refl (tells.signed.end ∙ begins.end);
    asked = λ u. none-perceived p.pool.view.number p u ok.asked_for ∙ sym (begun.asked u);
    said = none-signed p.pool.view.number p.signed ok.lawful.past ∙ sym begun.said;
    signed = record {
      few = (let from = begun.said_from in omega (arith, from));
      whole =
          ok.signed.whole
          ∙ sym begun.said_before
          ∙ sym (append-nil (claims_of new.said_before.items))
          ∙ (λ i. claims_of new.said_before.items ++ drop (sym begun.said_from i) (sym begun.said i));
    };
    pairs = ok.pairs ∙ sym begun.pairs;
    kept = record {
      numbers = numbered p.left left-now ok.number ok.kept.numbers;
      previous = ap (λ h. Some h) ok.place.pool ∙ sym begun.previous;
      commits = commits;
    };
    account = reported;
  }
    where
      none : next_fault p.pool.view d.1.update ≡ None
      none = none-is (next_fault p.pool.view d.1.update)
          (and-first (is_none (next_fault p.pool.view d.1.update)) (has_keys (keyed s) d.1.update) (ok.decided d leaving.decision).possible)

      number : p.pool.view.number + 1 ≤ 1023
      number = next-number p.pool.view d.1.update none ok.lawful.number

      commit-ranged : All IsClaim (certificate p.pool (Ready p.pool.view.number d.0 d.1))
      commit-ranged = All-from_recursion IsClaim (certificate p.pool (Ready p.pool.view.number d.0 d.1))
          (certificate-ranged p.pool (Ready p.pool.view.number d.0 d.1)
          (recursion_from_All IsClaim p.pool.heard ok.lawful.pool.in_range))

      view : IsView (next_view p.pool.view d.1.update)
      view = next_is_view p.pool.view d.1.update none ok.lawful.pool.view

-- the view is told
pub installs-reported : (p : Process) (d : ℕ × Value) (v : View) (was now : List code.Note) (n : code.Note) → now ≡ was ++ n ∷ []
    → note n ≡ Installs v → v ≡ next_view p.pool.view d.1.update → ReportsInstalled p (install d p) was now
installs-reported p d v was now n more says is =
    ap (map note) more
    ∙ map-append note was (n ∷ [])
    ∙ ap (λ (x : Note). map note was ++ x ∷ []) (says ∙ ap Installs is)
    ∙ ap (λ b. map note was ++ note_if b (Installs (next_view p.pool.view d.1.update))) (sym longer)
  where
    longer : nat_lt (length p.left) (length (install d p).left) ≡ true
    longer = lt-ltb (length p.left) (length (install d p).left)
        (let one = length-more p.left (record {
          view = p.pool.view;
          delivered = p.delivered;
          commit = certificate p.pool (Ready p.pool.view.number d.0 d.1);
        }) in omega (arith, one))

-- the own messages that were delivered
pub mine-is : (s : Setting) (p : Process) (st : ProcessState) (mine : ℕ) → IsStateOf s p st
    → ((ds : List defs.Delivered) → IsLast (account st.account).delivered ds → mine ≡ delivered_from st.account.me ds)
    → mine ≡ delivered_from p.me p.delivered
mine-is s p st mine ok counts = counts p.delivered (last s p st ok) ∙ ap (λ m. delivered_from m p.delivered)
    (sym (ap (λ (a : Account). a.me) ok.account))

-- the view behind is that which follows, and there is one
pub behind-some : (s : Setting) (p : Process) (d : ℕ × Value) (st : ProcessState) (v : View) (o : Option View) → IsLeaving s p d st
    → o ≡ result_ok (next st.pool.pool.view d.1.update) → o ≡ Some v → v ≡ next_view p.pool.view d.1.update
behind-some s p d st v o leaving is some = go (next_fault st.pool.pool.view d.1.update)
    (sym some ∙ is) ∙ ap (λ (h : defs.Pool). next_view h.view d.1.update) (sym leaving.state.place.pool)
  where
    go : (o : Option UpdateFault) →
        (let it : Result View UpdateFault = elim o [ None ↦ Ok (next_view st.pool.pool.view d.1.update) | Some fault ↦ Err fault ] in Some v
        ≡ result_ok it) → v ≡ next_view st.pool.pool.view d.1.update
    go None e = cc
    go (Some fault) e = absurd cc

pub behind-none : (s : Setting) (p : Process) (d : ℕ × Value) (st : ProcessState) (o : Option View) → IsLeaving s p d st
    → o ≡ result_ok (next st.pool.pool.view d.1.update) → o ≡ None → ⊥
behind-none s p d st o leaving is none =
    let possible = (leaving.state.decided d leaving.decision).possible in
    let fault : next_fault st.pool.pool.view d.1.update
    ≡ None = ap (λ (h : defs.Pool). next_fault h.view d.1.update)
    (sym leaving.state.place.pool) ∙ none-is (next_fault p.pool.view d.1.update)
    (and-first (is_none (next_fault p.pool.view d.1.update)) (has_keys (keyed s) d.1.update) possible) in
    let some : next st.pool.pool.view d.1.update
    ≡ Ok (next_view st.pool.pool.view d.1.update) = ap
    (λ (o : Option UpdateFault). let it : Result View UpdateFault = elim o [
      | None ↦ Ok
          (next_view st.pool.pool.view d.1.update)
      | Some fault ↦ Err fault
    ] in it) fault in
    let clash : None ≡ Some (next_view st.pool.pool.view d.1.update) = sym none ∙ is ∙ ap
    (λ (r : Result View UpdateFault). result_ok r) some in
    cc
