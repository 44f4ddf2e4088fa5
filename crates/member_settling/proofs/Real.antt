-- What is known of the state of some process.
use Rattle.std.proofs.Common.{◌≡◌, ℕ, ◌+◌, ◌≤◌, List, [], ◌∷◌, map, length, Some, refl, sym, ap, ◌∙◌, subst, arith, inl, inr}
use Rattle.std.specs.Prelude.{All}
use Rattle.std.specs.List.{AllByRecursion}
use Rattle.std.proofs.lemmas.List.{length-map}
use Rattle.message_defs.specs.Spelling.{IsClaim}
use Rattle.message_defs.specs.Statements.{ReadyAt}
use Rattle.message_defs.specs.Updates.{Value}
use Rattle.group_defs.specs.Process.{Setting, Process, Left, Pool, delivered_from}
use Rattle.group_defs.specs.Certified.{value_at}
use Rattle.group_defs.specs.Accounts.{Account}
use Rattle.pool_laws.proofs.Members.{Mem, All-mem, map-mem, mem-All}
use Rattle.member_state.specs.Parts.{IsRanged, all_signed}
use Rattle.accounts.specs.Views.{account}
use Rattle.member_state.specs.declared.state.ProcessState.{ProcessState}
use Rattle.member_state.specs.States.{IsStateOf}
use Rattle.member_settling.specs.Begun.{IsLast, HasLast}
use Rattle.member_settling.proofs.Bounded.{delivered-few, earlier-few}

by-recursion : {A : Type 0} (P : A → Type 0) (xs : List A) → ((x : A) → Mem x xs → P x) → AllByRecursion P xs
by-recursion P [] each = tt
by-recursion P (x ∷ xs) each = (each x (inl refl), by-recursion P xs (λ y m. each y (inr m)))

module _ (s : Setting) (p : Process) (st : ProcessState) (ok : IsStateOf s p st) where
  pub place : st.own.delivered + 1 ≤ 65535
  place = (let at = ok.place.delivered.places in let few = ok.bounded.now.places in omega (arith, at, few))

  pub counts : All (λ c. c + 16 ≤ 65535) st.own.counts.items
  counts = subst (λ cs. All (λ c. c + 16 ≤ 65535) cs) ok.place.delivered.counts
      (mem-All (λ c. c + 16 ≤ 65535) (map (λ m. delivered_from m p.delivered) p.pool.view.members)
      (λ c there. let m = map-mem (λ m. delivered_from m p.delivered) p.pool.view.members c there in subst (λ c. c + 16 ≤ 65535) m.2
      (let few = delivered-few m.0 p.delivered ok.bounded.now in omega (arith, few))))

  pub last : IsLast (account st.account).delivered p.delivered
  last = record { before = map (λ (v : Left). v.delivered) p.left; is = sym (ap (λ (a : Account). a.delivered) ok.account) }

  pub short-last : HasLast (account st.account).delivered
  short-last = record {
    last = p.delivered;
    is = last;
    short = (let few = ok.bounded.now.messages in let places = ok.bounded.now.places in omega (arith, few, places));
  }

  pub before : (mine : ℕ) → mine ≡ delivered_from p.me p.delivered → st.own.earlier + mine ≤ 4294967295
  before mine is =
      (let few = delivered-few p.me p.delivered ok.bounded.now in
      let all = earlier-few p ok.bounded in
      let left = ok.number in
      let number = ok.lawful.number in
      let same = ok.place.before in
      omega (arith, few, all, left, number, same, is))

  pub ranged : IsRanged st.pool.pool
  ranged = subst IsRanged ok.place.pool
      (by-recursion IsClaim p.pool.heard (λ c m. All-mem IsClaim p.pool.heard c ok.lawful.pool.in_range m))

  pub certified : (d : ℕ × Value) → p.decision ≡ Some d → value_at st.pool.pool (ReadyAt st.pool.pool.view.number d.0) ≡ Some d.1
  certified d e = subst (λ (h : Pool). value_at h (ReadyAt h.view.number d.0) ≡ Some d.1) ok.place.pool (ok.decided d e).certified

  pub order : st.pool.pool.view.number ≡ length st.archive.commits
  order = sym (ap (λ (h : Pool). h.view.number) ok.place.pool) ∙ ok.number ∙ sym
      (length-map p.left (λ (v : Left). all_signed v.commit)) ∙ ap length ok.kept.commits
