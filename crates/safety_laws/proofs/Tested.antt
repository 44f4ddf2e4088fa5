-- What the report computes of the premises says them.
use Rattle.std.proofs.Common.{◌≡◌, ◌≤◌, length, Bool, true, refl, sym, subst}
use Rattle.std.specs.Prelude.{◌||◌, ◌==◌, not, nat_le, All, Contains}
use Rattle.std.specs.List.{list_any, list_all}
use Rattle.std.proofs.lemmas.Bool.{eqb-true, eq-eqb, leb-true, le-leb}
use Rattle.group_defs.specs.Views.{View, faulty}
use Rattle.group_defs.specs.Below.{Claim, same_statement}
use Rattle.group_defs.specs.Process.{Process}
use Rattle.group_defs.specs.Hearing.{is_valid}
use Rattle.group_defs.specs.Accounts.{Account, corrupt_in, BoundedIsTested}
use Rattle.group_defs.specs.Family.{Family, ends, handed, statements_of, IsOwned, HonestIsTested}
use Rattle.pool_laws.proofs.Members.{Contains-mem, Mem, all-tested, list_any-mem, mem-Contains, mem-list_any, tested-all}
use Rattle.pool_laws.proofs.Slots.{is-same_statement, same_statement-is}
use Rattle.pool_laws.proofs.Tests.{implied, implies}

pub bounded_is_tested : BoundedIsTested
bounded_is_tested accounts correct = (
  tested-all (λ a. list_all (λ v. nat_le (corrupt_in correct v) (faulty (length v.members))) a.views)
      (λ (a : Account). All (λ v. corrupt_in correct v ≤ faulty (length v.members)) a.views) accounts
      (λ a e. tested-all (λ v. nat_le (corrupt_in correct v) (faulty (length v.members)))
      (λ (v : View). corrupt_in correct v ≤ faulty (length v.members)) a.views (λ v e. leb-true _ _ e) e),
  all-tested (λ a. list_all (λ v. nat_le (corrupt_in correct v) (faulty (length v.members))) a.views)
      (λ (a : Account). All (λ v. corrupt_in correct v ≤ faulty (length v.members)) a.views) accounts
      (λ a all. all-tested (λ v. nat_le (corrupt_in correct v) (faulty (length v.members)))
      (λ (v : View). corrupt_in correct v ≤ faulty (length v.members)) a.views (λ v le. le-leb _ _ le) all),
)

module _ (f : Family) (c : Claim) where
  abbrev own_test : Process → Bool
  own_test p = not (p.me == c.signer) || list_any (same_statement c.statement) (statements_of p)

  abbrev IsOwn : Process → Type 0
  IsOwn p = p.me ≡ c.signer → Contains (statements_of p) c.statement

  own-there : (p : Process) → own_test p ≡ true → IsOwn p
  own-there p e is =
      let found = list_any-mem (same_statement c.statement) (statements_of p)
      (implied (p.me == c.signer) (list_any (same_statement c.statement) (statements_of p)) e (eq-eqb p.me c.signer is)) in
      mem-Contains (statements_of p) c.statement
      (subst (λ st. Mem st (statements_of p)) (sym (same_statement-is c.statement found.0 found.2)) found.1)

  there-own : (p : Process) → IsOwn p → own_test p ≡ true
  there-own p own = implies (p.me == c.signer) (list_any (same_statement c.statement) (statements_of p)) (λ e.
      mem-list_any (same_statement c.statement)
      (statements_of p) c.statement (Contains-mem (statements_of p) c.statement (own (eqb-true p.me c.signer e)))
      (is-same_statement c.statement c.statement refl))

pub honest_is_tested : HonestIsTested
honest_is_tested f = (
  tested-all (λ c. not (is_valid f.setting c) || list_all (own_test f c) (ends f)) (IsOwned f) (handed f)
      (λ c e valid. tested-all (own_test f c) (IsOwn f c) (ends f) (own-there f c)
      (implied (is_valid f.setting c) (list_all (own_test f c) (ends f)) e valid)),
  all-tested (λ c. not (is_valid f.setting c) || list_all (own_test f c) (ends f)) (IsOwned f) (handed f)
      (λ c owned. implies (is_valid f.setting c) (list_all (own_test f c) (ends f))
      (λ valid. all-tested (own_test f c) (IsOwn f c) (ends f) (there-own f c) (owned valid))),
)
