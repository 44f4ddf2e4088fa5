use Rattle.std.proofs.Common.{ℕ, ◌≤◌, List, sym, ◌∙◌, ap, subst, length}
use Rattle.std.proofs.Math.Logic.{∥∥₁_elim}
use Rattle.std.proofs.Props.{props}
use Rattle.group_defs.specs.Accounts.{Account}
use Rattle.group_defs.specs.Process.{Pool}
use Rattle.rule_laws.specs.Heard.{IsPool}
use Rattle.member_signing.proofs.Few.{accepted-few}
use Rattle.member_signing.proofs.Seated.{counts-length, orders-length}
use Rattle.member_signing.proofs.signing.rule_inputs.Goals as goal

pub returns-clause-stands : goal.returns-clause-stands
returns-clause-stands c s p is =
    let accepted = ap (λ (a : Account). a.accepted) is.account ∙ sym c.as_slice.ensures.value in record {
      pool = subst IsPool is.place.pool is.lawful.pool;
      place = is.place;
      asked = is.asked;
      accepted = accepted;
      few = subst (λ (xs : List (List ℕ)). length xs ≤ 4294967295) accepted (accepted-few p is.bounded is.lawful.number is.number);
      limit = is.limit;
    }

pub returns-clause-seated : goal.returns-clause-seated
returns-clause-seated c real = ∥∥₁_elim real (hlevel props) (λ real.
    let is = real.state in record {
      counts = counts-length real.setting real.process c.args.state.now.pool.pool c.args.state.now.own is.place ∙ ap
          (λ (h : Pool). length h.view.members) is.place.pool;
      orders = orders-length real.setting real.process c.args.state.now.pool.pool c.args.state.now.own is.place ∙ ap
          (λ (h : Pool). length h.view.members) is.place.pool;
      some = subst (λ (n : ℕ). 1 ≤ n) is.limit is.some;
      few = subst (λ (n : ℕ). n ≤ 16) is.limit is.lawful.batches;
    })
