use Rattle.std.proofs.Common.{◌∙◌, ◌≤◌, length, sym, subst, ℕ, List}
use Rattle.group_defs.specs.Views.{quorum}
use Rattle.group_defs.specs.Process as defs
use Rattle.group_defs.specs.Certified as certified
use Rattle.stmt_codec.specs.Views.{stmt, slot}
use Rattle.own_place.specs.Claims.{Holding}
use Rattle.claim_pool.proofs.Few.{enough-backers}
use Rattle.claim_pool.proofs.pool.Pool.certificate.Goals as goal

pub returns-in-Some-clause-enough : goal.returns-in-Some-clause-enough
returns-in-Some-clause-enough g c =
    let h : defs.Pool = c.quorums-quorums.result.now.pool in
    let enough : quorum (certified.number_of_members h) ≤ length c.in-Some.signers =
    subst (λ (ms : List ℕ). quorum (certified.number_of_members h) ≤ length ms) (sym c.in-Some.ensures.signers)
    (enough-backers h (slot c.number.result c.args.slot) (stmt c.in-Some.content) c.in-Some.ensures.value) in
    subst (λ (r : Holding). quorum (certified.number_of_members r.pool) ≤ length c.in-Some.signers)
    (c.quorums-quorums.ensures ∙ c.self.view_is) enough
