use Rattle.std.proofs.Common.{◌≡◌, ◌++◌, subst, ◌∙◌}
use Rattle.std.specs.Prelude.{codes, IfSome}
use Rattle.audit_claims.proofs.Asked.{after-heads, heads-off}
use Rattle.audit_claims.proofs.known.said_after.Goals as goal

pub returns-clause-some : goal.returns-clause-some
returns-clause-some c =
    subst (λ group. IfSome c.strip_prefix-2.result (λ said. c.args.body.now ≡ codes "RPB1" ++ (group ++ said.now)))
    (c.as_slice.ensures ∙ c.bytes.ensures.value)
    (heads-off (codes "RPB1") c.as_slice.result.now c.args.body.now c.in_ok-strip_prefix.field-0.now c.in_ok-strip_prefix.ensures.cases.0
    c.in_ok-strip_prefix.ensures.cases.1 c.strip_prefix-2.result c.strip_prefix-2.ensures.cases)

pub returns-clause-after : goal.returns-clause-after
returns-clause-after c =
    after-heads c.args.group.now c.args.body.now c.bytes.ensures.length c.strip_prefix-2.result (returns-clause-some c)
