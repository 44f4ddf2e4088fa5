use Rattle.std.proofs.Common.{◌≡◌, ◌≤◌, false, true, arith}
use Rattle.statements.specs.Views.{carried}
use Rattle.stmt_codec.proofs.Lending.{no_fault, signer_stands, no_claim_left, same_claims, group_lends}
use Rattle.stmt_codec.proofs.cursor.first_of.Goals as goal

pub returns-in_default : goal.returns-in_default
returns-in_default c =
    let none = no_claim_left (carried c.args.carrier) c.args.begun.now.statement.now _ c.in_default.ensures.steps.0 c.requires in (
      none,
      same_claims (carried c.args.carrier) c.args.begun.now.statement.now _ _ c.in_default.ensures.steps.1 c.in_default.ensures.steps.0
          none,
    )

pub unreachable-requires : goal.unreachable-requires
unreachable-requires c = let few : c.in-Some.signer
    ≤ 63 = signer_stands (carried c.args.carrier) c.args.begun.now.statement.now _ _ _ c.in-Some.ensures.steps c.requires in
    let none : false ≡ true = c.in_default-new.ensures.exactly.1 (omega arith) in
    cc

pub unreachable-requires-in_default-read_carried : goal.unreachable-requires-in_default-read_carried
unreachable-requires-in_default-read_carried c = no_fault
    (carried c.args.carrier) c.args.begun.now.statement.now _ _ c.requires c.in_default-read_carried.ensures

pub returns : goal.returns
returns c = group_lends (carried c.args.carrier) c.args.begun.now.statement.now _ _ _ _ _ c.in-Ok.ensures c.in-Some.ensures.steps
    c.in-Some-new.ensures.value c.requires
