use Rattle.std.proofs.Common.{arith, ap, length}
use Rattle.frame_codec.proofs.Items.{no_groups, group_lends, group_stands}
use Rattle.frame_codec.proofs.groups.GroupsIterator.next.Goals as goal

pub returns-then-self-eq0-clause-steps : goal.returns-then-self-eq0-clause-steps
returns-then-self-eq0-clause-steps c = let none = no_groups c.args.self.now.bytes.now c.args.self.now.left c.if-self-eq0.true in (
  none,
  none,
)

pub unreachable-requires : goal.unreachable-requires
unreachable-requires c = group_stands c.args.self.now.left c.args.self.now.bytes.now _ c.if-self-eq0.false c.args.self.now.readable
    c.in_default.ensures

pub invariant_of-self : goal.invariant_of-self
invariant_of-self c = record {
  readable =
      (group_lends c.args.self.now.left c.args.self.now.bytes.now _ _ c.if-self-eq0.false c.args.self.now.readable c.in-Ok.ensures).readable;
}

pub returns-clause-steps : goal.returns-clause-steps
returns-clause-steps c = (group_lends c.args.self.now.left c.args.self.now.bytes.now _ _ c.if-self-eq0.false c.args.self.now.readable
    c.in-Ok.ensures).items

pub returns-clause-goes : goal.returns-clause-goes
returns-clause-goes c =
    let items = (group_lends c.args.self.now.left c.args.self.now.bytes.now _ _ c.if-self-eq0.false c.args.self.now.readable
    c.in-Ok.ensures).items in
    let shorter = ap length items in
    record { on = λ _. (tt, tt, omega (arith, shorter)); keeps = tt; rests = λ _. tt }
