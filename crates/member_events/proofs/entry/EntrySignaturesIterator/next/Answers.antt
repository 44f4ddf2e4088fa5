use Rattle.std.proofs.Common.{arith, ap, length}
use Rattle.member_events.proofs.Keeping.{none_kept, kept_lends, kept_stands}
use Rattle.member_events.proofs.entry.EntrySignaturesIterator.next.Goals as goal

pub returns-then-self-eq0-clause-steps : goal.returns-then-self-eq0-clause-steps
returns-then-self-eq0-clause-steps c = let none = none_kept c.args.self.now.bytes.now c.args.self.now.left c.if-self-eq0.true in (
  none,
  none,
)

pub unreachable-requires : goal.unreachable-requires
unreachable-requires c = kept_stands c.args.self.now.left c.args.self.now.bytes.now c.if-self-eq0.false c.args.self.now.readable
    c.in_default.ensures

pub invariant_of-self : goal.invariant_of-self
invariant_of-self c = record {
  readable =
      (kept_lends c.args.self.now.left c.args.self.now.bytes.now _ _ c.if-self-eq0.false c.args.self.now.readable c.in-Some.ensures).readable;
}

pub returns-clause-steps : goal.returns-clause-steps
returns-clause-steps c = (kept_lends c.args.self.now.left c.args.self.now.bytes.now _ _ c.if-self-eq0.false c.args.self.now.readable
    c.in-Some.ensures).items

pub returns-clause-goes : goal.returns-clause-goes
returns-clause-goes c =
    let items = (kept_lends c.args.self.now.left c.args.self.now.bytes.now _ _ c.if-self-eq0.false c.args.self.now.readable
    c.in-Some.ensures).items in
    let shorter = ap length items in
    record { on = λ _. (tt, tt, omega (arith, shorter)); keeps = tt; rests = λ _. tt }
