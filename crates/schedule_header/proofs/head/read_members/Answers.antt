use Rattle.std.proofs.Common.{arith, ◌∷◌, [], length-append}
use Rattle.std.proofs.lemmas.Result.{err_from_is_err_and}
use Rattle.byte_defs.specs.Members.{has}
use Rattle.schedule_header.proofs.Processes.{one_member, no_member, all_members}
use Rattle.schedule_header.proofs.head.read_members.Goals as goal

pub returns-in_err-member : goal.returns-in_err-member
returns-in_err-member c =
    let p = err_from_is_err_and c.from_residual.result c.from_residual.ensures.1 in
    rw (p.1, p.2) (no_member c.args.count c.members.counter
    (has c.args.listed) c.members.members.items c.members.reader.rest.now c.in_err-member.field-0.0 _ c.members-test.true
    (rw c.deref.ensures.0 at c.in_err-member.ensures) c.members.invariant.so_far)

pub members-preserved : goal.members-preserved
members-preserved c = record {
  so_far = rw c.push.ensures.items
      (one_member c.args.count c.members.counter
      (has c.args.listed) c.members.members.items c.members.reader.rest.now c.in_ok-member.member _ _ c.members-test.true
      (rw c.deref.ensures.0 at c.in_ok-member.ensures) c.members.invariant.so_far);
  size = rw c.push.ensures.items (omega (arith, length-append c.members.members.items (c.in_ok-member.member ∷ [])));
}

pub returns : goal.returns
returns c = all_members c.args.count c.members.counter
    (has c.args.listed) c.members.members.items c.members.reader.rest.now _ c.members-test.false c.members.invariant.so_far
