use Rattle.std.proofs.Common.{◌-◌, ◌≤◌, ◌∙◌, length, drop, refl, sym, arith}
use Rattle.std.proofs.lemmas.List.{length-take-le}
use Rattle.member_events.specs.Kept.{signatures_left}
use Rattle.rp_base.proofs.Copies.{front_is, rest_is}
use Rattle.member_core.proofs.Handing.{next-short, next-is, some-left, one-more, passed-on}
use Rattle.member_core.proofs.journalled.JournalledSigner.sign.Goals as goal

pub unreachable-requires : goal.unreachable-requires
unreachable-requires c =
    let j = c.args.self.now in
    some-left (signatures_left j.all)
    (signatures_left j.left) j.before j.used j.total j.since j.within j.whole j.rest c.if-self.false c.in_default.ensures.steps.0

pub slice_bounds-copy_from_slice-end : goal.slice_bounds-copy_from_slice-end
slice_bounds-copy_from_slice-end c =
    let j = c.args.self.now in
    let short : length c.in-Some.signature.now
    ≤ 16384 = next-short j.left.left j.left.bytes.now c.in-Some.signature.now (signatures_left c.next.new.self) c.in-Some.ensures.steps in
    let room : 16384 ≤ length c.args.out.now = c.requires in
    omega (arith, short, room)

pub slice_bounds-copy_from_slice-end-2 : goal.slice_bounds-copy_from_slice-end-2
slice_bounds-copy_from_slice-end-2 c =
    let j = c.args.self.now in
    let short : length c.in-Some.signature.now
    ≤ 16384 = next-short j.left.left j.left.bytes.now c.in-Some.signature.now (signatures_left c.next.new.self) c.in-Some.ensures.steps in
    let room : 16384 ≤ length c.args.out.now = c.requires in
    sym (length-take-le (length c.in-Some.signature.now) c.args.out.now (omega (arith, short, room)))

pub copy_from_slice-requires : goal.copy_from_slice-requires
copy_from_slice-requires c =
    let j = c.args.self.now in
    let short : length c.in-Some.signature.now
    ≤ 16384 = next-short j.left.left j.left.bytes.now c.in-Some.signature.now (signatures_left c.next.new.self) c.in-Some.ensures.steps in
    let room : 16384 ≤ length c.args.out.now = c.requires in
    length-take-le (length c.in-Some.signature.now) c.args.out.now (omega (arith, short, room))

pub invariant_of-self : goal.invariant_of-self
invariant_of-self c =
    let j = c.args.self.now in
    let since : j.before ≤ j.used = j.since in
    record {
      since = omega (arith, since);
      within = one-more j.used j.total j.within c.if-self.false;
      whole = j.whole;
      rest = passed-on (signatures_left j.all) (signatures_left j.left)
          (signatures_left c.next.new.self) j.before j.used c.in-Some.signature.now j.since j.rest c.in-Some.ensures.steps;
    }

pub returns-clause-written : goal.returns-clause-written
returns-clause-written c =
    let j = c.args.self.now in
    let sig = c.in-Some.signature.now in
    let more = signatures_left c.next.new.self in (
      next-short j.left.left j.left.bytes.now sig more c.in-Some.ensures.steps,
      front_is (length sig) _ sig (drop (length sig) c.args.out.now) refl c.copy_from_slice.ensures.after ∙ sym
          (next-is (signatures_left j.all) (j.used - j.before) sig more (sym j.rest ∙ c.in-Some.ensures.steps)),
    )

pub returns-clause-rest : goal.returns-clause-rest
returns-clause-rest c =
    let sig = c.in-Some.signature.now in
    rest_is (length sig) _ sig (drop (length sig) c.args.out.now) refl c.copy_from_slice.ensures.after
