use Rattle.std.proofs.Common.{◌∙◌, sym}
use Rattle.member_events.specs.Below.{claim as claim_of}
use Rattle.guard_service.proofs.Packed.{both-claims, not-packed}
use Rattle.guard_service.proofs.packing.bundle_of.Goals as goal

pub returns-then-not-can_both : goal.returns-then-not-can_both
returns-then-not-can_both c =
    not-packed (claim_of c.args.first.now) (claim_of c.args.second.now) (sym c.can_both.ensures ∙ c.if-not-can_both.true)

pub pack_both-requires-clause-first : goal.pack_both-requires-clause-first
pack_both-requires-clause-first c =
    (both-claims (claim_of c.args.first.now) (claim_of c.args.second.now) (sym c.can_both.ensures ∙ c.if-not-can_both.false)).0

pub pack_both-requires-clause-second : goal.pack_both-requires-clause-second
pack_both-requires-clause-second c =
    (both-claims (claim_of c.args.first.now) (claim_of c.args.second.now) (sym c.can_both.ensures ∙ c.if-not-can_both.false)).1

pub returns : goal.returns
returns c =
    let both = both-claims (claim_of c.args.first.now) (claim_of c.args.second.now) (sym c.can_both.ensures ∙ c.if-not-can_both.false) in
    (both.0, both.1, c.in_ok-frame.ensures.frame, c.in_ok-frame.ensures.short)
