use Rattle.std.proofs.Common.{◌≡◌, [], ◌<◌, ◌∙◌, sym, ap, arith}
use Rattle.std.specs.Int.{trailing_zeros, w64}
use Rattle.std.proofs.lemmas.Nat.Bits.{bit_at-trailing_zeros}
use Rattle.rp_base.specs.Pids.{members}
use Rattle.rp_base.proofs.Members.{members_none, take_member, first_taken}
use Rattle.rp_base.proofs.pid_set.PidSet.pop_first.Goals as goal

pub returns-then-self-eq0 : goal.returns-then-self-eq0
returns-then-self-eq0 c =
    let empty : c.args.self.now ≡ [] = sym c.self.view_is ∙ ap members c.if-self-eq0.true ∙ members_none in
    (empty, empty)

pub returns : goal.returns
returns c =
    let some : 0 < c.self.inside.0 = omega (arith, c.if-self-eq0.false) in
    first_taken c.new.result (trailing_zeros w64 c.self.inside.0) _ _ c.new.ensures.value c.new.ensures.exactly
    (bit_at-trailing_zeros w64 c.self.inside.0 some c.self.invariant).0
    (sym c.self.view_is ∙ take_member c.self.inside.0 some c.self.invariant)
