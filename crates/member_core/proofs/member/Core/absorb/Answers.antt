use Rattle.std.proofs.Common.{◌+◌, ◌≤◌, ◌∙◌, sym, arith}
use Rattle.member_events.specs.Kept.{signatures_left}
use Rattle.member_signing.specs.States.{event}
use Rattle.member_core.specs.Cores.{IsCore, left_of}
use Rattle.member_core.proofs.Absorbed.{absorbs-so}
use Rattle.member_core.proofs.member.Core.absorb.Goals as goal

pub returns-clause-absorbs : goal.returns-clause-absorbs
unfolding IsCore
returns-clause-absorbs g c s p is rule =
    let used = g.G.Tally.used in
    let left = left_of used g.G.Tally.total c.args.self.now in
    let few : c.in-Some.count ≤ left = (let a = c.in-Some.ensures in let v = c.left.ensures.value in omega (arith, a.0, a.1, v)) in
    let got = c.in-Ok.ensures.absorbs s p left is.keyless rule (is.signed ∙ sym c.used-used.ensures.value) few in
    absorbs-so s p (event c.args.entry.now.event) (signatures_left c.args.entry.now.signatures) used left
    (c.used-used.result + c.in-Some.count) c.args.entry.now.spent
    (record { keyless = c.retake.new.self; signer = c.skip_to.new.self })
    c.in-Ok.outcome got.0 got.1 (sym c.skip_to.ensures.used)

pub returns-in-Err-clause-only : goal.returns-in-Err-clause-only
unfolding IsCore
returns-in-Err-clause-only g c s p is rule agrees =
    c.in-Err.ensures.only s p (left_of g.G.Tally.used g.G.Tally.total c.args.self.now) is.keyless rule
    (is.signed ∙ sym c.used-used.ensures.value) agrees

pub returns-in-Err-clause-lost : goal.returns-in-Err-clause-lost
unfolding IsCore
returns-in-Err-clause-lost g c s p is = record { keyless = c.in-Err.ensures.lost s p is.keyless; signed = is.signed }
