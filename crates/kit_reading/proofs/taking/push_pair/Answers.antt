use Rattle.std.proofs.Common.{List, ℕ, refl, ap, arith}
use Rattle.sig_scheme.specs.Views.{secret}
use Rattle.kit_reading.proofs.Lasts.{last_with_pair, last_as_it_was, on_err}
use Rattle.kit_reading.proofs.taking.push_pair.Goals as goal

pub returns-in_err-push-clause-unchanged : goal.returns-in_err-push-clause-unchanged
returns-in_err-push-clause-unchanged c =
    let h = c.in-Some.host.now in
    on_err c.from_residual.result (last_as_it_was c.args.all.now.items _ h _ c.in-Some.ensures.value
    (ap (λ (ps : List (ℕ × List ℕ)). record { process = h.process; secret = secret h.secret; pairs = ps }) c.in_err-push.ensures.items))

pub returns-in_ok-push-clause-pushed : goal.returns-in_ok-push-clause-pushed
returns-in_ok-push-clause-pushed c =
    let h = c.in-Some.host.now in
    last_with_pair (c.args.other, c.args.key) c.args.all.now.items _ h _
    (omega (arith, c.args.all.now.ok.0, c.in-Some.ensures.variant.0 refl)) c.in-Some.ensures.value
    (ap (λ (ps : List (ℕ × List ℕ)). record { process = h.process; secret = secret h.secret; pairs = ps }) c.in_ok-push.ensures.items)
