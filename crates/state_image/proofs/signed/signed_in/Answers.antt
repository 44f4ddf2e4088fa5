use Rattle.std.proofs.Common.{◌++◌, drop, sym, ap, ◌∙◌, subst}
use Rattle.std.specs.List.{AllByRecursion}
use Rattle.std.proofs.Math.Logic.{∥∥₁_elim}
use Rattle.message_defs.specs.Spelling.{IsClaim}
use Rattle.state_image.specs.States.{claims_of}
use Rattle.member_settling.proofs.Below.{claims-once}
use Rattle.state_image.proofs.Parts.{signed-parts}
use Rattle.state_image.proofs.signed.signed_in.Goals as goal

pub keep_before-requires : goal.keep_before-requires
keep_before-requires c = ∥∥₁_elim c.requires (claims-once (claims_of c.deref.result.now))
    (λ real. subst (λ ls. AllByRecursion IsClaim (claims_of ls)) (sym c.deref.ensures.value)
    (signed-parts real.setting real.process c.args.state.now real.state).0)

pub keep_from-requires : goal.keep_from-requires
keep_from-requires c = ∥∥₁_elim c.requires (claims-once (drop c.args.state.now.said_from c.args.state.now.said.claims))
    (λ real. (signed-parts real.setting real.process c.args.state.now real.state).1)

pub returns : goal.returns
returns c = λ s p is.
    c.in_ok-keep_from.ensures
    ∙ ap (λ ys. ys ++ drop c.args.state.now.said_from c.args.state.now.said.claims)
    (c.in_ok-keep_before.ensures ∙ (λ i. c.in_ok-kept.ensures.items i ++ claims_of (c.deref.ensures.value i)))
    ∙ sym is.signed.whole
