use Rattle.std.proofs.Common.{◌∙◌, [], sym, ap}
use Rattle.std.specs.Option.{option_map_or}
use Rattle.std.proofs.Math.Logic.{∥∥₁_elim}
use Rattle.std.proofs.Props.{props}
use Rattle.group_defs.specs.Accounts.{Account}
use Rattle.group_defs.specs.Process.{Pool}
use Rattle.image_defs.specs.Images.{by_signer}
use Rattle.member_settling.proofs.Below.{claims-once}
use Rattle.member_settling.proofs.Real.{order, ranged}
use Rattle.state_image.proofs.Parts.{commits-once, commits-ranged, left-by, pairs-once, pairs-ranged, previous-ranged}
use Rattle.state_image.proofs.whole.image_in.Goals as goal

pub left_views-requires-clause-count : goal.left_views-requires-clause-count
left_views-requires-clause-count c = ∥∥₁_elim c.requires (hlevel props)
    (λ real. c.number.ensures.value ∙ ap (λ v. v.number) c.view.ensures ∙ order real.setting real.process c.args.state.now real.state)

pub left_views-requires-clause-each : goal.left_views-requires-clause-each
left_views-requires-clause-each c = ∥∥₁_elim c.requires (commits-once c.args.state.now.archive.commits)
    (λ real. commits-ranged real.setting real.process c.args.state.now real.state)

pub heard_before-requires : goal.heard_before-requires
heard_before-requires c = λ h e. ∥∥₁_elim c.requires (claims-once h.heard)
    (λ real. previous-ranged real.setting real.process c.args.state.now real.state h e)

pub heard_in-requires : goal.heard_in-requires
heard_in-requires c = ∥∥₁_elim c.requires (claims-once c.args.state.now.pool.pool.heard)
    (λ real. ranged real.setting real.process c.args.state.now real.state)

pub conflicts_in-requires : goal.conflicts_in-requires
conflicts_in-requires c = ∥∥₁_elim c.requires (pairs-once c.args.state.now.conflicts.pairs)
    (λ real. pairs-ranged real.setting real.process c.args.state.now real.state)

pub returns : goal.returns
returns c = λ s p is.
    λ i. record {
      me = sym is.place.number i;
      left = (c.in_ok-left.ensures ∙ left-by s p c.args.state.now is) i;
      perceived = (c.in_ok-reported.ensures.perceived ∙ ap (λ (a : Account). a.perceived) (sym is.account)) i;
      accepted = (c.in_ok-reported.ensures.accepted ∙ ap (λ (a : Account). a.accepted) (sym is.account)) i;
      signed = c.in_ok-signed.ensures s p is i;
      previous = (c.in_ok-previous.ensures ∙ ap (λ o. option_map_or (λ (h : Pool). h.heard) o []) (sym is.kept.previous)) i;
      heard = (c.in_ok-heard.ensures ∙ ap (λ (h : Pool). h.heard) (sym is.place.pool)) i;
      conflicts = (c.in_ok-conflicts.ensures ∙ ap by_signer (sym is.pairs)) i;
      delivered = (c.in_ok-reported.ensures.delivered ∙ ap (λ (a : Account). a.delivered) (sym is.account)) i;
      decision = sym (c.decision_in.ensures p is.phase) i;
      halted = sym (c.is_halted.ensures p is.phase) i;
    }
