use Rattle.std.proofs.Common.{◌||◌, refl, ap, ◌∙◌}
use Rattle.said_index.specs.Said.{is_said, is_among_claims}
use Rattle.replay_cast.proofs.Turns.{stepped}
use Rattle.replay_cast.proofs.player.Player.step.Goals as goal

pub returns : goal.returns
returns c = λ s d plays valid.
    let old = c.args.self.now in
    stepped s d old _ c.args.event.now c.in_ok-outcome.outcome plays
    (c.in_ok-outcome.ensures.steps s d.now plays.core.is valid) c.step.ensures.total c.step.ensures.secret
    refl
    (λ x. c.in_ok-add_all.ensures x ∙ ap (λ ws. is_said x old.said || is_among_claims x ws) c.deref.ensures.value)
