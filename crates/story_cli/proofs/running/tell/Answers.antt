use Rattle.std.proofs.Common.{◌≡◌, ◌⊎◌, ◌∙◌, ℕ, List, subst}
use Rattle.rp_base.specs.Streams.{WritesLine}
use Rattle.story_cli.proofs.Stopped.{says_none}
use Rattle.story_cli.proofs.running.tell.Goals as goal

pub returns-clause-quiet : goal.returns-clause-quiet
returns-clause-quiet g c = λ which.
    says_none c.args.stop (g.E.Sink.written c.args.errors.now) (g.E.Sink.written c.say.new.errors)
    (g.E.Sink.faults c.args.errors.now) (g.E.Sink.faults c.say.new.errors)
    (subst (λ (n : ℕ). (n ≡ 0) ⊎ (n ≡ 1) ⊎ (n ≡ 4)) c.status-2.ensures which)
    (subst (λ (line : List ℕ). WritesLine line (g.E.Sink.written c.args.errors.now) (g.E.Sink.written c.say.new.errors)
    (g.E.Sink.faults c.args.errors.now) (g.E.Sink.faults c.say.new.errors))
    (c.deref.ensures.value ∙ c.in-Ok.ensures.text) c.say.ensures)
