use Rattle.std.proofs.Common.{ℕ, List, subst, ◌∙◌}
use Rattle.store_asking.specs.Answers.{Answered, AnsweredInPart}
use Rattle.rampart_cli.proofs.asking.run_ask.Goals as goal

pub returns-in-Ok-clause-answered : goal.returns-in-Ok-clause-answered
returns-in-Ok-clause-answered g c = λ payload asks zero.
    subst (λ (p : List ℕ). Answered p (g.S.Source.left c.args.input.now) (g.S.Source.left c.ask.new.input)
    (g.K.Sink.written c.args.output.now) (g.K.Sink.written c.ask.new.output))
    (c.deref.ensures.value ∙ c.in-Ok.ensures.ask payload asks)
    (c.ask.ensures.answered zero)

pub returns-in-Ok-clause-part : goal.returns-in-Ok-clause-part
returns-in-Ok-clause-part g c = λ payload asks four.
    subst (λ (p : List ℕ). AnsweredInPart p (g.S.Source.left c.args.input.now) (g.S.Source.left c.ask.new.input)
    (g.K.Sink.written c.args.output.now) (g.K.Sink.written c.ask.new.output))
    (c.deref.ensures.value ∙ c.in-Ok.ensures.ask payload asks)
    (c.ask.ensures.part four)
