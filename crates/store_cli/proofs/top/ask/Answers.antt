use Rattle.std.proofs.Common.{ℕ, List, subst, ◌∙◌}
use Rattle.store_questions.specs.Running.{IsMade, IsNotMade, Made}
use Rattle.store_questions.specs.Running as questions
use Rattle.store_cli.proofs.top.ask.Goals as goal

pub returns-clause-asked : goal.returns-clause-asked
returns-clause-asked g c = λ payload asks zero.
    subst (λ (p : List ℕ). Made p (g.S.Source.left c.args.input.now) (g.S.Source.left c.write_question.new.input)
    (g.K.Sink.written c.args.output.now) (g.K.Sink.written c.write_question.new.output))
    (c.deref.ensures.value ∙ c.in-Ok.ensures.ask payload asks)
    (c.write_question.ensures.made zero)

pub returns-clause-asked_in_part : goal.returns-clause-asked_in_part
returns-clause-asked_in_part g c = λ payload asks four.
    subst (λ (p : List ℕ). questions.MadeInPart p (g.S.Source.left c.args.input.now) (g.S.Source.left c.write_question.new.input)
    (g.K.Sink.written c.args.output.now) (g.K.Sink.written c.write_question.new.output))
    (c.deref.ensures.value ∙ c.in-Ok.ensures.ask payload asks)
    (c.write_question.ensures.part four)

pub returns-clause-faulty : goal.returns-clause-faulty
returns-clause-faulty g c = λ payload asks seven.
    subst (λ (p : List ℕ). questions.Refused p (g.S.Source.left c.args.input.now) (g.S.Source.left c.write_question.new.input)
    (g.E.Sink.written c.args.errors.now) (g.E.Sink.written c.write_question.new.errors)
    (g.E.Sink.faults c.args.errors.now) (g.E.Sink.faults c.write_question.new.errors))
    (c.deref.ensures.value ∙ c.in-Ok.ensures.ask payload asks)
    (c.write_question.ensures.refused seven)
