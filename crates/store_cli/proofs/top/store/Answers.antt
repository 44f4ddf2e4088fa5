use Rattle.std.proofs.Common.{inl, inr, refl, sym, subst, arith, ◌∙◌}
use Rattle.store_text_defs.specs.declared.Filter.{Filter}
use Rattle.store_cli.specs.Running.{HasFault, HasOutput, MadeInPart, RefusedAndSays, SomeMade}
use Rattle.store_cli.proofs.OneWord.{not_two}
use Rattle.store_cli.proofs.Statuses.{at_fault, at_read, at_write, fault_or_memory, faultless, faulty, memory_alone, no_other, no_read, no_write, only, part_made, quiet_so, refused_and_says, refused_so, nothing, same_filter, some_made, stopped_so}
use Rattle.store_cli.proofs.top.store.Goals as goal

pub returns-in-Err-clause-done : goal.returns-in-Err-clause-done
returns-in-Err-clause-done g c = λ filter asks zero. absurd (no_other _ _ _ _ _ c.in-Err.stop _ 0 c.tell.ensures zero (inl refl))

pub returns-in-Err-clause-some : goal.returns-in-Err-clause-some
returns-in-Err-clause-some g c = λ filter asks which.
    subst (λ (x : Filter). SomeMade x (g.S.Source.left c.args.input.now) (g.S.Source.left c.run.new.input)
    (g.K.Sink.written c.args.output.now) (g.K.Sink.written c.run.new.output))
    (same_filter _ filter (c.in-Some.ensures.only filter asks))
    (some_made _ _ _ _ _ _ _ _ _ _ c.in-Err.stop _ c.tell.ensures which c.in-Err.ensures.ran)

pub returns-in-Err-clause-read : goal.returns-in-Err-clause-read
returns-in-Err-clause-read g c = λ three. c.in-Err.ensures.read (stopped_so _ _ (at_read _ _ _ _ _ c.in-Err.stop _ c.tell.ensures three).0)

pub returns-in-Err-clause-no_read : goal.returns-in-Err-clause-no_read
returns-in-Err-clause-no_read g c = λ other. no_read _ _ _ _ _ c.in-Err.stop _ c.tell.ensures c.in-Err.ensures.no_read other

pub returns-in-Err-clause-read_line : goal.returns-in-Err-clause-read_line
returns-in-Err-clause-read_line g c = λ three. (at_read _ _ _ _ _ c.in-Err.stop _ c.tell.ensures three).1

pub returns-in-Err-clause-words : goal.returns-in-Err-clause-words
returns-in-Err-clause-words g c = (
  λ two. absurd (no_other _ _ _ _ _ c.in-Err.stop _ 2 c.tell.ensures two (inr refl)),
  λ none. absurd (none (inl (c.in-Some.filter, c.in-Some.ensures.found))),
)

pub returns-in-Err-clause-unread : goal.returns-in-Err-clause-unread
returns-in-Err-clause-unread g c = λ two. absurd (no_other _ _ _ _ _ c.in-Err.stop _ 2 c.tell.ensures two (inr refl))

pub returns-in-Err-clause-words_line : goal.returns-in-Err-clause-words_line
returns-in-Err-clause-words_line g c = λ two. absurd (no_other _ _ _ _ _ c.in-Err.stop _ 2 c.tell.ensures two (inr refl))

pub returns-in-Err-clause-write : goal.returns-in-Err-clause-write
returns-in-Err-clause-write g c = λ four. c.in-Err.ensures.write (stopped_so _ _ (at_write _ _ _ _ _ c.in-Err.stop _ c.tell.ensures four))

pub returns-in-Err-clause-no_write : goal.returns-in-Err-clause-no_write
returns-in-Err-clause-no_write g c = λ other. no_write _ _ _ _ _ c.in-Err.stop _ c.tell.ensures c.in-Err.ensures.no_write other

pub returns-in-Err-clause-part : goal.returns-in-Err-clause-part
returns-in-Err-clause-part g c = λ filter asks four.
    subst (λ (x : Filter). MadeInPart x (g.S.Source.left c.args.input.now) (g.S.Source.left c.run.new.input)
    (g.K.Sink.written c.args.output.now) (g.K.Sink.written c.run.new.output))
    (same_filter _ filter (c.in-Some.ensures.only filter asks))
    (part_made _ _ _ _ _ c.in-Err.stop (at_write _ _ _ _ _ c.in-Err.stop _ c.tell.ensures four) c.in-Err.ensures.ran)

pub returns-in-Err-clause-refused : goal.returns-in-Err-clause-refused
returns-in-Err-clause-refused g c = λ filter asks seven.
    let at = at_fault _ _ _ _ _ c.in-Err.stop _ c.tell.ensures seven in
    subst (λ (x : Filter). RefusedAndSays x (g.S.Source.left c.args.input.now) (g.S.Source.left c.run.new.input)
    (g.K.Sink.written c.args.output.now) (g.K.Sink.written c.run.new.output)
    (g.E.Sink.written c.args.errors.now) (g.E.Sink.written c.tell.new.errors)
    (g.E.Sink.faults c.args.errors.now) (g.E.Sink.faults c.tell.new.errors))
    (same_filter _ filter (c.in-Some.ensures.only filter asks))
    (refused_and_says _ _ _ _ _ _ _ _ _ c.in-Err.stop at.0 at.1 c.in-Err.ensures.ran at.2)

pub returns-in-Err-clause-quiet : goal.returns-in-Err-clause-quiet
returns-in-Err-clause-quiet g c = quiet_so _ _ _ _ _ c.in-Err.stop _ c.tell.ensures

pub returns-in-Err-clause-completes : goal.returns-in-Err-clause-completes
returns-in-Err-clause-completes g c = λ filter asks has calm calm_sink.
    let same = same_filter _ filter (c.in-Some.ensures.only filter asks) in
    let needs = subst (λ (x : Filter). HasOutput x (g.S.Source.left c.args.input.now)) (sym same) has in
    memory_alone _ _ _ _ _ c.in-Err.stop _ c.tell.ensures
    (λ is. calm (c.in-Err.ensures.read (stopped_so _ _ is)))
    (λ is. calm_sink (c.in-Err.ensures.write (stopped_so _ _ is)))
    (λ number is. faultless _ _ _ _ _ c.one_outcome.ensures _ refl needs number (refused_so _ _ _ _ _ c.in-Err.stop number is c.in-Err.ensures.ran))

pub returns-in-Err-clause-refuses : goal.returns-in-Err-clause-refuses
returns-in-Err-clause-refuses g c = λ filter asks has calm calm_sink.
    fault_or_memory _ _ _ _ _ c.in-Err.stop _ c.tell.ensures
    (λ is. calm (c.in-Err.ensures.read (stopped_so _ _ is)))
    (λ is. calm_sink (c.in-Err.ensures.write (stopped_so _ _ is)))

pub returns-in-Err-clause-only : goal.returns-in-Err-clause-only
returns-in-Err-clause-only g c = only _ _ _ _ _ c.in-Err.stop _ c.tell.ensures

pub returns-in-Ok-clause-refuses : goal.returns-in-Ok-clause-refuses
returns-in-Ok-clause-refuses g c = λ filter asks has calm calm_sink.
    let same = same_filter _ filter (c.in-Some.ensures.only filter asks) in
    let needs = subst (λ (x : Filter). HasFault x (g.S.Source.left c.args.input.now)) (sym same) has in
    absurd (faulty _ _ _ _ _ c.one_outcome.ensures _ refl needs c.in-Ok.ensures.ran)

pub returns-in-Err-clause-asked : goal.returns-in-Err-clause-asked
returns-in-Err-clause-asked g c = λ payload asks zero. not_two _ _ _ _ c.in-Some.ensures.found asks.spelled

pub returns-in-Err-clause-asked_in_part : goal.returns-in-Err-clause-asked_in_part
returns-in-Err-clause-asked_in_part g c = λ payload asks four. not_two _ _ _ _ c.in-Some.ensures.found asks.spelled

pub returns-in-Err-clause-faulty : goal.returns-in-Err-clause-faulty
returns-in-Err-clause-faulty g c = λ payload asks seven. not_two _ _ _ _ c.in-Some.ensures.found asks.spelled

pub returns-in-Err-clause-asks : goal.returns-in-Err-clause-asks
returns-in-Err-clause-asks g c = λ payload asks is calm calm_sink. not_two _ _ _ _ c.in-Some.ensures.found asks.spelled

pub returns-in-Err-clause-asks_not : goal.returns-in-Err-clause-asks_not
returns-in-Err-clause-asks_not g c = λ payload asks is calm. not_two _ _ _ _ c.in-Some.ensures.found asks.spelled

pub returns-in-Err-clause-unwritten : goal.returns-in-Err-clause-unwritten
returns-in-Err-clause-unwritten g c = λ asks which. not_two _ _ _ _ c.in-Some.ensures.found asks.1.spelled

pub returns-in-Ok-clause-asked : goal.returns-in-Ok-clause-asked
returns-in-Ok-clause-asked g c = λ payload asks zero. not_two _ _ _ _ c.in-Some.ensures.found asks.spelled

pub returns-in-Ok-clause-asked_in_part : goal.returns-in-Ok-clause-asked_in_part
returns-in-Ok-clause-asked_in_part g c = λ payload asks four. not_two _ _ _ _ c.in-Some.ensures.found asks.spelled

pub returns-in-Ok-clause-faulty : goal.returns-in-Ok-clause-faulty
returns-in-Ok-clause-faulty g c = λ payload asks seven. not_two _ _ _ _ c.in-Some.ensures.found asks.spelled

pub returns-in-Ok-clause-asks : goal.returns-in-Ok-clause-asks
returns-in-Ok-clause-asks g c = λ payload asks is calm calm_sink. not_two _ _ _ _ c.in-Some.ensures.found asks.spelled

pub returns-in-Ok-clause-asks_not : goal.returns-in-Ok-clause-asks_not
returns-in-Ok-clause-asks_not g c = λ payload asks is calm. not_two _ _ _ _ c.in-Some.ensures.found asks.spelled

pub returns-in-Ok-clause-unwritten : goal.returns-in-Ok-clause-unwritten
returns-in-Ok-clause-unwritten g c = λ asks which. not_two _ _ _ _ c.in-Some.ensures.found asks.1.spelled

pub returns-in-Ok-clause-words : goal.returns-in-Ok-clause-words
returns-in-Ok-clause-words g c = (λ two. absurd (omega (arith, two)), λ none. absurd (none (inl (c.in-Some.filter, c.in-Some.ensures.found))))

pub returns-in_default-clause-words : goal.returns-in_default-clause-words
returns-in_default-clause-words g c = (
  λ two any. elim any [
    | inl f ↦ absurd (nothing f.0 (sym c.in_default.is ∙ c.filter_of.ensures.only f.0 f.1))
    | inr asks ↦ c.ask.ensures.words.0 two asks
  ],
  λ none. c.ask.ensures.words.1 (λ asks. none (inr asks)),
)
