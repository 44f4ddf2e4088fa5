use Rattle.std.proofs.Common.{ℕ, List, [], ◌∷◌, sym, subst}
use Rattle.witness_cli.specs.Commands.{Chain, Convict, Judge, Proofs}
use Rattle.witness_words.specs.Running.{Convicted, ConvictedInPart, HasFindings, HasNoFindings, Proved, ProvedInPart, Unconvicted}
use Rattle.witness_cli.proofs.Asking.{never, same-listed, same-process}
use Rattle.witness_cli.proofs.top.witness.Goals as goal

pub returns-in_default-clause-convicts : goal.returns-in_default-clause-convicts
returns-in_default-clause-convicts g c = λ listed asks has calm calm_sink. never (Convict listed) (c.in_default.ensures.only (Convict listed) asks)

pub returns-in_default-clause-convicts_not : goal.returns-in_default-clause-convicts_not
returns-in_default-clause-convicts_not g c = λ listed status asks none calm. never (Convict listed) (c.in_default.ensures.only (Convict listed) asks)

pub returns-in_default-clause-proves : goal.returns-in_default-clause-proves
returns-in_default-clause-proves g c = λ process asks has calm calm_sink. never (Proofs process) (c.in_default.ensures.only (Proofs process) asks)

pub returns-in_default-clause-proves_not : goal.returns-in_default-clause-proves_not
returns-in_default-clause-proves_not g c = λ process status asks none calm. never (Proofs process) (c.in_default.ensures.only (Proofs process) asks)

pub returns-in_default-clause-takes : goal.returns-in_default-clause-takes
returns-in_default-clause-takes g c = λ asks has calm. never Judge (c.in_default.ensures.only Judge asks)

pub returns-in_default-clause-takes_not : goal.returns-in_default-clause-takes_not
returns-in_default-clause-takes_not g c = λ asks has calm. never Judge (c.in_default.ensures.only Judge asks)

pub returns-in_default-clause-shows : goal.returns-in_default-clause-shows
returns-in_default-clause-shows g c = λ asks has calm calm_sink. never Chain (c.in_default.ensures.only Chain asks)

pub returns-in_default-clause-breaks : goal.returns-in_default-clause-breaks
returns-in_default-clause-breaks g c = λ asks has calm calm_sink. never Chain (c.in_default.ensures.only Chain asks)

pub returns-in_default-clause-only_shown : goal.returns-in_default-clause-only_shown
returns-in_default-clause-only_shown g c = λ asks. never Chain (c.in_default.ensures.only Chain asks)

pub returns-in_default-clause-views : goal.returns-in_default-clause-views
returns-in_default-clause-views g c = λ asks read taken. never Chain (c.in_default.ensures.only Chain asks)

pub returns-in-Convict-clause-convicted : goal.returns-in-Convict-clause-convicted
returns-in-Convict-clause-convicted g c = λ listed asks zero.
    subst (λ (l : List ℕ). Convicted l (g.S.Source.left c.args.input.now) (g.S.Source.left c.convict.new.input)
    (g.K.Sink.written c.args.output.now) (g.K.Sink.written c.convict.new.output))
    (same-listed c.in-Some.command c.in-Convict.listed listed c.in-Convict.is (c.in-Some.ensures.only (Convict listed) asks))
    (c.convict.ensures.convicted zero)

pub returns-in-Convict-clause-part : goal.returns-in-Convict-clause-part
returns-in-Convict-clause-part g c = λ listed asks four.
    subst (λ (l : List ℕ). ConvictedInPart l (g.S.Source.left c.args.input.now) (g.S.Source.left c.convict.new.input)
    (g.K.Sink.written c.args.output.now) (g.K.Sink.written c.convict.new.output))
    (same-listed c.in-Some.command c.in-Convict.listed listed c.in-Convict.is (c.in-Some.ensures.only (Convict listed) asks))
    (c.convict.ensures.part four)

pub returns-in-Convict-clause-stops : goal.returns-in-Convict-clause-stops
returns-in-Convict-clause-stops g c = λ listed asks which.
    subst (λ (l : List ℕ). Unconvicted l c.convict.result (g.S.Source.left c.args.input.now) (g.S.Source.left c.convict.new.input)
    (g.K.Sink.written c.args.output.now) (g.K.Sink.written c.convict.new.output)
    (g.K.Sink.faults c.args.output.now) (g.K.Sink.faults c.convict.new.output))
    (same-listed c.in-Some.command c.in-Convict.listed listed c.in-Convict.is (c.in-Some.ensures.only (Convict listed) asks))
    (c.convict.ensures.stops which)

pub returns-in-Convict-clause-convicts : goal.returns-in-Convict-clause-convicts
returns-in-Convict-clause-convicts g c = λ listed asks has calm calm_sink.
    c.convict.ensures.completes
    (subst (λ (l : List ℕ). HasFindings l (g.S.Source.left c.args.input.now))
    (sym (same-listed c.in-Some.command c.in-Convict.listed listed c.in-Convict.is (c.in-Some.ensures.only (Convict listed) asks))) has)
    calm calm_sink

pub returns-in-Convict-clause-convicts_not : goal.returns-in-Convict-clause-convicts_not
returns-in-Convict-clause-convicts_not g c = λ listed status asks none calm.
    c.convict.ensures.refuses status
    (subst (λ (l : List ℕ). HasNoFindings l status (g.S.Source.left c.args.input.now))
    (sym (same-listed c.in-Some.command c.in-Convict.listed listed c.in-Convict.is (c.in-Some.ensures.only (Convict listed) asks))) none)
    calm

pub returns-in-Proofs-clause-proved : goal.returns-in-Proofs-clause-proved
returns-in-Proofs-clause-proved g c = λ process asks zero.
    subst (λ (l : ℕ). Proved l (g.S.Source.left c.args.input.now) (g.S.Source.left c.proofs.new.input)
    (g.K.Sink.written c.args.output.now) (g.K.Sink.written c.proofs.new.output))
    (same-process c.in-Some.command c.in-Proofs.p process c.in-Proofs.is (c.in-Some.ensures.only (Proofs process) asks))
    (c.proofs.ensures.proved zero)

pub returns-in-Proofs-clause-proved_in_part : goal.returns-in-Proofs-clause-proved_in_part
returns-in-Proofs-clause-proved_in_part g c = λ process asks four.
    subst (λ (l : ℕ). ProvedInPart l (g.S.Source.left c.args.input.now) (g.S.Source.left c.proofs.new.input)
    (g.K.Sink.written c.args.output.now) (g.K.Sink.written c.proofs.new.output))
    (same-process c.in-Some.command c.in-Proofs.p process c.in-Proofs.is (c.in-Some.ensures.only (Proofs process) asks))
    (c.proofs.ensures.part four)

pub returns-in-Proofs-clause-proves_nothing : goal.returns-in-Proofs-clause-proves_nothing
returns-in-Proofs-clause-proves_nothing g c = λ process asks which.
    subst (λ (l : ℕ). Unconvicted (l ∷ []) c.proofs.result (g.S.Source.left c.args.input.now) (g.S.Source.left c.proofs.new.input)
    (g.K.Sink.written c.args.output.now) (g.K.Sink.written c.proofs.new.output)
    (g.K.Sink.faults c.args.output.now) (g.K.Sink.faults c.proofs.new.output))
    (same-process c.in-Some.command c.in-Proofs.p process c.in-Proofs.is (c.in-Some.ensures.only (Proofs process) asks))
    (c.proofs.ensures.stops which)

pub returns-in-Proofs-clause-proves : goal.returns-in-Proofs-clause-proves
returns-in-Proofs-clause-proves g c = λ process asks has calm calm_sink.
    c.proofs.ensures.completes
    (subst (λ (l : ℕ). HasFindings (l ∷ []) (g.S.Source.left c.args.input.now))
    (sym (same-process c.in-Some.command c.in-Proofs.p process c.in-Proofs.is (c.in-Some.ensures.only (Proofs process) asks))) has)
    calm calm_sink

pub returns-in-Proofs-clause-proves_not : goal.returns-in-Proofs-clause-proves_not
returns-in-Proofs-clause-proves_not g c = λ process status asks none calm.
    c.proofs.ensures.refuses status
    (subst (λ (l : ℕ). HasNoFindings (l ∷ []) status (g.S.Source.left c.args.input.now))
    (sym (same-process c.in-Some.command c.in-Proofs.p process c.in-Proofs.is (c.in-Some.ensures.only (Proofs process) asks))) none)
    calm
