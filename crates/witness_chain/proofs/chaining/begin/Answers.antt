use Rattle.std.proofs.Common.{inl, inr, ap}
use Rattle.std.proofs.lemmas.Result.{err_from_is_err_and}
use Rattle.chain_words.proofs.Runs.{none_shown}
use Rattle.witness_chain.specs.Starting.{starts_at}
use Rattle.witness_chain.proofs.Begun.{first_begun, first_ended, first_faulty, first_in_part, first_some, second_in_part, started_begun, started_in_part}
use Rattle.witness_chain.proofs.chaining.begin.Goals as goal

pub returns-in_err-write_view-clause-part : goal.returns-in_err-write_view-clause-part
returns-in_err-write_view-clause-part g c = λ e.
    let p = err_from_is_err_and c.from_residual-in_err-write_view.result c.from_residual-in_err-write_view.ensures.1 in
    started_in_part c.args.kit.now c.args.number c.args.lines.now.ahead _ _ c.read.new.self c.line-line.result.now c.line-line.ensures
    c.in_ok-next.next c.in_ok-next.ensures.answers c.in-Some.view c.in-Some.ensures _ _ (c.in_err-write_view.ensures.part (cc (p.1, p.2, e)))

pub returns-in_err-write_view-clause-some : goal.returns-in_err-write_view-clause-some
returns-in_err-write_view-clause-some g c =
    let p = err_from_is_err_and c.from_residual-in_err-write_view.result c.from_residual-in_err-write_view.ensures.1 in
    rw p.1 (elim c.in_err-write_view.ensures.untouched [
      | inl write ↦ inl (cc (p.2, write))
      | inr same ↦ inr (inr (none_shown (starts_at c.args.kit.now c.args.number c.args.lines.now.ahead) _ _ _ _ (ap g.K.Sink.written same.1)))
    ])

pub returns-in-Some-clause-begun : goal.returns-in-Some-clause-begun
returns-in-Some-clause-begun g c =
    started_begun c.args.kit.now c.args.number c.args.lines.now.ahead _ _ c.read.new.self c.line-line.result.now c.line-line.ensures
    c.in_ok-next.next c.in_ok-next.ensures.answers c.in-Some.view c.new.result c.in-Some.ensures c.new.ensures _ _ c.in_ok-write_view.ensures.wrote

pub returns-clause-begun : goal.returns-clause-begun
returns-clause-begun g c =
    first_begun c.args.kit.now c.args.number c.args.lines.now.ahead _ _ c.read.new.self c.line-line.result.now c.line-line.ensures
    c.in_ok-next.next c.in_ok-next.ensures.answers c.in_default.ensures
    c.begin_first.result c.begin_first.ensures.shown _ _ c.begin_first.ensures.wrote

pub returns-clause-ended : goal.returns-clause-ended
returns-clause-ended g c = λ e.
    first_ended c.args.kit.now c.args.number c.args.lines.now.ahead _ _ c.read.new.self c.line-line.result.now c.line-line.ensures
    c.in_ok-next.next c.in_ok-next.ensures.answers c.in_default.ensures
    c.begin_first.result c.begin_first.ensures.shown _ _ c.begin_first.ensures.wrote e

pub returns-clause-part : goal.returns-clause-part
returns-clause-part g c = λ e. elim (c.begin_first.ensures.part e) [
  | inl one ↦ first_in_part c.args.kit.now c.args.number c.args.lines.now.ahead _ _ c.read.new.self c.line-line.result.now c.line-line.ensures
      c.in_ok-next.next c.in_ok-next.ensures.answers c.in_default.ensures _ _ one
  | inr two ↦ second_in_part c.args.kit.now c.args.number c.args.lines.now.ahead _ _ c.read.new.self c.line-line.result.now c.line-line.ensures
      c.in_ok-next.next c.in_ok-next.ensures.answers c.in_default.ensures _ _ two
]

pub returns-clause-some : goal.returns-clause-some
returns-clause-some g c =
    first_some c.args.kit.now c.args.number c.args.lines.now.ahead _ _ c.read.new.self c.line-line.result.now c.line-line.ensures
    c.in_ok-next.next c.in_ok-next.ensures.answers c.in_default.ensures
    c.begin_first.result (g.K.Sink.written c.args.output.now) (g.K.Sink.written c.begin_first.new.output)
    (λ e. elim (c.begin_first.ensures.no_room e) [ inl same ↦ inl (ap g.K.Sink.written same) | inr line ↦ inr line ]) c.begin_first.ensures.no_read

pub returns-clause-refused : goal.returns-clause-refused
returns-clause-refused g c = λ fault e.
    first_faulty c.args.kit.now c.args.number c.args.lines.now.ahead _ _ c.read.new.self c.line-line.result.now c.line-line.ensures
    c.in_ok-next.next c.in_ok-next.ensures.answers c.in_default.ensures
    c.begin_first.result c.begin_first.ensures.shown fault e _ _ (c.begin_first.ensures.refused fault e)
