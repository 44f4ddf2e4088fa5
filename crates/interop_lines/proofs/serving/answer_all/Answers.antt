use Rattle.std.proofs.Common.{◌≡◌, ◌+◌, ◌++◌, inl, inr, ℕ, suc, List, take, drop, refl, sym, ap, ◌∙◌, arith, subst, rules}
use Rattle.std.proofs.lemmas.Result.{err_from_is_err_and}
use Rattle.interop_lines.specs.Lines.{Answers}
use Rattle.interop_lines.specs.Serving.{HasServed, ended}
use Rattle.interop_lines.proofs.ServingLaws.{in_part, line_is_not_write, no_line, none_yet, read_more, read_on, rewritten, served_one_more}
use Rattle.interop_lines.proofs.serving.answer_all.Goals as goal

pub loop-number-init : goal.loop-number-init
loop-number-init g c = record {
  served = (
    0,
    refl,
    subst (λ (t : List ℕ). HasServed (g.P.Program.comes_to c.args.program.now) 0 t (g.S.Source.left c.args.input.now) (g.S.Source.left c.args.input.now)
        (g.K.Sink.written c.args.output.now) (g.K.Sink.written c.args.output.now)) (sym c.new-ahead.ensures) (none_yet _ _ _),
  );
  read = refl;
  wrote = refl;
}

pub returns-in_err-read_on-clause-some : goal.returns-in_err-read_on-clause-some
returns-in_err-read_on-clause-some g c =
    let p = err_from_is_err_and c.from_residual.result c.from_residual.ensures.1 in
    let before = c.loop-number.invariant.served in
    let read = c.in_err-read_on.ensures.taken in
    rw p.1 (inr (before.0, _, read_more _ before.0 _ read.0 _ _ _ _ _ before.2 read.1))

pub returns-in_default-clause-some : goal.returns-in_default-clause-some
returns-in_default-clause-some g c =
    let before = c.loop-number.invariant.served in
    inr (before.0, _, read_on _ before.0 _ c.read_on.new.ahead _ _ _ _ _ before.2 c.in_ok-read_on.ensures.read)

pub returns-in_default-clause-refused : goal.returns-in_default-clause-refused
returns-in_default-clause-refused g c = λ number e.
    let before = c.loop-number.invariant.served in
    let none = (rw c.in_default.is at c.line.ensures.none) refl in
    let same : number ≡ c.loop-number.number = cc in (
      before.0,
      c.read_on.new.ahead,
      same ∙ before.1,
      read_on _ before.0 _ c.read_on.new.ahead _ _ _ _ _ before.2 c.in_ok-read_on.ensures.read,
      no_line _ c.read_on.new.ahead _ (search rules) none c.in_ok-read_on.ensures.enough,
    )

pub returns-in_err-answer_line-clause-part : goal.returns-in_err-answer_line-clause-part
returns-in_err-answer_line-clause-part g c = λ e.
    let p = err_from_is_err_and c.from_residual-in_err-answer_line.result c.from_residual-in_err-answer_line.ensures.1 in
    let before = c.loop-number.invariant.served in
    let read = read_on _ before.0 _ c.read_on.new.ahead _ _ _ _ _ before.2 c.in_ok-read_on.ensures.read in
    let part = c.in_err-answer_line.ensures.part (cc (p.1, p.2, e)) in
    in_part _ before.0 _ (take c.in-Some.end c.bytes-in-loop-number.result.now) part.0 _ _ _ _ _ read part.1 part.2

pub returns-in_err-answer_line-clause-some : goal.returns-in_err-answer_line-clause-some
returns-in_err-answer_line-clause-some g c =
    let p = err_from_is_err_and c.from_residual-in_err-answer_line.result c.from_residual-in_err-answer_line.ensures.1 in
    let before = c.loop-number.invariant.served in
    let read = read_on _ before.0 _ c.read_on.new.ahead _ _ _ _ _ before.2 c.in_ok-read_on.ensures.read in
    rw p.1 (elim c.in_err-answer_line.ensures.untouched [
      | inl write ↦ inl (cc (p.2, write))
      | inr same ↦ inr (before.0, _, rewritten _ before.0 _ _ _ _ _ _ read (ap g.K.Sink.written same))
    ])

pub returns-in_err-answer_line-clause-refused : goal.returns-in_err-answer_line-clause-refused
returns-in_err-answer_line-clause-refused g c = λ number e.
    let p = err_from_is_err_and c.from_residual-in_err-answer_line.result c.from_residual-in_err-answer_line.ensures.1 in
    let before = c.loop-number.invariant.served in
    let read = read_on _ before.0 _ c.read_on.new.ahead _ _ _ _ _ before.2 c.in_ok-read_on.ensures.read in
    let refused = c.in_err-answer_line.ensures.refused number (cc (p.1, p.2, e)) in
    let line = rw c.in-Some.is at c.line.ensures.line in
    elim c.in_err-answer_line.ensures.untouched [
      | inl write ↦ absurd (line_is_not_write c.in_err-answer_line.field-0.0 number (cc (p.1, p.2, e)) write)
      | inr same ↦ (
        before.0,
        c.read_on.new.ahead,
        refused.0 ∙ before.1,
        rewritten _ before.0 _ _ _ _ _ _ read (ap g.K.Sink.written same),
        inl (
          take c.in-Some.end c.read_on.new.ahead,
          drop (c.in-Some.end + 1) c.read_on.new.ahead,
          line.1,
          line.0,
          rw c.bytes-in-loop-number.ensures at refused.1,
        ),
      )
    ]

pub loop-number-preserved : goal.loop-number-preserved
loop-number-preserved g c =
    let before = c.loop-number.invariant.served in
    let read = read_on _ before.0 _ c.read_on.new.ahead _ _ _ _ _ before.2 c.in_ok-read_on.ensures.read in
    let line = rw c.in-Some.is at c.line.ensures.line in
    let reported = c.in_ok-answer_line.ensures.answered in
    let next : c.loop-number.number + 1 ≡ suc (suc before.0) = omega (arith, before.1) in
    let first : List ℕ = take c.in-Some.end c.read_on.new.ahead in
    let answers : Answers _ first reported.0 = rw c.bytes-in-loop-number.ensures at reported.1 in
    let parts = line.1 ∙ ap (λ (t : List ℕ). ended first ++ t) (sym c.skip.ensures) in
    record {
      served = (suc before.0, next, served_one_more _ before.0 _ first _ reported.0 _ _ _ _ _ read line.0 parts answers reported.2);
      read = c.in_ok-read_on.ensures.steady ∙ c.loop-number.invariant.read;
      wrote = c.in_ok-answer_line.ensures.steady ∙ c.loop-number.invariant.wrote;
    }
