use Rattle.std.proofs.Common.{◌≢◌, Err, inl, inr, sym, ap, subst, ◌∙◌, arith}
use Rattle.rp_base.specs.Streams.{WritesLine}
use Rattle.audit_input.specs.declared.stops.Stop.{Stop}
use Rattle.audit_input.specs.Stops.{line_of}
use Rattle.audit_input.proofs.Statuses.{at_read, never_zero, read_is_three}
use Rattle.witness_words.proofs.Statuses.{judge_ends, never_refuses, refused_so, refuses_so, some_taken}
use Rattle.witness_words.proofs.judging.judge.Goals as goal

pub returns-in-Ok-clause-refuses : goal.returns-in-Ok-clause-refuses
returns-in-Ok-clause-refuses g c = λ none calm. absurd (some_taken _ _ c.in-Ok.ensures.taken none)

pub returns-in-Err-clause-taken : goal.returns-in-Err-clause-taken
returns-in-Err-clause-taken g c = λ zero.
    let other : c.report.result ≢ 1 = λ e. omega (arith, zero, e) in
    absurd (never_zero c.in-Err.stop (sym (c.report.ensures.status other) ∙ zero))

pub returns-in-Err-clause-steady : goal.returns-in-Err-clause-steady
returns-in-Err-clause-steady g c = λ zero.
    let other : c.report.result ≢ 1 = λ e. omega (arith, zero, e) in
    absurd (never_zero c.in-Err.stop (sym (c.report.ensures.status other) ∙ zero))

pub returns-in-Err-clause-silent : goal.returns-in-Err-clause-silent
returns-in-Err-clause-silent g c = λ which. elim which [
  | inl zero ↦ (let other : c.report.result ≢ 1 = λ e. omega (arith, zero, e) in
      absurd (never_zero c.in-Err.stop (sym (c.report.ensures.status other) ∙ zero)))
  | inr one ↦ c.report.ensures.silent one
]

pub returns-in-Err-clause-read : goal.returns-in-Err-clause-read
returns-in-Err-clause-read g c = λ three.
    let other : c.report.result ≢ 1 = λ e. omega (arith, three, e) in
    c.in-Err.ensures.read (ap (λ (s : Stop). Err s) (at_read c.in-Err.stop (sym (c.report.ensures.status other) ∙ three)))

pub returns-in-Err-clause-read_line : goal.returns-in-Err-clause-read_line
returns-in-Err-clause-read_line g c = λ three.
    let other : c.report.result ≢ 1 = λ e. omega (arith, three, e) in
    subst (λ (s : Stop). WritesLine (line_of s) (g.K.Sink.written c.args.output.now) (g.K.Sink.written c.report.new.output)
    (g.K.Sink.faults c.args.output.now) (g.K.Sink.faults c.report.new.output))
    (at_read c.in-Err.stop (sym (c.report.ensures.status other) ∙ three))
    (c.report.ensures.line other)

pub returns-in-Err-clause-refused : goal.returns-in-Err-clause-refused
returns-in-Err-clause-refused g c = λ seven.
    refused_so _ _ c.in-Err.stop c.report.result (λ fault e. c.in-Err.ensures.refused fault (ap (λ (s : Stop). Err s) e))
    (λ e. c.in-Err.ensures.no_write (ap (λ (s : Stop). Err s) e)) c.report.ensures.status seven _ _ _ _ c.report.ensures.line

pub returns-in-Err-clause-whole : goal.returns-in-Err-clause-whole
returns-in-Err-clause-whole g c = λ seven. elim c.in-Err.ensures.steady [
  | inl bad ↦ absurd (read_is_three c.in-Err.stop c.report.result c.report.ensures.status (inr (inl seven)) bad)
  | inr same ↦ same
]

pub returns-in-Err-clause-completes : goal.returns-in-Err-clause-completes
returns-in-Err-clause-completes g c = λ some calm.
    never_refuses _ _ c.in-Err.stop c.report.result (λ fault e. c.in-Err.ensures.refused fault (ap (λ (s : Stop). Err s) e))
    (λ e. c.in-Err.ensures.no_write (ap (λ (s : Stop). Err s) e)) c.report.ensures.status
    (λ e. calm (c.in-Err.ensures.read (ap (λ (s : Stop). Err s) e))) some

pub returns-in-Err-clause-refuses : goal.returns-in-Err-clause-refuses
returns-in-Err-clause-refuses g c = λ none calm.
    refuses_so _ _ c.in-Err.stop c.report.result (λ fault e. c.in-Err.ensures.refused fault (ap (λ (s : Stop). Err s) e))
    (λ e. c.in-Err.ensures.no_write (ap (λ (s : Stop). Err s) e)) c.report.ensures.status
    (λ e. calm (c.in-Err.ensures.read (ap (λ (s : Stop). Err s) e)))

pub returns-in-Err-clause-only : goal.returns-in-Err-clause-only
returns-in-Err-clause-only g c =
    judge_ends _ _ c.in-Err.stop c.report.result (λ fault e. c.in-Err.ensures.refused fault (ap (λ (s : Stop). Err s) e))
    (λ e. c.in-Err.ensures.no_write (ap (λ (s : Stop). Err s) e)) c.report.ensures.status
