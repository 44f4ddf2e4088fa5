use Rattle.std.proofs.Common.{◌≢◌, Err, sym, ap, subst, ◌∙◌, arith}
use Rattle.std.specs.Io.KnownBytes.{Appends}
use Rattle.rp_base.specs.Streams.{AppendsPrefix, WritesLine}
use Rattle.audit_input.specs.declared.stops.Stop.{Stop}
use Rattle.audit_input.specs.declared.stops.Stop.TheVariants.{Read}
use Rattle.audit_input.specs.Stops.{line_of}
use Rattle.audit_input.proofs.Statuses.{at_read, at_write, err_is, is_ok_and, never_zero, only_these, stops_so}
use Rattle.audit_input.proofs.reporting.finish.Goals as goal

pub returns-in-Ok-clause-done : goal.returns-in-Ok-clause-done
returns-in-Ok-clause-done g c = λ zero.
    is_ok_and (λ text. Appends (g.K.Sink.written c.args.output.now) (g.K.Sink.written c.write_text.new.output) text.items) c.args.made c.in-Ok.text c.in-Ok.is
    (rw c.deref.ensures.value at c.write_text.ensures.done zero)

pub returns-in-Ok-clause-part : goal.returns-in-Ok-clause-part
returns-in-Ok-clause-part g c = λ four.
    is_ok_and (λ text. AppendsPrefix (g.K.Sink.written c.args.output.now) (g.K.Sink.written c.write_text.new.output) text.items) c.args.made c.in-Ok.text c.in-Ok.is
    (rw c.deref.ensures.value at c.write_text.ensures.part four)

pub returns-in-Err-clause-done : goal.returns-in-Err-clause-done
returns-in-Err-clause-done g c = λ zero.
    let other : c.report.result ≢ 1 = λ e. omega (arith, zero, e) in
    absurd (never_zero c.in-Err.stop (sym (c.report.ensures.status other) ∙ zero))

pub returns-in-Err-clause-steady : goal.returns-in-Err-clause-steady
returns-in-Err-clause-steady g c = λ zero.
    let other : c.report.result ≢ 1 = λ e. omega (arith, zero, e) in
    absurd (never_zero c.in-Err.stop (sym (c.report.ensures.status other) ∙ zero))

pub returns-in-Err-clause-read : goal.returns-in-Err-clause-read
returns-in-Err-clause-read g c = λ three.
    let other : c.report.result ≢ 1 = λ e. omega (arith, three, e) in
    c.in-Err.is ∙ ap (λ (s : Stop). Err s) (at_read c.in-Err.stop (sym (c.report.ensures.status other) ∙ three))

pub returns-in-Err-clause-failed : goal.returns-in-Err-clause-failed
returns-in-Err-clause-failed g c = λ bad. c.report.ensures.read (err_is c.in-Err.stop Read (sym c.in-Err.is ∙ bad))

pub returns-in-Err-clause-read_line : goal.returns-in-Err-clause-read_line
returns-in-Err-clause-read_line g c = λ three.
    let other : c.report.result ≢ 1 = λ e. omega (arith, three, e) in
    subst (λ (s : Stop). WritesLine (line_of s) (g.K.Sink.written c.args.output.now) (g.K.Sink.written c.report.new.output)
    (g.K.Sink.faults c.args.output.now) (g.K.Sink.faults c.report.new.output))
    (at_read c.in-Err.stop (sym (c.report.ensures.status other) ∙ three))
    (c.report.ensures.line other)

pub returns-in-Err-clause-write : goal.returns-in-Err-clause-write
returns-in-Err-clause-write g c = λ four.
    let other : c.report.result ≢ 1 = λ e. omega (arith, four, e) in
    absurd (c.requires (c.in-Err.is ∙ ap (λ (s : Stop). Err s) (at_write c.in-Err.stop (sym (c.report.ensures.status other) ∙ four))))

pub returns-in-Err-clause-part : goal.returns-in-Err-clause-part
returns-in-Err-clause-part g c = λ four.
    let other : c.report.result ≢ 1 = λ e. omega (arith, four, e) in
    absurd (c.requires (c.in-Err.is ∙ ap (λ (s : Stop). Err s) (at_write c.in-Err.stop (sym (c.report.ensures.status other) ∙ four))))

pub returns-in-Err-clause-stops : goal.returns-in-Err-clause-stops
returns-in-Err-clause-stops g c = λ which.
    stops_so c.args.made c.in-Err.stop c.report.result c.in-Err.is c.report.ensures.status which _ _ _ _ c.report.ensures.line

pub returns-in-Err-clause-only : goal.returns-in-Err-clause-only
returns-in-Err-clause-only g c = only_these c.in-Err.stop c.report.result c.report.ensures.status
