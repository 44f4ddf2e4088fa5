use Rattle.std.proofs.Common.{ℕ, List, refl, subst}
use Rattle.std.proofs.lemmas.Result.{err_from_is_err_and}
use Rattle.std.specs.Io.KnownBytes.{Appends}
use Rattle.rp_base.specs.Streams.{AppendsPrefix}
use Rattle.store_cli.proofs.Lines.{answered, broken, line_taken, not_made, not_read}
use Rattle.store_cli.proofs.filtering.step.Goals as goal

pub returns-in_err-read-clause-stepped : goal.returns-in_err-read-clause-stepped
returns-in_err-read-clause-stepped g c =
    let p = err_from_is_err_and c.from_residual.result c.from_residual.ensures.1 in
    rw p.1 (not_read c.args.filter c.args.number _ _ c.args.lines.now.ahead c.read.new.self.ahead _ _ c.in_err-read.field-0.0 p.0
    c.read.new.self.ahead p.2 c.in_err-read.ensures.kept refl)

pub returns-in_err-made-in-Line-clause-stepped : goal.returns-in_err-made-in-Line-clause-stepped
returns-in_err-made-in-Line-clause-stepped g c =
    let p = err_from_is_err_and c.from_residual-in_err-made-in-Line.result c.from_residual-in_err-made-in-Line.ensures.1 in
    rw (p.1, p.2) (not_made c.args.filter c.args.number _ _ c.args.lines.now.ahead c.read.new.self.ahead _ _ c.read.new.self
    c.in_ok-read.field-0 (answered _ _ _ _ _ c.in_ok-read.ensures.answers) c.in-Line.is c.line.result.now c.in_err-made-in-Line.field-0.0 c.line.ensures
    c.in_err-made-in-Line.ensures.none refl)

pub returns-in_err-write_all-in-Line-clause-stepped : goal.returns-in_err-write_all-in-Line-clause-stepped
returns-in_err-write_all-in-Line-clause-stepped g c =
    let p = err_from_is_err_and c.from_residual-in_err-write_all-in-Line.result c.from_residual-in_err-write_all-in-Line.ensures.1 in
    rw (p.1, p.2) (
      (c.line.result.now, c.in_ok-made-in-Line.made.items),
      line_taken c.args.filter _ _ c.args.lines.now.ahead c.read.new.self c.in_ok-read.field-0 (answered _ _ _ _ _ c.in_ok-read.ensures.answers) c.in-Line.is
          c.line.result.now c.in_ok-made-in-Line.made.items c.line.ensures c.in_ok-made-in-Line.ensures.made,
      subst (λ (bytes : List ℕ). AppendsPrefix (g.K.Sink.written c.args.output.now) (g.K.Sink.written c.write_all.new.output) bytes)
          c.deref.ensures.value c.in_err-write_all-in-Line.ensures.part,
    )

pub returns-in-Broken-clause-stepped : goal.returns-in-Broken-clause-stepped
returns-in-Broken-clause-stepped g c =
    broken c.args.filter c.args.number _ _ c.args.lines.now.ahead c.read.new.self.ahead _ _ c.read.new.self c.in_ok-read.field-0
    (answered _ _ _ _ _ c.in_ok-read.ensures.answers) c.in-Broken.is refl

pub returns-in_ok-write_all-in-Line-clause-stepped : goal.returns-in_ok-write_all-in-Line-clause-stepped
returns-in_ok-write_all-in-Line-clause-stepped g c = (
  (c.line.result.now, c.in_ok-made-in-Line.made.items),
  line_taken c.args.filter _ _ c.args.lines.now.ahead c.read.new.self c.in_ok-read.field-0 (answered _ _ _ _ _ c.in_ok-read.ensures.answers) c.in-Line.is
      c.line.result.now c.in_ok-made-in-Line.made.items c.line.ensures c.in_ok-made-in-Line.ensures.made,
  subst (λ (bytes : List ℕ). Appends (g.K.Sink.written c.args.output.now) (g.K.Sink.written c.write_all.new.output) bytes)
      c.deref.ensures.value c.in_ok-write_all-in-Line.ensures.bytes,
)
