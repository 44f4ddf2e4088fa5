use Rattle.std.proofs.Common.{refl, rules, arith}
use Rattle.std.proofs.lemmas.Result.{err_from_is_err_and}
use Rattle.story_defs.specs.PlainLines.{plain_line}
use Rattle.story_lines.proofs.ByteLoop.{ends, fails, goes_on}
use Rattle.story_lines.proofs.scanning.plain_line.Goals as goal

pub bytes-init : goal.bytes-init
bytes-init c = rw c.new-out.ensures.items refl

pub returns-in_err-place : goal.returns-in_err-place
returns-in_err-place c =
    let p = err_from_is_err_and c.from_residual.result c.from_residual.ensures.1 in
    rw (p.1, p.2) (fails c.bytes.out.items c.bytes.place c.args.line.now c.bytes.c-index (plain_line c.args.line.now)
    (search rules) c.bytes.invariant c.in_err-place.field-0.0 c.in_err-place.ensures)

pub bytes-preserved : goal.bytes-preserved
bytes-preserved c = goes_on c.bytes.out.items c.bytes.place c.args.line.now c.bytes.c-index (plain_line c.args.line.now)
    (search rules) c.bytes.invariant _ _ c.in_ok-place.ensures

pub returns : goal.returns
returns c = rw (← ends c.bytes.out.items c.bytes.place c.args.line.now c.bytes.c-index (plain_line c.args.line.now)
    (search rules) c.bytes.invariant) c.line_end.ensures
