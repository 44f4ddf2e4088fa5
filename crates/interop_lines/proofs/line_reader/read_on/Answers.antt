use Rattle.std.proofs.KnownBytes.{Consumes-trans}
use Rattle.std.proofs.lemmas.Result.{err_from_is_err_and}
use Rattle.interop_lines.proofs.line_reader.read_on.Goals as goal

pub returns-in_err-push-clause-taken :
    goal.returns-in_err-push-clause-taken
returns-in_err-push-clause-taken g c =
    let p = err_from_is_err_and c.from_residual-in_err-push.result c.from_residual-in_err-push.ensures.1 in
    let all = Consumes-trans _ _ _ c.pieces.invariant.read.0 _ c.pieces.invariant.read.1 c.in_ok-n.ensures.bytes.0 in
    rw p.1 (_, all)
