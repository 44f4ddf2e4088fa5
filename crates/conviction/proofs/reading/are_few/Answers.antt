use Rattle.std.proofs.Common.{◌≤◌, arith}
use Rattle.conviction.proofs.Few.{left-counted}
use Rattle.conviction.proofs.reading.are_few.Goals as goal

pub returns : goal.returns
returns c =
    let le = left-counted c.args.groups.left c.args.groups.bytes.now in
    let few : c.args.groups.left ≤ 255 = omega (arith, c.well_formed) in
    omega (arith, le, few)
