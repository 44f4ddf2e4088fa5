use Rattle.std.proofs.Common.{◌≡◌, ◌<◌, length, rules, ap, arith, length-append}
use Rattle.std.specs.Fmt.{decimal}
use Rattle.store_words.proofs.Written.{short_process}
use Rattle.store_words.proofs.lines.append_process.Goals as goal

pub returns-clause-short : goal.returns-clause-short
returns-clause-short c =
    let few : c.args.p < 64 = omega arith in
    let written : c.as_bytes.result.now ≡ decimal c.args.p = search rules in
    omega (arith, ap length c.append.ensures.items, length-append c.args.out.now.items c.as_bytes.result.now, ap length written, short_process c.args.p few)
