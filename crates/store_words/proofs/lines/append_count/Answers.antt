use Rattle.std.proofs.Common.{◌≡◌, ◌<◌, length, rules, ap, arith, length-append}
use Rattle.std.specs.Fmt.{decimal}
use Rattle.store_words.proofs.Written.{short_count}
use Rattle.store_words.proofs.lines.append_count.Goals as goal

pub returns-clause-short : goal.returns-clause-short
returns-clause-short c =
    let few : c.args.count < 256 = omega arith in
    let written : c.as_bytes.result.now ≡ decimal c.args.count = search rules in
    omega (arith, ap length c.append.ensures.items, length-append c.args.out.now.items c.as_bytes.result.now, ap length written, short_count c.args.count few)
