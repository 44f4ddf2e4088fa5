use Rattle.std.proofs.Common.{◌≡◌, true, arith, rules}
use Rattle.std.proofs.lemmas.Grind.{common_steps}
use Rattle.audit_defs.specs.Players.{setting_of}
use Rattle.witness_words.proofs.Lines.{can-travel}
use Rattle.witness_words.proofs.writing.push_conviction.Goals as goal

pub returns-clause-taken : goal.returns-clause-taken
returns-clause-taken c =
    let holds : c.is_taken.result ≡ true = first_of (cc, search rules, grind (arith, common_steps)) in
    can-travel c.push_line.result (setting_of c.args.kit.now) c.args.conviction.now c.in_ok-writer.writer c.frame-frame.result.now c.is_taken.result
    c.in_ok-writer.ensures c.frame-frame.ensures.frame c.frame-frame.ensures.spelled c.push_line.ensures.bytes c.is_taken.ensures holds c.push_line.ensures.number
