use Rattle.std.proofs.Common.{◌-◌, ◌∙◌, length, ap, sym}
use Rattle.group_defs.specs.Events.{Turn, signing}
use Rattle.member_sending.specs.Taking.{handed}
use Rattle.member_core.proofs.Joined.{taken-so}
use Rattle.member_core.proofs.halves.take.Goals as goal

pub returns-clause-taken : goal.returns-clause-taken
returns-clause-taken g c s p shares kinds made is =
    let t : Turn = record {
      event = handed c.args.input.now;
      allowance = g.G.Tally.total c.args.signer.now - g.G.Tally.used c.args.signer.now;
      signer = g.G.Signer.signature c.args.signer.now;
    } in
    let begun = c.in_ok-outcome.ensures.begins s p shares kinds made is in
    taken-so s p t c.begin.new.state c.end.new.state
    (g.G.Tally.used c.begin.new.signer) c.len-pairs.result c.in_ok-outcome.outcome c.end.new.outcome
    (c.requires.admitted s p is) (c.len-pairs.ensures ∙ ap length (sym is.pairs)) begun
    (c.in_ok-end.ensures.ends s (signing s p t).now begun.state)
