use Rattle.std.proofs.Common.{◌++◌, ◌∙◌, refl, ap}
use Rattle.std.proofs.lemmas.Result.{on_ok_weaker}
use Rattle.group_defs.specs.Process.{Process}
use Rattle.group_defs.specs.Settle.{settle}
use Rattle.group_defs.specs.Events.{Spent, note_if}
use Rattle.member_core.specs.Outcomes.{halts, liars_from}
use Rattle.member_core.proofs.halves.end.Goals as goal

pub returns-clause-ends : goal.returns-clause-ends
returns-clause-ends c s p is =
    let q : Process = settle s p in
    let settled = c.in_ok-settle.ensures.settles s p is in
    on_ok_weaker c.send_answers.result (λ sent. record {
      state = settled;
      verdict = refl;
      heard = refl;
      signed_now = refl;
      spent = refl;
      sends = sent;
      notes = c.in_ok-tell.ensures s q settled ∙ ap
          (λ ns. ns ++ liars_from c.args.pairs q.conflicts ++ note_if c.args.outcome.now.spent Spent ++ halts q)
          (c.in_ok-settle.ensures.reported s p is);
    }) (c.send_answers.ensures.sent s q settled)
