use Rattle.std.proofs.Common.{false, refl, sym}
use Rattle.std.proofs.lemmas.Grind.{merely}
use Rattle.std.proofs.lemmas.Result.{IfOk-weaker}
use Rattle.group_defs.specs.Process.{Setting, Process, all_kinds, start}
use Rattle.member_signing.specs.States.{HasProcess}
use Rattle.member_core.proofs.member.Core.new.Goals as goal

pub of_state-requires-clause-real : goal.of_state-requires-clause-real
of_state-requires-clause-real g c =
    let s : Setting = record {
      group = c.args.group;
      roster = c.args.roster;
      genesis = c.args.genesis;
      valid = λ key body signature. false;
      signs = all_kinds;
    } in
    let has : HasProcess c.in_ok-state.state = record {
      setting = s;
      process = start s c.args.me c.args.batch_limit;
      state = c.in_ok-state.ensures.starts s (record { keys = refl; genesis = refl });
    } in
    merely has

pub returns-clause-starts : goal.returns-clause-starts
returns-clause-starts g c =
    IfOk-weaker c.of_state.result _ _
    (λ core is. λ s shares. is s (start s c.args.me c.args.batch_limit) shares.group shares.roster shares.kinds (sym c.requires.unused)
    (c.in_ok-state.ensures.starts s (record { keys = shares.roster; genesis = shares.genesis })))
    c.of_state.ensures.is
