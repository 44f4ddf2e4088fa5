use Rattle.std.proofs.Common.{false, refl}
use Rattle.std.proofs.lemmas.Grind.{merely}
use Rattle.group_defs.specs.Process.{Setting, start, all_kinds}
use Rattle.hosted_core.proofs.hosted.Hosted.new.Goals as goal

pub returns-clause-real : goal.returns-clause-real
returns-clause-real g c =
    let s : Setting = record {
      group = c.args.group;
      roster = c.args.roster;
      genesis = c.args.genesis;
      valid = λ key body signature. false;
      signs = all_kinds;
    } in
    merely (record {
      setting = s;
      process = start s c.args.me c.args.batch_limit;
      core = c.in_ok-core.ensures.starts s (record { group = refl; roster = refl; genesis = refl; kinds = refl });
    })
