use Rattle.std.proofs.Common.{map}
use Rattle.audit_defs.specs.Players.{players_of, setting_of}
use Rattle.journal_steps.specs.Views.{source}
use Rattle.audit_cast.proofs.Starting.{none-hosts, one-hosts, two-host}
use Rattle.audit_cast.proofs.casting.cast.Goals as goal

pub returns-in-Some-clause-refused : goal.returns-in-Some-clause-refused
returns-in-Some-clause-refused c = none-hosts (setting_of c.args.kit.now) (map source c.args.sources.now) c.args.listed c.in-Some.p
    c.in-Some.ensures

pub returns-in-Some-first_repeated-clause-refused : goal.returns-in-Some-first_repeated-clause-refused
returns-in-Some-first_repeated-clause-refused c = two-host (setting_of c.args.kit.now) (map source c.args.sources.now) c.args.listed
    c.in-Some-first_repeated.p c.in_default.ensures c.in-Some-first_repeated.ensures

pub returns-in-Ok-clause-starts : goal.returns-in-Ok-clause-starts
returns-in-Ok-clause-starts c =
    let s = setting_of c.args.kit.now in
    let sources = map source c.args.sources.now in
    record {
      players = players_of s sources c.args.listed;
      are = one-hosts s sources c.args.listed c.in_default.ensures c.in_default-first_repeated.ensures;
      walk = c.in-Ok.ensures;
    }
