use Rattle.std.proofs.Common.{[], map, sym, ap}
use Rattle.signature_defs.specs.Schemes.{is_valid}
use Rattle.sig_scheme.specs.Views.{scheme}
use Rattle.audit_cast.specs.Judges.{Shares}
use Rattle.audit_defs.specs.Players.{setting_of}
use Rattle.journal_steps.specs.Views.{source}
use Rattle.audit_sources.proofs.Telling.{tells-so}
use Rattle.audit_core.proofs.Ending.{cast-refused, steps-from, steps-refused}
use Rattle.audit_core.proofs.auditing.walk_of.Goals as goal

pub returns-in-Err-clause-refused : goal.returns-in-Err-clause-refused
returns-in-Err-clause-refused c = tells-so c.in-Err.fault _ _
    (cast-refused (setting_of c.args.kit.now) (map source c.args.sources.now) c.args.correct) c.in-Err.ensures.refused

pub returns-in-Ok-walk_journals-clause-ended : goal.returns-in-Ok-walk_journals-clause-ended
returns-in-Ok-walk_journals-clause-ended c =
    let s = setting_of c.args.kit.now in
    let shares : Shares s (is_valid (scheme c.scheme-scheme.result)) c.group-group.result c.roster.result.now = record {
      rule = ap is_valid (sym c.scheme-scheme.ensures);
      bound = sym c.group-group.ensures;
      keys = sym c.roster.ensures;
    } in
    let starts = c.in-Ok.ensures.starts in
    let walked = c.in-Ok-walk_journals.ensures.walked s (record { players = starts.players; claims = [] }) [] shares starts.walk in
    record { players = starts.players; cast = starts.are; known = walked.known; own = walked.own; ends = walked.ends; walk = walked.walk }

pub returns-clause-refused : goal.returns-clause-refused
returns-clause-refused c =
    let s = setting_of c.args.kit.now in
    let sources = map source c.args.sources.now in
    let shares : Shares s (is_valid (scheme c.scheme-scheme.result)) c.group-group.result c.roster.result.now = record {
      rule = ap is_valid (sym c.scheme-scheme.ensures);
      bound = sym c.group-group.ensures;
      keys = sym c.roster.ensures;
    } in
    let starts = c.in-Ok.ensures.starts in
    tells-so c.in-Err-walk_journals.fault _ _ (λ f is. steps-refused s sources c.args.correct starts.players f starts.are is)
    (c.in-Err-walk_journals.ensures.refused s (record { players = starts.players; claims = [] }) [] shares starts.walk)
