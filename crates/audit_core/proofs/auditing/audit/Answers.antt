use Rattle.std.proofs.Common.{◌≡◌, List, Ok, true, sym, ap, subst, ◌∙◌}
use Rattle.std.specs.List.Sorted.{IsStrictlyIncreasing}
use Rattle.std.specs.Prelude.{All, Contains}
use Rattle.audit_defs.specs.Players.{setting_of}
use Rattle.audit_defs.specs.Audits.{Audited, audited, sources_of}
use Rattle.audit_defs.specs.Findings as plain
use Rattle.audit_defs.specs.Findings.{Reported}
use Rattle.audit_defs.specs.Laws.{FirstGiveLast}
use Rattle.audit_laws.proofs.Headline.{findings_headline}
use Rattle.audit_laws.proofs.OfListed.{audit_is_of_listed}
use Rattle.audit_core.specs.Ends.{Ended, audited_by}
use Rattle.audit_core.specs.Found.{IsFound}
use Rattle.audit_core.proofs.Ending.{ended, of-sources}
use Rattle.audit_core.proofs.Rising.{members-rise}
use Rattle.audit_core.proofs.Sparing.{none-reported}
use Rattle.audit_core.proofs.auditing.audit.Goals as goal

pub returns-in-Ok-findings_of : goal.returns-in-Ok-findings_of
returns-in-Ok-findings_of c =
    let kit = c.args.kit.now in
    let listed = c.args.correct in
    let journals = c.args.journals.now in
    let s = setting_of kit in
    let end = c.in-Ok.ensures.ended in
    let sources = end.0 in
    let is : sources_of kit journals ≡ Ok sources = end.1 in
    let e : Ended s sources listed c.in-Ok.walk = end.2 in
    let a : Audited = audited_by s e.known in
    let audits : audited kit listed journals ≡ Ok a = of-sources kit listed journals sources is
    ∙ ended s sources listed e.players e.known e.cast e.ends in
    let found : IsFound a c.in-Ok-findings_of.findings = c.in-Ok-findings_of.ensures journals sources is e in
    let rising : IsStrictlyIncreasing listed = subst IsStrictlyIncreasing c.mask.ensures (members-rise c.mask.result) in
    record {
      found = (a, audits, found);
      refused = tt;
      listed = found.listed ∙ (audit_is_of_listed kit listed journals a audits).listed_are;
      headline = subst FirstGiveLast (sym found.reported) (findings_headline kit listed journals a c.requires.kit rising audits);
      spared = λ honest'. subst (λ (ts : List Reported). All (λ (t : Reported). ¬ Contains listed t.process) ts)
          (ap (λ (f : plain.Findings). f.convicted) (sym found.reported))
          (none-reported kit listed journals a rising audits (ap (λ (f : plain.Findings). f.honest) (sym found.reported) ∙ honest'));
    }
