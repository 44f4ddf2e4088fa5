use Rattle.std.proofs.Common.{◌≡◌, Ok, map, sym, ap, ◌∙◌}
use Rattle.audit_defs.specs.Players.{setting_of}
use Rattle.audit_defs.specs.Audits.{sources_of}
use Rattle.journal_steps.specs.Views.{source}
use Rattle.audit_sources.proofs.Telling.{tells-so}
use Rattle.audit_core.specs.Ends.{Ended}
use Rattle.audit_core.proofs.Ending.{has-come, headers-refused, of-sources}
use Rattle.audit_core.proofs.auditing.walk_all.Goals as goal

pub returns-in-Err-clause-refused : goal.returns-in-Err-clause-refused
returns-in-Err-clause-refused c = tells-so c.in-Err.fault _ _ (headers-refused c.args.kit.now c.args.correct c.args.journals.now)
    c.in-Err.ensures.refused

pub returns-clause-refused : goal.returns-clause-refused
returns-clause-refused c =
    let sources = map source c.deref.result.now in
    let is : sources_of c.args.kit.now c.args.journals.now ≡ Ok sources =
    c.in-Ok.ensures.read ∙ ap (λ xs. Ok (map source xs)) (sym c.deref.ensures.value) in
    tells-so c.in-Err-walk_of.fault _ _ (λ f refused. of-sources c.args.kit.now c.args.correct c.args.journals.now sources is ∙ refused)
    c.in-Err-walk_of.ensures.refused

pub returns-in-Ok-walk_of : goal.returns-in-Ok-walk_of
returns-in-Ok-walk_of c =
    let kit = c.args.kit.now in
    let sources = map source c.deref.result.now in
    let is : sources_of kit c.args.journals.now ≡ Ok sources = c.in-Ok.ensures.read ∙ ap (λ xs. Ok (map source xs)) (sym c.deref.ensures.value) in
    let e : Ended (setting_of kit) sources c.args.correct c.in-Ok-walk_of.walk = c.in-Ok-walk_of.ensures.ended in
    record {
      ended = (sources, is, e);
      come = has-come kit c.args.correct c.args.journals.now sources is c.in-Ok-walk_of.walk e;
      refused = tt;
    }
