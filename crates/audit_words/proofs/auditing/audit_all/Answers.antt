use Rattle.std.proofs.Common.{◌≡◌}
use Rattle.std.proofs.lemmas.Result.{err_from_is_err_and}
use Rattle.audit_input.specs.Views.{input}
use Rattle.audit_input.specs.declared.stops.Stop.TheVariants.{Input}
use Rattle.audit_input.specs.Stops.{of_audit, of_front}
use Rattle.audit_input.proofs.Reasons.{audit_reported, front_reported}
use Rattle.audit_words.proofs.Runs.{line_is}
use Rattle.audit_words.proofs.auditing.audit_all.Goals as goal

pub returns-in_err-seen-clause-refused : goal.returns-in_err-seen-clause-refused
returns-in_err-seen-clause-refused g c = λ fault e.
    let p = err_from_is_err_and c.from_residual.result c.from_residual.ensures.1 in
    let same : of_front c.in_err-seen.field-0.0 ≡ Input fault = cc (p.1, p.2, e) in
    front_reported c.args.listed _ _ c.in_err-seen.field-0.0 fault same c.in_err-seen.ensures.fault

pub returns-in_err-found-clause-refused : goal.returns-in_err-found-clause-refused
returns-in_err-found-clause-refused g c = λ fault e.
    let p = err_from_is_err_and c.from_residual-in_err-found.result c.from_residual-in_err-found.ensures.1 in
    let same : of_audit c.in_err-found.field-0.0 ≡ Input fault = cc (p.1, p.2, e) in
    audit_reported c.args.listed _ _ (input c.in_ok-seen.seen) c.in_ok-seen.ensures.found c.in_err-found.field-0.0 fault same
    (rw c.deref.ensures.value at c.in_err-found.ensures.refused)

pub returns-clause-found : goal.returns-clause-found
returns-clause-found g c =
    line_is c.args.listed _ _ (input c.in_ok-seen.seen) c.in_ok-found.found _ _ c.in_ok-seen.ensures.found
    (rw c.deref.ensures.value at c.in_ok-found.ensures.found) c.in_ok-found.ensures.headline c.new-line.ensures.items
    c.in_ok-findings_into.ensures.pushed
