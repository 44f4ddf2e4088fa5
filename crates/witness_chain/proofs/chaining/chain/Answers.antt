use Rattle.std.proofs.Common.{◌≢◌, Err, sym, ap, ◌∙◌, arith}
use Rattle.chain_words.specs.declared.stops.Stop.{Stop}
use Rattle.chain_words.proofs.Statuses.{at_input, at_write, refused_so}
use Rattle.proof_defs.specs.Starts.{started_chain_of}
use Rattle.proof_laws.proofs.Starts.{starts_report_views}
use Rattle.witness_chain.proofs.Statuses.{in_part_stays, lines_stay}
use Rattle.witness_chain.proofs.chaining.chain.Goals as goal

pub returns-in-Err-clause-part : goal.returns-in-Err-clause-part
returns-in-Err-clause-part g c = λ four.
    let other : c.tell.result ≢ 1 = λ e. omega (arith, four, e) in
    let is = at_write c.in-Err.stop (sym (c.tell.ensures.status other) ∙ four) in
    in_part_stays started_chain_of c.in-Err.stop _ _ _ _ _ _ _ is (c.in-Err.ensures.part (ap (λ (s : Stop). Err s) is)) (c.tell.ensures.line other)

pub returns-in-Err-clause-refused : goal.returns-in-Err-clause-refused
returns-in-Err-clause-refused g c = λ seven.
    let other : c.tell.result ≢ 1 = λ e. omega (arith, seven, e) in
    let is = at_input c.in-Err.stop (sym (c.tell.ensures.status other) ∙ seven) in
    refused_so started_chain_of c.in-Err.stop is.0 _ _ _ _ _ _ _ _ is.1 (c.in-Err.ensures.refused is.0 (ap (λ (s : Stop). Err s) is.1))
    c.in-Err.ensures.calm (c.tell.ensures.line other)

pub returns-in-Err-clause-some : goal.returns-in-Err-clause-some
returns-in-Err-clause-some g c = λ one.
    lines_stay started_chain_of c.in-Err.stop c.tell.result _ _ _ _ _ c.tell.ensures.write one c.in-Err.ensures.some
    (λ fault is. c.in-Err.ensures.refused fault (ap (λ (s : Stop). Err s) is)) (c.tell.ensures.silent one)

pub returns-in-Ok-clause-views : goal.returns-in-Ok-clause-views
returns-in-Ok-clause-views g c = λ read taken front is. starts_report_views read front is

pub returns-in-Err-clause-views : goal.returns-in-Err-clause-views
returns-in-Err-clause-views g c = λ read taken front is. starts_report_views read front is
