use Rattle.std.proofs.Common.{◌≢◌, Err, sym, ap, ◌∙◌, arith}
use Rattle.chain_text_defs.specs.Chains.{chain_of}
use Rattle.chain_words.specs.declared.stops.Stop.{Stop}
use Rattle.chain_words.proofs.Statuses.{at_input, at_write, part_stays, refused_so}
use Rattle.chain_words.proofs.chaining.chain.Goals as goal

pub returns-in-Err-clause-part : goal.returns-in-Err-clause-part
returns-in-Err-clause-part g c = λ four.
    let other : c.tell.result ≢ 1 = λ e. omega (arith, four, e) in
    let is = at_write c.in-Err.stop (sym (c.tell.ensures.status other) ∙ four) in
    part_stays chain_of c.in-Err.stop _ _ _ _ _ _ _ is (c.in-Err.ensures.part (ap (λ (s : Stop). Err s) is)) (c.tell.ensures.line other)

pub returns-in-Err-clause-refused : goal.returns-in-Err-clause-refused
returns-in-Err-clause-refused g c = λ seven.
    let other : c.tell.result ≢ 1 = λ e. omega (arith, seven, e) in
    let is = at_input c.in-Err.stop (sym (c.tell.ensures.status other) ∙ seven) in
    refused_so chain_of c.in-Err.stop is.0 _ _ _ _ _ _ _ _ is.1 (c.in-Err.ensures.refused is.0 (ap (λ (s : Stop). Err s) is.1)) c.in-Err.ensures.calm
    (c.tell.ensures.line other)
