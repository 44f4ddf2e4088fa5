use Rattle.std.proofs.Common.{refl}
use Rattle.chain_words.specs.Stops.{words_of}
use Rattle.chain_words.proofs.Taken.{line_refused, none_taken, view_taken}
use Rattle.chain_words.proofs.chaining.step.Goals as goal

pub returns-clause-shown : goal.returns-clause-shown
returns-clause-shown g c = λ e.
    view_taken c.args.kit.now c.args.number c.args.chain.now c.args.lines.now.ahead _ _ c.read.new.self c.line.result.now c.line.ensures
    c.in_ok-next.next c.in_ok-next.ensures.answers _ _ (rw e at c.take.ensures.shown) refl

pub returns-clause-ended : goal.returns-clause-ended
returns-clause-ended g c = λ e.
    none_taken c.args.kit.now c.args.number c.args.chain.now c.args.lines.now.ahead _ _ c.read.new.self c.line.result.now c.line.ensures
    c.in_ok-next.next c.in_ok-next.ensures.answers (rw e at c.take.ensures.shown)

pub returns-clause-last : goal.returns-clause-last
returns-clause-last g c = λ e.
    view_taken c.args.kit.now c.args.number c.args.chain.now c.args.lines.now.ahead _ _ c.read.new.self c.line.result.now c.line.ensures
    c.in_ok-next.next c.in_ok-next.ensures.answers _ _ (c.take.ensures.last e) refl

pub returns-clause-refused : goal.returns-clause-refused
returns-clause-refused g c = λ fault e.
    line_refused c.args.kit.now c.args.number c.args.chain.now c.args.lines.now.ahead _ _ c.read.new.self c.line.result.now c.line.ensures
    c.in_ok-next.next c.in_ok-next.ensures.answers (words_of fault) (rw e at c.take.ensures.shown)
