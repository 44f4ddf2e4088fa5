use Rattle.std.proofs.Common.{List, ℕ, subst}
use Rattle.node_text.specs.Views.{line as line_of}
use Rattle.node_input.specs.Reads.{IsFor}
use Rattle.node_input.proofs.Asking.{if-err, if-ok, is-for, unasked}
use Rattle.node_input.proofs.lines.read_next.Goals as goal

pub returns-clause-within : goal.returns-clause-within
returns-clause-within g c = if-ok c.asked.result _ _
    (λ said is. subst (λ (line : List ℕ). IsFor c.args.hosted line (line_of said)) c.line.ensures
    (is-for c.args.hosted c.line.result.now (line_of said) is)) c.asked.ensures.says

pub returns-clause-none : goal.returns-clause-none
returns-clause-none g c = λ k seen. if-err c.asked.result _ _
    (λ why none. unasked c.args.most c.args.hosted c.args.number k _ _ _ _ _ why c.line.ensures none (c.in_ok-take_line.ensures.took k seen)) c.asked.ensures.none
