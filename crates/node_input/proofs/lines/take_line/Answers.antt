use Rattle.std.proofs.Common.{inl, inr, [], Err, ap}
use Rattle.node_input.proofs.Asking.{broken-line}
use Rattle.node_input.proofs.Taken.{took-line, broke, failed}
use Rattle.node_input.proofs.lines.take_line.Goals as goal

pub returns-in-Ok-Line-clause-took : goal.returns-in-Ok-Line-clause-took
returns-in-Ok-Line-clause-took g c = λ k seen. took-line c.args.most k _ _ _ _ _ seen _
    (elim c.in-Ok-Line.ensures.steady [ inl bad ↦ absurd cc | inr same ↦ same ]) (rw c.in-Ok-Line.field-0-is at c.in-Ok-Line.ensures.answers)

pub returns-in-Ok-Broken-clause-none : goal.returns-in-Ok-Broken-clause-none
returns-in-Ok-Broken-clause-none g c = λ k seen. broken-line c.args.most [] c.args.number k [] _ _ _
    (broke c.args.most k _ _ _ _ _ seen _ (elim c.in-Ok-Broken.ensures.steady [ inl bad ↦ absurd cc | inr same ↦ same ])
    (rw c.in-Ok-Broken.field-0-is at c.in-Ok-Broken.ensures.answers))

pub returns-in-Err-Read-clause-none : goal.returns-in-Err-Read-clause-none
returns-in-Err-Read-clause-none g c = λ k seen. failed c.args.most k _ _ _ _ _ seen c.read.new.self (c.in-Err-Read.ensures.failed (ap (λ e. Err e) c.in-Err-Read.field-0-is)) c.in-Err-Read.ensures.kept
