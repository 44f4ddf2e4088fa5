use Rattle.std.proofs.Common.{◌≡◌, nat_eq, false, [], ◌∷◌, sym, ◌∙◌}
use Rattle.std.proofs.lemmas.Bool.{eqb-true, eqb-false}
use lib.Pointwise.{pointwise}
use Rattle.text_codec.proofs.Spelled.{bytes_read, decoded, not_empty, not_upper}
use Rattle.text_codec.proofs.hexadecimal.byte_list.Goals as goal
use Rattle.text_codec.proofs.hexadecimal.byte_list.Goals.{then-is_empty-via-then-is_empty, then-is_empty-via-else-is_empty+then-has_upper_case}

pub returns-then-is_empty-clause-none : goal.returns-then-is_empty-clause-none
returns-then-is_empty-clause-none c = λ e bytes s.
    let other : pointwise nat_eq c.args.word.now (45 ∷ []) ≡ false = sym (rw c.as_slice.ensures at c.if-eq.ensures) in
    elim c.then-is_empty.branch [
      | then-is_empty-via-then-is_empty w ↦ not_empty c.args.word.now bytes other s
          (eqb-true _ _ (sym c.is_empty.ensures ∙ w.if-is_empty.true))
      | then-is_empty-via-else-is_empty+then-has_upper_case w ↦ not_upper c.args.word.now bytes other s
          (sym w.has_upper_case.ensures ∙ w.if-has_upper_case.true)
    ]

pub returns-clause-read : goal.returns-clause-read
returns-clause-read c = bytes_read c.args.word.now c.decode.result (eqb-false _ _ (sym c.is_empty.ensures ∙ c.if-is_empty.false))
    (sym c.has_upper_case.ensures ∙ c.if-has_upper_case.false) c.decode.ensures.read

pub returns-clause-none : goal.returns-clause-none
returns-clause-none c = λ e bytes s. c.decode.ensures.none e bytes
    (decoded c.args.word.now bytes (sym (rw c.as_slice.ensures at c.if-eq.ensures)) s)
