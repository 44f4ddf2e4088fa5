use Rattle.std.proofs.Common.{◌≡◌, ◌==◌, ◌∙◌, ℕ, List, length, true, inl, subst, sym}
use Rattle.std.specs.List.{list_any, slice_range}
use Rattle.line_input.proofs.LineLaws.{feed_among}
use Rattle.line_input.proofs.lines.Lines.is_enough.Goals as goal

pub returns-else-ahead-most-clause-enough : goal.returns-else-ahead-most-clause-enough
returns-else-ahead-most-clause-enough c = λ yes. inl (
    feed_among c.args.self.now.ahead c.args.from (length c.args.self.now.ahead)
    (subst (λ (l : List ℕ). list_any (λ (b : ℕ). b == 10) (slice_range l c.args.from (length l)) ≡ true) c.ahead-ahead.ensures
    (sym c.contains.ensures.value ∙ yes))
    )
