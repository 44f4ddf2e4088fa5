use Rattle.std.proofs.Common.{◌+◌, ◌<◌, ◌≤◌, ◌∙◌, sym, ap, ℕ, Bool, List, length, drop, arith}
use Rattle.std.specs.Prelude.{◌==◌, ◌||◌}
use Rattle.std.specs.List.{list_any}
use Rattle.std.proofs.lemmas.List.{drop_all}
use Rattle.state_transfer.specs.Counted.{counted}
use Rattle.state_transfer.specs.declared.transfer.Given.{Given}
use Rattle.state_transfer.proofs.Mapped.{from-place}
use Rattle.state_transfer.proofs.transfer.is_counted.Goals as goal

pub counted-preserved : goal.counted-preserved
counted-preserved c =
    let p : ℕ × List ℕ → Bool = λ g. g.0 == c.args.signer in
    let rest : List Given = drop (c.counted.given-index + 1) c.args.counted.now in
    let lt : c.counted.given-index < length c.args.counted.now = omega arith in
    sym (ap (λ (xs : List Given). list_any p (counted xs))
    (from-place c.args.counted.now c.counted.given-index c.given-item.result lt c.given-item.is)
    ∙ ap (λ (b : Bool). b || list_any p (counted rest)) (sym c.is_from.ensures ∙ c.if-is_from.false))
    ∙ c.counted.invariant

pub returns-then-is_from : goal.returns-then-is_from
returns-then-is_from c =
    let p : ℕ × List ℕ → Bool = λ g. g.0 == c.args.signer in
    let rest : List Given = drop (c.counted.given-index + 1) c.args.counted.now in
    let lt : c.counted.given-index < length c.args.counted.now = omega arith in
    sym (ap (λ (xs : List Given). list_any p (counted xs))
    (from-place c.args.counted.now c.counted.given-index c.given-item.result lt c.given-item.is)
    ∙ ap (λ (b : Bool). b || list_any p (counted rest)) (sym c.is_from.ensures ∙ c.if-is_from.true))
    ∙ c.counted.invariant

pub returns : goal.returns
returns c =
    let p : ℕ × List ℕ → Bool = λ g. g.0 == c.args.signer in
    let le : length c.args.counted.now ≤ c.counted.given-index = omega arith in
    sym (ap (λ (xs : List Given). list_any p (counted xs)) (drop_all c.counted.given-index c.args.counted.now le)) ∙ c.counted.invariant
