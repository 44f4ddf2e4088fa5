use Rattle.std.proofs.Common.{◌≡◌, ℕ, ◌<◌, ◌++◌, ◌∷◌, [], List, map, length, take, get_or, All, sym, ap, subst, ◌∙◌, arith}
use Rattle.std.proofs.lemmas.List.{length-map, take_more, get_or-map}
use Rattle.replay_cast.specs.Keyed.{entry}
use Rattle.replay_cast.proofs.Listing.{rising_before}
use Rattle.replay_cast.proofs.roster.roster_of.Goals as goal

pub add-requires : goal.add-requires
add-requires c =
    let i = c.loop-one.one-index in
    let keys = map entry c.args.entries.now in
    let x = c.one-item.result in
    let low : i < length keys = omega (arith, c.loop-one-test.true, length-map c.args.entries.now entry) in
    let at : entry x ≡ get_or keys i (entry x) = ap entry c.one-item.is ∙ sym
    (get_or-map entry c.args.entries.now i x (entry x) c.loop-one-test.true) in
    let P : List (ℕ × List ℕ) → Type 0 = λ ks. All (λ k. k.0 < x.process) ks in
    subst P (sym c.loop-one.invariant) (rising_before keys i (entry x) c.requires low at)

pub loop-one-preserved : goal.loop-one-preserved
loop-one-preserved c =
    let i = c.loop-one.one-index in
    let keys = map entry c.args.entries.now in
    let x = c.one-item.result in
    let low : i < length keys = omega (arith, c.loop-one-test.true, length-map c.args.entries.now entry) in
    let at : entry x ≡ get_or keys i (entry x) = ap entry c.one-item.is ∙ sym
    (get_or-map entry c.args.entries.now i x (entry x) c.loop-one-test.true) in
    c.in_ok-add.ensures.added
    ∙ ((λ j. c.loop-one.invariant j ++ (x.process, c.as_slice.ensures.value j) ∷ [])
    ∙ (ap (λ (k : ℕ × List ℕ). take i keys ++ k ∷ []) at
    ∙ sym (take_more keys i (entry x) low)))
