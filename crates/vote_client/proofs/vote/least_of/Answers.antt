use Rattle.std.proofs.Common.{◌≡◌, ◌+◌, ◌<◌, ◌≤◌, ◌∙◌, sym, ap, List, length, map, drop, Option, arith}
use Rattle.std.specs.Prelude.{option_map}
use Rattle.std.proofs.lemmas.List.{drop_all}
use Rattle.store_defs.specs.Votes.{Content}
use Rattle.vote_client.specs.Choosing.{lesser}
use Rattle.vote_client.specs.Counted.{counted, given}
use Rattle.vote_client.specs.Views.{content}
use Rattle.vote_client.specs.declared.vote.Given.{Given}
use Rattle.vote_client.proofs.Leasts.{chosen, chosen-all}
use Rattle.vote_client.proofs.Mapped.{from-place}
use Rattle.vote_client.proofs.vote.least_of.Goals as goal

pub counted-preserved : goal.counted-preserved
counted-preserved c =
    let o : Option Content = option_map content c.counted.least in
    let rest : List Content = map (λ g. g.1) (counted (drop (c.counted.given-index + 1) c.args.counted.now)) in
    let lt : c.counted.given-index < length c.args.counted.now = omega arith in
    let next : option_map content c.lesser-least.result ≡ lesser c.args.vote.now o (given c.given-item.result).1 =
    c.lesser-least.ensures ∙ ap (λ (x : Content). lesser c.args.vote.now o x) c.content.ensures in
    ap (λ (p : Option Content). chosen c.args.vote.now p rest) next
    ∙ sym (ap (λ (xs : List Given). chosen c.args.vote.now o (map (λ g. g.1) (counted xs)))
    (from-place c.args.counted.now c.counted.given-index c.given-item.result lt c.given-item.is))
    ∙ c.counted.invariant

pub returns : goal.returns
returns c =
    let o : Option Content = option_map content c.counted.least in
    let le : length c.args.counted.now ≤ c.counted.given-index = omega arith in
    sym (ap (λ (xs : List Given). chosen c.args.vote.now o (map (λ g. g.1) (counted xs))) (drop_all c.counted.given-index c.args.counted.now le))
    ∙ c.counted.invariant
    ∙ chosen-all c.args.vote.now (map (λ g. g.1) (counted c.args.counted.now))
