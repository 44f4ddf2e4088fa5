use Rattle.std.proofs.Common.{◌≡◌, List, ℕ, [], ◌∷◌, subst}
use Rattle.std.specs.Prelude.{MatchOption}
use Rattle.node_keys.proofs.InKits.{nobody-is}
use Rattle.node_keys.proofs.hosting.hosts_nobody.Goals as goal

pub returns : goal.returns
returns c =
    let P : List ℕ → Type 0 = λ all. MatchOption c.pop_first.result ((all ≡ []) × (c.pop_first.new.self ≡ [])) (λ p. all ≡ p ∷ c.pop_first.new.self) in
    nobody-is c.args.kit.now c.pop_first.result c.pop_first.new.self c.is_none.result c.is_none.ensures
    (subst P c.hosted-hosted.ensures c.pop_first.ensures)
