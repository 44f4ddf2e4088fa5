-- What is tested of each entry holds of each.
use Rattle.std.proofs.Common.{◌≡◌, List, map, Bool, true, sym, ◌∙◌}
use Rattle.std.specs.Prelude.{All, IsTrue, ◌↔◌}
use Rattle.std.specs.List.{list_all}
use Rattle.std.proofs.lemmas.List.Folds.{list_all-map}
use Rattle.pool_laws.proofs.Members.{tested-all, all-tested}

pub each-tested : {X A : Type 0} (f : X → A) (test : A → Bool) (P : A → Type 0) (xs : List X) (b : Bool)
    → ((a : A) → test a ≡ true → P a) → ((a : A) → P a → test a ≡ true) → b ≡ list_all (λ x. test (f x)) xs → IsTrue b ↔ All P (map f xs)
each-tested f test P xs b there back is =
    let same = list_all-map test f xs in
    (λ ok. tested-all test P (map f xs) there (same ∙ sym is ∙ ok), λ all. is ∙ sym same ∙ all-tested test P (map f xs) back all)

pub all-tests : {A : Type 0} (test : A → Bool) (P : A → Type 0) (xs : List A) (b : Bool)
    → ((a : A) → test a ≡ true → P a) → ((a : A) → P a → test a ≡ true) → b ≡ list_all test xs → IsTrue b ↔ All P xs
all-tests test P xs b there back is = (λ ok. tested-all test P xs there (sym is ∙ ok), λ all. is ∙ all-tested test P xs back all)
