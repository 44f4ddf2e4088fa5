-- What is found in a kit, and where nothing is.
use Rattle.std.proofs.Common.{◌≡◌, ◌≢◌, ℕ, ◌+◌, ◌==◌, Bool, true, false, true≢false, List, [], ◌∷◌, map, Option, None, Some, refl, sym, ap, ◌∙◌, subst}
use Rattle.std.specs.Prelude.{◌↔◌, ◌&&◌, not, find, is_some, option_map, option_and_then, IsTrue}
use Rattle.std.proofs.lemmas.Bool.{eqb-true, eq-eqb}
use Rattle.byte_defs.specs.Members.{has}
use Rattle.signature_defs.specs.Schemes.{Scheme}
use Rattle.kit_defs.specs.Kits.{AreHosts, Host, IsHost, key_of, others_than, roster_of}
use Rattle.text_defs.proofs.Tests.{and_true}

pub same_truth : {a b : Bool} → a ≡ b → IsTrue a ↔ IsTrue b
same_truth e = (λ t. sym e ∙ t, λ t. e ∙ t)

-- something is found exactly where a key is this one
pub found_is : {A B : Type 0} (key : A → ℕ) (f : A → B) (p : ℕ) (xs : List A)
    → is_some (option_map f (find (λ x. key x == p) xs)) ≡ has (map key xs) p
found_is key f p [] = refl
found_is key f p (x ∷ xs) = go (found_is key f p xs) (key x == p) refl
  where
    go : is_some (option_map f (find (λ y. key y == p) xs)) ≡ has (map key xs) p → (b : Bool) → (key x == p) ≡ b
        → is_some (option_map f (find (λ y. key y == p) (x ∷ xs))) ≡ has (map key (x ∷ xs)) p
    go rest true e = rw e refl
    go rest false e = rw e rest

no_and : (b : Bool) → (b && false) ≡ false
no_and true = refl
no_and false = refl

-- one of the others is one of the roster, and another
pub others_are : (p q : ℕ) (roster : List ℕ) → has (others_than p roster) q ≡ (has roster q && not (q == p))
others_are p q [] = refl
others_are p q (r ∷ roster) = go (others_are p q roster) (r == p) refl (r == q) refl
  where
    go : has (others_than p roster) q ≡ (has roster q && not (q == p)) → (b : Bool) → (r == p) ≡ b → (c : Bool) → (r == q) ≡ c
        → has (others_than p (r ∷ roster)) q ≡ (has (r ∷ roster) q && not (q == p))
    go rest true e true d =
        let same : (q == p) ≡ true = eq-eqb q p (sym (eqb-true r q d) ∙ eqb-true r p e) in
        rw (e, d, same) (rest ∙ rw same (no_and (has roster q)))
    go rest true e false d = rw (e, d) rest
    go rest false e true d =
        let other : (q == p) ≡ false = subst (λ n. (n == p) ≡ false) (eqb-true r q d) e in
        rw (e, d, other) refl
    go rest false e false d = rw (e, d) rest

some_host : (g h : Host) → (let o : Option Host = Some g in o) ≡ Some h → g ≡ h
some_host g h e = cc

-- a host that is found is the process's, and in its ranges
pub host_found : (scheme : Scheme) (keys : List (ℕ × List ℕ)) (least : ℕ) (hosts : List Host) (p : ℕ) (h : Host)
    → AreHosts scheme keys least hosts → find (λ g. g.process == p) hosts ≡ Some h → IsHost scheme keys h × (h.process ≡ p)
host_found scheme keys least [] p h are e = absurd cc
host_found scheme keys least (g ∷ hosts) p h are e = go (host_found scheme keys (g.process + 1) hosts p h are.2) (g.process == p) refl e
  where
    go : (find (λ f. f.process == p) hosts ≡ Some h → IsHost scheme keys h × (h.process ≡ p)) → (b : Bool) → (g.process == p) ≡ b
        → find (λ f. f.process == p) (g ∷ hosts) ≡ Some h → IsHost scheme keys h × (h.process ≡ p)
    go rest true t found = subst (λ x. IsHost scheme keys x × (x.process ≡ p)) (some_host g h (rw t at found)) (are.1, eqb-true _ _ t)
    go rest false t found = rest (rw t at found)

-- two processes share a key exactly where the first is hosted, and the second is another one of the roster
module _ (scheme : Scheme) (keys : List (ℕ × List ℕ)) (hosts : List Host) (are : AreHosts scheme keys 0 hosts) (p q : ℕ) where
  abbrev found-host : Option Host
  found-host = find (λ h. h.process == p) hosts

  abbrev AreShared : Type 0
  AreShared = IsTrue (has (map (λ h. h.process) hosts) p) × IsTrue (has (roster_of keys) q) × (p ≢ q)

  hosted : is_some (option_map (λ (h : Host). h) found-host) ≡ has (map (λ h. h.process) hosts) p
  hosted = found_is (λ h. h.process) (λ (h : Host). h) p hosts

  shared : (h : Host) → found-host ≡ Some h → is_some (key_of h.pairs q) ≡ (has (roster_of keys) q && not (q == p))
  shared h e =
      let is = host_found scheme keys 0 hosts p h are e in
      found_is (λ k. k.0) (λ k. k.1) q h.pairs ∙ ap (λ ps. has ps q) is.0.shared_with ∙ others_are h.process q (roster_of keys) ∙ ap
      (λ n. has (roster_of keys) q && not (q == n)) is.1

  none-shared : found-host ≡ None → ¬ AreShared
  none-shared e both = true≢false (sym both.0 ∙ sym hosted ∙ ap (λ (o : Option Host). is_some (option_map (λ (h : Host). h) o)) e)

  some-hosted : (h : Host) → found-host ≡ Some h → IsTrue (has (map (λ g. g.process) hosts) p)
  some-hosted h e = sym hosted ∙ ap (λ (o : Option Host). is_some (option_map (λ (g : Host). g) o)) e

  differ : (q == p) ≡ false → p ≢ q
  differ e same = true≢false (sym (eq-eqb q p (sym same)) ∙ e)

  not-false : (b : Bool) → not b ≡ true → b ≡ false
  not-false true e = absurd (true≢false (sym e))
  not-false false e = refl

  test-false : (b : Bool) → (q == p) ≡ b → p ≢ q → b ≡ false
  test-false true e other = absurd (other (sym (eqb-true q p e)))
  test-false false e other = refl

  pub pair_is : (o : Option (List ℕ)) → o ≡ option_and_then (λ h. key_of h.pairs q) found-host → IsTrue (is_some o) ↔ AreShared
  pair_is o is = go found-host refl
    where
      go : (r : Option Host) → found-host ≡ r → IsTrue (is_some o) ↔ AreShared
      go None e =
          let nothing : o ≡ None = is ∙ ap (option_and_then (λ h. key_of h.pairs q)) e in
          (λ t. absurd (true≢false (sym t ∙ ap is_some nothing)), λ both. absurd (none-shared e both))
      go (Some h) e =
          let test : is_some o ≡ (has (roster_of keys) q && not (q == p)) = ap is_some
          (is ∙ ap (option_and_then (λ h. key_of h.pairs q)) e) ∙ shared h e in (
            λ t. let both = and_true _ _ (sym test ∙ t) in (some-hosted h e, both.0, differ (not-false _ both.1)),
            λ both. test ∙ rw (both.1, test-false (q == p) refl both.2) refl,
          )
