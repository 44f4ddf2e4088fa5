-- What is made for the first processes, and then for one more.
use Rattle.std.proofs.Common.{◌≡◌, ◌≢◌, ℕ, ◌+◌, ◌<◌, ◌==◌, not, min, max, List, [], ◌∷◌, ◌++◌, length, map, cond, get_or, true, false, sym, ap, ◌∙◌, arith, append-nil}
use Rattle.std.proofs.lemmas.List.{map-append, map-id}
use Rattle.std.proofs.lemmas.List.Elements.{filter-append}
use Rattle.std.proofs.lemmas.List.FromFn.{get_or-map-range_with_len, length-map-range_with_len, map-range_with_len_more}
use Rattle.signature_defs.specs.Secrets as secrets
use Rattle.sig_scheme.specs.Views.{secret}
use Rattle.kit_defs.specs.declared.KeyPlan.{KeyPlan}
use Rattle.kit_defs.specs.Kits as plain
use Rattle.kit_defs.specs.Kits.{others_than}
use Rattle.kit_defs.specs.KitMaking.{derive, derived_group, derived_pair, derived_secret, first_numbers, made_host, made_kit, planned_scheme}
use Rattle.kit_file.specs.declared.parts.Host.{Host}
use Rattle.kit_file.specs.Views.{AreRising, host, hosts}

pub made_more : {X : Type 0} (f : ℕ → X) (n : ℕ) → map f (first_numbers n) ++ f n ∷ [] ≡ map f (first_numbers (n + 1))
made_more f n = sym (map-range_with_len_more f 0 n n (omega arith))

pub first_more : (n : ℕ) → first_numbers n ++ n ∷ [] ≡ first_numbers (n + 1)
first_more n = ap (λ xs. xs ++ n ∷ []) (sym (map-id (first_numbers n))) ∙ made_more (λ x. x) n ∙ map-id (first_numbers (n + 1))

-- one more, behind those that were made
pub made_by : {X : Type 0} (f : ℕ → X) (n : ℕ) (all : List X) (y : X) → all ≡ map f (first_numbers n) → y ≡ f n
    → all ++ y ∷ [] ≡ map f (first_numbers (n + 1))
made_by f n all y before is = ap (λ xs. xs ++ y ∷ []) before ∙ ap (λ x. map f (first_numbers n) ++ x ∷ []) is ∙ made_more f n

pub pair_is : {X Y : Type 0} (a b : X) (x y : Y) → a ≡ b → x ≡ y → let p : X × Y = (a, x) in let q : X × Y = (b, y) in p ≡ q
pair_is {X} {Y} a b x y first second =
    let with_first : X → X × Y = λ c. (c, x) in
    let with_second : Y → X × Y = λ z. (b, z) in
    ap with_first first ∙ ap with_second second

-- each number is below the next one
pub below_next : {X : Type 0} (f : ℕ → ℕ × X) (is : (p : ℕ) → (f p).0 ≡ p) (n x : ℕ) (all : List (ℕ × X)) → all ≡ map f (first_numbers n)
    → x ≡ n → (k : ℕ) (d : ℕ × X) → k < length all → (get_or all k d).0 < x
below_next {X} f is n x all before next k d within =
    let count : length all ≡ n = ap length before ∙ length-map-range_with_len f 0 n in
    let low : k < n = omega arith in
    let at : get_or all k d ≡ f k = ap (λ xs. get_or xs k d) before ∙ get_or-map-range_with_len f 0 n k k d low (omega arith) in
    let first : (get_or all k d).0 ≡ k = ap (λ r. r.0) at ∙ is k in
    omega arith

others_next : (p n : ℕ) → others_than p (first_numbers (n + 1)) ≡ others_than p (first_numbers n) ++ cond (not (n == p)) (n ∷ []) []
others_next p n = ap (others_than p) (sym (first_more n)) ∙ filter-append (λ q. not (q == p)) (first_numbers n) (n ∷ [])

unlike : (q p : ℕ) → q ≢ p → (q == p) ≡ false
unlike q p other = grind arith

alike : (q p : ℕ) → q ≡ p → (q == p) ≡ true
alike q p same = grind arith

-- the next number is another's
other_more : {X : Type 0} (f : ℕ → X) (p n : ℕ) → (n == p) ≡ false
    → map f (others_than p (first_numbers n)) ++ f n ∷ [] ≡ map f (others_than p (first_numbers (n + 1)))
other_more f p n e = sym (ap (map f)
    (others_next p n ∙ ap (λ b. others_than p (first_numbers n) ++ cond (not b) (n ∷ []) []) e) ∙ map-append f
    (others_than p (first_numbers n)) (n ∷ []))

pub pairs_more : (seed : List ℕ) (p q x low high : ℕ) (key : List ℕ) (all : List (ℕ × List ℕ))
    → all ≡ map (λ q. (q, derived_pair seed p q)) (others_than p (first_numbers q)) → x ≡ q
    → key ≡ derive seed 3 low high → low ≡ min p q → high ≡ max p q → q ≢ p
    → all ++ (x, key) ∷ [] ≡ map (λ q. (q, derived_pair seed p q)) (others_than p (first_numbers (q + 1)))
pairs_more seed p q x low high key all before process_is key_is low_is high_is other =
    let f : ℕ → ℕ × List ℕ = λ q. (q, derived_pair seed p q) in
    let is = pair_is x q key (derived_pair seed p q) process_is
    (key_is ∙ ap (λ a. derive seed 3 a high) low_is ∙ ap (derive seed 3 (min p q)) high_is) in
    ap (λ xs. xs ++ (x, key) ∷ []) before ∙ ap (λ y. map f (others_than p (first_numbers q)) ++ y ∷ []) is ∙ other_more f p q
    (unlike q p other)

-- it is this process's own
pub own_more : {X : Type 0} (f : ℕ → X) (p n : ℕ) → n ≡ p
    → map f (others_than p (first_numbers n)) ≡ map f (others_than p (first_numbers (n + 1)))
own_more f p n e = ap (map f) (sym
    (others_next p n ∙ ap (λ b. others_than p (first_numbers n) ++ cond (not b) (n ∷ []) [])
    (alike n p e) ∙ append-nil (others_than p (first_numbers n))))

module _ (plan : KeyPlan) (seed : List ℕ) (roster p : ℕ) (h : Host) (process_is : h.process ≡ p)
    (secret_is : secret h.secret ≡ derived_secret plan seed p)
    (pairs_are : h.pairs.items ≡ map (λ q. (q, derived_pair seed p q)) (others_than p (first_numbers roster))) where
  host_is : host h ≡ made_host plan seed roster p
  host_is =
      let with_process : ℕ → plain.Host = λ x. record { process = x; secret = secret h.secret; pairs = h.pairs.items } in
      let with_secret : secrets.Secret → plain.Host = λ x. record { process = p; secret = x; pairs = h.pairs.items } in
      let with_pairs : List (ℕ × List ℕ) → plain.Host = λ x. record { process = p; secret = derived_secret plan seed p; pairs = x } in
      ap with_process process_is ∙ ap with_secret secret_is ∙ ap with_pairs pairs_are

  pub hosts_more : (all : List Host) → hosts all ≡ map (made_host plan seed roster) (first_numbers p)
      → hosts (all ++ h ∷ []) ≡ map (made_host plan seed roster) (first_numbers (p + 1))
  hosts_more all before =
      map-append host all (h ∷ []) ∙ ap (λ hs. hs ++ host h ∷ []) before ∙ ap
      (λ x. map (made_host plan seed roster) (first_numbers p) ++ x ∷ []) host_is
      ∙ made_more (made_host plan seed roster) p

-- each host's process is below those behind it
pub hosts_rise : (plan : KeyPlan) (seed : List ℕ) (roster n : ℕ) (all : List plain.Host)
    → all ≡ map (made_host plan seed roster) (first_numbers n) → AreRising all
hosts_rise plan seed roster n all is i j d below within =
    let count : length all ≡ n = ap length is ∙ length-map-range_with_len (made_host plan seed roster) 0 n in
    let at : (k : ℕ) → k < n → (get_or all k d).process ≡ k =
    λ k low. ap (λ hs. (get_or hs k d).process) is ∙ ap (λ h. h.process)
    (get_or-map-range_with_len (made_host plan seed roster) 0 n k k d low (omega arith)) in
    let first : (get_or all i d).process ≡ i = at i (omega arith) in
    let second : (get_or all j d).process ≡ j = at j (omega arith) in
    omega arith

-- a kit of these parts
pub kit_is : (members roster : ℕ) (plan : KeyPlan) (seed : List ℕ) (kit : plain.Kit) → kit.scheme ≡ planned_scheme plan
    → kit.group ≡ derived_group seed
    → kit.keys ≡ map (λ p. (p, secrets.public_key_of (derived_secret plan seed p))) (first_numbers roster)
    → kit.genesis ≡ first_numbers members
    → kit.ports ≡ map (λ p. (p, 47000 + p)) (first_numbers roster) → kit.hosts ≡ map (made_host plan seed roster) (first_numbers roster)
    → kit ≡ made_kit members roster plan seed
unfolding made_kit
kit_is members roster plan seed kit scheme group keys genesis ports hosted =
    let made : plain.Kit = made_kit members roster plan seed in
    let a : plain.Kit = record kit { scheme = made.scheme } in
    let b : plain.Kit = record a { group = made.group } in
    let c : plain.Kit = record b { keys = made.keys } in
    let d : plain.Kit = record c { genesis = made.genesis } in
    let e : plain.Kit = record d { ports = made.ports } in
    let to_a : kit ≡ a = ap (λ x. record kit { scheme = x }) scheme in
    let to_b : a ≡ b = ap (λ x. record a { group = x }) group in
    let to_c : b ≡ c = ap (λ x. record b { keys = x }) keys in
    let to_d : c ≡ d = ap (λ x. record c { genesis = x }) genesis in
    let to_e : d ≡ e = ap (λ x. record d { ports = x }) ports in
    let last : e ≡ made = ap (λ x. record e { hosts = x }) hosted in
    to_a ∙ to_b ∙ to_c ∙ to_d ∙ to_e ∙ last
