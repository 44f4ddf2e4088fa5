-- A kit that is made from a seed is a kit.
use Rattle.std.proofs.Common.{◌≡◌, ◌≢◌, ℕ, zero, suc, ◌+◌, ◌<◌, ◌≤◌, ◌==◌, Bool, true, false, ◌||◌, List, [], ◌∷◌, map, find, take, Option, Some, None, option_map, cond, AllPairs, IsTrue, get_or, refl, sym, ap, subst, ◌∙◌, arith}
use Rattle.std.specs.List.{AllByRecursion, list_any, range_with_len}
use Rattle.std.proofs.lemmas.Bool.{eqb-false, eqb-true}
use Rattle.std.proofs.lemmas.List.FromFn.{length-range_with_len, get_or-range_with_len}
use Rattle.byte_defs.specs.Members.{has}
use Rattle.signature_defs.specs.Lms.{lms_public_key}
use Rattle.signature_defs.specs.Secrets.{scheme_of, height_of, public_key_of}
use Rattle.sig_scheme.specs.Keys.{refusal_of}
use Rattle.sig_scheme.proofs.Refusals.{levels_not_refused, tree_not_refused}
use Rattle.kit_defs.specs.declared.KeyPlan.{KeyPlan}
use Rattle.kit_defs.specs.declared.KeyPlan.TheVariants as plans
use Rattle.text_defs.specs.Words.{AreBytes}
use Rattle.kit_defs.specs.Kits.{AreHosts, AreKeys, IsHost, IsKit, IsSecret, key_length, others_than, roster_of}
use Rattle.kit_defs.specs.KitMaking.{IsPlan, derive, derived_pair, derived_secret, first_numbers, made_host, made_kit, planned_scheme}
use Rattle.kit_making.proofs.Bytes.{hash_is, half_is, levels_key_is, tree_key_is}

-- ---- lists over numbers

module _ {X : Type 0} (f : ℕ → X) where
  each_of : (P : X → Type 0) (a n : ℕ) → ((p : ℕ) → a ≤ p → p < a + n → P (f p)) → AllByRecursion P (map f (range_with_len a n))
  each_of P a zero so = tt
  each_of P a (suc n) so = (so a (omega arith) (omega arith), each_of P (a + 1) n (λ p low high. so p (omega arith) (omega arith)))

  each_mapped : (P : X → Type 0) (xs : List ℕ) → ((p : ℕ) → P (f p)) → AllByRecursion P (map f xs)
  each_mapped P [] so = tt
  each_mapped P (x ∷ xs) so = (so x, each_mapped P xs so)

firsts_are : {X : Type 0} (g : ℕ → X) (xs : List ℕ) → map (λ (k : ℕ × X). k.0) (map (λ p. (p, g p)) xs) ≡ xs
firsts_are g [] = refl
firsts_are g (x ∷ xs) = ap (λ ps. x ∷ ps) (firsts_are g xs)

among_by : (b : Bool) (m a n : ℕ) → (a == m) ≡ b → (a ≢ m → list_any (λ q. q == m) (range_with_len (a + 1) n) ≡ true)
    → (b || list_any (λ q. q == m) (range_with_len (a + 1) n)) ≡ true
among_by true m a n e later = refl
among_by false m a n e later = later (eqb-false a m e)

is_among : (m a n : ℕ) → a ≤ m → m < a + n → list_any (λ q. q == m) (range_with_len a n) ≡ true
is_among m a zero low high = absurd (omega arith)
is_among m a (suc n) low high = among_by (a == m) m a n refl (λ other. is_among m (a + 1) n (omega arith) (omega arith))

distinct : (n : ℕ) → AllPairs (λ i j. i ≢ j) (range_with_len 0 n)
distinct n i j d below within =
    let len = length-range_with_len 0 n in
    let first : get_or (range_with_len 0 n) i d ≡ 0 + i = get_or-range_with_len 0 n i d (omega arith) in
    let second : get_or (range_with_len 0 n) j d ≡ 0 + j = get_or-range_with_len 0 n j d (omega arith) in
    λ e. omega arith

module _ {K : Type 0} (g : ℕ → K) (p : ℕ) where
  abbrev key_in : ℕ → ℕ → Option K
  key_in a n = option_map (λ (k : ℕ × K). k.1) (find (λ k. k.0 == p) (map (λ q. (q, g q)) (range_with_len a n)))

  key_by : (b : Bool) (a n : ℕ) → (a == p) ≡ b → (a ≢ p → key_in (a + 1) n ≡ Some (g p))
      → option_map (λ (k : ℕ × K). k.1) (cond b (Some (a, g a)) (find (λ k. k.0 == p) (map (λ q. (q, g q)) (range_with_len (a + 1) n))))
      ≡ Some (g p)
  key_by true a n e later = ap (λ q. Some (g q)) (eqb-true a p e)
  key_by false a n e later = later (eqb-false a p e)

  key_among : (a n : ℕ) → a ≤ p → p < a + n → key_in a n ≡ Some (g p)
  key_among a zero low high = absurd (omega arith)
  key_among a (suc n) low high = key_by (a == p) a n refl (λ other. key_among (a + 1) n (omega arith) (omega arith))

-- ---- what is derived

secret_is : (plan : KeyPlan) (seed : List ℕ) (p : ℕ) → IsPlan plan → IsSecret (derived_secret plan seed p)
secret_is (plans.Plain total) seed p is = (hash_is _, is)
secret_is (plans.Lms code kind) seed p is = (is.0, is.1, half_is _, hash_is _)
secret_is (plans.Hss levels code kind) seed p is = (is, half_is _, hash_is _)

-- and is refused for want of memory at most
pub not_refused : (plan : KeyPlan) (seed : List ℕ) (p : ℕ) → IsPlan plan → refusal_of (derived_secret plan seed p) ≡ None
not_refused (plans.Plain total) seed p is = refl
not_refused (plans.Lms code kind) seed p is = tree_not_refused code is.0 is.1
not_refused (plans.Hss levels code kind) seed p is = levels_not_refused levels code kind is

scheme_is : (plan : KeyPlan) (seed : List ℕ) (p : ℕ) → scheme_of (derived_secret plan seed p) ≡ planned_scheme plan
scheme_is (plans.Plain total) seed p = refl
scheme_is (plans.Lms code kind) seed p = refl
scheme_is (plans.Hss levels code kind) seed p = refl

key_is : (plan : KeyPlan) (seed : List ℕ) (p : ℕ) → AreBytes (key_length (planned_scheme plan)) (public_key_of (derived_secret plan seed p))
key_is (plans.Plain total) seed p = hash_is _
key_is (plans.Lms code kind) seed p = tree_key_is kind code (height_of code) (take 16 (derive seed 1 p 0)) (derive seed 2 p 0) (half_is _)
key_is (plans.Hss levels code kind) seed p =
    let top : List ℕ = lms_public_key code kind (height_of code) (take 16 (derive seed 1 p 0)) (derive seed 2 p 0) in
    levels_key_is levels top (tree_key_is kind code (height_of code) (take 16 (derive seed 1 p 0)) (derive seed 2 p 0) (half_is _))

module _ (plan : KeyPlan) (seed : List ℕ) (roster : ℕ) (is : IsPlan plan) where
  abbrev public : ℕ → List ℕ
  public p = public_key_of (derived_secret plan seed p)

  abbrev keys : List (ℕ × List ℕ)
  keys = map (λ p. (p, public p)) (first_numbers roster)

  keys_are : (a n : ℕ) → a + n ≤ 64 → AreKeys (key_length (planned_scheme plan)) a (map (λ p. (p, public p)) (range_with_len a n))
  keys_are a zero most = tt
  keys_are a (suc n) most = (omega arith, omega arith, key_is plan seed a, keys_are (a + 1) n (omega arith))

  host_is : (p : ℕ) → p < roster → IsHost (planned_scheme plan) keys (made_host plan seed roster p)
  host_is p within = record {
    secret = secret_is plan seed p is;
    scheme_is = scheme_is plan seed p;
    key = key_among public p 0 roster (omega arith) (omega arith);
    shared_with = firsts_are (derived_pair seed p) (others_than p (first_numbers roster)) ∙ ap (others_than p)
        (sym (firsts_are public (first_numbers roster)));
    shared = each_mapped (λ q. (q, derived_pair seed p q)) (λ r. AreBytes 32 r.1) (others_than p (first_numbers roster)) (λ q. hash_is _);
  }

  hosts_are : (a n : ℕ) → a + n ≤ roster → AreHosts (planned_scheme plan) keys a (map (made_host plan seed roster) (range_with_len a n))
  hosts_are a zero most = tt
  hosts_are a (suc n) most = (omega arith, host_is a (omega arith), hosts_are (a + 1) n (omega arith))

  pub made_is_kit : (members : ℕ) → 1 ≤ members → members ≤ 16 → members ≤ roster → roster ≤ 64 → IsKit (made_kit members roster plan seed)
  unfolding made_kit
  made_is_kit members some most listed numbered = record {
    group = half_is _;
    keys = keys_are 0 roster (omega arith);
    some = omega (arith, length-range_with_len 0 members);
    most = omega (arith, length-range_with_len 0 members);
    listed = listed_are 0 members (omega arith);
    distinct = distinct members;
    ported = firsts_are (λ p. 47000 + p) (first_numbers roster) ∙ sym (firsts_are public (first_numbers roster));
    ports = each_of (λ p. (p, 47000 + p)) (λ r. (1 ≤ r.1) × (r.1 ≤ 65535)) 0 roster (λ p low high. (omega arith, omega arith));
    hosts = hosts_are 0 roster (omega arith);
  }
    where
      listed_are : (a n : ℕ) → a + n ≤ roster → AllByRecursion (λ m. IsTrue (has (roster_of keys) m)) (range_with_len a n)
      listed_are a zero low = tt
      listed_are a (suc n) low = (true_is a (omega arith), listed_are (a + 1) n (omega arith))
        where
          true_is : (m : ℕ) → m < roster → IsTrue (has (roster_of keys) m)
          true_is m below = subst IsTrue
              (sym (ap (λ ps. has ps m) (firsts_are public (first_numbers roster)) ∙ is_among m 0 roster (omega arith) (omega arith))) refl
