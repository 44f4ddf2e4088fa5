-- Whether a line stands that begins as words do, by the first of them and the numbers behind it.
use Rattle.std.proofs.Common.{◌≡◌, ℕ, ◌==◌, ◌&&◌, ◌||◌, Bool, true, false, List, [], ◌∷◌, map, drop, Option, Some, None, is_some, option_map, codes, refl, sym, ap, ◌∙◌, arith, Decides}
use Rattle.std.specs.List.{list_any, AllByRecursion}
use Rattle.std.specs.Fmt.{decimal}
use Rattle.std.proofs.lemmas.Bool.Decides.{same_from_decides, Decides-eqb}
use Rattle.std.proofs.lemmas.Slice.Eq.{bytes_eq-Decides}
use Rattle.byte_defs.specs.Choices.{first_that_holds, is_some_and}
use Rattle.byte_defs.specs.Equality.{same_bytes}
use Rattle.byte_defs.specs.Members.{has}
use Rattle.text_defs.specs.Words.{begin_with, process_of}
use Rattle.kit_defs.specs.Kits.{roster_of}
use Rattle.kit_defs.specs.KitReading.{Draft, has_genesis, is_hosted, is_repeated}
use Rattle.text_defs.proofs.Choosing.{none_some, some_is}
use Rattle.kit_defs.proofs.LineFound.{process_found}
use Rattle.text_defs.proofs.Numbers.{number_within_spelled}
use Rattle.kit_lines.specs.declared.first_words.FirstWord.{FirstWord}
use Rattle.kit_lines.specs.declared.first_words.FirstWord.TheVariants as firsts
use Rattle.kit_lines.specs.FirstWords.{first_word_of, first_process}
use Rattle.kit_draft.specs.Drafts.{IsDraft, IsNumber}

-- ---- lists of tests

pub any_map : {X Y : Type 0} (f : X → Y) (q : Y → Bool) (xs : List X) → list_any q (map f xs) ≡ list_any (λ x. q (f x)) xs
any_map f q [] = refl
any_map f q (x ∷ xs) = ap (λ b. q (f x) || b) (any_map f q xs)

any_same : {X : Type 0} (P : X → Type 0) (f g : X → Bool) → ((x : X) → P x → f x ≡ g x) → (xs : List X) → AllByRecursion P xs
    → list_any f xs ≡ list_any g xs
any_same P f g same [] each = refl
any_same P f g same (x ∷ xs) each = ap (λ b. b || list_any f xs) (same x each.0) ∙ ap (λ b. g x || b) (any_same P f g same xs each.1)

any_equal : {X : Type 0} (f g : X → Bool) → ((x : X) → f x ≡ g x) → (xs : List X) → list_any f xs ≡ list_any g xs
any_equal f g same [] = refl
any_equal f g same (x ∷ xs) = ap (λ b. b || list_any f xs) (same x) ∙ ap (λ b. g x || b) (any_equal f g same xs)

any_never : {X : Type 0} (xs : List X) → list_any (λ x. false) xs ≡ false
any_never [] = refl
any_never (x ∷ xs) = any_never xs

any_and : {X : Type 0} (b : Bool) (f : X → Bool) (xs : List X) → list_any (λ x. b && f x) xs ≡ (b && list_any f xs)
any_and true f xs = refl
any_and false f xs = any_never xs

and_false : (b : Bool) → (b && false) ≡ false
and_false true = refl
and_false false = refl

and_true_right : (b : Bool) → (b && true) ≡ b
and_true_right true = refl
and_true_right false = refl

or_false_right : (b : Bool) → (b || false) ≡ b
or_false_right true = refl
or_false_right false = refl

-- equal bytes are equal the other way round
turned : (xs ys : List ℕ) → same_bytes ys xs ≡ false → same_bytes xs ys ≡ false
turned xs ys e = by (same_bytes xs ys) refl
  where
    by : (b : Bool) → same_bytes xs ys ≡ b → b ≡ false
    by true is = sym ((bytes_eq-Decides ys xs).1 (sym ((bytes_eq-Decides xs ys).0 is))) ∙ e
    by false is = refl

-- ---- by the first word

-- each flag says that the first word is the one of that name
abbrev by_flags : Draft → List (List ℕ) → Bool → Bool → Bool → Bool → Bool → Bool → Bool → Bool → Bool
by_flags d ws r s g k m p h q =
    (is_some d.version && (r && true))
    || ((is_some d.scheme && (s && true))
    || ((is_some d.group && (g && true))
    || (list_any (λ x. k && begin_with (decimal x.0 ∷ []) ws) d.keys
    || ((has_genesis d && (m && true))
    || (list_any (λ x. p && begin_with (decimal x.0 ∷ []) ws) d.ports
    || list_any (λ x. (h && begin_with (decimal x.process ∷ []) ws)
    || list_any (λ y. q && begin_with (decimal x.process ∷ decimal y.0 ∷ []) ws) x.pairs) d.hosts)))))

flags_are : (d : Draft) (word : List ℕ) (ws : List (List ℕ)) → is_repeated d (word ∷ ws) ≡ by_flags d ws
    (same_bytes (codes "rampart") word) (same_bytes (codes "scheme") word) (same_bytes (codes "group") word) (same_bytes (codes "key") word)
    (same_bytes (codes "genesis") word) (same_bytes (codes "port") word) (same_bytes (codes "host") word) (same_bytes (codes "pair") word)
unfolding is_repeated begin_with
flags_are d word ws = refl

-- a line stands that begins with this first word and the words behind it
abbrev pub stands : Draft → List (List ℕ) → FirstWord → Bool
stands d ws firsts.Rampart = is_some d.version
stands d ws firsts.Scheme = is_some d.scheme
stands d ws firsts.Group = is_some d.group
stands d ws firsts.Key = list_any (λ k. begin_with (decimal k.0 ∷ []) ws) d.keys
stands d ws firsts.Genesis = has_genesis d
stands d ws firsts.Port = list_any (λ p. begin_with (decimal p.0 ∷ []) ws) d.ports
stands d ws firsts.Host = list_any (λ h. begin_with (decimal h.process ∷ []) ws) d.hosts
stands d ws firsts.Pair = list_any (λ h. list_any (λ p. begin_with (decimal h.process ∷ decimal p.0 ∷ []) ws) h.pairs) d.hosts

module _ (d : Draft) (ws : List (List ℕ)) where
  -- the lists of tests that fail for another first word
  no_keys : list_any (λ x. false && begin_with (decimal x.0 ∷ []) ws) d.keys ≡ false
  no_keys = any_never d.keys

  no_ports : list_any (λ x. false && begin_with (decimal x.0 ∷ []) ws) d.ports ≡ false
  no_ports = any_never d.ports

  no_hosts : list_any (λ x. (false && begin_with (decimal x.process ∷ []) ws)
      || list_any (λ y. false && begin_with (decimal x.process ∷ decimal y.0 ∷ []) ws) x.pairs) d.hosts ≡ false
  no_hosts = any_equal _ (λ x. false) (λ x. any_never x.pairs) d.hosts ∙ any_never d.hosts

  no_flag : by_flags d ws false false false false false false false false ≡ false
  no_flag = rw (
    and_false (is_some d.version),
    and_false (is_some d.scheme),
    and_false (is_some d.group),
    and_false (has_genesis d),
    no_keys,
    no_ports,
    no_hosts,
  ) refl

  by_rampart : by_flags d ws true false false false false false false false ≡ is_some d.version
  by_rampart = rw (
    and_true_right (is_some d.version),
    and_false (is_some d.scheme),
    and_false (is_some d.group),
    and_false (has_genesis d),
    no_keys,
    no_ports,
    no_hosts,
  ) (or_false_right (is_some d.version))

  by_scheme : by_flags d ws false true false false false false false false ≡ is_some d.scheme
  by_scheme = rw (
    and_false (is_some d.version),
    and_true_right (is_some d.scheme),
    and_false (is_some d.group),
    and_false (has_genesis d),
    no_keys,
    no_ports,
    no_hosts,
  ) (or_false_right (is_some d.scheme))

  by_group : by_flags d ws false false true false false false false false ≡ is_some d.group
  by_group = rw (
    and_false (is_some d.version),
    and_false (is_some d.scheme),
    and_true_right (is_some d.group),
    and_false (has_genesis d),
    no_keys,
    no_ports,
    no_hosts,
  ) (or_false_right (is_some d.group))

  by_key : by_flags d ws false false false true false false false false ≡ stands d ws firsts.Key
  by_key = rw (
    and_false (is_some d.version),
    and_false (is_some d.scheme),
    and_false (is_some d.group),
    and_false (has_genesis d),
    no_ports,
    no_hosts,
  ) (or_false_right (stands d ws firsts.Key))

  by_genesis : by_flags d ws false false false false true false false false ≡ has_genesis d
  by_genesis = rw (
    and_false (is_some d.version),
    and_false (is_some d.scheme),
    and_false (is_some d.group),
    and_true_right (has_genesis d),
    no_keys,
    no_ports,
    no_hosts,
  ) (or_false_right (has_genesis d))

  by_port : by_flags d ws false false false false false true false false ≡ stands d ws firsts.Port
  by_port = rw (
    and_false (is_some d.version),
    and_false (is_some d.scheme),
    and_false (is_some d.group),
    and_false (has_genesis d),
    no_keys,
    no_hosts,
  ) (or_false_right (stands d ws firsts.Port))

  hosts_alone : list_any (λ x. begin_with (decimal x.process ∷ []) ws || list_any (λ y. false) x.pairs) d.hosts ≡ stands d ws firsts.Host
  hosts_alone = any_equal _ (λ x. begin_with (decimal x.process ∷ []) ws)
      (λ x. ap (λ b. begin_with (decimal x.process ∷ []) ws || b)
      (any_never x.pairs) ∙ or_false_right (begin_with (decimal x.process ∷ []) ws)) d.hosts

  by_host : by_flags d ws false false false false false false true false ≡ stands d ws firsts.Host
  by_host = rw (
    and_false (is_some d.version),
    and_false (is_some d.scheme),
    and_false (is_some d.group),
    and_false (has_genesis d),
    no_keys,
    no_ports,
  ) hosts_alone

  by_pair : by_flags d ws false false false false false false false true ≡ stands d ws firsts.Pair
  by_pair = rw (
    and_false (is_some d.version),
    and_false (is_some d.scheme),
    and_false (is_some d.group),
    and_false (has_genesis d),
    no_keys,
    no_ports,
  ) refl

abbrev spelled : FirstWord → List ℕ
spelled firsts.Rampart = codes "rampart"
spelled firsts.Scheme = codes "scheme"
spelled firsts.Group = codes "group"
spelled firsts.Key = codes "key"
spelled firsts.Genesis = codes "genesis"
spelled firsts.Port = codes "port"
spelled firsts.Host = codes "host"
spelled firsts.Pair = codes "pair"

abbrev all_firsts : List FirstWord
all_firsts = firsts.Rampart ∷ firsts.Scheme ∷ firsts.Group ∷ firsts.Key ∷ firsts.Genesis ∷ firsts.Port ∷ firsts.Host ∷ firsts.Pair ∷ []

module _ (word : List ℕ) where
  abbrev among : List FirstWord → Option FirstWord
  among fs = first_that_holds (map (λ f. (same_bytes word (spelled f), f)) fs)

  found : (fs : List FirstWord) (first : FirstWord) → among fs ≡ Some first → word ≡ spelled first
  found [] first e = absurd cc
  found (f ∷ fs) first e = by (same_bytes word (spelled f)) refl e (found fs first)
    where
      by : (b : Bool) → same_bytes word (spelled f) ≡ b
          → first_that_holds ((b, f) ∷ map (λ g. (same_bytes word (spelled g), g)) fs) ≡ Some first
          → (among fs ≡ Some first → word ≡ spelled first) → word ≡ spelled first
      by true is t later = (bytes_eq-Decides word (spelled f)).0 is ∙ ap spelled (some_is f first t)
      by false is t later = later t

  none : (fs : List FirstWord) → among fs ≡ None → AllByRecursion (λ f. same_bytes (spelled f) word ≡ false) fs
  none [] e = tt
  none (f ∷ fs) e = by (same_bytes word (spelled f)) refl e (none fs)
    where
      by : (b : Bool) → same_bytes word (spelled f) ≡ b → first_that_holds ((b, f) ∷ map (λ g. (same_bytes word (spelled g), g)) fs) ≡ None
          → (among fs ≡ None → AllByRecursion (λ g. same_bytes (spelled g) word ≡ false) fs)
          → (same_bytes (spelled f) word ≡ false) × AllByRecursion (λ g. same_bytes (spelled g) word ≡ false) fs
      by true is t later = absurd cc
      by false is t later = (turned (spelled f) word is, later t)

pub first_flag : (d : Draft) (ws : List (List ℕ)) (word : List ℕ) (first : FirstWord) → first_word_of word ≡ Some first
    → is_repeated d (word ∷ ws) ≡ stands d ws first
first_flag d ws word first e = ap (λ w. is_repeated d (w ∷ ws)) (found word all_firsts first e) ∙ by first
  where
    by : (f : FirstWord) → is_repeated d (spelled f ∷ ws) ≡ stands d ws f
    by firsts.Rampart = flags_are d (codes "rampart") ws ∙ by_rampart d ws
    by firsts.Scheme = flags_are d (codes "scheme") ws ∙ by_scheme d ws
    by firsts.Group = flags_are d (codes "group") ws ∙ by_group d ws
    by firsts.Key = flags_are d (codes "key") ws ∙ by_key d ws
    by firsts.Genesis = flags_are d (codes "genesis") ws ∙ by_genesis d ws
    by firsts.Port = flags_are d (codes "port") ws ∙ by_port d ws
    by firsts.Host = flags_are d (codes "host") ws ∙ by_host d ws
    by firsts.Pair = flags_are d (codes "pair") ws ∙ by_pair d ws

pub no_first : (d : Draft) (ws : List (List ℕ)) (word : List ℕ) → first_word_of word ≡ None → is_repeated d (word ∷ ws) ≡ false
no_first d ws word e =
    let n = none word all_firsts e in
    flags_are d word ws ∙ rw (n.0, n.1.0, n.1.1.0, n.1.1.1.0, n.1.1.1.1.0, n.1.1.1.1.1.0, n.1.1.1.1.1.1.0, n.1.1.1.1.1.1.1.0) (no_flag d ws)

pub no_words : (d : Draft) → is_repeated d [] ≡ false
unfolding is_repeated begin_with
no_words d = rw (
  and_false (is_some d.version),
  and_false (is_some d.scheme),
  and_false (is_some d.group),
  and_false (has_genesis d),
  any_never d.keys,
  any_never d.ports,
  any_equal _ (λ x. false) (λ x. any_never x.pairs) d.hosts,
  any_never d.hosts,
) refl

-- ---- by the numbers behind it

-- the word is the number's, as the process that it names tells
number_word : (n : ℕ) → IsNumber n → (word : List ℕ) → same_bytes (decimal n) word ≡ is_some_and (process_of word) (λ p. n == p)
number_word n small word = by (process_of word) refl
  where
    spells : decimal n ≡ word → process_of word ≡ Some n
    spells e = ap process_of (sym e) ∙ number_within_spelled 0 63 n (omega arith) small (omega arith)

    unlike : (b : Bool) → same_bytes (decimal n) word ≡ b → process_of word ≡ None → b ≡ false
    unlike true is names = absurd (none_some n (sym names ∙ spells ((bytes_eq-Decides (decimal n) word).0 is)))
    unlike false is names = refl

    by : (o : Option ℕ) → process_of word ≡ o → same_bytes (decimal n) word ≡ is_some_and o (λ p. n == p)
    by None names = unlike (same_bytes (decimal n) word) refl names
    by (Some p) names =
        let decides : Decides (same_bytes (decimal n) word)
        (n ≡ p) = (
          λ t. some_is n p (sym (spells ((bytes_eq-Decides (decimal n) word).0 t)) ∙ names),
          λ same. (bytes_eq-Decides (decimal n) word).1 (ap decimal same ∙ sym (process_found word p names).0),
        ) in
        same_from_decides _ (n == p) decides (Decides-eqb n p)

one_number : (n : ℕ) → IsNumber n → (ws : List (List ℕ)) → begin_with (decimal n ∷ []) ws ≡ is_some_and (first_process ws) (λ p. n == p)
unfolding begin_with
one_number n small [] = refl
one_number n small (word ∷ ws) = and_true_right (same_bytes (decimal n) word) ∙ number_word n small word

two_numbers : (a b : ℕ) → IsNumber a → IsNumber b → (ws : List (List ℕ))
    → begin_with (decimal a ∷ decimal b ∷ []) ws
    ≡ (is_some_and (first_process ws) (λ p. a == p) && is_some_and (first_process (drop 1 ws)) (λ q. b == q))
unfolding begin_with
two_numbers a b small fits [] = refl
two_numbers a b small fits (word ∷ ws) = ap (λ t. t && begin_with (decimal b ∷ []) ws)
    (number_word a small word) ∙ ap (λ t. is_some_and (process_of word) (λ p. a == p) && t) (one_number b fits ws)

-- the process comes first or the element does
swapped : {X : Type 0} (o : Option ℕ) (g : X → ℕ → Bool) (xs : List X)
    → list_any (λ x. is_some_and o (g x)) xs ≡ is_some_and o (λ p. list_any (λ x. g x p) xs)
swapped None g xs = any_never xs
swapped (Some p) g xs = refl

numbered : {X : Type 0} (P : X → Type 0) (number : X → ℕ) → ((x : X) → P x → IsNumber (number x)) → (ws : List (List ℕ)) (xs : List X)
    → AllByRecursion P xs → list_any (λ x. begin_with (decimal (number x) ∷ []) ws) xs
    ≡ is_some_and (first_process ws) (λ p. list_any (λ x. number x == p) xs)
numbered P number small ws xs each =
    any_same P (λ x. begin_with (decimal (number x) ∷ []) ws) (λ x. is_some_and (first_process ws) (λ p. number x == p))
    (λ x fits. one_number (number x) (small x fits) ws) xs each
    ∙ swapped (first_process ws) (λ x p. number x == p) xs

module _ (d : Draft) (ok : IsDraft d) (ws : List (List ℕ)) where
  pub key_stands : stands d ws firsts.Key ≡ is_some_and (first_process ws) (has (roster_of d.keys))
  key_stands = numbered _ (λ k. k.0) (λ k fits. fits.0) ws d.keys ok.keys ∙ by (first_process ws)
    where
      by : (o : Option ℕ) → is_some_and o (λ p. list_any (λ k. k.0 == p) d.keys) ≡ is_some_and o (has (roster_of d.keys))
      by None = refl
      by (Some p) = sym (any_map (λ k. k.0) (λ q. q == p) d.keys)

  pub port_stands : stands d ws firsts.Port ≡ is_some_and (first_process ws) (λ p. list_any (λ port. port.0 == p) d.ports)
  port_stands = numbered _ (λ port. port.0) (λ port fits. fits) ws d.ports ok.ports

  pub host_stands_there : stands d ws firsts.Host ≡ is_some_and (first_process ws) (is_hosted d)
  host_stands_there = numbered _ (λ h. h.process) (λ h fits. fits.0) ws d.hosts ok.hosts

  pair_of : (o r : Option ℕ) (a : ℕ) (pairs : List (ℕ × List ℕ))
      → list_any (λ y. is_some_and o (λ p. a == p) && is_some_and r (λ q. y.0 == q)) pairs
      ≡ (is_some_and o (λ p. a == p) && is_some_and r (λ q. list_any (λ y. y.0 == q) pairs))
  pair_of o r a pairs = any_and (is_some_and o (λ p. a == p))
      (λ y. is_some_and r (λ q. y.0 == q)) pairs ∙ ap (λ b. is_some_and o (λ p. a == p) && b) (swapped r (λ y q. y.0 == q) pairs)

  both : (o r : Option ℕ) → list_any
      (λ h. is_some_and o (λ p. h.process == p) && is_some_and r (λ q. list_any (λ y. y.0 == q) h.pairs)) d.hosts
      ≡ is_some_and o (λ p. is_some_and r (λ q. list_any (λ h. (h.process == p) && list_any (λ y. y.0 == q) h.pairs) d.hosts))
  both None r = any_never d.hosts
  both (Some p) None = any_equal _ (λ h. false) (λ h. and_false (h.process == p)) d.hosts ∙ any_never d.hosts
  both (Some p) (Some q) = refl

  pub pair_stands : stands d ws firsts.Pair
      ≡ is_some_and (first_process ws)
      (λ p. is_some_and (first_process (drop 1 ws)) (λ q. list_any (λ h. (h.process == p) && list_any (λ y. y.0 == q) h.pairs) d.hosts))
  pair_stands =
      any_same _ (λ h. list_any (λ y. begin_with (decimal h.process ∷ decimal y.0 ∷ []) ws) h.pairs)
      (λ h. is_some_and (first_process ws) (λ p. h.process == p)
      && is_some_and (first_process (drop 1 ws)) (λ q. list_any (λ y. y.0 == q) h.pairs))
      (λ h fits. any_same _ (λ y. begin_with (decimal h.process ∷ decimal y.0 ∷ []) ws)
      (λ y. is_some_and (first_process ws) (λ p. h.process == p) && is_some_and (first_process (drop 1 ws)) (λ q. y.0 == q))
      (λ y small. two_numbers h.process y.0 fits.0 small ws) h.pairs fits.1
      ∙ pair_of (first_process ws) (first_process (drop 1 ws)) h.process h.pairs) d.hosts ok.hosts
      ∙ both (first_process ws) (first_process (drop 1 ws))

-- a scheme is told where its view is
pub is_reported : {A B : Type 0} (f : A → B) (o : Option A) → is_some (option_map f o) ≡ is_some o
is_reported f None = refl
is_reported f (Some a) = refl

-- ---- for all words

module _ (d : Draft) (all : List (List ℕ)) (word : List ℕ) (ws : List (List ℕ)) (parts : all ≡ word ∷ ws) where
  pub not_again : first_word_of word ≡ None → is_repeated d all ≡ false
  not_again e = ap (is_repeated d) parts ∙ no_first d ws word e

  pub again : (first : FirstWord) → first_word_of word ≡ Some first → is_repeated d all ≡ stands d ws first
  again first e = ap (is_repeated d) parts ∙ first_flag d ws word first e
