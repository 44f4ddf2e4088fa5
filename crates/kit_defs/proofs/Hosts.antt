-- Hosts whose last one's pair lines are on their way.
use Rattle.std.proofs.Common.{◌≡◌, ℕ, ◌+◌, ◌<◌, ◌≤◌, ◌==◌, ◌||◌, Bool, true, false, List, [], ◌∷◌, ◌++◌, length, drop, flat_map, Option, Some, None, is_some, option_map, option_and_then, cond, find, refl, sym, ap, ◌∙◌, arith, append_assoc, append-nil, length-append}
use Rattle.std.specs.List.{AllByRecursion}
use Rattle.std.proofs.lemmas.List.{length-map, map-append}
use Rattle.byte_defs.specs.Members.{has}
use Rattle.signature_defs.specs.Schemes.{Scheme}
use Rattle.text_defs.specs.Words.{AreBytes}
use Rattle.kit_defs.specs.Kits.{AreHosts, AreKeys, Host, IsHost, KitLine, Pair, host_lines, key_of, others_than, pair_line, roster_of, secret_line}
use Rattle.kit_defs.specs.KitReading.{first_of, last_of, with_pair}
use Rattle.text_defs.proofs.Choosing.{map_some}
use Rattle.kit_defs.proofs.Fronts.{drop_all, first_none, front_push, front_whole}
use Rattle.kit_defs.proofs.Lists.{each_push}
use Rattle.kit_defs.proofs.Stages.{AreBegun, IsBegun}

-- ---- keys of the roster

-- a process of the roster has a key
pub roster_key : (size least : ℕ) (keys : List (ℕ × List ℕ)) (p : ℕ) → AreKeys size least keys → has (roster_of keys) p ≡ true
    → (key : List ℕ) × (key_of keys p ≡ Some key) × AreBytes size key
roster_key size least [] p are e = absurd cc
roster_key size least (k ∷ keys) p are e = by (k.0 == p) e (roster_key size (k.0 + 1) keys p are.3)
  where
    by : (same : Bool) → (same || has (roster_of keys) p) ≡ true
        → (has (roster_of keys) p ≡ true → (key : List ℕ) × (key_of keys p ≡ Some key) × AreBytes size key)
        → (key : List ℕ) × (option_map (λ r. r.1) (cond same (Some k) (find (λ r. r.0 == p) keys)) ≡ Some key) × AreBytes size key
    by true e later = (k.1, refl, are.2)
    by false e later = later e

-- ---- what comes next

-- the other process whose pair line comes next
abbrev pub next_of : List (ℕ × List ℕ) → Host → Option ℕ
next_of keys h = first_of (drop (length h.pairs) (others_than h.process (roster_of keys)))

abbrev pub next_of_last : List (ℕ × List ℕ) → List Host → Option (ℕ × ℕ)
next_of_last keys hosts = option_and_then (λ h. option_map (λ q. (h.process, q)) (next_of keys h)) (last_of hosts)

-- behind a host all whose pair lines stand none comes next
pub none_behind : (keys : List (ℕ × List ℕ)) (h : Host) → roster_of h.pairs ≡ others_than h.process (roster_of keys)
    → is_some (next_of_last keys (h ∷ [])) ≡ false
none_behind keys h shared =
    let none : drop (length h.pairs) (others_than h.process (roster_of keys))
    ≡ [] = ap (drop (length h.pairs)) (sym shared) ∙ drop_all (roster_of h.pairs) (length h.pairs) (length-map h.pairs (λ r. r.0)) in
    ap (λ ps. is_some {T = ℕ × ℕ} (option_map (λ r. (h.process, r)) (first_of ps))) none

module _ (scheme : Scheme) (keys : List (ℕ × List ℕ)) where
  -- where no pair line comes next, they all stand
  host_whole : (h : Host) → IsBegun scheme keys h → (o : Option ℕ) → next_of keys h ≡ o
      → is_some {T = ℕ × ℕ} (option_map (λ q. (h.process, q)) o) ≡ false → IsHost scheme keys h
  host_whole h begun None next e = record {
    secret = begun.secret;
    scheme_is = begun.scheme_is;
    key = begun.key;
    shared_with = front_whole (roster_of h.pairs) (others_than h.process (roster_of keys))
        (drop (length h.pairs) (others_than h.process (roster_of keys))) begun.front (first_none _ next);
    shared = begun.shared;
  }
  host_whole h begun (Some q) next e = absurd cc

  pub hosts_whole : (least : ℕ) (hosts : List Host) → AreBegun scheme keys least hosts → is_some (next_of_last keys hosts) ≡ false
      → AreHosts scheme keys least hosts
  hosts_whole least [] are e = tt
  hosts_whole least (h ∷ []) are e = (are.0, host_whole h are.1 (next_of keys h) refl e, tt)
  hosts_whole least (h ∷ g ∷ hosts) are e = (are.0, are.1, hosts_whole (h.process + 1) (g ∷ hosts) are.2 e)

  -- one more host, of a process above those that stand
  pub hosts_push : (least : ℕ) (hosts : List Host) (new : Host) → AreHosts scheme keys least hosts
      → AllByRecursion (λ h. h.process < new.process) hosts → least ≤ new.process → IsBegun scheme keys new
      → AreBegun scheme keys least (hosts ++ new ∷ [])
  hosts_push least [] new are below le begun = (le, begun)
  hosts_push least (h ∷ []) new are below le begun = let up : h.process + 1
      ≤ new.process = omega (arith, below.0) in (are.0, are.1, (up, begun))
  hosts_push least (h ∷ g ∷ hosts) new are below le begun = let up : h.process + 1
      ≤ new.process = omega (arith, below.0) in (are.0, are.1, hosts_push (h.process + 1) (g ∷ hosts) new are.2 below.1 up begun)

  -- one more pair
  pair_push : (h : Host) (q : ℕ) (key : List ℕ) → IsBegun scheme keys h → next_of keys h ≡ Some q → AreBytes 32 key
      → IsBegun scheme keys (record h { pairs = h.pairs ++ (q, key) ∷ [] })
  pair_push h q key begun next bytes =
      let others : List ℕ = others_than h.process (roster_of keys) in
      let processes : roster_of (h.pairs ++ (q, key) ∷ []) ≡ roster_of h.pairs ++ q ∷ [] = map-append (λ k. k.0) h.pairs ((q, key) ∷ []) in
      let count : length (h.pairs ++ (q, key) ∷ []) ≡ length h.pairs + 1 = length-append h.pairs ((q, key) ∷ []) in
      record {
        secret = begun.secret;
        scheme_is = begun.scheme_is;
        key = begun.key;
        front = ap (λ ps. ps ++ drop (length (h.pairs ++ (q, key) ∷ [])) others) processes ∙ ap
            (λ n. (roster_of h.pairs ++ q ∷ []) ++ drop n others) count ∙ front_push (roster_of h.pairs) others
            (length h.pairs) q begun.front next;
        shared = each_push (λ p. AreBytes 32 p.1) h.pairs (q, key) begun.shared bytes;
      }

  pub pairs_push : (least : ℕ) (hosts : List Host) (p q : ℕ) (key : List ℕ) → AreBegun scheme keys least hosts
      → next_of_last keys hosts ≡ Some (p, q) → AreBytes 32 key → AreBegun scheme keys least (with_pair (q, key) hosts)
  pairs_push least [] p q key are next bytes = absurd cc
  pairs_push least (h ∷ []) p q key are next bytes =
      let read = map_some (λ r. (h.process, r)) (next_of keys h) (p, q) next in
      let same : read.0 ≡ q = ap (λ r. r.1) read.2 in
      (are.0, pair_push h q key are.1 (read.1 ∙ ap (λ r. Some r) same) bytes)
  pairs_push least (h ∷ g ∷ []) p q key are next bytes = (are.0, are.1, pairs_push (h.process + 1) (g ∷ []) p q key are.2 next bytes)
  pairs_push least (h ∷ g ∷ f ∷ hosts) p q key are next bytes = (
    are.0,
    are.1,
    pairs_push (h.process + 1) (g ∷ f ∷ hosts) p q key are.2 next bytes,
  )

-- ---- their lines

pub pair_lines : (keys : List (ℕ × List ℕ)) (hosts : List Host) (p q : ℕ) (key : List ℕ) → next_of_last keys hosts ≡ Some (p, q)
    → flat_map host_lines (with_pair (q, key) hosts) ≡ flat_map host_lines hosts ++ Pair p q key ∷ []
pair_lines keys [] p q key next = absurd cc
pair_lines keys (h ∷ []) p q key next =
    let read = map_some (λ r. (h.process, r)) (next_of keys h) (p, q) next in
    let same : h.process ≡ p = ap (λ r. r.0) read.2 in
    let line : KitLine = Pair h.process q key in
    let more : host_lines (record h { pairs = h.pairs ++ (q, key) ∷ [] }) ≡ host_lines h
    ++ line ∷ [] = ap (λ ls. secret_line h.process h.secret ∷ ls) (map-append (pair_line h.process) h.pairs ((q, key) ∷ [])) in
    append-nil (host_lines (record h { pairs = h.pairs ++ (q, key) ∷ [] })) ∙ more
    ∙ ap (λ ls. ls ++ line ∷ []) (sym (append-nil (host_lines h))) ∙ ap (λ r. (host_lines h ++ []) ++ Pair r q key ∷ []) same
pair_lines keys (h ∷ g ∷ hosts) p q key next =
    ap (λ ls. host_lines h ++ ls) (pair_lines keys (g ∷ hosts) p q key next) ∙ sym
    (append_assoc (host_lines h) (flat_map host_lines (g ∷ hosts)) (Pair p q key ∷ []))
