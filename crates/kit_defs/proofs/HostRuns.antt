-- The host lines of a kit are taken in, each with its pair lines.
use Rattle.std.proofs.Common.{◌≡◌, ◌≢◌, ℕ, ◌+◌, ◌<◌, ◌≤◌, ◌==◌, nat_lt, ◌&&◌, ◌||◌, not, Bool, true, false, List, [], ◌∷◌, ◌++◌, length, map, drop, flat_map, is_some, unwrap_or, option_map, option_and_then, Some, Ok, codes, refl, sym, ap, subst, ◌∙◌, arith, append_assoc, append-nil, drop_at}
use Rattle.std.specs.List.{AllByRecursion, list_any}
use Rattle.std.specs.Fmt.{decimal}
use Rattle.std.proofs.lemmas.Bool.{and_from, and_left, and_right, eq-eqb, eqb-false, le-ltb, not_from_true, not-true, or_from, or_left, or_right}
use Rattle.std.proofs.lemmas.List.{length-map, map-append}
use Rattle.std.proofs.lemmas.Slice.Eq.{bytes_eq-Decides}
use Rattle.byte_defs.specs.Choices.{is_some_and}
use Rattle.byte_defs.specs.Equality.{same_bytes}
use Rattle.hex.specs.Hex.{encode_lower}
use Rattle.byte_defs.specs.Members.{has}
use Rattle.signature_defs.specs.Schemes.{Scheme}
use Rattle.signature_defs.specs.Secrets.{Secret, Plain, Lms, Hss, public_key_of, scheme_of}
use Rattle.text_defs.specs.Words.{AreBytes, begin_with}
use Rattle.kit_defs.specs.Kits.{AreHosts, AreKeys, Host, IsHost, IsSecret, KitLine, PlainHost, LmsHost, HssHost, Pair, host_lines, key_length, key_of, line_words, others_than, pair_line, roster_of, secret_line}
use Rattle.kit_defs.specs.KitReading.{Draft, KeyMismatch, first_of, has_genesis, host_above, host_stands, is_hosted, is_pair, is_scheme, last_of, listed_key, next_pair, next_port, lacks_port, with_host, with_matching, with_pair}
use Rattle.kit_defs.proofs.Fresh.{IsFresh}
use Rattle.kit_defs.proofs.Fronts.{drop_all}
use Rattle.kit_defs.proofs.Hosts.{next_of, next_of_last, none_behind}
use Rattle.kit_defs.proofs.LineShapes.{IsLine}
use Rattle.kit_defs.proofs.LineSpelled.{line_spelled}
use Rattle.kit_defs.proofs.ListedSteps.{genesis_stands}
use Rattle.kit_defs.proofs.Lists.{each_of, each_push, each_unmapped, each_weaker, none_passes}
use Rattle.kit_defs.proofs.PublicRuns.{other_words}
use Rattle.kit_defs.proofs.Rising.{Rises, key_listed, one_behind, one_has, one_of_filter, rises_filter, rises_front, roster_rises, roster_small}
use Rattle.kit_defs.proofs.Runs.{Goes, Run, passes, run_append}
use Rattle.kit_defs.proofs.Stages.{Listed, draft_of}
use Rattle.kit_defs.proofs.Versions.{own_scheme}

-- ---- lists with a last one

any_last : {A : Type 0} (test : A → Bool) (xs : List A) (y : A) → test y ≡ true → list_any test (xs ++ y ∷ []) ≡ true
any_last test [] y e = or_left (test y) false e
any_last test (x ∷ xs) y e = or_right (test x) (list_any test (xs ++ y ∷ [])) (any_last test xs y e)

last_is : {A : Type 0} (xs : List A) (y : A) → last_of (xs ++ y ∷ []) ≡ Some y
last_is [] y = refl
last_is (x ∷ []) y = refl
last_is (x ∷ z ∷ xs) y = last_is (z ∷ xs) y

pair_last : (pair : ℕ × List ℕ) (before : List Host) (h : Host)
    → with_pair pair (before ++ h ∷ []) ≡ before ++ record h { pairs = h.pairs ++ pair ∷ [] } ∷ []
pair_last pair [] h = refl
pair_last pair (g ∷ []) h = refl
pair_last pair (g ∷ f ∷ before) h = ap (λ hs. g ∷ hs) (pair_last pair (f ∷ before) h)

-- the host of which the pair lines up to these stand
abbrev up_to : Host → List (ℕ × List ℕ) → Host
up_to h done = record h { pairs = done }

module _ (scheme : Scheme) (group : List ℕ) (keys : List (ℕ × List ℕ)) (first : ℕ) (others : List ℕ) (ports : List (ℕ × ℕ))
    (are : AreKeys (key_length scheme) 0 keys) (ported : map (λ p. p.0) ports ≡ roster_of keys) where
  abbrev roster : List ℕ
  roster = roster_of keys

  abbrev with_hosts : List Host → Draft
  with_hosts hosts = draft_of (Listed scheme group keys first others ports hosts)

  stands : (hosts : List Host) → has_genesis (with_hosts hosts) ≡ true
  stands hosts = genesis_stands scheme group keys first others ports hosts

  pub no_port : (hosts : List Host) → lacks_port (with_hosts hosts) ≡ false
  no_port hosts =
      let none : drop (length ports) roster
      ≡ [] = ap (drop (length ports)) (sym ported) ∙ drop_all (map (λ p. p.0) ports) (length ports) (length-map ports (λ p. p.0)) in
      or_from (not (has_genesis (with_hosts hosts))) (is_some (next_port (with_hosts hosts))) (not_from_true _ (stands hosts))
      (ap (λ ps. is_some (first_of ps)) none)

  small : (p : ℕ) → has roster p ≡ true → p ≤ 63
  small p is = one_has (λ q. q ≤ 63) roster p (roster_small (key_length scheme) 0 keys are) is

  -- a process of the roster is not outside
  inside : (hosts : List Host) (p : ℕ) (more : Bool) → has roster p ≡ true → more ≡ false
      → (has_genesis (with_hosts hosts) && (not (has roster p) || more)) ≡ false
  inside hosts p more is rest = and_right (has_genesis (with_hosts hosts)) (not (has roster p) || more)
      (or_from (not (has roster p)) more (not_from_true _ is) rest)

  -- ---- a host line

  host_fresh : (before : List Host) (p : ℕ) (rest : List (List ℕ)) → p ≤ 63 → AllByRecursion (λ h. h.process < p) before
      → IsFresh (with_hosts before) (codes "host" ∷ decimal p ∷ rest)
  unfolding begin_with
  host_fresh before p rest p_small below =
      let words : List (List ℕ) = codes "host" ∷ decimal p ∷ rest in
      record {
        version = refl;
        scheme = refl;
        group = refl;
        keys = none_passes _ keys (each_of (λ k. begin_with (codes "key" ∷ decimal k.0 ∷ []) words ≡ false) (λ k. refl) keys);
        genesis = and_right (has_genesis (with_hosts before)) false refl;
        ports = none_passes _ ports (each_of (λ r. begin_with (codes "port" ∷ decimal r.0 ∷ []) words ≡ false) (λ r. refl) ports);
        hosts = none_passes (host_stands words) before (each_weaker (λ h. h.process < p) (λ h. host_stands words h ≡ false) (λ h lt.
            or_from (begin_with (codes "host" ∷ decimal h.process ∷ []) words)
            (list_any (λ r. begin_with (codes "pair" ∷ decimal h.process ∷ decimal r.0 ∷ []) words) h.pairs)
            (other_words h.process p [] rest (omega arith) p_small (λ e. omega arith))
            (none_passes _ h.pairs (each_of (λ r. begin_with (codes "pair" ∷ decimal h.process ∷ decimal r.0 ∷ []) words ≡ false)
            (λ r. refl) h.pairs))) before below);
      }

  none_above : (before : List Host) (p : ℕ) → AllByRecursion (λ h. h.process < p) before → host_above (with_hosts before) p ≡ false
  none_above before p below = none_passes (λ h. nat_lt p h.process) before
      (each_weaker (λ h. h.process < p) (λ h. nat_lt p h.process ≡ false) (λ h lt. le-ltb p h.process (omega arith)) before below)

  -- a secret that makes its listed key
  matches : (before : List Host) (p : ℕ) (secret : Secret) → key_of keys p ≡ Some (public_key_of secret) → (n : ℕ)
      → with_matching n (with_hosts before) p secret ≡ Ok (with_host (with_hosts before) p secret)
  matches before p secret key_is n =
      let d : Draft = with_hosts before in
      let same : same_bytes (public_key_of secret) (listed_key d p)
      ≡ true = (bytes_eq-Decides (public_key_of secret) (listed_key d p)).1 (sym (ap (λ o. unwrap_or o []) key_is)) in
      passes (not (same_bytes (public_key_of secret) (listed_key d p))) (KeyMismatch n (public_key_of secret) (listed_key d p))
      (λ _. Ok (with_host d p secret)) (not_from_true _ same)

  secret_goes : (before : List Host) (p : ℕ) (secret : Secret) → IsSecret secret → scheme_of secret ≡ scheme
      → key_of keys p ≡ Some (public_key_of secret) → AllByRecursion (λ h. h.process < p) before
      → is_some (next_of_last keys before) ≡ false
      → Goes (with_hosts before) (secret_line p secret) (with_hosts (before ++ record { process = p; secret = secret; pairs = [] } ∷ []))
  secret_goes before p (Plain key total) is same key_is below whole =
      let listed : has roster p ≡ true = key_listed keys p key key_is in
      let p_small : p ≤ 63 = small p listed in
      let ranges : IsLine (is_scheme scheme)
      (PlainHost p total) = (p_small, subst (λ s. is_scheme scheme s ≡ true) (sym same) (own_scheme scheme), is.1) in
      let d : Draft = with_hosts before in
      record {
        read = line_spelled scheme (PlainHost p total) ranges;
        taken = λ n. record {
          ranges = ranges;
          new = host_fresh before p (codes "plain" ∷ decimal total ∷ []) p_small below;
          inside = inside before p false listed refl;
          in_time = none_above before p below;
          due = or_from (lacks_port d) (is_some (next_pair d)) (no_port before) whole;
          of_roster = refl;
          taken = ap (λ k. Ok (with_host d p (Plain k total))) (ap (λ o. unwrap_or o []) key_is);
        };
      }
  secret_goes before p (Lms code kind id seed) is same key_is below whole =
      let secret : Secret = Lms code kind id seed in
      let line : KitLine = LmsHost p code kind id seed in
      let listed : has roster p ≡ true = key_listed keys p (public_key_of secret) key_is in
      let p_small : p ≤ 63 = small p listed in
      let ranges : IsLine (is_scheme scheme) line = record {
        number = p_small;
        scheme_may = subst (λ s. is_scheme scheme s ≡ true) (sym same) (own_scheme scheme);
        least = is.0;
        most = is.1;
        id_is = is.2;
        seed_is = is.3;
      } in
      let d : Draft = with_hosts before in
      record {
        read = line_spelled scheme line ranges;
        taken = λ n. record {
          ranges = ranges;
          new = host_fresh before p (drop 2 (line_words line)) p_small below;
          inside = inside before p false listed refl;
          in_time = none_above before p below;
          due = or_from (lacks_port d) (is_some (next_pair d)) (no_port before) whole;
          of_roster = refl;
          taken = matches before p secret key_is n;
        };
      }
  secret_goes before p (Hss levels code kind id seed) is same key_is below whole =
      let secret : Secret = Hss levels code kind id seed in
      let line : KitLine = HssHost p levels code kind id seed in
      let listed : has roster p ≡ true = key_listed keys p (public_key_of secret) key_is in
      let p_small : p ≤ 63 = small p listed in
      let ranges : IsLine (is_scheme scheme) line = record {
        number = p_small;
        scheme_may = subst (λ s. is_scheme scheme s ≡ true) (sym same) (own_scheme scheme);
        built = is.0;
        id_is = is.1;
        seed_is = is.2;
      } in
      let d : Draft = with_hosts before in
      record {
        read = line_spelled scheme line ranges;
        taken = λ n. record {
          ranges = ranges;
          new = host_fresh before p (drop 2 (line_words line)) p_small below;
          inside = inside before p false listed refl;
          in_time = none_above before p below;
          due = or_from (lacks_port d) (is_some (next_pair d)) (no_port before) whole;
          of_roster = refl;
          taken = matches before p secret key_is n;
        };
      }

  -- ---- a pair line

  -- a host whose pair lines up to these stand, and the process of the next one
  record IsNext (before : List Host) (h : Host) (done : List (ℕ × List ℕ)) (q : ℕ) (rest : List ℕ) : Type 0 where
    below : AllByRecursion (λ g. g.process < h.process) before
    own : has roster h.process ≡ true
    whole : roster_of done ++ q ∷ rest ≡ others_than h.process roster

  module _ (before : List Host) (h : Host) (done : List (ℕ × List ℕ)) (q : ℕ) (rest : List ℕ) (key : List ℕ)
      (is : IsNext before h done q rest) where
    abbrev so_far : List Host
    so_far = before ++ up_to h done ∷ []

    own_small : h.process ≤ 63
    own_small = small h.process is.own

    -- the other one is of the roster, and another process
    other_is : (has roster q ≡ true) × (not (q == h.process) ≡ true)
    other_is = one_of_filter (λ r. not (r == h.process)) roster q
        (subst (λ ps. has ps q ≡ true) is.whole (one_behind (roster_of done) q rest))

    other_small : q ≤ 63
    other_small = small q other_is.0

    apart : h.process ≢ q
    apart same = eqb-false q h.process (not-true _ other_is.1) (sym same)

    done_below : AllByRecursion (λ r. r.0 < q) done
    done_below =
        let rises = rises_filter (λ r. not (r == h.process)) 0 roster (roster_rises (key_length scheme) 0 keys are) in
        each_unmapped (λ r. r < q) (λ r. r.0) done (rises_front 0 (roster_of done) q rest (subst (Rises 0) (sym is.whole) rises))

    comes : next_pair (with_hosts so_far) ≡ Some (h.process, q)
    comes =
        ap (option_and_then (λ g. option_map (λ r. (g.process, r)) (next_of keys g))) (last_is before (up_to h done))
        ∙ ap (option_map (λ r. (h.process, r)))
        (ap (λ ps. first_of (drop (length done) ps))
        (sym is.whole) ∙ ap first_of (drop_at (roster_of done) (q ∷ rest) (length done) (length-map done (λ r. r.0))))

    abbrev words : List (List ℕ)
    words = line_words (Pair h.process q key)

    -- no line that begins so stands with an earlier host, nor with this one
    earlier_host : (g : Host) → g.process < h.process → host_stands words g ≡ false
    unfolding begin_with
    earlier_host g lt =
        none_passes _ g.pairs (each_of (λ r. begin_with (codes "pair" ∷ decimal g.process ∷ decimal r.0 ∷ []) words ≡ false)
        (λ r. other_words g.process h.process (decimal r.0 ∷ []) (decimal q ∷ encode_lower key ∷ [])
        (omega (arith, own_small)) own_small (λ e. omega arith)) g.pairs)

    this_host : host_stands words (up_to h done) ≡ false
    unfolding begin_with
    this_host =
        none_passes _ done (each_weaker (λ r. r.0 < q) (λ r. begin_with (codes "pair" ∷ decimal h.process ∷ decimal r.0 ∷ []) words ≡ false)
        (λ r lt. and_right (same_bytes (decimal h.process) (decimal h.process)) _
        (other_words r.0 q [] (encode_lower key ∷ []) (omega (arith, other_small)) other_small (λ e. omega arith))) done done_below)

    pair_fresh : IsFresh (with_hosts so_far) words
    unfolding begin_with
    pair_fresh = record {
      version = refl;
      scheme = refl;
      group = refl;
      keys = none_passes _ keys (each_of (λ k. begin_with (codes "key" ∷ decimal k.0 ∷ []) words ≡ false) (λ k. refl) keys);
      genesis = and_right (has_genesis (with_hosts so_far)) false refl;
      ports = none_passes _ ports (each_of (λ r. begin_with (codes "port" ∷ decimal r.0 ∷ []) words ≡ false) (λ r. refl) ports);
      hosts = none_passes (host_stands words) so_far (each_push (λ g. host_stands words g ≡ false) before (up_to h done)
          (each_weaker (λ g. g.process < h.process) (λ g. host_stands words g ≡ false) earlier_host before is.below) this_host);
    }

    pair_goes : AreBytes 32 key → Goes (with_hosts so_far) (Pair h.process q key)
        (with_hosts (before ++ up_to h (done ++ (q, key) ∷ []) ∷ []))
    pair_goes bytes =
        let d : Draft = with_hosts so_far in
        let ranges : IsLine (is_scheme scheme) (Pair h.process q key) = (own_small, other_small, apart, bytes) in
        let hosted : is_hosted d h.process
        ≡ true = any_last (λ g. g.process == h.process) before (up_to h done) (eq-eqb h.process h.process refl) in
        let meant : is_some_and (next_pair d) (is_pair h.process q) ≡ true =
        ap (λ o. is_some_and o (is_pair h.process q)) comes ∙ and_from (h.process == h.process) (q == q) (eq-eqb h.process h.process refl)
        (eq-eqb q q refl) in
        record {
          read = line_spelled scheme (Pair h.process q key) ranges;
          taken = λ n. record {
            ranges = ranges;
            new = pair_fresh;
            inside = inside so_far h.process (not (has roster q) || false) is.own
                (or_from (not (has roster q)) false (not_from_true _ other_is.0) refl);
            in_time = and_left (not (is_hosted d h.process)) (host_above d h.process) (not_from_true _ hosted);
            due = or_from (lacks_port d) (not (is_some_and (next_pair d) (is_pair h.process q))) (no_port so_far) (not_from_true _ meant);
            of_roster = refl;
            taken = ap (λ hs. Ok (with_hosts hs)) (pair_last (q, key) before (up_to h done));
          };
        }

  pairs_run : (before : List Host) (h : Host) (done todo : List (ℕ × List ℕ)) → AllByRecursion (λ g. g.process < h.process) before
      → has roster h.process ≡ true
      → roster_of (done ++ todo) ≡ others_than h.process roster → AllByRecursion (λ p. AreBytes 32 p.1) todo
      → Run (with_hosts (before ++ up_to h done ∷ [])) (map (pair_line h.process) todo) (with_hosts (before ++ up_to h (done ++ todo) ∷ []))
  pairs_run before h done [] below own whole bytes = ap (λ ps. with_hosts (before ++ up_to h ps ∷ [])) (sym (append-nil done))
  pairs_run before h done (pair ∷ todo) below own whole bytes =
      let again : (done ++ pair ∷ []) ++ todo ≡ done ++ pair ∷ todo = append_assoc done (pair ∷ []) todo in
      let is : IsNext before h done pair.0
      (roster_of todo) = record { below = below; own = own; whole = sym (map-append (λ r. r.0) done (pair ∷ todo)) ∙ whole } in (
        with_hosts (before ++ up_to h (done ++ pair ∷ []) ∷ []),
        pair_goes before h done pair.0 (roster_of todo) pair.1 is bytes.0,
        subst (λ ps. Run (with_hosts (before ++ up_to h (done ++ pair ∷ []) ∷ [])) (map (pair_line h.process) todo)
            (with_hosts (before ++ up_to h ps ∷ []))) again
            (pairs_run before h (done ++ pair ∷ []) todo below own (ap roster_of again ∙ whole) bytes.1),
      )

  -- ---- all of them

  host_run : (before : List Host) (h : Host) → IsHost scheme keys h → AllByRecursion (λ g. g.process < h.process) before
      → is_some (next_of_last keys before) ≡ false
      → Run (with_hosts before) (host_lines h) (with_hosts (before ++ h ∷ []))
  host_run before h is below whole = (
    with_hosts (before ++ up_to h [] ∷ []),
    secret_goes before h.process h.secret is.secret is.scheme_is is.key below whole,
    pairs_run before h [] h.pairs below (key_listed keys h.process (public_key_of h.secret) is.key) is.shared_with is.shared,
  )

  -- behind a host all whose pair lines stand none comes next
  none_next : (before : List Host) (h : Host) → roster_of h.pairs ≡ others_than h.process roster
      → is_some (next_of_last keys (before ++ h ∷ [])) ≡ false
  none_next before h shared =
      ap (λ o. is_some {T = ℕ × ℕ} (option_and_then (λ g. option_map (λ r. (g.process, r)) (next_of keys g)) o))
      (last_is before h) ∙ none_behind keys h shared

  pub hosts_run : (before : List Host) (least : ℕ) (after : List Host) → AreHosts scheme keys least after
      → AllByRecursion (λ g. g.process < least) before → is_some (next_of_last keys before) ≡ false
      → Run (with_hosts before) (flat_map host_lines after) (with_hosts (before ++ after))
  hosts_run before least [] hosts below whole = ap with_hosts (sym (append-nil before))
  hosts_run before least (h ∷ after) hosts below whole =
      let now = each_weaker (λ g. g.process < least) (λ g. g.process < h.process) (λ g lt. omega (arith, hosts.0)) before below in
      let next = each_push (λ g. g.process < h.process + 1) before h
      (each_weaker (λ g. g.process < least) (λ g. g.process < h.process + 1) (λ g lt. omega (arith, hosts.0)) before below)
      (omega arith) in
      run_append (with_hosts before) (with_hosts (before ++ h ∷ [])) (with_hosts (before ++ h ∷ after)) (host_lines h)
      (flat_map host_lines after) (host_run before h hosts.1 now whole)
      (subst (λ hs. Run (with_hosts (before ++ h ∷ [])) (flat_map host_lines after) (with_hosts hs)) (append_assoc before (h ∷ []) after)
      (hosts_run (before ++ h ∷ []) (h.process + 1) after hosts.2 next (none_next before h hosts.1.shared_with)))
