-- The public lines of a kit are taken in.
use Rattle.std.proofs.Common.{◌≡◌, ◌≢◌, ℕ, ◌+◌, ◌<◌, ◌≤◌, ◌==◌, nat_lt, ◌||◌, not, true, false, List, [], ◌∷◌, ◌++◌, length, map, drop, AllPairs, IsTrue, Some, codes, refl, sym, ap, subst, ◌∙◌, arith, append_assoc, append-nil, drop_at}
use Rattle.std.specs.List.{AllByRecursion}
use Rattle.std.specs.Fmt.{decimal}
use Rattle.std.proofs.lemmas.Bool.{and_left, and_right, eq-eqb, false_from_ne_true, le-ltb, ne_eqb, not_from_true, or_from}
use Rattle.std.proofs.lemmas.List.{length-map, map-append}
use Rattle.std.proofs.lemmas.Slice.Eq.{bytes_eq-Decides}
use Rattle.byte_defs.specs.Choices.{is_some_and}
use Rattle.byte_defs.specs.Equality.{same_bytes}
use Rattle.hex.specs.Hex.{encode_lower}
use Rattle.byte_defs.specs.Members.{has}
use Rattle.signature_defs.specs.Schemes.{Scheme}
use Rattle.text_defs.specs.Words.{AreBytes, begin_with, number_of}
use Rattle.kit_defs.specs.Kits.{AreKeys, Version, SchemeIs, GroupIs, Key, Genesis, Port, key_length, key_line, line_words, port_line, roster_of, version_of}
use Rattle.kit_defs.specs.KitReading.{Draft, first_of, has_genesis, is_scheme, may_of, next_port}
use Rattle.text_defs.proofs.Choosing.{some_is}
use Rattle.kit_defs.proofs.LineShapes.{IsGenesis, IsLine}
use Rattle.kit_defs.proofs.LineSpelled.{line_spelled, scheme_spelled, version_spelled}
use Rattle.kit_defs.proofs.ListedSteps.{genesis_stands}
use Rattle.kit_defs.proofs.Lists.{each_of, each_push, each_unmapped, each_weaker, none_passes}
use Rattle.text_defs.proofs.Numbers.{number_spelled}
use Rattle.kit_defs.proofs.Rising.{Rises, one_behind, one_has, rises_front, roster_small}
use Rattle.kit_defs.proofs.Runs.{Goes, Run}
use Rattle.kit_defs.proofs.Versions.{own_scheme, own_version}
use Rattle.kit_defs.proofs.Stages.{Start, Versioned, Schemed, Keyed, Listed, draft_of}

-- the words of other numbers differ
pub other_words : (a b : ℕ) (more rest : List (List ℕ)) → a ≤ 63 → b ≤ 63 → a ≢ b → begin_with (decimal a ∷ more) (decimal b ∷ rest) ≡ false
unfolding begin_with
other_words a b more rest a_small b_small other =
    let differ : decimal a ≢ decimal b = λ e. other
    (some_is a b (sym (number_spelled a (omega arith)) ∙ ap number_of e ∙ number_spelled b (omega arith))) in
    and_left (same_bytes (decimal a) (decimal b)) (begin_with more rest)
    (false_from_ne_true _ (λ e. differ ((bytes_eq-Decides (decimal a) (decimal b)).0 e)))

-- ---- the first lines

module _ (scheme : Scheme) (group : List ℕ) where
  pub version_goes : Goes (draft_of Start) (Version (version_of scheme)) (draft_of (Versioned (version_of scheme)))
  version_goes = record {
    read = version_spelled (may_of (draft_of Start)) (version_of scheme);
    taken = λ n. record {
      ranges = tt;
      new = record { version = refl; scheme = refl; group = refl; keys = refl; genesis = refl; ports = refl; hosts = refl };
      inside = refl;
      in_time = refl;
      due = refl;
      of_roster = refl;
      taken = refl;
    };
  }

  pub scheme_goes : Goes (draft_of (Versioned (version_of scheme))) (SchemeIs scheme) (draft_of (Schemed scheme))
  unfolding begin_with
  scheme_goes = record {
    read = scheme_spelled scheme;
    taken = λ n. record {
      ranges = own_version scheme;
      new = record { version = refl; scheme = refl; group = refl; keys = refl; genesis = refl; ports = refl; hosts = refl };
      inside = refl;
      in_time = refl;
      due = refl;
      of_roster = refl;
      taken = refl;
    };
  }

  pub group_goes : AreBytes 16 group → Goes (draft_of (Schemed scheme)) (GroupIs group) (draft_of (Keyed scheme group []))
  unfolding begin_with
  group_goes h = record {
    read = line_spelled scheme (GroupIs group) h;
    taken = λ n. record {
      ranges = h;
      new = record { version = refl; scheme = refl; group = refl; keys = refl; genesis = refl; ports = refl; hosts = refl };
      inside = refl;
      in_time = refl;
      due = refl;
      of_roster = refl;
      taken = refl;
    };
  }

  -- ---- keys

  key_goes : (before : List (ℕ × List ℕ)) (p : ℕ) (key : List ℕ) → p ≤ 63 → AreBytes (key_length scheme) key
      → AllByRecursion (λ k. k.0 < p) before
      → Goes (draft_of (Keyed scheme group before)) (Key p key) (draft_of (Keyed scheme group (before ++ (p, key) ∷ [])))
  unfolding begin_with
  key_goes before p key small bytes below =
      let ranges : IsLine (is_scheme scheme) (Key p key) = (small, (scheme, own_scheme scheme, bytes)) in
      record {
        read = line_spelled scheme (Key p key) ranges;
        taken = λ n. record {
          ranges = ranges;
          new = record {
            version = refl;
            scheme = refl;
            group = refl;
            keys = none_passes _ before (each_weaker (λ k. k.0 < p)
                (λ k. begin_with (codes "key" ∷ decimal k.0 ∷ []) (line_words (Key p key)) ≡ false)
                (λ k lt. other_words k.0 p [] (encode_lower key ∷ []) (omega arith) small (λ e. omega arith)) before below);
            genesis = refl;
            ports = refl;
            hosts = refl;
          };
          inside = refl;
          in_time = none_passes (λ k. nat_lt p k.0) before
              (each_weaker (λ k. k.0 < p) (λ k. nat_lt p k.0 ≡ false) (λ k lt. le-ltb p k.0 (omega arith)) before below);
          due = refl;
          of_roster = refl;
          taken = refl;
        };
      }

  pub keys_run : (before : List (ℕ × List ℕ)) (least : ℕ) (after : List (ℕ × List ℕ)) → AreKeys (key_length scheme) least after
      → AllByRecursion (λ k. k.0 < least) before
      → Run (draft_of (Keyed scheme group before)) (map key_line after) (draft_of (Keyed scheme group (before ++ after)))
  keys_run before least [] are below = ap (λ ks. draft_of (Keyed scheme group ks)) (sym (append-nil before))
  keys_run before least (k ∷ after) are below =
      let now = each_weaker (λ r. r.0 < least) (λ r. r.0 < k.0) (λ r lt. omega (arith, are.0)) before below in
      let next = each_push (λ r. r.0 < k.0 + 1) before k
      (each_weaker (λ r. r.0 < least) (λ r. r.0 < k.0 + 1) (λ r lt. omega (arith, are.0)) before below) (omega arith) in (
        draft_of (Keyed scheme group (before ++ k ∷ [])),
        key_goes before k.0 k.1 are.1 are.2 now,
        subst (λ ks. Run (draft_of (Keyed scheme group (before ++ k ∷ []))) (map key_line after) (draft_of (Keyed scheme group ks)))
            (append_assoc before (k ∷ []) after) (keys_run (before ++ k ∷ []) (k.0 + 1) after are.3 next),
      )

-- ---- the genesis

module _ (scheme : Scheme) (group : List ℕ) (keys : List (ℕ × List ℕ)) (first : ℕ) (others : List ℕ)
    (are : AreKeys (key_length scheme) 0 keys) where
  abbrev roster : List ℕ
  roster = roster_of keys

  -- the roster of a member has someone
  some_keys : (ks : List (ℕ × List ℕ)) (m : ℕ) → has (roster_of ks) m ≡ true → (length ks == 0) ≡ false
  some_keys [] m e = absurd cc
  some_keys (k ∷ ks) m e = ne_eqb (length (k ∷ ks)) 0 (λ none. omega arith)

  pub genesis_goes : length (first ∷ others) ≤ 16 → AllByRecursion (λ m. IsTrue (has roster m)) (first ∷ others)
      → AllPairs (λ m n. m ≢ n) (first ∷ others)
      → Goes (draft_of (Keyed scheme group keys)) (Genesis (first ∷ others)) (draft_of (Listed scheme group keys first others [] []))
  unfolding begin_with
  genesis_goes most listed distinct =
      let members : List ℕ = first ∷ others in
      let numbers = each_weaker (λ m. IsTrue (has roster m)) (λ m. m ≤ 63)
      (λ m is. one_has (λ p. p ≤ 63) roster m (roster_small (key_length scheme) 0 keys are) is) members listed in
      let ranges : IsGenesis members = record { some = omega arith; most = most; numbers = numbers; distinct = distinct } in
      record {
        read = line_spelled scheme (Genesis members) ranges;
        taken = λ n. record {
          ranges = ranges;
          new = record {
            version = refl;
            scheme = refl;
            group = refl;
            keys = none_passes _ keys (each_of (λ k. begin_with (codes "key" ∷ decimal k.0 ∷ []) (line_words (Genesis members)) ≡ false)
                (λ k. refl) keys);
            genesis = refl;
            ports = refl;
            hosts = refl;
          };
          inside = refl;
          in_time = refl;
          due = some_keys keys first listed.0;
          of_roster = none_passes (λ p. not (has roster p)) members
              (each_weaker (λ m. IsTrue (has roster m)) (λ m. not (has roster m) ≡ false) (λ m is. not_from_true _ is) members listed);
          taken = refl;
        };
      }

  -- ---- ports

  abbrev with_ports : List (ℕ × ℕ) → Draft
  with_ports ports = draft_of (Listed scheme group keys first others ports [])

  port_goes : (before : List (ℕ × ℕ)) (p port : ℕ) (rest : List ℕ) → map (λ r. r.0) before ++ p ∷ rest ≡ roster → Rises 0 roster
      → (1 ≤ port) × (port ≤ 65535)
      → Goes (with_ports before) (Port p port) (with_ports (before ++ (p, port) ∷ []))
  unfolding begin_with
  port_goes before p port rest whole rises range =
      let d : Draft = with_ports before in
      let stands : has_genesis d ≡ true = genesis_stands scheme group keys first others before [] in
      let is : has roster p ≡ true = subst (λ ps. has ps p ≡ true) whole (one_behind (map (λ r. r.0) before) p rest) in
      let small : p ≤ 63 = one_has (λ q. q ≤ 63) roster p (roster_small (key_length scheme) 0 keys are) is in
      let below = each_unmapped (λ q. q < p)
      (λ r. r.0) before (rises_front 0 (map (λ r. r.0) before) p rest (subst (Rises 0) (sym whole) rises)) in
      let comes : next_port d ≡ Some p =
      ap (λ ps. first_of (drop (length before) ps))
      (sym whole) ∙ ap first_of (drop_at (map (λ r. r.0) before) (p ∷ rest) (length before) (length-map before (λ r. r.0))) in
      let ranges : IsLine (is_scheme scheme) (Port p port) = (small, range.0, range.1) in
      record {
        read = line_spelled scheme (Port p port) ranges;
        taken = λ n. record {
          ranges = ranges;
          new = record {
            version = refl;
            scheme = refl;
            group = refl;
            keys = none_passes _ keys (each_of (λ k. begin_with (codes "key" ∷ decimal k.0 ∷ []) (line_words (Port p port)) ≡ false)
                (λ k. refl) keys);
            genesis = and_right (has_genesis d) false refl;
            ports = none_passes _ before (each_weaker (λ r. r.0 < p)
                (λ r. begin_with (codes "port" ∷ decimal r.0 ∷ []) (line_words (Port p port)) ≡ false)
                (λ r lt. other_words r.0 p [] (decimal port ∷ []) (omega arith) small (λ e. omega arith)) before below);
            hosts = refl;
          };
          inside = and_right (has_genesis d) (not (has roster p) || false) (or_from (not (has roster p)) false (not_from_true _ is) refl);
          in_time = refl;
          due = or_from (not (has_genesis d)) (not (is_some_and (next_port d) (λ q. q == p))) (not_from_true _ stands)
              (not_from_true _ (ap (λ o. is_some_and o (λ q. q == p)) comes ∙ eq-eqb p p refl));
          of_roster = refl;
          taken = refl;
        };
      }

  pub ports_run : (before after : List (ℕ × ℕ)) → map (λ r. r.0) (before ++ after) ≡ roster → Rises 0 roster
      → AllByRecursion (λ r. (1 ≤ r.1) × (r.1 ≤ 65535)) after
      → Run (with_ports before) (map port_line after) (with_ports (before ++ after))
  ports_run before [] whole rises ranges = ap with_ports (sym (append-nil before))
  ports_run before (r ∷ after) whole rises ranges =
      let next : map (λ r. r.0) before ++ r.0 ∷ map (λ r. r.0) after ≡ roster = sym (map-append (λ r. r.0) before (r ∷ after)) ∙ whole in
      let again : (before ++ r ∷ []) ++ after ≡ before ++ r ∷ after = append_assoc before (r ∷ []) after in (
        with_ports (before ++ r ∷ []),
        port_goes before r.0 r.1 (map (λ r. r.0) after) next rises ranges.0,
        subst (λ ps. Run (with_ports (before ++ r ∷ [])) (map port_line after) (with_ports ps)) again
            (ports_run (before ++ r ∷ []) after (ap (map (λ r. r.0)) again ∙ whole) rises ranges.1),
      )
