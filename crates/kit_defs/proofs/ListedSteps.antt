-- A line that is taken once the genesis stands is the next one.
use Rattle.std.proofs.Common.{◌≡◌, ◌≢◌, ℕ, ◌+◌, ◌≤◌, ◌<◌, ◌==◌, nat_lt, ◌&&◌, ◌||◌, true, false, not, List, [], ◌∷◌, ◌++◌, length, map, drop, flat_map, Some, Ok, is_some, unwrap_or, codes, refl, sym, ap, subst, ◌∙◌, inl, inr, ⊎_elim, arith, append-nil, append_assoc, length-append}
use Rattle.std.specs.List.{AllByRecursion, list_any}
use Rattle.std.specs.Fmt.{decimal}
use Rattle.std.proofs.lemmas.Bool.{and_parts, eqb-true, ltb-false, ne_eqb, not-false, not_from_false, or_parts}
use Rattle.std.proofs.lemmas.List.{map-append}
use Rattle.std.proofs.lemmas.List.Concat.{flat_map-append}
use Rattle.std.proofs.lemmas.Slice.Eq.{bytes_eq-Decides}
use Rattle.byte_defs.proofs.Fields.{ok_is, refuse_ok}
use Rattle.byte_defs.specs.Choices.{is_some_and}
use Rattle.byte_defs.specs.Equality.{same_bytes}
use Rattle.byte_defs.specs.Members.{has}
use Rattle.signature_defs.specs.declared.OtsType.{OtsType}
use Rattle.signature_defs.specs.Schemes.{Scheme}
use Rattle.signature_defs.specs.Schemes as schemes
use Rattle.signature_defs.specs.Secrets.{Secret, Plain, Lms, Hss, public_key_of, scheme_of}
use Rattle.text_defs.specs.Words.{AreBytes, begin_with}
use Rattle.kit_defs.specs.Kits.{AreKeys, Host, IsSecret, KitLine, Version, SchemeIs, GroupIs, Key, Genesis, Port, PlainHost, LmsHost, HssHost, Pair, host_lines, key_length, key_line, key_of, line_words, port_line, roster_of, secret_line}
use Rattle.kit_defs.specs.KitReading.{Draft, KeyMismatch, first_of, has_genesis, host_above, host_stands, is_pair, lacks_port, listed_key, next_pair, next_port, with_host, with_matching, with_pair}
use Rattle.kit_defs.proofs.EarlySteps.{other_number, unless}
use Rattle.text_defs.proofs.Choosing.{none_some}
use Rattle.kit_defs.proofs.Fronts.{first_none, front_push, none_is, some_and_found}
use Rattle.kit_defs.proofs.Hosts.{hosts_push, hosts_whole, next_of_last, pair_lines, pairs_push, roster_key}
use Rattle.kit_defs.proofs.Lists.{each_fails, each_push, each_weaker, each_with}
use Rattle.kit_defs.proofs.Stages.{IsBegun, IsListed, Stage, Listed, draft_of, head_lines}
use Rattle.kit_defs.proofs.Taken.{IsTaken, Next}

-- no host line of this process stands
new_host : (hosts : List Host) (p : ℕ) (rest : List (List ℕ)) → list_any (host_stands (codes "host" ∷ decimal p ∷ rest)) hosts ≡ false
    → AllByRecursion (λ h. h.process ≢ p) hosts
unfolding begin_with
new_host hosts p rest e =
    let words : List (List ℕ) = codes "host" ∷ decimal p ∷ rest in
    each_weaker (λ h. host_stands words h ≡ false) (λ h. h.process ≢ p)
    (λ h fails. other_number h.process p rest (or_parts _ _ fails).0) hosts (each_fails (host_stands words) hosts e)

module _ (scheme : Scheme) (group : List ℕ) (keys : List (ℕ × List ℕ)) (first : ℕ) (others : List ℕ) (ports : List (ℕ × ℕ))
    (hosts : List Host) where
  abbrev here : Stage
  here = Listed scheme group keys first others ports hosts

  abbrev d : Draft
  d = draft_of here

  abbrev roster : List ℕ
  roster = roster_of keys

  pub genesis_stands : has_genesis d ≡ true
  genesis_stands = not_from_false _ (ne_eqb (length (first ∷ others)) 0 (λ e. omega arith))

  -- ---- ports

  abbrev public_of : List (ℕ × ℕ) → List KitLine
  public_of given = head_lines scheme group (map key_line keys ++ Genesis (first ∷ others) ∷ map port_line given)

  port_lines : (p port : ℕ) → hosts ≡ []
      → public_of (ports ++ (p, port) ∷ []) ++ flat_map host_lines hosts ≡ (public_of ports ++ flat_map host_lines hosts)
      ++ Port p port ∷ []
  port_lines p port none =
      let line : KitLine = Port p port in
      let no_lines : flat_map host_lines hosts ≡ [] = ap (flat_map host_lines) none in
      let more : map port_line (ports ++ (p, port) ∷ []) ≡ map port_line ports ++ line ∷ [] = map-append port_line ports ((p, port) ∷ []) in
      ap (λ ls. public_of (ports ++ (p, port) ∷ []) ++ ls) no_lines
      ∙ append-nil (public_of (ports ++ (p, port) ∷ []))
      ∙ ap (λ ls. head_lines scheme group (map key_line keys ++ Genesis (first ∷ others) ∷ ls)) more
      ∙ ap (head_lines scheme group) (sym (append_assoc (map key_line keys) (Genesis (first ∷ others) ∷ map port_line ports) (line ∷ [])))
      ∙ ap (λ ls. ls ++ line ∷ []) (sym (append-nil (public_of ports)) ∙ ap (λ ls. public_of ports ++ ls) (sym no_lines))

  port_step : (n p port : ℕ) (e : Draft) → IsListed scheme group keys (first ∷ others) ports hosts → IsTaken n d (Port p port) e
      → Next here (Port p port) e
  port_step n p port e h t =
      let early = or_parts (not (has_genesis d)) (not (is_some_and (next_port d) (λ q. q == p))) t.due in
      let next = some_and_found (next_port d) (λ q. q == p) (not-false _ early.1) in
      let comes : next_port d ≡ Some p = next.1 ∙ ap (λ q. Some q) (eqb-true next.0 p next.2) in
      let none : hosts ≡ [] = ⊎_elim (λ all. none_some p (sym (ap first_of all) ∙ comes)) (λ e. e) h.ports_first in
      let processes : map (λ r. r.0) (ports ++ (p, port) ∷ []) ≡ map (λ r. r.0) ports
      ++ p ∷ [] = map-append (λ r. r.0) ports ((p, port) ∷ []) in
      let count : length (ports ++ (p, port) ∷ []) ≡ length ports + 1 = length-append ports ((p, port) ∷ []) in
      record {
        stage = Listed scheme group keys first others (ports ++ (p, port) ∷ []) hosts;
        draft = ok_is _ e t.taken;
        holds = record {
          group_is = h.group_is;
          keys_are = h.keys_are;
          most = h.most;
          listed = h.listed;
          distinct = h.distinct;
          front = ap (λ ps. ps ++ drop (length (ports ++ (p, port) ∷ [])) roster) processes ∙ ap
              (λ m. (map (λ r. r.0) ports ++ p ∷ []) ++ drop m roster) count ∙ front_push (map (λ r. r.0) ports) roster
              (length ports) p h.front comes;
          ports_are = each_push (λ r. (1 ≤ r.1) × (r.1 ≤ 65535)) ports (p, port) h.ports_are (t.ranges.1, t.ranges.2);
          ports_first = inr none;
          hosts_are = h.hosts_are;
        };
        lines = port_lines p port none;
      }

  -- ---- hosts

  host_lines_push : (new : Host) (line : KitLine) → host_lines new ≡ line ∷ []
      → public_of ports ++ flat_map host_lines (hosts ++ new ∷ []) ≡ (public_of ports ++ flat_map host_lines hosts) ++ line ∷ []
  host_lines_push new line one =
      ap (λ ls. public_of ports ++ ls) (flat_map-append host_lines hosts (new ∷ []))
      ∙ ap (λ ls. public_of ports ++ (flat_map host_lines hosts ++ ls)) (append-nil (host_lines new) ∙ one)
      ∙ sym (append_assoc (public_of ports) (flat_map host_lines hosts) (line ∷ []))

  -- what is known where a host line is taken
  record MayHost (p : ℕ) : Type 0 where
    ported : drop (length ports) roster ≡ []
    whole : is_some (next_pair d) ≡ false
    key : List ℕ
    key_is : key_of keys p ≡ Some key
    bytes : AreBytes (key_length scheme) key
    below : AllByRecursion (λ h. h.process < p) hosts

  may_host : (p : ℕ) (rest : List (List ℕ)) → AreKeys (key_length scheme) 0 keys
      → list_any (host_stands (codes "host" ∷ decimal p ∷ rest)) hosts ≡ false
      → (has_genesis d && (not (has roster p) || false)) ≡ false → host_above d p ≡ false → (lacks_port d || is_some (next_pair d)) ≡ false
      → MayHost p
  may_host p rest are new inside in_time due =
      let early = or_parts (lacks_port d) (is_some (next_pair d)) due in
      let lacks = or_parts (not (has_genesis d)) (is_some (next_port d)) early.0 in
      let outside : (not (has roster p) || false) ≡ false = sym (ap (λ b. b && (not (has roster p) || false)) genesis_stands) ∙ inside in
      let of_roster : has roster p ≡ true = not-false _ (or_parts (not (has roster p)) false outside).0 in
      let key = roster_key (key_length scheme) 0 keys p are of_roster in
      let le = each_weaker (λ h. nat_lt p h.process ≡ false) (λ h. h.process ≤ p)
      (λ h. ltb-false p h.process) hosts (each_fails (λ h. nat_lt p h.process) hosts in_time) in
      record {
        ported = first_none _ (none_is _ lacks.1);
        whole = early.1;
        key = key.0;
        key_is = key.1;
        bytes = key.2;
        below = each_with (λ h. h.process ≤ p) (λ h. h.process ≢ p) (λ h. h.process < p)
            (λ h low other. omega arith) hosts le (new_host hosts p rest new);
      }

  host_step : (p : ℕ) (secret : Secret) (line : KitLine) (e : Draft) → IsListed scheme group keys (first ∷ others) ports hosts → MayHost p
      → IsSecret secret → scheme_of secret ≡ scheme → key_of keys p ≡ Some (public_key_of secret)
      → secret_line p secret ≡ line → with_host d p secret ≡ e → Next here line e
  host_step p secret line e h may is scheme_is key_is line_is draft =
      let new : Host = record { process = p; secret = secret; pairs = [] } in
      let begun : IsBegun scheme keys new = record { secret = is; scheme_is = scheme_is; key = key_is; front = refl; shared = tt } in
      record {
        stage = Listed scheme group keys first others ports (hosts ++ new ∷ []);
        draft = draft;
        holds = record {
          group_is = h.group_is;
          keys_are = h.keys_are;
          most = h.most;
          listed = h.listed;
          distinct = h.distinct;
          front = h.front;
          ports_are = h.ports_are;
          ports_first = inl may.ported;
          hosts_are = hosts_push scheme keys 0 hosts new (hosts_whole scheme keys 0 hosts h.hosts_are may.whole) may.below
              (omega arith) begun;
        };
        lines = host_lines_push new line (ap (λ l. l ∷ []) line_is);
      }

  -- a secret that has to make its listed key
  matched_step : (n p : ℕ) (secret : Secret) (line : KitLine) (e : Draft) → IsListed scheme group keys (first ∷ others) ports hosts
      → MayHost p → IsSecret secret → scheme_of secret ≡ scheme
      → secret_line p secret ≡ line → with_matching n d p secret ≡ Ok e → Next here line e
  matched_step n p secret line e h may is scheme_is line_is taken =
      let matched = refuse_ok (not (same_bytes (public_key_of secret) (listed_key d p)))
      (KeyMismatch n (public_key_of secret) (listed_key d p)) _ e taken in
      let same : public_key_of secret
      ≡ listed_key d p = (bytes_eq-Decides (public_key_of secret) (listed_key d p)).0 (not-false _ matched.0) in
      let listed : listed_key d p ≡ may.key = ap (λ o. unwrap_or o []) may.key_is in
      host_step p secret line e h may is scheme_is (may.key_is ∙ ap (λ k. Some k) (sym (same ∙ listed))) line_is (ok_is _ e matched.1)

  pair_step : (n p q : ℕ) (key : List ℕ) (e : Draft) → IsListed scheme group keys (first ∷ others) ports hosts
      → IsTaken n d (Pair p q key) e → Next here (Pair p q key) e
  pair_step n p q key e h t =
      let early = or_parts (lacks_port d) (not (is_some_and (next_pair d) (is_pair p q))) t.due in
      let lacks = or_parts (not (has_genesis d)) (is_some (next_port d)) early.0 in
      let next = some_and_found (next_pair d) (is_pair p q) (not-false _ early.1) in
      let both = and_parts (next.0.0 == p) (next.0.1 == q) next.2 in
      let p_is : next.0.0 ≡ p = eqb-true next.0.0 p both.0 in
      let q_is : next.0.1 ≡ q = eqb-true next.0.1 q both.1 in
      let same : next.0 ≡ (p, q) = λ i. (p_is i, q_is i) in
      let comes : next_of_last keys hosts ≡ Some (p, q) = next.1 ∙ ap (λ r. Some r) same in
      record {
        stage = Listed scheme group keys first others ports (with_pair (q, key) hosts);
        draft = ok_is _ e t.taken;
        holds = record {
          group_is = h.group_is;
          keys_are = h.keys_are;
          most = h.most;
          listed = h.listed;
          distinct = h.distinct;
          front = h.front;
          ports_are = h.ports_are;
          ports_first = inl (first_none _ (none_is _ lacks.1));
          hosts_are = pairs_push scheme keys 0 hosts p q key h.hosts_are comes t.ranges.3;
        };
        lines = ap (λ ls. public_of ports ++ ls)
            (pair_lines keys hosts p q key comes) ∙ sym (append_assoc (public_of ports) (flat_map host_lines hosts) (Pair p q key ∷ []));
      }

plain_step : (scheme : Scheme) (group : List ℕ) (keys : List (ℕ × List ℕ)) (first : ℕ) (others : List ℕ) (ports : List (ℕ × ℕ))
    (hosts : List Host) (n p total : ℕ) (e : Draft)
    → IsListed scheme group keys (first ∷ others) ports hosts
    → IsTaken n (draft_of (Listed scheme group keys first others ports hosts)) (PlainHost p total) e
    → Next (Listed scheme group keys first others ports hosts) (PlainHost p total) e
plain_step schemes.Plain group keys first others ports hosts n p total e h t =
    let may = may_host schemes.Plain group keys first others ports hosts p
    (codes "plain" ∷ decimal total ∷ []) h.keys_are t.new.hosts t.inside t.in_time t.due in
    let d : Draft = draft_of (Listed schemes.Plain group keys first others ports hosts) in
    let listed : listed_key d p ≡ may.key = ap (λ o. unwrap_or o []) may.key_is in
    let secret : Secret = Plain (listed_key d p) total in
    host_step schemes.Plain group keys first others ports hosts p secret (PlainHost p total) e h may
    (subst (AreBytes 32) (sym listed) may.bytes, t.ranges.2) refl (may.key_is ∙ ap (λ k. Some k) (sym listed)) refl (ok_is _ e t.taken)
plain_step schemes.Lms group keys first others ports hosts n p total e h t = unless (sym t.ranges.1)
plain_step schemes.Hss group keys first others ports hosts n p total e h t = unless (sym t.ranges.1)

lms_step : (scheme : Scheme) (group : List ℕ) (keys : List (ℕ × List ℕ)) (first : ℕ) (others : List ℕ) (ports : List (ℕ × ℕ))
    (hosts : List Host) (n p code : ℕ) (kind : OtsType) (id seed : List ℕ) (e : Draft)
    → IsListed scheme group keys (first ∷ others) ports hosts
    → IsTaken n (draft_of (Listed scheme group keys first others ports hosts)) (LmsHost p code kind id seed) e
    → Next (Listed scheme group keys first others ports hosts) (LmsHost p code kind id seed) e
lms_step schemes.Lms group keys first others ports hosts n p code kind id seed e h t =
    let line : KitLine = LmsHost p code kind id seed in
    let may = may_host schemes.Lms group keys first others ports hosts p
    (drop 2 (line_words line)) h.keys_are t.new.hosts t.inside t.in_time t.due in
    matched_step schemes.Lms group keys first others ports hosts n p (Lms code kind id seed) line e h may
    (t.ranges.least, t.ranges.most, t.ranges.id_is, t.ranges.seed_is) refl refl t.taken
lms_step schemes.Plain group keys first others ports hosts n p code kind id seed e h t = unless (sym t.ranges.scheme_may)
lms_step schemes.Hss group keys first others ports hosts n p code kind id seed e h t = unless (sym t.ranges.scheme_may)

hss_step : (scheme : Scheme) (group : List ℕ) (keys : List (ℕ × List ℕ)) (first : ℕ) (others : List ℕ) (ports : List (ℕ × ℕ))
    (hosts : List Host) (n p levels code : ℕ) (kind : OtsType) (id seed : List ℕ) (e : Draft)
    → IsListed scheme group keys (first ∷ others) ports hosts
    → IsTaken n (draft_of (Listed scheme group keys first others ports hosts)) (HssHost p levels code kind id seed) e
    → Next (Listed scheme group keys first others ports hosts) (HssHost p levels code kind id seed) e
hss_step schemes.Hss group keys first others ports hosts n p levels code kind id seed e h t =
    let line : KitLine = HssHost p levels code kind id seed in
    let may = may_host schemes.Hss group keys first others ports hosts p
    (drop 2 (line_words line)) h.keys_are t.new.hosts t.inside t.in_time t.due in
    matched_step schemes.Hss group keys first others ports hosts n p (Hss levels code kind id seed) line e h may
    (t.ranges.built, t.ranges.id_is, t.ranges.seed_is) refl refl t.taken
hss_step schemes.Plain group keys first others ports hosts n p levels code kind id seed e h t = unless (sym t.ranges.scheme_may)
hss_step schemes.Lms group keys first others ports hosts n p levels code kind id seed e h t = unless (sym t.ranges.scheme_may)

pub listed_step : (scheme : Scheme) (group : List ℕ) (keys : List (ℕ × List ℕ)) (first : ℕ) (others : List ℕ) (ports : List (ℕ × ℕ))
    (hosts : List Host) (n : ℕ) (said : KitLine) (e : Draft)
    → IsListed scheme group keys (first ∷ others) ports hosts
    → IsTaken n (draft_of (Listed scheme group keys first others ports hosts)) said e
    → Next (Listed scheme group keys first others ports hosts) said e
unfolding begin_with
listed_step scheme group keys first others ports hosts n (Version other) e h t = unless t.new.version
listed_step scheme group keys first others ports hosts n (SchemeIs other) e h t = unless t.new.scheme
listed_step scheme group keys first others ports hosts n (GroupIs other) e h t = unless t.new.group
listed_step scheme group keys first others ports hosts n (Key p key) e h t =
    unless (sym (genesis_stands scheme group keys first others ports hosts) ∙
    (or_parts (has_genesis (draft_of (Listed scheme group keys first others ports hosts)))
    (list_any (λ k. nat_lt p k.0) keys) t.in_time).0)
listed_step scheme group keys first others ports hosts n (Genesis members) e h t =
    unless (sym (ap (λ b. b && true) (genesis_stands scheme group keys first others ports hosts)) ∙ t.new.genesis)
listed_step scheme group keys first others ports hosts n
    (Port p port) e h t = port_step scheme group keys first others ports hosts n p port e h t
listed_step scheme group keys first others ports hosts n
    (PlainHost p total) e h t = plain_step scheme group keys first others ports hosts n p total e h t
listed_step scheme group keys first others ports hosts n
    (LmsHost p code kind id seed) e h t = lms_step scheme group keys first others ports hosts n p code kind id seed e h t
listed_step scheme group keys first others ports hosts n
    (HssHost p levels code kind id seed) e h t = hss_step scheme group keys first others ports hosts n p levels code kind id seed e h t
listed_step scheme group keys first others ports hosts n
    (Pair p q key) e h t = pair_step scheme group keys first others ports hosts n p q key e h t
