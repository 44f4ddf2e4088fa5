-- A line that is taken before the genesis stands is the next one.
use Rattle.std.proofs.Common.{◌≡◌, ◌≢◌, ℕ, ◌+◌, ◌≤◌, ◌<◌, nat_lt, true, false, true≢false, not, List, [], ◌∷◌, ◌++◌, Some, None, IsTrue, refl, sym, ap, subst, ◌∙◌, inr, ◌&&◌, codes, arith, append-nil}
use Rattle.std.specs.List.{AllByRecursion, list_any}
use Rattle.std.proofs.lemmas.Bool.{not-false, ltb-false}
use Rattle.std.proofs.lemmas.List.{map-append}
use Rattle.std.proofs.lemmas.Slice.Eq.{bytes_eq-Decides}
use Rattle.std.specs.Fmt.{decimal}
use Rattle.hex.specs.Hex.{encode_lower}
use Rattle.byte_defs.proofs.Fields.{ok_is}
use Rattle.byte_defs.specs.Equality.{same_bytes}
use Rattle.byte_defs.specs.Members.{has}
use Rattle.signature_defs.specs.Schemes.{Scheme}
use Rattle.text_defs.specs.Words.{AreBytes, begin_with}
use Rattle.kit_defs.specs.Kits.{AreKeys, KitLine, KitVersion, Version, SchemeIs, GroupIs, Key, Genesis, key_length, key_line, line_words, roster_of, version_of}
use Rattle.kit_defs.specs.KitReading.{Draft, is_scheme}
use Rattle.kit_defs.proofs.Lists.{each_fails, each_weaker, each_with}
use Rattle.kit_defs.proofs.LineShapes.{IsPublicKey}
use Rattle.kit_defs.proofs.Stages.{IsStage, Start, Versioned, Schemed, Keyed, Listed, draft_of, head_lines}
use Rattle.kit_defs.proofs.Taken.{IsTaken, Next}
use Rattle.kit_defs.proofs.Versions.{scheme_is, version_is}

-- what cannot be: a test that holds and does not
pub unless : {P : Type 0} → true ≡ false → P
unless e = absurd (true≢false e)

pub start_step : (n : ℕ) (said : KitLine) (e : Draft) → IsTaken n (draft_of Start) said e → Next Start said e
start_step n (Version version) e t = record { stage = Versioned version; draft = ok_is _ e t.taken; holds = tt; lines = refl }
start_step n _ e t = unless t.due

-- the draft of a version and a scheme alone
abbrev headed : Scheme → KitVersion → Draft
headed scheme version = record {
  version = Some version;
  scheme = Some scheme;
  group = None;
  keys = [];
  genesis = [];
  ports = [];
  hosts = [];
}

pub versioned_step : (version : KitVersion) (n : ℕ) (said : KitLine) (e : Draft) → IsTaken n (draft_of (Versioned version)) said e
    → Next (Versioned version) said e
unfolding begin_with
versioned_step version n (Version other) e t = unless t.new.version
versioned_step version n (SchemeIs scheme) e t =
    let same : version_of scheme ≡ version = sym (version_is version scheme t.ranges) in
    record {
      stage = Schemed scheme;
      draft = ap (headed scheme) same ∙ ok_is _ e t.taken;
      holds = tt;
      lines = ap (λ v. Version v ∷ SchemeIs scheme ∷ []) same;
    }
versioned_step version n _ e t = unless t.due

pub schemed_step : (scheme : Scheme) (n : ℕ) (said : KitLine) (e : Draft) → IsTaken n (draft_of (Schemed scheme)) said e
    → Next (Schemed scheme) said e
unfolding begin_with
schemed_step scheme n (Version other) e t = unless t.new.version
schemed_step scheme n (SchemeIs other) e t = unless t.new.scheme
schemed_step scheme n (GroupIs group) e t = record {
  stage = Keyed scheme group [];
  draft = ok_is _ e t.taken;
  holds = (t.ranges, tt);
  lines = refl;
}
schemed_step scheme n _ e t = unless t.due

-- ---- keys

pub key_size : (scheme : Scheme) (key : List ℕ) → IsPublicKey (is_scheme scheme) key → AreBytes (key_length scheme) key
key_size scheme key h = subst (λ s. AreBytes (key_length s) key) (scheme_is scheme h.0 h.1) h.2

-- one more key of a process above those that stand
keys_push : (size least : ℕ) (keys : List (ℕ × List ℕ)) (p : ℕ) (key : List ℕ) → AreKeys size least keys → least ≤ p → p ≤ 63
    → AreBytes size key → AllByRecursion (λ k. k.0 < p) keys → AreKeys size least (keys ++ (p, key) ∷ [])
keys_push size least [] p key are le small bytes above = (le, small, bytes, tt)
keys_push size least (k ∷ keys) p key are le small bytes above = (
  are.0,
  are.1,
  are.2,
  keys_push size (k.0 + 1) keys p key are.3 (omega (arith, above.0)) small bytes above.1,
)

-- words that do not begin with one number's word
pub other_number : (a b : ℕ) (rest : List (List ℕ)) → begin_with (decimal a ∷ []) (decimal b ∷ rest) ≡ false → a ≢ b
unfolding begin_with
other_number a b rest e same =
    let equal : same_bytes (decimal a) (decimal b) ≡ true = (bytes_eq-Decides (decimal a) (decimal b)).1 (ap decimal same) in
    true≢false (sym (ap (λ t. t && true) equal) ∙ e)

-- no key of this process stands
pub new_key : (keys : List (ℕ × List ℕ)) (p : ℕ) (key : List ℕ)
    → list_any (λ k. begin_with (codes "key" ∷ decimal k.0 ∷ []) (line_words (Key p key))) keys ≡ false → AllByRecursion (λ k. k.0 ≢ p) keys
unfolding begin_with
new_key keys p key e =
    let words : List (List ℕ) = line_words (Key p key) in
    each_weaker (λ k. begin_with (codes "key" ∷ decimal k.0 ∷ []) words ≡ false) (λ k. k.0 ≢ p)
    (λ k. other_number k.0 p (encode_lower key ∷ [])) keys (each_fails (λ k. begin_with (codes "key" ∷ decimal k.0 ∷ []) words) keys e)

module _ (scheme : Scheme) (group : List ℕ) (keys : List (ℕ × List ℕ)) (n : ℕ) (e : Draft) (h : IsStage (Keyed scheme group keys)) where
  key_step : (p : ℕ) (key : List ℕ) → IsTaken n (draft_of (Keyed scheme group keys)) (Key p key) e
      → Next (Keyed scheme group keys) (Key p key) e
  unfolding begin_with
  key_step p key t =
      let below = each_weaker (λ k. nat_lt p k.0 ≡ false) (λ k. k.0 ≤ p)
      (λ k. ltb-false p k.0) keys (each_fails (λ k. nat_lt p k.0) keys t.in_time) in
      let new = new_key keys p key t.new.keys in
      let above = each_with (λ k. k.0 ≤ p) (λ k. k.0 ≢ p) (λ k. k.0 < p) (λ k le ne. omega arith) keys below new in
      record {
        stage = Keyed scheme group (keys ++ (p, key) ∷ []);
        draft = ok_is _ e t.taken;
        holds = (h.0, keys_push (key_length scheme) 0 keys p key h.1 (omega arith) t.ranges.0 (key_size scheme key t.ranges.1) above);
        lines = ap (head_lines scheme group) (map-append key_line keys ((p, key) ∷ []));
      }

  -- those of a genesis line are of the roster
  genesis_listed : (members : List ℕ) → list_any (λ p. not (has (roster_of keys) p)) members ≡ false
      → AllByRecursion (λ m. IsTrue (has (roster_of keys) m)) members
  genesis_listed members all = each_weaker (λ m. not (has (roster_of keys) m) ≡ false) (λ m. IsTrue (has (roster_of keys) m))
      (λ m no_stranger. not-false _ no_stranger) members (each_fails (λ p. not (has (roster_of keys) p)) members all)

  genesis_step : (members : List ℕ) → IsTaken n (draft_of (Keyed scheme group keys)) (Genesis members) e
      → Next (Keyed scheme group keys) (Genesis members) e
  genesis_step [] t = absurd (omega (arith, t.ranges.some))
  genesis_step (first ∷ others) t = record {
    stage = Listed scheme group keys first others [] [];
    draft = ok_is _ e t.taken;
    holds = record {
      group_is = h.0;
      keys_are = h.1;
      most = t.ranges.most;
      listed = genesis_listed (first ∷ others) t.of_roster;
      distinct = t.ranges.distinct;
      front = refl;
      ports_are = tt;
      ports_first = inr refl;
      hosts_are = tt;
    };
    lines = append-nil _;
  }

pub keyed_step : (scheme : Scheme) (group : List ℕ) (keys : List (ℕ × List ℕ)) (n : ℕ) (said : KitLine) (e : Draft)
    → IsStage (Keyed scheme group keys) → IsTaken n (draft_of (Keyed scheme group keys)) said e → Next (Keyed scheme group keys) said e
unfolding begin_with
keyed_step scheme group keys n (Version other) e h t = unless t.new.version
keyed_step scheme group keys n (SchemeIs other) e h t = unless t.new.scheme
keyed_step scheme group keys n (GroupIs other) e h t = unless t.new.group
keyed_step scheme group keys n (Key p key) e h t = key_step scheme group keys n e h p key t
keyed_step scheme group keys n (Genesis members) e h t = genesis_step scheme group keys n e h members t
keyed_step scheme group keys n _ e h t = unless t.due
