-- What is read of a line's words is spelled by them.
use Rattle.std.proofs.Common.{◌≡◌, ◌≢◌, ℕ, ◌-◌, ◌^◌, ◌<◌, ◌≤◌, ◌==◌, Bool, true, false, ◌&&◌, codes, ⊎_elim, List, [], ◌∷◌, ◌++◌, length, map, AllPairs, Some, None, refl, sym, ap, subst, ◌∙◌, arith, append_assoc, append-nil}
use Rattle.std.specs.Prelude.{if◌then◌else◌, nat_le, option_map}
use Rattle.std.specs.Option.{option_or}
use Rattle.std.specs.Fmt.{decimal}
use Rattle.std.specs.List.{AllByRecursion}
use Rattle.std.proofs.lemmas.Bool.{and_parts, eqb-false, leb-true}
use Rattle.std.proofs.lemmas.List.{length-map}
use Rattle.hex.specs.Hex.{encode_lower}
use Rattle.byte_defs.specs.Choices.{first_that_holds}
use Rattle.byte_defs.specs.Equality.{same_bytes}
use Rattle.byte_defs.specs.Members.{has}
use Rattle.signature_defs.specs.declared.OtsType.{OtsType}
use Rattle.signature_defs.specs.LmOts.{ots_type_of, ots_typecode}
use Rattle.signature_defs.proofs.OtsLaws.{typecode_of_type}
use Rattle.signature_defs.specs.Schemes.{Scheme}
use Rattle.signature_defs.specs.Schemes as schemes
use Rattle.signature_defs.specs.Secrets.{levels_are_built}
use Rattle.text_defs.specs.Words.{bytes_of, number_within, process_of}
use Rattle.kit_defs.specs.Kits.{KitLine, One, Two, Version, SchemeIs, GroupIs, Key, Genesis, Port, PlainHost, LmsHost, HssHost, Pair, key_length, line_words, scheme_word}
use Rattle.kit_defs.specs.KitReading.{genesis_by, group_by, host_by, hss_host_by, key_by, key_in, kind_by, line_by, lms_host_by, members_by, pair_by, plain_host_by, port_by, public_key_by, scheme_by, scheme_in, scheme_of_word, secret_by, version_by}
use Rattle.text_defs.proofs.Bytes.{bytes_found}
use Rattle.text_defs.proofs.Numbers.{number_within_found}
use Rattle.text_defs.proofs.Choosing.{by_row, if_some, map_some, or_some, some_is, then_some, unless_some}
use Rattle.kit_defs.proofs.Lists.{distinct_push}
use Rattle.text_defs.proofs.Tests.{word_is}
use Rattle.kit_defs.proofs.LineShapes.{IsLine, IsPublicKey, Reads}

read_as : (may : Scheme → Bool) (words : List (List ℕ)) (said : KitLine) (a : KitLine) → a ≡ said → words ≡ line_words a → IsLine may a
    → Reads may words said
read_as may words said a e w h = subst (Reads may words) e (w, h)

-- ---- words

pub process_found : (word : List ℕ) (p : ℕ) → process_of word ≡ Some p → (word ≡ decimal p) × (p ≤ 63)
process_found word p e = let found = number_within_found 0 63 word p e in (found.0, found.2)

-- the word of a scheme
scheme_named : (word : List ℕ) (scheme : Scheme) → scheme_of_word word ≡ Some scheme → word ≡ scheme_word scheme
scheme_named word scheme e = by (same_bytes word (codes "plain")) refl (same_bytes word (codes "lms")) refl
    (same_bytes word (codes "hss")) refl e
  where
    by : (p : Bool) → same_bytes word (codes "plain") ≡ p → (l : Bool) → same_bytes word (codes "lms") ≡ l → (h : Bool)
        → same_bytes word (codes "hss") ≡ h
        → first_that_holds ((p, schemes.Plain) ∷ (l, schemes.Lms) ∷ (h, schemes.Hss) ∷ []) ≡ Some scheme → word ≡ scheme_word scheme
    by true is l _ h _ e = word_is word (codes "plain") is ∙ ap scheme_word (some_is schemes.Plain scheme e)
    by false _ true is h _ e = word_is word (codes "lms") is ∙ ap scheme_word (some_is schemes.Lms scheme e)
    by false _ false _ true is e = word_is word (codes "hss") is ∙ ap scheme_word (some_is schemes.Hss scheme e)
    by false _ false _ false _ e = absurd cc

scheme_in_found : (may : Scheme → Bool) (word : List ℕ) (scheme : Scheme) → scheme_in may word ≡ Some scheme
    → (word ≡ scheme_word scheme) × (may scheme ≡ true)
scheme_in_found may word scheme e =
    let named = then_some (λ s. if may s then Some s else None) (scheme_of_word word) scheme e in
    let tested = if_some (may named.0) (Some named.0) scheme named.2 in
    subst (λ s. (word ≡ scheme_word s) × (may s ≡ true)) (some_is named.0 scheme tested.1) (scheme_named word named.0 named.1, tested.0)

-- ---- lines of few words

module _ (may : Scheme → Bool) (word : List ℕ) (said : KitLine) where
  version_found : (words : List (List ℕ)) → same_bytes word (codes "rampart") ≡ true → version_by words ≡ Some said
      → Reads may (word ∷ words) said
  version_found (kit ∷ number ∷ []) is e =
      let tested = if_some (same_bytes kit (codes "kit"))
      (first_that_holds ((same_bytes number (codes "1"), Version One) ∷ (same_bytes number (codes "2"), Version Two) ∷ [])) said e in
      by (word_is kit (codes "kit") tested.0) (same_bytes number (codes "1")) refl (same_bytes number (codes "2")) refl tested.1
    where
      by : kit ≡ codes "kit" → (o : Bool) → same_bytes number (codes "1") ≡ o → (t : Bool) → same_bytes number (codes "2") ≡ t
          → first_that_holds ((o, Version One) ∷ (t, Version Two) ∷ []) ≡ Some said → Reads may (word ∷ kit ∷ number ∷ []) said
      by is_kit true is_one t is_two e = read_as may _ said (Version One) (some_is _ said e)
          (λ i. word_is word (codes "rampart") is i ∷ is_kit i ∷ word_is number (codes "1") is_one i ∷ []) tt
      by is_kit false is_one true is_two e = read_as may _ said (Version Two) (some_is _ said e)
          (λ i. word_is word (codes "rampart") is i ∷ is_kit i ∷ word_is number (codes "2") is_two i ∷ []) tt
      by is_kit false is_one false is_two e = absurd cc
  version_found _ is e = absurd cc

  scheme_found : (words : List (List ℕ)) → same_bytes word (codes "scheme") ≡ true → scheme_by may words ≡ Some said
      → Reads may (word ∷ words) said
  scheme_found (name ∷ []) is e =
      let read = map_some SchemeIs (scheme_in may name) said e in
      let found = scheme_in_found may name read.0 read.1 in
      read_as may _ said (SchemeIs read.0) read.2 (λ i. word_is word (codes "scheme") is i ∷ found.0 i ∷ []) found.1
  scheme_found _ is e = absurd cc

  group_found : (words : List (List ℕ)) → same_bytes word (codes "group") ≡ true → group_by words ≡ Some said
      → Reads may (word ∷ words) said
  group_found (group ∷ []) is e =
      let read = map_some GroupIs (bytes_of 16 group) said e in
      let found = bytes_found 16 group read.0 read.1 in
      read_as may _ said (GroupIs read.0) read.2 (λ i. word_is word (codes "group") is i ∷ found.0 i ∷ []) found.1
  group_found _ is e = absurd cc

  port_found : (words : List (List ℕ)) → same_bytes word (codes "port") ≡ true → port_by words ≡ Some said → Reads may (word ∷ words) said
  port_found (process ∷ port ∷ []) is e =
      let first = then_some (λ p. option_map (Port p) (number_within 1 65535 port)) (process_of process) said e in
      let second = map_some (Port first.0) (number_within 1 65535 port) said first.2 in
      let p = process_found process first.0 first.1 in
      let n = number_within_found 1 65535 port second.0 second.1 in
      read_as may _ said (Port first.0 second.0) second.2 (λ i. word_is word (codes "port") is i ∷ p.0 i ∷ n.0 i ∷ []) (p.1, n.1, n.2)
  port_found _ is e = absurd cc

  pair_found : (words : List (List ℕ)) → same_bytes word (codes "pair") ≡ true → pair_by words ≡ Some said → Reads may (word ∷ words) said
  pair_found (process ∷ other ∷ key ∷ []) is e =
      let first = then_some _ (process_of process) said e in
      let second = then_some _ (process_of other) said first.2 in
      let apart = unless_some (first.0 == second.0) (option_map (Pair first.0 second.0) (bytes_of 32 key)) said second.2 in
      let third = map_some (Pair first.0 second.0) (bytes_of 32 key) said apart.1 in
      let p = process_found process first.0 first.1 in
      let q = process_found other second.0 second.1 in
      let k = bytes_found 32 key third.0 third.1 in
      read_as may _ said (Pair first.0 second.0 third.0) third.2 (λ i. word_is word (codes "pair") is i ∷ p.0 i ∷ q.0 i ∷ k.0 i ∷ [])
      (p.1, q.1, eqb-false first.0 second.0 apart.0, k.1)
  pair_found _ is e = absurd cc

-- ---- key lines

key_in_found : (may : Scheme → Bool) (word key : List ℕ) (scheme : Scheme) → key_in may word scheme ≡ Some key
    → (word ≡ encode_lower key) × IsPublicKey may key
key_in_found may word key scheme e =
    let tested = if_some (may scheme) (bytes_of (key_length scheme) word) key e in
    let found = bytes_found (key_length scheme) word key tested.1 in
    (found.0, (scheme, tested.0, found.1))

public_key_found : (may : Scheme → Bool) (word key : List ℕ) → public_key_by may word ≡ Some key
    → (word ≡ encode_lower key) × IsPublicKey may key
public_key_found may word key e =
    ⊎_elim (key_in_found may word key schemes.Plain) trees
    (or_some (key_in may word schemes.Plain) (option_or (key_in may word schemes.Lms) (key_in may word schemes.Hss)) key e)
  where
    trees : option_or (key_in may word schemes.Lms) (key_in may word schemes.Hss) ≡ Some key
        → (word ≡ encode_lower key) × IsPublicKey may key
    trees e = ⊎_elim (key_in_found may word key schemes.Lms) (key_in_found may word key schemes.Hss)
        (or_some (key_in may word schemes.Lms) (key_in may word schemes.Hss) key e)

key_found : (may : Scheme → Bool) (word : List ℕ) (said : KitLine) (words : List (List ℕ)) → same_bytes word (codes "key") ≡ true
    → key_by may words ≡ Some said → Reads may (word ∷ words) said
key_found may word said (process ∷ key ∷ []) is e =
    let first = then_some _ (process_of process) said e in
    let second = map_some (Key first.0) (public_key_by may key) said first.2 in
    let p = process_found process first.0 first.1 in
    let k = public_key_found may key second.0 second.1 in
    read_as may _ said (Key first.0 second.0) second.2 (λ i. word_is word (codes "key") is i ∷ p.0 i ∷ k.0 i ∷ []) (p.1, k.1)
key_found may word said _ is e = absurd cc

-- ---- genesis lines

-- the words spell more members behind some
record Joins (before members : List ℕ) (words : List (List ℕ)) : Type 0 where
  more : List ℕ
  whole : before ++ more ≡ members
  spelled : words ≡ map decimal more
  numbers : AllByRecursion (λ m. m ≤ 63) more
  distinct : AllPairs (λ m n. m ≢ n) members

members_found : (before members : List ℕ) (words : List (List ℕ)) → AllPairs (λ m n. m ≢ n) before → members_by before words ≡ Some members
    → Joins before members words
unfolding members_by
members_found before members [] distinct e =
    let same = some_is before members e in
    record {
      more = [];
      whole = append-nil before ∙ same;
      spelled = refl;
      numbers = tt;
      distinct = subst (AllPairs (λ m n. m ≢ n)) same distinct;
    }
members_found before members (word ∷ words) distinct e =
    let first = then_some (λ p. if has before p then None else members_by (before ++ p ∷ []) words) (process_of word) members e in
    let new = unless_some (has before first.0) (members_by (before ++ first.0 ∷ []) words) members first.2 in
    let p = process_found word first.0 first.1 in
    let rest = members_found (before ++ first.0 ∷ []) members words (distinct_push before first.0 distinct new.0) new.1 in
    record {
      more = first.0 ∷ rest.more;
      whole = sym (append_assoc before (first.0 ∷ []) rest.more) ∙ rest.whole;
      spelled = λ i. p.0 i ∷ rest.spelled i;
      numbers = (p.1, rest.numbers);
      distinct = rest.distinct;
    }

genesis_found : (may : Scheme → Bool) (word : List ℕ) (said : KitLine) (words : List (List ℕ)) → same_bytes word (codes "genesis") ≡ true
    → genesis_by words ≡ Some said → Reads may (word ∷ words) said
genesis_found may word said words is e =
    let tested = if_some (nat_le 1 (length words) && nat_le (length words) 16) (option_map Genesis (members_by [] words)) said e in
    let both = and_parts (nat_le 1 (length words)) (nat_le (length words) 16) tested.0 in
    let read = map_some Genesis (members_by [] words) said tested.1 in
    let all = members_found [] read.0 words (λ i j d below inside. absurd (omega arith)) read.1 in
    let same : all.more ≡ read.0 = all.whole in
    let spelled : words ≡ map decimal read.0 = subst (λ ms. words ≡ map decimal ms) same all.spelled in
    let count : length words ≡ length read.0 = ap length spelled ∙ length-map read.0 decimal in
    read_as may _ said (Genesis read.0) read.2 (λ i. word_is word (codes "genesis") is i ∷ spelled i) (record {
      some = subst (λ n. 1 ≤ n) count (leb-true 1 (length words) both.0);
      most = subst (λ n. n ≤ 16) count (leb-true (length words) 16 both.1);
      numbers = subst (AllByRecursion (λ m. m ≤ 63)) same all.numbers;
      distinct = all.distinct;
    })

-- ---- host lines

kind_found : (word : List ℕ) (kind : OtsType) → kind_by word ≡ Some kind → word ≡ decimal (ots_typecode kind)
kind_found word kind e =
    let number = then_some ots_type_of (number_within 1 4 word) kind e in
    (number_within_found 1 4 word number.0 number.1).0 ∙ ap decimal (typecode_of_type number.0 kind number.2)

module _ (may : Scheme → Bool) (word process scheme : List ℕ) (said : KitLine) (p : ℕ) (is : same_bytes word (codes "host") ≡ true)
    (p_is : process ≡ decimal p) (number : p ≤ 63) where
  plain_host_found : (more : List (List ℕ)) → scheme ≡ codes "plain" → may schemes.Plain ≡ true → plain_host_by p more ≡ Some said
      → Reads may (word ∷ process ∷ scheme ∷ more) said
  plain_host_found (total ∷ []) s_is ok e =
      let read = map_some (PlainHost p) (number_within 0 (2 ^ 32 - 1) total) said e in
      let n = number_within_found 0 (2 ^ 32 - 1) total read.0 read.1 in
      let fits : read.0 < 2 ^ 32 = omega (arith, n.2) in
      read_as may _ said (PlainHost p read.0) read.2 (λ i. word_is word (codes "host") is i ∷ p_is i ∷ s_is i ∷ n.0 i ∷ [])
      (number, ok, fits)
  plain_host_found _ s_is ok e = absurd cc

  lms_host_found : (more : List (List ℕ)) → scheme ≡ codes "lms" → may schemes.Lms ≡ true → lms_host_by p more ≡ Some said
      → Reads may (word ∷ process ∷ scheme ∷ more) said
  lms_host_found (code ∷ kind ∷ id ∷ seed ∷ []) s_is ok e =
      let h = then_some _ (number_within 5 7 code) said e in
      let w = then_some _ (kind_by kind) said h.2 in
      let i = then_some _ (bytes_of 16 id) said w.2 in
      let s = map_some (LmsHost p h.0 w.0 i.0) (bytes_of 32 seed) said i.2 in
      let h_is = number_within_found 5 7 code h.0 h.1 in
      let w_is = kind_found kind w.0 w.1 in
      let i_is = bytes_found 16 id i.0 i.1 in
      let s_found = bytes_found 32 seed s.0 s.1 in
      read_as may _ said (LmsHost p h.0 w.0 i.0 s.0) s.2
      (λ j. word_is word (codes "host") is j ∷ p_is j ∷ s_is j ∷ h_is.0 j ∷ w_is j ∷ i_is.0 j ∷ s_found.0 j ∷ [])
      (record { number = number; scheme_may = ok; least = h_is.1; most = h_is.2; id_is = i_is.1; seed_is = s_found.1 })
  lms_host_found _ s_is ok e = absurd cc

  hss_host_found : (more : List (List ℕ)) → scheme ≡ codes "hss" → may schemes.Hss ≡ true → hss_host_by p more ≡ Some said
      → Reads may (word ∷ process ∷ scheme ∷ more) said
  hss_host_found (levels ∷ code ∷ kind ∷ id ∷ seed ∷ []) s_is ok e =
      let l = then_some _ (number_within 1 3 levels) said e in
      let h = then_some _ (number_within 5 7 code) said l.2 in
      let w = then_some _ (kind_by kind) said h.2 in
      let built = if_some (levels_are_built l.0 h.0 w.0) _ said w.2 in
      let i = then_some _ (bytes_of 16 id) said built.1 in
      let s = map_some (HssHost p l.0 h.0 w.0 i.0) (bytes_of 32 seed) said i.2 in
      let l_is = number_within_found 1 3 levels l.0 l.1 in
      let h_is = number_within_found 5 7 code h.0 h.1 in
      let w_is = kind_found kind w.0 w.1 in
      let i_is = bytes_found 16 id i.0 i.1 in
      let s_found = bytes_found 32 seed s.0 s.1 in
      read_as may _ said (HssHost p l.0 h.0 w.0 i.0 s.0) s.2
      (λ j. word_is word (codes "host") is j ∷ p_is j ∷ s_is j ∷ l_is.0 j ∷ h_is.0 j ∷ w_is j ∷ i_is.0 j ∷ s_found.0 j ∷ [])
      (record { number = number; scheme_may = ok; built = built.0; id_is = i_is.1; seed_is = s_found.1 })
  hss_host_found _ s_is ok e = absurd cc

  secret_found : (more : List (List ℕ)) (kind : Scheme) → scheme ≡ scheme_word kind → may kind ≡ true → secret_by p more kind ≡ Some said
      → Reads may (word ∷ process ∷ scheme ∷ more) said
  secret_found more schemes.Plain s_is ok e = plain_host_found more s_is ok e
  secret_found more schemes.Lms s_is ok e = lms_host_found more s_is ok e
  secret_found more schemes.Hss s_is ok e = hss_host_found more s_is ok e

host_found : (may : Scheme → Bool) (word : List ℕ) (said : KitLine) (words : List (List ℕ)) → same_bytes word (codes "host") ≡ true
    → host_by may words ≡ Some said → Reads may (word ∷ words) said
host_found may word said (process ∷ scheme ∷ more) is e =
    let first = then_some _ (process_of process) said e in
    let second = then_some (secret_by first.0 more) (scheme_in may scheme) said first.2 in
    let p = process_found process first.0 first.1 in
    let s = scheme_in_found may scheme second.0 second.1 in
    secret_found may word process scheme said first.0 is p.0 p.1 more second.0 s.0 s.1 second.2
host_found may word said _ is e = absurd cc

-- ---- all of them

pub line_found : (may : Scheme → Bool) (words : List (List ℕ)) (said : KitLine) → line_by may words ≡ Some said → Reads may words said
unfolding line_by
line_found may [] said e = absurd cc
line_found may (word ∷ words) said e =
    by_row (Reads may (word ∷ words) said) said
    ((same_bytes word (codes "rampart"), version_by words)
    ∷ (same_bytes word (codes "scheme"), scheme_by may words)
    ∷ (same_bytes word (codes "group"), group_by words)
    ∷ (same_bytes word (codes "key"), key_by may words)
    ∷ (same_bytes word (codes "genesis"), genesis_by words)
    ∷ (same_bytes word (codes "port"), port_by words)
    ∷ (same_bytes word (codes "host"), host_by may words)
    ∷ (same_bytes word (codes "pair"), pair_by words) ∷ []) e (
      version_found may word said words,
      (
        scheme_found may word said words,
        (
          group_found may word said words,
          (
            key_found may word said words,
            (
              genesis_found may word said words,
              (port_found may word said words, (host_found may word said words, (pair_found may word said words, tt))),
            ),
          ),
        ),
      ),
    )
