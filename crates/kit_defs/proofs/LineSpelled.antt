-- A line in its ranges is read of the words that spell it.
use Rattle.std.proofs.Common.{◌≡◌, ◌≢◌, ℕ, ◌-◌, ◌^◌, ◌<◌, ◌≤◌, ◌==◌, nat_le, Bool, true, false, ◌&&◌, List, [], ◌∷◌, ◌++◌, length, map, get_or, length-append, AllPairs, Option, Some, None, option_map, option_and_then, refl, sym, ap, subst, ◌∙◌, arith, append_assoc, append-nil}
use Rattle.std.specs.List.{AllByRecursion}
use Rattle.std.specs.Option.{option_or}
use Rattle.std.specs.Prelude.{if◌then◌else◌}
use Rattle.std.specs.Fmt.{decimal}
use Rattle.std.proofs.lemmas.Bool.{le-leb, ne_eqb}
use Rattle.std.proofs.lemmas.List.{get_or_append_left, length-map}
use Rattle.std.proofs.lemmas.List.Elements.{recursion_from_All}
use Rattle.std.proofs.Math.Seq.{get_or-append_seam}
use Rattle.hex.specs.Hex.{encode_lower}
use Rattle.byte_defs.specs.Members.{has}
use Rattle.byte_defs.specs.Choices.{and_then}
use Rattle.signature_defs.specs.declared.OtsType.{OtsType}
use Rattle.signature_defs.specs.LmOts.{ots_type_of, ots_typecode}
use Rattle.signature_defs.specs.Schemes.{Scheme}
use Rattle.signature_defs.specs.Schemes as schemes
use Rattle.signature_defs.proofs.OtsLaws.{type_of_typecode, typecode_range}
use Rattle.text_defs.specs.Words.{bytes_of, number_within, process_of}
use Rattle.kit_defs.specs.Kits.{KitLine, KitVersion, One, Two, Version, SchemeIs, GroupIs, Key, Genesis, Port, PlainHost, LmsHost, HssHost, Pair, line_words, scheme_word, version_of}
use Rattle.kit_defs.specs.KitReading.{genesis_by, is_of, is_scheme, kind_by, line_by, members_by, public_key_by, scheme_in, scheme_of_word, secret_by}
use Rattle.text_defs.proofs.Bytes.{bytes_spelled}
use Rattle.kit_defs.proofs.EarlySteps.{key_size}
use Rattle.kit_defs.proofs.LineShapes.{IsGenesis, IsHssHost, IsLine, IsLmsHost, IsPublicKey}
use Rattle.kit_defs.proofs.Lists.{none_passes}
use Rattle.kit_defs.proofs.Versions.{built_ranges, own_version}
use Rattle.text_defs.proofs.Numbers.{number_within_spelled}

process_spelled : (p : ℕ) → p ≤ 63 → process_of (decimal p) ≡ Some p
process_spelled p small = number_within_spelled 0 63 p (omega arith) small (omega arith)

-- a step that has its value
then_is : {A B : Type 0} (o : Option A) (a : A) (f : A → Option B) → o ≡ Some a → option_and_then f o ≡ f a
then_is o a f e = ap (option_and_then f) e

-- ---- members

-- what stands before a member differs from it
unlike : (before : List ℕ) (m : ℕ) (more : List ℕ) → AllPairs (λ a b. a ≢ b) (before ++ m ∷ more) → has before m ≡ false
unlike before m more distinct =
    none_passes (λ q. q == m) before
    (recursion_from_All (λ q. (q == m) ≡ false) before (λ k d inside. ne_eqb (get_or before k d) m (apart k d inside)))
  where
    apart : (k : ℕ) (d : ℕ) → k < length before → get_or before k d ≢ m
    apart k d inside same =
        distinct k (length before) d inside (omega (arith, length-append before (m ∷ more)))
        (get_or_append_left before (m ∷ more) d k inside ∙ same ∙ sym (get_or-append_seam before m more d))

members_spelled : (before more : List ℕ) → AllPairs (λ a b. a ≢ b) (before ++ more) → AllByRecursion (λ m. m ≤ 63) more
    → members_by before (map decimal more) ≡ Some (before ++ more)
unfolding members_by
members_spelled before [] distinct small = ap (λ ms. Some ms) (sym (append-nil before))
members_spelled before (m ∷ more) distinct small =
    let whole : (before ++ m ∷ []) ++ more ≡ before ++ m ∷ more = append_assoc before (m ∷ []) more in
    let rest = members_spelled (before ++ m ∷ []) more (subst (AllPairs (λ a b. a ≢ b)) (sym whole) distinct) small.1 in
    then_is (process_of (decimal m)) m (λ p. if has before p then None else members_by (before ++ p ∷ []) (map decimal more))
    (process_spelled m small.0)
    ∙ ap (λ b. if b then None else members_by (before ++ m ∷ []) (map decimal more)) (unlike before m more distinct)
    ∙ rest ∙ ap (λ ms. Some ms) whole

genesis_spelled : (members : List ℕ) → IsGenesis members → genesis_by (map decimal members) ≡ Some (Genesis members)
genesis_spelled members h =
    let count : length (map decimal members) ≡ length members = length-map members decimal in
    ap (λ n. if nat_le 1 n && nat_le n 16 then option_map Genesis (members_by [] (map decimal members)) else None) count
    ∙ ap (λ b. if b && nat_le (length members) 16 then option_map Genesis (members_by [] (map decimal members)) else None)
    (le-leb 1 (length members) h.some)
    ∙ ap (λ b. if b then option_map Genesis (members_by [] (map decimal members)) else None) (le-leb (length members) 16 h.most)
    ∙ ap (option_map Genesis) (members_spelled [] members h.distinct h.numbers)

-- ---- keys

public_key_spelled : (scheme : Scheme) (key : List ℕ) → IsPublicKey (is_scheme scheme) key
    → public_key_by (is_scheme scheme) (encode_lower key) ≡ Some key
public_key_spelled schemes.Plain key h = ap (λ o. option_or o None) (bytes_spelled 32 key (key_size schemes.Plain key h))
public_key_spelled schemes.Lms key h = ap (λ o. option_or o None) (bytes_spelled 56 key (key_size schemes.Lms key h))
public_key_spelled schemes.Hss key h = bytes_spelled 60 key (key_size schemes.Hss key h)

key_spelled : (scheme : Scheme) (p : ℕ) (key : List ℕ) → p ≤ 63 → IsPublicKey (is_scheme scheme) key
    → line_by (is_scheme scheme) (line_words (Key p key)) ≡ Some (Key p key)
unfolding line_by
key_spelled scheme p key small h =
    then_is (process_of (decimal p)) p (λ p. option_map (Key p) (public_key_by (is_scheme scheme) (encode_lower key)))
    (process_spelled p small)
    ∙ ap (option_map (Key p)) (public_key_spelled scheme key h)

-- ---- schemes

scheme_named : (scheme : Scheme) → scheme_of_word (scheme_word scheme) ≡ Some scheme
scheme_named schemes.Plain = refl
scheme_named schemes.Lms = refl
scheme_named schemes.Hss = refl

scheme_in_spelled : (may : Scheme → Bool) (scheme : Scheme) → may scheme ≡ true → scheme_in may (scheme_word scheme) ≡ Some scheme
scheme_in_spelled may scheme is =
    then_is (scheme_of_word (scheme_word scheme)) scheme (λ s. if may s then Some s else None)
    (scheme_named scheme) ∙ ap (λ b. if b then Some scheme else None) is

scheme_line_spelled : (may : Scheme → Bool) (scheme : Scheme) → may scheme ≡ true
    → line_by may (line_words (SchemeIs scheme)) ≡ Some (SchemeIs scheme)
unfolding line_by
scheme_line_spelled may scheme is = ap (option_map SchemeIs) (scheme_in_spelled may scheme is)

-- ---- hosts

pub kind_spelled : (kind : OtsType) → kind_by (decimal (ots_typecode kind)) ≡ Some kind
kind_spelled kind =
    let range = typecode_range kind in
    then_is (number_within 1 4 (decimal (ots_typecode kind)))
    (ots_typecode kind) ots_type_of
    (number_within_spelled 1 4 (ots_typecode kind) range.0 range.1 (omega (arith, range.1))) ∙ type_of_typecode kind

module _ (may : Scheme → Bool) (p : ℕ) (small : p ≤ 63) where
  plain_spelled : (total : ℕ) → may schemes.Plain ≡ true → total < 2 ^ 32
      → line_by may (line_words (PlainHost p total)) ≡ Some (PlainHost p total)
  unfolding line_by
  plain_spelled total is fits =
      then_is (process_of (decimal p)) p _ (process_spelled p small)
      ∙ then_is (scheme_in may (scheme_word schemes.Plain)) schemes.Plain (secret_by p (decimal total ∷ []))
      (scheme_in_spelled may schemes.Plain is)
      ∙ ap (option_map (PlainHost p)) (number_within_spelled 0 (2 ^ 32 - 1) total (omega arith) (omega arith) (omega arith))

  lms_spelled : (code : ℕ) (kind : OtsType) (id seed : List ℕ) → IsLmsHost may p code id seed
      → line_by may (line_words (LmsHost p code kind id seed)) ≡ Some (LmsHost p code kind id seed)
  unfolding line_by
  lms_spelled code kind id seed h =
      then_is (process_of (decimal p)) p _ (process_spelled p small)
      ∙ then_is (scheme_in may (scheme_word schemes.Lms)) schemes.Lms
      (secret_by p (decimal code ∷ decimal (ots_typecode kind) ∷ encode_lower id ∷ encode_lower seed ∷ []))
      (scheme_in_spelled may schemes.Lms h.scheme_may)
      ∙ then_is (number_within 5 7 (decimal code)) code _ (number_within_spelled 5 7 code h.least h.most (omega (arith, h.most)))
      ∙ then_is (kind_by (decimal (ots_typecode kind))) kind _ (kind_spelled kind)
      ∙ then_is (bytes_of 16 (encode_lower id)) id _ (bytes_spelled 16 id h.id_is)
      ∙ ap (option_map (LmsHost p code kind id)) (bytes_spelled 32 seed h.seed_is)

  hss_spelled : (levels code : ℕ) (kind : OtsType) (id seed : List ℕ) → IsHssHost may p levels code kind id seed
      → line_by may (line_words (HssHost p levels code kind id seed)) ≡ Some (HssHost p levels code kind id seed)
  unfolding line_by
  hss_spelled levels code kind id seed h =
      let b = built_ranges levels code kind h.built in
      let rest : Option KitLine = option_and_then (λ i. option_map (HssHost p levels code kind i) (bytes_of 32 (encode_lower seed)))
      (bytes_of 16 (encode_lower id)) in
      then_is (process_of (decimal p)) p _ (process_spelled p small)
      ∙ then_is (scheme_in may (scheme_word schemes.Hss)) schemes.Hss
      (secret_by p (decimal levels ∷ decimal code ∷ decimal (ots_typecode kind) ∷ encode_lower id ∷ encode_lower seed ∷ []))
      (scheme_in_spelled may schemes.Hss h.scheme_may)
      ∙ then_is (number_within 1 3 (decimal levels)) levels _ (number_within_spelled 1 3 levels b.some b.few (omega (arith, b.few)))
      ∙ then_is (number_within 5 7 (decimal code)) code _ (number_within_spelled 5 7 code b.least b.most (omega (arith, b.most)))
      ∙ then_is (kind_by (decimal (ots_typecode kind))) kind _ (kind_spelled kind)
      ∙ ap (λ t. if t then rest else None) h.built
      ∙ then_is (bytes_of 16 (encode_lower id)) id _ (bytes_spelled 16 id h.id_is)
      ∙ ap (option_map (HssHost p levels code kind id)) (bytes_spelled 32 seed h.seed_is)

-- ---- before the scheme is told

pub version_spelled : (may : Scheme → Bool) (version : KitVersion) → line_by may (line_words (Version version)) ≡ Some (Version version)
unfolding line_by
version_spelled may One = refl
version_spelled may Two = refl

pub scheme_spelled : (scheme : Scheme) → line_by (is_of (version_of scheme)) (line_words (SchemeIs scheme)) ≡ Some (SchemeIs scheme)
scheme_spelled scheme = scheme_line_spelled (is_of (version_of scheme)) scheme (own_version scheme)

-- ---- all of them

pub line_spelled : (scheme : Scheme) (said : KitLine) → IsLine (is_scheme scheme) said
    → line_by (is_scheme scheme) (line_words said) ≡ Some said
unfolding line_by
line_spelled scheme (Version version) h = version_spelled (is_scheme scheme) version
line_spelled scheme (SchemeIs reported) h = scheme_line_spelled (is_scheme scheme) reported h
line_spelled scheme (GroupIs group) h = ap (option_map GroupIs) (bytes_spelled 16 group h)
line_spelled scheme (Key p key) h = key_spelled scheme p key h.0 h.1
line_spelled scheme (Genesis members) h = genesis_spelled members h
line_spelled scheme (Port p port) h =
    then_is (process_of (decimal p)) p (λ p. option_map (Port p) (number_within 1 65535 (decimal port))) (process_spelled p h.0)
    ∙ ap (option_map (Port p)) (number_within_spelled 1 65535 port h.1 h.2 (omega arith))
line_spelled scheme (PlainHost p total) h = plain_spelled (is_scheme scheme) p h.0 total h.1 h.2
line_spelled scheme (LmsHost p code kind id seed) h = lms_spelled (is_scheme scheme) p h.number code kind id seed h
line_spelled scheme (HssHost p levels code kind id seed) h = hss_spelled (is_scheme scheme) p h.number levels code kind id seed h
line_spelled scheme (Pair p q key) h =
    then_is (process_of (decimal p)) p
    (λ a. and_then (process_of (decimal q)) (λ b. if a == b then None else option_map (Pair a b) (bytes_of 32 (encode_lower key))))
    (process_spelled p h.0)
    ∙ then_is (process_of (decimal q)) q (λ b. if p == b then None else option_map (Pair p b) (bytes_of 32 (encode_lower key)))
    (process_spelled q h.1)
    ∙ ap (λ same. if same then None else option_map (Pair p q) (bytes_of 32 (encode_lower key))) (ne_eqb p q h.2)
    ∙ ap (option_map (Pair p q)) (bytes_spelled 32 key h.3)
