-- The line of a kit's first view is read as that view.
use Rattle.std.proofs.Common.{◌≡◌, ℕ, ◌+◌, ◌*◌, ◌<◌, ◌≤◌, true, false, List, [], ◌∷◌, map, length, codes, Option, Some, option_map, refl, sym, ap, ◌∙◌, arith, length-append}
use Rattle.std.specs.Prelude.{◌&&◌, nat_le, nat_lt}
use Rattle.std.specs.List.{AllByRecursion, join_with_byte, list_any}
use Rattle.std.specs.Fmt.{decimal}
use Rattle.std.proofs.lemmas.Bool.{le-ltb, le-leb, or_from}
use Rattle.std.proofs.lemmas.Fmt.{length-decimal-le}
use Rattle.std.proofs.lemmas.List.{length-map}
use Rattle.byte_defs.specs.Members.{has}
use Rattle.text_defs.specs.Words.{line_feed, space, words_of}
use Rattle.text_defs.proofs.Lines.{decimal_has_no, has_byte, join_has_no, words_of_join}
use Rattle.text_defs.proofs.Numbers.{number_within_spelled}
use Rattle.text_defs.proofs.Choosing.{if_some, map_some}
use Rattle.group_defs.specs.Below.{last_number}
use Rattle.kit_defs.specs.Kits.{Genesis, IsKit, Kit, key_length, line_words, roster_of}
use Rattle.kit_defs.specs.KitReading.{genesis_by, is_scheme, line_by, members_by, most_line_bytes}
use Rattle.kit_defs.proofs.LineShapes.{IsGenesis}
use Rattle.kit_defs.proofs.LineSpelled.{line_spelled}
use Rattle.kit_defs.proofs.Lists.{each_weaker}
use Rattle.kit_defs.proofs.Rising.{one_has, roster_small}
use Rattle.store_defs.specs.Services.{behind_first}
use Rattle.store_defs.specs.Asking.{is_view, view_by}
use Rattle.store_question_defs.specs.Lines.{Lines, first_view}

-- ---- words of members

abbrev AreSmall : List ℕ → Type 0
AreSmall ms = AllByRecursion (λ m. m ≤ 63) ms

members_none : (c : ℕ) (ms : List ℕ) → c < 48 → AreSmall ms → list_any (has_byte c) (map decimal ms) ≡ false
members_none c [] low small = refl
members_none c (m ∷ ms) low small =
    or_from (has_byte c (decimal m)) (list_any (has_byte c) (map decimal ms))
    (decimal_has_no c m low (let few = small.0 in omega (arith, few))) (members_none c ms low small.1)

-- a word, and a space before each further one
members_short : (ms : List ℕ) (word : List ℕ) → AreSmall ms
    → length (join_with_byte space (word ∷ map decimal ms)) ≤ length word + 3 * length ms
members_short [] word small = omega arith
members_short (m ∷ ms) word small =
    let rest = members_short ms (decimal m) small.1 in
    let one : length (decimal m) ≤ 2 = length-decimal-le 2 m (omega arith) (let few = small.0 in omega (arith, few)) (let few = small.0 in omega (arith, few)) in
    omega (arith, rest, one, length-append word (space ∷ join_with_byte space (decimal m ∷ map decimal ms)))

module _ (kit : Kit) (is : IsKit kit) where
  small : AreSmall kit.genesis
  small = each_weaker (λ m. has (roster_of kit.keys) m ≡ true) (λ m. m ≤ 63)
      (λ m there. one_has (λ p. p ≤ 63) (roster_of kit.keys) m (roster_small (key_length kit.scheme) 0 kit.keys is.keys) there)
      kit.genesis is.listed

  ranges : IsGenesis kit.genesis
  ranges = record { some = is.some; most = is.most; numbers = small; distinct = is.distinct }

  abbrev words : Lines
  words = codes "view" ∷ decimal 0 ∷ codes ":" ∷ map decimal kit.genesis

  words_none : (c : ℕ) → c < 48 → has_byte c (codes "view") ≡ false → has_byte c (codes ":") ≡ false → list_any (has_byte c) words ≡ false
  words_none c low one two =
      or_from (has_byte c (codes "view")) (list_any (has_byte c) (decimal 0 ∷ codes ":" ∷ map decimal kit.genesis)) one
      (or_from (has_byte c (decimal 0)) (list_any (has_byte c) (codes ":" ∷ map decimal kit.genesis)) (decimal_has_no c 0 low (omega arith))
      (or_from (has_byte c (codes ":")) (list_any (has_byte c) (map decimal kit.genesis)) two (members_none c kit.genesis low small)))

  pub first_without : has_byte line_feed (first_view kit) ≡ false
  first_without = join_has_no line_feed words refl (words_none line_feed (omega arith) refl refl)

  words_are : words_of (first_view kit) ≡ words
  words_are = words_of_join (codes "view") (decimal 0 ∷ codes ":" ∷ map decimal kit.genesis) (words_none space (omega arith) refl refl)

  pub first_short : nat_lt most_line_bytes (length (first_view kit)) ≡ false
  first_short =
      let zero_short : length (decimal 0) ≤ 2 = length-decimal-le 2 0 (omega arith) (omega arith) (omega arith) in
      let rest = members_short kit.genesis (codes ":") small in
      let second = length-append (decimal 0) (space ∷ join_with_byte space (codes ":" ∷ map decimal kit.genesis)) in
      let first = length-append (codes "view") (space ∷ join_with_byte space (decimal 0 ∷ codes ":" ∷ map decimal kit.genesis)) in
      let most = is.most in
      le-ltb most_line_bytes (length (first_view kit)) (omega (arith, zero_short, rest, second, first, most))

  pub first_is_view : is_view (words_of (first_view kit)) ≡ true
  first_is_view = ap is_view words_are

  genesis_line : line_by (is_scheme kit.scheme) (line_words (Genesis kit.genesis)) ≡ genesis_by (map decimal kit.genesis)
  unfolding line_by
  genesis_line = refl

  members_read : members_by [] (map decimal kit.genesis) ≡ Some kit.genesis
  members_read = by_genesis (sym genesis_line ∙ line_spelled kit.scheme (Genesis kit.genesis) ranges)
    where
      same : (a b : List ℕ) → Genesis a ≡ Genesis b → a ≡ b
      same a b e = cc

      by_genesis : genesis_by (map decimal kit.genesis) ≡ Some (Genesis kit.genesis) → members_by [] (map decimal kit.genesis) ≡ Some kit.genesis
      by_genesis e =
          let tested = if_some (nat_le 1 (length (map decimal kit.genesis)) && nat_le (length (map decimal kit.genesis)) 16)
          (option_map Genesis (members_by [] (map decimal kit.genesis))) (Genesis kit.genesis) e in
          let read = map_some Genesis (members_by [] (map decimal kit.genesis)) (Genesis kit.genesis) tested.1 in
          read.1 ∙ ap (λ (ms : List ℕ). let o : Option (List ℕ) = Some ms in o) (same read.0 kit.genesis read.2)

  pub first_read : view_by (behind_first (words_of (first_view kit))) ≡ Some (record { number = 0; members = kit.genesis })
  first_read =
      let many : length (map decimal kit.genesis) ≡ length kit.genesis = length-map kit.genesis decimal in
      ap (λ (ws : Lines). view_by (behind_first ws)) words_are
      ∙ rw (
        number_within_spelled 0 last_number 0 (omega arith) (omega arith) (omega arith),
        many,
        le-leb 1 (length kit.genesis) is.some,
        le-leb (length kit.genesis) 16 is.most,
        members_read,
      ) refl
