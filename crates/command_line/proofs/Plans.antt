-- A plan of keys is read of the word that spells it, and of no other.
use Rattle.std.proofs.Common.{◌≡◌, ℕ, ◌-◌, ◌+◌, ◌^◌, ◌<◌, ◌≤◌, ◌==◌, true, codes, ⊎_elim, List, [], ◌∷◌, ◌++◌, length, take, drop, Option, Some, None, option_map, option_and_then, refl, sym, ap, subst, ◌∙◌, arith, take-append-drop}
use Rattle.std.specs.Prelude.{if◌then◌else◌, slice_index}
use Rattle.std.specs.Option.{option_or}
use Rattle.std.specs.Fmt.{decimal}
use Rattle.std.proofs.lemmas.Fmt.{decimal_digit}
use Rattle.std.proofs.lemmas.Bool.{and_parts, eqb-true}
use Rattle.byte_defs.specs.Equality.{same_bytes}
use Rattle.byte_defs.specs.Choices.{and_then}
use Rattle.signature_defs.specs.declared.OtsType.{OtsType}
use Rattle.signature_defs.specs.LmOts.{ots_type_of, ots_typecode}
use Rattle.signature_defs.proofs.OtsLaws.{typecode_of_type, typecode_range}
use Rattle.signature_defs.specs.Secrets.{levels_are_built}
use Rattle.kit_defs.specs.declared.KeyPlan.{KeyPlan}
use Rattle.kit_defs.specs.declared.KeyPlan.TheVariants.{Plain, Lms, Hss}
use Rattle.text_defs.specs.Words.{number_within}
use Rattle.text_defs.proofs.Choosing.{if_some, map_some, or_some, some_is, then_some}
use Rattle.kit_defs.proofs.LineSpelled.{kind_spelled}
use Rattle.kit_defs.proofs.Versions.{built_ranges}
use Rattle.text_defs.proofs.Numbers.{number_within_found, number_within_spelled}
use Rattle.text_defs.proofs.Tests.{word_is}
use Rattle.kit_defs.specs.KitMaking.{IsPlan}
use Rattle.command_line.specs.Commands.{plan_word, tree_word}
use Rattle.command_line.specs.Reading.{behind, hss_by, is_colon_behind, lms_by, plain_by, plan_of, tree_by}

-- ---- what is read

behind_found : (front word rest : List ℕ) → behind front word ≡ Some rest → word ≡ front ++ rest
behind_found front word rest e =
    let tested = if_some (same_bytes (take (length front) word) front) (Some (drop (length front) word)) rest e in
    let begins : take (length front) word ≡ front = word_is (take (length front) word) front tested.0 in
    sym (take-append-drop (length front) word) ∙ ap (λ t. t ++ drop (length front) word) begins ∙ ap (λ t. front ++ t)
    (some_is _ rest tested.1)

plain_found : (total : List ℕ) (plan : KeyPlan) → plain_by total ≡ Some plan → (codes "plain:" ++ total ≡ plan_word plan) × IsPlan plan
plain_found total plan e =
    let read = map_some Plain (number_within 0 (2 ^ 32 - 1) total) plan e in
    let n = number_within_found 0 (2 ^ 32 - 1) total read.0 read.1 in
    let fits : read.0 < 2 ^ 32 = omega (arith, n.2) in
    subst (λ p. (codes "plain:" ++ total ≡ plan_word p) × IsPlan p) read.2 (ap (λ t. codes "plain:" ++ t) n.0, fits)

kind_found : (word : List ℕ) (kind : OtsType) → option_and_then ots_type_of (number_within 1 4 word) ≡ Some kind
    → word ≡ decimal (ots_typecode kind)
kind_found word kind e =
    let read = then_some ots_type_of (number_within 1 4 word) kind e in
    (number_within_found 1 4 word read.0 read.1).0 ∙ ap decimal (typecode_of_type read.0 kind read.2)

-- what the two words of digits say
abbrev tree_of : List ℕ → List ℕ → Option (ℕ × OtsType)
tree_of code kind = and_then (number_within 5 7 code) (λ h. option_map (λ w. (h, w)) (option_and_then ots_type_of (number_within 1 4 kind)))

tree_found : (word : List ℕ) (tree : ℕ × OtsType) → tree_by word ≡ Some tree
    → (word ≡ tree_word tree.0 tree.1) × (5 ≤ tree.0) × (tree.0 ≤ 7)
tree_found (code ∷ colon ∷ kind ∷ []) tree e =
    let tested = if_some (colon == 58) (tree_of (code ∷ []) (kind ∷ [])) tree e in
    let h = then_some _ (number_within 5 7 (code ∷ [])) tree tested.1 in
    let w = map_some (λ k. (h.0, k)) (option_and_then ots_type_of (number_within 1 4 (kind ∷ []))) tree h.2 in
    let n = number_within_found 5 7 (code ∷ []) h.0 h.1 in
    let k = kind_found (kind ∷ []) w.0 w.1 in
    subst (λ t. (code ∷ colon ∷ kind ∷ [] ≡ tree_word t.0 t.1) × (5 ≤ t.0) × (t.0 ≤ 7)) w.2
    ((λ i. n.0 i ++ (eqb-true colon 58 tested.0 i ∷ k i)), n.1, n.2)
tree_found word tree e =
    let tested = if_some (is_colon_behind 3 word) (tree_of (take 1 word) (drop 2 word)) tree e in
    let size : length word ≡ 3 = eqb-true (length word) 3 (and_parts (length word == 3) (slice_index word 1 == 58) tested.0).0 in
    absurd (omega (arith, size))

lms_found : (word : List ℕ) (plan : KeyPlan) → lms_by word ≡ Some plan → (codes "lms:" ++ word ≡ plan_word plan) × IsPlan plan
lms_found word plan e =
    let read = map_some (λ t. Lms t.0 t.1) (tree_by word) plan e in
    let tree = tree_found word read.0 read.1 in
    subst (λ p. (codes "lms:" ++ word ≡ plan_word p) × IsPlan p) read.2 (ap (λ t. codes "lms:" ++ t) tree.0, (tree.1, tree.2))

-- what a digit and a tree say
abbrev levels_of : List ℕ → List ℕ → Option KeyPlan
levels_of levels word =
    and_then (number_within 1 3 levels)
    (λ l. and_then (tree_by word) (λ t. if levels_are_built l t.0 t.1 then Some (Hss l t.0 t.1) else None))

hss_found : (word : List ℕ) (plan : KeyPlan) → hss_by word ≡ Some plan → (codes "hss:" ++ word ≡ plan_word plan) × IsPlan plan
hss_found (levels ∷ colon ∷ a ∷ b ∷ c ∷ []) plan e =
    let word : List ℕ = a ∷ b ∷ c ∷ [] in
    let tested = if_some (colon == 58) (levels_of (levels ∷ []) word) plan e in
    let l = then_some _ (number_within 1 3 (levels ∷ [])) plan tested.1 in
    let t = then_some (λ t. if levels_are_built l.0 t.0 t.1 then Some (Hss l.0 t.0 t.1) else None) (tree_by word) plan l.2 in
    let built = if_some (levels_are_built l.0 t.0.0 t.0.1) (Some (Hss l.0 t.0.0 t.0.1)) plan t.2 in
    let n = number_within_found 1 3 (levels ∷ []) l.0 l.1 in
    let tree = tree_found word t.0 t.1 in
    subst (λ p. (codes "hss:" ++ levels ∷ colon ∷ word ≡ plan_word p) × IsPlan p) (some_is (Hss l.0 t.0.0 t.0.1) plan built.1)
    ((λ i. codes "hss:" ++ (n.0 i ++ (eqb-true colon 58 tested.0 i ∷ tree.0 i))), built.0)
hss_found word plan e =
    let tested = if_some (is_colon_behind 5 word) (levels_of (take 1 word) (drop 2 word)) plan e in
    let size : length word ≡ 5 = eqb-true (length word) 5 (and_parts (length word == 5) (slice_index word 1 == 58) tested.0).0 in
    absurd (omega (arith, size))

-- ---- what is spelled

-- digits with a colon between them
tree_of_digits : (a c code : ℕ) (kind : OtsType) → number_within 5 7 (a ∷ []) ≡ Some code
    → option_and_then ots_type_of (number_within 1 4 (c ∷ [])) ≡ Some kind → tree_by (a ∷ 58 ∷ c ∷ []) ≡ Some (code, kind)
tree_of_digits a c code kind h w = rw (h, w) refl

digit_is : (n : ℕ) → n ≤ 9 → decimal n ≡ (48 + n) ∷ []
digit_is n small = decimal_digit n (omega arith)

module _ (code : ℕ) (kind : OtsType) (least : 5 ≤ code) (most : code ≤ 7) where
  abbrev t : ℕ
  t = ots_typecode kind

  kind_digit : decimal t ≡ (48 + t) ∷ []
  kind_digit = digit_is t (omega (arith, (typecode_range kind).1))

  code_digit : decimal code ≡ (48 + code) ∷ []
  code_digit = digit_is code (omega arith)

  tree_digits : tree_word code kind ≡ (48 + code) ∷ 58 ∷ (48 + t) ∷ []
  tree_digits = ap (λ d. d ++ (codes ":" ++ decimal t)) code_digit ∙ ap (λ d. (48 + code) ∷ 58 ∷ d) kind_digit

  tree_spelled : tree_by (tree_word code kind) ≡ Some (code, kind)
  tree_spelled =
      ap tree_by tree_digits
      ∙ tree_of_digits (48 + code) (48 + t) code kind
      (ap (number_within 5 7) (sym code_digit) ∙ number_within_spelled 5 7 code least most (omega arith))
      (ap (λ d. option_and_then ots_type_of (number_within 1 4 d)) (sym kind_digit) ∙ kind_spelled kind)

levels_of_digits : (a x y z levels code : ℕ) (kind : OtsType) → number_within 1 3 (a ∷ []) ≡ Some levels
    → tree_by (x ∷ y ∷ z ∷ []) ≡ Some (code, kind) → levels_are_built levels code kind ≡ true
    → hss_by (a ∷ 58 ∷ x ∷ y ∷ z ∷ []) ≡ Some (Hss levels code kind)
levels_of_digits a x y z levels code kind l tree built =
    let rest : ℕ → Option KeyPlan = λ l. and_then (tree_by (x ∷ y ∷ z ∷ []))
    (λ t. if levels_are_built l t.0 t.1 then Some (Hss l t.0 t.1) else None) in
    ap (option_and_then rest) l ∙ ap
    (option_and_then (λ t. if levels_are_built levels t.0 t.1 then Some (Hss levels t.0 t.1) else None)) tree ∙ ap
    (λ b. if b then Some (Hss levels code kind) else None) built

hss_spelled : (levels code : ℕ) (kind : OtsType) → levels_are_built levels code kind ≡ true
    → hss_by (decimal levels ++ (codes ":" ++ tree_word code kind)) ≡ Some (Hss levels code kind)
hss_spelled levels code kind built =
    let b = built_ranges levels code kind built in
    let digit = digit_is levels (omega (arith, b.few)) in
    let digits = tree_digits code kind b.least b.most in
    ap (λ d. hss_by (d ++ (codes ":" ++ tree_word code kind))) digit ∙ ap (λ w. hss_by ((48 + levels) ∷ 58 ∷ w)) digits
    ∙ levels_of_digits (48 + levels) (48 + code) 58 (48 + ots_typecode kind) levels code kind
    (ap (number_within 1 3) (sym digit) ∙ number_within_spelled 1 3 levels b.some b.few (omega (arith, b.few)))
    (ap tree_by (sym digits) ∙ tree_spelled code kind b.least b.most)
    built

-- ---- plans

pub plan_found : (word : List ℕ) (plan : KeyPlan) → plan_of word ≡ Some plan → (word ≡ plan_word plan) × IsPlan plan
plan_found word plan e = ⊎_elim plain trees
    (or_some (and_then (behind (codes "plain:") word) plain_by)
    (option_or (and_then (behind (codes "lms:") word) lms_by) (and_then (behind (codes "hss:") word) hss_by)) plan e)
  where
    plain : and_then (behind (codes "plain:") word) plain_by ≡ Some plan → (word ≡ plan_word plan) × IsPlan plan
    plain e =
        let rest = then_some plain_by (behind (codes "plain:") word) plan e in
        let found = plain_found rest.0 plan rest.2 in
        (behind_found (codes "plain:") word rest.0 rest.1 ∙ found.0, found.1)

    lms : and_then (behind (codes "lms:") word) lms_by ≡ Some plan → (word ≡ plan_word plan) × IsPlan plan
    lms e =
        let rest = then_some lms_by (behind (codes "lms:") word) plan e in
        let found = lms_found rest.0 plan rest.2 in
        (behind_found (codes "lms:") word rest.0 rest.1 ∙ found.0, found.1)

    hss : and_then (behind (codes "hss:") word) hss_by ≡ Some plan → (word ≡ plan_word plan) × IsPlan plan
    hss e =
        let rest = then_some hss_by (behind (codes "hss:") word) plan e in
        let found = hss_found rest.0 plan rest.2 in
        (behind_found (codes "hss:") word rest.0 rest.1 ∙ found.0, found.1)

    trees : option_or (and_then (behind (codes "lms:") word) lms_by) (and_then (behind (codes "hss:") word) hss_by) ≡ Some plan
        → (word ≡ plan_word plan) × IsPlan plan
    trees e = ⊎_elim lms hss (or_some (and_then (behind (codes "lms:") word) lms_by) (and_then (behind (codes "hss:") word) hss_by) plan e)

pub plan_spelled : (plan : KeyPlan) → IsPlan plan → plan_of (plan_word plan) ≡ Some plan
plan_spelled (Plain total) fits = ap (λ o. option_or (option_map Plain o) None)
    (number_within_spelled 0 (2 ^ 32 - 1) total (omega arith) (omega arith) (omega arith))
plan_spelled (Lms code kind) fits = ap (λ o. option_or (option_map (λ t. Lms t.0 t.1) o) None) (tree_spelled code kind fits.0 fits.1)
plan_spelled (Hss levels code kind) fits = hss_spelled levels code kind fits
