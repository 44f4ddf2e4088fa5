-- A signature of any leaf of a tree is valid under the tree's public key.
use Rattle.std.proofs.Common.{◌≡◌, ℕ, ◌+◌, ◌-◌, ◌*◌, ◌/◌, ◌^◌, ◌<◌, ◌≤◌, ◌==◌, Bool, true, false, List, [], ◌∷◌, ◌++◌, length, take, Option, Some, refl, sym, ap, ◌∙◌, subst, arith, append_assoc, length-append, eq-eqb, lit≤, lit<}
use Rattle.std.proofs.lemmas.Bool.{and_from, eqb-true, lt-ltb}
use Rattle.std.proofs.lemmas.Slice.Eq.{bytes_eq-Decides}
use Rattle.std.proofs.lemmas.List.{take_at, take_all, drop_at}
use Rattle.std.proofs.Math.Nat.{pow-le-pow_right}
use Rattle.std.proofs.lemmas.Nat.{div-mul-add, from_be_bytes-to_be_bytes_4}
use Rattle.std.specs.Int.{w32, from_be_bytes}
use Rattle.byte_defs.specs.Choices.{first_that_holds, is_some_and}
use Rattle.byte_defs.specs.Equality.{same_bytes}
use Rattle.signature_defs.specs.declared.OtsType.{OtsType}
use Rattle.signature_defs.specs.Strings.{part, strings, u32str, u32_at}
use Rattle.signature_defs.specs.LmOts.{ots_candidate, ots_public_key, ots_signature, ots_signature_length, ots_type_of, ots_typecode}
use Rattle.signature_defs.specs.Lms.{climbed, has_types, leaf, lms_height_of, lms_public_key, lms_signature, lms_signature_length, node, path_node, root_candidate, valid_by}
use Rattle.signature_defs.specs.Laws.{SignatureIsValid}
use Rattle.signature_defs.proofs.StringLaws.{length-strings}
use Rattle.signature_defs.proofs.PartLaws.{part_behind, part_front, part_strings}
use Rattle.signature_defs.proofs.OtsLaws.{candidate_is_key, length-ots_signature, type_of_typecode, typecode_small}
use Rattle.signature_defs.proofs.TreeLaws.{climbs, leaf_node, length-node}

pub some_and : {A : Type 0} (o : Option A) (a : A) (test : A → Bool) → o ≡ Some a → test a ≡ true → is_some_and o test ≡ true
some_and o a test e t = ap (λ p. is_some_and p test) e ∙ t

bytes_match : (xs ys : List ℕ) → xs ≡ ys → same_bytes xs ys ≡ true
bytes_match xs ys e = (bytes_eq-Decides xs ys).1 e

-- ---- the typecode of a tree

-- each choice that may be taken has the property
abbrev EachChoice : {A : Type 0} → (A → Type 0) → List (Bool × A) → Type 0
EachChoice P [] = Unit {0}
EachChoice P (c ∷ cs) = (c.0 ≡ true → P c.1) × EachChoice P cs

chosen : {A : Type 0} (P : A → Type 0) (cs : List (Bool × A)) (a : A) → EachChoice P cs → first_that_holds cs ≡ Some a → P a
chosen P [] a each e = absurd cc
chosen P ((true, b) ∷ cs) a each e = let same : b ≡ a = cc in subst P same (each.0 refl)
chosen P ((false, b) ∷ cs) a each e = chosen P cs a each.1 e

tested : (code c x : ℕ) → c ≤ 9 → x ≤ 25 → (code == c) ≡ true → (code ≤ 9) × (x ≤ 25)
tested code c x small low t =
    let same : code ≡ c = eqb-true code c t in
    (omega arith, low)

pub known_height : (code h : ℕ) → lms_height_of code ≡ Some h → (code ≤ 9) × (h ≤ 25)
known_height code h e =
    let rows : List (Bool × ℕ) = (code == 5, 5) ∷ (code == 6, 10) ∷ (code == 7, 15) ∷ (code == 8, 20) ∷ (code == 9, 25) ∷ [] in
    chosen (λ x. (code ≤ 9) × (x ≤ 25)) rows h (
      tested code 5 5 (lit≤ tt) (lit≤ tt),
      (
        tested code 6 10 (lit≤ tt) (lit≤ tt),
        (tested code 7 15 (lit≤ tt) (lit≤ tt), (tested code 8 20 (lit≤ tt) (lit≤ tt), (tested code 9 25 (lit≤ tt) (lit≤ tt), tt))),
      ),
    )
    e

-- ---- the key's fields

module _ (kind : OtsType) (code h : ℕ) (id seed : List ℕ) (size : length id ≡ 16) where
  root_is : part 24 32 (lms_public_key code kind h id seed) ≡ node kind h id seed h 1
  root_is = part_behind id (node kind h id seed h 1) 16 0 32 size ∙ take_all 32 (node kind h id seed h 1)
      (omega (arith, length-node kind h id seed h 1))

  id_is : part 8 16 (lms_public_key code kind h id seed) ≡ id
  id_is = part_front id (node kind h id seed h 1) 16 size

  pub key_length : length (lms_public_key code kind h id seed) ≡ 56
  key_length =
      let root = length-node kind h id seed h 1 in
      length-append (u32str code ++ u32str (ots_typecode kind) ++ id) (node kind h id seed h 1) ∙ omega (arith, root, size)

  pub type_is : u32_at 4 (lms_public_key code kind h id seed) ≡ ots_typecode kind
  type_is = from_be_bytes-to_be_bytes_4 (ots_typecode kind) (typecode_small kind)

  pub code_is : code < 2 ^ 32 → u32_at 0 (lms_public_key code kind h id seed) ≡ code
  code_is small = from_be_bytes-to_be_bytes_4 code small

-- ---- the signature's fields

module _ (kind : OtsType) (code h : ℕ) (id seed : List ℕ) (q : ℕ) (message : List ℕ) where
  abbrev signed : List ℕ
  signed = ots_signature kind id q seed message

  abbrev nodes : List ℕ
  nodes = strings (path_node kind h id seed q) h

  abbrev sig : List ℕ
  sig = lms_signature code kind h id seed q message

  front_length : length (u32str q ++ signed) ≡ 4 + ots_signature_length kind
  front_length = omega (arith, length-append (u32str q) signed, length-ots_signature kind id q seed message)

  pub sig_length : length sig ≡ lms_signature_length kind h
  sig_length =
      let path = length-strings (path_node kind h id seed q) h 32 (λ i. length-node kind h id seed i _) in
      omega (
        arith,
        length-append (u32str q ++ signed ++ u32str code) nodes,
        length-append (u32str q ++ signed) (u32str code),
        front_length,
        path,
      )

  leaf_is : q < 2 ^ 32 → u32_at 0 sig ≡ q
  leaf_is small = from_be_bytes-to_be_bytes_4 q small

  ots_type_is : u32_at 4 sig ≡ ots_typecode kind
  ots_type_is = from_be_bytes-to_be_bytes_4 (ots_typecode kind) (typecode_small kind)

  ots_is : part 4 (ots_signature_length kind) sig ≡ signed
  ots_is = ap (take (ots_signature_length kind)) (append_assoc signed (u32str code) nodes) ∙ take_at signed (u32str code ++ nodes)
      (ots_signature_length kind) (length-ots_signature kind id q seed message)

  tree_type_is : code < 2 ^ 32 → u32_at (4 + ots_signature_length kind) sig ≡ code
  tree_type_is small =
      let behind = drop_at (u32str q ++ signed) (u32str code ++ nodes) (4 + ots_signature_length kind) front_length in
      ap (u32_at (4 + ots_signature_length kind)) (append_assoc (u32str q ++ signed) (u32str code) nodes)
      ∙ ap (λ (s : List ℕ). from_be_bytes w32 (take 4 s)) behind ∙ from_be_bytes-to_be_bytes_4 code small

  path_is : (i : ℕ) → i < h → part (8 + ots_signature_length kind + 32 * i) 32 sig ≡ path_node kind h id seed q i
  path_is i lt =
      let front : length (u32str q ++ signed ++ u32str code)
      ≡ 8 + ots_signature_length kind = omega (arith, length-append (u32str q ++ signed) (u32str code), front_length) in
      part_behind (u32str q ++ signed ++ u32str code) nodes (8 + ots_signature_length kind) (32 * i) 32 front
      ∙ part_strings (path_node kind h id seed q) 32 (λ i. length-node kind h id seed i _) h i lt

  root_found : q < 2 ^ h → root_candidate kind h id q (ots_public_key kind id q seed) sig ≡ node kind h id seed h 1
  root_found lt =
      let number : 2 ^ h + q - 2 ^ h ≡ q = omega arith in
      let alone : 2 ^ h + q ≡ 1 * 2 ^ h + q = omega arith in
      let top : (2 ^ h + q) / 2 ^ h ≡ 1 = rw alone (div-mul-add 1 (2 ^ h) q lt) in
      let path : ℕ → List ℕ = λ i. part (8 + ots_signature_length kind + 32 * i) 32 sig in
      let start : leaf id (2 ^ h + q) (ots_public_key kind id q seed) ≡ node kind h id seed 0 (2 ^ h + q) =
      ap (λ (n : ℕ). leaf id (2 ^ h + q) (ots_public_key kind id n seed)) (sym number) ∙ leaf_node kind h id seed (2 ^ h + q) in
      ap (λ (s : List ℕ). climbed id (2 ^ h + q) s path h) start ∙ climbs kind h id seed (2 ^ h + q) path h path_is ∙ ap
      (node kind h id seed h) top

-- ---- the law

module _ (kind : OtsType) (code h : ℕ) (id seed : List ℕ) (q : ℕ) (message : List ℕ) (known : lms_height_of code ≡ Some h)
    (size : length id ≡ 16) (lt : q < 2 ^ h) where
  abbrev the_key : List ℕ
  the_key = lms_public_key code kind h id seed

  abbrev the_sig : List ℕ
  the_sig = lms_signature code kind h id seed q message

  abbrev the_ots : ℕ
  the_ots = ots_signature_length kind

  code_fits : code < 2 ^ 32
  code_fits = let small = known_height code h known in omega (arith, small)

  leaf_fits : q < 2 ^ 32
  leaf_fits =
      let small = known_height code h known in
      omega (arith, pow-le-pow_right {n = 2} (lit< tt) {i = h} {j = 25} small.1)

  names_leaf : u32_at 0 the_sig ≡ q
  names_leaf = leaf_is kind code h id seed q message leaf_fits

  types : has_types the_key kind h the_sig ≡ true
  types =
      let same = tree_type_is kind code h id seed q message code_fits ∙ sym (code_is kind code h id seed size code_fits) in
      and_from _ _
      (and_from _ _
      (and_from _ _ (eq-eqb _ _ (sig_length kind code h id seed q message)) (eq-eqb _ _ (ots_type_is kind code h id seed q message)))
      (eq-eqb _ _ same))
      (lt-ltb (u32_at 0 the_sig) (2 ^ h) (rw names_leaf lt))

  finds : ots_candidate (part 8 16 the_key) (u32_at 0 the_sig) message (part 4 the_ots the_sig) ≡ Some (ots_public_key kind id q seed)
  finds =
      ap (λ (i : List ℕ). ots_candidate i (u32_at 0 the_sig) message (part 4 the_ots the_sig)) (id_is kind code h id seed size)
      ∙ ap (λ (n : ℕ). ots_candidate id n message (part 4 the_ots the_sig)) names_leaf
      ∙ ap (ots_candidate id q message) (ots_is kind code h id seed q message)
      ∙ candidate_is_key kind id q seed message

  root_same : root_candidate kind h (part 8 16 the_key) (u32_at 0 the_sig) (ots_public_key kind id q seed) the_sig ≡ part 24 32 the_key
  root_same =
      ap (λ (i : List ℕ). root_candidate kind h i (u32_at 0 the_sig) (ots_public_key kind id q seed) the_sig)
      (id_is kind code h id seed size)
      ∙ ap (λ (n : ℕ). root_candidate kind h id n (ots_public_key kind id q seed) the_sig) names_leaf
      ∙ root_found kind code h id seed q message lt ∙ sym (root_is kind code h id seed size)

  valid : valid_by kind h the_key message the_sig ≡ true
  valid = and_from _ _ types (some_and _ (ots_public_key kind id q seed) _ finds (bytes_match _ _ root_same))

pub signature_is_valid : SignatureIsValid
signature_is_valid kind code h id seed q message known size lt =
    and_from _ _ (eq-eqb _ _ (key_length kind code h id seed size))
    (some_and (lms_height_of (u32_at 0 (lms_public_key code kind h id seed))) h _
    (ap lms_height_of (code_is kind code h id seed size (code_fits kind code h id seed q message known size lt)) ∙ known)
    (some_and (ots_type_of (u32_at 4 (lms_public_key code kind h id seed))) kind _
    (ap ots_type_of (type_is kind code h id seed size) ∙ type_of_typecode kind)
    (valid kind code h id seed q message known size lt)))
