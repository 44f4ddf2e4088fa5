-- A signature of a key in levels is valid, and no leaf of it signs two texts.
use Rattle.std.proofs.Common.{◌≡◌, ◌≢◌, ℕ, zero, suc, ◌+◌, ◌-◌, ◌*◌, ◌/◌, ◌%◌, ◌^◌, ◌<◌, ◌≤◌, ◌==◌, true, false, List, ◌++◌, length, take, drop, Option, Some, refl, sym, ap, ◌∙◌, arith, append_assoc, length-append, eq-eqb, ⊎_elim, if◌then◌else◌}
use Rattle.std.specs.Option.{option_map, option_and_then}
use Rattle.std.proofs.lemmas.Bool.{and_from, cases_Bool, eqb-true, eqb-false, le-leb}
use Rattle.std.proofs.lemmas.List.{take_at, drop_at, drop-drop, length-take-le, take-append-drop}
use Rattle.std.proofs.lemmas.Nat.{shr-shr, mod_below, pow_pos, from_be_bytes-to_be_bytes_4}
use Rattle.std.proofs.Math.Nat.{div-add-mod, div-one, mul-suc, mul-zero, mul_comm, pow-zero}
use Rattle.sha2.proofs.Facts256.{length-sha256}
use Rattle.signature_defs.specs.declared.OtsType.{OtsType}
use Rattle.signature_defs.specs.Strings.{part, strings, u32str, u32_at}
use Rattle.signature_defs.specs.LmOts.{ots_type_of}
use Rattle.signature_defs.specs.Lms.{lms_height_of, lms_signature_length, lms_valid}
use Rattle.signature_defs.specs.Hss.{HssSecret, derived, hss_public_key, hss_signature, length_under, level_signature, leaf_number, levels_valid, signed_key, signed_keys, signed_text, tree_id, tree_key, tree_number, tree_seed}
use Rattle.signature_defs.specs.Laws.{HssSignatureIsValid, IsHssSecret, LeafSignsOneText}
use Rattle.signature_defs.proofs.StringLaws.{length-strings, same_strings}
use Rattle.signature_defs.proofs.PartLaws.{front_string}
use Rattle.signature_defs.proofs.OtsLaws.{type_of_typecode}
use Rattle.signature_defs.proofs.LmsLaws.{code_is, key_length, known_height, sig_length, signature_is_valid, some_and, type_is}

-- ---- lengths

pub length-tree_id : (key : HssSecret) (d t : ℕ) → length key.id ≡ 16 → length (tree_id key d t) ≡ 16
length-tree_id key d t size = ⊎_elim top lower (cases_Bool (d == 0))
  where
    top : (d == 0) ≡ true → length (tree_id key d t) ≡ 16
    top e = rw e size

    lower : (d == 0) ≡ false → length (tree_id key d t) ≡ 16
    lower e =
        let whole : length (derived key 0 d t) ≡ 32 = length-sha256 _ in
        rw e (length-take-le 16 (derived key 0 d t) (omega (arith, whole)))

pub length-tree_key : (key : HssSecret) (d t : ℕ) → length key.id ≡ 16 → length (tree_key key d t) ≡ 56
length-tree_key key d t size = key_length key.kind key.code key.h (tree_id key d t) (tree_seed key d t) (length-tree_id key d t size)

pub length-level_signature : (key : HssSecret) (c d : ℕ) (text : List ℕ)
    → length (level_signature key c d text) ≡ lms_signature_length key.kind key.h
length-level_signature key c d text = sig_length key.kind key.code key.h (tree_id key d (tree_number key d c))
    (tree_seed key d (tree_number key d c)) (leaf_number key d c) text

pub length-signed_key : (key : HssSecret) (c d : ℕ) → length key.id ≡ 16
    → length (signed_key key c d) ≡ lms_signature_length key.kind key.h + 56
length-signed_key key c d size =
    let below : List ℕ = tree_key key (d + 1) (tree_number key (d + 1) c) in
    length-append (level_signature key c d below) below
    ∙ omega (arith, length-level_signature key c d below, length-tree_key key (d + 1) (tree_number key (d + 1) c) size)

pub length-signed_keys : (key : HssSecret) (c : ℕ) → length key.id ≡ 16
    → length (signed_keys key c) ≡ 4 + (key.levels - 1) * (lms_signature_length key.kind key.h + 56)
length-signed_keys key c size =
    length-append (u32str (key.levels - 1)) (strings (signed_key key c) (key.levels - 1))
    ∙ ap (λ n. 4 + n) (length-strings (signed_key key c) (key.levels - 1) (lms_signature_length key.kind key.h + 56)
    (λ d. length-signed_key key c d size))

-- ---- what is signed is valid

-- one level's walk, over a signature, the key that it signs, and the rest
one_level : (n len : ℕ) (key message s below rest : List ℕ) → length_under key ≡ Some len → length s ≡ len → length below ≡ 56
    → lms_valid key below s ≡ true → levels_valid n below message rest ≡ true → levels_valid (suc n) key message (s ++ below ++ rest) ≡ true
unfolding levels_valid
one_level n len key message s below rest known ls lb signed deeper =
    let whole : s ++ below ++ rest ≡ s ++ (below ++ rest) = append_assoc s below rest in
    let front : take len (s ++ below ++ rest) ≡ s = ap (take len) whole ∙ take_at s (below ++ rest) len ls in
    let behind : drop len (s ++ below ++ rest) ≡ below ++ rest = ap (drop len) whole ∙ drop_at s (below ++ rest) len ls in
    let next : part len 56 (s ++ below ++ rest) ≡ below = ap (take 56) behind ∙ take_at below rest 56 lb in
    let after : drop (len + 56) (s ++ below ++ rest)
    ≡ rest = sym (drop-drop 56 len (s ++ below ++ rest)) ∙ ap (drop 56) behind ∙ drop_at below rest 56 lb in
    some_and (length_under key) len _ known (rw (front, next, after) (and_from _ _ signed deeper))

levels_none : (key message sig : List ℕ) → levels_valid 0 key message sig ≡ lms_valid key message sig
unfolding levels_valid
levels_none key message sig = refl

module _ (key : HssSecret) (c : ℕ) (message : List ℕ) (is : IsHssSecret key) where
  abbrev k : ℕ
  k = lms_signature_length key.kind key.h + 56

  abbrev last : List ℕ
  last = level_signature key c (key.levels - 1) message

  abbrev below_top : List ℕ
  below_top = strings (signed_key key c) (key.levels - 1) ++ last

  code_fits : key.code < 2 ^ 32
  code_fits = let small = known_height key.code key.h is.known in omega (arith, small)

  -- each level's signature is valid under the key of its tree
  level_is_valid : (d : ℕ) (text : List ℕ) → lms_valid (tree_key key d (tree_number key d c)) text (level_signature key c d text) ≡ true
  level_is_valid d text =
      let t : ℕ = tree_number key d c in
      let q : ℕ = c / 2 ^ (key.h * (key.levels - 1 - d)) in
      signature_is_valid key.kind key.code key.h (tree_id key d t) (tree_seed key d t)
      (leaf_number key d c) text is.known (length-tree_id key d t is.sized) (mod_below q (2 ^ key.h) (pow_pos key.h))

  length_known : (d t : ℕ) → length_under (tree_key key d t) ≡ Some (lms_signature_length key.kind key.h)
  length_known d t =
      let size = length-tree_id key d t is.sized in
      let height = ap lms_height_of (code_is key.kind key.code key.h (tree_id key d t) (tree_seed key d t) size code_fits) ∙ is.known in
      let kind = ap ots_type_of (type_is key.kind key.code key.h (tree_id key d t) (tree_seed key d t) size) ∙ type_of_typecode key.kind in
      rw (height, kind) refl

  -- from level d on
  from_level : (n d : ℕ) → n + d ≡ key.levels - 1
      → levels_valid n (tree_key key d (tree_number key d c)) message (drop (k * d) below_top) ≡ true
  from_level zero d e =
      let at : d ≡ key.levels - 1 = omega arith in
      let size : length (strings (signed_key key c) (key.levels - 1)) ≡ k * d =
      length-strings (signed_key key c) (key.levels - 1) k (λ j. length-signed_key key c j is.sized) ∙ rw (← at) (mul_comm d k) in
      rw (drop_at (strings (signed_key key c) (key.levels - 1)) last (k * d) size, levels_none, at)
      (level_is_valid (key.levels - 1) message)
  from_level (suc n) d e =
      let below : List ℕ = tree_key key (d + 1) (tree_number key (d + 1) c) in
      let front = front_string (signed_key key c) k (λ j. length-signed_key key c j is.sized) (key.levels - 1) d last (omega arith) in
      rw front
      (one_level n (lms_signature_length key.kind key.h)
      (tree_key key d (tree_number key d c)) message (level_signature key c d below) below (drop (k * (d + 1)) below_top)
      (length_known d (tree_number key d c)) (length-level_signature key c d below)
      (length-tree_key key (d + 1) (tree_number key (d + 1) c) is.sized)
      (level_is_valid d below) (from_level n (d + 1) (omega arith)))

pub hss_signature_is_valid : HssSignatureIsValid
hss_signature_is_valid key c message is =
    let public : List ℕ = hss_public_key key in
    let sig : List ℕ = hss_signature key c message in
    let fits : key.levels < 2 ^ 32 = omega (arith, is.few) in
    let named : u32_at 0 public ≡ key.levels = from_be_bytes-to_be_bytes_4 key.levels fits in
    let counted : u32_at 0 sig ≡ key.levels - 1 = from_be_bytes-to_be_bytes_4 (key.levels - 1) (omega arith) in
    let long : length public ≡ 60 = length-append (u32str key.levels) (tree_key key 0 0) ∙ ap (λ n. 4 + n)
    (length-tree_key key 0 0 is.sized) in
    let some : 1 ≤ u32_at 0 public = rw named is.some in
    let few : u32_at 0 public ≤ 8 = rw named is.few in
    let starts : 4 ≤ length sig = simp length-append (omega arith) in
    let walk : levels_valid (key.levels - 1) (tree_key key 0 0) message (drop 4 sig)
    ≡ true = rw mul-zero at (from_level key c message is (key.levels - 1) 0 (omega arith)) in
    and_from _ _
    (and_from _ _
    (and_from _ _
    (and_from _ _ (eq-eqb _ _ long) (and_from _ _ (le-leb _ _ some) (le-leb _ _ few)))
    (le-leb _ _ starts))
    (eq-eqb _ _ (counted ∙ ap (λ n. n - 1) (sym named))))
    (ap (λ n. levels_valid (n - 1) (tree_key key 0 0) message (drop 4 sig)) named ∙ walk)

-- ---- no leaf signs two texts

-- a tree's number is that of the leaf's place along the level, cut to whole trees
pub number_of_place : (key : HssSecret) (d c : ℕ) → d < key.levels
    → tree_number key d c ≡ c / 2 ^ (key.h * (key.levels - 1 - d)) / 2 ^ key.h
number_of_place key d c lt =
    let e : ℕ = key.levels - 1 - d in
    let up : key.levels - d ≡ suc e = omega arith in
    rw (up, mul-suc) (sym (shr-shr c (key.h * e) key.h))

-- tree and leaf give the leaf's place along the level
same_place : (x y n : ℕ) → x / n ≡ y / n → x % n ≡ y % n → x ≡ y
same_place x y n p q = sym (div-add-mod x n) ∙ rw (p, q) (div-add-mod y n)

pub leaf_signs_one_text : LeafSignsOneText
leaf_signs_one_text key d c c' message message' lt differ tree leaf = ⊎_elim lowest higher (cases_Bool (d + 1 == key.levels))
  where
    place : c / 2 ^ (key.h * (key.levels - 1 - d)) ≡ c' / 2 ^ (key.h * (key.levels - 1 - d))
    place = same_place _ _ (2 ^ key.h) (sym (number_of_place key d c lt) ∙ tree ∙ number_of_place key d c' lt) leaf

    lowest : (d + 1 == key.levels) ≡ true → signed_text key c d message ≡ signed_text key c' d message'
    lowest e =
        let bottom : key.levels - 1 - d ≡ 0 = let is = eqb-true (d + 1) key.levels e in omega arith in
        absurd (differ (let whole = rw bottom at place in simp (mul-zero, pow-zero, div-one) at whole))

    higher : (d + 1 == key.levels) ≡ false → signed_text key c d message ≡ signed_text key c' d message'
    higher e =
        let next : key.levels - (d + 1) ≡ key.levels - 1 - d = omega arith in
        rw (e, next, place) refl

-- ---- signatures that use one tree of the lowest level

-- the trees above it are then the same
pub same_trees : (key : HssSecret) (c c' d : ℕ) → d < key.levels → tree_number key (key.levels - 1) c ≡ tree_number key (key.levels - 1) c'
    → tree_number key d c ≡ tree_number key d c'
same_trees key c c' d lt same =
    let e : ℕ = key.levels - 1 - d in
    let height : key.h * (key.levels - d) ≡ key.h * (key.levels - (key.levels - 1)) + key.h * e =
    let up : key.levels - d ≡ suc e = omega arith in
    let one : key.levels - (key.levels - 1) ≡ 1 = omega arith in
    rw (up, one, mul-suc) (omega arith) in
    let above : (n : ℕ) → n / 2 ^ (key.h * (key.levels - d)) ≡ n / 2 ^ (key.h * (key.levels - (key.levels - 1))) / 2 ^ (key.h * e) =
    λ n. rw height (sym (shr-shr n (key.h * (key.levels - (key.levels - 1))) (key.h * e))) in
    above c ∙ ap (λ t. t / 2 ^ (key.h * e)) same ∙ sym (above c')

same_signed_key : (key : HssSecret) (c c' d : ℕ) → d + 1 < key.levels
    → tree_number key (key.levels - 1) c ≡ tree_number key (key.levels - 1) c' → signed_key key c d ≡ signed_key key c' d
same_signed_key key c c' d lt same =
    let next : key.levels - 1 - d ≡ key.levels - (d + 1) = omega arith in
    let here : tree_number key d c ≡ tree_number key d c' = same_trees key c c' d (omega arith) same in
    let below : tree_number key (d + 1) c ≡ tree_number key (d + 1) c' = same_trees key c c' (d + 1) lt same in
    let leaf : leaf_number key d c ≡ leaf_number key d c' = rw (next, below) refl in
    rw (here, below, leaf) refl

-- and so are the signed keys
pub same_signed_keys : (key : HssSecret) (c c' : ℕ) → tree_number key (key.levels - 1) c ≡ tree_number key (key.levels - 1) c'
    → signed_keys key c ≡ signed_keys key c'
same_signed_keys key c c' same =
    let keys = same_strings (signed_key key c) (signed_key key c') (key.levels - 1)
    (λ d lt. same_signed_key key c c' d (omega arith) same) in
    ap (λ (s : List ℕ). u32str (key.levels - 1) ++ s) keys
