-- What the line of a snapshot says, read again.
use Rattle.std.proofs.Common.{◌≡◌, ℕ, ◌+◌, ◌*◌, ◌/◌, ◌<◌, ◌≤◌, Bool, true, false, List, [], ◌∷◌, ◌++◌, length, map, drop, codes, Option, Some, None, Result, Ok, refl, sym, ap, ◌∙◌, subst, append_assoc, append-nil, inl, inr, arith}
use Rattle.std.specs.Prelude.{◌==◌, if◌then◌else◌, flat_map, ◌||◌}
use Rattle.std.specs.Option.{option_map_or}
use Rattle.std.specs.Result.{result_ok}
use Rattle.std.specs.List.{join_with_byte}
use Rattle.std.specs.Int.{w32, w64, to_be_bytes}
use Rattle.std.proofs.lemmas.Bool.{le-ltb, eqb-true}
use Rattle.std.proofs.lemmas.List.{length-append, length-drop}
use Rattle.std.proofs.lemmas.Nat.{be_bytes_8, from_be_bytes-to_be_bytes_8}
use Rattle.hex.specs.Hex.{IsBytes, encode_lower, lower_digits}
use Rattle.hex.proofs.HexLemmas.{length-encode_with}
use Rattle.byte_defs.specs.Choices.{and_then}
use Rattle.byte_defs.specs.Fields.{◌>>=◌, four_bytes}
use Rattle.byte_defs.specs.Members.{has}
use Rattle.byte_defs.proofs.Fields.{IsWide, number_again, long_again, bytes_again}
use Rattle.pool_laws.proofs.Members.{Mem}
use Rattle.text_defs.specs.Words.{space, line_feed, words_of}
use Rattle.text_defs.proofs.Bytes.{bytes_spelled}
use Rattle.text_defs.proofs.Lines.{hex_has_no, words_of_join}
use Rattle.journal_defs.specs.Entries.{Entry}
use Rattle.image_defs.specs.Images.{Image}
use Rattle.image_defs.specs.Spelling.{image_bytes}
use Rattle.node_defs.specs.Casts.{Cast}
use Rattle.node_defs.specs.Snapshots.{Snapshot, part_bytes, snapshot_bytes, most_snapshot_bytes, snap_line_of}
use Rattle.snapshot_defs.specs.declared.Version.TheVariants.{Two}
use Rattle.snapshot_defs.specs.Steps.{Step, wide_at, field_at}
use Rattle.snapshot_defs.specs.Reading.{image_in}
use Rattle.snapshot_defs.specs.Ranges.{IsImage}
use Rattle.snapshot_laws.proofs.Images.{spelled_is_read}
use Rattle.snapshot_laws.proofs.Versions.{written_is_second}
use Rattle.resume_laws.specs.Resuming.{IsSnapshotAfter}
use Rattle.resume_laws.specs.Said.{Part, SnapSaid, part_at, parts_at, snapshot_in, said_by_words, snap_said, no_image, part_of, snapshot_said, HasSpelling, said_of, SnapsAreRead}
use Rattle.resume_laws.proofs.Begun.{has-mem}

-- ---- fields

wide64 : IsWide w64 18446744073709551616
wide64 = record {
  len = λ n. refl;
  back = λ bytes len fits. be_bytes_8 bytes _ len fits refl;
  again = λ n lt. from_be_bytes-to_be_bytes_8 n lt;
  below = λ bytes fits. omega (arith, fits 0, fits 1, fits 2, fits 3, fits 4, fits 5, fits 6, fits 7);
}

eight-again : (n : ℕ) (rest : List ℕ) → n < 18446744073709551616 → wide_at w64 (to_be_bytes w64 n ++ rest) ≡ Ok (n, rest)
eight-again n rest lt = number_again (length (to_be_bytes w64 n ++ rest)) w64 18446744073709551616 wide64 n rest lt

four-again : (n : ℕ) (rest : List ℕ) → n < 4294967296 → wide_at w32 (four_bytes n ++ rest) ≡ Ok (n, rest)
four-again n rest lt = long_again (length (four_bytes n ++ rest)) n rest lt

field-again : (n : ℕ) (field rest : List ℕ) → length field ≡ n → field_at n (field ++ rest) ≡ Ok (field, rest)
field-again n field rest is = subst (λ k. field_at k (field ++ rest) ≡ Ok (field, rest)) is
    (bytes_again (length (field ++ rest)) field rest)

image-again : (i : Image) → IsImage Two i → image_in Two (image_bytes i) ≡ Ok i
image-again i is = ap (image_in Two) (written_is_second i) ∙ spelled_is_read Two i is

-- ---- parts

abbrev pub part : Snapshot → ℕ → Part
part s p = (p, s.entries p, s.images p)

part-again : (s : Snapshot) (p : ℕ) (rest : List ℕ) → s.entries p < 18446744073709551616 → IsImage Two (s.images p)
    → length (image_bytes (s.images p)) < 4294967296 → part_at Two p (part_bytes s p ++ rest) ≡ Ok (part s p, rest)
unfolding part_at
part-again s p rest counted is few =
    let image : List ℕ = image_bytes (s.images p) in
    let entries : List ℕ = to_be_bytes w64 (s.entries p) in
    let size : List ℕ = four_bytes (length image) in
    let nested : part_bytes s p ++ rest ≡ entries ++ (size ++ (image ++ rest))
    = append_assoc entries (size ++ image) rest ∙ ap (λ t. entries ++ t) (append_assoc size image rest) in
    ap (part_at Two p) nested
    ∙ ap (λ (r : Step ℕ). r >>= λ e. wide_at w32 e.1 >>= λ len. field_at len.0 len.1 >>= λ field. image_in Two field.0
    >>= λ i. as_part (p, e.0, i) field.1) (eight-again (s.entries p) (size ++ (image ++ rest)) counted)
    ∙ ap (λ (r : Step ℕ). r >>= λ len. field_at len.0 len.1 >>= λ field. image_in Two field.0 >>= λ i. as_part (p, s.entries p, i) field.1)
    (four-again (length image) (image ++ rest) few)
    ∙ ap (λ (r : Step (List ℕ)). r >>= λ field. image_in Two field.0 >>= λ i. as_part (p, s.entries p, i) field.1)
    (field-again (length image) image rest refl)
    ∙ ap (λ (r : Result Image ℕ). r >>= λ i. as_part (p, s.entries p, i) rest) (image-again (s.images p) is)
  where
    as_part : Part → List ℕ → Step Part
    as_part x more = Ok (x, more)

-- each of these has a spelling
record AreSpelled (s : Snapshot) (ps : List ℕ) : Type 0 where
  counted : (p : ℕ) → Mem p ps → s.entries p < 18446744073709551616
  images : (p : ℕ) → Mem p ps → IsImage Two (s.images p)
  few : (p : ℕ) → Mem p ps → length (image_bytes (s.images p)) < 4294967296

parts-again : (s : Snapshot) (ps rest : List ℕ) → AreSpelled s ps
    → parts_at Two ps (flat_map (part_bytes s) ps ++ rest) ≡ Ok (map (part s) ps, rest)
unfolding parts_at
parts-again s [] rest are = refl
parts-again s (p ∷ ps) rest are =
    let first = part-again s p (flat_map (part_bytes s) ps ++ rest)
    (are.counted p (inl refl)) (are.images p (inl refl)) (are.few p (inl refl)) in
    let others = parts-again s ps rest (record {
      counted = λ q m. are.counted q (inr m);
      images = λ q m. are.images q (inr m);
      few = λ q m. are.few q (inr m);
    }) in
    rw (append_assoc (part_bytes s p) (flat_map (part_bytes s) ps) rest, first, others) refl

-- ---- the bytes

bytes-again : (c : Cast) (s : Snapshot) → HasSpelling c s → AreSpelled s c.hosted
    → snapshot_in c.hosted (snapshot_bytes c s) ≡ Ok (said_of c s)
unfolding snapshot_in snapshot_bytes
bytes-again c s has-one are =
    let header : List ℕ = drop 4 c.header in
    let parts : List ℕ = flat_map (part_bytes s) c.hosted in
    let long : length header ≡ 56 = (let len = length-drop 4 c.header in let h = has-one.header in omega (arith, len, h)) in
    let last : parts_at Two c.hosted parts ≡ Ok (map (part s) c.hosted, [])
    = ap (parts_at Two c.hosted) (sym (append-nil parts)) ∙ parts-again s c.hosted [] are in
    rw (
      field-again 4 (codes "RPN2") (header ++ (to_be_bytes w64 s.place ++ (s.digest ++ parts))) refl,
      field-again 56 header (to_be_bytes w64 s.place ++ (s.digest ++ parts)) long,
      eight-again s.place (s.digest ++ parts) has-one.place,
      field-again 32 s.digest parts has-one.digest,
      last,
    ) refl

-- an image is a part of the whole
image-within : (s : Snapshot) (ps : List ℕ) (p : ℕ) → Mem p ps → length (image_bytes (s.images p)) ≤ length (flat_map (part_bytes s) ps)
image-within s [] p m = absurd m
image-within s (q ∷ ps) p (inl is) = subst (λ r. length (image_bytes (s.images r)) ≤ length (flat_map (part_bytes s) (q ∷ ps))) is (
    let one : length (part_bytes s q ++ flat_map (part_bytes s) ps) ≡ length (part_bytes s q) + length (flat_map (part_bytes s) ps)
    = length-append (part_bytes s q) (flat_map (part_bytes s) ps) in
    let image : List ℕ = image_bytes (s.images q) in
    let two : length (part_bytes s q) ≡ length (to_be_bytes w64 (s.entries q)) + length (four_bytes (length image) ++ image)
    = length-append (to_be_bytes w64 (s.entries q)) (four_bytes (length image) ++ image) in
    let three : length (four_bytes (length image) ++ image) ≡ length (four_bytes (length image)) + length image
    = length-append (four_bytes (length image)) image in
    omega (arith, one, two, three)
    )
image-within s (q ∷ ps) p (inr m) =
    let one : length (part_bytes s q ++ flat_map (part_bytes s) ps) ≡ length (part_bytes s q) + length (flat_map (part_bytes s) ps)
    = length-append (part_bytes s q) (flat_map (part_bytes s) ps) in
    let rest = image-within s ps p m in
    omega (arith, one, rest)

are-spelled : (c : Cast) (s : Snapshot) → HasSpelling c s → AreSpelled s c.hosted
unfolding snapshot_bytes most_snapshot_bytes
are-spelled c s has-one = record {
  counted = λ p m. has-one.entries p (has-mem c.hosted p m);
  images = λ p m. has-one.images p (has-mem c.hosted p m);
  few = λ p m. (
      let parts : List ℕ = flat_map (part_bytes s) c.hosted in
      let whole = length-append (codes "RPN2") (drop 4 c.header ++ (to_be_bytes w64 s.place ++ (s.digest ++ parts))) in
      let two = length-append (drop 4 c.header) (to_be_bytes w64 s.place ++ (s.digest ++ parts)) in
      let three = length-append (to_be_bytes w64 s.place) (s.digest ++ parts) in
      let four = length-append s.digest parts in
      let within = image-within s c.hosted p m in
      let few = has-one.few in
      omega (arith, whole, two, three, four, within, few)
      );
}

-- ---- the line

abbrev line-of : List ℕ → List ℕ
line-of bytes = join_with_byte space (codes "snap" ∷ encode_lower bytes ∷ [])

module _ (bytes : List ℕ) (few : length bytes ≤ most_snapshot_bytes) where
  text-is : snap_line_of bytes ≡ line-of bytes ++ line_feed ∷ []
  text-is = rw (le-ltb most_snapshot_bytes (length bytes) few) refl

  words-are : words_of (line-of bytes) ≡ codes "snap" ∷ encode_lower bytes ∷ []
  words-are = words_of_join (codes "snap") (encode_lower bytes ∷ []) (rw (hex_has_no space bytes (omega arith) (omega arith)) refl)

  long : length (line-of bytes) ≤ 16777221
  unfolding most_snapshot_bytes
  long =
      let whole = length-append (codes "snap") (space ∷ encode_lower bytes) in
      let hex : length (encode_lower bytes) ≡ 2 * length bytes = length-encode_with lower_digits bytes in
      let most : length bytes ≤ 8388608 = few in
      omega (arith, whole, hex, most)

  -- what is read of the line is what is read of the bytes
  line-again : (hosted : List ℕ) (t : SnapSaid) → IsBytes bytes → snapshot_in hosted bytes ≡ Ok t
      → snap_said hosted (line-of bytes) ≡ Some t
  unfolding snap_said said_by_words
  line-again hosted t are is =
      let hex : length (encode_lower bytes) ≡ 2 * length bytes = length-encode_with lower_digits bytes in
      let half : length bytes ≡ length (encode_lower bytes) / 2 = omega (arith, hex) in
      ap (λ b. if b then None else said_by_words hosted (words_of (line-of bytes))) (le-ltb 16777221 (length (line-of bytes)) long)
      ∙ ap (said_by_words hosted) words-are
      ∙ ap (λ (o : Option (List ℕ)). and_then o (λ bs. result_ok (snapshot_in hosted bs)))
      (bytes_spelled (length (encode_lower bytes) / 2) bytes (half, are))
      ∙ ap result_ok is

-- ---- the snapshot that is said

pub part-is : (s : Snapshot) (ps : List ℕ) (p : ℕ) → has ps p ≡ true → part_of (map (part s) ps) p ≡ Some (part s p)
part-is s [] p is = absurd cc
part-is s (q ∷ ps) p is = go (q == p) refl (part-is s ps p)
  where
    go : (b : Bool) → (q == p) ≡ b → (has ps p ≡ true → part_of (map (part s) ps) p ≡ Some (part s p))
        → (if b then Some (part s q) else part_of (map (part s) ps) p) ≡ Some (part s p)
    go true same rest = ap (λ r. Some (part s r)) (eqb-true q p same)
    go false other rest = rest (in-others (q == p) (has ps p) other is)
      where
        in-others : (x y : Bool) → x ≡ false → (x || y) ≡ true → y ≡ true
        in-others true y e is = absurd cc
        in-others false y e is = is

said-after : (c : Cast) (s : Snapshot) (es : List Entry) → IsSnapshotAfter c es s → IsSnapshotAfter c es (snapshot_said (said_of c s))
said-after c s es is = record {
  place = is.place;
  entries = λ p h. ap (λ (o : Option Part). option_map_or (λ x. x.1) o 0) (part-is s c.hosted p h) ∙ is.entries p h;
  images = λ p h. ap (λ (o : Option Part). option_map_or (λ x. x.2) o (no_image p)) (part-is s c.hosted p h) ∙ is.images p h;
}

pub snaps_are_read : SnapsAreRead
snaps_are_read c s spelled = record {
  line = line-of (snapshot_bytes c s);
  text = text-is (snapshot_bytes c s) spelled.few;
  says = line-again (snapshot_bytes c s) spelled.few c.hosted (said_of c s) spelled.bytes
      (bytes-again c s spelled (are-spelled c s spelled));
  is_after = said-after c s;
}
