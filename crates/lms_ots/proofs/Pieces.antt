-- A buffer that is filled from the front, piece by piece.
use Rattle.std.proofs.Common.{◌≡◌, ℕ, ◌+◌, ◌-◌, ◌≤◌, List, [], ◌∷◌, ◌++◌, length, take, drop, refl, sym, arith, append_assoc, append-nil}
use Rattle.std.proofs.Common.{set, length-set, length-append}
use Rattle.std.proofs.lemmas.List.{take_at, drop_at, drop_all, take_more_set, length-drop}
use borrow.Rule.Slice.PartMut.{put_mid}

-- one piece more behind those that stand there
pub put_next : (a b z : List ℕ) (n k : ℕ) → length a ≡ n → put_mid n k (a ++ z) b ≡ (a ++ b) ++ drop k z
put_next a b z n k h = rw (take_at a z n h, drop_at a z n h) (sym (append_assoc a b (drop k z)))

-- two pieces that fill it
pub two_pieces : (a b z x y : List ℕ) (n k : ℕ) → length a ≡ n → length z ≡ k → x ≡ a → y ≡ b → put_mid n k (x ++ z) y ≡ a ++ b
two_pieces a b z x y n k la lz p q = rw (p, q, put_next a b z n k la, drop_all k z (omega arith)) (append-nil (a ++ b))

-- one byte more behind the first n, and then a piece to the end
pub byte_and_piece : (s v : List ℕ) (n m k j : ℕ) → n + 1 ≡ m → length s ≡ m + k → put_mid m k (set s n j) v ≡ take n s ++ j ∷ [] ++ v
byte_and_piece s v n m k j e len =
    let short : length (drop m (set s n j)) ≤ k = rw (length-drop, length-set) (omega arith) in
    rw (drop_all k (drop m (set s n j)) short, ← e, take_more_set s n j (omega arith), append-nil v) refl

-- what stands in front once a piece is put behind it
pub take_next : (a b z : List ℕ) (n k m : ℕ) → length a ≡ n → n + length b ≡ m → take m (put_mid n k (a ++ z) b) ≡ a ++ b
take_next a b z n k m la lb =
    let both : length (a ++ b) ≡ m = rw length-append (omega arith) in
    rw (put_next a b z n k la) (take_at (a ++ b) (drop k z) m both)

-- a piece as long as its place leaves the whole as long as it was
pub length-put_next : (a b z : List ℕ) (n k : ℕ) → length a ≡ n → length b ≡ k → k ≤ length z
    → length (put_mid n k (a ++ z) b) ≡ length (a ++ z)
length-put_next a b z n k la lb le = rw (put_next a b z n k la, length-append, length-append, length-append, length-drop) (omega arith)

-- four pieces that fill it
pub four_pieces : (a b c d z : List ℕ) (n m l i j k : ℕ) → length a ≡ n → length (a ++ b) ≡ m → length (a ++ b ++ c) ≡ l
    → length z ≡ i + j + k
    → put_mid l k (put_mid m j (put_mid n i (a ++ z) b) c) d ≡ a ++ b ++ c ++ d
four_pieces a b c d z n m l i j k la lb lc lz =
    let none : length (drop k (drop j (drop i z))) ≤ 0 = rw (length-drop, length-drop, length-drop) (omega arith) in
    rw (
      put_next a b z n i la,
      put_next (a ++ b) c (drop i z) m j lb,
      put_next (a ++ b ++ c) d (drop j (drop i z)) l k lc,
      drop_all 0 (drop k (drop j (drop i z))) none,
    )
    (append-nil (a ++ b ++ c ++ d))

-- the same where the last one is written to the end, each with what it was written from
pub four_written : (a b c d z a' b' c' d' : List ℕ) (n m l i j : ℕ) → a' ≡ a → b' ≡ b → c' ≡ c → d' ≡ d
    → length a ≡ n → length b ≡ i → n + i ≡ m → length c ≡ j → m + j ≡ l → length z ≡ i + j + length d
    → put_mid l (length (put_mid m j (put_mid n i (a' ++ z) b') c') - l) (put_mid m j (put_mid n i (a' ++ z) b') c') d' ≡ a ++ b ++ c ++ d
four_written a b c d z a' b' c' d' n m l i j p q r s la lb em lc el lz =
    let two : length (a ++ b) ≡ m = rw length-append (omega arith) in
    let three : length (a ++ b ++ c) ≡ l = rw length-append (omega arith) in
    let left : length (drop i z) ≡ j + length d = rw length-drop (omega arith) in
    let whole : length (put_mid m j (put_mid n i (a ++ z) b) c) - l ≡ length d =
    rw (put_next a b z n i la, length-put_next (a ++ b) c (drop i z) m j two lc (omega arith), length-append) (omega arith) in
    rw (p, q, r, s, whole) (four_pieces a b c d z n m l i j (length d) la two three lz)
