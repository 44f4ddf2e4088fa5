-- What is opened came, and what comes is opened.
use Rattle.std.proofs.Common.{◌≡◌, ℕ, ◌+◌, ◌-◌, ◌≤◌, Bool, true, false, not, ltb, eqb, List, ◌∷◌, ◌++◌, length, get_or, take, drop, Option, Some, None, Result, Ok, refl, sym, ap, subst, ◌∙◌, append_assoc, arith, length-append, take-append-drop}
use Rattle.std.proofs.lemmas.Bool.{ltb-false, le-ltb, eqb-true, eq-eqb}
use Rattle.std.proofs.lemmas.List.{take_at, drop_at, drop_more, length-take, drop-drop, get_or-drop}
use Rattle.std.proofs.lemmas.Slice.Eq.{bytes_eq-Decides}
use Rattle.byte_defs.specs.Fields.{◌>>=◌, refuse_if}
use Rattle.byte_defs.specs.Equality.{same_bytes}
use Rattle.byte_defs.proofs.Fields.{bind_ok, refuse_ok, ok_is}
use Rattle.sha2.proofs.Facts256.{length-sha256}
use Rattle.link_defs.specs.declared.LinkFault.{LinkFault}
use Rattle.link_defs.specs.declared.LinkFault.TheVariants.{Short, Magic, OtherGroup, NotForMe, BadTag}
use Rattle.link_defs.specs.Hmac.{hmac}
use Rattle.link_defs.specs.Datagrams.{Datagram, Known, Comes, OpenedCame, ComingIsOpened, opened, opened_parts, to_me, magic, tagged, before_tag, tag_of, tag_bytes, least_bytes, key_or_fault}

not_false : (b : Bool) → not b ≡ false → b ≡ true
not_false true e = refl
not_false false e = absurd cc

key_found : (o : Option (List ℕ)) (key : List ℕ) → key_or_fault o ≡ Ok key → o ≡ Some key
key_found None key e = absurd cc
key_found (Some k) key e = ap (λ (x : List ℕ). Some x) (ok_is k key e)

same_is : (xs ys : List ℕ) → not (same_bytes xs ys) ≡ false → xs ≡ ys
same_is xs ys e = (bytes_eq-Decides xs ys).0 (not_false _ e)

-- two parts from the front, and the rest
two_parts : (a b : ℕ) (t : List ℕ) → t ≡ take a t ++ take b (drop a t) ++ drop (a + b) t
two_parts a b t =
    sym (append_assoc (take a t) (take b (drop a t)) (drop (a + b) t)
    ∙ ap (λ (l : List ℕ). take a t ++ (take b (drop a t) ++ l)) (sym (drop-drop b a t))
    ∙ ap (λ (l : List ℕ). take a t ++ l) (take-append-drop b (drop a t))
    ∙ take-append-drop a t)

-- the four fields before the frame, whatever they are
fields_are : (t : List ℕ) → 22 ≤ length t → t ≡ take 4 t ++ take 16 (drop 4 t) ++ get_or t 20 0 ∷ get_or t 21 0 ∷ drop 22 t
fields_are t long =
    two_parts 4 16 t ∙ ap (λ (l : List ℕ). take 4 t ++ take 16 (drop 4 t) ++ l)
    (drop_more t 20 0 (omega arith) ∙ ap (λ (l : List ℕ). get_or t 20 0 ∷ l) (drop_more t 21 0 (omega arith)))

same_fields : (m m' g g' : List ℕ) (f f' o o' : ℕ) (r r' : List ℕ) → m ≡ m' → g ≡ g' → f ≡ f' → o ≡ o' → r ≡ r'
    → m ++ g ++ f ∷ o ∷ r ≡ m' ++ g' ++ f' ∷ o' ∷ r'
same_fields m m' g g' f f' o o' r r' a b c d e = λ i. a i ++ b i ++ c i ∷ d i ∷ e i

module _ (known : Known) (t tag : List ℕ) (from : ℕ) (frame : List ℕ) where
  parts_came : 22 ≤ length t → opened_parts known t tag ≡ Ok (from, frame) → Comes known (t ++ tag) (to_me known from frame)
  unfolding opened_parts
  parts_came long e =
      let m = refuse_ok _ Magic _ _ e in
      let g = refuse_ok _ OtherGroup _ _ m.1 in
      let n = refuse_ok _ NotForMe _ _ g.1 in
      let k = bind_ok (key_or_fault (known.pair (get_or t 20 0))) _ _ n.1 in
      let b = refuse_ok _ BadTag _ _ k.2 in
      let pair_is = ok_is (get_or t 20 0, drop 22 t) (from, frame) b.1 in
      let from_is : get_or t 20 0 ≡ from = ap (λ (p : ℕ × List ℕ). p.0) pair_is in
      let frame_is : drop 22 t ≡ frame = ap (λ (p : ℕ × List ℕ). p.1) pair_is in
      let me_is : get_or t 21 0 ≡ known.me = eqb-true _ _ (not_false _ n.0) in
      let t_is : t ≡ tagged (to_me known from frame) =
      fields_are t long ∙ same_fields (take 4 t) magic (take 16 (drop 4 t)) known.group (get_or t 20 0) from (get_or t 21 0) known.me
      (drop 22 t) frame (same_is (take 4 t) magic m.0) (same_is (take 16 (drop 4 t)) known.group g.0) from_is me_is frame_is in
      let tag_is : tag ≡ hmac k.0 (tagged (to_me known from frame)) = same_is tag (hmac k.0 t) b.0 ∙ ap (λ (x : List ℕ). hmac k.0 x) t_is in
      record {
        group = refl;
        to = refl;
        key = k.0;
        shared = subst (λ (f : ℕ). known.pair f ≡ Some k.0) from_is (key_found _ k.0 k.1);
        spelled = ap (λ (x : List ℕ). x ++ tag) t_is ∙ ap (λ (x : List ℕ). tagged (to_me known from frame) ++ x) tag_is;
      }

pub came : OpenedCame
unfolding opened least_bytes tag_bytes
came known bytes from frame e =
    let s = refuse_ok _ Short _ _ e in
    let long : 54 ≤ length bytes = ltb-false _ _ s.0 in
    subst (λ (b : List ℕ). Comes known b (to_me known from frame)) (take-append-drop (length bytes - 32) bytes)
    (parts_came known (before_tag bytes) (tag_of bytes) from frame (omega (arith, length-take (length bytes - 32) bytes)) s.1)

pub passes_eq : (m n : ℕ) → m ≡ n → not (eqb m n) ≡ false
passes_eq m n e = ap not (eq-eqb m n e)

abbrev pub ok : ℕ × List ℕ → Result (ℕ × List ℕ) LinkFault
ok p = Ok p

hmac_len : (key text : List ℕ) → length (hmac key text) ≡ 32
unfolding hmac
hmac_len key text = length-sha256 _

tagged_len : (d : Datagram) → length d.group ≡ 16 → length (tagged d) ≡ 22 + length d.frame
tagged_len d len = omega (arith, length-append d.group (d.from ∷ d.to ∷ d.frame), len)

pub test_passes : (xs ys : List ℕ) → xs ≡ ys → not (same_bytes xs ys) ≡ false
test_passes xs ys e = ap not ((bytes_eq-Decides xs ys).1 e)

-- where no test refuses and there is a key
pub all_pass : (b c d : Bool) (o : Option (List ℕ)) (key : List ℕ) (f : List ℕ → Bool) (x : ℕ × List ℕ) → b ≡ false → c ≡ false → d ≡ false
    → o ≡ Some key → f key ≡ false
    → (refuse_if b Magic >>= λ _. refuse_if c OtherGroup >>= λ _. refuse_if d NotForMe >>= λ _. key_or_fault o >>= λ k. refuse_if
    (f k) BadTag >>= λ _. Ok x) ≡ Ok x
all_pass b c d o key f x p q r s t = rw (p, q, r, s, t) refl

module _ (known : Known) (d : Datagram) where
  rest : List ℕ
  rest = d.from ∷ d.to ∷ d.frame

  parts_open : (key tag : List ℕ) → length d.group ≡ 16 → d.group ≡ known.group → d.to ≡ known.me → known.pair d.from ≡ Some key
      → tag ≡ hmac key (tagged d) → opened_parts known (tagged d) tag ≡ Ok (d.from, d.frame)
  unfolding opened_parts rest
  parts_open key tag len g o shared is =
      let behind : drop 16 (d.group ++ rest) ≡ rest = drop_at d.group rest 16 len in
      let from_is : get_or (d.group ++ rest) 16 0
      ≡ d.from = sym (get_or-drop 16 (d.group ++ rest) 0 0) ∙ ap (λ (l : List ℕ). get_or l 0 0) behind in
      let to_is : get_or (d.group ++ rest) 17 0
      ≡ d.to = sym (get_or-drop 16 (d.group ++ rest) 1 0) ∙ ap (λ (l : List ℕ). get_or l 1 0) behind in
      let frame_is : drop 18 (d.group ++ rest) ≡ d.frame = sym (drop-drop 2 16 (d.group ++ rest)) ∙ ap (λ (l : List ℕ). drop 2 l) behind in
      all_pass _ _ _ _ key (λ k. not (same_bytes tag (hmac k (tagged d)))) _
      (test_passes magic magic refl)
      (test_passes (take 16 (d.group ++ rest)) known.group (take_at d.group rest 16 len ∙ g))
      (passes_eq (get_or (d.group ++ rest) 17 0) known.me (to_is ∙ o))
      (ap known.pair from_is ∙ shared)
      (test_passes tag (hmac key (tagged d)) is)
      ∙ ap (λ (p : ℕ × List ℕ). ok p) (λ i. (from_is i, frame_is i))

pub is_opened : ComingIsOpened
unfolding opened least_bytes tag_bytes
is_opened known bytes d len comes =
    let tag = hmac comes.key (tagged d) in
    let tag_len : length tag ≡ 32 = hmac_len comes.key (tagged d) in
    let group_len : length d.group ≡ 16 = ap length comes.group ∙ len in
    let t_len : length (tagged d) ≡ 22 + length d.frame = tagged_len d group_len in
    let size : length (tagged d ++ tag) - 32 ≡ length (tagged d) = omega (arith, length-append (tagged d) tag, tag_len) in
    let long : ltb (length (tagged d ++ tag)) 54 ≡ false = le-ltb _ _ (omega (arith, length-append (tagged d) tag, tag_len, t_len)) in
    rw comes.spelled (
    rw (long, size, take_at (tagged d) tag (length (tagged d)) refl, drop_at (tagged d) tag (length (tagged d)) refl)
    (parts_open known d comes.key tag group_len comes.group comes.to comes.shared refl)
    )
