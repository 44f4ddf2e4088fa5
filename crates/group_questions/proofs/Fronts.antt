-- A list that is a front of another.
use Rattle.std.proofs.Common.{◌≡◌, ◌==◌, ℕ, ◌<◌, ◌≤◌, List, [], ◌∷◌, map, take, length, Bool, true, false, refl, sym, ap, ◌∙◌, arith}
use Rattle.std.specs.Prelude.{◌&&◌, ◌||◌, nat_le}
use Rattle.std.specs.List.{list_all, zip}
use Rattle.std.proofs.lemmas.Bool.{eqb-true, eq-eqb, leb-true}
use Rattle.std.proofs.lemmas.List.{length-map, take_all}
use lib.Pointwise.{pointwise, pointwise_long, bytes_decides}
use Rattle.byte_defs.specs.Equality.{is_yes, same_bytes}
use Rattle.group_defs.specs.Views.{View, View-discrete}
use Rattle.group_defs.specs.Process.{Letter, Letter-discrete, letter_of}
use Rattle.group_defs.specs.Accounts.{same_views, same_sequence}
use Rattle.member_events.specs.declared.events.Delivered.{Delivered}
use Rattle.accounts.specs.Views.{delivery}
use Rattle.pool_laws.proofs.Tests.{and-first, and-second, both-true, is-yes, yes-is}
use Rattle.group_questions.specs.Letters.{letters, same_view}

pub same-truth : (a b : Bool) → (a ≡ true → b ≡ true) → (b ≡ true → a ≡ true) → a ≡ b
same-truth true b f g = sym (f refl)
same-truth false true f g = g refl
same-truth false false f g = refl

-- both tests of views are one
same_view-is : (v w : View) → same_view v w ≡ is_yes (View-discrete v w)
same_view-is v w = same-truth (same_view v w) (is_yes (View-discrete v w))
    (λ e.
    let number = eqb-true v.number w.number (and-first (v.number == w.number) (same_bytes v.members w.members) e) in
    let members = (bytes_decides v.members w.members).0 (and-second (v.number == w.number) (same_bytes v.members w.members) e) in
    is-yes (View-discrete v w) (λ i. record { number = number i; members = members i }))
    (λ e.
    let is = yes-is (View-discrete v w) e in
    both-true (v.number == w.number) (same_bytes v.members w.members) (eq-eqb v.number w.number (ap (λ (u : View). u.number) is))
    ((bytes_decides v.members w.members).1 (ap (λ (u : View). u.members) is)))

and-false : (a b : Bool) → false ≡ b → false ≡ (a && b)
and-false true b e = e
and-false false b e = refl

-- the pairs of two lists, the first of which is not longer, are equal exactly where it is a front of the other
pub views-front : (vs ws : List View) → length vs ≤ length ws
    → list_all (λ p. same_view p.0 p.1) (zip vs ws) ≡ same_views vs (take (length vs) ws)
views-front [] ws le = refl
views-front (v ∷ vs) [] le = absurd (omega (arith, le))
views-front (v ∷ vs) (w ∷ ws) le = λ i. same_view-is v w i && views-front vs ws (omega (arith, le)) i

pub letters-front : (ds es : List Delivered) → length ds ≤ length es
    → list_all (λ p. is_yes (Letter-discrete (letter_of (delivery p.0)) (letter_of (delivery p.1)))) (zip ds es)
    ≡ same_sequence (letters ds) (take (length (letters ds)) (letters es))
letters-front [] es le = refl
letters-front (d ∷ ds) [] le = absurd (omega (arith, le))
letters-front (d ∷ ds) (e ∷ es) le = ap (λ (b : Bool). is_yes (Letter-discrete (letter_of (delivery d)) (letter_of (delivery e))) && b)
    (letters-front ds es (omega (arith, le)))

pub not-le : (m n : ℕ) → n < m → nat_le m n ≡ false
not-le m n lt = go (nat_le m n) refl
  where
    go : (b : Bool) → nat_le m n ≡ b → nat_le m n ≡ false
    go true e = absurd (let le = leb-true m n e in omega (arith, lt, le))
    go false e = e

-- a longer list is no front
pub too-long : {A : Type 0} (E : A → A → Bool) (xs ys : List A) → length ys < length xs → false ≡ pointwise E xs (take (length xs) ys)
too-long E [] ys lt = absurd (omega (arith, lt))
too-long E (x ∷ xs) [] lt = refl
too-long E (x ∷ xs) (y ∷ ys) lt = and-false (E x y) (pointwise E xs (take (length xs) ys)) (too-long E xs ys (omega (arith, lt)))

pub length-letters : (ds : List Delivered) → length (letters ds) ≡ length ds
length-letters ds = length-map (map delivery ds) letter_of ∙ length-map ds delivery

pub letters-too_long : (ds es : List Delivered) → length es < length ds
    → false ≡ same_sequence (letters ds) (take (length (letters ds)) (letters es))
letters-too_long ds es lt =
    too-long (λ d e. is_yes (Letter-discrete d e)) (letters ds) (letters es)
    (let one = length-letters ds in let two = length-letters es in omega (arith, one, two, lt))

-- a front is all of it exactly where it is as long
front-whole : {A : Type 0} (E : A → A → Bool) (xs ys : List A) → pointwise E xs (take (length xs) ys) ≡ true
    → pointwise E xs ys ≡ (length xs == length ys)
front-whole E xs ys front = same-truth (pointwise E xs ys) (length xs == length ys)
    (λ e. eq-eqb (length xs) (length ys) (pointwise_long E xs ys e))
    (λ e.
    let long = eqb-true (length xs) (length ys) e in
    let all : take (length xs) ys ≡ ys = take_all (length xs) ys (omega (arith, long)) in
    ap (pointwise E xs) (sym all) ∙ front)

front-and : (a b c d : Bool) → (a ≡ true → c ≡ d) → (a && (b || c)) ≡ (a && (b || d))
front-and true b c d same = ap (λ (x : Bool). b || x) (same refl)
front-and false b c d same = refl

-- so may the lengths be compared
pub whole-front : (ds es : List Delivered) (may_lack : Bool)
    → (same_sequence (letters ds) (take (length (letters ds)) (letters es)) && (may_lack || (length ds == length es)))
    ≡ (same_sequence (letters ds) (take (length (letters ds)) (letters es)) && (may_lack || same_sequence (letters ds) (letters es)))
whole-front ds es may_lack =
    let test : Letter → Letter → Bool = λ d e. is_yes (Letter-discrete d e) in
    let long : (length ds == length es)
    ≡ (length (letters ds) == length (letters es)) = λ i. sym (length-letters ds) i == sym (length-letters es) i in
    front-and (same_sequence (letters ds) (take (length (letters ds)) (letters es))) may_lack (length ds == length es)
    (same_sequence (letters ds) (letters es))
    (λ front. long ∙ sym (front-whole test (letters ds) (letters es) front))
