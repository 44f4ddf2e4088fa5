-- The view that was left last.
use Rattle.std.proofs.Common.{◌≡◌, ℕ, ◌+◌, List, [], ◌∷◌, ◌++◌, length, map, refl, sym, ap, ◌∙◌, subst, Option, Some, Result, arith}
use Rattle.std.specs.Prelude.{◌↔◌, is_some, slice_index_or, IfOk, IfSome, IsTrue}
use Rattle.std.proofs.lemmas.List.{length-append, map-append}
use Rattle.message_defs.specs.Statements.{Claim}
use Rattle.group_defs.specs.Views.{View, next_view}
use Rattle.group_defs.specs.Process.{Setting, Pool, Delivered, Left, Process}
use Rattle.image_defs.specs.Images.{Image, LeftView, lefts_from, previous_from, process_of, view_behind}
use Rattle.image_defs.specs.Kept.{AreHeard, AreLeft, CommitsLast, IsLeft, WasHeard, as_before, last_delivered}
use Rattle.member_state.specs.Parts.{Archived}
use Rattle.member_state.specs.Parts.{all_signed}
use Rattle.restored_past.specs.Keeping.{KeepsOne}
use Rattle.restored_left.specs.Parts.{Commits, HasPast, IsLastSo, before}
use Rattle.restored_left.proofs.Ends.{last-two}
use Rattle.restored_left.proofs.Outcomes.{ok-same, ok-some}

pub previous-is : (v : View) (heard : List Claim) (xs : List LeftView) (l : LeftView)
    → previous_from v heard (xs ++ l ∷ []) ≡ Some (record { view = view_behind v xs; heard = heard })
previous-is v heard [] l = refl
previous-is v heard (x ∷ []) l = refl
previous-is v heard (x ∷ y ∷ ys) l = previous-is (next_view v x.value.update) heard (y ∷ ys) l

pub last-commits : (h : Pool) (xs : List LeftView) (l : LeftView) → CommitsLast (Some h) (xs ++ l ∷ []) ↔ Commits h l
last-commits h [] l = ((λ e. e), (λ e. e))
last-commits h (x ∷ []) l = ((λ e. e), (λ e. e))
last-commits h (x ∷ y ∷ ys) l = last-commits h (y ∷ ys) l

-- how it was left, and how those before it were
pub parts-left : (s : Setting) (v : View) (xs : List LeftView) (l : LeftView) → AreLeft s v (xs ++ l ∷ [])
    → AreLeft s v xs × IsLeft s (view_behind v xs) l
parts-left s v [] l all = (tt, all.0)
parts-left s v (x ∷ xs) l all = (let rest = parts-left s (next_view v x.value.update) xs l all.1 in ((all.0, rest.0), rest.1))

-- what was delivered there
abbrev last-of : List Left → List Delivered
last-of [] = []
last-of (l ∷ []) = l.delivered
last-of (l ∷ m ∷ ls) = last-of (m ∷ ls)

last-is : (p : Process) (ls : List Left) → last_delivered (record p { left = ls }) ≡ last-of ls
last-is p [] = refl
last-is p (l ∷ []) = refl
last-is p (l ∷ m ∷ ls) = last-is p (m ∷ ls)

last-left : (v : View) (xs : List LeftView) (l : LeftView) (ds : List (List Delivered))
    → last-of (lefts_from v (xs ++ l ∷ []) ds) ≡ slice_index_or ds (length xs) []
last-left v [] l [] = refl
last-left v [] l (d ∷ ds) = refl
last-left v (x ∷ []) l [] = refl
last-left v (x ∷ []) l (d ∷ []) = refl
last-left v (x ∷ []) l (d ∷ e ∷ ds) = refl
last-left v (x ∷ y ∷ ys) l [] = last-left (next_view v x.value.update) (y ∷ ys) l []
last-left v (x ∷ y ∷ ys) l (d ∷ ds) = last-left (next_view v x.value.update) (y ∷ ys) l ds

at-end : {A : Type 0} (rest : List A) (x y d : A) → slice_index_or (rest ++ x ∷ y ∷ []) (length rest) d ≡ x
at-end [] x y d = refl
at-end (r ∷ rest) x y d = at-end rest x y d

same-long : {A : Type 0} (xs ys : List A) (x y : A) (m : ℕ) → length (xs ++ x ∷ y ∷ []) ≡ m + 2 → m ≡ length xs
same-long xs ys x y m e = (let long = length-append xs (x ∷ y ∷ []) in omega (arith, long, e))

pub delivered-last : (s : Setting) (i : Image) (xs : List LeftView) (l : LeftView) → i.left ≡ xs ++ l ∷ []
    → last_delivered (process_of s 1 i) ≡ slice_index_or i.delivered (length xs) []
delivered-last s i xs l is =
    last-is (process_of s 1 i) (lefts_from s.genesis i.left i.delivered)
    ∙ ap (λ ls. last-of (lefts_from s.genesis ls i.delivered)) is ∙ last-left s.genesis xs l i.delivered

-- ---- as it is asked for

module _ (s : Setting) (i : Image) (xs : List LeftView) (l : LeftView) (is : i.left ≡ xs ++ l ∷ []) where
  abbrev h : Pool
  h = record { view = view_behind s.genesis xs; heard = i.previous }

  abbrev p : Process
  p = process_of s 1 i

  abbrev ds : List Delivered
  ds = slice_index_or i.delivered (length xs) []

  pub before-is : before s i ≡ Some h
  before-is = ap (previous_from s.genesis i.previous) is ∙ previous-is s.genesis i.previous xs l

  -- what it comes to: its pool gives its commit certificate, and is a heard list
  pub last-there : IsLastSo s i → Commits h l × AreHeard s (as_before p ds h)
  last-there so = (
    (last-commits h xs l).0 (subst (CommitsLast (Some h)) is (subst (λ o. CommitsLast o i.left) before-is so.0)),
    subst (λ es. AreHeard s (as_before p es h)) (delivered-last s i xs l is) (subst (WasHeard s p) before-is so.1),
  )

  pub there-last : Commits h l → AreHeard s (as_before p ds h) → IsLastSo s i
  there-last commits heard = (
    subst (λ o. CommitsLast o i.left) (sym before-is) (subst (CommitsLast (Some h)) (sym is) ((last-commits h xs l).1 commits)),
    subst (WasHeard s p) (sym before-is) (subst (λ es. AreHeard s (as_before p es h)) (sym (delivered-last s i xs l is)) heard),
  )

  -- the archive that is kept
  pub past-so : (a : Archived) → a.previous ≡ Some h
      → a.commits ≡ map (λ (k : LeftView). all_signed k.commit) xs ++ all_signed l.commit ∷ [] → HasPast s i a
  past-so a previous commits = record {
    previous = before-is ∙ sym previous;
    commits = ap (map (λ (k : LeftView). all_signed k.commit)) is ∙ map-append (λ (k : LeftView). all_signed k.commit) xs (l ∷ []) ∙ sym commits;
  }

  -- where its claims are a heard list, it is so exactly where the certificate is the pool's
  pub exact-heard : {E : Type 0} (r : Result (Option Archived) E) (g : Pool) → g ≡ h → AreHeard s (as_before p ds h)
      → IfOk r (λ o. IsTrue (is_some o) ↔ Commits g l) → IfOk r (λ o. IsTrue (is_some o) ↔ IsLastSo s i)
  exact-heard r g same heard exact = ok-same r (Commits g l) (IsLastSo s i)
      (λ commits. there-last (subst (λ (g : Pool). Commits g l) same commits) heard)
      (λ so. subst (λ (g : Pool). Commits g l) (sym same) (last-there so).0) exact

  -- and what is kept is then as it should be
  pub past-heard : {E : Type 0} (r : Result (Option Archived) E) (old : Archived) (g : Pool) → g ≡ h
      → old.commits ≡ map (λ (k : LeftView). all_signed k.commit) xs → IfOk r (λ o. IsTrue (is_some o) ↔ Commits g l)
      → IfOk r (λ o. IfSome o (λ a. KeepsOne old a g l.rank l.value)) → IfOk r (λ o. IfSome o (HasPast s i))
  past-heard r old g same are exact kept = ok-some r (λ a. KeepsOne old a g l.rank l.value) (HasPast s i) (Commits g l)
      (λ by a is. past-so a (is.previous ∙ ap (λ (g : Pool). Some g) same) (is.commits
      ∙ (λ j. are j ++ all_signed (sym by j) ∷ []))) exact kept

-- what is before the last list is what was delivered in the view that was left last
pub there-so : (es : List (List Delivered)) (n : ℕ) (got : List Delivered) → length es ≡ n + 2
    → ((rest : List (List Delivered)) (ds last : List Delivered) → es ≡ rest ++ ds ∷ last ∷ [] → got ≡ ds) → got ≡ slice_index_or es n []
there-so es n got long before = (let two = last-two es n [] long in before two.0 (slice_index_or es n []) two.1 two.2)
