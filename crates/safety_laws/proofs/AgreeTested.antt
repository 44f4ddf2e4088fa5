-- What the report computes of agreement says it, of accounts with one delivered list of each view.
use Rattle.std.proofs.Common.{◌≡◌, ◌⊎◌, inl, inr, ℕ, ◌+◌, ◌<◌, ◌≤◌, List, [], ◌++◌, map, length, take, drop, Some, Bool, true, false, refl, sym, ap, ◌∙◌, subst, arith, slice_get}
use Rattle.std.specs.Prelude.{◌||◌, not, nat_lt}
use Rattle.std.specs.List.{list_any, list_all, range_with_len}
use Rattle.std.proofs.lemmas.Bool.{ltb-true, ltb-false, lt-ltb}
use Rattle.std.proofs.lemmas.List.{length-map, take-append-drop, take_at}
use lib.Pointwise.{pointwise, pointwise_decides}
use Rattle.group_defs.specs.Below.{is_yes}
use Rattle.group_defs.specs.Views.{View, View-discrete, is_member}
use Rattle.group_defs.specs.Process.{Letter, Letter-discrete, Delivered, Delivered-discrete, Left, Process, without_places}
use Rattle.group_defs.specs.Accounts.{Account, account_of, Group, group_of, messages_in, HasLeft, IsPrefixOf, HasListOfEachView, AccountsHaveLists, AgreesWith, agrees_in, agrees_with, same_views, same_sequence, AgreeIsTested}
use Rattle.pool_laws.proofs.Members.{All-mem, each-list_all, list_all-mem, map-mem, mem-All}
use Rattle.pool_laws.proofs.Places.{get-some, index-beyond, length-snoc, mem-range, range-mem, slice_get-length, take-one}
use Rattle.pool_laws.proofs.Tests.{and-first, and-second, both-true, is-yes, yes-is}

pub accounts_have_lists : AccountsHaveLists
accounts_have_lists ps = mem-All HasListOfEachView (map account_of ps)
    (λ a m. let p = map-mem account_of ps a m in subst HasListOfEachView p.2 (of-process p.0))
  where
    of-process : (p : Process) → HasListOfEachView (account_of p)
    of-process p =
        let delivered = length-snoc (map (λ (l : Left). l.delivered) p.left) p.delivered in
        let views = length-snoc (map (λ (l : Left). l.view) p.left) p.pool.view in
        let one = length-map p.left (λ (l : Left). l.delivered) in
        let two = length-map p.left (λ (l : Left). l.view) in
        omega (arith, delivered, views, one, two)

-- ---- a prefix, tested

unfoldable pub Decides : {A : Type 0} → (A → A → Bool) → Type 0
Decides {A} E = (x y : A) → (E x y ≡ true → x ≡ y) × (x ≡ y → E x y ≡ true)

pub discrete-decides : {A : Type 0} (d : Discrete A) → Decides (λ x y. is_yes (d x y))
unfolding Decides
discrete-decides d x y = (yes-is (d x y), is-yes (d x y))

module _ {A : Type 0} (E : A → A → Bool) (decides : Decides E) where
  pub same-is : (xs ys : List A) → pointwise E xs ys ≡ true → xs ≡ ys
  unfolding Decides
  same-is xs ys e = (pointwise_decides {E = E} decides xs ys).0 e

  pub is-same : (xs ys : List A) → xs ≡ ys → pointwise E xs ys ≡ true
  unfolding Decides
  is-same xs ys e = (pointwise_decides {E = E} decides xs ys).1 e

  pub prefix-is : (xs ys : List A) → pointwise E xs (take (length xs) ys) ≡ true → IsPrefixOf xs ys
  prefix-is xs ys e = (
    drop (length xs) ys,
    ap (λ zs. zs ++ drop (length xs) ys) (same-is xs (take (length xs) ys) e) ∙ take-append-drop (length xs) ys,
  )

  pub is-prefix : (xs ys : List A) → IsPrefixOf xs ys → pointwise E xs (take (length xs) ys) ≡ true
  is-prefix xs ys p = is-same xs (take (length xs) ys) (sym (take_at xs p.0 (length xs) refl) ∙ ap (take (length xs)) p.1)

abbrev pub same_view : View → View → Bool
same_view v w = is_yes (View-discrete v w)

pub views-decide : Decides same_view
views-decide = discrete-decides View-discrete

abbrev pub same_letter : Letter → Letter → Bool
same_letter d e = is_yes (Letter-discrete d e)

pub sequence-decides : Decides same_letter
sequence-decides = discrete-decides Letter-discrete

abbrev pub same_delivered : Delivered → Delivered → Bool
same_delivered d e = is_yes (Delivered-discrete d e)

pub deliveries-decide : Decides same_delivered
deliveries-decide = discrete-decides Delivered-discrete

-- ---- one account

module _ (g : Group) (a : Account) (full : HasListOfEachView a) where
  abbrev own : ℕ → List Letter
  own x = messages_in a x

  -- a member that has left the view of this number
  abbrev left_as_member : ℕ → Bool
  left_as_member x = list_any (λ v. is_member v a.me) (take 1 (drop x a.views))

  either-way : (b c d : Bool) → (not b || not c || d) ≡ true → b ≡ true → c ≡ true → d ≡ true
  either-way true true d e one two = e
  either-way true false d e one two = absurd cc
  either-way false c d e one two = absurd cc

  unless : (b c d : Bool) → (b ≡ true → c ≡ true → d ≡ true) → (not b || not c || d) ≡ true
  unless true true d h = h refl refl
  unless true false d h = refl
  unless false c d h = refl

  member-there : (x : ℕ) (v : View) → slice_get a.views x ≡ Some v → left_as_member x ≡ (is_member v a.me || false)
  member-there x v at = ap (list_any (λ v. is_member v a.me)) (take-one a.views x v at)

  or-false : (b : Bool) → (b || false) ≡ b
  or-false true = refl
  or-false false = refl

  Whole : ℕ → Type 0
  Whole x = (v : View) → slice_get a.views x ≡ Some v → is_member v a.me ≡ true → HasLeft a x → own x ≡ g.sequence x

  agrees-there : (x : ℕ) → agrees_in g a x ≡ true → IsPrefixOf (own x) (g.sequence x) × Whole x
  unfolding Whole
  agrees-there x e = (
    prefix-is same_letter sequence-decides (own x) (g.sequence x) (and-first _ _ e),
    λ v at member left. same-is same_letter sequence-decides (own x) (g.sequence x)
        (either-way (left_as_member x) (nat_lt (x + 1) (length a.views)) (same_sequence (own x) (g.sequence x)) (and-second _ _ e)
        (member-there x v at ∙ or-false (is_member v a.me) ∙ member) (lt-ltb (x + 1) (length a.views) left)),
  )

  there-agrees : (x : ℕ) → x < length a.views → IsPrefixOf (own x) (g.sequence x) → Whole x → agrees_in g a x ≡ true
  unfolding Whole
  there-agrees x lt p whole =
      let v = get-some a.views x lt in
      both-true _ _ (is-prefix same_letter sequence-decides (own x) (g.sequence x) p)
      (unless (left_as_member x) (nat_lt (x + 1) (length a.views)) (same_sequence (own x) (g.sequence x))
      (λ member left. is-same same_letter sequence-decides (own x) (g.sequence x)
      (whole v.0 v.1 (sym (or-false (is_member v.0 a.me)) ∙ sym (member-there x v.0 v.1) ∙ member)
      (ltb-true (x + 1) (length a.views) left))))

  -- nothing is delivered beyond the views
  beyond : (x : ℕ) → length a.views ≤ x → own x ≡ []
  beyond x le = ap without_places (index-beyond a.delivered x [] (let long = full in omega (arith, long, le)))

  within : (x : ℕ) → (x < length a.views) ⊎ (length a.views ≤ x)
  within x = go (nat_lt x (length a.views)) refl
    where
      go : (b : Bool) → nat_lt x (length a.views) ≡ b → (x < length a.views) ⊎ (length a.views ≤ x)
      go true e = inl (ltb-true x (length a.views) e)
      go false e = inr (ltb-false x (length a.views) e)

  tested-agrees : agrees_with g a ≡ true → AgreesWith g a
  unfolding Whole
  tested-agrees e = record {
    views = prefix-is same_view views-decide a.views g.views (and-first _ _ e);
    prefixes = λ x. elim (within x) [
      | inl lt ↦ (agrees-there x (at x lt)).0
      | inr le ↦
          (g.sequence x, ap (λ ds. ds ++ g.sequence x) (beyond x le))
    ];
    whole = λ x v there member left. (agrees-there x (at x (slice_get-length a.views x v there))).1 v there member left;
  }
    where
      at : (x : ℕ) → x < length a.views → agrees_in g a x ≡ true
      at x lt = list_all-mem (agrees_in g a)
          (range_with_len 0 (length a.views)) x
          (and-second (same_views a.views (take (length a.views) g.views)) (list_all (agrees_in g a) (range_with_len 0 (length a.views))) e)
          (range-mem 0 (length a.views) x (omega arith) (omega (arith, lt)))

  agrees-tested : AgreesWith g a → agrees_with g a ≡ true
  unfolding Whole
  agrees-tested agrees = both-true _ _ (is-prefix same_view views-decide a.views g.views agrees.views)
      (each-list_all (agrees_in g a) (range_with_len 0 (length a.views))
      (λ x m. there-agrees x (let lt = mem-range 0 (length a.views) x m in omega (arith, lt)) (agrees.prefixes x)
      (λ v there member left. agrees.whole x v there member left)))

pub agree_is_tested : AgreeIsTested
agree_is_tested accounts full = (
  λ e. mem-All (AgreesWith (group_of accounts)) accounts
      (λ a m. tested-agrees (group_of accounts) a (All-mem HasListOfEachView accounts a full m)
      (list_all-mem (agrees_with (group_of accounts)) accounts a e m)),
  λ all. each-list_all (agrees_with (group_of accounts)) accounts
      (λ a m. agrees-tested (group_of accounts) a (All-mem HasListOfEachView accounts a full m)
      (All-mem (AgreesWith (group_of accounts)) accounts a all m)),
)
