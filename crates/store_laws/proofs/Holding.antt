-- The store of a process, from where it has it, is that of the group.
use Rattle.std.proofs.Common.{◌≡◌, inl, inr, ℕ, zero, suc, ◌+◌, ◌-◌, ◌<◌, ◌≤◌, List, [], ◌∷◌, ◌++◌, map, length, take, drop, Some, Bool, true, false, refl, sym, ap, ◌∙◌, subst, arith, slice_get}
use Rattle.std.specs.Prelude.{◌&&◌, nat_le, All, Contains, IsTrue}
use Rattle.std.proofs.lemmas.Bool.{leb-true}
use Rattle.std.proofs.lemmas.List.{length-take}
use Rattle.group_defs.specs.Views.{View, is_member}
use Rattle.group_defs.specs.Process.{Letter, Delivered, letter_of, without_places, views_of}
use Rattle.group_defs.specs.Accounts.{Account, AgreesWith, Group, account_of, delivered_in, group_of, messages_in}
use Rattle.group_defs.specs.Family.{Correct, Family, accounts, end_of}
use Rattle.group_defs.specs.Laws.{Premises}
use Rattle.pool_laws.proofs.Members.{All-mem, Mem, list_any-mem}
use Rattle.pool_laws.proofs.Places.{Compared, ahead, behind, compared, get-drop, level, mem-slice_get, slice_get-length, take-get}
use Rattle.pool_laws.proofs.Tests.{and-first, and-second}
use Rattle.safety_laws.proofs.AllAgree.{agreement}
use Rattle.safety_laws.proofs.OfGroup.{in-accounts}
use Rattle.store_defs.specs.Stores.{Store, empty, store_after}
use Rattle.store_defs.specs.Holding.{Beginning, holds, payloads_of, payloads_in, stayed, store_at, store_below, store_over, was_member}

-- ---- members

-- it was a member of the view of this number
pub record WasIn (a : Account) (x : ℕ) : Type 0 where
  pub view : View
  pub at : slice_get a.views x ≡ Some view
  pub member : is_member view a.me ≡ true

was-in : (a : Account) (x : ℕ) → was_member a x ≡ true → WasIn a x
was-in a x e =
    let found = list_any-mem (λ v. is_member v a.me) (take 1 (drop x a.views)) e in
    let at = mem-slice_get (take 1 (drop x a.views)) found.0 found.1 in
    let lt = slice_get-length (take 1 (drop x a.views)) at.0 found.0 at.1 in
    let few = length-take 1 (drop x a.views) in
    record {
      view = found.0;
      at = get-drop x a.views at.0 x found.0 (omega (arith, lt, few)) (take-get 1 (drop x a.views) at.0 found.0 at.1);
      member = found.2;
    }

-- of so many views from y on
pub stayed-in : (a : Account) (y n z : ℕ) → stayed a y n ≡ true → y ≤ z → z < y + n → WasIn a z
unfolding stayed
stayed-in a y zero z e le lt = absurd (omega (arith, le, lt))
stayed-in a y (suc n) z e le lt = go (compared z (y + n)) (stayed-in a y n z (and-first (stayed a y n) _ e) le)
  where
    go : Compared z (y + n) → (z < y + n → WasIn a z) → WasIn a z
    go (ahead before) rest = rest before
    go (level is) rest = subst (WasIn a) (sym is) (was-in a (y + n) (and-second (stayed a y n) _ e))
    go (behind over) rest = absurd (omega (arith, over, lt))

-- ---- the store

pub same-payloads : (ds : List Delivered) → payloads_in (without_places ds) ≡ payloads_of ds
same-payloads [] = refl
same-payloads (d ∷ ds) = ap (λ ps. d.payload ∷ ps) (same-payloads ds)

-- the same payloads view by view, from the same store on
over-same : (mine group : ℕ → List (List ℕ)) (y n : ℕ) (s : Store) → s ≡ store_over group empty 0 y
    → ((z : ℕ) → y ≤ z → z < y + n → mine z ≡ group z) → store_over mine s y n ≡ store_over group empty 0 (y + n)
unfolding store_over
over-same mine group y zero s is same = let none : y ≡ y + 0 = omega arith in is ∙ ap (store_over group empty 0) none
over-same mine group y (suc n) s is same =
    let before = over-same mine group y n s is (λ z le lt. same z le (omega (arith, lt))) in
    let here : mine (y + n) ≡ group (y + n) = same (y + n) (omega arith) (omega arith) in
    let next : suc (y + n) ≡ y + suc n = omega arith in
    let from : y + n ≡ 0 + (y + n) = omega arith in
    (λ i. store_after (before i) ((here ∙ ap group from) i)) ∙ ap (store_over group empty 0) next

module _ (f : Family) (premises : Premises f) (c : Correct) (m : Mem c f.correct) where
  abbrev mine : Account
  mine = account_of (end_of f.setting c)

  abbrev group : Group
  group = group_of (accounts f)

  pub agrees : AgreesWith group mine
  agrees = All-mem (AgreesWith group) (accounts f) mine (agreement f premises) (in-accounts f c m)

  -- of a view that it left as a member it has the whole sequence
  whole-view : (z : ℕ) → WasIn mine z → z + 1 < length mine.views → payloads_of (delivered_in mine z) ≡ payloads_in (group.sequence z)
  whole-view z was left = sym (same-payloads (delivered_in mine z)) ∙ ap payloads_in (agrees.whole z was.view was.at was.member left)

  module _ (b : Beginning) (begins : b.store ≡ store_below group b.view) (x : ℕ) (held : holds mine b x ≡ true) where
    not-later : b.view ≤ x
    not-later = leb-true b.view x (and-first (nat_le b.view x) _ held)

    pub was-member : WasIn mine x
    was-member = stayed-in mine b.view (x - b.view + 1) x (and-second (nat_le b.view x) _ held) not-later (let le = not-later in omega (arith, le))

    pub store-is : store_at mine b x ≡ store_below group x
    store-is =
        let le = not-later in
        let stays = and-second (nat_le b.view x) _ held in
        let here = slice_get-length mine.views x was-member.view was-member.at in
        let whole = over-same (λ z. payloads_of (delivered_in mine z)) (λ z. payloads_in (group.sequence z)) b.view (x - b.view) b.store begins
        (λ z from to. whole-view z
        (stayed-in mine b.view (x - b.view + 1) z stays from (omega (arith, to)))
        (omega (arith, le, to, here))) in
        let end : b.view + (x - b.view) ≡ x = omega (arith, le) in
        whole ∙ ap (store_below group) end
