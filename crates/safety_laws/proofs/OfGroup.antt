-- Whose the views and the sequences of the group are.
use Rattle.std.proofs.Common.{◌≡◌, inl, ◌≤◌, List, [], ◌∷◌, map, length, refl, sym, ap, ◌∙◌, subst}
use Rattle.std.specs.Prelude.{All, slice_index_or}
use Rattle.group_defs.specs.Accounts.{Account, account_of, longest}
use Rattle.group_defs.specs.Family.{Correct, Family, end_of, ends, accounts}
use Rattle.pool_laws.proofs.Members.{Mem, index-mem, map-mem, mem-map}
use Rattle.pool_laws.proofs.Places.{longest-mem, longest-most}
use Rattle.safety_laws.proofs.Quorums.{in-ends}

pub account-of : (f : Family) (a : Account) → Mem a (accounts f) → (c : Correct) × Mem c f.correct × (account_of (end_of f.setting c) ≡ a)
account-of f a there =
    let p = map-mem account_of (ends f) a there in
    let c = map-mem (end_of f.setting) f.correct p.0 p.1 in
    (c.0, c.1, ap account_of c.2 ∙ p.2)

pub each-account : (f : Family) (R : Account → Type 0) → ((c : Correct) → Mem c f.correct → R (account_of (end_of f.setting c)))
    → All R (accounts f)
each-account f R each k d lt = let c = account-of f (slice_index_or (accounts f) k d)
    (index-mem (accounts f) k d lt) in subst R c.2 (each c.0 c.1)

pub in-accounts : (f : Family) (c : Correct) → Mem c f.correct → Mem (account_of (end_of f.setting c)) (accounts f)
in-accounts f c m = mem-map account_of (ends f) (end_of f.setting c) (in-ends f c m)

-- ---- the longest

module _ (f : Family) {A : Type 0} (g : Account → List A) where
  abbrev pub longest_of : List A
  longest_of = longest (map g (accounts f))

  -- nobody, or that of a correct process
  pub data Whose : Type 0 where
    nobody : longest_of ≡ [] → Whose
    its : (c : Correct) → Mem c f.correct → g (account_of (end_of f.setting c)) ≡ longest_of → Whose

  pub whose : Whose
  whose = go (map g (accounts f)) refl
    where
      of-account : (a : Account) → Mem a (accounts f) → g a ≡ longest (map g (accounts f)) → Whose
      of-account a m e = let c = account-of f a m in its c.0 c.1 (ap g c.2 ∙ e)

      go : (xss : List (List A)) → map g (accounts f) ≡ xss → Whose
      go [] e = nobody (ap longest e)
      go (xs ∷ more) e =
          let there = map-mem g (accounts f) (longest (map g (accounts f)))
          (longest-mem (map g (accounts f)) xs (subst (Mem xs) (sym e) (inl refl))) in
          of-account there.0 there.1 there.2

  -- where there is one, it is a correct process's
  pub its-longest : (c : Correct) → Mem c f.correct
      → (c' : Correct) × Mem c' f.correct × (g (account_of (end_of f.setting c')) ≡ longest_of)
  its-longest c m =
      let there = map-mem g (accounts f) (longest (map g (accounts f)))
      (longest-mem (map g (accounts f)) (g (account_of (end_of f.setting c))) (mem-map g (accounts f) _ (in-accounts f c m))) in
      let c' = account-of f there.0 there.1 in
      (c'.0, c'.1, ap g c'.2 ∙ there.2)

  pub at-most-longest : (c : Correct) → Mem c f.correct → length (g (account_of (end_of f.setting c))) ≤ length longest_of
  at-most-longest c m = longest-most (map g (accounts f)) (g (account_of (end_of f.setting c)))
      (mem-map g (accounts f) _ (in-accounts f c m))
