-- Where a run begins, from what an account says of each view.
use Rattle.std.proofs.Common.{◌≡◌, ℕ, zero, suc, ◌+◌, ◌-◌, ◌<◌, ◌≤◌, List, [], ◌∷◌, ◌++◌, map, length, Bool, true, false, Option, None, Some, refl, sym, ap, ◌∙◌, subst, arith}
use Rattle.std.specs.Prelude.{◌&&◌, nat_le, slice_index_or, min, option_map}
use Rattle.std.proofs.lemmas.Bool.{le-leb, leb-true, leb-false}
use Rattle.std.proofs.lemmas.List.{length-map}
use Rattle.group_defs.specs.Views.{View}
use Rattle.group_defs.specs.Process.{Delivered, Process, deliveries_of, views_of}
use Rattle.group_defs.specs.Accounts.{Account, account_of, delivered_in}
use Rattle.pool_laws.proofs.Places.{index-is, length-snoc, slice_get-front, slice_get-index, slice_get-last}
use Rattle.store_defs.specs.Serving.{held, server_of}
use Rattle.store_defs.specs.Stores.{Store, store_after}
use Rattle.store_defs.specs.Transfers.{new_transfer}
use Rattle.store_server.proofs.Lasts.{same-front, same-last}
use Rattle.store_defs.specs.Holding.{delivered_below, genesis, holds, payloads_of, stayed, store_at, store_over, was_member}

index-front : {A : Type 0} (xs ys : List A) (z : ℕ) (d : A) → z < length xs → slice_index_or (xs ++ ys) z d ≡ slice_index_or xs z d
index-front xs ys z d lt = index-is (xs ++ ys) z d (slice_index_or xs z d)
    (slice_get-front xs ys z (slice_index_or xs z d) (slice_get-index xs z d lt))

-- two sequences of payloads that are the same in these views
over-same : (f g : ℕ → List (List ℕ)) (s : Store) (y n : ℕ) → ((z : ℕ) → z < y + n → f z ≡ g z) → store_over f s y n ≡ store_over g s y n
unfolding store_over
over-same f g s y zero same = refl
over-same f g s y (suc n) same =
    let before = over-same f g s y n (λ z lt. same z (omega (arith, lt))) in
    let here = same (y + n) (omega arith) in λ i. store_after (before i) (here i)

module _ (a : Account) (below : List (List Delivered)) (here : List Delivered) (lists : a.delivered ≡ below ++ here ∷ []) where
  in-front : (z : ℕ) → z < length below → slice_index_or below z [] ≡ delivered_in a z
  in-front z lt = sym (index-front below (here ∷ []) z [] lt) ∙ ap (λ (ds : List (List Delivered)). slice_index_or ds z []) (sym lists)

  pub at-last : here ≡ delivered_in a (length below)
  at-last =
      sym (index-is (below ++ here ∷ []) (length below) [] here (slice_get-last below here (length below) refl))
      ∙ ap (λ (ds : List (List Delivered)). slice_index_or ds (length below) []) (sym lists)

  -- the store at the beginning of the view
  pub store-begun : (s : Store) → store_over (λ z. payloads_of (slice_index_or below z [])) s 0 (length below)
      ≡ store_over (λ z. payloads_of (delivered_in a z)) s 0 (length below)
  store-begun s = over-same (λ z. payloads_of (slice_index_or below z [])) (λ z. payloads_of (delivered_in a z)) s 0 (length below)
      (λ z lt. ap payloads_of (in-front z (omega (arith, lt))))

  -- how many messages were delivered, those of the view too
  pub counted-all : delivered_below a (length (below ++ here ∷ [])) ≡ delivered_below a (length below) + length here
  unfolding delivered_below
  counted-all =
      ap (delivered_below a) (length-snoc below here)
      ∙ ap (λ (ds : List Delivered). delivered_below a (length below) + length ds) (sym at-last)

-- it was no member of one of the first views, so it was not one of all
pub left-once : (a : Account) (n m : ℕ) → n ≤ m → stayed a 0 n ≡ false → stayed a 0 m ≡ false
unfolding stayed
left-once a n zero le out = ap (stayed a 0) same ∙ out
  where
    same : 0 ≡ n
    same = omega (arith, le)
left-once a n (suc m) le out = go (nat_le n m) refl (λ lem. left-once a n m lem out)
  where
    go : (b : Bool) → b ≡ nat_le n m → (n ≤ m → stayed a 0 m ≡ false) → stayed a 0 (suc m) ≡ false
    go true here before = ap (λ (c : Bool). c && was_member a (0 + m)) (before (leb-true n m (sym here)))
    go false here before =
        let lt = leb-false n m (sym here) in let same : suc m ≡ n = omega (arith, le, lt) in ap (stayed a 0) same ∙ out

-- of what is held
held-map : {A B : Type 0} (b : Bool) (f : A → B) (x : A) → option_map f (held b x) ≡ held b (f x)
held-map true f x = refl
held-map false f x = refl

-- from the genesis on it holds the store where it was a member of all views up to this one
pub holds-so : (a : Account) (x : ℕ) → holds a genesis x ≡ stayed a 0 (x + 1)
holds-so a x =
    let first : nat_le 0 x ≡ true = le-leb 0 x (omega arith) in
    let count : x - 0 + 1 ≡ x + 1 = omega arith in
    λ i. first i && stayed a 0 (count i)

-- ---- the process as its journal left it, by what it tells of itself

module _ (p : Process) (a : Account) (reported : account_of p ≡ a) (numbered : p.pool.view.number ≡ length p.left)
    (below : List (List Delivered)) (here : List Delivered) (lists : a.delivered ≡ below ++ here ∷ [])
    (before : List View) (view : View) (views : a.views ≡ before ++ view ∷ []) where
  both_lists : deliveries_of p ≡ below ++ here ∷ []
  both_lists = ap (λ (b : Account). b.delivered) reported ∙ lists

  both_views : views_of p ≡ before ++ view ∷ []
  both_views = ap (λ (b : Account). b.views) reported ∙ views

  pub view-so : p.pool.view ≡ view
  view-so = same-last (map (λ v. v.view) p.left) before p.pool.view view both_views

  here-so : p.delivered ≡ here
  here-so = same-last (map (λ v. v.delivered) p.left) below p.delivered here both_lists

  number-so : p.pool.view.number ≡ length below
  number-so =
      numbered ∙ sym (length-map p.left (λ v. v.delivered))
      ∙ ap length (same-front (map (λ v. v.delivered) p.left) below p.delivered here both_lists)

  views-so : length a.views ≡ p.pool.view.number + 1
  views-so =
      let count : length (views_of p) ≡ suc (length (map (λ v. v.view) p.left)) = length-snoc (map (λ v. v.view) p.left) p.pool.view in
      let mapped : length (map (λ v. v.view) p.left) ≡ length p.left = length-map p.left (λ v. v.view) in
      let same : length a.views ≡ length (views_of p) = ap (λ (b : Account). length b.views) (sym reported) in
      omega (arith, count, mapped, same, numbered)

  -- where it has the store
  has-so : stayed a 0 (length a.views) ≡ holds (account_of p) genesis p.pool.view.number
  has-so =
      ap (stayed a 0) views-so ∙ sym (holds-so a p.pool.view.number)
      ∙ ap (λ (b : Account). holds b genesis p.pool.view.number) (sym reported)

  -- the store at the beginning of the view
  store-so : store_over (λ z. payloads_of (slice_index_or below z [])) [] 0 (length below)
      ≡ store_at (account_of p) genesis p.pool.view.number
  store-so =
      store-begun a below here lists []
      ∙ ap (λ (n : ℕ). store_over (λ z. payloads_of (delivered_in a z)) [] 0 n) (sym from)
      ∙ ap (λ (b : Account). store_at b genesis p.pool.view.number) (sym reported)
    where
      from : p.pool.view.number - 0 ≡ length below
      from = omega (arith, number-so)

  pub gives-so : held (stayed a 0 (length a.views)) (store_over (λ z. payloads_of (slice_index_or below z [])) [] 0 (length below))
      ≡ (server_of p).gives
  unfolding server_of
  gives-so = λ i. held (has-so i) (store-so i)

  pub stored-so : option_map (λ t. store_after t (payloads_of here))
      (held (stayed a 0 (length a.views)) (store_over (λ z. payloads_of (slice_index_or below z [])) [] 0 (length below)))
      ≡ (server_of p).store
  unfolding server_of
  stored-so =
      (λ i. option_map (λ t. store_after t (payloads_of (sym here-so i))) (held (has-so i) (store-so i)))
      ∙ held-map (holds (account_of p) genesis p.pool.view.number) (λ t. store_after t (payloads_of p.delivered))
      (store_at (account_of p) genesis p.pool.view.number)

  pub count-so : delivered_below a (length a.delivered) ≡ (server_of p).delivered
  unfolding server_of
  count-so =
      ap (λ (ds : List (List Delivered)). delivered_below a (length ds)) lists
      ∙ counted-all a below here lists
      ∙ (λ i. delivered_below (sym reported i) (sym number-so i) + length (sym here-so i))

  pub view-of : (server_of p).view ≡ view
  unfolding server_of
  view-of = view-so

  pub keys-of : (server_of p).keys ≡ []
  unfolding server_of
  keys-of = refl

  pub last-of : (server_of p).last ≡ None
  unfolding server_of
  last-of = refl

  pub transfer-of : (server_of p).transfer ≡ new_transfer view
  unfolding server_of
  transfer-of = ap new_transfer view-so
