-- A leaf of a reply key or a state key signs one body.
use Rattle.std.proofs.Common.{◌≡◌, ◌⊎◌, inl, inr, ℕ, zero, suc, ◌+◌, ◌-◌, ◌<◌, ◌≤◌, List, [], ◌∷◌, ◌++◌, length, Bool, true, refl, sym, ap, ◌∙◌, subst, arith}
use Rattle.std.specs.Prelude.{codes, All}
use Rattle.std.proofs.lemmas.List.{length-append}
use Rattle.group_defs.specs.Process.{Delivered, Process}
use Rattle.group_defs.specs.Accounts.{Account, Group, account_of, at_place, delivered_in, group_of}
use Rattle.group_defs.specs.Family.{Correct, Family, accounts, end_of, ends}
use Rattle.pool_laws.proofs.Members.{Mem, map-mem, mem-All}
use Rattle.pool_laws.proofs.Places.{Compared, ahead, behind, compared, level}
use Rattle.store_defs.specs.Stores.{Store, answer_to, store_after, store_bytes}
use Rattle.store_defs.specs.Records.{Reply, StateRecord, reply_body, state_body}
use Rattle.store_defs.specs.Holding.{Beginning, Gives, Replies, IsDeliveredHere, delivered_below, genesis, payloads_of, store_at, store_below}
use Rattle.store_defs.specs.Laws.{Begins, MadeReply, MadeState, OneBodyPerLeaf, OneReplyPerLeaf, OneStatePerLeaf, ServicePremises, Services, TookIn}
use Rattle.store_laws.proofs.Holding.{store-is}
use Rattle.store_laws.proofs.Joining.{right}

-- ---- one leaf, one message

-- more views deliver no fewer
below-more : (a : Account) (x n : ℕ) → delivered_below a x ≤ delivered_below a (x + n)
unfolding delivered_below
below-more a x zero = let same : x ≡ x + 0 = omega arith in subst (λ k. delivered_below a x ≤ delivered_below a k) same (omega arith)
below-more a x (suc n) =
    let before = below-more a x n in
    let same : suc (x + n) ≡ x + suc n = omega arith in
    subst (λ k. delivered_below a x ≤ delivered_below a k) same (omega (arith, before))

-- whoever is earlier has a lower leaf
earlier : (a : Account) (x y i j : ℕ) → x < y → i < length (delivered_in a x) → delivered_below a x + i < delivered_below a y + j
unfolding delivered_below
earlier a x y i j lt within =
    let n : ℕ = y - suc x in
    let is : suc x + n ≡ y = omega (arith, lt) in
    let more : delivered_below a (suc x) ≤ delivered_below a y = subst (λ k. delivered_below a (suc x) ≤ delivered_below a k) is (below-more a (suc x) n) in
    omega (arith, more, within)

pub same-place : {A : Type 0} (before before' : List A) (at at' : A) (xs' ys' : List A) → before ++ at ∷ xs' ≡ before' ++ at' ∷ ys'
    → length before ≡ length before' → (before ≡ before') × (at ≡ at')
same-place [] [] at at' xs' ys' e long = (refl, head at at' xs' ys' e)
  where
    head : {A : Type 0} (x y : A) (xs ys : List A) → x ∷ xs ≡ y ∷ ys → x ≡ y
    head x y xs ys e = cc
same-place [] (b ∷ bs) at at' xs' ys' e long = absurd (omega (arith, long))
same-place (b ∷ bs) [] at at' xs' ys' e long = absurd (omega (arith, long))
same-place (b ∷ bs) (d ∷ ds) at at' xs' ys' e long =
    let rest = same-place bs ds at at' xs' ys' (tail b d (bs ++ at ∷ xs') (ds ++ at' ∷ ys') e) (omega (arith, long)) in
    let first = head b d (bs ++ at ∷ xs') (ds ++ at' ∷ ys') e in
    ((λ i. first i ∷ rest.0 i), rest.1)
  where
    head : {A : Type 0} (x y : A) (xs ys : List A) → x ∷ xs ≡ y ∷ ys → x ≡ y
    head x y xs ys e = cc

    tail : {A : Type 0} (x y : A) (xs ys : List A) → x ∷ xs ≡ y ∷ ys → xs ≡ ys
    tail x y xs ys e = cc

module _ (a : Account) (b b' : Beginning) (leaf : ℕ) (r s : Reply) (one : Replies a b leaf r) (two : Replies a b' leaf s) where
  within : {ds : List Delivered} (at : IsDeliveredHere ds) → length at.before < length ds
  within {ds} at =
      let long = ap length at.parts in
      let parts = length-append at.before (at.at ∷ at.behind) in
      omega (arith, long, parts)

  view-is : r.view ≡ s.view
  view-is = go (compared r.view s.view)
    where
      go : Compared r.view s.view → r.view ≡ s.view
      go (ahead lt) = absurd
          (let a' = earlier a r.view s.view (length one.delivery.before) (length two.delivery.before) lt (within one.delivery) in
          let p = one.leaf_is in let q = two.leaf_is in omega (arith, a', p, q))
      go (level e) = e
      go (behind lt) = absurd
          (let a' = earlier a s.view r.view (length two.delivery.before) (length one.delivery.before) lt (within two.delivery) in
          let p = one.leaf_is in let q = two.leaf_is in omega (arith, a', p, q))

  before-long : length one.delivery.before ≡ length two.delivery.before
  before-long =
      let p = one.leaf_is in
      let q = two.leaf_is in
      let same : delivered_below a r.view ≡ delivered_below a s.view = ap (delivered_below a) view-is in
      omega (arith, p, q, same)

  places : (one.delivery.before ≡ two.delivery.before) × (one.delivery.at ≡ two.delivery.at)
  places = same-place one.delivery.before two.delivery.before one.delivery.at two.delivery.at one.delivery.behind two.delivery.behind
      (sym one.delivery.parts ∙ ap (delivered_in a) view-is ∙ two.delivery.parts) before-long

  -- with the same store before the view, the bodies are one
  pub one-body : (group : List ℕ) → store_at a b r.view ≡ store_at a b' s.view → reply_body group r ≡ reply_body group s
  unfolding reply_body
  one-body group store =
      let signer : r.signer ≡ s.signer = one.signer ∙ sym two.signer in
      let place : r.place ≡ s.place = one.place ∙ ap (λ (d : Delivered). d.place) places.1 ∙ sym two.place in
      let position : r.position ≡ s.position =
      one.position ∙ (λ i. length (at_place (places.1 i).place (places.0 i))) ∙ sym two.position in
      let payload : r.payload ≡ s.payload = one.payload ∙ ap (λ (d : Delivered). d.payload) places.1 ∙ sym two.payload in
      let answer : r.answer ≡ s.answer =
      one.answer ∙ (λ i. answer_to (store_after (store i) (payloads_of (places.0 i))) (places.1 i).payload) ∙ sym two.answer in
      λ i. reply_body group (record {
        signer = signer i;
        view = view-is i;
        place = place i;
        position = position i;
        payload = payload i;
        answer = answer i;
        signature = [];
      })

pub one_body_per_leaf : OneBodyPerLeaf
one_body_per_leaf group a b leaf r s one two =
    one-body a b b leaf r s one two group (ap (store_at a b) (view-is a b b leaf r s one two))

module _ (sv : Services) (premises : ServicePremises sv) where
  abbrev f : Family
  f = sv.family

  abbrev group_ : Group
  group_ = group_of (accounts sv.family)

  module _ (group : List ℕ) (c : Correct) (m : Mem c f.correct) where
    abbrev mine : Account
    mine = account_of (end_of f.setting c)

    reply-once : (leaf : ℕ) (r s : Reply) → MadeReply sv (end_of f.setting c) leaf r → MadeReply sv (end_of f.setting c) leaf s
        → reply_body group r ≡ reply_body group s
    reply-once leaf r s one two =
        let x : r.view ≡ s.view = view-is mine one.beginning two.beginning leaf r s one.replies two.replies in
        one-body mine one.beginning two.beginning leaf r s one.replies two.replies group
        (store-is f premises.family c m one.beginning (right sv premises c m one.beginning one.from) r.view one.replies.holds
        ∙ ap (store_below group_) x
        ∙ sym (store-is f premises.family c m two.beginning (right sv premises c m two.beginning two.from) s.view two.replies.holds))

    begun : (r : StateRecord) (one : MadeState sv (end_of f.setting c) r) → Begins sv (end_of f.setting c).me one.beginning
    begun r one = go one.from
      where
        go : (one.beginning ≡ genesis) ⊎ (TookIn sv (end_of f.setting c).me one.beginning × (one.beginning.view < r.view))
            → Begins sv (end_of f.setting c).me one.beginning
        go (inl is) = inl is
        go (inr took) = inr took.0

    state-once : (r s : StateRecord) → MadeState sv (end_of f.setting c) r → MadeState sv (end_of f.setting c) s → r.view ≡ s.view
        → state_body group r ≡ state_body group s
    unfolding state_body
    state-once r s one two x =
        let signer : r.signer ≡ s.signer = one.gives.signer ∙ sym two.gives.signer in
        let store : store_at mine one.beginning r.view ≡ store_at mine two.beginning s.view =
        store-is f premises.family c m one.beginning (right sv premises c m one.beginning (begun r one)) r.view one.gives.holds
        ∙ ap (store_below group_) x
        ∙ sym (store-is f premises.family c m two.beginning (right sv premises c m two.beginning (begun s two)) s.view two.gives.holds) in
        let state : r.state ≡ s.state = one.gives.state ∙ ap store_bytes store ∙ sym two.gives.state in
        λ i. state_body group (record { signer = signer i; view = x i; state = state i; signature = [] })

pub one_reply_per_leaf : OneReplyPerLeaf
one_reply_per_leaf sv group premises =
    mem-All (λ p. (leaf : ℕ) (r s : Reply) → MadeReply sv p leaf r → MadeReply sv p leaf s → reply_body group r ≡ reply_body group s) (ends sv.family)
    (λ p there leaf r s one two.
    let c = map-mem (end_of sv.family.setting) sv.family.correct p there in
    reply-once sv premises group c.0 c.1 leaf r s (subst (λ (q : Process). MadeReply sv q leaf r) (sym c.2) one)
    (subst (λ (q : Process). MadeReply sv q leaf s) (sym c.2) two))

pub one_state_per_leaf : OneStatePerLeaf
one_state_per_leaf sv group premises =
    mem-All (λ p. (r s : StateRecord) → MadeState sv p r → MadeState sv p s → r.view ≡ s.view → state_body group r ≡ state_body group s) (ends sv.family)
    (λ p there r s one two x.
    let c = map-mem (end_of sv.family.setting) sv.family.correct p there in
    state-once sv premises group c.0 c.1 r s (subst (λ (q : Process). MadeState sv q r) (sym c.2) one)
    (subst (λ (q : Process). MadeState sv q s) (sym c.2) two) x)
