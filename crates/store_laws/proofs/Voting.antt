-- What a client accepts, by what members vouch for.
use Rattle.std.proofs.Common.{◌≡◌, ◌⊎◌, inl, inr, ℕ, ◌<◌, ◌≤◌, List, [], ◌∷◌, ◌++◌, map, length, Option, Some, None, Bool, true, false, refl, sym, ap, ◌∙◌, subst, arith}
use Rattle.std.specs.Prelude.{if◌then◌else◌, ◌&&◌, ◌||◌, ◌==◌, not, nat_lt, filter, count_by}
use Rattle.std.specs.List.{list_any}
use Rattle.std.specs.Option.{unwrap_or}
use Rattle.std.proofs.lemmas.Bool.{eqb-true, eq-eqb, ltb-true, ltb-false, lt-ltb}
use Rattle.std.proofs.lemmas.List.Folds.{list_any-append}
use Rattle.byte_defs.specs.Choices.{first_that_holds}
use Rattle.byte_defs.specs.Orders.{least, numbers_below}
use Rattle.group_defs.specs.Views.{View, faulty, is_member}
use Rattle.pool_laws.proofs.Members.{Mem, filter-mem, list_any-mem, mem-filter, mem-map, none-in}
use Rattle.pool_laws.proofs.Tests.{and-first, and-second, none-some, or-cases}
use Rattle.rule_laws.proofs.Choosing.{least-some}
use Rattle.rule_laws.proofs.LeastIsDue.{least-mem, least-not-below}
use Rattle.store_defs.specs.declared.Offer.{Offer}
use Rattle.store_defs.specs.declared.Offer.TheVariants.{OtherRequest, Stranger, Unsigned, Known, Counted}
use Rattle.store_defs.specs.Records.{Reply}
use Rattle.store_defs.specs.Votes.{Valid, Content, Vote, content_of, content_numbers, same_content, is_asked, is_signed, is_enough, has_given, new_vote, offer, offered, voters, vote_after, with_reply, accepted}
use Rattle.store_defs.specs.Laws.{vouches, vouchers, accepted_of, AcceptsExactly, VotesExactly}
use Rattle.store_laws.proofs.Maps.{same-is, is-same}
use Rattle.store_laws.proofs.Tests.{absorbed, and-none, count-agree, false-true, mem-has, or-assoc, or-none, or-second, some-passes, unless}

-- ---- contents

head-is : (a b : ℕ) (xs ys : List ℕ) → a ∷ xs ≡ b ∷ ys → a ≡ b
head-is a b xs ys e = cc

tail-is : (a b : ℕ) (xs ys : List ℕ) → a ∷ xs ≡ b ∷ ys → xs ≡ ys
tail-is a b xs ys e = cc

pub content-is : (c d : Content) → same_content c d ≡ true → c ≡ d
content-is c d e =
    let whole = same-is (content_numbers c) (content_numbers d) e in
    let place = head-is c.place d.place (c.position ∷ c.answer) (d.position ∷ d.answer) whole in
    let rest = tail-is c.place d.place (c.position ∷ c.answer) (d.position ∷ d.answer) whole in
    let position = head-is c.position d.position c.answer d.answer rest in
    let answer = tail-is c.position d.position c.answer d.answer rest in
    λ i. record { place = place i; position = position i; answer = answer i }

pub is-content : (c : Content) → same_content c c ≡ true
is-content c = is-same (content_numbers c) (content_numbers c) refl

-- ---- one reply

-- the first of the four tests that holds
abbrev judged : Bool → Bool → Bool → Bool → Offer
judged asked member signed known = unwrap_or
    (first_that_holds ((not asked, OtherRequest) ∷ (not member, Stranger) ∷ (not signed, Unsigned) ∷ (known, Known) ∷ [])) Counted

module _ (valid : Valid) (group : List ℕ) (keys : ℕ → Option (List ℕ)) where
  abbrev fits : View → List ℕ → Content → ℕ → Reply → Bool
  fits v payload c m r = (r.signer == m) && (is_asked v payload r && (is_signed valid group (keys m) r && same_content c (content_of r)))

  module _ (vote : Vote) (r : Reply) (c : Content) (m : ℕ) (member : is_member vote.view m ≡ true) where
    abbrev passes : Bool
    passes = fits vote.view vote.payload c m r

    abbrev known : Bool
    known = has_given vote (content_of r) r.signer

    Given : Offer → Type 0
    Given o = has_given (with_reply vote r o) c m ≡ (has_given vote c m || passes)

    signer-is : passes ≡ true → r.signer ≡ m
    signer-is e = eqb-true r.signer m (and-first (r.signer == m) _ e)

    asked-is : passes ≡ true → is_asked vote.view vote.payload r ≡ true
    asked-is e = and-first (is_asked vote.view vote.payload r) _ (and-second (r.signer == m) _ e)

    rest-is : passes ≡ true → (is_signed valid group (keys m) r && same_content c (content_of r)) ≡ true
    rest-is e = and-second (is_asked vote.view vote.payload r) _ (and-second (r.signer == m) _ e)

    -- a reply that does not count changes nothing
    refused : (passes ≡ true → has_given vote c m ≡ true) → has_given vote c m ≡ (has_given vote c m || passes)
    refused h = absorbed (has_given vote c m) passes h

    -- one that counts is given
    counts : is_asked vote.view vote.payload r ≡ true → is_signed valid group (keys r.signer) r ≡ true
        → list_any (λ g. (g.0 == m) && same_content c g.1) (vote.counted ++ (r.signer, content_of r) ∷ []) ≡ (has_given vote c m || passes)
    counts asked signed =
        list_any-append (λ (g : ℕ × Content). (g.0 == m) && same_content c g.1) vote.counted ((r.signer, content_of r) ∷ [])
        ∙ ap (λ b. has_given vote c m || b) (or-none ((r.signer == m) && same_content c (content_of r)) ∙ same (r.signer == m) refl)
      where
        same : (b : Bool) → (r.signer == m) ≡ b
            → (b && same_content c (content_of r))
            ≡ (b && (is_asked vote.view vote.payload r && (is_signed valid group (keys m) r && same_content c (content_of r))))
        same false is = refl
        same true is =
            let its : is_signed valid group (keys m) r ≡ true = subst (λ n. is_signed valid group (keys n) r ≡ true) (eqb-true r.signer m is) signed in
            λ i. sym asked i && (sym its i && same_content c (content_of r))

    judge : (a b s k : Bool) → is_asked vote.view vote.payload r ≡ a → is_member vote.view r.signer ≡ b
        → is_signed valid group (keys r.signer) r ≡ s → known ≡ k → Given (judged a b s k)
    unfolding Given
    judge false b s k asked of_view signed k_is = refused (λ e. absurd (false-true asked (asked-is e)))
    judge true false s k asked of_view signed k_is = refused (λ e. absurd
        (false-true of_view (subst (λ n. is_member vote.view n ≡ true) (sym (signer-is e)) member)))
    judge true true false k asked of_view signed k_is = refused (λ e. absurd
        (false-true signed
        (subst (λ n. is_signed valid group (keys n) r ≡ true) (sym (signer-is e)) (and-first (is_signed valid group (keys m) r) _ (rest-is e)))))
    judge true true true true asked of_view signed k_is = refused (λ e.
        subst (λ n. has_given vote c n ≡ true) (signer-is e)
        (subst (λ d. has_given vote d r.signer ≡ true)
        (sym (content-is c (content_of r) (and-second (is_signed valid group (keys m) r) _ (rest-is e)))) k_is))
    judge true true true false asked of_view signed k_is = counts asked signed

    one : has_given (offered valid group keys vote r) c m ≡ (has_given vote c m || passes)
    unfolding offer Given
    one = judge (is_asked vote.view vote.payload r) (is_member vote.view r.signer) (is_signed valid group (keys r.signer) r) known refl refl refl refl

  -- what a vote is about stays
  view-stays : (vote : Vote) (r : Reply) (o : Offer) → (with_reply vote r o).view ≡ vote.view
  view-stays vote r OtherRequest = refl
  view-stays vote r Stranger = refl
  view-stays vote r Unsigned = refl
  view-stays vote r Known = refl
  view-stays vote r Counted = refl

  payload-stays : (vote : Vote) (r : Reply) (o : Offer) → (with_reply vote r o).payload ≡ vote.payload
  payload-stays vote r OtherRequest = refl
  payload-stays vote r Stranger = refl
  payload-stays vote r Unsigned = refl
  payload-stays vote r Known = refl
  payload-stays vote r Counted = refl

  pub view-after : (rs : List Reply) (vote : Vote) → (vote_after valid group keys vote rs).view ≡ vote.view
  unfolding vote_after
  view-after [] vote = refl
  view-after (r ∷ rs) vote =
      view-after rs (offered valid group keys vote r) ∙ view-stays vote r (offer valid group (keys r.signer) vote r)

  pub given-after : (rs : List Reply) (vote : Vote) (c : Content) (m : ℕ) → is_member vote.view m ≡ true
      → has_given (vote_after valid group keys vote rs) c m ≡ (has_given vote c m || vouches valid group keys vote.view vote.payload rs c m)
  unfolding vote_after
  given-after [] vote c m member = sym (or-none (has_given vote c m))
  given-after (r ∷ rs) vote c m member =
      let next : Vote = offered valid group keys vote r in
      let same_view : next.view ≡ vote.view = view-stays vote r (offer valid group (keys r.signer) vote r) in
      let same_payload : next.payload ≡ vote.payload = payload-stays vote r (offer valid group (keys r.signer) vote r) in
      let rest = given-after rs next c m (subst (λ v. is_member v m ≡ true) (sym same_view) member) in
      rest
      ∙ (λ i. has_given next c m || vouches valid group keys (same_view i) (same_payload i) rs c m)
      ∙ ap (λ b. b || vouches valid group keys vote.view vote.payload rs c m) (one vote r c m member)
      ∙ or-assoc (has_given vote c m) (fits vote.view vote.payload c m r) (vouches valid group keys vote.view vote.payload rs c m)

  -- ---- all replies

  module _ (v : View) (payload : List ℕ) (rs : List Reply) where
    abbrev final : Vote
    final = vote_after valid group keys (new_vote v payload) rs

    abbrev given : List Content
    given = map (λ (g : ℕ × Content). g.1) final.counted

    abbrev enough : List Content
    enough = filter (is_enough final) given

    same-view : final.view ≡ v
    same-view = view-after rs (new_vote v payload)

    voters-is : (c : Content) → voters final c ≡ vouchers valid group keys v payload rs c
    voters-is c =
        ap (λ (w : View). count_by (has_given final c) w.members) same-view
        ∙ count-agree (has_given final c) (vouches valid group keys v payload rs c) v.members
        (λ m there. given-after rs (new_vote v payload) c m (mem-has v.members m there))

    few-is : faulty (length final.view.members) ≡ faulty (length v.members)
    few-is = ap (λ (w : View). faulty (length w.members)) same-view

    is-enough : (c : Content) → is_enough final c ≡ true → faulty (length v.members) < vouchers valid group keys v payload rs c
    is-enough c e = subst (λ n. n < vouchers valid group keys v payload rs c) few-is
        (subst (λ n. faulty (length final.view.members) < n) (voters-is c) (ltb-true _ _ e))

    -- who is enough was given
    enough-mem : (c : Content) → faulty (length v.members) < vouchers valid group keys v payload rs c → Mem c enough
    enough-mem c lt =
        let many : faulty (length final.view.members) < voters final c = subst (λ n. faulty (length final.view.members) < n) (sym (voters-is c))
        (subst (λ n. n < vouchers valid group keys v payload rs c) (sym few-is) lt) in
        let who = some-passes (has_given final c) final.view.members (faulty (length final.view.members)) many in
        let g = list_any-mem (λ (g : ℕ × Content). (g.0 == who.0) && same_content c g.1) final.counted who.2 in
        let there : Mem c given = subst (λ d. Mem d given) (sym (content-is c g.0.1 (and-second (g.0.0 == who.0) _ g.2)))
        (mem-map (λ (g : ℕ × Content). g.1) final.counted g.0 g.1) in
        mem-filter (is_enough final) given c there (lt-ltb _ _ many)

    nothing : least content_numbers enough ≡ None → (c : Content) → vouchers valid group keys v payload rs c ≤ faulty (length v.members)
    nothing none c = go (nat_lt (faulty (length v.members)) (vouchers valid group keys v payload rs c)) refl
      where
        go : (b : Bool) → nat_lt (faulty (length v.members)) (vouchers valid group keys v payload rs c) ≡ b
            → vouchers valid group keys v payload rs c ≤ faulty (length v.members)
        go true e = absurd (none-some none (least-some content_numbers enough c (enough-mem c (ltb-true _ _ e))).1)
        go false e = ltb-false _ _ e

    no-one : ((c : Content) → vouchers valid group keys v payload rs c ≤ faulty (length v.members)) → least content_numbers enough ≡ None
    no-one few = ap (least content_numbers) (none-in enough (λ c there.
        let lt = is-enough c (filter-mem (is_enough final) given c there).1 in let le = few c in omega (arith, lt, le)))

    pub exactly : AcceptsExactly valid group keys v payload rs
    unfolding accepted
    exactly = record {
      none = (nothing, no-one);
      enough = λ c e. is-enough c (filter-mem (is_enough final) given c (least-mem content_numbers enough c e)).1;
      least = λ c d e lt. least-not-below content_numbers enough c d e (enough-mem d lt);
    }

pub votes_exactly : VotesExactly
votes_exactly valid group keys v payload rs = exactly valid group keys v payload rs
