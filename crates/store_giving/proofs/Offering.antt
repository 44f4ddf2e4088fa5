-- What becomes of a state that is offered, case by case.
use Rattle.std.proofs.Common.{◌≡◌, ℕ, List, [], ◌∷◌, Option, Bool, true, false, refl, ap, ◌∙◌, Ok, Err}
use Rattle.std.specs.Prelude.{if◌then◌else◌, ◌||◌, not, is_some}
use Rattle.std.specs.Option.{unwrap_or}
use Rattle.byte_defs.specs.Choices.{first_that_holds}
use Rattle.group_defs.specs.Views.{is_member}
use Rattle.store_defs.specs.declared.Taken.{Taken}
use Rattle.store_defs.specs.declared.Taken.TheVariants as taken
use Rattle.store_defs.specs.Records.{StateRecord, state_record_of}
use Rattle.store_defs.specs.Serving.{Grammar, Held, OfferWord, OtherView, Place, Server, after_offer, after_taken, offer_word, taken_by, word_of_taken}
use Rattle.store_defs.specs.Stores.{Reading, Store}
use Rattle.store_defs.specs.Transfers.{Transfer, with_record}
use Rattle.store_defs.specs.Votes.{Valid}
use Rattle.store_giving.specs.Offers.{ready_store}

module _ (valid : Valid) (q : Place) (here : List (List ℕ)) (s : Server) (bytes : List ℕ) where
  -- the word and the server, of what the bytes are read as
  said : Reading StateRecord → OfferWord
  said r = elim r [
    | Err fault ↦ Grammar
    | Ok r ↦ unwrap_or (first_that_holds (
        (is_some s.store, Held)
        ∷ (not (is_member s.view q.me), OtherView)
        ∷ [])) (word_of_taken (taken_by valid q s r))
  ]

  left : Reading StateRecord → Server
  left r = elim r [
    | Err fault ↦ s
    | Ok r ↦ if is_some s.store || not (is_member s.view q.me) then s else after_taken here s r (taken_by valid q s r)
  ]

  said-is : offer_word valid q s bytes ≡ said (state_record_of bytes)
  unfolding offer_word said
  said-is = refl

  left-is : after_offer valid q here s bytes ≡ left (state_record_of bytes)
  unfolding after_offer left
  left-is = refl

  -- no record
  pub grammar-word : state_record_of bytes ≡ Err tt → offer_word valid q s bytes ≡ Grammar
  unfolding said
  grammar-word none = said-is ∙ ap said none

  pub grammar-after : state_record_of bytes ≡ Err tt → after_offer valid q here s bytes ≡ s
  unfolding left
  grammar-after none = left-is ∙ ap left none

  module _ (r : StateRecord) (read : state_record_of bytes ≡ Ok r) where
    pub held-word : is_some s.store ≡ true → offer_word valid q s bytes ≡ Held
    unfolding said
    held-word holds = said-is ∙ ap said read ∙ go (is_some s.store) holds
      where
        go : (b : Bool) → b ≡ true → unwrap_or (first_that_holds ((b, Held) ∷ (not (is_member s.view q.me), OtherView) ∷ []))
            (word_of_taken (taken_by valid q s r)) ≡ Held
        go true is = refl
        go false is = cc

    pub held-after : is_some s.store ≡ true → after_offer valid q here s bytes ≡ s
    unfolding left
    held-after holds = left-is ∙ ap left read
        ∙ ap (λ (b : Bool). if b || not (is_member s.view q.me) then s else after_taken here s r (taken_by valid q s r)) holds

    pub other-word : is_some s.store ≡ false → is_member s.view q.me ≡ false → offer_word valid q s bytes ≡ OtherView
    unfolding said
    other-word holds member = said-is ∙ ap said read
        ∙ (λ i. unwrap_or (first_that_holds ((holds i, Held) ∷ (not (member i), OtherView) ∷ [])) (word_of_taken (taken_by valid q s r)))

    pub other-after : is_some s.store ≡ false → is_member s.view q.me ≡ false → after_offer valid q here s bytes ≡ s
    unfolding left
    other-after holds member = left-is ∙ ap left read
        ∙ (λ i. if holds i || not (member i) then s else after_taken here s r (taken_by valid q s r))

    pub taken-word : is_some s.store ≡ false → is_member s.view q.me ≡ true
        → offer_word valid q s bytes ≡ word_of_taken (taken_by valid q s r)
    unfolding said
    taken-word holds member = said-is ∙ ap said read
        ∙ (λ i. unwrap_or (first_that_holds ((holds i, Held) ∷ (not (member i), OtherView) ∷ [])) (word_of_taken (taken_by valid q s r)))

    pub taken-after : is_some s.store ≡ false → is_member s.view q.me ≡ true
        → after_offer valid q here s bytes ≡ after_taken here s r (taken_by valid q s r)
    unfolding left
    taken-after holds member = left-is ∙ ap left read
        ∙ (λ i. if holds i || not (member i) then s else after_taken here s r (taken_by valid q s r))

-- the store after what the transfer makes of a state
abbrev pub store_taken : List (List ℕ) → Option Store → Taken → Transfer → Option Store
store_taken here store taken.Ready t = ready_store here t
store_taken here store o t = store

pub taken-parts : (here : List (List ℕ)) (s : Server) (r : StateRecord) (t : Taken)
    → after_taken here s r t
    ≡ record s { store = store_taken here s.store t (with_record s.transfer r t); transfer = with_record s.transfer r t }
taken-parts here s r taken.OtherView = refl
taken-parts here s r taken.Stranger = refl
taken-parts here s r taken.Unsigned = refl
taken-parts here s r taken.Known = refl
taken-parts here s r taken.Ready = refl
taken-parts here s r (taken.Counted n) = refl
