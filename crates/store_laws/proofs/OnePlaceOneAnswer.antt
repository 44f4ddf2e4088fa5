-- A place and position of a view have one payload and one answer.
use Rattle.std.proofs.Common.{◌≡◌, ◌≢◌, inl, ℕ, suc, ◌+◌, ◌<◌, ◌≤◌, max, List, [], ◌∷◌, ◌++◌, map, length, Some, Bool, true, refl, sym, ap, ◌∙◌, subst, append_assoc, arith, slice_get}
use Rattle.std.specs.Prelude.{◌==◌, if◌then◌else◌, filter, fold, All}
use Rattle.std.proofs.lemmas.Bool.{eq-eqb}
use Rattle.std.proofs.lemmas.List.{length-map, map-append}
use Rattle.std.proofs.lemmas.List.Elements.{filter-append}
use Rattle.message_defs.specs.Statements.{Message}
use Rattle.group_defs.specs.Process.{Letter, Delivered, letter_of, places_in, without_places}
use Rattle.group_defs.specs.Accounts.{Account, HaveSameBatches, IsPrefixOf, Sound, account_of, at_place, batch_at, delivered_in, group_of}
use Rattle.group_defs.specs.Process.{keyed}
use Rattle.group_defs.specs.Family.{Family, accounts}
use Rattle.group_defs.specs.Laws.{Premises}
use Rattle.pool_laws.proofs.Counting.{fold-max}
use Rattle.pool_laws.proofs.Members.{All-mem, Contains-mem, Mem, mem-behind}
use Rattle.pool_laws.proofs.Places.{Compared, ahead, all-pairs, behind, compared, level, slice_get-front, slice_get-last}
use Rattle.pool_laws.proofs.Tests.{some-same}
use Rattle.safety_laws.proofs.OwnPayloads.{cause_and_order}
use Rattle.store_defs.specs.Stores.{answer_to, store_after}
use Rattle.store_defs.specs.Votes.{Content}
use Rattle.store_defs.specs.Holding.{IsDeliveredHere, payloads_of, payloads_in, store_below}
use Rattle.store_defs.specs.Laws.{IsAnswerOf, OneAnswer}
use Rattle.store_laws.proofs.Holding.{same-payloads}
use Rattle.store_laws.proofs.Leaves.{same-place}

-- what stands behind so many others
at-end : {A : Type 0} (xs : List A) (x : A) (ys : List A) → slice_get (xs ++ x ∷ ys) (length xs) ≡ Some x
at-end xs x ys = subst (λ zs. slice_get zs (length xs) ≡ Some x) (append_assoc xs (x ∷ []) ys)
    (slice_get-front (xs ++ x ∷ []) ys (length xs) x (slice_get-last xs x (length xs) refl))

module _ (ds : List Delivered) (s : IsDeliveredHere ds) where
  below-places : s.at.place < places_in ds
  below-places =
      let there : Mem s.at ds = subst (Mem s.at) (sym s.parts) (mem-behind s.before (s.at ∷ s.behind) s.at (inl refl)) in
      let le = fold-max (λ (d : Delivered). d.place + 1) ds 0 s.at there in
      omega (arith, le)

  -- its message stands in the batch behind those before it
  in-batch : slice_get (batch_at s.at.place ds) (length (at_place s.at.place s.before)) ≡ Some s.at.message
  in-batch =
      let test : Delivered → Bool = λ d. d.place == s.at.place in
      let here : filter test (s.at ∷ s.behind) ≡ s.at ∷ filter test s.behind =
      ap (λ (b : Bool). if b then s.at ∷ filter test s.behind else filter test s.behind) (eq-eqb s.at.place s.at.place refl) in
      let split : at_place s.at.place ds ≡ at_place s.at.place s.before ++ s.at ∷ at_place s.at.place s.behind =
      ap (at_place s.at.place) s.parts ∙ filter-append test s.before (s.at ∷ s.behind) ∙ ap (λ es. at_place s.at.place s.before ++ es) here in
      let named : batch_at s.at.place ds
      ≡ map (λ (d : Delivered). d.message) (at_place s.at.place s.before) ++ s.at.message ∷ batch_at s.at.place s.behind =
      ap (map (λ (d : Delivered). d.message)) split
      ∙ map-append (λ (d : Delivered). d.message) (at_place s.at.place s.before) (s.at ∷ at_place s.at.place s.behind) in
      subst (λ n. slice_get (batch_at s.at.place ds) n ≡ Some s.at.message) (length-map (at_place s.at.place s.before) (λ (d : Delivered). d.message))
      (subst (λ ms. slice_get ms (length (map (λ (d : Delivered). d.message) (at_place s.at.place s.before))) ≡ Some s.at.message) (sym named)
      (at-end (map (λ (d : Delivered). d.message) (at_place s.at.place s.before)) s.at.message (batch_at s.at.place s.behind)))

-- a sequence of letters that holds these in front
module _ (before : List Delivered) (at : Delivered) (sequence : List Letter) (front : IsPrefixOf (without_places (before ++ at ∷ [])) sequence) where
  pub letters : without_places before ++ letter_of at ∷ front.0 ≡ sequence
  letters =
      sym (append_assoc (without_places before) (letter_of at ∷ []) front.0)
      ∙ ap (λ ls. ls ++ front.0) (sym (map-append letter_of before (at ∷ [])))
      ∙ front.1

module _ (f : Family) (x : ℕ) (payload other : List ℕ) (c d : Content) (premises : Premises f) (one : IsAnswerOf (accounts f) x payload c)
    (two : IsAnswerOf (accounts f) x other d) (place : c.place ≡ d.place) (position : c.position ≡ d.position) where
  abbrev sequence : List Letter
  sequence = (group_of (accounts f)).sequence x

  sound : Sound (accounts f) (keyed f.setting)
  sound = cause_and_order f premises

  places-is : one.delivery.at.place ≡ two.delivery.at.place
  places-is = sym one.place ∙ place ∙ two.place

  batches : HaveSameBatches (delivered_in one.by x) (delivered_in two.by x)
  batches = All-mem (λ (b : Account). (x : ℕ) → HaveSameBatches (delivered_in one.by x) (delivered_in b x)) (accounts f) two.by
      (All-mem (λ (a : Account). All (λ b. (x : ℕ) → HaveSameBatches (delivered_in a x) (delivered_in b x)) (accounts f)) (accounts f) one.by
      sound.placed.same (Contains-mem (accounts f) one.by one.correct)) (Contains-mem (accounts f) two.by two.correct) x

  same-message : one.delivery.at.message ≡ two.delivery.at.message
  same-message =
      let mine = in-batch (delivered_in one.by x) one.delivery in
      let its = in-batch (delivered_in two.by x) two.delivery in
      let lt : one.delivery.at.place < places_in (delivered_in two.by x) =
      subst (λ k. k < places_in (delivered_in two.by x)) (sym places-is) (below-places (delivered_in two.by x) two.delivery) in
      let same = batches one.delivery.at.place (below-places (delivered_in one.by x) one.delivery) lt in
      let index : length (at_place one.delivery.at.place one.delivery.before) ≡ length (at_place two.delivery.at.place two.delivery.before) =
      sym one.position ∙ position ∙ two.position in
      some-same one.delivery.at.message two.delivery.at.message
      (sym mine
      ∙ (λ i. slice_get (same i) (index i))
      ∙ ap (λ k. slice_get (batch_at k (delivered_in two.by x)) (length (at_place two.delivery.at.place two.delivery.before))) places-is
      ∙ its)

  first-letters : without_places one.delivery.before ++ letter_of one.delivery.at ∷ one.front.0 ≡ sequence
  first-letters = letters one.delivery.before one.delivery.at sequence one.front

  second-letters : without_places two.delivery.before ++ letter_of two.delivery.at ∷ two.front.0 ≡ sequence
  second-letters = letters two.delivery.before two.delivery.at sequence two.front

  first-at : slice_get sequence (length (without_places one.delivery.before)) ≡ Some (letter_of one.delivery.at)
  first-at = subst (λ ls. slice_get ls (length (without_places one.delivery.before)) ≡ Some (letter_of one.delivery.at)) first-letters
      (at-end (without_places one.delivery.before) (letter_of one.delivery.at) one.front.0)

  second-at : slice_get sequence (length (without_places two.delivery.before)) ≡ Some (letter_of two.delivery.at)
  second-at = subst (λ ls. slice_get ls (length (without_places two.delivery.before)) ≡ Some (letter_of two.delivery.at)) second-letters
      (at-end (without_places two.delivery.before) (letter_of two.delivery.at) two.front.0)

  same-length : length (without_places one.delivery.before) ≡ length (without_places two.delivery.before)
  same-length = go (compared (length (without_places one.delivery.before)) (length (without_places two.delivery.before)))
    where
      once : (i j : ℕ) (a b : Letter) → i < j → slice_get sequence i ≡ Some a → slice_get sequence j ≡ Some b → a.message ≢ b.message
      once = all-pairs (λ (a b : Letter). a.message ≢ b.message) sequence (sound.once x)

      go : Compared (length (without_places one.delivery.before)) (length (without_places two.delivery.before))
          → length (without_places one.delivery.before) ≡ length (without_places two.delivery.before)
      go (ahead lt) = absurd (once _ _ (letter_of one.delivery.at) (letter_of two.delivery.at) lt first-at second-at same-message)
      go (level e) = e
      go (behind lt) = absurd (once _ _ (letter_of two.delivery.at) (letter_of one.delivery.at) lt second-at first-at (sym same-message))

  same : (without_places one.delivery.before ≡ without_places two.delivery.before) × (letter_of one.delivery.at ≡ letter_of two.delivery.at)
  same = same-place (without_places one.delivery.before) (without_places two.delivery.before) (letter_of one.delivery.at) (letter_of two.delivery.at)
      one.front.0 two.front.0 (first-letters ∙ sym second-letters) same-length

  pub payload-is : payload ≡ other
  payload-is = one.payload_is ∙ ap (λ (l : Letter). l.payload) same.1 ∙ sym two.payload_is

  payloads-is : payloads_of one.delivery.before ≡ payloads_of two.delivery.before
  payloads-is = sym (same-payloads one.delivery.before) ∙ ap payloads_in same.0 ∙ same-payloads two.delivery.before

  pub answer-is : c.answer ≡ d.answer
  answer-is = one.answer ∙ (λ i. answer_to (store_after (store_below (group_of (accounts f)) x) (payloads-is i)) (payload-is i)) ∙ sym two.answer

pub one_answer : OneAnswer
one_answer f x payload other c d premises one two place position = (
  payload-is f x payload other c d premises one two place position,
  answer-is f x payload other c d premises one two place position,
)
