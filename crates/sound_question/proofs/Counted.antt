-- The numbers of each sender are in order exactly where each number is how many messages of its sender stand before it.
use Rattle.std.proofs.Common.{◌≡◌, inl, inr, get_or, set, ◌<◌, ℕ, suc, ◌+◌, List, [], ◌∷◌, ◌++◌, map, length, take, Some, Bool, true, false, refl, sym, ap, ◌∙◌, subst, arith, slice_get}
use Rattle.std.specs.Prelude.{◌==◌, if◌then◌else◌}
use Rattle.std.specs.List.{list_all, range_with_len}
use Rattle.std.proofs.lemmas.Bool.{cases_eq, eqb-true, eq-eqb, ne_eqb}
use Rattle.std.proofs.lemmas.List.{append-nil, get_or-set_other, get_or-set_same, length-append, length-set, map-append, take_at}
use Rattle.std.proofs.lemmas.List.Elements.{filter-append}
use Rattle.group_defs.specs.Process.{Letter}
use Rattle.group_defs.specs.Accounts.{of_sender, is_in_order}
use Rattle.safety_laws.proofs.SoundTested.{InOrder, numbers_of, order-there}
use Rattle.pool_laws.proofs.Places.{filter-at, map-get, range-get}
use Rattle.sound_question.proofs.Lists.{get-behind, range-more}

-- how many messages of the sender there are
abbrev pub counted : ℕ → List Letter → ℕ
counted sender ds = length (of_sender sender ds)

abbrev from : ℕ → Letter → Bool
from sender d = d.message.sender == sender

pub counts-more : (ds : List Letter) (d : Letter) (sender : ℕ) (b : Bool) → (d.message.sender == sender) ≡ b
    → counted sender (ds ++ d ∷ []) ≡ (if b then counted sender ds + 1 else counted sender ds)
counts-more ds d sender b is = ap length (filter-append (from sender) ds (d ∷ [])) ∙ go b is
  where
    go : (b : Bool) → (d.message.sender == sender) ≡ b
        → length (of_sender sender ds ++ (if d.message.sender == sender then d ∷ [] else []))
        ≡ (if b then counted sender ds + 1 else counted sender ds)
    go true is = rw is (length-append (of_sender sender ds) (d ∷ []))
    go false is = rw is (ap length (append-nil (of_sender sender ds)))

-- a message that has the number of its sender that comes next goes behind
pub order-more : (ds : List Letter) (d : Letter) → InOrder ds → d.message.number ≡ counted d.message.sender ds → InOrder (ds ++ d ∷ [])
order-more ds d order number sender = go (d.message.sender == sender) refl
  where
    go : (b : Bool) → (d.message.sender == sender) ≡ b
        → numbers_of sender (ds ++ d ∷ []) ≡ range_with_len 0 (length (of_sender sender (ds ++ d ∷ [])))
    go true is =
        let all : of_sender sender (ds ++ d ∷ []) ≡ of_sender sender ds
        ++ d ∷ [] = filter-append (from sender) ds (d ∷ []) ∙ ap (λ (b : Bool). of_sender sender ds ++ (if b then d ∷ [] else [])) is in
        let so_many : counted sender ds ≡ 0 + counted sender ds = omega arith in
        let next : d.message.number ≡ 0 + counted sender ds = number ∙ ap (λ s. counted s ds)
        (eqb-true d.message.sender sender is) ∙ so_many in
        let long : length (of_sender sender ds ++ d ∷ [])
        ≡ suc (counted sender ds) = length-append (of_sender sender ds)
        (d ∷ []) ∙ (let e : counted sender ds + 1 ≡ suc (counted sender ds) = omega arith in e) in
        ap (map (λ (d : Letter). d.message.number)) all ∙ map-append (λ (d : Letter). d.message.number) (of_sender sender ds) (d ∷ [])
        ∙ (λ i. order sender i ++ next i ∷ [])
        ∙ sym (range-more 0 (counted sender ds))
        ∙ ap (range_with_len 0) (sym (ap length all ∙ long))
    go false is =
        let all : of_sender sender (ds ++ d ∷ [])
        ≡ of_sender sender ds = filter-append (from sender) ds (d ∷ []) ∙ ap
        (λ (b : Bool). of_sender sender ds ++ (if b then d ∷ [] else [])) is ∙ append-nil (of_sender sender ds) in
        ap (map (λ (d : Letter). d.message.number)) all ∙ order sender ∙ ap (range_with_len 0) (sym (ap length all))

-- in order, each number is how many messages of its sender stand before it
order-number : (ds : List Letter) (d : Letter) (more : List Letter) → InOrder (ds ++ d ∷ more)
    → d.message.number ≡ counted d.message.sender ds
order-number ds d more order =
    let sender : ℕ = d.message.sender in
    let all : List Letter = ds ++ d ∷ more in
    let before : take (length ds) all ≡ ds = take_at ds (d ∷ more) (length ds) refl in
    let there : slice_get (of_sender sender all) (length (of_sender sender (take (length ds) all)))
    ≡ Some d = filter-at (from sender) all (length ds) d (get-behind ds d more) (eq-eqb sender sender refl) in
    let number = map-get (λ (d : Letter). d.message.number) (of_sender sender all)
    (length (of_sender sender (take (length ds) all))) d there in
    let plain : 0 + counted sender (take (length ds) all) ≡ counted sender (take (length ds) all) = omega arith in
    range-get 0 (length (of_sender sender all))
    (length (of_sender sender (take (length ds) all))) d.message.number
    (ap (λ ns. slice_get ns (length (of_sender sender (take (length ds) all)))) (sym (order sender)) ∙ number)
    ∙ plain
    ∙ ap (counted sender) before

is-false : (b : Bool) → (b ≡ true → ⊥) → false ≡ b
is-false true no' = absurd (no' refl)
is-false false no' = refl

-- so another number stands out of order
pub out-of-order : (all ds : List Letter) (d : Letter) (more : List Letter) → all ≡ ds ++ d ∷ more
    → (d.message.number ≡ counted d.message.sender ds → ⊥) → false ≡ list_all (λ d. is_in_order all d.message.sender) all
out-of-order all ds d more is differs = is-false (list_all (λ d. is_in_order all d.message.sender) all)
    (λ e. differs (order-number ds d more (subst InOrder is (order-there all e))))

-- ---- of a loop that counts

-- The messages so far are in order, and the counts say how many there are of each sender
pub record IsCounted (counts : List ℕ) (ds : List Letter) : Type 0 where
  pub all : length counts ≡ 64
  pub counts_are : (sender : ℕ) → sender < 64 → get_or counts sender 0 ≡ counted sender ds
  pub order : InOrder ds

pub none-counted : (counts : List ℕ) → length counts ≡ 64 → ((sender : ℕ) → sender < 64 → get_or counts sender 0 ≡ 0) → IsCounted counts []
none-counted counts all zeros = record { all = all; counts_are = zeros; order = λ sender. refl }

pub counts-on : (counts : List ℕ) (ds : List Letter) (d : Letter) (n : ℕ) → d.message.sender < 64 → IsCounted counts ds
    → get_or counts d.message.sender 0 ≡ d.message.number → n ≡ d.message.number + 1
    → IsCounted (set counts d.message.sender n) (ds ++ d ∷ [])
counts-on counts ds d n below c number is =
    let all = c.all in
    let mine : d.message.number ≡ counted d.message.sender ds = sym number ∙ c.counts_are d.message.sender below in
    record {
      all = length-set counts d.message.sender n ∙ all;
      counts_are = λ sender lt. elim (cases_eq sender d.message.sender) [
        | inl here ↦
            ap (λ s. get_or (set counts d.message.sender n) s 0) here ∙ get_or-set_same counts d.message.sender n 0
            (omega (arith, below, all)) ∙ is
            ∙ ap (λ k. k + 1) (mine ∙ ap (λ s. counted s ds) (sym here)) ∙ sym
            (counts-more ds d sender true (eq-eqb d.message.sender sender (sym here)))
        | inr other ↦
            get_or-set_other counts d.message.sender sender n 0 other ∙ c.counts_are sender lt ∙ sym
            (counts-more ds d sender false (ne_eqb d.message.sender sender (λ e. other (sym e))))
      ];
      order = order-more ds d c.order mine;
    }
