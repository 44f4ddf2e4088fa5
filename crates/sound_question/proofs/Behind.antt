-- Payloads that stand at the front of what was accepted, one list after the other.
use Rattle.std.proofs.Common.{◌≡◌, ℕ, suc, ◌+◌, ◌-◌, ◌<◌, drop, get_or, List, [], ◌∷◌, ◌++◌, map, length, take, Option, Some, None, Bool, true, false, refl, sym, ap, ◌∙◌, arith, append_assoc}
use Rattle.std.specs.Prelude.{◌==◌, MatchOption, flat_map, is_some}
use Rattle.std.proofs.lemmas.List.{append-nil, map-append}
use Rattle.std.specs.List.{range_with_len}
use Rattle.std.proofs.lemmas.Grind.{flat_map-append}
use Rattle.std.proofs.lemmas.List.Elements.{filter-append}
use Rattle.byte_defs.specs.Equality.{is_yes, bytes_discrete}
use Rattle.group_defs.specs.Process.{Letter}
use Rattle.group_defs.specs.Accounts.{IsPrefixOf, of_sender}
use lib.Pointwise.{pointwise}
use Rattle.safety_laws.proofs.AgreeTested.{discrete-decides, is-prefix, prefix-is}
use Rattle.member_events.specs.declared.events.Delivered.{Delivered}
use Rattle.group_questions.specs.Letters.{letters}
use Rattle.sound_question.specs.Parts.{payloads_of}
use Rattle.sound_question.proofs.Lists.{letters-append, range-more, range-split, split-at}

pub payloads-append : (sender : ℕ) (ds es : List Letter) → payloads_of sender (ds ++ es) ≡ payloads_of sender ds ++ payloads_of sender es
payloads-append sender ds es =
    ap (map (λ (d : Letter). d.payload))
    (filter-append (λ (d : Letter). d.message.sender == sender) ds es) ∙ map-append (λ (d : Letter). d.payload) (of_sender sender ds)
    (of_sender sender es)

cancel : {A : Type 0} (xs ys zs : List A) → xs ++ ys ≡ xs ++ zs → ys ≡ zs
cancel [] ys zs e = e
cancel {A} (x ∷ xs) ys zs e = cancel xs ys zs (tail-is (xs ++ ys) (xs ++ zs) e)
  where
    tail-is : (us vs : List A) → x ∷ us ≡ x ∷ vs → us ≡ vs
    tail-is us vs e = cc

pub further : {A : Type 0} (before one left rest all : List A) → before ++ left ≡ all → one ++ rest ≡ left → (before ++ one) ++ rest ≡ all
further before one left rest all so_far next = append_assoc before one rest ∙ ap (λ xs. before ++ xs) next ∙ so_far

pub no-further : {A : Type 0} (before one more left all : List A) → before ++ left ≡ all → (IsPrefixOf one left → ⊥)
    → IsPrefixOf ((before ++ one) ++ more) all → ⊥
no-further before one more left all so_far none p =
    none (
      more ++ p.0,
      cancel before (one ++ (more ++ p.0)) left
          (ap (λ xs. before ++ xs) (sym (append_assoc one more p.0)) ∙ sym (append_assoc before (one ++ more) p.0) ∙ ap (λ xs. xs ++ p.0)
          (sym (append_assoc before one more)) ∙ p.1 ∙ sym so_far),
    )

-- something is left exactly where they stand at the front
pub is-front : {B : Type 0} (now : B → List (List ℕ)) (own all : List (List ℕ)) (r : Option B)
    → MatchOption r (IsPrefixOf own all → ⊥) (λ rest. own ++ now rest ≡ all)
    → is_some r ≡ pointwise (λ b c. is_yes (bytes_discrete b c)) own (take (length own) all)
is-front now own all (Some rest) e = sym
    (is-prefix (λ b c. is_yes (bytes_discrete b c)) (discrete-decides bytes_discrete) own all (now rest, e))
is-front now own all None none = go (pointwise (λ b c. is_yes (bytes_discrete b c)) own (take (length own) all))
    (λ e. none (prefix-is (λ b c. is_yes (bytes_discrete b c)) (discrete-decides bytes_discrete) own all e))
  where
    go : (b : Bool) → (b ≡ true → ⊥) → false ≡ b
    go true no' = absurd (no' refl)
    go false no' = refl

-- ---- of the lists that a loop has seen

module _ (sender : ℕ) (ds : List Delivered) (i : ℕ) (d : Delivered) (lt : i < length ds) (is : d ≡ get_or ds i d) where
  pub payloads-split : payloads_of sender (letters ds)
      ≡ (payloads_of sender (letters (take i ds)) ++ payloads_of sender (letters (d ∷ [])))
      ++ payloads_of sender (letters (drop (i + 1) ds))
  payloads-split =
      ap (λ (es : List Delivered). payloads_of sender (letters es)) (split-at ds i d lt is)
      ∙ ap (payloads_of sender) (letters-append (take i ds) (d ∷ drop (i + 1) ds))
      ∙ payloads-append sender (letters (take i ds)) (letters (d ∷ drop (i + 1) ds))
      ∙ ap (λ ps. payloads_of sender (letters (take i ds)) ++ ps) (payloads-append sender (letters (d ∷ [])) (letters (drop (i + 1) ds)))
      ∙ sym (append_assoc (payloads_of sender (letters (take i ds))) (payloads_of sender (letters (d ∷ [])))
      (payloads_of sender (letters (drop (i + 1) ds))))

module _ (sender : ℕ) (sequence : ℕ → List Letter) (x : ℕ) where
  -- what the sequences of so many views have of the sender
  abbrev reported : ℕ → List (List ℕ)
  reported n = payloads_of sender (flat_map sequence (range_with_len 0 n))

  pub history-more : reported (x + 1) ≡ reported x ++ payloads_of sender (sequence x)
  history-more =
      let one : x + 1 ≡ suc x = omega arith in
      let last : 0 + x ≡ x = omega arith in
      ap reported one
      ∙ ap (λ ks. payloads_of sender (flat_map sequence ks)) (range-more 0 x)
      ∙ ap (payloads_of sender) (flat_map-append sequence (range_with_len 0 x) ((0 + x) ∷ []))
      ∙ payloads-append sender (flat_map sequence (range_with_len 0 x)) (flat_map sequence ((0 + x) ∷ []))
      ∙ ap (λ ds. reported x ++ payloads_of sender ds) (append-nil (sequence (0 + x)) ∙ ap sequence last)

  pub history-split : (n : ℕ) → x < n
      → reported n ≡ (reported x ++ payloads_of sender (sequence x)) ++ payloads_of sender (flat_map sequence (range_with_len (x + 1) (n - x - 1)))
  history-split n lt =
      let all : n ≡ (x + 1) + (n - x - 1) = omega (arith, lt) in
      let at : 0 + (x + 1) ≡ x + 1 = omega arith in
      let rest : ℕ = n - x - 1 in
      ap reported all
      ∙ ap (λ ks. payloads_of sender (flat_map sequence ks)) (range-split 0 (x + 1) rest)
      ∙ ap (payloads_of sender) (flat_map-append sequence (range_with_len 0 (x + 1)) (range_with_len (0 + (x + 1)) rest))
      ∙ payloads-append sender (flat_map sequence (range_with_len 0 (x + 1))) (flat_map sequence (range_with_len (0 + (x + 1)) rest))
      ∙ (λ i. history-more i ++ payloads_of sender (flat_map sequence (range_with_len (at i) rest)))
