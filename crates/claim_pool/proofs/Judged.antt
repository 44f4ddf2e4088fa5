-- The two parts of a verdict are the verdict.
use Rattle.std.proofs.Common.{◌≡◌, ℕ, List, [], ◌∷◌, Option, Some, None, Bool, true, false, refl, sym, ap, ◌∙◌, map}
use Rattle.std.specs.Prelude.{unwrap_or, slice_index, ◌||◌, option_map}
use Rattle.std.specs.List.{list_any}
use Rattle.byte_defs.specs.Choices.{first_that_holds}
use Rattle.message_defs.specs.Statements.{Message, Claim, Echo}
use Rattle.group_defs.specs.Views.{View, is_member, rank_of}
use Rattle.group_defs.specs.Process.{Setting, Pool, Process, delivered_from}
use Rattle.group_defs.specs.Hearing as defs
use Rattle.pool_values.proofs.Below.{at-rank, neither, not-false}
use Rattle.own_place.specs.declared.own.Own.{Own}
use Rattle.own_place.specs.Owns.{HasDelivered}
use Rattle.claim_pool.specs.Verdicts.{early_tests, late_tests}

-- the first of the early tests that holds, else the first of the late ones
joined : (a b c d : Bool) (late : List (Bool × defs.Verdict)) (early : List (Bool × defs.Verdict))
    → early ≡ (a, defs.Old) ∷ (b, defs.Early) ∷ (c, defs.Stranger) ∷ (d, defs.OutOfWindow) ∷ []
    → (v : Option defs.Verdict) → v ≡ first_that_holds early → (w : defs.Verdict) → w ≡ unwrap_or (first_that_holds late) defs.Heard
    → unwrap_or v w ≡ unwrap_or (first_that_holds
    ((a, defs.Old) ∷ (b, defs.Early) ∷ (c, defs.Stranger) ∷ (d, defs.OutOfWindow) ∷ late)) defs.Heard
joined a b c d late early is v e w f = (λ i. unwrap_or ((e ∙ ap first_that_holds is) i) (f i)) ∙ go a b c d
  where
    go : (a b c d : Bool) → unwrap_or (first_that_holds ((a, defs.Old) ∷ (b, defs.Early) ∷ (c, defs.Stranger) ∷ (d, defs.OutOfWindow) ∷ []))
        (unwrap_or (first_that_holds late) defs.Heard)
        ≡ unwrap_or (first_that_holds ((a, defs.Old) ∷ (b, defs.Early) ∷ (c, defs.Stranger) ∷ (d, defs.OutOfWindow) ∷ late)) defs.Heard
    go true b c d = refl
    go false true c d = refl
    go false false true d = refl
    go false false false true = refl
    go false false false false = refl

-- turned away by an early test
pub away : (s : Setting) (p : Process) (c : Claim) (v : defs.Verdict) → Some v ≡ first_that_holds (early_tests p c) → v ≡ defs.verdict s p c
away s p c v e = joined _ _ _ _ (late_tests s p.pool c)
    (early_tests p c) refl (Some v) e (unwrap_or (first_that_holds (late_tests s p.pool c)) defs.Heard) refl

-- not turned away, so the late tests decide
pub stays : (s : Setting) (p : Process) (c : Claim) (h : Pool) (w : defs.Verdict) → p.pool ≡ h → None ≡ first_that_holds (early_tests p c)
    → w ≡ unwrap_or (first_that_holds (late_tests s h c)) defs.Heard → w ≡ defs.verdict s p c
stays s p c h w same e f = joined _ _ _ _ (late_tests s p.pool c)
    (early_tests p c) refl None e w (f ∙ ap (λ h. unwrap_or (first_that_holds (late_tests s h c)) defs.Heard) (sym same))

-- ---- counts

-- what stands at a member's rank is how many of its messages were delivered
pub count-is : (own : Own) (p : Process) (v : View) → HasDelivered own p → p.pool.view ≡ v → (m : ℕ) → is_member v m ≡ true
    → unwrap_or (option_map (λ r. slice_index own.counts.items r) (rank_of v m)) 0 ≡ delivered_from m p.delivered
count-is own p v has same m member =
    let items : map (λ m. delivered_from m p.delivered) v.members
    ≡ own.counts.items = ap (λ (v : View). map (λ m. delivered_from m p.delivered) v.members) (sym same) ∙ has.counts in
    ap (λ xs. unwrap_or (option_map (λ r. slice_index xs r) (rank_of v m)) 0)
    (sym items) ∙ at-rank v (λ m. delivered_from m p.delivered) m member

-- who is not strange is a member
pub signer-member : (p : Process) (c : Claim) → defs.is_strange p c ≡ false → is_member p.pool.view c.signer ≡ true
signer-member p c e = not-false _ (neither _ _ e).0

-- and so is the sender of the message that its Echo names
pub sender-member : (p : Process) (signer x : ℕ) (m : Message) (payload signature : List ℕ)
    → defs.is_strange p (record { signer = signer; statement = Echo x m payload; signature = signature }) ≡ false
    → is_member p.pool.view m.sender ≡ true
sender-member p signer x m payload signature e = not-false _ (neither _ _ (neither _ _ e).1).0

-- ---- a test of what is made of a list

pub list_any-map : {A B : Type 0} (g : A → B) (test : B → Bool) (xs : List A) → list_any test (map g xs) ≡ list_any (λ x. test (g x)) xs
list_any-map g test [] = refl
list_any-map g test (x ∷ xs) = ap (λ b. test (g x) || b) (list_any-map g test xs)
