-- What is made of a state, put together of its two steps.
use Rattle.std.proofs.Common.{◌≡◌, ℕ, List, [], ◌∷◌, length, Option, Some, None, Bool, true, false, refl, sym, subst}
use Rattle.std.specs.Prelude.{not, ◌==◌, nat_lt, if◌then◌else◌}
use Rattle.std.specs.Option.{option_or}
use Rattle.byte_defs.specs.Choices.{first_that_holds}
use Rattle.store_defs.specs.declared.Taken.{Taken}
use Rattle.store_defs.specs.declared.Taken.TheVariants.{OtherView, Stranger, Unsigned, Known, Ready, Counted}
use Rattle.store_defs.specs.Votes.{Valid}
use Rattle.store_defs.specs.Records.{StateRecord}
use Rattle.store_defs.specs.Transfers.{Transfer, counted, givers, is_counted, is_signed, with_record, with_state}
use Rattle.group_defs.specs.Views.{faulty, is_member}
use Rattle.state_transfer.specs.Refusals.{refusal, with_ready}

some-is : {a b : Taken} → Some a ≡ Some b → a ≡ b
some-is h = cc

some-none : {a : Taken} → Some a ≡ None → ⊥
some-none h = cc

-- a state that is refused changes nothing
pub refused-stays : (valid : Valid) (group : List ℕ) (key : Option (List ℕ)) (t : Transfer) (r : StateRecord) (o : Taken)
    → Some o ≡ refusal valid group key t r → with_record t r o ≡ t
refused-stays valid group key t r o is =
    go (r.view == t.view.number) (is_member t.view r.signer) (is_signed valid group key r) (is_counted t r.signer) is
  where
    like : (u : Taken) → Some o ≡ Some u → with_record t r u ≡ t → with_record t r o ≡ t
    like u same stays = subst (λ (w : Taken). with_record t r w ≡ t) (sym (some-is same)) stays

    go : (v m s k : Bool) → Some o ≡ first_that_holds ((not v, OtherView) ∷ (not m, Stranger) ∷ (not s, Unsigned) ∷ (k, Known) ∷ [])
        → with_record t r o ≡ t
    go false m s k same = like OtherView same refl
    go true false s k same = like Stranger same refl
    go true true false k same = like Unsigned same refl
    go true true true true same = like Known same refl
    go true true true false same = absurd (some-none same)

-- and one that counts is the first that is ready, or is kept
pub settled : (t : Transfer) (r : StateRecord) → with_ready (with_state t r) r.state ≡ with_record t r (counted t r)
settled t r = go (nat_lt (faulty (length t.view.members)) (givers (with_state t r) r.state))
  where
    go : (b : Bool) → (if b then record (with_state t r) { state = option_or t.state (Some r.state) } else with_state t r)
        ≡ with_record t r (if b then Ready else Counted (givers (with_state t r) r.state))
    go true = refl
    go false = refl
