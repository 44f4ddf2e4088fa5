-- The own End is the first one among the claims that the process signed.
use Rattle.std.proofs.Common.{◌≡◌, ℕ, List, [], ◌∷◌, Bool, true, false, Option, Some, None, refl, sym, ap, subst, ◌∙◌, inl, inr}
use Rattle.std.specs.Prelude.{if◌then◌else◌, ◌==◌, ◌&&◌, All, find, option_map}
use Rattle.std.specs.Option.{option_or}
use Rattle.std.proofs.lemmas.Bool.{eqb-true, eq-eqb}
use Rattle.message_defs.specs.Statements.{Statement, Init, Echo, Order, Place, Keep, Notify, End, Last, Suggest, Ack, Ready, Claim, Slot, EndAt, slot_of, same_slot}
use Rattle.group_defs.specs.Process.{Process}
use Rattle.group_defs.specs.Certified.{claim_on}
use Rattle.pool_laws.proofs.Members.{Mem, All-mem}
use Rattle.pool_laws.proofs.Slots.{same_slot-is, is-same_slot}
use Rattle.image_parts.specs.InView.{HasEnd}
use Rattle.image_parts.specs.Walks.{end_said, end_in}

false-of : (b : Bool) → (b ≡ true → ⊥) → b ≡ false
false-of true no_way = absurd (no_way refl)
false-of false no_way = refl

module _ (number : ℕ) where
  abbrev what : Option Claim → Option Statement
  what o = option_map (λ (c : Claim). c.statement) o

  abbrev as-end : Option ℕ → Option Statement
  as-end o = option_map (End number) o

  -- the slot is another one
  other : (c : Claim) (o : Option Claim) (e : Option ℕ) → (slot_of c.statement ≡ EndAt number → ⊥) → what o ≡ as-end e
      → what (if same_slot (slot_of c.statement) (EndAt number) then Some c else o) ≡ as-end e
  other c o e differs rest =
      ap (λ b. what (if b then Some c else o)) (false-of (same_slot (slot_of c.statement) (EndAt number))
      (λ ok. differs (same_slot-is (slot_of c.statement) (EndAt number) ok))) ∙ rest

  own : (c : Claim) (x k : ℕ) (o : Option Claim) (e : Option ℕ) → c.statement ≡ End x k → what o ≡ as-end e
      → what (if same_slot (EndAt x) (EndAt number) then Some c else o) ≡ as-end (option_or (end_said number (End x k)) e)
  own c x k o e is rest = go (x == number) refl
    where
      go : (b : Bool) → (x == number) ≡ b
          → what (if same_slot (EndAt x) (EndAt number) then Some c else o) ≡ as-end (option_or (if b then Some k else None) e)
      go true at =
          ap (λ b. what (if b then Some c else o)) (is-same_slot (EndAt x) (EndAt number) (ap EndAt (eqb-true x number at)))
          ∙ ap Some is ∙ ap (λ n. Some (End n k)) (eqb-true x number at)
      go false at =
          ap (λ b. what (if b then Some c else o)) (false-of (same_slot (EndAt x) (EndAt number))
          (λ ok. clash (eq-eqb x number (same-view (same_slot-is (EndAt x) (EndAt number) ok))) at)) ∙ rest
        where
          clash : {b : Bool} → b ≡ true → b ≡ false → ⊥
          clash y n = cc

          same-view : EndAt x ≡ EndAt number → x ≡ number
          same-view same = cc

  step : (signer : ℕ) (st : Statement) (signature : List ℕ) (o : Option Claim) (e : Option ℕ) → what o ≡ as-end e
      → what (if same_slot (slot_of st) (EndAt number) then Some (record { signer = signer; statement = st; signature = signature }) else o)
      ≡ as-end (option_or (end_said number st) e)
  step signer (Init x l payload) signature o e rest = other (record { signer = signer; statement = Init x l payload; signature = signature }) o e (λ is. cc) rest
  step signer (Echo x m payload) signature o e rest = other (record { signer = signer; statement = Echo x m payload; signature = signature }) o e (λ is. cc) rest
  step signer (Order x k b) signature o e rest = other (record { signer = signer; statement = Order x k b; signature = signature }) o e (λ is. cc) rest
  step signer (Place x k b) signature o e rest = other (record { signer = signer; statement = Place x k b; signature = signature }) o e (λ is. cc) rest
  step signer (Keep x k b) signature o e rest = other (record { signer = signer; statement = Keep x k b; signature = signature }) o e (λ is. cc) rest
  step signer (Notify x u) signature o e rest = other (record { signer = signer; statement = Notify x u; signature = signature }) o e (λ is. cc) rest
  step signer (End x k) signature o e rest = own (record { signer = signer; statement = End x k; signature = signature }) x k o e refl rest
  step signer (Last x r ready) signature o e rest = other (record { signer = signer; statement = Last x r ready; signature = signature }) o e (λ is. cc) rest
  step signer (Suggest x r v) signature o e rest = other (record { signer = signer; statement = Suggest x r v; signature = signature }) o e (λ is. cc) rest
  step signer (Ack x r v) signature o e rest = other (record { signer = signer; statement = Ack x r v; signature = signature }) o e (λ is. cc) rest
  step signer (Ready x r v) signature o e rest = other (record { signer = signer; statement = Ready x r v; signature = signature }) o e (λ is. cc) rest

  pub first-is : (me : ℕ) (cs : List Claim) → ((c : Claim) → Mem c cs → c.signer ≡ me)
      → what (claim_on cs me (EndAt number)) ≡ as-end (end_in number cs)
  first-is me [] all = refl
  first-is me (c ∷ cs) all =
      ap (λ b. what (if b && same_slot (slot_of c.statement) (EndAt number) then Some c else claim_on cs me (EndAt number)))
      (eq-eqb c.signer me (all c (inl refl)))
      ∙ step c.signer c.statement c.signature (claim_on cs me (EndAt number)) (end_in number cs) (first-is me cs (λ d m. all d (inr m)))

pub end-is : (number : ℕ) (cs : List Claim) (o : Option ℕ) → o ≡ end_in number cs → (p : Process) → p.signed ≡ cs → All (λ c. c.signer ≡ p.me) p.signed
    → p.pool.view.number ≡ number → HasEnd p o
end-is number cs o found p signed all at =
    first-is p.pool.view.number p.me p.signed (λ c m. All-mem (λ (c : Claim). c.signer ≡ p.me) p.signed c all m)
    ∙ ap (option_map (End p.pool.view.number)) (ap (λ n. end_in n p.signed) at ∙ ap (end_in number) signed ∙ sym found)
