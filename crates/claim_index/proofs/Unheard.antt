-- Where no claim of a kind is heard, nobody says anything on a slot of the kind, and nothing is certified there.
use Rattle.std.proofs.Common.{◌≡◌, ℕ, Option, Some, None, false, refl, ap, ◌∙◌, map}
use Rattle.std.specs.Prelude.{◌==◌, filter}
use Rattle.std.proofs.lemmas.Bool.{both_ways, eq-eqb}
use Rattle.message_defs.specs.Updates.{Remove, Add, Renew}
use Rattle.message_defs.specs.Statements.{Statement, Init, Echo, Order, Place, Keep, Notify, End, Last, Suggest, Ack, Ready, Slot, Claim, kind_number, slot_of, same_slot}
use Rattle.group_defs.specs.Process.{Pool}
use Rattle.group_defs.specs.Certified.{heard_on, is_certified, certified_on}
use Rattle.pool_laws.proofs.Heard.{heard_on-said, certified_on-is}
use Rattle.pool_laws.proofs.Members.{Mem, filter-mem, find-is, map-mem, mem-list_any}
use Rattle.claim_index.specs.Keys.{slot_key}
use Rattle.claim_index.specs.Kept.{is_kind_heard}

kind-of-slot : (st : Statement) → kind_number st ≡ (slot_key (slot_of st)).kind
kind-of-slot (Init x l payload) = refl
kind-of-slot (Echo x m payload) = refl
kind-of-slot (Order x k b) = refl
kind-of-slot (Place x k b) = refl
kind-of-slot (Keep x k b) = refl
kind-of-slot (Notify x (Remove p)) = refl
kind-of-slot (Notify x (Add p)) = refl
kind-of-slot (Notify x Renew) = refl
kind-of-slot (End x k) = refl
kind-of-slot (Last x r ready) = refl
kind-of-slot (Suggest x r v) = refl
kind-of-slot (Ack x r v) = refl
kind-of-slot (Ready x r v) = refl

module _ (h : Pool) (slot : Slot) (none : is_kind_heard h.heard (slot_key slot).kind ≡ false) where
  no-claim : (c : Claim) → Mem c h.heard → slot_of c.statement ≡ slot → ⊥
  no-claim c m at =
      let kind : kind_number c.statement ≡ (slot_key slot).kind = kind-of-slot c.statement ∙ ap (λ s. (slot_key s).kind) at in
      both_ways _ none (mem-list_any (λ (d : Claim). kind_number d.statement == (slot_key slot).kind) h.heard c m (eq-eqb _ _ kind))

  pub unheard : (signer : ℕ) → heard_on h signer slot ≡ None
  unheard signer = go (heard_on h signer slot) refl
    where
      go : (o : Option Statement) → heard_on h signer slot ≡ o → o ≡ None
      go None e = refl
      go (Some st) e = absurd (let said = heard_on-said h signer slot st e in let c = said.0 in no-claim c.0 c.1 (ap slot_of c.3 ∙ said.1))

  pub uncertified : certified_on h slot ≡ None
  uncertified = go (certified_on h slot) refl
    where
      go : (o : Option Statement) → certified_on h slot ≡ o → o ≡ None
      go None e = refl
      go (Some st) e = absurd (
          let said = map (λ (c : Claim). c.statement) h.heard in
          let found = find-is (is_certified h) (filter (λ st. same_slot (slot_of st) slot) said) st e in
          let c = map-mem (λ (c : Claim). c.statement) h.heard st (filter-mem (λ st. same_slot (slot_of st) slot) said st found.0).0 in
          no-claim c.0 c.1 (ap slot_of c.2 ∙ (certified_on-is h slot st e).1))
