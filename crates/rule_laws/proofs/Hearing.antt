-- What a pool's claims say on a slot.
use Rattle.std.proofs.Common.{◌≡◌, ℕ, List, Some, true, refl, sym, ap, ◌∙◌, subst, slice_get}
use Rattle.std.specs.Prelude.{IsTrue, All}
use Rattle.group_defs.specs.Below.{is_some_and, IsClaim, IsStatement, Message, Statement, Slot, slot_of, view_of, messages_of, same_statement}
use Rattle.group_defs.specs.Views.{is_member}
use Rattle.group_defs.specs.Process.{Pool}
use Rattle.group_defs.specs.Certified.{heard_on, says}
use Rattle.group_defs.specs.Laws.{IsOfView}
use Rattle.rule_laws.specs.Heard.{IsPool}
use Rattle.pool_laws.proofs.Heard.{heard_on-said}
use Rattle.pool_laws.proofs.Members.{All-mem}
use Rattle.pool_laws.proofs.Slots.{is-same_statement, same_statement-is}
use Rattle.pool_laws.proofs.Tests.{some-and}

-- what is heard on a slot
pub record IsHeard (h : Pool) (a : ℕ) (slot : Slot) (st : Statement) : Type 0 where
  pub at : slot_of st ≡ slot
  pub current : view_of st ≡ h.view.number
  pub signer : is_member h.view a ≡ true
  pub senders : All (λ (m : Message). IsTrue (is_member h.view m.sender)) (messages_of st)
  pub ranges : IsStatement st

pub heard-is : (h : Pool) → IsPool h → (a : ℕ) (slot : Slot) (st : Statement) → heard_on h a slot ≡ Some st → IsHeard h a slot st
heard-is h pool a slot st e =
    let said = heard_on-said h a slot st e in
    let c = said.0.0 in
    let of_view = All-mem (IsOfView h.view) h.heard c pool.of_view said.0.1 in
    let claim = All-mem IsClaim h.heard c pool.in_range said.0.1 in
    record {
      at = said.1;
      current = sym (ap view_of said.0.3) ∙ of_view.number;
      signer = ap (is_member h.view) (sym said.0.2) ∙ of_view.signer;
      senders = subst (λ st. All (λ (m : Message). IsTrue (is_member h.view m.sender)) (messages_of st)) said.0.3 of_view.senders;
      ranges = subst IsStatement said.0.3 claim.1;
    }

-- it says the statement where that is heard on the statement's slot
pub says-heard : (h : Pool) (st : Statement) (a : ℕ) → says h st a ≡ true → heard_on h a (slot_of st) ≡ Some st
says-heard h st a e = let at = some-and (heard_on h a (slot_of st))
    (same_statement st) e in at.1 ∙ ap Some (sym (same_statement-is st at.0 at.2))

pub heard-says : (h : Pool) (st : Statement) (a : ℕ) → heard_on h a (slot_of st) ≡ Some st → says h st a ≡ true
heard-says h st a e = ap (λ o. is_some_and o (same_statement st)) e ∙ is-same_statement st st refl

pub rank-heard : (members : List ℕ) (h : Pool) (r : ℕ) (st : Statement) → is_some_and (slice_get members r) (says h st) ≡ true
    → (m : ℕ) × (slice_get members r ≡ Some m) × (heard_on h m (slot_of st) ≡ Some st)
rank-heard members h r st e = let at = some-and (slice_get members r) (says h st) e in (at.0, at.1, says-heard h st at.0 at.2)

pub heard-rank : (members : List ℕ) (h : Pool) (r m : ℕ) (st : Statement) → slice_get members r ≡ Some m
    → heard_on h m (slot_of st) ≡ Some st → is_some_and (slice_get members r) (says h st) ≡ true
heard-rank members h r m st at e = ap (λ o. is_some_and o (says h st)) at ∙ heard-says h st m e
