-- The messages that an Order names come next behind those of the Orders before it.
use Rattle.std.proofs.Common.{◌≡◌, inl, inr, ℕ, zero, suc, List, [], ◌∷◌, ◌++◌, Option, Some, None, Bool, true, false, refl, sym, ap, ◌∙◌}
use Rattle.std.specs.Prelude.{◌==◌, if◌then◌else◌, is_some}
use Rattle.std.proofs.lemmas.Bool.{eq-eqb}
use Rattle.byte_defs.specs.Choices.{first_some}
use Rattle.message_defs.specs.Statements.{Message, Batch}
use Rattle.group_defs.specs.Views.{is_member}
use Rattle.group_defs.specs.Process.{Pool}
use Rattle.group_defs.specs.Certified.{named, payload_at}
use Rattle.group_defs.specs.Due.{next_of, next_message, next_messages}
use Rattle.pool_laws.proofs.Members.{Mem, mem-list_any}
use Rattle.pool_laws.proofs.Tests.{both-true}
use Rattle.own_place.specs.Noting.{ComeNext}

first_some-member : {A B : Type 0} (g : A → Option B) (xs : List A) (y : B) → first_some g xs ≡ Some y → (x : A) × Mem x xs × (g x ≡ Some y)
first_some-member g [] y e = absurd cc
first_some-member {A} {B} g (x ∷ xs) y e = go (g x) refl e (first_some-member g xs y)
  where
    go : (o : Option B) → g x ≡ o → (elim o [ None ↦ first_some g xs | Some z ↦ Some z ]) ≡ Some y
        → (first_some g xs ≡ Some y → (x : A) × Mem x xs × (g x ≡ Some y)) → (z : A) × Mem z (x ∷ xs) × (g z ≡ Some y)
    go None is e rest = let r = rest e in (r.0, inr r.1, r.2)
    go (Some z) is e rest = (x, inl refl, is ∙ e)

-- the next message is a member's, and its number is how many of its messages stand before
next-is : (h : Pool) (before : List Message) (m : Message) → next_message h before ≡ Some m
    → (is_member h.view m.sender ≡ true) × (m.number ≡ named m.sender before)
next-is h before m e =
    let from = first_some-member (next_of h before) h.view.members m e in
    let is = one from.0 (is_some (payload_at h (record { sender = from.0; number = named from.0 before }))) from.2 in (
      mem-list_any (λ q. q == m.sender) h.view.members from.0 from.1 (eq-eqb from.0 m.sender (ap (λ (m : Message). m.sender) is)),
      sym (ap (λ (m : Message). m.number) is) ∙ ap (λ s. named s before) (ap (λ (m : Message). m.sender) is),
    )
  where
    one : (s : ℕ) (b : Bool) → (if b then Some (record { sender = s; number = named s before }) else None) ≡ Some m
        → record { sender = s; number = named s before } ≡ m
    one s true e = cc
    one s false e = absurd cc

pub next-come : (more : ℕ) (h : Pool) (before : List Message) → ComeNext h.view before (next_messages more h before)
unfolding next_messages
next-come zero h before = record { members = refl; in_order = refl }
next-come (suc more) h before = go (next_message h before) refl (λ m. next-come more h (before ++ m ∷ []))
  where
    go : (o : Option Message) → next_message h before ≡ o
        → ((m : Message) → ComeNext h.view (before ++ m ∷ []) (next_messages more h (before ++ m ∷ [])))
        → (let it : Batch = elim o [ None ↦ [] | Some m ↦ m ∷ next_messages more h (before ++ m ∷ []) ] in ComeNext h.view before it)
    go None e rest = record { members = refl; in_order = refl }
    go (Some m) e rest =
        let is = next-is h before m e in
        record {
          members = both-true _ _ is.0 (rest m).members;
          in_order = both-true _ _ (eq-eqb m.number (named m.sender before) is.1) (rest m).in_order;
        }
