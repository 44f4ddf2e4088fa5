-- Messages compared by sender and number.
use Rattle.std.proofs.Common.{◌≡◌, Bool, true, false, refl, sym, ap, ◌∙◌}
use Rattle.std.specs.Prelude.{◌&&◌, ◌==◌}
use Rattle.std.proofs.lemmas.Bool.{eqb-true, eqb-false}
use Rattle.message_defs.specs.Statements.{Message, Message-discrete}
use Rattle.group_defs.specs.Due.{same_message}
use Rattle.pool_laws.proofs.Tests.{yes-is, is-yes}

-- a test that says what holds is the other one that does
pub same-message : (a b : Message) → ((a.sender == b.sender) && (a.number == b.number)) ≡ same_message a b
same-message a b = go (a.sender == b.sender) refl (a.number == b.number) refl (same_message a b) refl
  where
    go : (x : Bool) → (a.sender == b.sender) ≡ x → (y : Bool) → (a.number == b.number) ≡ y → (z : Bool) → same_message a b ≡ z
        → (x && y) ≡ z
    go true e true f true g = refl
    go true e true f false g =
        let sender : a.sender ≡ b.sender = eqb-true a.sender b.sender e in
        let number : a.number ≡ b.number = eqb-true a.number b.number f in
        let same : a ≡ b = λ i. record { sender = sender i; number = number i } in
        sym (is-yes (Message-discrete a b) same) ∙ g
    go true e false f true g = absurd (eqb-false a.number b.number f (ap (λ (m : Message). m.number) (yes-is (Message-discrete a b) g)))
    go true e false f false g = refl
    go false e y f true g = absurd (eqb-false a.sender b.sender e (ap (λ (m : Message). m.sender) (yes-is (Message-discrete a b) g)))
    go false e y f false g = refl
