-- Signing, kind after kind, one statement at a time.
use Rattle.std.proofs.Common.{◌≡◌, ℕ, zero, suc, ◌∷◌, [], List, Bool, true, false, Option, Some, None, refl, ap}
use Rattle.std.specs.Prelude.{is_some}
use Rattle.message_defs.specs.Updates.{Value}
use Rattle.message_defs.specs.Statements.{Statement}
use Rattle.group_defs.specs.Process.{Kind, Setting, Process}
use Rattle.group_defs.specs.Due.{least_due}
use Rattle.group_defs.specs.Signing.{Signer, Signing, signs, sign_kind, sign_kinds, sign_all}

-- p, with so many signatures left
abbrev pub still : ℕ → Bool → Process → Signing
still left lacks p = record { now = p; left = left; spent = lacks }

module _ (s : Setting) (signer : Signer) where
  module _ (kind : Kind) where
    goes : ℕ → Process → Option Statement → Signing
    goes left p due = elim due [ None ↦ still (suc left) false p | Some st ↦ sign_kind s signer kind left (signs s signer p st) ]

    -- where none of the kind is due, nothing is signed
    pub none_due : (left : ℕ) (p : Process) → least_due s p kind ≡ None → sign_kind s signer kind left p ≡ still left false p
    unfolding sign_kind goes
    none_due zero p none = ap (λ o. still zero (is_some o) p) none
    none_due (suc left) p none = ap (goes left p) none

    -- where one is and a signature is left, it is signed, and so on
    pub one_due : (left : ℕ) (p : Process) (st : Statement) → least_due s p kind ≡ Some st
        → sign_kind s signer kind (suc left) p ≡ sign_kind s signer kind left (signs s signer p st)
    unfolding sign_kind goes
    one_due left p st due = ap (goes left p) due

    -- where no signature is left, one is wanting exactly where one is due
    pub none_left : (p : Process) → sign_kind s signer kind zero p ≡ still zero (is_some (least_due s p kind)) p
    unfolding sign_kind
    none_left p = refl

  -- behind a kind come the others, unless a signature was wanting
  pub kind_done : (kind : Kind) (more : List Kind) (left : ℕ) (p : Process) → (sign_kind s signer kind left p).spent ≡ false
      → sign_kinds s signer (kind ∷ more) left p
      ≡ sign_kinds s signer more (sign_kind s signer kind left p).left (sign_kind s signer kind left p).now
  unfolding sign_kinds
  kind_done kind more left p enough = ap
      (λ b. elim b [
        | true ↦ sign_kind s signer kind left p
        | false ↦ sign_kinds s signer more (sign_kind s signer kind left p).left
            (sign_kind s signer kind left p).now
      ]) enough

  pub kind_lacks : (kind : Kind) (more : List Kind) (left : ℕ) (p : Process) → (sign_kind s signer kind left p).spent ≡ true
      → sign_kinds s signer (kind ∷ more) left p ≡ sign_kind s signer kind left p
  unfolding sign_kinds
  kind_lacks kind more left p lacks = ap
      (λ b. elim b [
        | true ↦ sign_kind s signer kind left p
        | false ↦ sign_kinds s signer more (sign_kind s signer kind left p).left
            (sign_kind s signer kind left p).now
      ]) lacks

  pub kinds_done : (left : ℕ) (p : Process) → sign_kinds s signer [] left p ≡ still left false p
  unfolding sign_kinds
  kinds_done left p = refl

  -- an undecided view signs through the kinds of the setting, a decided one nothing
  pub undecided_signs : (left : ℕ) (p : Process) → p.decision ≡ None → sign_all s signer left p ≡ sign_kinds s signer s.signs left p
  unfolding sign_all
  undecided_signs left p undecided = ap (λ o. elim o [ None ↦ sign_kinds s signer s.signs left p | Some d ↦ still left false p ]) undecided

  pub decided_signs : (left : ℕ) (p : Process) → is_some p.decision ≡ true → sign_all s signer left p ≡ still left false p
  unfolding sign_all
  decided_signs left p made = go p.decision made
    where
      go : (o : Option (ℕ × Value)) → is_some o ≡ true
          → (elim o [ None ↦ sign_kinds s signer s.signs left p | Some d ↦ still left false p ]) ≡ still left false p
      go None e = absurd cc
      go (Some d) e = refl
