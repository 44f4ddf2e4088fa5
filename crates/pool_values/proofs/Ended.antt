-- How far the Inits of each process are heard, with one claim more.
use Rattle.std.proofs.Common.{◌≡◌, inl, inr, ℕ, zero, suc, ◌+◌, ◌<◌, Bool, true, false, List, length, Option, Some, None, refl, sym, ap, ◌∙◌, subst, arith, get_or-set_same, get_or-set_other}
use Rattle.std.specs.Prelude.{if◌then◌else◌, ◌&&◌, ◌==◌, max, is_some, option_map, replicate, slice_index, slice_set}
use Rattle.std.specs.Option.{option_or}
use Rattle.std.proofs.lemmas.Bool.{cases_eq, eqb-true, eq-eqb}
use Rattle.std.proofs.lemmas.List.{length-set}
use Rattle.message_defs.specs.Spelling.{IsStatement}
use Rattle.message_defs.specs.Statements.{Statement, Init, InitAt, Slot, Claim, slot_of, same_slot}
use Rattle.group_defs.specs.Views.{View}
use Rattle.group_defs.specs.Process.{Pool}
use Rattle.group_defs.specs.Certified.{claim_on, heard_on}
use Rattle.pool_laws.proofs.Grown.{heard_on-new}
use Rattle.pool_laws.proofs.Slots.{same_slot-is}
use Rattle.pool_laws.proofs.Tests.{and-first, and-second, some-same}
use Rattle.slot_quorums.specs.Claims.{empty_pool, with_heard}
use Rattle.pool_values.specs.Ends.{IsInitsEnd, AreInitsEnds, init_said}
use Rattle.pool_values.proofs.Notified.{on-grown}

-- ---- nothing is heard

all-zero : (n i : ℕ) → slice_index (replicate n 0) i ≡ 0
all-zero zero i = refl
all-zero (suc n) zero = refl
all-zero (suc n) (suc i) = all-zero n i

pub none-heard : (v : View) (h : Pool) (ends : List ℕ) → h ≡ empty_pool v → ends ≡ replicate 64 0 → AreInitsEnds h ends
none-heard v h ends pool zeros = subst (λ h. AreInitsEnds h ends) (sym pool) (record {
  processes = ap length zeros;
  each = λ q lt. let none = ap (λ xs. slice_index xs q) zeros ∙ all-zero 64 q in record {
    past = λ l le. refl;
    last = λ l e. absurd (omega (arith, none, e));
    most = omega (arith, none);
  };
})

-- ---- one claim more

module _ (h : Pool) (c : Claim) (fresh : claim_on h.heard c.signer (slot_of c.statement) ≡ None) where
  abbrev g : Pool
  g = with_heard h c

  -- on another slot nothing changes
  elsewhere : (q : ℕ) (s : Slot) → (c.signer ≡ q → slot_of c.statement ≡ s → ⊥) → heard_on g q s ≡ heard_on h q s
  elsewhere q s other = go ((c.signer == q) && same_slot (slot_of c.statement) s) refl
    where
      or-none : (o : Option Claim) → option_or o None ≡ o
      or-none None = refl
      or-none (Some d) = refl

      go : (b : Bool) → ((c.signer == q) && same_slot (slot_of c.statement) s) ≡ b → heard_on g q s ≡ heard_on h q s
      go true e = absurd (other (eqb-true c.signer q (and-first (c.signer == q) (same_slot (slot_of c.statement) s) e))
          (same_slot-is (slot_of c.statement) s (and-second (c.signer == q) (same_slot (slot_of c.statement) s) e)))
      go false e = ap (option_map (λ (d : Claim). d.statement))
          (on-grown h c fresh q s ∙ ap (λ b. option_or (claim_on h.heard q s) (if b then Some c else None)) e ∙ or-none
          (claim_on h.heard q s))

  end-stays : (q end : ℕ) → (c.signer ≡ q → (l : ℕ) → slot_of c.statement ≡ InitAt h.view.number l → ⊥) → IsInitsEnd h q end
      → IsInitsEnd g q end
  end-stays q end other is = record {
    past = λ l le. elsewhere q (InitAt h.view.number l) (λ same. other same l) ∙ is.past l le;
    last = λ l e. ap is_some (elsewhere q (InitAt h.view.number l) (λ same. other same l)) ∙ is.last l e;
    most = is.most;
  }

  module _ (n : ℕ) (said : slot_of c.statement ≡ InitAt h.view.number n) where
    apart : (l : ℕ) → (n ≡ l → ⊥) → heard_on g c.signer (InitAt h.view.number l) ≡ heard_on h c.signer (InitAt h.view.number l)
    apart l other = elsewhere c.signer (InitAt h.view.number l) (λ _ at. other (same l (sym said ∙ at)))
      where
        same : (l : ℕ) → InitAt h.view.number n ≡ InitAt h.view.number l → n ≡ l
        same l e = cc

    end-raised : (end : ℕ) → n < 1024 → IsInitsEnd h c.signer end → IsInitsEnd g c.signer (max end (n + 1))
    end-raised end lt is = record {
      past = λ l le. apart l (λ e. omega (arith, le, e)) ∙ is.past l (omega (arith, le));
      last = λ l e. elim (cases_eq l n) [
        | inl same ↦ ap is_some (ap (heard_on g c.signer) (ap (InitAt h.view.number) same ∙ sym said) ∙ heard_on-new h c fresh)
        | inr other ↦ ap is_some (apart l (λ e. other (sym e))) ∙ is.last l (let ne = other in omega (arith, e, ne))
      ];
      most = let was = is.most in omega (arith, was, lt);
    }

    raised : (ends : List ℕ) → c.signer < 64 → n < 1024 → AreInitsEnds h ends
        → AreInitsEnds g (slice_set ends c.signer (max (slice_index ends c.signer) (n + 1)))
    raised ends within lt are =
        let more : ℕ = max (slice_index ends c.signer) (n + 1) in
        let wide : c.signer < length ends = (let all = are.processes in omega (arith, within, all)) in
        record {
          processes = length-set ends c.signer more ∙ are.processes;
          each = λ q small. elim (cases_eq q c.signer) [
            | inl same ↦ subst (IsInitsEnd g q)
                (sym (ap (slice_index (slice_set ends c.signer more)) same ∙ get_or-set_same ends c.signer more 0 wide))
                (subst (λ q. IsInitsEnd g q more) (sym same) (end-raised (slice_index ends c.signer) lt (are.each c.signer within)))
            | inr other ↦ subst (IsInitsEnd g q) (sym (get_or-set_other ends c.signer q more 0 other))
                (end-stays q (slice_index ends q) (λ e. absurd (other (sym e))) (are.each q small))
          ];
        }

  -- ---- by what the claim's statement says

  said-is : (st : Statement) (x n : ℕ) → init_said x st ≡ Some n → slot_of st ≡ InitAt x n
  said-is (Init y l payload) x n e = go (y == x) refl e
    where
      go : (b : Bool) → (y == x) ≡ b → (if b then Some l else None) ≡ Some n → InitAt y l ≡ InitAt x n
      go true same e = (λ i. InitAt (eqb-true y x same i) (some-same l n e i))
      go false same e = absurd cc
  said-is _ x n e = absurd cc

  is-said : (st : Statement) (x n : ℕ) → slot_of st ≡ InitAt x n → init_said x st ≡ None → ⊥
  is-said (Init y l payload) x n at none = go (y == x) refl none
    where
      same : y ≡ x
      same = cc

      go : (b : Bool) → (y == x) ≡ b → (if b then Some l else None) ≡ None → ⊥
      go true e none = cc
      go false e none = let both : true ≡ false = sym (eq-eqb y x same) ∙ e in cc
  is-said _ x n at none = cc

  said-small : (st : Statement) (x n : ℕ) → init_said x st ≡ Some n → IsStatement st → n < 1024
  said-small (Init y l payload) x n e is = go (y == x) e
    where
      go : (b : Bool) → (if b then Some l else None) ≡ Some n → n < 1024
      go true e = let same = some-same l n e in let le = is.1 in omega (arith, same, le)
      go false e = absurd cc
  said-small _ x n e is = absurd cc

  pub one-heard : (ends : List ℕ) (x n : ℕ) → h.view.number ≡ x → init_said x c.statement ≡ Some n → IsStatement c.statement → c.signer < 64
      → AreInitsEnds h ends → AreInitsEnds g (slice_set ends c.signer (max (slice_index ends c.signer) (n + 1)))
  one-heard ends x n view said is within = raised n
      (said-is c.statement h.view.number n (ap (λ x. init_said x c.statement) view ∙ said)) ends within (said-small c.statement x n said is)

  pub none-more : (ends : List ℕ) (x : ℕ) → h.view.number ≡ x → init_said x c.statement ≡ None → AreInitsEnds h ends → AreInitsEnds g ends
  none-more ends x view none are = record {
    processes = are.processes;
    each = λ q small. end-stays q (slice_index ends q)
        (λ _ l at. is-said c.statement h.view.number l at (ap (λ x. init_said x c.statement) view ∙ none)) (are.each q small);
  }
