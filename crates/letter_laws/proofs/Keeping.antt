-- What a process keeps was handed to it, or it has signed it.
use Rattle.std.proofs.Common.{◌≡◌, ◌⊎◌, inl, inr, ℕ, List, [], ◌∷◌, ◌++◌, Option, Some, Bool, true, false, sym, subst}
use Rattle.std.specs.Prelude.{if◌then◌else◌, is_some, All}
use Rattle.message_defs.specs.Statements.{Ready, Claim, slot_of}
use Rattle.message_defs.specs.Spelling.{IsClaim}
use Rattle.group_defs.specs.Process.{Setting, Pool, Left, Process, start}
use Rattle.group_defs.specs.Certified.{heard_on}
use Rattle.group_defs.specs.Signing.{own_claim, own_heard}
use Rattle.group_defs.specs.Family.{handed_to}
use Rattle.group_defs.specs.Events.{run}
use Rattle.pool_laws.proofs.Members.{Mem, All-mem, mem-All, mem-behind, mem-snoc, snoc-mem}
use Rattle.safety_laws.proofs.Induction.{Keeps, run-keeps}
use Rattle.letter_laws.specs.Letters.{AreInRange, KeptIsInRange}
use Rattle.letter_laws.proofs.Claims.{certificate-heard}

-- the claim was handed over, or the process has signed it
abbrev IsKnown : List Claim → List Claim → Claim → Type 0
IsKnown from signed c = Mem c from ⊎ Mem c signed

record AreKnown (from : List Claim) (p : Process) : Type 0 where
  pub heard : (c : Claim) → Mem c p.pool.heard → IsKnown from p.signed c
  pub previous : (h : Pool) → p.previous ≡ Some h → (c : Claim) → Mem c h.heard → IsKnown from p.signed c
  pub commits : (l : Left) → Mem l p.left → (c : Claim) → Mem c l.commit → IsKnown from p.signed c

with-own : (from signed : List Claim) (own c : Claim) → IsKnown from signed c → IsKnown from (signed ++ own ∷ []) c
with-own from signed own c (inl handed) = inl handed
with-own from signed own c (inr said) = inr (mem-snoc signed own c said)

own-known : (from signed : List Claim) (own c : Claim) → own ≡ c → IsKnown from (signed ++ own ∷ []) c
own-known from signed own c same = inr (mem-behind signed (own ∷ []) c (inl same))

heard-known : (from : List Claim) (p : Process) (own : Claim) → AreKnown from p → (c : Claim) → Mem c (own_heard p own)
    → IsKnown from (p.signed ++ own ∷ []) c
heard-known from p own ok c = go (is_some (heard_on p.pool p.me (slot_of own.statement)))
  where
    go : (b : Bool) → Mem c (if b then p.pool.heard else p.pool.heard ++ own ∷ []) → IsKnown from (p.signed ++ own ∷ []) c
    go true m = with-own from p.signed own c (ok.heard c m)
    go false m = elim (snoc-mem p.pool.heard own c m) [
      | inl before ↦ with-own from p.signed own c (ok.heard c before)
      | inr same ↦ own-known from p.signed own c same
    ]

same-pool : (g h : Pool) → (let o : Option Pool = Some g in o) ≡ Some h → g ≡ h
same-pool g h e = cc

keeps : (s : Setting) (from : List Claim) → Keeps s from (AreKnown from)
keeps s from = record {
  accepts = λ p payload ok. record { heard = ok.heard; previous = ok.previous; commits = ok.commits };
  perceives = λ p e ok. record { heard = ok.heard; previous = ok.previous; commits = ok.commits };
  hears = λ p c m e ok. record {
    heard = λ d there. elim (snoc-mem p.pool.heard c d there) [
      | inl before ↦ ok.heard d before
      | inr same ↦ inl (subst (λ (x : Claim). Mem x from) same m)
    ];
    previous = ok.previous;
    commits = ok.commits;
  };
  doubts = λ p conflicts ok. record { heard = ok.heard; previous = ok.previous; commits = ok.commits };
  signs = λ p signer st next none ok. record {
    heard = heard-known from p (own_claim s signer p st) ok;
    previous = λ h e c m. with-own from p.signed (own_claim s signer p st) c (ok.previous h e c m);
    commits = λ l there c m. with-own from p.signed (own_claim s signer p st) c (ok.commits l there c m);
  };
  decides = λ p ok. record { heard = ok.heard; previous = ok.previous; commits = ok.commits };
  delivers = λ p ds member room e ok. record { heard = ok.heard; previous = ok.previous; commits = ok.commits };
  installs = λ p d decided whole ok. record {
    heard = λ c none. absurd none;
    previous = λ h e c m. ok.heard c (subst (λ (g : Pool). Mem c g.heard) (sym (same-pool p.pool h e)) m);
    commits = λ l there c m. elim (snoc-mem p.left _ l there) [
      | inl before ↦ ok.commits l before c m
      | inr same ↦ ok.heard c (certificate-heard p.pool (Ready p.pool.view.number d.0 d.1) c
          (subst (λ (l : Left). Mem c l.commit) (sym same) m))
    ];
  };
  halts = λ p d decided member ok. record { heard = ok.heard; previous = ok.previous; commits = ok.commits };
}

at-start : (s : Setting) (me limit : ℕ) (from : List Claim) → AreKnown from (start s me limit)
at-start s me limit from = record {
  heard = λ c none. absurd none;
  previous = λ h none. absurd cc;
  commits = λ l none. absurd none;
}

in-range : (from signed : List Claim) → All IsClaim from → All IsClaim signed → (c : Claim) → IsKnown from signed c → IsClaim c
in-range from signed handed said c (inl m) = All-mem IsClaim from c handed m
in-range from signed handed said c (inr m) = All-mem IsClaim signed c said m

ranged : (from : List Claim) (p : Process) → All IsClaim from → All IsClaim p.signed → AreKnown from p → AreInRange p
ranged from p handed said known = record {
  signed = said;
  heard = mem-All IsClaim p.pool.heard (λ c m. in-range from p.signed handed said c (known.heard c m));
  previous = λ h e. mem-All IsClaim h.heard (λ c m. in-range from p.signed handed said c (known.previous h e c m));
  commits = mem-All (λ (l : Left). All IsClaim l.commit) p.left
      (λ l there. mem-All IsClaim l.commit (λ c m. in-range from p.signed handed said c (known.commits l there c m)));
}

pub kept_is_in_range : KeptIsInRange
kept_is_in_range s me limit ts handed said = ranged (handed_to ts) (run s (start s me limit) ts) handed said
    (run-keeps s (AreKnown (handed_to ts)) ts (keeps s (handed_to ts)) (start s me limit) (at-start s me limit (handed_to ts)))
