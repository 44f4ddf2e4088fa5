-- A process signs each slot once.
use Rattle.std.proofs.Common.{◌≡◌, ◌≢◌, ℕ, List, true, refl, sym, ap, ◌∙◌}
use Rattle.group_defs.specs.Below.{Statement, Claim, slot_of}
use Rattle.group_defs.specs.Process.{Setting, Process, start}
use Rattle.group_defs.specs.Certified.{is_signed}
use Rattle.group_defs.specs.Due.{may_sign}
use Rattle.group_defs.specs.Signing.{own_claim}
use Rattle.group_defs.specs.Events.{Turn, run}
use Rattle.group_defs.specs.Laws.{OnePerSlot}
use Rattle.safety_laws.proofs.Induction.{Keeps, run-keeps}
use Rattle.safety_laws.proofs.KeepsBeforeEnd.{is_signed-mem}
use Rattle.pool_laws.proofs.Members.{Mem, each-snoc, mem-map}
use Rattle.pool_laws.proofs.Places.{Pairs, pairs-all, pairs-snoc}
use Rattle.pool_laws.proofs.Tests.{and-first, and-second, not-both}

abbrev Differ : Claim → Claim → Type 0
Differ c d = slot_of c.statement ≢ slot_of d.statement

record SignsOnce (p : Process) : Type 0 where
  pub pairs : Pairs Differ p.signed
  pub signers : (c : Claim) → Mem c p.signed → c.signer ≡ p.me

fresh : (s : Setting) (p : Process) (st : Statement) → may_sign s p st ≡ true → ((c : Claim) → Mem c p.signed → c.signer ≡ p.me)
    → (c : Claim) → Mem c p.signed → slot_of c.statement ≢ slot_of st
fresh s p st may own c m = λ e. not-both (is_signed p (slot_of st))
    (ap (is_signed p) (sym e) ∙ is_signed-mem p c.statement own (mem-map (λ (c : Claim). c.statement) p.signed c m))
    (and-second _ _ (and-first _ _ may))

keeps : (s : Setting) (from : List Claim) → Keeps s from SignsOnce
keeps s from = record {
  accepts = λ p payload ok. record { pairs = ok.pairs; signers = ok.signers };
  perceives = λ p e ok. record { pairs = ok.pairs; signers = ok.signers };
  hears = λ p c m e ok. record { pairs = ok.pairs; signers = ok.signers };
  doubts = λ p conflicts ok. record { pairs = ok.pairs; signers = ok.signers };
  signs = λ p signer st next none ok. record {
    pairs = pairs-snoc Differ p.signed (own_claim s signer p st) ok.pairs (fresh s p st next.may ok.signers);
    signers = each-snoc (λ (c : Claim). c.signer ≡ p.me) p.signed (own_claim s signer p st) ok.signers refl;
  };
  decides = λ p ok. record { pairs = ok.pairs; signers = ok.signers };
  delivers = λ p ds member room e ok. record { pairs = ok.pairs; signers = ok.signers };
  installs = λ p d decided whole ok. record { pairs = ok.pairs; signers = ok.signers };
  halts = λ p d decided member ok. record { pairs = ok.pairs; signers = ok.signers };
}

signs-once : (s : Setting) (me limit : ℕ) (turns : List Turn) → SignsOnce (run s (start s me limit) turns)
signs-once s me limit turns = run-keeps s SignsOnce turns (keeps s _) (start s me limit)
    (record { pairs = λ i j a b lt at. absurd cc; signers = λ c m. absurd m })

pub one_per_slot : OnePerSlot
one_per_slot s me limit turns = pairs-all Differ (run s (start s me limit) turns).signed (signs-once s me limit turns).pairs

pub own-signers : (s : Setting) (me limit : ℕ) (turns : List Turn) → (c : Claim) → Mem c (run s (start s me limit) turns).signed
    → c.signer ≡ (run s (start s me limit) turns).me
own-signers s me limit turns = (signs-once s me limit turns).signers
