-- What decides.
use Rattle.std.proofs.Common.{◌≡◌, ℕ, Option, Some, None, refl, sym}
use Rattle.std.specs.Prelude.{IsSome, IfSome}
use Rattle.std.specs.Option.{option_map}
use Rattle.message_defs.specs.Statements.{Statement, Ready, ReadyAt, slot_of}
use Rattle.group_defs.specs.Process.{Pool}
use Rattle.group_defs.specs.Certified.{certified_on, readied}
use Rattle.pool_laws.proofs.Heard.{certified_on-is}

ready-readied : (st : Statement) (x r : ℕ) → slot_of st ≡ ReadyAt x r → IsSome (readied st)
ready-readied (Ready y q v) x r e = refl
ready-readied _ x r e = absurd cc

-- what is certified of a rank's Readies is a Ready
pub certified-readied : {A : Type 0} (content : A → Statement) (h : Pool) (x r : ℕ) (o : Option A)
    → option_map content o ≡ certified_on h (ReadyAt x r) → IfSome o (λ a. IsSome (readied (content a)))
certified-readied content h x r None e = tt
certified-readied content h x r (Some a) e = ready-readied (content a) x r ((certified_on-is h (ReadyAt x r) (content a) (sym e)).1)
