-- That no correct process is convicted.
use Rattle.std.proofs.Common.{◌≡◌, ◌≢◌, true, sym, ◌∙◌}
use Rattle.std.specs.Prelude.{Contains}
use Rattle.message_defs.specs.Statements.{Claim}
use Rattle.group_defs.specs.Process.{Process}
use Rattle.group_defs.specs.Hearing.{is_valid}
use Rattle.group_defs.specs.Family.{Correct, Family, numbers, end_of, ends, handed, statements_of, IsOwned, Honest}
use Rattle.guard_laws.specs.Guards.{NoCorrectIsConvicted}
use Rattle.pool_laws.proofs.Members.{All-mem, Contains-mem, Mem, map-mem, mem-All}
use Rattle.safety_laws.proofs.OneContent.{one-of-slot}
use Rattle.safety_laws.proofs.Quorums.{in-ends, me-end_of}

-- ---- no correct process is convicted

-- a correct process's claim that was handed over is its own word
own-word : (f : Family) → Honest f → (c : Correct) → Mem c f.correct → (d : Claim) → Contains (handed f) d → is_valid f.setting d ≡ true
    → c.me ≡ d.signer → Mem d.statement (statements_of (end_of f.setting c))
own-word f honest c m d there valid signer =
    let p : Process = end_of f.setting c in
    Contains-mem (statements_of p) d.statement (All-mem (λ (p : Process). p.me ≡ d.signer → Contains (statements_of p) d.statement) (ends f) p
    (All-mem (IsOwned f) (handed f) d honest (Contains-mem (handed f) d there) valid) (in-ends f c m) (me-end_of f.setting c ∙ signer))

pub no_correct_is_convicted : NoCorrectIsConvicted
no_correct_is_convicted f q honest it = mem-All (λ p. p ≢ q) (numbers f)
    (λ p m. λ is. let c = map-mem (λ (c : Correct). c.me) f.correct p m in
    it.conflict.2 (one-of-slot f.setting c.0 it.one.statement it.other.statement
    (own-word f honest c.0 c.1 it.one it.one_of it.one_valid (c.2 ∙ is ∙ sym it.signer))
    (own-word f honest c.0 c.1 it.other it.other_of it.other_valid (c.2 ∙ is ∙ sym it.signer ∙ it.conflict.0)) it.conflict.1))
