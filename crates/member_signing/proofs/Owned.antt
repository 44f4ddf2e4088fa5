-- The own claim, as the definitions have it and as it stands in a frame.
use Rattle.std.proofs.Common.{◌≡◌, ℕ, List, Option, Some, None, refl, sym, ◌∙◌, ap}
use Rattle.std.specs.Prelude.{length}
use Rattle.std.specs.Option.{option_map}
use Rattle.message_defs.specs.Spelling.{body, spelling}
use Rattle.message_defs.specs.Packing.{Signed, signed_of, signed as signed_by}
use Rattle.message_defs.specs.Statements.{Statement, Claim}
use Rattle.group_defs.specs.Process.{Kind, Setting, Process}
use Rattle.group_defs.specs.Due.{least_due}
use Rattle.group_defs.specs.Signing.{Signer, own_claim}
use Rattle.stmt_codec.specs.Views.{signed}
use Rattle.stmt_codec.specs.declared.own.OwnClaim.{OwnClaim}

-- claims of the same parts are the same
pub claim-is : (a b : Claim) → a.signer ≡ b.signer → a.statement ≡ b.statement → a.signature ≡ b.signature → a ≡ b
claim-is a b e f g = λ i. record { signer = e i; statement = f i; signature = g i }

-- the process's claim, where group, number and count are these
pub own-is : (s : Setting) (sig : Signer) (p : Process) (st : Statement) (group : List ℕ) (me used : ℕ) → s.group ≡ group → p.me ≡ me
    → length p.signed ≡ used
    → signed_by (spelling st) me (sig used (body group me st)) ≡ signed_of (own_claim s sig p st)
own-is s sig p st group me used e f g = λ i. signed_by (spelling st) (sym f i) (sig (sym g i) (body (sym e i) (sym f i) st))

-- and with whatever signature it has
pub owned-is : (s : Setting) (p : Process) (st : Statement) (c : OwnClaim) (me : ℕ) (bytes : List ℕ)
    → signed c ≡ signed_by (spelling st) me bytes → p.me ≡ me
    → signed c ≡ signed_of (own_claim s (λ used body. c.signature) p st)
owned-is s p st c me bytes e f = λ i. signed_by ((e i).statement) (((ap (λ (m : Signed). m.signer) e) ∙ sym f) i) c.signature

-- what was made is the claim on the least statement that is due
pub made-of : (s : Setting) (sig : Signer) (p : Process) (kind : Kind) (o : Option OwnClaim) (c : OwnClaim) → o ≡ Some c
    → option_map signed o ≡ option_map (λ st. signed_of (own_claim s sig p st)) (least_due s p kind)
    → (st : Statement) × (least_due s p kind ≡ Some st) × (signed c ≡ signed_of (own_claim s sig p st))
made-of s sig p kind o c is e = go (least_due s p kind) refl (sym (ap (option_map signed) is) ∙ e)
  where
    go : (due : Option Statement) → least_due s p kind ≡ due → Some (signed c) ≡ option_map (λ st. signed_of (own_claim s sig p st)) due
        → (st : Statement) × (least_due s p kind ≡ Some st) × (signed c ≡ signed_of (own_claim s sig p st))
    go None at e = absurd cc
    go (Some st) at e = (st, at, cc)

-- where nothing was made, none is due
pub none-made : (s : Setting) (sig : Signer) (p : Process) (kind : Kind) (o : Option OwnClaim) → o ≡ None
    → option_map signed o ≡ option_map (λ st. signed_of (own_claim s sig p st)) (least_due s p kind) → least_due s p kind ≡ None
none-made s sig p kind o is e = go (least_due s p kind) (sym (ap (option_map signed) is) ∙ e)
  where
    go : (due : Option Statement) → None ≡ option_map (λ st. signed_of (own_claim s sig p st)) due → due ≡ None
    go None e = refl
    go (Some st) e = absurd cc
