-- The claims of a certificate are those of the first Q who back it.
use Rattle.std.proofs.Common.{◌≡◌, ℕ, List, [], Option, Some, None, Bool, sym, ap, ◌∙◌, take}
use Rattle.std.specs.Prelude.{if◌then◌else◌, filter_map}
use Rattle.byte_defs.specs.Orders.{sorted}
use Rattle.message_defs.specs.Statements.{Statement, Slot, Claim, slot_of}
use Rattle.group_defs.specs.Views.{quorum}
use Rattle.group_defs.specs.Process.{Pool}
use Rattle.group_defs.specs.Certified.{claim_on, backers, certified_on, certificate, certificate_on, number_of_members}
use Rattle.pool_values.proofs.Below.{certified_on-is}
use Rattle.own_place.specs.Claims.{by_number}

-- the claims that these processes have on the slot
abbrev pub claims_of : Pool → Slot → List ℕ → List Claim
claims_of h s ms = filter_map (λ m. claim_on h.heard m s) ms

-- where it is certified, with who backs it as `Pool::certificate` answers it
pub certificate-is : (h : Pool) (s : Slot) (st : Statement) (signers : List ℕ) → certified_on h s ≡ Some st
    → signers ≡ sorted by_number (backers h st) → certificate_on h s ≡ claims_of h s (take (quorum (number_of_members h)) signers)
certificate-is h s st signers e who =
    let is = certified_on-is h s st e in
    ap (λ (o : Option Statement). let it : List Claim = elim o [ None ↦ [] | Some st ↦ certificate h st ] in it) e
    ∙ ap (λ (b : Bool). if b then claims_of h (slot_of st) (take (quorum (number_of_members h)) (sorted by_number (backers h st)))
    else []) is.0
    ∙ (λ i. claims_of h (is.1 i) (take (quorum (number_of_members h)) (sym who i)))

-- and none where it is not
pub no-certificate : (h : Pool) (s : Slot) → certified_on h s ≡ None → certificate_on h s ≡ []
no-certificate h s e = ap (λ (o : Option Statement). let it : List Claim = elim o [ None ↦ [] | Some st ↦ certificate h st ] in it) e
