-- Who makes the claims of a frame, and that nobody else is convicted by them.
use Rattle.std.proofs.Common.{◌≡◌, ℕ, Bool, true, false, List, [], ◌∷◌, refl, sym, ap, ◌∙◌}
use Rattle.std.specs.Prelude.{◌&&◌, ◌||◌, ◌==◌, cond}
use Rattle.byte_defs.specs.Members.{has}
use Rattle.message_defs.specs.Statements.{Claim}
use Rattle.group_defs.specs.Process.{Setting}
use Rattle.group_defs.specs.Hearing.{is_valid}
use Rattle.rp_base.specs.Pids.{put_once}
use Rattle.claim_index.proofs.Sets.{has-put_once}
use Rattle.conviction_defs.specs.Convictions.{claims_by, has_conflict, is_convicted}
use Rattle.guard_service.specs.Evidence.{makes_one}

-- ---- claim after claim

or-moved : (a b c : Bool) → ((a || b) || c) ≡ (b || (a || c))
or-moved true true c = refl
or-moved true false c = refl
or-moved false true c = refl
or-moved false false c = refl

pub one-noted : (ps new : List ℕ) (c : Claim) (left rest : List Claim) (q : ℕ) → new ≡ put_once c.signer ps → left ≡ c ∷ rest
    → (has new q || makes_one rest q) ≡ (has ps q || makes_one left q)
one-noted ps new c left rest q put is =
    ap (λ qs. has qs q || makes_one rest q) put
    ∙ ap (λ t. t || makes_one rest q) (has-put_once c.signer q ps)
    ∙ or-moved (c.signer == q) (has ps q) (makes_one rest q)
    ∙ ap (λ cs. has ps q || makes_one cs q) (sym is)

or-false : (a : Bool) → a ≡ (a || false)
or-false true = refl
or-false false = refl

pub all-noted : (ps : List ℕ) (left : List Claim) (q : ℕ) → left ≡ [] → has ps q ≡ (has ps q || makes_one left q)
all-noted ps left q none = or-false (has ps q) ∙ ap (λ cs. has ps q || makes_one cs q) (sym none)

-- ---- who makes none is not convicted

none-by : (s : Setting) (q : ℕ) (cs : List Claim) → makes_one cs q ≡ false → claims_by s cs q ≡ []
none-by s q [] none = refl
none-by s q (c ∷ cs) none = go (c.signer == q) none (none-by s q cs)
  where
    go : (t : Bool) → (t || makes_one cs q) ≡ false → (makes_one cs q ≡ false → claims_by s cs q ≡ [])
        → cond (t && is_valid s c) (c ∷ claims_by s cs q) (claims_by s cs q) ≡ []
    go true e rest = absurd cc
    go false e rest = rest e

pub quiet : (s : Setting) (q : ℕ) (cs : List Claim) → makes_one cs q ≡ false → false ≡ is_convicted s cs q
quiet s q cs none = sym (ap has_conflict (none-by s q cs none))
