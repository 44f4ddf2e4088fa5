-- A Ready that is certified, and claims in range.
use Rattle.std.proofs.Common.{◌≡◌, ℕ, List, [], ◌∷◌, ◌++◌, map, Bool, true, false, Some, refl, ap, subst}
use Rattle.std.specs.Prelude.{if◌then◌else◌, is_some, option_and_then, IsTrue}
use Rattle.std.specs.List.{AllByRecursion}
use Rattle.message_defs.specs.Updates.{Value}
use Rattle.message_defs.specs.Statements.{Statement, Ready, ReadyAt, Claim, slot_of, value_of}
use Rattle.message_defs.specs.Spelling.{IsClaim}
use Rattle.group_defs.specs.Views.{IsView}
use Rattle.group_defs.specs.Process.{Pool}
use Rattle.group_defs.specs.Certified.{heard_on, is_certified, value_at}
use Rattle.rule_laws.proofs.Certified.{backer}
use Rattle.pool_laws.proofs.Grown.{is-certified}
use Rattle.pool_laws.proofs.Members.{Mem, mem-map}
use Rattle.reliable_mcast.specs.Certificates.{IsRanged}
use Rattle.image_parts.specs.Heard.{with_own}
use Rattle.restored_past.specs.Hearing.{with_all}

pub value_certain : (h : Pool) → IsView h.view → (rank : ℕ) (v : Value) → IsTrue (is_certified h (Ready h.view.number rank v))
    → value_at h (ReadyAt h.view.number rank) ≡ Some v
value_certain h view rank v certified =
    let st : Statement = Ready h.view.number rank v in
    let heard = (backer h st view.some certified).1 in
    ap (option_and_then value_of) (is-certified h view.some (slot_of st) st
    (subst (λ st. Mem st (map (λ (c : Claim). c.statement) h.heard)) heard.3 (mem-map (λ (c : Claim). c.statement) h.heard heard.0 heard.1))
    refl certified)

ranged-snoc : (cs : List Claim) (c : Claim) → AllByRecursion IsClaim cs → IsClaim c → AllByRecursion IsClaim (cs ++ c ∷ [])
ranged-snoc [] c all is = (is, tt)
ranged-snoc (d ∷ cs) c all is = (all.0, ranged-snoc cs c all.1 is)

-- one more that is in range
pub ranged_more : (h : Pool) (c : Claim) → IsRanged h → IsClaim c → IsRanged (with_all h (c ∷ []))
ranged_more h c all is = go (is_some (heard_on h c.signer (slot_of c.statement)))
  where
    go : (b : Bool) → IsRanged (if b then h else record { view = h.view; heard = h.heard ++ c ∷ [] })
    go true = all
    go false = ranged-snoc h.heard c all is

-- and the view is the same
pub view_stays : (h : Pool) (c : Claim) → (with_all h (c ∷ [])).view ≡ h.view
view_stays h c = go (is_some (heard_on h c.signer (slot_of c.statement)))
  where
    go : (b : Bool) → (let g : Pool = if b then h else record { view = h.view; heard = h.heard ++ c ∷ [] } in g.view ≡ h.view)
    go true = refl
    go false = refl
