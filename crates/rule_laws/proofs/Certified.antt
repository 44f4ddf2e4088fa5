-- What is certified was heard, and stands on its slot alone.
use Rattle.std.proofs.Common.{◌≡◌, ℕ, ◌-◌, ◌/◌, ◌<◌, ◌≤◌, length, map, Some, true, refl, subst, arith}
use Rattle.std.proofs.lemmas.Bool.{leb-true}
use Rattle.group_defs.specs.Below.{IsClaim, IsStatement, Statement, Claim, slot_of}
use Rattle.group_defs.specs.Views.{quorum}
use Rattle.group_defs.specs.Process.{Pool}
use Rattle.group_defs.specs.Certified.{says, backers, number_of_members, is_certified, certified_on}
use Rattle.rule_laws.specs.Heard.{IsPool}
use Rattle.pool_laws.proofs.Grown.{is-certified}
use Rattle.pool_laws.proofs.Heard.{Said, heard-says}
use Rattle.pool_laws.proofs.Members.{Mem, All-mem, filter-mem, mem-map, some-mem}

-- one of those who back it said it
pub backer : (h : Pool) (st : Statement) → 1 ≤ length h.view.members → is_certified h st ≡ true → (a : ℕ) × Said h a st
backer h st some e =
    let enough = leb-true (quorum (number_of_members h)) (length (backers h st)) e in
    let m = some-mem (backers h st) (above (number_of_members h) (length (backers h st)) some enough) in
    (m.0, heard-says h st m.0 (filter-mem (says h st) h.view.members m.0 m.1).1)
  where
    above : (n k : ℕ) → 1 ≤ n → n - (n - 1) / 3 ≤ k → 0 < k
    above n k pos le = omega (arith, pos, le)

-- so it is the one that is certified on its slot
pub certified-on : (h : Pool) → IsPool h → (st : Statement) → is_certified h st ≡ true → certified_on h (slot_of st) ≡ Some st
certified-on h pool st e =
    let said = (backer h st pool.view.some e).1 in
    is-certified h pool.view.some (slot_of st) st
    (subst (λ st. Mem st (map (λ (c : Claim). c.statement) h.heard)) said.3
    (mem-map (λ (c : Claim). c.statement) h.heard said.0 said.1)) refl e

-- and in range
pub certified-ranges : (h : Pool) → IsPool h → (st : Statement) → is_certified h st ≡ true → IsStatement st
certified-ranges h pool st e = let said = (backer h st pool.view.some e).1 in subst IsStatement said.3
    (All-mem IsClaim h.heard said.0 pool.in_range said.1).1
