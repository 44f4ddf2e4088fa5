-- How many back a statement: no more than 16, and a quorum where it is certified.
use Rattle.std.proofs.Common.{◌≡◌, ◌≤◌, Option, Some, length, arith, sym}
use Rattle.std.specs.Prelude.{option_and_then}
use Rattle.std.proofs.lemmas.Bool.{leb-true}
use Rattle.byte_defs.specs.Orders.{sorted}
use Rattle.message_defs.specs.Statements.{Statement, Slot}
use Rattle.group_defs.specs.Views.{IsView, quorum}
use Rattle.group_defs.specs.Process.{Pool}
use Rattle.group_defs.specs.Certified.{says, backers, certified_on, number_of_members}
use Rattle.pool_values.proofs.Below.{length-filter-few, certified_on-is, length-sorted, then-some}
use Rattle.own_place.specs.Claims.{by_number}

pub few-backers : (h : Pool) (st : Statement) → IsView h.view → length (backers h st) ≤ 16
few-backers h st is = let few = length-filter-few (says h st) h.view.members in omega (arith, few, is.few)

pub enough-backers : (h : Pool) (o : Option Slot) (st : Statement) → Some st ≡ option_and_then (certified_on h) o
    → quorum (number_of_members h) ≤ length (sorted by_number (backers h st))
enough-backers h o st e =
    let slot = then-some (certified_on h) o st (sym e) in
    let enough : quorum (number_of_members h)
    ≤ length (backers h st) = leb-true (quorum (number_of_members h)) (length (backers h st)) (certified_on-is h slot.0 st slot.2).0 in
    let same = length-sorted by_number (backers h st) in
    omega (arith, enough, same)
