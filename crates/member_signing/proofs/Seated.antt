-- What a state gives to the rules that look at it.
use Rattle.std.proofs.Common.{◌≡◌, true, false, Option, Some, None, refl, sym, ◌∙◌, ap, length}
use Rattle.std.specs.Prelude.{is_some}
use Rattle.std.specs.Option.{option_map}
use Rattle.std.proofs.lemmas.List.{length-map}
use Rattle.message_defs.specs.Statements.{Statement, slot_of}
use Rattle.group_defs.specs.Process.{Setting, Pool, Process, delivered_from}
use Rattle.group_defs.specs.Certified.{named, messages, own_orders}
use Rattle.group_defs.specs.Due.{may_sign}
use Rattle.rule_laws.proofs.Signable.{may-parts}
use Rattle.own_place.specs.declared.own.Own.{Own}
use Rattle.own_place.specs.Owns.{IsOwnOf}
use Rattle.own_place.specs.Signed.{has_slot}

-- the own place has an entry for each member
pub orders-length : (s : Setting) (p : Process) (h : Pool) (own : Own) → IsOwnOf s p h own
    → length own.orders.items ≡ length p.pool.view.members
orders-length s p h own tells = sym (ap length tells.signed.names) ∙ length-map p.pool.view.members (λ m. named m (messages (own_orders p)))

pub counts-length : (s : Setting) (p : Process) (h : Pool) (own : Own) → IsOwnOf s p h own
    → length own.counts.items ≡ length p.pool.view.members
counts-length s p h own tells = sym (ap length tells.delivered.counts) ∙ length-map p.pool.view.members (λ m. delivered_from m p.delivered)

-- the slot of what may be signed is not signed
pub fresh : (s : Setting) (p : Process) (h : Pool) (own : Own) (st : Statement) → IsOwnOf s p h own → may_sign s p st ≡ true
    → has_slot own.signed (slot_of st) ≡ false
fresh s p h own st tells may = let parts = may-parts s p st may in sym (tells.signed.slots st parts.current) ∙ parts.unsigned

-- there is something of what is mapped where there is something
pub some-mapped : {A B : Type 0} (f : A → B) (o : Option A) → is_some (option_map f o) ≡ is_some o
some-mapped f None = refl
some-mapped f (Some a) = refl
