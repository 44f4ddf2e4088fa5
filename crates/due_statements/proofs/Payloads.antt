-- What is heard on the slot of an Init has a payload.
use Rattle.std.proofs.Common.{◌≡◌, ℕ, None, Some, sym}
use Rattle.message_defs.specs.Statements.{Statement, Init, InitAt, slot_of, payload_of}
use Rattle.group_defs.specs.Process.{Pool}
use Rattle.group_defs.specs.Certified.{heard_on}
use Rattle.pool_laws.proofs.Heard.{heard_on-said}

has-payload : (x l : ℕ) (st : Statement) → slot_of st ≡ InitAt x l → None ≡ payload_of st → ⊥
has-payload x l (Init y k payload) e none = absurd cc
has-payload x l _ e none = absurd cc

pub heard-payload : (h : Pool) (a x l : ℕ) (st : Statement) → Some st ≡ heard_on h a (InitAt x l) → None ≡ payload_of st → ⊥
heard-payload h a x l st e none = has-payload x l st (heard_on-said h a (InitAt x l) st (sym e)).1 none
