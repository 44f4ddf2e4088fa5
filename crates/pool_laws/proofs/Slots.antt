-- A statement is known by its slot and what else it says.
use Rattle.std.proofs.Common.{◌≡◌, ℕ, List, Option, Some, true}
use native.Mathlib.Decide.{ℕ_discrete}
use Rattle.group_defs.specs.Below.{bytes_discrete, option_discrete, pair_discrete, Value, Value-discrete, Update-discrete, Message, Message-discrete, Batch, Batch-discrete, Statement, Statement-discrete, Echo, Place, End, Last, Ready, Slot, Slot-discrete, EchoAt, PlaceAt, EndAt, LastAt, ReadyAt, slot_of, view_of, batch_of, payload_of, value_of, same_slot, same_statement}
use Rattle.group_defs.specs.Certified.{readied}
use Rattle.group_defs.specs.Values.{length_said, ready_said}
use Rattle.pool_laws.proofs.Tests.{is-yes, yes-is}

pub same_slot-is : (a b : Slot) → same_slot a b ≡ true → a ≡ b
same_slot-is a b e = yes-is (Slot-discrete ℕ_discrete Message-discrete (Update-discrete ℕ_discrete) a b) e

pub is-same_slot : (a b : Slot) → a ≡ b → same_slot a b ≡ true
is-same_slot a b e = is-yes (Slot-discrete ℕ_discrete Message-discrete (Update-discrete ℕ_discrete) a b) e

pub same_statement-is : (a b : Statement) → same_statement a b ≡ true → a ≡ b
same_statement-is a b e = yes-is
    (Statement-discrete ℕ_discrete bytes_discrete Message-discrete Batch-discrete (Update-discrete ℕ_discrete)
    (option_discrete (pair_discrete ℕ_discrete Value-discrete)) Value-discrete a b) e

pub is-same_statement : (a b : Statement) → a ≡ b → same_statement a b ≡ true
is-same_statement a b e = is-yes
    (Statement-discrete ℕ_discrete bytes_discrete Message-discrete Batch-discrete (Update-discrete ℕ_discrete)
    (option_discrete (pair_discrete ℕ_discrete Value-discrete)) Value-discrete a b) e

pub place-is : (st : Statement) (x k : ℕ) (b : Batch) → batch_of st ≡ Some b → slot_of st ≡ PlaceAt x k → st ≡ Place x k b
place-is (Place y j c) x k b e at = let y_is : y ≡ x = cc in let j_is : j ≡ k = cc in let c_is : c
    ≡ b = cc in λ i. Place (y_is i) (j_is i) (c_is i)
place-is _ x k b e at = absurd cc

pub echo-is : (st : Statement) (x : ℕ) (m : Message) (b : List ℕ) → payload_of st ≡ Some b → slot_of st ≡ EchoAt x m → st ≡ Echo x m b
echo-is (Echo y n c) x m b e at = let y_is : y ≡ x = cc in let n_is : n ≡ m = cc in let c_is : c
    ≡ b = cc in λ i. Echo (y_is i) (n_is i) (c_is i)
echo-is _ x m b e at = absurd cc

pub end-is : (st : Statement) (x n : ℕ) → length_said st ≡ Some n → slot_of st ≡ EndAt x → st ≡ End x n
end-is (End y k) x n e at = let y_is : y ≡ x = cc in let k_is : k ≡ n = cc in λ i. End (y_is i) (k_is i)
end-is _ x n e at = absurd cc

pub last-is : (st : Statement) (x r : ℕ) (ready : Option (ℕ × Value)) → ready_said st ≡ Some ready → slot_of st ≡ LastAt x r
    → st ≡ Last x r ready
last-is (Last y q other) x r ready e at = let y_is : y ≡ x = cc in let q_is : q ≡ r = cc in let is : other
    ≡ ready = cc in λ i. Last (y_is i) (q_is i) (is i)
last-is _ x r ready e at = absurd cc

pub ready-is : (st : Statement) (x r : ℕ) (w : Value) → value_of st ≡ Some w → slot_of st ≡ ReadyAt x r → st ≡ Ready x r w
ready-is (Ready y q u) x r w e at = let y_is : y ≡ x = cc in let q_is : q ≡ r = cc in let u_is : u
    ≡ w = cc in λ i. Ready (y_is i) (q_is i) (u_is i)
ready-is _ x r w e at = absurd cc

pub readied-is : (a : Statement) (y : ℕ) (best : ℕ × Value) → readied a ≡ Some best → view_of a ≡ y → a ≡ Ready y best.0 best.1
readied-is (Ready x r v) y best e at = let is : (r, v) ≡ best = cc in λ i. Ready (at i) (is i).0 (is i).1
readied-is _ y best e at = absurd cc

-- ---- one content, one batch or payload

pub place-batch : (x k : ℕ) (a b : Batch) → Place x k a ≡ Place x k b → a ≡ b
place-batch x k a b e = cc

pub echo-payload : (x : ℕ) (a b : Message) (d e : List ℕ) → Echo x a d ≡ Echo x b e → d ≡ e
echo-payload x a b d e is = cc
