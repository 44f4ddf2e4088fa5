-- What a statement that may be signed has met.
use Rattle.std.proofs.Common.{◌≡◌, ℕ, true, Option, length, ◌<◌, ◌≤◌}
use Rattle.std.specs.Prelude.{not, ◌==◌, nat_lt, nat_le, ◌&&◌}
use Rattle.std.proofs.lemmas.Bool.{eqb-true, ltb-true, leb-true}
use Rattle.group_defs.specs.Below.{Value, Value-discrete, Update, Statement, Ack, Ready, slot_of, view_of, End, Last, Notify, option_discrete, pair_discrete}
use Rattle.group_defs.specs.Views.{is_member, is_possible}
use Rattle.group_defs.specs.Process.{Setting, Process, keyed}
use Rattle.group_defs.specs.Certified.{is_certified, is_signed, own_rank, placed, notified_updates, own_ready, removed_rank}
use Rattle.group_defs.specs.Values.{same_ready, is_justified}
use Rattle.group_defs.specs.Due.{may_sign, is_due, is_perceived}
use native.Mathlib.Decide.{ℕ_discrete}
use Rattle.pool_laws.proofs.Tests.{and-first, and-four, and-second, yes-is}

pub signing-member : (s : Setting) (q : Process) (st : Statement) → may_sign s q st ≡ true → is_member q.pool.view q.me ≡ true
signing-member s q st may = (and-four (is_member q.pool.view q.me) (view_of st == q.pool.view.number) (not (is_signed q (slot_of st)))
    (is_due s q st) may).0

pub signing-view : (s : Setting) (p : Process) (st : Statement) → may_sign s p st ≡ true → view_of st ≡ p.pool.view.number
signing-view s p st may = eqb-true (view_of st) p.pool.view.number (and-second _ _ (and-first _ _ (and-first _ _ may)))

pub signing-due : (s : Setting) (q : Process) (st : Statement) → may_sign s q st ≡ true → is_due s q st ≡ true
signing-due s q st may = and-second _ (is_due s q st) may

pub ready-certified : (s : Setting) (q : Process) (x r : ℕ) (w : Value) → may_sign s q (Ready x r w) ≡ true
    → is_certified q.pool (Ack x r w) ≡ true
ready-certified s q x r w may = and-first (is_certified q.pool (Ack x r w)) (nat_le (own_rank q) r)
    (and-second _ (is_due s q (Ready x r w)) may)

pub ack-justified : (s : Setting) (q : Process) (x r : ℕ) (w : Value) → may_sign s q (Ack x r w) ≡ true → is_justified s q.pool r w ≡ true
ack-justified s q x r w may = and-second _ (is_justified s q.pool r w) (and-second _ (is_due s q (Ack x r w)) may)

-- ---- what a kind needs

pub end-placed : (s : Setting) (q : Process) (x n : ℕ) → may_sign s q (End x n) ≡ true → n ≡ length (placed q.pool)
end-placed s q x n may = eqb-true n (length (placed q.pool))
    (and-second (nat_lt 0 (length (notified_updates q.pool))) (n == length (placed q.pool)) (signing-due s q (End x n) may))

pub last-rank : (s : Setting) (q : Process) (x r : ℕ) (ready : Option (ℕ × Value)) → may_sign s q (Last x r ready) ≡ true
    → (own_rank q < r) × (ready ≡ own_ready q)
last-rank s q x r ready may =
    let due = signing-due s q (Last x r ready) may in
    let ranks = and-first ((r == removed_rank q.pool) && nat_lt (own_rank q) r) (same_ready ready (own_ready q)) due in (
      ltb-true (own_rank q) r (and-second (r == removed_rank q.pool) (nat_lt (own_rank q) r) ranks),
      yes-is (option_discrete (pair_discrete ℕ_discrete Value-discrete) ready (own_ready q))
          (and-second ((r == removed_rank q.pool) && nat_lt (own_rank q) r) (same_ready ready (own_ready q)) due),
    )

pub ready-rank : (s : Setting) (q : Process) (x r : ℕ) (w : Value) → may_sign s q (Ready x r w) ≡ true → own_rank q ≤ r
ready-rank s q x r w may = leb-true (own_rank q) r
    (and-second (is_certified q.pool (Ack x r w)) (nat_le (own_rank q) r) (signing-due s q (Ready x r w) may))

pub notify-perceived : (s : Setting) (q : Process) (x : ℕ) (u : Update) → may_sign s q (Notify x u) ≡ true → is_perceived q (x, u) ≡ true
notify-perceived s q x u may = and-first (is_perceived q (x, u)) (is_possible (keyed s) q.pool.view u) (signing-due s q (Notify x u) may)
