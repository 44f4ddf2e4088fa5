-- Of each slot one content is backed.
use Rattle.std.proofs.Common.{◌≡◌, ◌≢◌, ℕ, List, Some, sym, ap, ◌∙◌, slice_get}
use Rattle.group_defs.specs.Below.{Statement, Claim, slot_of}
use Rattle.group_defs.specs.Process.{Setting}
use Rattle.group_defs.specs.Family.{Correct, end_of, statements_of}
use Rattle.group_defs.specs.Laws.{may_back, OneContent}
use Rattle.pool_laws.proofs.Members.{Mem, map-mem}
use Rattle.safety_laws.proofs.OnePerSlot.{one_per_slot}
use Rattle.pool_laws.proofs.Places.{Compared, Pairs, ahead, all-pairs, behind, compared, level, mem-slice_get}
use Rattle.safety_laws.proofs.Quorums.{enough-of, meeting, signed-by}
use Rattle.pool_laws.proofs.Tests.{some-same}

-- one signed list has one claim of a slot
one-claim : (cs : List Claim) → Pairs (λ c d. slot_of c.statement ≢ slot_of d.statement) cs → (a b : Claim) → Mem a cs → Mem b cs
    → slot_of a.statement ≡ slot_of b.statement → a ≡ b
one-claim cs once a b m n e =
    let i = mem-slice_get cs a m in
    let j = mem-slice_get cs b n in
    go i.0 j.0 i.1 j.1 (compared i.0 j.0)
  where
    go : (i j : ℕ) → slice_get cs i ≡ Some a → slice_get cs j ≡ Some b → Compared i j → a ≡ b
    go i j at_i at_j (ahead lt) = absurd (once i j a b lt at_i at_j e)
    go i j at_i at_j (behind lt) = absurd (once j i b a lt at_j at_i (sym e))
    go i j at_i at_j (level same) = some-same a b (sym at_i ∙ ap (slice_get cs) same ∙ at_j)

pub one-of-slot : (s : Setting) (c : Correct) (st other : Statement) → Mem st (statements_of (end_of s c))
    → Mem other (statements_of (end_of s c)) → slot_of st ≡ slot_of other → st ≡ other
one-of-slot s c st other m n same =
    let cs : List Claim = (end_of s c).signed in
    let a = map-mem (λ (c : Claim). c.statement) cs st m in
    let b = map-mem (λ (c : Claim). c.statement) cs other n in
    let slots : slot_of a.0.statement ≡ slot_of b.0.statement = ap slot_of a.2 ∙ same ∙ sym (ap slot_of b.2) in
    sym a.2 ∙ ap (λ (c : Claim). c.statement)
    (one-claim cs (all-pairs (λ c d. slot_of c.statement ≢ slot_of d.statement) cs
    (one_per_slot s c.me c.batch_limit c.turns)) a.0 b.0 a.1 b.1 slots) ∙ b.2

pub one_content : OneContent
one_content f v st other one backed backed' same =
    let c = meeting f v one (may_back f st) (may_back f other) (enough-of f v st backed) (enough-of f v other backed') in
    one-of-slot f.setting c.0 st other (signed-by f st c.0 c.1 c.2) (signed-by f other c.0 c.1 c.3) same
