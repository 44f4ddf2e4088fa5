-- What a process may sign is not beyond what it would hear.
use Rattle.std.proofs.Common.{◌≡◌, ℕ, ◌+◌, ◌-◌, ◌<◌, ◌≤◌, min, List, true, false, refl, subst, arith, slice_get}
use Rattle.std.specs.Prelude.{◌==◌, nat_lt, nat_le}
use Rattle.std.proofs.lemmas.Bool.{ltb-true, leb-false, lt-leb, eqb-true}
use Rattle.std.proofs.lemmas.List.Quantifiers.{position-Some}
use Rattle.message_defs.specs.Statements.{Statement, Init, Echo, Order, Place, Keep, Notify, End, Last, Suggest, Ack, Ready, Claim}
use Rattle.group_defs.specs.Views.{rank_of}
use Rattle.group_defs.specs.Process.{Setting, Delivered, Process, places_in, delivered_from}
use Rattle.group_defs.specs.Certified.{number_of_members, placed, removed_rank, says}
use Rattle.group_defs.specs.Hearing.{is_beyond}
use Rattle.group_defs.specs.Due.{window, may_sign, is_of_rank, same_batch}
use Rattle.pool_laws.proofs.Heard.{Said, heard-says, rank-says, certified-heard, placed-at, place-certified}
use Rattle.pool_laws.proofs.Members.{Mem, list_any-mem, mem-some}
use Rattle.pool_laws.proofs.Places.{slice_get-length}
use Rattle.pool_laws.proofs.Tests.{and-first, and-second, some-and}
use Rattle.safety_laws.proofs.MaySign.{signing-due, signing-member}

-- each heard claim is within
abbrev pub AreWithin : Process → Type 0
AreWithin p = (c : Claim) → Mem c p.pool.heard → is_beyond p c.signer c.statement ≡ false

below : (a b : ℕ) → nat_lt a b ≡ true → nat_le b a ≡ false
below a b lt = lt-leb b a (ltb-true a b lt)

said-within : (p : Process) → AreWithin p → (a : ℕ) (st : Statement) → Said p.pool a st → is_beyond p a st ≡ false
said-within p all a st said = subst (λ (x : ℕ). is_beyond p x st ≡ false) said.2 (subst (λ (x : Statement). is_beyond p said.0.signer x ≡ false) said.3 (all said.0 said.1))

rank-within : (p : Process) (me r : ℕ) → is_of_rank p me r ≡ true → nat_le (number_of_members p.pool) r ≡ false
rank-within p me r of =
    let at = some-and (rank_of p.pool.view me) (λ rank. rank == r) of in
    let far = (position-Some (λ q. q == me) p.pool.view.members at.0 0 at.1).0 in
    let same = eqb-true at.0 r at.2 in
    lt-leb (number_of_members p.pool) r (omega (arith, far, same))

pub may-within : (s : Setting) (p : Process) (st : Statement) → may_sign s p st ≡ true → AreWithin p → is_beyond p p.me st ≡ false
may-within s p (Init x l payload) may all = below l (delivered_from p.me p.delivered + window)
    (and-first _ _ (and-first _ _ (signing-due s p (Init x l payload) may)))
may-within s p (Echo x m payload) may all = said-within p all m.sender (Init x m.number payload)
    (heard-says p.pool (Init x m.number payload) m.sender (and-first _ _ (signing-due s p (Echo x m payload) may)))
may-within s p (Order x k b) may all =
    let due = signing-due s p (Order x k b) may in
    below k (places_in p.delivered + window) (and-second _ _ (and-first _ _ (and-first _ _ (and-first _ _ due))))
may-within s p (Place x k b) may all =
    let said = rank-says p 0 (Order x k b) (and-first _ _ (and-first _ _ (and-first _ _ (and-first _ _ (and-first _ _ (signing-due s p (Place x k b) may)))))) in
    said-within p all said.0 (Order x k b) said.1
may-within s p (Keep x k b) may all =
    let at = some-and (slice_get (placed p.pool) k) (same_batch b) (and-first _ _ (signing-due s p (Keep x k b) may)) in
    let said = certified-heard p.pool (Place p.pool.view.number k at.0) p.me (signing-member s p (Keep x k b) may)
    (place-certified p.pool k at.0 (placed-at p.pool k at.0 at.1)) in
    said-within p all said.0 (Place p.pool.view.number k at.0) said.1
may-within s p (Notify x u) may all = refl
may-within s p (End x k) may all = refl
may-within s p (Last x r ready) may all =
    let same = eqb-true r (removed_rank p.pool) (and-first _ _ (and-first _ _ (signing-due s p (Last x r ready) may))) in
    let me = list_any-mem (λ q. q == p.me) p.pool.view.members (signing-member s p (Last x r ready) may) in
    let some = mem-some p.pool.view.members me.0 me.1 in
    lt-leb (number_of_members p.pool) r (least (number_of_members p.pool) _ r same some)
  where
    least : (n k r : ℕ) → r ≡ min (n - 1) k → 0 < n → r < n
    least n k r same some = omega (arith, same, some)
may-within s p (Suggest x r v) may all = rank-within p p.me r (and-first _ _ (and-first _ _ (signing-due s p (Suggest x r v) may)))
may-within s p (Ack x r v) may all =
    let at = some-and (slice_get p.pool.view.members r) (says p.pool (Suggest x r v)) (and-first _ _ (and-first _ _ (signing-due s p (Ack x r v) may))) in
    lt-leb (number_of_members p.pool) r (slice_get-length p.pool.view.members r at.0 at.1)
may-within s p (Ready x r v) may all =
    let said = certified-heard p.pool (Ack x r v) p.me (signing-member s p (Ready x r v) may) (and-first _ _ (signing-due s p (Ready x r v) may)) in
    said-within p all said.0 (Ack x r v) said.1

-- ---- what is within stays so as more is delivered

wider : (a b l : ℕ) → a ≤ b → nat_le (a + window) l ≡ false → nat_le (b + window) l ≡ false
wider a b l le beyond = lt-leb (b + window) l (let far = leb-false (a + window) l beyond in omega (arith, far, le))

pub within-stays : (p : Process) (ds : List Delivered) → places_in p.delivered ≤ places_in ds
    → ((q : ℕ) → delivered_from q p.delivered ≤ delivered_from q ds) → (a : ℕ) (st : Statement) → is_beyond p a st ≡ false
    → is_beyond (record p { delivered = ds }) a st ≡ false
within-stays p ds places counts a (Init x l payload) was = wider _ _ l (counts a) was
within-stays p ds places counts a (Echo x m payload) was = wider _ _ m.number (counts m.sender) was
within-stays p ds places counts a (Order x k b) was = wider _ _ k places was
within-stays p ds places counts a (Place x k b) was = wider _ _ k places was
within-stays p ds places counts a (Keep x k b) was = wider _ _ k places was
within-stays p ds places counts a (Notify x u) was = refl
within-stays p ds places counts a (End x k) was = refl
within-stays p ds places counts a (Last x r ready) was = was
within-stays p ds places counts a (Suggest x r v) was = was
within-stays p ds places counts a (Ack x r v) was = was
within-stays p ds places counts a (Ready x r v) was = was
