-- A backed Ack's value was free at a correct member, and each kept place is below its cut.
use Rattle.std.proofs.Common.{◌≡◌, ◌⊎◌, inl, inr, ℕ, zero, suc, ◌<◌, ◌≤◌, length, Bool, true, refl, subst, arith, List}
use Rattle.std.specs.Prelude.{◌-◌, ◌&&◌, ◌||◌, ◌==◌, nat_le, filter, count_by, is_some, option_and_then}
use Rattle.std.specs.List.{list_any, range_with_len}
use Rattle.std.proofs.lemmas.Bool.{leb-true, ltb-true}
use Rattle.std.proofs.lemmas.List.Sums.{length-filter}
use Rattle.group_defs.specs.Below.{is_some_and, Value, Statement, Keep, End, Ack, EndAt, Slot, Batch}
use Rattle.group_defs.specs.Views.{View, quorum, is_member, is_possible}
use Rattle.group_defs.specs.Process.{Setting, Pool, Process, keyed}
use Rattle.group_defs.specs.Certified.{heard_on, is_certified, is_notified, place_at}
use Rattle.group_defs.specs.Values.{length_said, ends, is_quorum, is_free, is_first_way, is_second_way}
use Rattle.group_defs.specs.Family.{Family, end_of, statements_of, Correct}
use Rattle.group_defs.specs.Laws.{StoodSo, IsOneView, IsBacked, AckedWasFree, KeptBelowCut}
use Rattle.safety_laws.proofs.CertifiedIsBacked.{certified_is_backed, heard-word}
use Rattle.pool_laws.proofs.Counting.{length-filter_map}
use Rattle.safety_laws.proofs.KeepsBeforeEnd.{keeps_before_end}
use Rattle.rule_laws.proofs.Choosing.{second-parts}
use Rattle.safety_laws.proofs.MaySign.{ack-justified, signing-member}
use Rattle.pool_laws.proofs.Members.{Mem, list_any-mem}
use Rattle.safety_laws.proofs.Moments.{backed-due}
use Rattle.pool_laws.proofs.Places.{mem-slice_get}
use Rattle.safety_laws.proofs.Quorums.{backer-in}
use Rattle.pool_laws.proofs.Slots.{end-is}
use Rattle.pool_laws.proofs.Tests.{and-first, and-four, or-cases, some-and, then-some}

abbrev WasFree : Family → View → Value → Type 0
WasFree f v w = (q : Process) × StoodSo f q × (q.pool.view ≡ v) × (is_member v q.me ≡ true) × (is_free f.setting q.pool w ≡ true)

module _ (f : Family) (v : View) (one : IsOneView f v) where
  was-free : (fuel r : ℕ) (w : Value) → r < fuel → IsBacked f v (Ack v.number r w) → WasFree f v w
  was-free zero r w room ack = absurd (omega (arith, room))
  was-free (suc fuel) r w room ack =
      let due = backed-due f v (Ack v.number r w) one ack refl in
      ways due.0 due.1 due.2 (subst (λ (u : View). is_member u due.0.me ≡ true) due.2
      (signing-member f.setting due.0 (Ack v.number r w) due.3))
      (or-cases (is_free f.setting due.0.pool w && is_first_way due.0.pool r)
      (list_any (λ r0. is_second_way due.0.pool r r0 w) (range_with_len 0 r)) (ack-justified f.setting due.0 v.number r w due.3))
      (λ r0 lt backed. was-free fuel r0 w (omega (arith, room, lt)) backed)
    where
      ways : (q : Process) → StoodSo f q → q.pool.view ≡ v → is_member v q.me ≡ true
          → ((is_free f.setting q.pool w && is_first_way q.pool r) ≡ true)
          ⊎ (list_any (λ r0. is_second_way q.pool r r0 w) (range_with_len 0 r) ≡ true)
          → ((r0 : ℕ) → r0 < r → IsBacked f v (Ack v.number r0 w) → WasFree f v w) → WasFree f v w
      ways q stood at member (inl first) lower = (
        q,
        stood,
        at,
        member,
        and-first (is_free f.setting q.pool w) (is_first_way q.pool r) first,
      )
      ways q stood at member (inr second) lower =
          let found = list_any-mem (λ r0. is_second_way q.pool r r0 w) (range_with_len 0 r) second in
          let way = second-parts q.pool r found.0 w found.2 in
          lower found.0 (ltb-true found.0 r way.0)
          (certified_is_backed f v q (Ack v.number found.0 w) one stood at
          (subst (λ (u : View). is_certified q.pool (Ack u.number found.0 w) ≡ true) at way.3))

pub acked_was_free : AckedWasFree
acked_was_free f v r w one ack = was-free f v one (suc r) r w (omega arith) ack

-- ---- the cut

-- the member's End is at most the cut
abbrev end_within : Pool → ℕ → ℕ → Bool
end_within h cut m = is_some_and (option_and_then length_said (heard_on h m (EndAt h.view.number))) (λ k. nat_le k cut)

free-quorum : (s : Setting) (h : Pool) (w : Value) → is_free s h w ≡ true
    → quorum (length h.view.members) ≤ length (filter (end_within h w.cut) h.view.members)
free-quorum s h w e =
    let parts = and-four (is_notified h w.update && is_possible (keyed s) h.view w.update)
    (is_quorum h (count_by (λ k. nat_le k w.cut) (ends h))) (list_any (λ k. k == w.cut) (ends h))
    ((w.cut == 0) || is_some (place_at h (w.cut - 1))) e in
    let enough = leb-true (quorum (length h.view.members)) (count_by (λ k. nat_le k w.cut) (ends h)) parts.1 in
    let counted = length-filter (λ k. nat_le k w.cut) (ends h) in
    let same = length-filter_map (λ m. option_and_then length_said (heard_on h m (EndAt h.view.number)))
    (λ k. nat_le k w.cut) h.view.members in
    omega (arith, enough, counted, same)

module _ (f : Family) (v : View) (one : IsOneView f v) (q : Process) (stood : StoodSo f q) (at : q.pool.view ≡ v) (c : Correct)
    (m : Mem c f.correct) where
  -- a correct member's heard End stands in its signed list
  end-signed : (cut : ℕ) → end_within q.pool cut c.me ≡ true
      → (n : ℕ) × Mem (End v.number n) (statements_of (end_of f.setting c)) × (n ≤ cut)
  end-signed cut e =
      let slot : Slot = EndAt q.pool.view.number in
      let said = some-and (option_and_then length_said (heard_on q.pool c.me slot)) (λ k. nat_le k cut) e in
      let statement = then-some length_said (heard_on q.pool c.me slot) said.0 said.1 in
      let word = heard-word f v q one stood c m slot statement.0 statement.1 in
      let sts : List Statement = statements_of (end_of f.setting c) in
      let is : Mem (End q.pool.view.number said.0) sts = subst (λ st. Mem st sts)
      (end-is statement.0 q.pool.view.number said.0 statement.2 word.1) word.0 in
      (said.0, subst (λ (u : View). Mem (End u.number said.0) sts) at is, leb-true said.0 cut said.2)

  kept-before : (cut k : ℕ) (b : Batch) → Mem (Keep v.number k b) (statements_of (end_of f.setting c)) → end_within q.pool cut c.me ≡ true
      → k < cut
  kept-before cut k b keep e =
      let end = end-signed cut e in
      let sts : List Statement = statements_of (end_of f.setting c) in
      let i = mem-slice_get sts (Keep v.number k b) keep in
      let j = mem-slice_get sts (End v.number end.0) end.1 in
      let before = (keeps_before_end f.setting c.me c.batch_limit c.turns i.0 j.0 v.number k end.0 b i.1 j.1).1 in
      let within = end.2 in
      omega (arith, before, within)

-- a member of both quorums has said so
pub kept_below_cut : KeptBelowCut
kept_below_cut f v r k w b one keep ack = go (acked_was_free f v r w one ack)
  where
    go : WasFree f v w → k < w.cut
    go (q, stood, at, member, free) =
        let enough = subst (λ (u : View). quorum (length u.members) ≤ length (filter (end_within q.pool w.cut) u.members)) at
        (free-quorum f.setting q.pool w free) in
        let c = backer-in f v (Keep v.number k b) one keep (end_within q.pool w.cut) enough in
        kept-before f v one q stood at c.0 c.1 w.cut k b c.3 c.2
