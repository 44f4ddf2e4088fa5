-- A backed Ready fixes the value of every backed Ack from its rank on.
use Rattle.std.proofs.Common.{◌≡◌, ◌⊎◌, inl, inr, ℕ, zero, suc, ◌<◌, ◌≤◌, List, length, Option, Some, Bool, true, false, refl, sym, ap, subst, arith, true≢false}
use Rattle.std.specs.Prelude.{◌&&◌, ◌==◌, nat_lt, filter, count_by, is_none, option_and_then}
use Rattle.std.specs.List.{list_any, range_with_len}
use Rattle.std.proofs.lemmas.Bool.{eqb-true, leb-true, ltb-true, ltb-false}
use Rattle.std.proofs.lemmas.List.Sums.{length-filter}
use Rattle.group_defs.specs.Below.{is_some_and, Value, Statement, Last, Ack, Ready, LastAt, slot_of, Slot}
use Rattle.group_defs.specs.Views.{View, quorum}
use Rattle.group_defs.specs.Process.{Pool, Process}
use Rattle.group_defs.specs.Certified.{heard_on, is_certified}
use Rattle.group_defs.specs.Values.{ready_said, lasts, is_at_most, is_quorum, is_free, is_first_way, is_second_way}
use Rattle.group_defs.specs.Family.{Family, end_of, statements_of, Correct}
use Rattle.group_defs.specs.Laws.{StoodSo, IsOneView, IsBacked, ReadyFixesValue}
use Rattle.safety_laws.proofs.CertifiedIsBacked.{certified_is_backed, heard-word}
use Rattle.pool_laws.proofs.Counting.{length-filter_map}
use Rattle.rule_laws.proofs.Choosing.{second-parts}
use Rattle.safety_laws.proofs.MaySign.{ack-justified, ready-certified}
use Rattle.pool_laws.proofs.Members.{Mem, list_any-mem}
use Rattle.safety_laws.proofs.Moments.{backed-due}
use Rattle.safety_laws.proofs.OneContent.{one_content}
use Rattle.pool_laws.proofs.Places.{mem-slice_get}
use Rattle.safety_laws.proofs.Quorums.{backer-in}
use Rattle.safety_laws.proofs.ReadyBeforeLast.{ready_before_last}
use Rattle.pool_laws.proofs.Slots.{last-is}
use Rattle.pool_laws.proofs.Tests.{and-second, or-cases, some-and, then-some}

-- ---- who said what in a Last

-- the member's Last at r passes the test
abbrev last_passes : Pool → ℕ → (Option (ℕ × Value) → Bool) → ℕ → Bool
last_passes h r t m = is_some_and (option_and_then ready_said (heard_on h m (LastAt h.view.number r))) t

quorum-lasts : (h : Pool) (r : ℕ) (t : Option (ℕ × Value) → Bool) → is_quorum h (count_by t (lasts h r)) ≡ true
    → quorum (length h.view.members) ≤ length (filter (last_passes h r t) h.view.members)
quorum-lasts h r t e =
    let enough = leb-true (quorum (length h.view.members)) (count_by t (lasts h r)) e in
    let counted = length-filter t (lasts h r) in
    let same = length-filter_map (λ m. option_and_then ready_said (heard_on h m (LastAt h.view.number r))) t h.view.members in
    omega (arith, enough, counted, same)

module _ (f : Family) (v : View) (one : IsOneView f v) (q : Process) (stood : StoodSo f q) (at : q.pool.view ≡ v) where
  -- a correct member's heard Last stands in its signed list
  last-signed : (c : Correct) → Mem c f.correct → (r : ℕ) (t : Option (ℕ × Value) → Bool) → last_passes q.pool r t c.me ≡ true
      → (ready : Option (ℕ × Value)) × Mem (Last v.number r ready) (statements_of (end_of f.setting c)) × (t ready ≡ true)
  last-signed c m r t e =
      let slot : Slot = LastAt q.pool.view.number r in
      let said = some-and (option_and_then ready_said (heard_on q.pool c.me slot)) t e in
      let statement = then-some ready_said (heard_on q.pool c.me slot) said.0 said.1 in
      let word = heard-word f v q one stood c m slot statement.0 statement.1 in
      let sts : List Statement = statements_of (end_of f.setting c) in
      let is : Mem (Last q.pool.view.number r said.0) sts = subst (λ st. Mem st sts)
      (last-is statement.0 q.pool.view.number r said.0 statement.2 word.1) word.0 in
      (said.0, subst (λ (u : View). Mem (Last u.number r said.0) sts) at is, said.2)

  -- where it has signed a Ready of a lower rank, it reports one as late
  last-reports : (c : Correct) → Mem c f.correct → (r r' : ℕ) (w : Value) → r < r'
      → Mem (Ready v.number r w) (statements_of (end_of f.setting c)) → (t : Option (ℕ × Value) → Bool)
      → last_passes q.pool r' t c.me ≡ true
      → (r1 : ℕ) × (w1 : Value) × (t (Some (r1, w1)) ≡ true) × (r ≤ r1)
  last-reports c m r r' w lt ready t e =
      let last = last-signed c m r' t e in
      let sts : List Statement = statements_of (end_of f.setting c) in
      let i = mem-slice_get sts (Ready v.number r w) ready in
      let j = mem-slice_get sts (Last v.number r' last.0) last.1 in
      let report = (ready_before_last f.setting c.me c.batch_limit c.turns i.0 j.0 v.number r r' w last.0 i.1 j.1 lt).1 in
      (report.0, report.1, subst (λ o. t o ≡ true) report.2 last.2, report.3)

  -- so of a quorum of Lasts one does
  one-reports : (r r' : ℕ) (w : Value) → r < r' → IsBacked f v (Ready v.number r w) → (t : Option (ℕ × Value) → Bool)
      → is_quorum q.pool (count_by t (lasts q.pool r')) ≡ true → (r1 : ℕ) × (w1 : Value) × (t (Some (r1, w1)) ≡ true) × (r ≤ r1)
  one-reports r r' w lt ready t e =
      let lasting = subst (λ (u : View). quorum (length u.members) ≤ length (filter (last_passes q.pool r' t) u.members)) at
      (quorum-lasts q.pool r' t e) in
      let c = backer-in f v (Ready v.number r w) one ready (last_passes q.pool r' t) lasting in
      last-reports c.0 c.1 r r' w lt c.3 t c.2

module _ (f : Family) (v : View) (one : IsOneView f v) where
  -- a Ready was due where its Ack is certified
  pub ready-ack : (r : ℕ) (w : Value) → IsBacked f v (Ready v.number r w) → IsBacked f v (Ack v.number r w)
  ready-ack r w ready =
      let due = backed-due f v (Ready v.number r w) one ready refl in
      certified_is_backed f v due.0 (Ack v.number r w) one due.1 due.2 (ready-certified f.setting due.0 v.number r w due.3)

  ack-value : (a b : ℕ) (w w' : Value) → a ≡ b → Ack v.number a w' ≡ Ack v.number b w → w' ≡ w
  ack-value a b w w' e same = cc

  same-rank : (r r' : ℕ) (w w' : Value) → r ≡ r' → IsBacked f v (Ready v.number r w) → IsBacked f v (Ack v.number r' w') → w' ≡ w
  same-rank r r' w w' e ready ack = ack-value r' r w w' (sym e)
      (one_content f v (Ack v.number r' w') (Ack v.number r w) one ack (ready-ack r w ready)
      (ap (λ k. slot_of (Ack v.number k w')) (sym e)))

  -- the Ack was due where its value is justified, and a justified value is that of a lower rank
  higher-rank : (r r' : ℕ) (w w' : Value) → r < r' → IsBacked f v (Ready v.number r w) → IsBacked f v (Ack v.number r' w')
      → ((r0 : ℕ) → r0 < r' → IsBacked f v (Ack v.number r0 w') → r ≤ r0 → w' ≡ w) → w' ≡ w
  higher-rank r r' w w' lt ready ack lower =
      let due = backed-due f v (Ack v.number r' w') one ack refl in
      let justified = ack-justified f.setting due.0 v.number r' w' due.3 in
      ways due.0 due.1 due.2 (or-cases (is_free f.setting due.0.pool w' && is_first_way due.0.pool r')
      (list_any (λ r0. is_second_way due.0.pool r' r0 w') (range_with_len 0 r')) justified)
    where
      ways : (q : Process) → StoodSo f q → q.pool.view ≡ v
          → ((is_free f.setting q.pool w' && is_first_way q.pool r') ≡ true)
          ⊎ (list_any (λ r0. is_second_way q.pool r' r0 w') (range_with_len 0 r') ≡ true) → w' ≡ w
      ways q stood at (inl first) = elim
          (or-cases (r' == 0) (is_quorum q.pool (count_by is_none (lasts q.pool r'))) (and-second _ _ first)) [
            | inl none ↦ absurd (let e = eqb-true r' 0 none in omega (arith, e, lt))
            | inr enough ↦ absurd (let report = one-reports f v one q stood at r r' w lt ready is_none enough in true≢false (sym report.2))
          ]
      ways q stood at (inr second) =
          let found = list_any-mem (λ r0. is_second_way q.pool r' r0 w') (range_with_len 0 r') second in
          let r0 = found.0 in
          let way = second-parts q.pool r' r0 w' found.2 in
          let report = one-reports f v one q stood at r r' w lt ready (is_at_most r0) way.1 in
          let most : report.0 ≤ r0 = leb-true report.0 r0 report.2 in
          let least : r ≤ report.0 = report.3 in
          let certified : is_certified q.pool (Ack v.number r0 w')
          ≡ true = subst (λ (u : View). is_certified q.pool (Ack u.number r0 w') ≡ true) at way.3 in
          lower r0 (ltb-true r0 r' way.0) (certified_is_backed f v q (Ack v.number r0 w') one stood at certified)
          (omega (arith, most, least))

  -- by the ranks below fuel
  fixed : (fuel r r' : ℕ) (w w' : Value) → r' < fuel → r ≤ r' → IsBacked f v (Ready v.number r w) → IsBacked f v (Ack v.number r' w')
      → w' ≡ w
  fixed zero r r' w w' room le ready ack = absurd (omega (arith, room))
  fixed (suc fuel) r r' w w' room le ready ack = go (nat_lt r r') refl
      (λ r0 lt backed le'. fixed fuel r r0 w w' (omega (arith, room, lt)) le' ready backed)
    where
      go : (b : Bool) → nat_lt r r' ≡ b → ((r0 : ℕ) → r0 < r' → IsBacked f v (Ack v.number r0 w') → r ≤ r0 → w' ≡ w) → w' ≡ w
      go true e lower = higher-rank r r' w w' (ltb-true r r' e) ready ack lower
      go false e lower = same-rank r r' w w' (let ge = ltb-false r r' e in omega (arith, ge, le)) ready ack

pub ready_fixes_value : ReadyFixesValue
ready_fixes_value f v r r' w w' one ready ack le = fixed f v one (suc r') r r' w w' (omega arith) le ready ack
