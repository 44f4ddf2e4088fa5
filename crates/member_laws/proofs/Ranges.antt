-- What a lawful process may sign is in range.
use Rattle.std.proofs.Common.{◌≡◌, inl, inr, ℕ, ◌+◌, ◌≤◌, ◌<◌, List, [], ◌∷◌, Bool, true, false, Option, None, Some, refl, sym, subst, ap, ◌∙◌, arith, length, slice_get}
use Rattle.std.specs.Prelude.{◌&&◌, ◌||◌, ◌==◌, not, nat_lt, nat_le, is_some, IsTrue, All, count_by, min, take_while}
use Rattle.std.specs.List.{AllByRecursion, list_any, range_with_len}
use Rattle.std.proofs.lemmas.Bool.{eqb-true, leb-true, ltb-true}
use native.Mathlib.Decide.{ℕ_discrete}
use Rattle.byte_defs.specs.Choices.{is_some_and}
use Rattle.byte_defs.specs.Equality.{bytes_discrete, is_yes, pair_discrete}
use Rattle.message_defs.specs.Limits.{last_process, last_number, last_rank, most_places, most_payload_bytes}
use Rattle.message_defs.specs.Spelling.{IsBatch, IsClaim, IsMessage, IsReport, IsStatement, IsUpdate, IsValue, IsViewNumber}
use Rattle.message_defs.specs.Updates.{Update, Update-discrete, Value, Value-discrete}
use Rattle.message_defs.specs.Statements.{Message, Batch, Batch-discrete, Statement, Init, Echo, Order, Place, Keep, Notify, End, Last, Suggest, Ack, Ready, Claim, EndAt, view_of}
use Rattle.group_defs.specs.Views.{is_possible, rank_of}
use Rattle.group_defs.specs.Process.{Setting, Pool, Process, keyed, earlier, delivered_from, places_in}
use Rattle.group_defs.specs.Certified.{says, is_certified, is_ended, is_notified, heard_on, messages, number_of_members, own_orders, own_rank, own_ready, payload_at, place_at, placed, removed_rank, notified_updates}
use Rattle.group_defs.specs.Values.{same_ready, choose, ends, is_first_way, is_free, is_justified, is_quorum, is_second_way, length_said}
use Rattle.group_defs.specs.Due.{may_sign, is_due, is_of_rank, is_perceived, next_batch, rank_says, same_batch, same_value, window}
use Rattle.pool_laws.proofs.Heard.{Said, heard-says, heard_on-said, payload-certified, place-certified, placed-at, rank-says}
use Rattle.pool_laws.proofs.Members.{All-mem, Mem, filter_map-mem, list_any-mem, map-mem}
use Rattle.pool_laws.proofs.Places.{slice_get-length, slice_get-mem}
use Rattle.pool_laws.proofs.Tests.{and-first, and-second, or-cases, some-and, then-some, yes-is}
use Rattle.rule_laws.specs.Heard.{IsPool}
use Rattle.rule_laws.proofs.Certified.{certified-ranges}
use Rattle.rule_laws.proofs.Choosing.{deputy_adopts}
use Rattle.rule_laws.proofs.Keeping.{placed-few}
use Rattle.rule_laws.proofs.Notifying.{heard-notified, notified-heard}
use Rattle.rule_laws.proofs.Ranks.{rank-at}
use Rattle.rule_laws.proofs.Signable.{may-parts}
use Rattle.safety_laws.proofs.OfTheView.{next-certified}
use Rattle.safety_laws.proofs.OrdersWithin.{order-within}
use Rattle.safety_laws.proofs.ReadyBeforeLast.{own-mem, own_ready-mem, rank_said-own}
use Rattle.safety_laws.proofs.MaySign.{last-rank}
use Rattle.member_laws.specs.Lawful.{IsLawful, DueIsInRange}

-- ---- what is heard

said-ranges : (h : Pool) → IsPool h → (a : ℕ) (st : Statement) → Said h a st → (a ≤ last_process) × IsStatement st
said-ranges h pool a st said =
    let range = All-mem IsClaim h.heard said.0 pool.in_range said.1 in
    (subst (λ a. a ≤ last_process) said.2 range.0, subst IsStatement said.3 range.1)

each-message : (b : Batch) → ((m : Message) → Mem m b → IsMessage m) → AllByRecursion IsMessage b
each-message [] each = tt
each-message (m ∷ ms) each = (each m (inl refl), each-message ms (λ n there. each n (inr there)))

payload-ranges : (h : Pool) → IsPool h → (m : Message) → is_some (payload_at h m) ≡ true → IsMessage m
payload-ranges h pool m e = go (payload_at h m) refl e
  where
    go : (o : Option (List ℕ)) → payload_at h m ≡ o → is_some o ≡ true → IsMessage m
    go None is e = absurd cc
    go (Some b) is e = (certified-ranges h pool (Echo h.view.number m b) (payload-certified h m b is)).1

-- ---- values

notified-ranges : (h : Pool) → IsPool h → (u : Update) → is_notified h u ≡ true → IsUpdate u
notified-ranges h pool u e = (heard-notified h pool u (notified-heard h u e)).1

end-ranges : (h : Pool) → IsPool h → (k : ℕ) → Mem k (ends h) → k ≤ most_places
end-ranges h pool k there =
    let by = filter_map-mem _ h.view.members k there in
    let said = then-some length_said (heard_on h by.0 (EndAt h.view.number)) k by.2 in
    of said.0 (said-ranges h pool by.0 said.0 (heard_on-said h by.0 (EndAt h.view.number) said.0 said.1).0).1 said.2
  where
    of : (st : Statement) → IsStatement st → length_said st ≡ Some k → k ≤ most_places
    of (End x n) range e = (let same : n ≡ k = cc in subst (λ n. n ≤ most_places) same range.1)
    of _ range e = absurd cc

free-ranges : (s : Setting) (h : Pool) → IsPool h → (v : Value) → is_free s h v ≡ true → IsValue v
free-ranges s h pool v free =
    let four = and-first (is_notified h v.update && is_possible (keyed s) h.view v.update
    && is_quorum h (count_by (λ k. nat_le k v.cut) (ends h)) && list_any (λ k. k == v.cut) (ends h)) _ free in
    let three = and-first (is_notified h v.update && is_possible (keyed s) h.view v.update
    && is_quorum h (count_by (λ k. nat_le k v.cut) (ends h))) (list_any (λ k. k == v.cut) (ends h)) four in
    let two = and-first (is_notified h v.update && is_possible (keyed s) h.view v.update) _ three in
    let said = list_any-mem (λ k. k == v.cut) (ends h)
    (and-second (is_notified h v.update && is_possible (keyed s) h.view v.update && is_quorum h (count_by (λ k. nat_le k v.cut) (ends h)))
    (list_any (λ k. k == v.cut) (ends h)) four) in (
      notified-ranges h pool v.update (and-first _ _ two),
      subst (λ k. k ≤ most_places) (eqb-true said.0 v.cut said.2) (end-ranges h pool said.0 said.1),
    )

second-ranges : (h : Pool) → IsPool h → (r r0 : ℕ) (v : Value) → is_second_way h r r0 v ≡ true → IsValue v
second-ranges h pool r r0 v e = (certified-ranges h pool (Ack h.view.number r0 v)
    (and-second _ (is_certified h (Ack h.view.number r0 v)) e)).2

justified-ranges : (s : Setting) (h : Pool) → IsPool h → (r : ℕ) (v : Value) → is_justified s h r v ≡ true → IsValue v
justified-ranges s h pool r v e = elim
    (or-cases (is_free s h v && is_first_way h r) (list_any (λ r0. is_second_way h r r0 v) (range_with_len 0 r)) e) [
      | inl first ↦ free-ranges s h pool v (and-first (is_free s h v) (is_first_way h r) first)
      | inr second ↦ (let by = list_any-mem (λ r0. is_second_way h r r0 v)
          (range_with_len 0 r) second in second-ranges h pool r by.0 v by.2)
    ]

-- ---- what may be signed

module _ (s : Setting) (p : Process) (ok : IsLawful p) where
  here : (x : ℕ) → x ≡ p.pool.view.number → IsViewNumber x
  here x at = subst IsViewNumber (sym at) ok.number

  ranges : (st : Statement) → may_sign s p st ≡ true → view_of st ≡ p.pool.view.number → is_due s p st ≡ true → IsStatement st
  ranges (Init x l payload) may at due =
      let window' = and-first (nat_lt l (delivered_from p.me p.delivered + window) && nat_le l last_number)
      (is_some_and (slice_get p.accepted (earlier p + l)) (λ accepted. is_yes (bytes_discrete payload accepted))) due in
      let taken = some-and (slice_get p.accepted (earlier p + l)) (λ accepted. is_yes (bytes_discrete payload accepted))
      (and-second (nat_lt l (delivered_from p.me p.delivered + window) && nat_le l last_number) _ due) in (
        here x at,
        leb-true l last_number (and-second _ (nat_le l last_number) window'),
        subst (λ b. length b ≤ most_payload_bytes) (sym (yes-is (bytes_discrete payload taken.0) taken.2))
            (All-mem (λ (b : List ℕ). length b ≤ most_payload_bytes) p.accepted taken.0 ok.short
            (slice_get-mem p.accepted (earlier p + l) taken.0 taken.1)),
      )
  ranges (Echo x m payload) may at due =
      let said = said-ranges p.pool ok.pool m.sender (Init x m.number payload)
      (heard-says p.pool (Init x m.number payload) m.sender
      (and-first (says p.pool (Init x m.number payload) m.sender) (not (is_ended p)) due)) in
      (said.1.0, (said.0, said.1.1), said.1.2)
  ranges (Order x k b) may at due =
      let few = order-within s p x k b may in
      let is : b ≡ next_batch p = yes-is (Batch-discrete b (next_batch p)) (and-second _ (same_batch b (next_batch p)) due) in
      let tests = and-first (is_of_rank p p.me 0 && not (is_ended p) && (k == length (own_orders p))
      && nat_lt k (places_in p.delivered + window) && nat_le k last_number) (nat_lt 0 (length b))
      (and-first (is_of_rank p p.me 0 && not (is_ended p) && (k == length (own_orders p)) && nat_lt k (places_in p.delivered + window)
      && nat_le k last_number && nat_lt 0 (length b)) (same_batch b (next_batch p)) due) in (
        here x at,
        leb-true k last_number (and-second
            (is_of_rank p p.me 0 && not (is_ended p) && (k == length (own_orders p)) && nat_lt k (places_in p.delivered + window))
            (nat_le k last_number) tests),
        record {
          some = few.0;
          few = (let limit = ok.batches in let le = few.1 in omega (arith, limit, le));
          each = each-message b (λ m there. payload-ranges p.pool ok.pool m
              (next-certified p.batch_limit p.pool (messages (own_orders p)) m (subst (Mem m) is there)));
        },
      )
  ranges (Place x k b) may at due =
      let tests = and-first (rank_says p 0 (Order x k b)) (not (is_ended p))
      (and-first _ _ (and-first _ _ (and-first _ _ (and-first _ _ due)))) in
      let by = rank-says p 0 (Order x k b) tests in
      (said-ranges p.pool ok.pool by.0 (Order x k b) by.1).1
  ranges (Keep x k b) may at due =
      let held = some-and (slice_get (placed p.pool) k) (same_batch b)
      (and-first (is_some_and (slice_get (placed p.pool) k) (same_batch b)) (not (is_ended p)) due) in
      let range = certified-ranges p.pool ok.pool (Place p.pool.view.number k held.0)
      (place-certified p.pool k held.0 (placed-at p.pool k held.0 held.1)) in
      (here x at, range.1, subst IsBatch (sym (yes-is (Batch-discrete b held.0) held.2)) range.2)
  ranges (Notify x u) may at due =
      let by = list_any-mem (λ d. is_yes (pair_discrete ℕ_discrete (Update-discrete ℕ_discrete) d (x, u))) p.perceived
      (and-first (is_perceived p (x, u)) (is_possible (keyed s) p.pool.view u) due) in (
        here x at,
        subst IsUpdate (ap (λ (e : ℕ × Update). e.1)
            (yes-is (pair_discrete ℕ_discrete (Update-discrete ℕ_discrete) by.0 (x, u)) by.2))
            (All-mem (λ (e : ℕ × Update). IsUpdate e.1) p.perceived by.0 ok.asked by.1),
      )
  ranges (End x k) may at due =
      let same = eqb-true k (length (placed p.pool))
      (and-second (nat_lt 0 (length (notified_updates p.pool))) (k == length (placed p.pool)) due) in
      (here x at, (let few = placed-few p.pool in omega (arith, same, few)))
  ranges (Last x r ready) may at due =
      let least = eqb-true r (removed_rank p.pool)
      (and-first (r == removed_rank p.pool) (nat_lt (own_rank p) r) (and-first _ (same_ready ready (own_ready p)) due)) in
      (here x at, (let few = ok.pool.view.few in omega (arith, least, few)), report ready may)
    where
      report : (ready : Option (ℕ × Value)) → may_sign s p (Last x r ready) ≡ true → IsReport r ready
      report None may = tt
      report (Some best) may =
          let there = own_ready-mem s p x r best may in
          let by = map-mem (λ (c : Claim). c.statement) p.signed (Ready x best.0 best.1) there in
          let range : IsStatement (Ready x best.0 best.1) = subst IsStatement by.2 (All-mem IsClaim p.signed by.0 ok.said by.1).1 in
          let above = (last-rank s p x r (Some best) may).0 in
          let most : best.0 ≤ own_rank p = rank_said-own p (Ready x best.0 best.1)
          (own-mem s p (Last x r (Some best)) may (Ready x best.0 best.1) there refl) in
          (omega (arith, above, most), range.2)
  ranges (Suggest x r v) may at due =
      let rank = some-and (rank_of p.pool.view p.me) (λ rank. rank == r)
      (and-first (is_of_rank p p.me r) (nat_le (own_rank p) r) (and-first _ (is_some_and (choose s p.pool r) (same_value v)) due)) in
      let same = eqb-true rank.0 r rank.2 in
      let below = slice_get-length p.pool.view.members rank.0 p.me (rank-at p.pool.view p.me rank.0 rank.1) in
      let chosen = some-and (choose s p.pool r) (same_value v)
      (and-second (is_of_rank p p.me r && nat_le (own_rank p) r) (is_some_and (choose s p.pool r) (same_value v)) due) in (
        here x at,
        (let few = ok.pool.view.few in omega (arith, same, below, few)),
        subst IsValue (sym (yes-is (Value-discrete v chosen.0) chosen.2))
            (justified-ranges s p.pool ok.pool r chosen.0 (deputy_adopts s p.pool r chosen.0 chosen.1).justified),
      )
  ranges (Ack x r v) may at due =
      let by = rank-says p r (Suggest x r v)
      (and-first (rank_says p r (Suggest x r v)) (nat_le (own_rank p) r) (and-first _ (is_justified s p.pool r v) due)) in
      (said-ranges p.pool ok.pool by.0 (Suggest x r v) by.1).1
  ranges (Ready x r v) may at due = certified-ranges p.pool ok.pool (Ack x r v)
      (and-first (is_certified p.pool (Ack x r v)) (nat_le (own_rank p) r) due)

pub due_is_in_range : DueIsInRange
due_is_in_range s p st ok may = ranges s p ok st may (may-parts s p st may).current (may-parts s p st may).due
