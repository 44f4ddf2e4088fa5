-- One value is decided, nobody delivers beyond its cut, and nobody halts.
use Rattle.std.proofs.Common.{◌≡◌, inl, inr, ℕ, zero, suc, ◌-◌, List, ◌++◌, Option, Some, None, Bool, true, false, refl, ◌∙◌, subst, arith}
use Rattle.std.specs.Prelude.{if◌then◌else◌, Contains, slice_index_or}
use Rattle.group_defs.specs.Views.{View, is_member}
use Rattle.group_defs.specs.Below.{Value, Ready, Claim}
use Rattle.group_defs.specs.Process.{Delivered, Process, start, places_in}
use Rattle.group_defs.specs.Settle.{decide, deliver, deliverable, deliver_more, limit}
use Rattle.group_defs.specs.Family.{Correct, Family, end_of, ends, handed_to}
use Rattle.group_defs.specs.Laws.{HasGrown, IsFrom, Premises, StoodSo, SettledStood, IsOneView, IsBacked, Decides, OneDecision, DeliversWithinCut, NobodyHalts, settlings}
use Rattle.safety_laws.proofs.EachWasDue as was
use Rattle.safety_laws.proofs.EachWasDue.{EachDue, From, grown-self}
use Rattle.safety_laws.proofs.History.{Certifies, History, Reach, certifies-on, grows, history-keeps, history-start, reach-on}
use Rattle.safety_laws.proofs.Induction.{deliver-keeps, run-keeps}
use Rattle.pool_laws.proofs.Members.{Contains-mem, Mem, index-mem, map-mem, mem-Contains}
use Rattle.safety_laws.proofs.Moments.{wider}
use Rattle.pool_laws.proofs.Places.{slice_get-index, slice_get-mem}
use Rattle.safety_laws.proofs.Quorums.{in-ends}
use Rattle.safety_laws.proofs.Settlings.{delivering-keeps, goes-on, reaches}
use Rattle.safety_laws.proofs.ViewsAgree.{backed, of-history, one-decided, one-view, seen-view, within}

pub nobody_halts : NobodyHalts
nobody_halts f premises k d lt =
    let there = map-mem (end_of f.setting) f.correct (slice_index_or (ends f) k d) (index-mem (ends f) k d lt) in
    subst (λ (p : Process). p.halted ≡ false) there.2 (stands there.0 there.1)
  where
    stands : (c : Correct) → Mem c f.correct → (end_of f.setting c).halted ≡ false
    stands c m = go (end_of f.setting c).halted refl
      where
        go : (b : Bool) → (end_of f.setting c).halted ≡ b → b ≡ false
        go false e = refl
        go true e =
            let h = (of-history f premises c).halts e in
            let one = one-view f premises c m h.view (seen-view f c h.view _ h.decided) in
            let le = within f h.view one h.rank h.value (backed f h.view one c m _ h.decided) c m h.length h.reach in
            let gt = h.beyond in
            absurd (omega (arith, le, gt))

-- ---- where an event settles

module _ (f : Family) (c : Correct) (q : Process) (at : Mem q (settlings f c)) where
  abbrev done : Process
  done = deliver (decide f.setting q)

  to-end : (old : Process) → HasGrown old done → HasGrown old (end_of f.setting c)
  to-end old g = goes-on f.setting (HasGrown old) c.turns (grows f.setting (handed_to c.turns) old)
      (start f.setting c.me c.batch_limit) q at g

  from-decided : (old : Process) → HasGrown old (decide f.setting q) → HasGrown old (end_of f.setting c)
  from-decided old g = to-end old
      (deliver-keeps f.setting (handed_to c.turns) (HasGrown old) (grows f.setting (handed_to c.turns) old) (decide f.setting q) g)

  from-settling : (old : Process) → HasGrown old q → HasGrown old (end_of f.setting c)
  from-settling old g = from-decided old ((grows f.setting (handed_to c.turns) old).decides q g)

  history-at : Premises f → History f.setting c.turns q
  history-at premises = reaches f.setting (History f.setting c.turns) c.turns (history-keeps f.setting c.turns)
      (start f.setting c.me c.batch_limit) q (history-start f.setting c.turns c.me c.batch_limit premises.first) at

  due-there : EachDue f.setting c.turns q
  due-there = reaches f.setting (EachDue f.setting c.turns) c.turns (was.keeps f.setting c.turns)
      (start f.setting c.me c.batch_limit) q (record { heard = λ c m. absurd m; dues = λ i st at. absurd cc }) at

-- what it has heard was handed over or is own
pub stands-so : (f : Family) (c : Correct) (q : Process) → Mem c f.correct → HasGrown q (end_of f.setting c) → EachDue f.setting c.turns q
    → StoodSo f q
stands-so f c q m grown due = record {
  by = end_of f.setting c;
  correct = mem-Contains (ends f) (end_of f.setting c) (in-ends f c m);
  grown = grown;
  heard = λ k d lt. wider f c m q.signed _ (now' _ (due.heard _ (slice_get-mem q.pool.heard k _ (slice_get-index q.pool.heard k d lt))));
}
  where
    now' : (d : Claim) → From f.setting (handed_to c.turns) q.signed d → IsFrom f.setting (handed_to c.turns) q.signed d
    now' d (inl h) = inl (mem-Contains (handed_to c.turns) d h.0, h.1)
    now' d (inr own) = inr (mem-Contains q.signed d own)

pub settled_stood : SettledStood
settled_stood f q so =
    let m = Contains-mem f.correct so.0 so.1 in
    let at = Contains-mem (settlings f so.0) q so.2 in
    stands-so f so.0 q m (from-settling f so.0 q at q (grown-self q)) (due-there f so.0 q at)

pub end_stood : (f : Family) (p : Process) → Contains (ends f) p → StoodSo f p
end_stood f p there =
    let c = map-mem (end_of f.setting) f.correct p (Contains-mem (ends f) p there) in
    subst (StoodSo f) c.2 (stands-so f c.0 (end_of f.setting c.0) c.1 (grown-self (end_of f.setting c.0))
    (run-keeps f.setting (EachDue f.setting c.0.turns) c.0.turns (was.keeps f.setting c.0.turns) (start f.setting c.0.me c.0.batch_limit)
    (record { heard = λ c m. absurd m; dues = λ i st at. absurd cc })))

-- the Ready behind a decision
decided-backed : (f : Family) (v : View) (q : Process) (w : Value) → IsOneView f v → Decides f v q w
    → (r : ℕ) × IsBacked f v (Ready v.number r w)
decided-backed f v q w one d =
    let c : Correct = d.0.0 in
    let m : Mem c f.correct = Contains-mem f.correct c d.0.1 in
    let at : Mem q (settlings f c) = Contains-mem (settlings f c) q d.0.2 in
    let ok = (history-keeps f.setting c.turns).decides q (history-at f c q at one.premises) in
    let seen = ok.decided (d.2.0, w) d.2.1 in
    let seen' = certifies-on f.setting c.turns (decide f.setting q) (end_of f.setting c)
    (from-decided f c q at) q.pool.view (Ready q.pool.view.number d.2.0 w) seen in (
      d.2.0,
      backed f v one c m (Ready v.number d.2.0 w)
          (subst (λ (v : View). Certifies f.setting c.turns (end_of f.setting c) v (Ready v.number d.2.0 w)) d.1 seen'),
    )

pub one_decision : OneDecision
one_decision f v q q' w w' one d d' =
    let r = decided-backed f v q w one d in
    let r' = decided-backed f v q' w' one d' in
    one-decided f v one r.0 r'.0 w w' r.1 r'.1

deliver_more-view : (more : ℕ) (p : Process) → (deliver_more more p).pool.view ≡ p.pool.view
unfolding deliver_more
deliver_more-view zero p = refl
deliver_more-view (suc more) p = go (deliverable p) (λ ds. deliver_more-view more (record p { delivered = p.delivered ++ ds }))
  where
    go : (o : Option (List Delivered))
        → ((ds : List Delivered) → (deliver_more more (record p { delivered = p.delivered ++ ds })).pool.view ≡ p.pool.view)
        → let it : Process = elim o [ None ↦ p | Some ds ↦ deliver_more more (record p { delivered = p.delivered ++ ds }) ] in it.pool.view
        ≡ p.pool.view
    go None rest = refl
    go (Some ds) rest = rest ds

deliver-view : (p : Process) → (deliver p).pool.view ≡ p.pool.view
deliver-view p = go (is_member p.pool.view p.me) (deliver_more-view _ p)
  where
    go : (b : Bool) → (deliver_more (limit p - places_in p.delivered) p).pool.view ≡ p.pool.view → let it : Process = if b
        then deliver_more (limit p - places_in p.delivered) p else p in it.pool.view ≡ p.pool.view
    go true e = e
    go false e = refl

pub delivers_within_cut : DeliversWithinCut
delivers_within_cut f v q q' w one d so at_v =
    let r = decided-backed f v q w one d in
    let c : Correct = so.0 in
    let m : Mem c f.correct = Contains-mem f.correct c so.1 in
    let at : Mem q' (settlings f c) = Contains-mem (settlings f c) q' so.2 in
    let p : Process = deliver (decide f.setting q') in
    let ok = delivering-keeps f.setting (handed_to c.turns) (History f.setting c.turns)
    (history-keeps f.setting c.turns) q' (history-at f c q' at one.premises) in
    let reach = reach-on f.setting c.turns p (end_of f.setting c) (to-end f c q' at) p.pool.view (places_in p.delivered) ok.so.reach in
    within f v one r.0 w r.1 c m (places_in p.delivered)
    (subst (λ v. Reach f.setting c.turns (end_of f.setting c) v (places_in p.delivered))
    (deliver-view (decide f.setting q') ∙ at_v) reach)
