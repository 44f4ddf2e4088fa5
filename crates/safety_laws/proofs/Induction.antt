-- What each change of a process keeps, each run keeps.
use Rattle.std.proofs.Common.{◌≡◌, ℕ, zero, suc, ◌+◌, ◌-◌, ◌<◌, ◌≤◌, List, [], ◌∷◌, ◌++◌, Option, None, Some, Bool, true, false, refl, sym, subst, arith, inl, inr}
use Rattle.std.specs.Prelude.{if◌then◌else◌, ◌==◌, nat_lt, nat_le}
use Rattle.std.proofs.lemmas.Bool.{leb-true, leb-false, eqb-true}
use Rattle.group_defs.specs.Below.{put, Update, Value, Statement, Claim, Claims, Wants, Faulty}
use Rattle.group_defs.specs.Views.{is_member}
use Rattle.group_defs.specs.Process.{Kind, Setting, Process, Delivered, places_in}
use Rattle.group_defs.specs.Due.{least_due, may_sign, offers, is_perceived}
use Rattle.group_defs.specs.Hearing.{Verdict, Old, Early, Stranger, OutOfWindow, Known, Unsigned, Conflict, Heard, verdict, with_heard, with_verdict, kept_conflicts, hear, hear_all}
use Rattle.group_defs.specs.Signing.{Signer, Signing, signs, sign_kind, sign_kinds, sign_all}
use Rattle.group_defs.specs.Settle.{decide, limit, deliverable, deliver_more, deliver, install, leave_by, leave, settle}
use Rattle.group_defs.specs.Family.{claims_in, handed_to}
use Rattle.group_defs.specs.Events.{Event, Submit, Hand, Suspect, Join, RenewView, Tick, Turn, EventFault, refusal, perceived_numbers, perceives, take_in, signing, after, run}
use Rattle.pool_laws.proofs.Members.{Mem, filter-mem}
use Rattle.rule_laws.proofs.LeastIsDue.{least_due-passes}
use Rattle.safety_laws.proofs.Batches.{next-at, places-at-most}

-- a kind that the setting signs gives it next
pub record IsNext (s : Setting) (p : Process) (st : Statement) : Type 0 where
  pub kind : Kind
  pub signed : Mem kind s.signs
  pub offered : Mem st (offers kind s p)
  pub may : may_sign s p st ≡ true

is-next : (s : Setting) (p : Process) (kind : Kind) (st : Statement) → Mem kind s.signs → least_due s p kind ≡ Some st → IsNext s p st
is-next s p kind st m e = let passes = filter-mem (may_sign s p)
    (offers kind s p) st (least_due-passes s p kind st e) in record { kind = kind; signed = m; offered = passes.0; may = passes.1 }

-- ---- the changes

-- where the claims that are heard are among these
pub record Keeps (s : Setting) (from : List Claim) (P : Process → Type 0) : Type 0 where
  pub accepts : (p : Process) (payload : List ℕ) → P p → P (record p { accepted = p.accepted ++ payload ∷ [] })
  pub perceives : (p : Process) (e : ℕ × Update) → P p → P (record p { perceived = put perceived_numbers e p.perceived })
  pub hears : (p : Process) (c : Claim) → Mem c from → verdict s p c ≡ Heard → P p → P (with_heard p c)
  pub doubts : (p : Process) (conflicts : List (Claim × Claim)) → P p → P (record p { conflicts = conflicts })
  pub signs : (p : Process) (signer : Signer) (st : Statement) → IsNext s p st → p.decision ≡ None → P p → P (signs s signer p st)
  pub decides : (p : Process) → P p → P (decide s p)
  pub delivers : (p : Process) (ds : List Delivered) → is_member p.pool.view p.me ≡ true → places_in p.delivered < limit p
      → deliverable p ≡ Some ds → P p → P (record p { delivered = p.delivered ++ ds })
  pub installs : (p : Process) (d : ℕ × Value) → p.decision ≡ Some d → (is_member p.pool.view p.me ≡ true → places_in p.delivered ≡ d.1.cut)
      → P p → P (install d p)
  pub halts : (p : Process) (d : ℕ × Value) → p.decision ≡ Some d → is_member p.pool.view p.me ≡ true → P p
      → P (record p { halted = nat_lt d.1.cut (places_in p.delivered) })

module _ (s : Setting) (from : List Claim) (P : Process → Type 0) (k : Keeps s from P) where
  unfoldable pub AreFrom : List Claim → Type 0
  AreFrom cs = (c : Claim) → Mem c cs → Mem c from

  hear-keeps : (v : Verdict) (p : Process) (c : Claim) → Mem c from → verdict s p c ≡ v → P p → P (with_verdict v p c)
  hear-keeps Heard p c m e ok = k.hears p c m e ok
  hear-keeps Conflict p c m e ok = k.doubts p (kept_conflicts p c) ok
  hear-keeps Old p c m e ok = ok
  hear-keeps Early p c m e ok = ok
  hear-keeps Stranger p c m e ok = ok
  hear-keeps OutOfWindow p c m e ok = ok
  hear-keeps Known p c m e ok = ok
  hear-keeps Unsigned p c m e ok = ok

  hear_all-keeps : (cs : List Claim) → AreFrom cs → (p : Process) → P p → P (hear_all s p cs)
  unfolding hear_all AreFrom
  hear_all-keeps [] are p ok = ok
  hear_all-keeps (c ∷ cs) are p ok = hear_all-keeps cs (λ d m. are d (inr m)) (hear s p c)
      (hear-keeps (verdict s p c) p c (are c (inl refl)) refl ok)

  -- signing leaves the decision
  Undecided : Process → Type 0
  Undecided p = P p × (p.decision ≡ None)

  sign_kind-keeps : (signer : Signer) (kind : Kind) → Mem kind s.signs → (left : ℕ) (p : Process) → Undecided p
      → Undecided (sign_kind s signer kind left p).now
  unfolding sign_kind Undecided
  sign_kind-keeps signer kind m zero p ok = ok
  sign_kind-keeps signer kind m (suc left) p ok = go (least_due s p kind) refl
      (λ st next. sign_kind-keeps signer kind m left (signs s signer p st) (k.signs p signer st next ok.1 ok.0, ok.1))
    where
      go : (o : Option Statement) → least_due s p kind ≡ o
          → ((st : Statement) → IsNext s p st → Undecided (sign_kind s signer kind left (signs s signer p st)).now)
          → let it : Signing = elim o [
            | None ↦ record { now = p; left = suc left; spent = false }
            | Some st ↦ sign_kind s signer kind left
                (signs s signer p st)
          ] in Undecided it.now
      go None e more = ok
      go (Some st) e more = more st (is-next s p kind st m e)

  sign_kinds-keeps : (signer : Signer) (ks : List Kind) → ((kind : Kind) → Mem kind ks → Mem kind s.signs) → (left : ℕ) (p : Process)
      → Undecided p → Undecided (sign_kinds s signer ks left p).now
  unfolding sign_kinds
  sign_kinds-keeps signer [] are left p ok = ok
  sign_kinds-keeps signer (kind ∷ ks) are left p ok =
      let one : Signing = sign_kind s signer kind left p in
      let kept : Undecided one.now = sign_kind-keeps signer kind (are kind (inl refl)) left p ok in
      go one.spent one kept (sign_kinds-keeps signer ks (λ other m. are other (inr m)) one.left one.now kept)
    where
      go : (b : Bool) (one : Signing) → Undecided one.now → Undecided (sign_kinds s signer ks one.left one.now).now
          → let it : Signing = elim b [ true ↦ one | false ↦ sign_kinds s signer ks one.left one.now ] in Undecided it.now
      go true one here there = here
      go false one here there = there

  pub sign_all-keeps : (signer : Signer) (left : ℕ) (p : Process) → P p → P (sign_all s signer left p).now
  unfolding sign_all Undecided
  sign_all-keeps signer left p ok = go p.decision refl
    where
      go : (o : Option (ℕ × Value)) → p.decision ≡ o
          → let it : Signing = elim o [
            | None ↦ sign_kinds s signer s.signs left p
            | Some d ↦ record {
              now = p;
              left = left;
              spent = false;
            }
          ] in P it.now
      go None e = (sign_kinds-keeps signer s.signs (λ kind m. m) left p (ok, e)).0
      go (Some d) e = ok

  deliver_more-keeps : (more : ℕ) (p : Process) → is_member p.pool.view p.me ≡ true → places_in p.delivered + more ≤ limit p → P p
      → P (deliver_more more p)
  unfolding deliver_more
  deliver_more-keeps zero p member room ok = ok
  deliver_more-keeps (suc more) p member room ok =
      go (deliverable p) refl (λ ds e. deliver_more-keeps more (record p { delivered = p.delivered ++ ds }) member
      (let further = places-at-most p.delivered ds (next-at p ds e) in omega (arith, further, room))
      (k.delivers p ds member (omega (arith, room)) e ok))
    where
      go : (o : Option (List Delivered)) → deliverable p ≡ o
          → ((ds : List Delivered) → deliverable p ≡ Some ds → P (deliver_more more (record p { delivered = p.delivered ++ ds })))
          → P (elim o [ None ↦ p | Some ds ↦ deliver_more more (record p { delivered = p.delivered ++ ds }) ])
      go None e more' = ok
      go (Some ds) e more' = more' ds e

  either : {A : Type 0} (Q : A → Type 0) (b : Bool) (x y : A) → (b ≡ true → Q x) → (b ≡ false → Q y) → Q (if b then x else y)
  either Q true x y one other = one refl
  either Q false x y one other = other refl

  nothing-more : (p : Process) → P p → P (deliver_more 0 p)
  unfolding deliver_more
  nothing-more p ok = ok

  pub deliver-keeps : (p : Process) → P p → P (deliver p)
  deliver-keeps p ok = go (nat_le (places_in p.delivered) (limit p)) refl
    where
      -- beyond the limit there is no more to deliver
      go : (b : Bool) → nat_le (places_in p.delivered) (limit p) ≡ b → P (deliver p)
      go true e = either P (is_member p.pool.view p.me) _ p
          (λ member. deliver_more-keeps _ p member (let le = leb-true (places_in p.delivered) (limit p) e in omega (arith, le)) ok)
          (λ not'. ok)
      go false e = either P (is_member p.pool.view p.me) _ p
          (λ member. let none : limit p - places_in p.delivered
          ≡ 0 = (let gt = leb-false (places_in p.delivered) (limit p) e in omega (arith, gt)) in subst (λ n. P (deliver_more n p))
          (sym none)
          (nothing-more p ok)) (λ not'. ok)

  leave_by-keeps : (d : ℕ × Value) (p : Process) → p.decision ≡ Some d → P p → P (leave_by d p)
  leave_by-keeps d p e ok =
      either P (is_member p.pool.view p.me) _ (install d p)
      (λ member. either P (places_in p.delivered == d.1.cut)
      (install d p) _ (λ whole. k.installs p d e (λ m. eqb-true (places_in p.delivered) d.1.cut whole) ok)
      (λ other. k.halts p d e member ok))
      (λ outside. k.installs p d e (λ m. absurd cc) ok)

  pub leave-keeps : (p : Process) → P p → P (leave p)
  leave-keeps p ok = go p.decision refl
    where
      go : (o : Option (ℕ × Value)) → p.decision ≡ o → P (elim o [ None ↦ p | Some d ↦ leave_by d p ])
      go None e = ok
      go (Some d) e = leave_by-keeps d p e ok

  pub settle-keeps : (p : Process) → P p → P (settle s p)
  unfolding settle
  settle-keeps p ok = leave-keeps (deliver (decide s p)) (deliver-keeps (decide s p) (k.decides p ok))

  perceives-keeps : (p : Process) (u : Update) → P p → P (perceives p u)
  perceives-keeps p u ok = either P (is_perceived p (p.pool.view.number, u)) p _ (λ e. ok) (λ e. k.perceives p (p.pool.view.number, u) ok)

  pub take_in-keeps : (e : Event) → AreFrom (claims_in e) → (p : Process) → P p → P (take_in s p e)
  take_in-keeps (Submit payload) are p ok = k.accepts p payload ok
  take_in-keeps (Hand from (Claims claims)) are p ok = hear_all-keeps claims are p ok
  take_in-keeps (Hand from (Wants x d)) are p ok = ok
  take_in-keeps (Hand from (Faulty fault)) are p ok = ok
  take_in-keeps (Suspect q) are p ok = perceives-keeps p _ ok
  take_in-keeps (Join q) are p ok = perceives-keeps p _ ok
  take_in-keeps RenewView are p ok = perceives-keeps p _ ok
  take_in-keeps Tick are p ok = ok

  pub after-keeps : (t : Turn) → AreFrom (claims_in t.event) → (p : Process) → P p → P (after s p t)
  unfolding after
  after-keeps t are p ok = go (refusal s p t.event)
    where
      go : (o : Option EventFault) → P (elim o [ None ↦ settle s (signing s p t).now | Some fault ↦ p ])
      go None = settle-keeps _ (sign_all-keeps t.signer t.allowance _ (take_in-keeps t.event are p ok))
      go (Some fault) = ok

  pub front : (xs ys : List Claim) (c : Claim) → Mem c xs → Mem c (xs ++ ys)
  front [] ys c m = absurd m
  front (x ∷ xs) ys c (inl e) = inl e
  front (x ∷ xs) ys c (inr m) = inr (front xs ys c m)

  pub back : (xs ys : List Claim) (c : Claim) → Mem c ys → Mem c (xs ++ ys)
  back [] ys c m = m
  back (x ∷ xs) ys c m = inr (back xs ys c m)

  pub turns-keep : (ts : List Turn) → AreFrom (handed_to ts) → (p : Process) → P p → P (run s p ts)
  unfolding run AreFrom
  turns-keep [] are p ok = ok
  turns-keep (t ∷ ts) are p ok = turns-keep ts (λ c m. are c (back (claims_in t.event) (handed_to ts) c m)) (after s p t)
      (after-keeps t (λ c m. are c (front (claims_in t.event) (handed_to ts) c m)) p ok)

pub run-keeps : (s : Setting) (P : Process → Type 0) (ts : List Turn) → Keeps s (handed_to ts) P → (p : Process) → P p → P (run s p ts)
run-keeps s P ts k p ok = turns-keep s (handed_to ts) P k ts (unfold AreFrom in λ c m. m) p ok
