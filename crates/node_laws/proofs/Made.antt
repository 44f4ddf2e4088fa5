-- What a turn signs: so many claims at most, each its key's next.
use Rattle.std.proofs.Common.{◌≡◌, ℕ, zero, suc, ◌+◌, ◌-◌, ◌≤◌, List, [], ◌∷◌, ◌++◌, map, drop, length, Option, Some, None, Bool, true, false, refl, sym, ap, ◌∙◌, subst, arith}
use Rattle.std.specs.Prelude.{is_some}
use Rattle.std.proofs.lemmas.List.{append-nil, append_assoc, length-append}
use Rattle.message_defs.specs.Statements.{Statement, Claim}
use Rattle.message_defs.specs.Updates.{Value}
use Rattle.message_defs.specs.Spelling.{body}
use Rattle.group_defs.specs.Process.{Kind, Setting, Process}
use Rattle.group_defs.specs.Due.{least_due}
use Rattle.group_defs.specs.Signing.{Signer, Signing, own_claim, signs, sign_kind, sign_kinds, sign_all}
use Rattle.group_defs.specs.Events.{Turn, EventFault, Outcome, refusal, signing, answered, outcome, take_in}
use Rattle.group_defs.specs.Events as group
use Rattle.group_defs.specs.Settle.{settle}
use Rattle.safety_laws.proofs.Settlings.{after-none}
use Rattle.event_laws.proofs.Taken.{taking_in_leaves}
use Rattle.event_laws.proofs.Settled.{settling_leaves}
use Rattle.node_defs.specs.Lives.{AreMade}

module _ (s : Setting) (signer : Signer) (me : ℕ) where
  pub made-append : (k : ℕ) (cs ds : List Claim) → AreMade s signer me k cs → AreMade s signer me (k + length cs) ds → AreMade s signer me k (cs ++ ds)
  made-append k [] ds a b = subst (λ n. AreMade s signer me n ds) (let e : k + 0 ≡ k = omega arith in e) b
  made-append k (c ∷ cs) ds a b = (
    a.0,
    made-append (suc k) cs ds a.1
        (subst (λ n. AreMade s signer me n ds) (let e : k + suc (length cs) ≡ suc k + length cs = omega arith in e) b),
  )

  -- so many could be made, and these were
  pub record Makes (q : Process) (a : ℕ) (live : Signing) : Type 0 where
    pub more : List Claim
    pub is : live.now.signed ≡ q.signed ++ more
    pub count : length more + live.left ≡ a
    pub each : AreMade s signer me (length q.signed) more
    pub own : live.now.me ≡ me

  makes-none : (q : Process) (a : ℕ) (spent : Bool) → q.me ≡ me → Makes q a (record { now = q; left = a; spent = spent })
  makes-none q a spent own = record { more = []; is = sym (append-nil q.signed); count = (let e : 0 + a ≡ a = omega arith in e); each = tt; own = own }

  -- what is made behind one claim
  one-more : (q : Process) (st : Statement) (a : ℕ) (live : Signing) → q.me ≡ me → Makes (signs s signer q st) a live → Makes q (suc a) live
  one-more q st a live own m = record {
    more = own_claim s signer q st ∷ m.more;
    is = m.is ∙ append_assoc q.signed (own_claim s signer q st ∷ []) m.more;
    count = (let e = m.count in omega (arith, e));
    each = (
      ap (λ p. record { signer = p; statement = st; signature = signer (length q.signed) (body s.group p st) }) own,
      subst (λ n. AreMade s signer me n m.more) (length-append q.signed (own_claim s signer q st ∷ [])
          ∙ (let e : length q.signed + 1 ≡ suc (length q.signed) = omega arith in e)) m.each,
    );
    own = m.own;
  }

  kind-makes : (kind : Kind) (a : ℕ) (q : Process) → q.me ≡ me → Makes q a (sign_kind s signer kind a q)
  unfolding sign_kind
  kind-makes kind zero q own = makes-none q zero (is_some (least_due s q kind)) own
  kind-makes kind (suc a) q own = go (least_due s q kind) (λ st. kind-makes kind a (signs s signer q st) own)
    where
      go : (o : Option Statement) → ((st : Statement) → Makes (signs s signer q st) a (sign_kind s signer kind a (signs s signer q st)))
          → Makes q (suc a) (elim o [
            | None ↦ record { now = q; left = suc a; spent = false }
            | Some st ↦ sign_kind s signer kind a (signs s signer q st)
          ])
      go None more = makes-none q (suc a) false own
      go (Some st) more = one-more q st a (sign_kind s signer kind a (signs s signer q st)) own (more st)

  then-makes : (q : Process) (a : ℕ) (one two : Signing) → Makes q a one → Makes one.now one.left two → Makes q a two
  then-makes q a one two m n = record {
    more = m.more ++ n.more;
    is = n.is ∙ ap (λ cs. cs ++ n.more) m.is ∙ append_assoc q.signed m.more n.more;
    count = (let e = m.count in let f = n.count in let l = length-append m.more n.more in omega (arith, e, f, l));
    each = made-append (length q.signed) m.more n.more m.each
        (subst (λ k. AreMade s signer me k n.more) (ap length m.is ∙ length-append q.signed m.more) n.each);
    own = n.own;
  }

  kinds-make : (kinds : List Kind) (a : ℕ) (q : Process) → q.me ≡ me → Makes q a (sign_kinds s signer kinds a q)
  unfolding sign_kinds
  kinds-make [] a q own = makes-none q a false own
  kinds-make (kind ∷ kinds) a q own = go (sign_kind s signer kind a q).spent
      (kinds-make kinds (sign_kind s signer kind a q).left (sign_kind s signer kind a q).now (kind-makes kind a q own).own)
    where
      one : Signing
      one = sign_kind s signer kind a q

      go : (b : Bool) → Makes one.now one.left (sign_kinds s signer kinds one.left one.now)
          → Makes q a (elim b [ true ↦ one | false ↦ sign_kinds s signer kinds one.left one.now ])
      go true more = kind-makes kind a q own
      go false more = then-makes q a one (sign_kinds s signer kinds one.left one.now) (kind-makes kind a q own) more

  pub all-make : (a : ℕ) (q : Process) → q.me ≡ me → Makes q a (sign_all s signer a q)
  unfolding sign_all
  all-make a q own = go q.decision
    where
      go : (o : Option (ℕ × Value)) → Makes q a (elim o [ None ↦ sign_kinds s signer s.signs a q | Some d ↦ record { now = q; left = a; spent = false } ])
      go None = kinds-make s.signs a q own
      go (Some d) = makes-none q a false own

drop-front : {A : Type 0} (xs ys : List A) → drop (length xs) (xs ++ ys) ≡ ys
drop-front [] ys = refl
drop-front (x ∷ xs) ys = drop-front xs ys

-- a refused event changes nothing
after-some : (s : Setting) (p : Process) (t : Turn) (fault : EventFault) → refusal s p t.event ≡ Some fault → group.after s p t ≡ p
unfolding group.after
after-some s p t fault e = ap (λ (o : Option EventFault). elim o [ None ↦ settle s (signing s p t).now | Some fault ↦ p ]) e

-- what a turn of this process signs
pub record TurnMakes (s : Setting) (p : Process) (t : Turn) : Type 0 where
  pub made : AreMade s t.signer p.me (length p.signed) (outcome s p t).signed
  pub few : length (outcome s p t).signed ≤ t.allowance
  pub after : (group.after s p t).signed ≡ p.signed ++ (outcome s p t).signed

pub turn-makes : (s : Setting) (p : Process) (t : Turn) → TurnMakes s p t
turn-makes s p t = go (refusal s p t.event) refl
  where
    by : Option EventFault → Outcome
    by o = elim o [
      | None ↦ answered s p t (signing s p t)
      | Some fault ↦ record { verdict = Some fault; heard = 0; signed = []; spent = false; sends = []; notes = [] }
    ]

    q : Process
    q = take_in s p t.event

    same-signed : q.signed ≡ p.signed
    same-signed = ap (λ (x : Process). x.signed) (taking_in_leaves s p t.event)

    same-me : q.me ≡ p.me
    same-me = ap (λ (x : Process). x.me) (taking_in_leaves s p t.event)

    m : Makes s t.signer p.me q t.allowance (signing s p t)
    m = all-make s t.signer p.me t.allowance q same-me

    news : drop (length p.signed) (signing s p t).now.signed ≡ m.more
    news = ap (drop (length p.signed)) (m.is ∙ ap (λ cs. cs ++ m.more) same-signed) ∙ drop-front p.signed m.more

    go : (o : Option EventFault) → refusal s p t.event ≡ o → TurnMakes s p t
    go None e = record {
      made = subst (λ (r : Outcome). AreMade s t.signer p.me (length p.signed) r.signed) (sym (ap by e))
          (subst (AreMade s t.signer p.me (length p.signed)) (sym news)
          (subst (λ k. AreMade s t.signer p.me k m.more) (ap length same-signed) m.each));
      few = subst (λ (r : Outcome). length r.signed ≤ t.allowance) (sym (ap by e))
          (subst (λ cs. length cs ≤ t.allowance) (sym news) (let c = m.count in omega (arith, c)));
      after = ap (λ (x : Process). x.signed) (after-none s p t e) ∙ (settling_leaves s (signing s p t).now).signed
          ∙ m.is ∙ ap (λ cs. cs ++ m.more) same-signed ∙ ap (λ cs. p.signed ++ cs) (sym news)
          ∙ ap (λ (r : Outcome). p.signed ++ r.signed) (sym (ap by e));
    }
    go (Some fault) e = record {
      made = subst (λ (r : Outcome). AreMade s t.signer p.me (length p.signed) r.signed) (sym (ap by e)) tt;
      few = subst (λ (r : Outcome). length r.signed ≤ t.allowance) (sym (ap by e)) (let z : 0 ≤ t.allowance = omega arith in z);
      after = ap (λ (x : Process). x.signed) (after-some s p t fault e) ∙ sym (append-nil p.signed)
          ∙ ap (λ (r : Outcome). p.signed ++ r.signed) (sym (ap by e));
    }
