-- A turn that is read from a journal, with the signatures of a live one, is that turn again.
use Rattle.std.proofs.Common.{◌≡◌, ℕ, zero, suc, ◌+◌, ◌-◌, ◌≤◌, List, [], ◌∷◌, ◌++◌, map, drop, length, Option, Some, None, Bool, true, false, refl, sym, ap, ◌∙◌, subst, arith, slice_get}
use Rattle.std.specs.Prelude.{if◌then◌else◌, is_some, slice_index_or}
use Rattle.std.proofs.lemmas.List.{append-nil, append_assoc, length-append, length-map}
use Rattle.group_defs.specs.Below.{put, Remove, Add, Renew, Update, Value, Statement, Claim, Claims, Wants, Faulty}
use Rattle.group_defs.specs.Process.{Kind, Setting, Process}
use Rattle.group_defs.specs.Due.{least_due, is_perceived}
use Rattle.group_defs.specs.Hearing.{Verdict, Old, Early, Stranger, OutOfWindow, Known, Unsigned, Conflict, Heard, verdict, with_verdict, hear, hear_all}
use Rattle.group_defs.specs.Signing.{Signer, Signing, own_claim, signs, sign_kind, sign_kinds, sign_all}
use Rattle.group_defs.specs.Settle.{settle}
use Rattle.group_defs.specs.Events.{Event, Submit, Hand, Suspect, Join, RenewView, Tick, Turn, EventFault, Outcome, refusal, perceived_numbers, perceives, take_in, signing, after, answered, outcome, journalled, Fits, read_again, JournalGivesTheTurn}
use Rattle.group_defs.specs.Accounts.{IsPrefixOf}
use Rattle.rule_laws.proofs.Offered.{drop-slice_get}
use Rattle.pool_laws.proofs.Places.{index-is, map-get, prefix-trans, slice_get-front, slice_get-last}
use Rattle.safety_laws.proofs.Settlings.{after-none}

plus-none : (e : ℕ) → 0 + e ≡ e
plus-none e = omega arith

-- ---- signing again

-- what was signed from q on, and how it is signed again
record Again (again : ℕ → Signing) (q : Process) (live : Signing) : Type 0 where
  pub more : List Claim
  pub is : live.now.signed ≡ q.signed ++ more
  pub unspent : live.spent ≡ false → (e : ℕ) → again (length more + e) ≡ record { now = live.now; left = e; spent = false }
  pub spent : live.spent ≡ true → again (length more) ≡ record { now = live.now; left = zero; spent = true }

-- both end alike, whatever is left
abbrev SameEnd : Signing → Signing → Type 0
SameEnd a b = (a.now ≡ b.now) × (a.spent ≡ b.spent)

same-end : (again : ℕ → Signing) (q : Process) (live : Signing) (r : Again again q live) (n : ℕ) → n ≡ length r.more
    → SameEnd (again n) live
same-end again q live r n long = go live.spent refl
  where
    go : (b : Bool) → live.spent ≡ b → SameEnd (again n) live
    go true e = let is = ap again long ∙ r.spent e in (ap (λ (k : Signing). k.now) is, ap (λ (k : Signing). k.spent) is ∙ sym e)
    go false e =
        let shift : n ≡ length r.more + 0 = omega (arith, long) in
        let is = ap again shift ∙ r.unspent e 0 in
        (ap (λ (k : Signing). k.now) is, ap (λ (k : Signing). k.spent) is ∙ sym e)

drop-front : {A : Type 0} (xs ys : List A) → drop (length xs) (xs ++ ys) ≡ ys
drop-front [] ys = refl
drop-front (x ∷ xs) ys = drop-front xs ys

module _ (s : Setting) (signer other : Signer) (base : ℕ) (final : List Claim)
    (agrees : (i : ℕ) (c : Claim) (body : List ℕ) → base ≤ i → slice_get final i ≡ Some c → other i body ≡ c.signature) where
  none-due : (kind : Kind) (q : Process) → least_due s q kind ≡ None → (e : ℕ)
      → sign_kind s other kind e q ≡ record { now = q; left = e; spent = false }
  unfolding sign_kind
  none-due kind q none zero = ap (λ o. record { now = q; left = zero; spent = is_some o }) none
  none-due kind q none (suc e) = ap
      (λ (o : Option Statement). elim o [
        | None ↦ record { now = q; left = suc e; spent = false }
        | Some st ↦ sign_kind s other kind e
            (signs s other q st)
      ]) none

  -- the same claim is made
  same-claim : (q : Process) (st : Statement) (more : List Claim) (live : List Claim) → base ≤ length q.signed
      → live ≡ (signs s signer q st).signed ++ more → IsPrefixOf live final → signs s other q st ≡ signs s signer q st
  same-claim q st more live from is front =
      let c : Claim = own_claim s signer q st in
      let there : slice_get live (length q.signed)
      ≡ Some c = ap (λ cs. slice_get cs (length q.signed)) is ∙ slice_get-front (q.signed ++ c ∷ []) more (length q.signed) c
      (slice_get-last q.signed c (length q.signed) refl) in
      let signature = agrees (length q.signed) c _ from
      (subst (λ cs. slice_get cs (length q.signed) ≡ Some c) front.1 (slice_get-front live front.0 (length q.signed) c there)) in
      ap (with-signature q st) signature
    where
      with-signature : (q : Process) (st : Statement) → List ℕ → Process
      with-signature q st signature = signs s (λ used body. signature) q st

  abbrev signed_on : Signer → Kind → ℕ → Process → Option Statement → Signing
  signed_on by kind a q o = elim o [
    | None ↦ record { now = q; left = suc a; spent = false }
    | Some st ↦ sign_kind s by kind a
        (signs s by q st)
  ]

  -- one statement, and what is signed again behind it
  one-more : (kind : Kind) (a : ℕ) (q : Process) (st : Statement) → least_due s q kind ≡ Some st → base ≤ length q.signed
      → IsPrefixOf (sign_kind s signer kind a (signs s signer q st)).now.signed final
      → Again (λ n. sign_kind s other kind n (signs s signer q st)) (signs s signer q st) (sign_kind s signer kind a (signs s signer q st))
      → Again (λ n. sign_kind s other kind n q) q (sign_kind s signer kind a (signs s signer q st))
  unfolding sign_kind
  one-more kind a q st is from front r = record {
    more = own_claim s signer q st ∷ r.more;
    is = r.is ∙ append_assoc q.signed (own_claim s signer q st ∷ []) r.more;
    unspent = λ none e. (let shift : length (own_claim s signer q st ∷ r.more) + e
        ≡ suc (length r.more + e) = omega arith in ap (λ n. sign_kind s other kind n q) shift ∙ step
        (length r.more + e) ∙ r.unspent none e);
    spent = λ some. step (length r.more) ∙ r.spent some;
  }
    where
      step : (n : ℕ) → signed_on other kind n q (least_due s q kind) ≡ sign_kind s other kind n (signs s signer q st)
      step n = ap (signed_on other kind n q) is ∙ ap (sign_kind s other kind n)
          (same-claim q st r.more (sign_kind s signer kind a (signs s signer q st)).now.signed from r.is front)

  kind-again : (kind : Kind) (a : ℕ) (q : Process) → base ≤ length q.signed → IsPrefixOf (sign_kind s signer kind a q).now.signed final
      → Again (λ n. sign_kind s other kind n q) q (sign_kind s signer kind a q)
  unfolding sign_kind
  kind-again kind zero q from front = record {
    more = [];
    is = sym (append-nil q.signed);
    unspent = λ none e. ap (λ n. sign_kind s other kind n q) (plus-none e) ∙ none-due kind q (none-is (least_due s q kind) none) e;
    spent = λ some. ap (λ b. record { now = q; left = zero; spent = b }) some;
  }
    where
      none-is : (o : Option Statement) → is_some o ≡ false → o ≡ None
      none-is None e = refl
      none-is (Some st) e = absurd cc
  kind-again kind (suc a) q from front = go (least_due s q kind) refl front
      (λ st front. kind-again kind a (signs s signer q st) (longer st) front)
    where
      longer : (st : Statement) → base ≤ length (signs s signer q st).signed
      longer st = let long = length-append q.signed (own_claim s signer q st ∷ []) in omega (arith, from, long)

      go : (o : Option Statement) → least_due s q kind ≡ o → IsPrefixOf (signed_on signer kind a q o).now.signed final
          → ((st : Statement) → IsPrefixOf (sign_kind s signer kind a (signs s signer q st)).now.signed final
          → Again (λ n. sign_kind s other kind n (signs s signer q st)) (signs s signer q st)
          (sign_kind s signer kind a (signs s signer q st)))
          → Again (λ n. sign_kind s other kind n q) q (signed_on signer kind a q o)
      go None is front rest = record {
        more = [];
        is = sym (append-nil q.signed);
        unspent = λ un e. ap (λ n. sign_kind s other kind n q) (plus-none e) ∙ none-due kind q is e;
        spent = λ some. absurd cc;
      }
      go (Some st) is front rest = one-more kind a q st is from front (rest st front)

  -- a kind only signs more
  kind-grows : (kind : Kind) (a : ℕ) (q : Process) → (more : List Claim) × ((sign_kind s signer kind a q).now.signed ≡ q.signed ++ more)
  unfolding sign_kind
  kind-grows kind zero q = ([], sym (append-nil q.signed))
  kind-grows kind (suc a) q = go (least_due s q kind) (λ st. kind-grows kind a (signs s signer q st))
    where
      go : (o : Option Statement) → ((st : Statement)
          → (more : List Claim) × ((sign_kind s signer kind a (signs s signer q st)).now.signed ≡ (signs s signer q st).signed ++ more))
          → (more : List Claim) × ((signed_on signer kind a q o).now.signed ≡ q.signed ++ more)
      go None rest = ([], sym (append-nil q.signed))
      go (Some st) rest = let more = rest st in (
        own_claim s signer q st ∷ more.0,
        more.1 ∙ append_assoc q.signed (own_claim s signer q st ∷ []) more.0,
      )

  -- the kinds behind one
  abbrev kinds_on : Signer → List Kind → Bool → Signing → Signing
  kinds_on by ks spent one = elim spent [ true ↦ one | false ↦ sign_kinds s by ks one.left one.now ]

  abbrev kind_and_on : Signer → Kind → List Kind → Process → ℕ → Signing
  kind_and_on by kind ks q n = kinds_on by ks (sign_kind s by kind n q).spent (sign_kind s by kind n q)

  kinds-again : (ks : List Kind) (a : ℕ) (q : Process) → base ≤ length q.signed → IsPrefixOf (sign_kinds s signer ks a q).now.signed final
      → Again (λ n. sign_kinds s other ks n q) q (sign_kinds s signer ks a q)
  unfolding sign_kinds
  kinds-again [] a q from front = record {
    more = [];
    is = sym (append-nil q.signed);
    unspent = λ none e. ap (λ n. record { now = q; left = n; spent = false }) (plus-none e);
    spent = λ some. absurd cc;
  }
  kinds-again (kind ∷ ks) a q from front =
      let one : Signing = sign_kind s signer kind a q in
      let grown = kind-grows kind a q in
      let longer : base ≤ length one.now.signed = (let long = ap length grown.1 in let both = length-append q.signed grown.0 in omega
      (arith, from, long, both)) in
      go one one.spent refl front (λ front. kind-again kind a q from front) (λ front. kinds-again ks one.left one.now longer front)
    where
      clash : {b : Bool} → b ≡ true → b ≡ false → ⊥
      clash e e' = cc

      go : (one : Signing) (b : Bool) → one.spent ≡ b → IsPrefixOf (kinds_on signer ks b one).now.signed final
          → (IsPrefixOf one.now.signed final → Again (λ n. sign_kind s other kind n q) q one)
          → (IsPrefixOf (sign_kinds s signer ks one.left one.now).now.signed final
          → Again (λ n. sign_kinds s other ks n one.now) one.now (sign_kinds s signer ks one.left one.now))
          → Again (kind_and_on other kind ks q) q (kinds_on signer ks b one)
      go one true e front first rest =
          let r = first front in
          record {
            more = r.more;
            is = r.is;
            unspent = λ none. absurd (clash e none);
            spent = λ some. ap (λ (k : Signing). kinds_on other ks k.spent k) (r.spent e);
          }
      go one false e front first rest =
          let r2 = rest front in
          let r1 = first (prefix-trans one.now.signed (sign_kinds s signer ks one.left one.now).now.signed final
          (r2.more, sym r2.is) front) in
          let long = length-append r1.more r2.more in
          record {
            more = r1.more ++ r2.more;
            is = r2.is ∙ ap (λ cs. cs ++ r2.more) r1.is ∙ append_assoc q.signed r1.more r2.more;
            unspent = λ none n. (let shift : length (r1.more ++ r2.more) + n
                ≡ length r1.more + (length r2.more + n) = omega (arith, long) in
                ap (kind_and_on other kind ks q) shift ∙ ap (λ (k : Signing). kinds_on other ks k.spent k)
                (r1.unspent e (length r2.more + n)) ∙ r2.unspent none n);
            spent = λ some. ap (kind_and_on other kind ks q) long ∙ ap (λ (k : Signing). kinds_on other ks k.spent k)
                (r1.unspent e (length r2.more)) ∙ r2.spent some;
          }

  abbrev alls : Signer → Process → ℕ → Option (ℕ × Value) → Signing
  alls by q left o = elim o [ None ↦ sign_kinds s by s.signs left q | Some d ↦ record { now = q; left = left; spent = false } ]

  -- the same process, and spent alike
  all-again : (a : ℕ) (q : Process) → base ≡ length q.signed → (sign_all s signer a q).now.signed ≡ final
      → SameEnd (sign_all s other (length (drop base final)) q) (sign_all s signer a q)
  unfolding sign_all
  all-again a q from is = go q.decision is (kinds-again s.signs a q (omega (arith, from)))
    where
      go : (o : Option (ℕ × Value)) → (alls signer q a o).now.signed ≡ final
          → (IsPrefixOf (sign_kinds s signer s.signs a q).now.signed final
          → Again (λ n. sign_kinds s other s.signs n q) q (sign_kinds s signer s.signs a q))
          → SameEnd (alls other q (length (drop base final)) o) (alls signer q a o)
      go (Some d) is again = (refl, refl)
      go None is again =
          let r = again ([], append-nil (sign_kinds s signer s.signs a q).now.signed ∙ is) in
          let rest : drop base final ≡ r.more = ap (λ n. drop n final) from ∙ ap (drop (length q.signed))
          (sym is ∙ r.is) ∙ drop-front q.signed r.more in
          same-end (λ n. sign_kinds s other s.signs n q) q (sign_kinds s signer s.signs a q) r (length (drop base final)) (ap length rest)

-- ---- what is taken in signs nothing

verdict-signed : (v : Verdict) (p : Process) (c : Claim) → (with_verdict v p c).signed ≡ p.signed
verdict-signed Heard p c = refl
verdict-signed Conflict p c = refl
verdict-signed Old p c = refl
verdict-signed Early p c = refl
verdict-signed Stranger p c = refl
verdict-signed OutOfWindow p c = refl
verdict-signed Known p c = refl
verdict-signed Unsigned p c = refl

heard-signed : (s : Setting) (cs : List Claim) (p : Process) → (hear_all s p cs).signed ≡ p.signed
unfolding hear_all
heard-signed s [] p = refl
heard-signed s (c ∷ cs) p = heard-signed s cs (hear s p c) ∙ verdict-signed (verdict s p c) p c

perceived-signed : (p : Process) (u : Update) → (perceives p u).signed ≡ p.signed
perceived-signed p u = go (is_perceived p (p.pool.view.number, u))
  where
    go : (b : Bool) → let it : Process = if b then p
        else record p { perceived = put perceived_numbers (p.pool.view.number, u) p.perceived } in it.signed ≡ p.signed
    go true = refl
    go false = refl

taken-signed : (s : Setting) (p : Process) (e : Event) → (take_in s p e).signed ≡ p.signed
taken-signed s p (Submit payload) = refl
taken-signed s p (Hand from (Claims claims)) = heard-signed s claims p
taken-signed s p (Hand from (Wants x k)) = refl
taken-signed s p (Hand from (Faulty fault)) = refl
taken-signed s p (Suspect q) = perceived-signed p (Remove q)
taken-signed s p (Join q) = perceived-signed p (Add q)
taken-signed s p RenewView = perceived-signed p Renew
taken-signed s p Tick = refl

-- ---- the turn

module _ (s : Setting) (p : Process) (t : Turn) where
  abbrev live : Signing
  live = signing s p t

  abbrev kept : List (List ℕ)
  kept = map (λ (c : Claim). c.signature) (drop (length p.signed) live.now.signed)

  abbrev again : Turn
  again = journalled p t.event kept

  kept-agrees : (i : ℕ) (c : Claim) (body : List ℕ) → length p.signed ≤ i → slice_get live.now.signed i ≡ Some c
      → slice_index_or kept (i - length p.signed) [] ≡ c.signature
  kept-agrees i c body le at =
      let split : length p.signed + (i - length p.signed) ≡ i = omega (arith, le) in
      index-is kept (i - length p.signed) [] c.signature
      (map-get (λ (c : Claim). c.signature) (drop (length p.signed) live.now.signed) (i - length p.signed) c
      (drop-slice_get (length p.signed) live.now.signed (i - length p.signed) c (ap (slice_get live.now.signed) split ∙ at)))

  signs-same : SameEnd (signing s p again) live
  signs-same =
      subst (λ n. SameEnd (sign_all s again.signer n (take_in s p t.event)) live)
      (sym (length-map (drop (length p.signed) live.now.signed) (λ (c : Claim). c.signature)))
      (all-again s t.signer again.signer (length p.signed) live.now.signed kept-agrees t.allowance (take_in s p t.event)
      (ap length (sym (taken-signed s p t.event))) refl)

  answered-by : Process → Bool → Outcome
  answered-by now spent = answered s p t (record { now = now; left = zero; spent = spent })

  answers-same : answered s p again (signing s p again) ≡ answered s p t live
  unfolding answered-by
  answers-same = λ i. answered-by (signs-same.0 i) (signs-same.1 i)

  abbrev outcome-by : Turn → Option EventFault → Outcome
  outcome-by u o = elim o [
    | None ↦ answered s p u
        (signing s p u)
    | Some fault ↦ record { verdict = Some fault; heard = 0; signed = []; spent = false; sends = []; notes = [] }
  ]

  IsTurnAgain : Turn → Type 0
  IsTurnAgain u = (after s p u ≡ after s p t) × (outcome s p u ≡ outcome s p t)

  turn-again : IsTurnAgain (read_again s p t)
  unfolding IsTurnAgain after
  turn-again = go (refusal s p t.event) refl
    where
      go : (o : Option EventFault) → refusal s p t.event ≡ o
          → (after s p (read_again s p t) ≡ after s p t) × (outcome s p (read_again s p t) ≡ outcome s p t)
      go (Some fault) e = (
        ap (λ (o : Option EventFault). elim o [ None ↦ settle s (signing s p (read_again s p t)).now | Some fault ↦ p ]) e ∙ sym
            (ap (λ (o : Option EventFault). elim o [ None ↦ settle s live.now | Some fault ↦ p ]) e),
        ap (outcome-by (read_again s p t)) e ∙ sym (ap (outcome-by t) e),
      )
      go None e =
          let signed : (outcome s p t).signed
          ≡ drop (length p.signed) live.now.signed = ap (λ (o : Outcome). o.signed) (ap (outcome-by t) e) in
          subst (λ cs. (after s p (journalled p t.event (map (λ (c : Claim). c.signature) cs)) ≡ after s p t)
          × (outcome s p (journalled p t.event (map (λ (c : Claim). c.signature) cs)) ≡ outcome s p t)) (sym signed) (
            after-none s p again e ∙ ap (settle s) signs-same.0 ∙ sym (after-none s p t e),
            ap (outcome-by again) e ∙ answers-same ∙ sym (ap (outcome-by t) e),
          )

pub journal_gives_the_turn : JournalGivesTheTurn
unfolding IsTurnAgain
journal_gives_the_turn s p t =
    let is = turn-again s p t in
    let fits : Fits s p t.event (map (λ (c : Claim). c.signature) (outcome s p t).signed)
    (outcome s p t).spent = (
      ap (λ (o : Outcome). length o.signed) is.1 ∙ sym
          (length-map (outcome s p t).signed (λ (c : Claim). c.signature)),
      ap (λ (o : Outcome). o.spent) is.1,
    ) in
    (is.0, is.1, fits)
