-- What is signed in one event is of the view, and fills each slot once.
use Rattle.std.proofs.Common.{◌≡◌, ◌≢◌, ℕ, zero, suc, List, [], ◌∷◌, ◌++◌, Option, None, Some, Bool, true, false, refl, sym, ap, ◌∙◌, subst}
use Rattle.std.specs.Prelude.{All, is_some, if◌then◌else◌}
use Rattle.std.proofs.lemmas.List.{append-nil, append_assoc}
use Rattle.message_defs.specs.Updates.{Value}
use Rattle.message_defs.specs.Statements.{Statement, Claim, slot_of}
use Rattle.group_defs.specs.Views.{View}
use Rattle.group_defs.specs.Process.{Kind, Setting, Process}
use Rattle.group_defs.specs.Certified.{heard_on, is_signed}
use Rattle.group_defs.specs.Due.{least_due, may_sign, offers}
use Rattle.group_defs.specs.Signing.{Signer, Signing, own_claim, signs, sign_kind, sign_kinds, sign_all}
use Rattle.group_defs.specs.Laws.{IsOfView}
use Rattle.pool_laws.proofs.Members.{Mem, All-mem, mem-All, mem-append, mem-map, mem-behind, each-snoc, filter-mem}
use Rattle.pool_laws.proofs.Places.{Pairs, pairs-snoc, pairs-all}
use Rattle.pool_laws.proofs.Tests.{and-first, and-second, not-both}
use Rattle.rule_laws.proofs.LeastIsDue.{least_due-passes}
use Rattle.safety_laws.proofs.KeepsBeforeEnd.{is_signed-mem}
use Rattle.safety_laws.proofs.MaySign.{signing-member, signing-view}
use Rattle.safety_laws.proofs.OfTheView.{members-all, named}
use Rattle.event_laws.specs.Slots.{FillsSlots, SigningFillsSlots}

-- ---- what each signing keeps, signing keeps

module _ (s : Setting) (signer : Signer) (P : Process → Type 0)
    (one : (p : Process) (st : Statement) → may_sign s p st ≡ true → P p → P (signs s signer p st)) where
  due-keeps : (kind : Kind) (p : Process) (st : Statement) → least_due s p kind ≡ Some st → P p → P (signs s signer p st)
  due-keeps kind p st e ok = one p st (filter-mem (may_sign s p) (offers kind s p) st (least_due-passes s p kind st e)).1 ok

  kind-keeps : (kind : Kind) (left : ℕ) (p : Process) → P p → P (sign_kind s signer kind left p).now
  unfolding sign_kind
  kind-keeps kind zero p ok = ok
  kind-keeps kind (suc left) p ok = go (least_due s p kind) refl (λ st e. kind-keeps kind left (signs s signer p st) (due-keeps kind p st e ok))
    where
      go : (o : Option Statement) → least_due s p kind ≡ o
          → ((st : Statement) → least_due s p kind ≡ Some st → P (sign_kind s signer kind left (signs s signer p st)).now)
          → let it : Signing = elim o [
            | None ↦ record { now = p; left = suc left; spent = false }
            | Some st ↦ sign_kind s signer kind left
                (signs s signer p st)
          ] in P it.now
      go None e more = ok
      go (Some st) e more = more st e

  kinds-keep : (ks : List Kind) (left : ℕ) (p : Process) → P p → P (sign_kinds s signer ks left p).now
  unfolding sign_kinds
  kinds-keep [] left p ok = ok
  kinds-keep (kind ∷ ks) left p ok =
      let first : Signing = sign_kind s signer kind left p in
      let kept : P first.now = kind-keeps kind left p ok in
      go first.spent first kept (kinds-keep ks first.left first.now kept)
    where
      go : (b : Bool) (first : Signing) → P first.now → P (sign_kinds s signer ks first.left first.now).now
          → let it : Signing = elim b [ true ↦ first | false ↦ sign_kinds s signer ks first.left first.now ] in P it.now
      go true first here there = here
      go false first here there = there

  signing-keeps : (left : ℕ) (p : Process) → P p → P (sign_all s signer left p).now
  unfolding sign_all
  signing-keeps left p ok = go p.decision
    where
      go : (o : Option (ℕ × Value)) → let it : Signing = elim o [
        | None ↦ sign_kinds s signer s.signs left p
        | Some d ↦ record {
          now = p;
          left = left;
          spent = false;
        }
      ] in P it.now
      go None = kinds-keep s.signs left p ok
      go (Some d) = ok

-- ---- slots

abbrev Differ : Claim → Claim → Type 0
Differ c d = slot_of c.statement ≢ slot_of d.statement

-- q has signed more than p, each slot once, and heard and signed what is of the view alone
record Filling (p q : Process) : Type 0 where
  pub more : List Claim
  pub signed : q.signed ≡ p.signed ++ more
  pub view : q.pool.view ≡ p.pool.view
  pub heard : (c : Claim) → Mem c q.pool.heard → IsOfView q.pool.view c
  pub own : (c : Claim) → Mem c q.signed → c.signer ≡ q.me
  pub of_view : (c : Claim) → Mem c more → IsOfView p.pool.view c
  pub once : Pairs Differ more

fresh-slot : (s : Setting) (q : Process) (st : Statement) → may_sign s q st ≡ true → ((c : Claim) → Mem c q.signed → c.signer ≡ q.me)
    → (c : Claim) → Mem c q.signed → slot_of c.statement ≢ slot_of st
fresh-slot s q st may own c m = λ e. not-both (is_signed q (slot_of st))
    (ap (is_signed q) (sym e) ∙ is_signed-mem q c.statement own (mem-map (λ (c : Claim). c.statement) q.signed c m))
    (and-second _ _ (and-first _ _ may))

one-more : (s : Setting) (signer : Signer) (p q : Process) (st : Statement) → may_sign s q st ≡ true → Filling p q
    → Filling p (signs s signer q st)
one-more s signer p q st may f = record {
  more = f.more ++ claim ∷ [];
  signed = ap (λ cs. cs ++ claim ∷ []) f.signed ∙ append_assoc p.signed f.more (claim ∷ []);
  view = f.view;
  heard = heard (is_some (heard_on q.pool q.me (slot_of st)));
  own = each-snoc (λ (c : Claim). c.signer ≡ q.me) q.signed claim f.own refl;
  of_view = each-snoc (IsOfView p.pool.view) f.more claim f.of_view (subst (λ (v : View). IsOfView v claim) f.view is);
  once = pairs-snoc Differ f.more claim f.once fresh;
}
  where
    claim : Claim
    claim = own_claim s signer q st

    is : IsOfView q.pool.view claim
    is = record {
      number = signing-view s q st may;
      signer = signing-member s q st may;
      senders = members-all q.pool.view _ (named s q f.heard st may);
    }

    heard : (b : Bool) (c : Claim) → Mem c (if b then q.pool.heard else q.pool.heard ++ claim ∷ []) → IsOfView q.pool.view c
    heard true c m = f.heard c m
    heard false c m = each-snoc (IsOfView q.pool.view) q.pool.heard claim f.heard is c m

    fresh : (c : Claim) → Mem c f.more → slot_of c.statement ≢ slot_of st
    fresh c m = fresh-slot s q st may f.own c (subst (Mem c) (sym f.signed) (mem-behind p.signed f.more c m))

pub signing_fills_slots : SigningFillsSlots
signing_fills_slots s signer left p heard own =
    let start : Filling p p = record {
      more = [];
      signed = sym (append-nil p.signed);
      view = refl;
      heard = λ c m. All-mem (IsOfView p.pool.view) p.pool.heard c heard m;
      own = λ c m. All-mem (λ (c : Claim). c.signer ≡ p.me) p.signed c own m;
      of_view = λ c m. absurd m;
      once = λ i j a b lt at. absurd cc;
    } in
    let f = signing-keeps s signer (Filling p) (λ q st may ok. one-more s signer p q st may ok) left p start in
    record { more = f.more; signed = f.signed; of_view = mem-All (IsOfView p.pool.view) f.more f.of_view; once = pairs-all Differ f.more f.once }
