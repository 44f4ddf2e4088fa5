-- What is signed stays fit to be kept.
use Rattle.std.proofs.Common.{◌≡◌, ◌≢◌, ℕ, ◌≤◌, List, [], ◌∷◌, ◌++◌, Bool, true, false, Option, Some, None, refl, sym, ap, ◌∙◌, subst, arith}
use Rattle.std.specs.Prelude.{if◌then◌else◌, ◌==◌, ◌&&◌, find, is_some, option_map, IsTrue}
use Rattle.std.proofs.lemmas.Bool.{eq-eqb}
use Rattle.message_defs.specs.Statements.{Statement, Claim, Slot, slot_of, view_of, same_slot}
use Rattle.group_defs.specs.Process.{Setting, Process}
use Rattle.group_defs.specs.Certified.{heard_on, is_signed}
use Rattle.group_defs.specs.Hearing.{is_valid}
use Rattle.group_defs.specs.Due.{may_sign}
use Rattle.group_defs.specs.Signing.{Signer, own_claim, own_heard}
use Rattle.group_defs.specs.Family.{claims_in}
use Rattle.group_defs.specs.Events.{after}
use Rattle.pool_laws.proofs.Growing.{find-append}
use Rattle.pool_laws.proofs.Members.{Mem, All-mem, mem-All, each-snoc, mem-map}
use Rattle.pool_laws.proofs.Places.{Pairs, all-pairs, pairs-all, pairs-snoc}
use Rattle.pool_laws.proofs.Slots.{is-same_slot}
use Rattle.pool_laws.proofs.Tests.{and-first, and-second, both-true, not-both}
use Rattle.safety_laws.proofs.Induction.{Keeps, AreFrom, after-keeps}
use Rattle.safety_laws.proofs.KeepsBeforeEnd.{is_signed-mem}
use Rattle.safety_laws.proofs.MaySign.{signing-view}
use Rattle.image_laws.specs.Keeping.{SignedIsKept}

-- ---- what is heard on a slot stays heard

abbrev on : ℕ → Slot → Claim → Bool
on signer slot c = (c.signer == signer) && same_slot (slot_of c.statement) slot

abbrev Heard : List Claim → ℕ → Slot → Type 0
Heard heard signer slot = is_some (option_map (λ (c : Claim). c.statement) (find (on signer slot) heard)) ≡ true

heard-more : (heard more : List Claim) (signer : ℕ) (slot : Slot) → Heard heard signer slot → Heard (heard ++ more) signer slot
heard-more heard more signer slot was = go (find (on signer slot) heard) refl was
  where
    go : (o : Option Claim) → find (on signer slot) heard ≡ o → is_some (option_map (λ (c : Claim). c.statement) o) ≡ true
        → Heard (heard ++ more) signer slot
    go None e was = absurd cc
    go (Some c) e was = ap (λ (o : Option Claim). is_some (option_map (λ (c : Claim). c.statement) o)) (find-append (on signer slot) heard more c e)

-- a claim is found where it is put
found-last : (heard : List Claim) (c : Claim) → Heard (heard ++ c ∷ []) c.signer (slot_of c.statement)
found-last [] c = ap (λ (b : Bool). is_some (option_map (λ (c : Claim). c.statement) (if b then Some c else None)))
    (both-true _ _ (eq-eqb c.signer c.signer refl) (is-same_slot (slot_of c.statement) (slot_of c.statement) refl))
found-last (d ∷ heard) c = go (on c.signer (slot_of c.statement) d) (found-last heard c)
  where
    go : (b : Bool) → Heard (heard ++ c ∷ []) c.signer (slot_of c.statement)
        → is_some (option_map (λ (c : Claim). c.statement) (if b then Some d else find (on c.signer (slot_of c.statement)) (heard ++ c ∷ []))) ≡ true
    go true rest = refl
    go false rest = rest

-- an own claim is heard at once, or one on its slot is
own-is-heard : (p : Process) (c : Claim) → c.signer ≡ p.me → Heard (own_heard p c) p.me (slot_of c.statement)
own-is-heard p c mine = go (is_some (heard_on p.pool p.me (slot_of c.statement))) refl
  where
    go : (b : Bool) → is_some (heard_on p.pool p.me (slot_of c.statement)) ≡ b
        → Heard (if b then p.pool.heard else p.pool.heard ++ c ∷ []) p.me (slot_of c.statement)
    go true was = was
    go false was = subst (λ (q : ℕ). Heard (p.pool.heard ++ c ∷ []) q (slot_of c.statement)) mine (found-last p.pool.heard c)

own-stays : (p : Process) (c : Claim) (slot : Slot) → Heard p.pool.heard p.me slot → Heard (own_heard p c) p.me slot
own-stays p c slot was = go (is_some (heard_on p.pool p.me (slot_of c.statement)))
  where
    go : (b : Bool) → Heard (if b then p.pool.heard else p.pool.heard ++ c ∷ []) p.me slot
    go true = was
    go false = heard-more p.pool.heard (c ∷ []) p.me slot was

-- ---- of a process

abbrev Differ : Claim → Claim → Type 0
Differ c d = slot_of c.statement ≢ slot_of d.statement

record HasSigned (p : Process) : Type 0 where
  pub mine : (c : Claim) → Mem c p.signed → c.signer ≡ p.me
  pub early : (c : Claim) → Mem c p.signed → view_of c.statement ≤ p.pool.view.number
  pub once : Pairs Differ p.signed
  pub heard : (c : Claim) → Mem c p.signed → view_of c.statement ≡ p.pool.view.number → Heard p.pool.heard p.me (slot_of c.statement)

fresh : (s : Setting) (p : Process) (st : Statement) → may_sign s p st ≡ true → ((c : Claim) → Mem c p.signed → c.signer ≡ p.me)
    → (c : Claim) → Mem c p.signed → slot_of c.statement ≢ slot_of st
fresh s p st may own c m = λ e. not-both (is_signed p (slot_of st))
    (ap (is_signed p) (sym e) ∙ is_signed-mem p c.statement own (mem-map (λ (c : Claim). c.statement) p.signed c m))
    (and-second _ _ (and-first _ _ may))

signs-one : (s : Setting) (p : Process) (signer : Signer) (st : Statement) → may_sign s p st ≡ true → HasSigned p
    → HasSigned (record p { signed = p.signed ++ own_claim s signer p st ∷ []; pool = record { view = p.pool.view; heard = own_heard p (own_claim s signer p st) } })
signs-one s p signer st may ok = record {
  mine = each-snoc (λ (c : Claim). c.signer ≡ p.me) p.signed new ok.mine refl;
  early = each-snoc (λ (c : Claim). view_of c.statement ≤ p.pool.view.number) p.signed new ok.early
      (let here = signing-view s p st may in omega (arith, here));
  once = pairs-snoc Differ p.signed new ok.once (fresh s p st may ok.mine);
  heard = each-snoc (λ (c : Claim). view_of c.statement ≡ p.pool.view.number → Heard (own_heard p new) p.me (slot_of c.statement)) p.signed new
      (λ c m same. own-stays p new (slot_of c.statement) (ok.heard c m same)) (λ same. own-is-heard p new refl);
}
  where
    new : Claim
    new = own_claim s signer p st

keeps-signed : (s : Setting) (from : List Claim) → Keeps s from HasSigned
keeps-signed s from = record {
  accepts = λ p payload ok. record { mine = ok.mine; early = ok.early; once = ok.once; heard = ok.heard };
  perceives = λ p e ok. record { mine = ok.mine; early = ok.early; once = ok.once; heard = ok.heard };
  hears = λ p c m e ok. record {
    mine = ok.mine;
    early = ok.early;
    once = ok.once;
    heard = λ d there same. heard-more p.pool.heard (c ∷ []) p.me (slot_of d.statement) (ok.heard d there same);
  };
  doubts = λ p conflicts ok. record { mine = ok.mine; early = ok.early; once = ok.once; heard = ok.heard };
  signs = λ p signer st next none ok. signs-one s p signer st next.may ok;
  decides = λ p ok. record { mine = ok.mine; early = ok.early; once = ok.once; heard = ok.heard };
  delivers = λ p ds member room e ok. record { mine = ok.mine; early = ok.early; once = ok.once; heard = ok.heard };
  installs = λ p d decided whole ok. record {
    mine = ok.mine;
    early = λ c m. (let le = ok.early c m in omega (arith, le));
    once = ok.once;
    heard = λ c m same. absurd (let le = ok.early c m in omega (arith, le, same));
  };
  halts = λ p d decided member ok. record { mine = ok.mine; early = ok.early; once = ok.once; heard = ok.heard };
}

-- ---- the law

pub signed_is_kept : SignedIsKept
signed_is_kept s p t valid fits =
    let was : HasSigned p = record {
      mine = λ c m. (All-mem (λ (c : Claim). (c.signer ≡ p.me) × (view_of c.statement ≤ p.pool.view.number) × IsTrue (is_valid s c)) p.signed c fits.own m).0;
      early = λ c m. (All-mem (λ (c : Claim). (c.signer ≡ p.me) × (view_of c.statement ≤ p.pool.view.number) × IsTrue (is_valid s c)) p.signed c fits.own m).1;
      once = all-pairs Differ p.signed fits.once;
      heard = λ c m. All-mem (λ (c : Claim). view_of c.statement ≡ p.pool.view.number → IsTrue (is_some (heard_on p.pool p.me (slot_of c.statement)))) p.signed c fits.heard_own m;
    } in
    let now = after-keeps s (claims_in t.event) HasSigned (keeps-signed s (claims_in t.event)) t (unfold AreFrom in λ c m. m) p was in
    let q : Process = after s p t in
    record {
      own = mem-All (λ (c : Claim). (c.signer ≡ (after s p t).me) × (view_of c.statement ≤ (after s p t).pool.view.number) × IsTrue (is_valid s c)) (after s p t).signed
          (λ c m. (now.mine c m, now.early c m, All-mem (λ (c : Claim). IsTrue (is_valid s c)) (after s p t).signed c valid m));
      once = pairs-all Differ (after s p t).signed now.once;
      heard_own = mem-All (λ (c : Claim). view_of c.statement ≡ (after s p t).pool.view.number → IsTrue (is_some (heard_on (after s p t).pool (after s p t).me (slot_of c.statement))))
          (after s p t).signed now.heard;
    }
