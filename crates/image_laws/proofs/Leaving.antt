-- How the views were left stays fit to be kept.
use Rattle.std.proofs.Common.{◌≡◌, ℕ, ◌<◌, List, [], ◌∷◌, ◌++◌, length, map, false, Option, Some, refl, sym, ap, ◌∙◌, subst, inl}
use Rattle.std.specs.Prelude.{is_none, IsTrue}
use Rattle.std.specs.Option.{option_map_or}
use Rattle.std.proofs.lemmas.Bool.{leb-false}
use Rattle.std.proofs.lemmas.List.{map-append}
use Rattle.message_defs.specs.Updates.{Value}
use Rattle.message_defs.specs.Statements.{Ready, Claim}
use Rattle.group_defs.specs.Views.{View, IsView, is_member, has_keys, next_fault, next_view}
use Rattle.group_defs.proofs.FollowingViews.{next_is_view}
use Rattle.group_defs.specs.Process.{Setting, Pool, Left, Process, keyed}
use Rattle.group_defs.specs.Certified.{certificate}
use Rattle.group_defs.specs.Hearing.{is_valid, is_beyond}
use Rattle.group_defs.specs.Settle.{install}
use Rattle.group_defs.specs.Family.{claims_in}
use Rattle.group_defs.specs.Events.{after}
use Rattle.pool_laws.proofs.Members.{Mem, All-mem, mem-All, mem-append}
use Rattle.pool_laws.proofs.Tests.{and-first, none-is}
use Rattle.safety_laws.proofs.Induction.{Keeps, AreFrom, after-keeps}
use Rattle.safety_laws.proofs.Installed.{IsDecided}
use Rattle.image_defs.specs.Images.{LeftView, left_by, reported_by, view_behind}
use Rattle.image_defs.specs.Kept.{IsLeft, AreLeft, CommitsLast}
use Rattle.image_laws.specs.Keeping.{LeftFits, LeftIsKept}
use Rattle.image_laws.proofs.Certificates.{certificate-first}
use Rattle.image_laws.proofs.Committing.{Certifies, certificate-is}
use Rattle.image_laws.proofs.Deciding.{IsBacked, stays-backed}
use Rattle.image_laws.proofs.Hearing.{Hears, Kept, AreValid, KeptIfValid, keeps-heard, heard-is, heard-was}

abbrev tellings : List Left → List LeftView
tellings ls = map (λ (l : Left). left_by l.commit) ls

-- ---- one view more

left-more : (s : Setting) (v : View) (ls : List LeftView) (l : LeftView) → AreLeft s v ls → IsLeft s (view_behind v ls) l → AreLeft s v (ls ++ l ∷ [])
left-more s v [] l are is = (is, tt)
left-more s v (m ∷ ls) l are is = (are.0, left-more s (next_view v m.value.update) ls l are.1 is)

behind-more : (v : View) (ls : List LeftView) (l : LeftView) → view_behind v (ls ++ l ∷ []) ≡ next_view (view_behind v ls) l.value.update
behind-more v [] l = refl
behind-more v (m ∷ ls) l = behind-more (next_view v m.value.update) ls l

last-more : (h : Pool) (ls : List LeftView) (l : LeftView) → l.commit ≡ certificate h (Ready h.view.number l.rank l.value)
    → CommitsLast (Some h) (ls ++ l ∷ [])
last-more h [] l is = is
last-more h (m ∷ []) l is = is
last-more h (m ∷ n ∷ ls) l is = last-more h (n ∷ ls) l is

never-empty : {A : Type 0} (xs : List A) (x : A) → xs ++ x ∷ [] ≡ [] → ⊥
never-empty [] x e = absurd cc
never-empty (y ∷ xs) x e = absurd cc

-- ---- by a certificate

module _ (s : Setting) (p : Process) (d : ℕ × Value) (hears : Hears s p) (by : IsDecided s p.pool d) (view : IsView p.pool.view) where
  abbrev commit : List Claim
  commit = certificate p.pool (Ready p.pool.view.number d.0 d.1)

  certifies : Certifies p.pool (Ready p.pool.view.number d.0 d.1) commit
  certifies = certificate-is p.pool (Ready p.pool.view.number d.0 d.1) view.distinct by.1

  tells : reported_by commit ≡ d
  tells =
      let first = certificate-first p.pool (Ready p.pool.view.number d.0 d.1) view.some by.1 in
      ap reported_by first.is ∙ ap (λ st. reported_by (record { signer = first.claim.signer; statement = st; signature = first.claim.signature } ∷ first.more)) first.says

  -- a heard Ready has the rank of a member
  rank-is : d.0 < length p.pool.view.members
  rank-is =
      let first = certificate-first p.pool (Ready p.pool.view.number d.0 d.1) view.some by.1 in
      let there : Mem first.claim commit = subst (Mem first.claim) (sym first.is) (inl refl) in
      let heard = (certifies.each first.claim there).2 in
      let within : is_beyond p first.claim.signer (Ready p.pool.view.number d.0 d.1) ≡ false
      = subst (λ st. is_beyond p first.claim.signer st ≡ false) first.says (hears.within first.claim heard) in
      leb-false (length p.pool.view.members) d.0 within

  is-left : IsLeft s p.pool.view (record { rank = d.0; value = d.1; commit = commit })
  is-left = record {
    rank = rank-is;
    possible = by.0;
    many = certifies.many;
    rising = certifies.rising;
    each = mem-All (λ (c : Claim). IsTrue (is_member p.pool.view c.signer) × (c.statement ≡ Ready p.pool.view.number d.0 d.1) × IsTrue (is_valid s c)) commit
        (λ c m. (let is = certifies.each c m in (is.0, is.1, hears.valid c is.2)));
  }

  -- as the certificate itself tells
  is-reported : left_by commit ≡ record { rank = d.0; value = d.1; commit = commit }
  is-reported = ap (λ (e : ℕ × Value). record { rank = e.0; value = e.1; commit = commit }) tells

  follows : IsView (next_view p.pool.view d.1.update)
  follows = next_is_view p.pool.view d.1.update
      (none-is (next_fault p.pool.view d.1.update) (and-first (is_none (next_fault p.pool.view d.1.update)) (has_keys (keyed s) d.1.update) by.0)) view

-- ---- each change

installs : (s : Setting) (p : Process) (d : ℕ × Value) → Hears s p → IsDecided s p.pool d → LeftFits s p → LeftFits s (install d p)
installs s p d hears by ok =
    let more = map-append (λ (l : Left). left_by l.commit) p.left (now ∷ []) ∙ ap (λ (l : LeftView). tellings p.left ++ l ∷ []) (is-reported s p d hears by ok.view) in
    record {
      left = subst (AreLeft s s.genesis) (sym more) (left-more s s.genesis (tellings p.left) left ok.left
          (subst (λ v. IsLeft s v left) (sym ok.current) (is-left s p d hears by ok.view)));
      last = subst (CommitsLast (Some p.pool)) (sym more) (last-more p.pool (tellings p.left) left refl);
      none_before = λ none. absurd (never-empty p.left now none);
      current = ap (view_behind s.genesis) more ∙ behind-more s.genesis (tellings p.left) left ∙ ap (λ v. next_view v d.1.update) ok.current;
      view = follows s p d hears by ok.view;
    }
  where
    now : Left
    now = record { view = p.pool.view; delivered = p.delivered; commit = certificate p.pool (Ready p.pool.view.number d.0 d.1) }

    left : LeftView
    left = record { rank = d.0; value = d.1; commit = certificate p.pool (Ready p.pool.view.number d.0 d.1) }

record All-kept (s : Setting) (p : Process) : Type 0 where
  pub heard : KeptIfValid s p
  pub backed : IsBacked s p
  pub left : AreValid s p → LeftFits s p

keeps-left : (s : Setting) (from : List Claim) → Keeps s from (All-kept s)
keeps-left s from = record {
  accepts = λ p payload ok. stays p _ (h.accepts p payload ok.heard) (b.accepts p payload ok.backed) ok.left refl refl refl (λ c m. m);
  perceives = λ p e ok. stays p _ (h.perceives p e ok.heard) (b.perceives p e ok.backed) ok.left refl refl refl (λ c m. m);
  hears = λ p c m e ok. stays p _ (h.hears p c m e ok.heard) (b.hears p c m e ok.backed) ok.left refl refl refl (λ c m. m);
  doubts = λ p conflicts ok. stays p _ (h.doubts p conflicts ok.heard) (b.doubts p conflicts ok.backed) ok.left refl refl refl (λ c m. m);
  signs = λ p signer st next none ok. stays p _ (h.signs p signer st next none ok.heard) (b.signs p signer st next none ok.backed) ok.left refl refl refl
      (λ c m. mem-append p.signed _ c m);
  decides = λ p ok. stays p _ (h.decides p ok.heard) (b.decides p ok.backed) ok.left refl refl refl (λ c m. m);
  delivers = λ p ds member room e ok. stays p _ (h.delivers p ds member room e ok.heard) (b.delivers p ds member room e ok.backed) ok.left refl refl refl (λ c m. m);
  installs = λ p d decided whole ok. record {
    heard = h.installs p d decided whole ok.heard;
    backed = b.installs p d decided whole ok.backed;
    left = λ valid. installs s p d (ok.heard valid).now (ok.backed.decided d decided) (ok.left valid);
  };
  halts = λ p d decided member ok. stays p _ (h.halts p d decided member ok.heard) (b.halts p d decided member ok.backed) ok.left refl refl refl (λ c m. m);
}
  where
    h : Keeps s from (KeptIfValid s)
    h = keeps-heard s from

    b : Keeps s from (IsBacked s)
    b = stays-backed s from

    stays : (p q : Process) → KeptIfValid s q → IsBacked s q → (AreValid s p → LeftFits s p) → q.left ≡ p.left → q.previous ≡ p.previous
        → q.pool.view ≡ p.pool.view → ((c : Claim) → Mem c p.signed → Mem c q.signed) → All-kept s q
    stays p q heard backed was left previous view signed = record {
      heard = heard;
      backed = backed;
      left = λ valid. (
          let fits = was (λ c m. valid c (signed c m)) in
          record {
            left = subst (λ ls. AreLeft s s.genesis (tellings ls)) (sym left) fits.left;
            last = subst (λ ls. CommitsLast q.previous (tellings ls)) (sym left) (subst (λ o. CommitsLast o (tellings p.left)) (sym previous) fits.last);
            none_before = λ none. ap (λ (o : Option Pool). option_map_or (λ (g : Pool). g.heard) o []) previous ∙ fits.none_before (sym left ∙ none);
            current = ap (λ ls. view_behind s.genesis (tellings ls)) left ∙ fits.current ∙ sym view;
            view = subst IsView (sym view) fits.view;
          }
          );
    }

-- ---- the law

pub left_is_kept : LeftIsKept
left_is_kept s p t valid heard decided fits =
    let was : Kept s p = record { now = heard-is s p heard.heard; before = heard-was s p p.previous heard.was_heard } in
    let now = after-keeps s (claims_in t.event) (All-kept s) (keeps-left s (claims_in t.event)) t (unfold AreFrom in λ c m. m) p (record {
      heard = λ v. was;
      backed = record { decided = λ d is. (let so = decided.decided d is in (so.1, so.0)) };
      left = λ v. fits;
    }) in
    now.left (λ c m. All-mem (λ (c : Claim). IsTrue (is_valid s c)) (after s p t).signed c valid m)
