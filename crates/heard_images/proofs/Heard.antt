-- Who hears each claim of a list new has a heard list, and the other way round.
use Rattle.std.proofs.Common.{◌≡◌, ◌≢◌, ℕ, suc, List, [], ◌∷◌, ◌++◌, Bool, true, false, Option, None, Some, refl, sym, subst, ap, ◌∙◌, inl, inr, arith}
use Rattle.std.specs.Prelude.{◌↔◌, ◌&&◌, ◌==◌, not, nat_lt, unwrap_or, is_some, option_map, All, AllPairs, IsTrue, IsFalse}
use Rattle.std.proofs.lemmas.Bool.{ltb-true, ltb-false, eqb-true, eq-eqb}
use Rattle.std.proofs.lemmas.List.Kept.{AllPairs-cons}
use Rattle.byte_defs.specs.Choices.{first_that_holds, is_some_and}
use Rattle.message_defs.specs.Statements.{Statement, Init, Echo, Order, Place, Keep, Notify, End, Last, Suggest, Ack, Ready, Claim, slot_of, view_of, same_slot, same_statement}
use Rattle.group_defs.specs.Views.{View}
use Rattle.group_defs.specs.Process.{Setting, Pool, Process}
use Rattle.group_defs.specs.Certified.{claim_on, heard_on, says}
use Rattle.group_defs.specs.Hearing.{Old, Early, Stranger, OutOfWindow, Known, Unsigned, Conflict, Heard, verdict, is_valid, is_strange, is_beyond}
use Rattle.image_defs.specs.Kept.{AreHeard}
use Rattle.pool_laws.proofs.Members.{Mem, All-mem, mem-All, find-is, mem-find, mem-snoc, snoc-mem, mem-behind}
use Rattle.pool_laws.proofs.Places.{Pairs, all-pairs, pairs-all, mem-slice_get}
use Rattle.pool_laws.proofs.Slots.{same_slot-is, is-same_slot}
use Rattle.pool_laws.proofs.Tests.{and-first, and-second, both-true, not-false, none-some}
use Rattle.claim_pool.specs.Kept.{HasDelivered, Own}
use Rattle.heard_images.specs.Hearing.{AreNew, heard_in}

-- of the seven tests each one fails
record Fails (old early strange beyond known unsigned conflict : Bool) : Type 0 where
  not_old : old ≡ false
  not_early : early ≡ false
  not_strange : strange ≡ false
  not_beyond : beyond ≡ false
  not_known : known ≡ false
  signed : unsigned ≡ false
  alone : conflict ≡ false

fails : (old early strange beyond known unsigned conflict : Bool)
    → unwrap_or (first_that_holds ((old, Old) ∷ (early, Early) ∷ (strange, Stranger) ∷ (beyond, OutOfWindow) ∷ (known, Known)
    ∷ (unsigned, Unsigned) ∷ (conflict, Conflict) ∷ [])) Heard ≡ Heard
    → Fails old early strange beyond known unsigned conflict
fails true early strange beyond known unsigned conflict e = absurd cc
fails false true strange beyond known unsigned conflict e = absurd cc
fails false false true beyond known unsigned conflict e = absurd cc
fails false false false true known unsigned conflict e = absurd cc
fails false false false false true unsigned conflict e = absurd cc
fails false false false false false true conflict e = absurd cc
fails false false false false false false true e = absurd cc
fails false false false false false false false e = record {
  not_old = refl;
  not_early = refl;
  not_strange = refl;
  not_beyond = refl;
  not_known = refl;
  signed = refl;
  alone = refl;
}

failed : (old early strange beyond known unsigned conflict : Bool) → Fails old early strange beyond known unsigned conflict
    → unwrap_or (first_that_holds ((old, Old) ∷ (early, Early) ∷ (strange, Stranger) ∷ (beyond, OutOfWindow) ∷ (known, Known)
    ∷ (unsigned, Unsigned) ∷ (conflict, Conflict) ∷ [])) Heard ≡ Heard
failed old early strange beyond known unsigned conflict f = λ i. unwrap_or (first_that_holds ((f.not_old i, Old) ∷ (f.not_early i, Early)
    ∷ (f.not_strange i, Stranger) ∷ (f.not_beyond i, OutOfWindow) ∷ (f.not_known i, Known) ∷ (f.signed i, Unsigned) ∷ (f.alone i, Conflict)
    ∷ [])) Heard

-- no earlier claim is of its signer and slot
abbrev Apart : Claim → Claim → Type 0
Apart c d = c.signer ≡ d.signer → slot_of c.statement ≢ slot_of d.statement

false-of : (b : Bool) → (b ≡ true → ⊥) → b ≡ false
false-of true no_way = absurd (no_way refl)
false-of false no_way = refl

module _ (h : List Claim) (c : Claim) where
  abbrev test : Claim → Bool
  test d = (d.signer == c.signer) && same_slot (slot_of d.statement) (slot_of c.statement)

  none-on : ((d : Claim) → Mem d h → Apart d c) → claim_on h c.signer (slot_of c.statement) ≡ None
  none-on apart = go (claim_on h c.signer (slot_of c.statement)) refl
    where
      go : (o : Option Claim) → claim_on h c.signer (slot_of c.statement) ≡ o → o ≡ None
      go None e = refl
      go (Some d) e =
          let found = find-is test h d e in
          absurd (apart d found.0
          (eqb-true d.signer c.signer (and-first (d.signer == c.signer) (same_slot (slot_of d.statement) (slot_of c.statement)) found.1))
          (same_slot-is (slot_of d.statement) (slot_of c.statement)
          (and-second (d.signer == c.signer) (same_slot (slot_of d.statement) (slot_of c.statement)) found.1)))

  on-none : claim_on h c.signer (slot_of c.statement) ≡ None → (d : Claim) → Mem d h → Apart d c
  on-none none d m signer slot =
      let found = mem-find test h d m (both-true (d.signer == c.signer) (same_slot (slot_of d.statement) (slot_of c.statement))
      (eq-eqb d.signer c.signer signer) (is-same_slot (slot_of d.statement) (slot_of c.statement) slot)) in
      none-some none found.1

module _ (s : Setting) (p : Process) where
  -- the process as it is where this is heard
  abbrev pub at : List Claim → Process
  at h = record p { pool = record { view = p.pool.view; heard = h } }

  beyond-same : (h : List Claim) (signer : ℕ) (st : Statement) → is_beyond (at h) signer st ≡ is_beyond p signer st
  beyond-same h signer (Init x l payload) = refl
  beyond-same h signer (Echo x m payload) = refl
  beyond-same h signer (Order x k b) = refl
  beyond-same h signer (Place x k b) = refl
  beyond-same h signer (Keep x k b) = refl
  beyond-same h signer (Notify x u) = refl
  beyond-same h signer (End x n) = refl
  beyond-same h signer (Last x r ready) = refl
  beyond-same h signer (Suggest x r v) = refl
  beyond-same h signer (Ack x r v) = refl
  beyond-same h signer (Ready x r v) = refl

  -- of the view, by members, within the window, and valid
  record Fits (c : Claim) : Type 0 where
    of_view : view_of c.statement ≡ p.pool.view.number
    known : IsFalse (is_strange p c)
    within : IsFalse (is_beyond p c.signer c.statement)
    valid : IsTrue (is_valid s c)

  module _ (h : List Claim) (c : Claim) where
    abbrev Passes : Type 0
    Passes = Fails (nat_lt (view_of c.statement) p.pool.view.number) (nat_lt p.pool.view.number (view_of c.statement)) (is_strange p c)
        (is_beyond (at h) c.signer c.statement) (says (at h).pool c.statement c.signer) (not (is_valid s c))
        (is_some (heard_on (at h).pool c.signer (slot_of c.statement)))

    passes : verdict s (at h) c ≡ Heard → Passes
    passes e = fails (nat_lt (view_of c.statement) p.pool.view.number) (nat_lt p.pool.view.number (view_of c.statement)) (is_strange p c)
        (is_beyond (at h) c.signer c.statement) (says (at h).pool c.statement c.signer) (not (is_valid s c))
        (is_some (heard_on (at h).pool c.signer (slot_of c.statement))) e

    fits-so : verdict s (at h) c ≡ Heard → Fits c
    fits-so e =
        let it = passes e in
        record {
          of_view = (let le = ltb-false (view_of c.statement) p.pool.view.number it.not_old in
              (let ge = ltb-false p.pool.view.number (view_of c.statement) it.not_early in omega (arith, le, ge)));
          known = it.not_strange;
          within = sym (beyond-same h c.signer c.statement) ∙ it.not_beyond;
          valid = not-false (is_valid s c) it.signed;
        }

    apart-so : verdict s (at h) c ≡ Heard → (d : Claim) → Mem d h → Apart d c
    apart-so e = on-none h c (none (claim_on h c.signer (slot_of c.statement)) (passes e).alone)
      where
        none : (o : Option Claim) → is_some (option_map (λ (c : Claim). c.statement) o) ≡ false → o ≡ None
        none None e = refl
        none (Some d) e = absurd cc

    so-heard : Fits c → ((d : Claim) → Mem d h → Apart d c) → verdict s (at h) c ≡ Heard
    so-heard fits apart =
        let none = none-on h c apart in
        failed (nat_lt (view_of c.statement) p.pool.view.number) (nat_lt p.pool.view.number (view_of c.statement)) (is_strange p c)
        (is_beyond (at h) c.signer c.statement) (says (at h).pool c.statement c.signer) (not (is_valid s c))
        (is_some (heard_on (at h).pool c.signer (slot_of c.statement))) (record {
          not_old = false-of (nat_lt (view_of c.statement) p.pool.view.number)
              (λ t. (let lt = ltb-true (view_of c.statement) p.pool.view.number t in (let is = fits.of_view in omega (arith, lt, is))));
          not_early = false-of (nat_lt p.pool.view.number (view_of c.statement))
              (λ t. (let lt = ltb-true p.pool.view.number (view_of c.statement) t in (let is = fits.of_view in omega (arith, lt, is))));
          not_strange = fits.known;
          not_beyond = beyond-same h c.signer c.statement ∙ fits.within;
          not_known = ap (λ (o : Option Claim). is_some_and (option_map (λ (c : Claim). c.statement) o) (same_statement c.statement)) none;
          signed = ap not fits.valid;
          alone = ap (λ (o : Option Claim). is_some (option_map (λ (c : Claim). c.statement) o)) none;
        })

  -- each fits, none is apart from none that was heard before, and none from another
  record Facts (h cs : List Claim) : Type 0 where
    each : (c : Claim) → Mem c cs → Fits c
    apart : (d c : Claim) → Mem d h → Mem c cs → Apart d c
    once : AllPairs Apart cs

  new-facts : (h cs : List Claim) → AreNew s (at h) cs → Facts h cs
  new-facts h [] new = record {
    each = λ c m. absurd m;
    apart = λ d c m there. absurd there;
    once = λ i j d lt far. absurd (omega (arith, far));
  }
  new-facts h (c ∷ cs) new =
      let rest = new-facts (h ++ c ∷ []) cs new.1 in
      record {
        each = λ x m. elim m [ inl is ↦ subst Fits is (fits-so h c new.0) | inr there ↦ rest.each x there ];
        apart = λ d x m there. elim there [
          | inl is ↦ subst (Apart d) is (apart-so h c new.0 d m)
          | inr later ↦ rest.apart d x (mem-snoc h c d m) later
        ];
        once = AllPairs-cons Apart c cs (mem-All (Apart c) cs (λ x m. rest.apart c x (mem-behind h (c ∷ []) c (inl refl)) m)) rest.once;
      }

  facts-new : (h cs : List Claim) → Facts h cs → AreNew s (at h) cs
  facts-new h [] facts = tt
  facts-new h (c ∷ cs) facts = (
    so-heard h c (facts.each c (inl refl)) (λ d m. facts.apart d c m (inl refl)),
    facts-new (h ++ c ∷ []) cs (record {
      each = λ x m. facts.each x (inr m);
      apart = λ d x m there. elim (snoc-mem h c d m) [
        | inl before ↦ facts.apart d x before (inr there)
        | inr is ↦ subst (λ (z : Claim). Apart z x) is (first x there)
      ];
      once = pairs-all Apart cs (λ i j a b lt at_i at_j. pairs (suc i) (suc j) a b (omega (arith, lt)) at_i at_j);
    }),
  )
    where
      pairs : Pairs Apart (c ∷ cs)
      pairs = all-pairs Apart (c ∷ cs) facts.once

      first : (x : Claim) → Mem x cs → Apart c x
      first x m = let there = mem-slice_get cs x m in pairs 0 (suc there.0) c x (omega arith) refl there.1

  pub new-is : AreNew s (at []) p.pool.heard ↔ AreHeard s p
  new-is = (
    λ new. (let facts = new-facts [] p.pool.heard new in
        record {
          view = mem-All (λ (c : Claim). view_of c.statement ≡ p.pool.view.number) p.pool.heard (λ c m. (facts.each c m).of_view);
          known = mem-All (λ (c : Claim). IsFalse (is_strange p c)) p.pool.heard (λ c m. (facts.each c m).known);
          within = mem-All (λ (c : Claim). IsFalse (is_beyond p c.signer c.statement)) p.pool.heard (λ c m. (facts.each c m).within);
          valid = mem-All (λ (c : Claim). IsTrue (is_valid s c)) p.pool.heard (λ c m. (facts.each c m).valid);
          once = facts.once;
        }),
    λ are. facts-new [] p.pool.heard (record {
      each = λ c m. record {
        of_view = All-mem (λ (c : Claim). view_of c.statement ≡ p.pool.view.number) p.pool.heard c are.view m;
        known = All-mem (λ (c : Claim). IsFalse (is_strange p c)) p.pool.heard c are.known m;
        within = All-mem (λ (c : Claim). IsFalse (is_beyond p c.signer c.statement)) p.pool.heard c are.within m;
        valid = All-mem (λ (c : Claim). IsTrue (is_valid s c)) p.pool.heard c are.valid m;
      };
      apart = λ d c m there. absurd m;
      once = are.once;
    }),
  )

-- so for the pool of this view with these claims
pub list-is : (s : Setting) (p : Process) (v : View) (cs : List Claim) → p.pool ≡ heard_in v cs → (b : Bool)
    → (IsTrue b ↔ AreNew s (at s p []) cs) → IsTrue b ↔ AreHeard s p
list-is s p v cs is b new =
    let same : p.pool.heard ≡ cs = ap (λ (h : Pool). h.heard) is in (
      λ ok. (new-is s p).0 (subst (AreNew s (at s p [])) (sym same) (new.0 ok)),
      λ are. new.1 (subst (AreNew s (at s p [])) same ((new-is s p).1 are)),
    )

-- where nothing is heard yet
pub at-none : (s : Setting) (p : Process) (v : View) (cs : List Claim) → p.pool ≡ heard_in v cs → (at s p []).pool ≡ heard_in v []
at-none s p v cs is = ap (λ (h : Pool). heard_in h.view []) is

pub delivered-none : (s : Setting) (p : Process) (own : Own) → HasDelivered own p → HasDelivered own (at s p [])
delivered-none s p own has = record { places = has.places; counts = has.counts }
