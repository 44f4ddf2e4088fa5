-- A state that is ready is one that more than f members attest.
use Rattle.std.proofs.Common.{◌≡◌, ◌⊎◌, inl, inr, ℕ, ◌<◌, ◌≤◌, List, [], ◌∷◌, ◌++◌, length, Option, Some, None, Bool, true, false, refl, sym, ap, ◌∙◌, subst, append_assoc, arith}
use Rattle.std.specs.Prelude.{if◌then◌else◌, ◌&&◌, ◌||◌, ◌==◌, not, nat_lt, count_by}
use Rattle.std.specs.List.{list_any}
use Rattle.std.specs.Option.{option_or, unwrap_or}
use Rattle.std.proofs.lemmas.Bool.{eqb-true, eq-eqb, ltb-true}
use Rattle.std.proofs.lemmas.List.{append-nil}
use Rattle.std.proofs.lemmas.List.Folds.{list_any-append}
use Rattle.byte_defs.specs.Choices.{first_that_holds}
use Rattle.byte_defs.specs.Equality.{same_bytes}
use Rattle.group_defs.specs.Views.{View, faulty, is_member}
use Rattle.pool_laws.proofs.Tests.{and-first, and-second, both-true, option_or-is, or-cases, some-same}
use Rattle.store_defs.specs.declared.Taken.{Taken}
use Rattle.store_defs.specs.declared.Taken.TheVariants.{OtherView, Stranger, Unsigned, Known, Ready, Counted}
use Rattle.store_defs.specs.Records.{StateRecord}
use Rattle.store_defs.specs.Votes.{Valid}
use Rattle.store_defs.specs.Transfers.{Transfer, counted, givers, has_given, is_counted, is_signed, new_transfer, offer, transfer_after, with_record, with_state}
use Rattle.store_defs.specs.Laws.{attests, ReadyIsAttested}
use Rattle.store_laws.proofs.Tests.{count-le, or-first, or-none, or-second}

abbrev Offered : Type 0
Offered = Option (List ℕ) × StateRecord

-- the first of the four tests that holds
abbrev judged : Bool → Bool → Bool → Bool → Taken → Taken
judged of_view member signed known next = unwrap_or
    (first_that_holds ((not of_view, OtherView) ∷ (not member, Stranger) ∷ (not signed, Unsigned) ∷ (known, Known) ∷ [])) next

module _ (valid : Valid) (group : List ℕ) (v : View) where
  abbrev attested : List Offered → List ℕ → ℕ → Bool
  attested = attests valid group v

  -- what is kept while the records of `done` were offered
  record IsKept (t : Transfer) (done : List Offered) : Type 0 where
    pub view : t.view ≡ v
    pub given : (state : List ℕ) (m : ℕ) → has_given t state m ≡ true → attested done state m ≡ true
    pub ready : (state : List ℕ) → t.state ≡ Some state → faulty (length v.members) < count_by (attested done state) v.members

  abbrev fits : List ℕ → ℕ → Offered → Bool
  fits state m r = (r.1.signer == m) && ((r.1.view == v.number) && (is_signed valid group r.0 r.1 && same_bytes state r.1.state))

  module _ (done : List Offered) (r : Offered) where
    abbrev more : List Offered
    more = done ++ r ∷ []

    split : (state : List ℕ) (m : ℕ) → attested more state m ≡ (attested done state m || fits state m r)
    split state m = list_any-append (fits state m) done (r ∷ []) ∙ ap (λ b. attested done state m || b) (or-none (fits state m r))

    still : (state : List ℕ) (m : ℕ) → attested done state m ≡ true → attested more state m ≡ true
    still state m e = split state m ∙ or-first (attested done state m) (fits state m r) e

    now : (state : List ℕ) (m : ℕ) → fits state m r ≡ true → attested more state m ≡ true
    now state m e = split state m ∙ or-second (attested done state m) (fits state m r) e

    module _ (t : Transfer) (ok : IsKept t done) where
      still-ready : (state : List ℕ) → t.state ≡ Some state → faulty (length v.members) < count_by (attested more state) v.members
      still-ready state e =
          let lt = ok.ready state e in
          let le = count-le (attested done state) (attested more state) v.members (still state) in
          omega (arith, lt, le)

      unchanged : IsKept t more
      unchanged = record { view = ok.view; given = λ state m e. still state m (ok.given state m e); ready = still-ready }

      module _ (of_view : (r.1.view == v.number) ≡ true) (signed : is_signed valid group r.0 r.1 ≡ true) where
        given-more : (state : List ℕ) (m : ℕ) → has_given (with_state t r.1) state m ≡ true → attested more state m ≡ true
        given-more state m e =
            let one = list_any-append (λ (g : ℕ × List ℕ). (g.0 == m) && same_bytes state g.1) t.counted ((r.1.signer, r.1.state) ∷ []) in
            let whole : (has_given t state m || ((r.1.signer == m) && same_bytes state r.1.state)) ≡ true =
            ap (λ b. has_given t state m || b) (sym (or-none ((r.1.signer == m) && same_bytes state r.1.state))) ∙ sym one ∙ e in
            elim (or-cases (has_given t state m) ((r.1.signer == m) && same_bytes state r.1.state) whole) [
              | inl before ↦ still state m (ok.given state m before)
              | inr its ↦ now state m
                  (both-true (r.1.signer == m) _ (and-first (r.1.signer == m) _ its)
                  (both-true (r.1.view == v.number) _ of_view
                  (both-true (is_signed valid group r.0 r.1) _ signed (and-second (r.1.signer == m) _ its))))
            ]

        counts : IsKept (with_state t r.1) more
        counts = record { view = ok.view; given = given-more; ready = still-ready }

        makes-ready : nat_lt (faulty (length t.view.members)) (givers (with_state t r.1) r.1.state) ≡ true → IsKept (with_record t r.1 Ready) more
        makes-ready enough = record { view = ok.view; given = given-more; ready = either }
          where
            its : faulty (length v.members) < count_by (attested more r.1.state) v.members
            its =
                let lt = ltb-true (faulty (length t.view.members)) (givers (with_state t r.1) r.1.state) enough in
                let lt' : faulty (length v.members) < count_by (has_given (with_state t r.1) r.1.state) v.members =
                subst (λ (w : View). faulty (length w.members) < count_by (has_given (with_state t r.1) r.1.state) w.members) ok.view lt in
                let le = count-le (has_given (with_state t r.1) r.1.state) (attested more r.1.state) v.members (given-more r.1.state) in
                omega (arith, lt', le)

            either : (state : List ℕ) → option_or t.state (Some r.1.state) ≡ Some state
                → faulty (length v.members) < count_by (attested more state) v.members
            either state e = elim (option_or-is t.state (Some r.1.state) state e) [
              | inl was ↦ still-ready state was
              | inr is ↦ subst (λ s. faulty (length v.members) < count_by (attested more s) v.members) (some-same r.1.state state is) its
            ]

        by-count : (b : Bool) → nat_lt (faulty (length t.view.members)) (givers (with_state t r.1) r.1.state) ≡ b
            → IsKept (with_record t r.1 (if b then Ready else Counted (givers (with_state t r.1) r.1.state))) more
        by-count true enough = makes-ready enough
        by-count false few = counts

      judge : (a b s k : Bool) → (r.1.view == t.view.number) ≡ a → is_signed valid group r.0 r.1 ≡ s
          → IsKept (with_record t r.1 (judged a b s k (counted t r.1))) more
      judge false b s k of_view signed = unchanged
      judge true false s k of_view signed = unchanged
      judge true true false k of_view signed = unchanged
      judge true true true true of_view signed = unchanged
      judge true true true false of_view signed = by-count (subst (λ (w : View). (r.1.view == w.number) ≡ true) ok.view of_view) signed
          (nat_lt (faulty (length t.view.members)) (givers (with_state t r.1) r.1.state)) refl

      one : IsKept (with_record t r.1 (offer valid group r.0 t r.1)) more
      unfolding offer
      one = judge (r.1.view == t.view.number) (is_member t.view r.1.signer) (is_signed valid group r.0 r.1) (is_counted t r.1.signer) refl refl

  all : (rs done : List Offered) (t : Transfer) → IsKept t done → IsKept (transfer_after valid group t rs) (done ++ rs)
  unfolding transfer_after
  all [] done t ok = subst (IsKept t) (sym (append-nil done)) ok
  all (r ∷ rs) done t ok =
      let next : Transfer = with_record t r.1 (offer valid group r.0 t r.1) in
      subst (IsKept (transfer_after valid group next rs)) (append_assoc done (r ∷ []) rs) (all rs (done ++ r ∷ []) next (one done r t ok))

  begins : IsKept (new_transfer v) []
  begins = record { view = refl; given = λ state m e. absurd cc; ready = λ state e. absurd cc }

pub ready_is_attested : ReadyIsAttested
ready_is_attested valid group v rs state e = (all valid group v rs [] (new_transfer v) (begins valid group v)).ready state e
