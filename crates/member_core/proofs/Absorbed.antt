-- An entry of a journal, absorbed.
use Rattle.std.proofs.Common.{◌≡◌, ℕ, ◌+◌, ◌-◌, Bool, true, false, List, [], length, refl, sym, ap, subst, ◌∙◌, arith}
use Rattle.std.specs.Prelude.{All, IsTrue, ◌↔◌, slice_index_or}
use Rattle.std.proofs.lemmas.List.{length-append, length-map}
use Rattle.message_defs.specs.Statements.{Claim}
use Rattle.message_defs.specs.Spelling.{IsClaim, IsStatement}
use Rattle.message_defs.specs.Packing.{signed_of}
use Rattle.group_defs.specs.Process.{Setting, Process}
use Rattle.group_defs.specs.Events.{Event, Turn, Outcome, after, outcome, journalled}
use Rattle.member_events.specs.Below.{signed}
use Rattle.member_events.specs.declared.events.Outcome.{Outcome as Came}
use Rattle.pool_laws.proofs.Members.{All-mem, mem-All, mem-behind, Mem}
use Rattle.member_signing.specs.States.{ProcessState, IsOutcome}
use Rattle.member_core.specs.declared.member.Core.{Core}
use Rattle.member_core.specs.declared.journalled.Journalled.{Journalled}
use Rattle.member_core.specs.Outcomes.{HasTaken}
use Rattle.member_core.specs.Cores.{IsCore, Takes}
use Rattle.member_core.specs.Journalled.{HandsOut, handed_out, used_of, total_of}
use Rattle.member_core.specs.Entries.{Absorbs, Agrees}
use Rattle.member_core.proofs.Joined.{signed-more}

-- no test both holds and fails
pub refuted : (b : Bool) → IsTrue b → b ≡ false → (P : Type 0) → P
refuted true holds fails P = absurd cc
refuted false holds fails P = absurd cc

-- as many claims were signed as the outcome has
pub counted-so : (o : Outcome) (r : Came) → IsOutcome o r → length o.signed ≡ length r.signed.items
counted-so o r is = sym (length-map o.signed signed_of) ∙ ap length is.signed_now ∙ length-map r.signed.items signed

-- what is signed in a turn is in range
pub in-range : (s : Setting) (p : Process) (t : Turn) (st : ProcessState) (many : ℕ) (r : Came) → HasTaken s p t st many r
    → All (λ (c : Claim). IsStatement c.statement) (outcome s p t).signed
in-range s p t st many r is =
    mem-All (λ (c : Claim). IsStatement c.statement) (outcome s p t).signed
    (λ c m. (All-mem IsClaim (after s p t).signed c is.state.lawful.said
    (subst (Mem c) (sym (signed-more s p t)) (mem-behind p.signed (outcome s p t).signed c m))).1)

-- ---- the turn that an entry tells of

module _ (s : Setting) (p : Process) (e : Event) (signatures : List (List ℕ)) where
  abbrev turn : Turn
  turn = journalled p e signatures

  -- it is the one of the signer that hands them out
  same-turn : (j : Journalled) → HandsOut j signatures → length p.signed ≡ used_of j
      → record { event = e; allowance = total_of j - used_of j; signer = handed_out j } ≡ turn
  same-turn j hands made =
      let many : total_of j - used_of j ≡ length signatures = omega (arith, hands.many) in
      let before : j.before ≡ length p.signed = hands.before ∙ sym made in
      λ i. record {
        event = e;
        allowance = many i;
        signer = λ (used : ℕ) (body : List ℕ). slice_index_or (hands.all i) (used - before i) [];
      }

  pub handed-so : (j : Journalled) (st : ProcessState) (many : ℕ) (r : Came) → HandsOut j signatures → length p.signed ≡ used_of j
      → HasTaken s p (record { event = e; allowance = total_of j - used_of j; signer = handed_out j }) st many r
      → HasTaken s p turn st many r
  handed-so j st many r hands made is = subst (λ (t : Turn). HasTaken s p t st many r) (same-turn j hands made) is

  -- with all of them more
  pub grown-so : (made count : ℕ) → length p.signed ≡ made → count ≡ length signatures
      → length (outcome s p turn).signed ≡ count → length (after s p turn).signed ≡ made + count
  grown-so made count before many fits =
      let all : length (after s p turn).signed
      ≡ length p.signed + length (outcome s p turn).signed = ap length (signed-more s p turn) ∙ length-append p.signed
      (outcome s p turn).signed in
      omega (arith, all, before, fits)

  -- the core has absorbed the entry
  pub absorbs-so : {G : Type 0} (used : G → ℕ) (left many : ℕ) (spent : Bool) (new : Core G) (r : Came)
      → Agrees s p left e signatures spent → Takes s p turn new.keyless many r → many ≡ used new.signer
      → Absorbs used s p left new e signatures spent r
  unfolding IsCore
  absorbs-so used left many spent new r agrees takes made = record {
    agrees = agrees;
    core = record { keyless = takes.keyless; signed = takes.used ∙ made };
    outcome = takes.outcome;
  }

-- ---- whether what came of the event is what the entry tells

module _ (o : Outcome) (r : Came) (count : ℕ) (spent fits valid : Bool) (is : IsOutcome o r)
    (same : IsTrue fits ↔ ((length r.signed.items ≡ count) × (r.spent ≡ spent))) where
  pub unfit-so : fits ≡ false → IsTrue false ↔ ((length o.signed ≡ count) × (o.spent ≡ spent) × IsTrue valid)
  unfit-so fails = (
    λ e. absurd (refuted false e refl ⊥),
    λ reported. refuted fits (same.1 (sym (counted-so o r is) ∙ reported.0, sym is.spent ∙ reported.1)) fails (IsTrue false),
  )

  pub fit-so : (result : Bool) → fits ≡ true → result ≡ valid
      → IsTrue result ↔ ((length o.signed ≡ count) × (o.spent ≡ spent) × IsTrue valid)
  fit-so result holds judged = (
    λ e. (counted-so o r is ∙ (same.0 holds).0, is.spent ∙ (same.0 holds).1, sym judged ∙ e),
    λ reported. judged ∙ reported.2,
  )
