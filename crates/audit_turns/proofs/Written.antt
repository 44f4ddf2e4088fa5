-- An entry agrees with a core exactly where the process may have written it.
use Rattle.std.proofs.Common.{◌≡◌, ℕ, ◌+◌, ◌-◌, ◌≤◌, Bool, true, false, length, refl, sym, ap, subst, ◌∙◌, arith}
use Rattle.std.specs.Prelude.{◌==◌, ◌&&◌, nat_le, IsTrue}
use Rattle.std.specs.List.{list_all}
use Rattle.std.proofs.lemmas.Bool.{eqb-true, eq-eqb, leb-true, le-leb}
use Rattle.group_defs.specs.Process.{Setting}
use Rattle.group_defs.specs.Hearing.{is_valid}
use Rattle.group_defs.specs.Events as defs
use Rattle.pool_laws.proofs.Tests.{and-four}
use Rattle.rp_base.specs.Signer.{count_total, count_used}
use Rattle.journal_entries.specs.Views.{entry as entry_of, event as plain_event}
use Rattle.member_events.specs.declared.entry.Entry.{Entry}
use Rattle.member_events.specs.declared.events.Event.{Event}
use Rattle.member_events.specs.declared.events.Event.TheVariants as events
use Rattle.member_events.specs.Kept.{signatures_left}
use Rattle.member_core.specs.Cores.{IsCore, left_of, signer_of}
use Rattle.member_core.specs.Entries.{Agrees}
use Rattle.member_core.specs.Events.{event as event_in}
use Rattle.audit_defs.specs.Players as audit
use Rattle.audit_defs.specs.Players.{event_of, is_written, most_signatures, same_answer, turn_of}
use Rattle.audit_turns.specs.declared.player.Player.{Player}
use Rattle.audit_turns.specs.Players.{IsPlayer}

-- an event of the code, and that of the journal
pub event-is : (e : Event) → event_in e ≡ event_of (plain_event e)
event-is (events.Submit payload) = refl
event-is (events.Frame from bytes) = refl
event-is (events.Suspect q) = refl
event-is (events.Join q) = refl
event-is events.Renew = refl
event-is events.Tick = refl

same-is : (a b : Bool) → same_answer a b ≡ true → a ≡ b
same-is true true e = refl
same-is true false e = absurd cc
same-is false true e = absurd cc
same-is false false e = refl

is-same : (a b : Bool) → a ≡ b → same_answer a b ≡ true
is-same true true e = refl
is-same true false e = absurd cc
is-same false true e = absurd cc
is-same false false e = refl

all-four : (a b c d : Bool) → a ≡ true → b ≡ true → c ≡ true → d ≡ true → (a && b && c && d) ≡ true
all-four true true true true p q r t = refl
all-four true true true false p q r t = absurd cc
all-four true true false d p q r t = absurd cc
all-four true false c d p q r t = absurd cc
all-four false b c d p q r t = absurd cc

-- few enough signatures are left, or not
few-left : (made more most : ℕ) → nat_le (made + more) most ≡ true → more ≤ most - made
few-left made more most e = let le = leb-true (made + more) most e in omega (arith, le)

left-few : (made more most : ℕ) → made ≤ most → more ≤ most - made → nat_le (made + more) most ≡ true
left-few made more most within few = le-leb (made + more) most (omega (arith, within, few))

module _ (s : Setting) (c : audit.Player) (p : Player) (e : Entry) (is : IsPlayer s c p) where
  left-is : left_of count_used count_total p.core ≡ most_signatures - length c.now.signed
  unfolding IsCore
  left-is = ap (λ n. n - count_used (signer_of p.core)) is.total ∙ ap (λ n. most_signatures - n) (sym is.core.signed)

  within : length c.now.signed ≤ most_signatures
  unfolding IsCore
  within = subst (λ n. length c.now.signed ≤ n) is.total (subst (λ n. n ≤ count_total (signer_of p.core)) (sym is.core.signed)
      (signer_of p.core).within)

  abbrev AgreesWith : ℕ → defs.Event → Type 0
  AgreesWith left x = Agrees s c.now left x (signatures_left e.signatures) e.spent

  pub agrees-with : IsTrue (is_written s c.now (entry_of e)) → AgreesWith (left_of count_used count_total p.core) (event_in e.event)
  agrees-with written =
      let o : defs.Outcome = defs.outcome s c.now (turn_of c.now (entry_of e)) in
      let w = and-four (length o.signed == length (signatures_left e.signatures)) (same_answer o.spent e.spent) (list_all (is_valid s) o.signed)
      (nat_le (length c.now.signed + length (signatures_left e.signatures)) most_signatures) written in
      subst (λ n. AgreesWith n (event_in e.event)) (sym left-is)
      (subst (AgreesWith (most_signatures - length c.now.signed)) (sym (event-is e.event)) (record {
        fits = (eqb-true (length o.signed) (length (signatures_left e.signatures)) w.0, same-is o.spent e.spent w.1);
        valid = w.2;
        few = few-left (length c.now.signed) (length (signatures_left e.signatures)) most_signatures w.3;
      }))

  pub written-by : AgreesWith (left_of count_used count_total p.core) (event_in e.event) → IsTrue (is_written s c.now (entry_of e))
  written-by agrees =
      let a = subst (AgreesWith (most_signatures - length c.now.signed)) (event-is e.event)
      (subst (λ n. AgreesWith n (event_in e.event)) left-is agrees) in
      let o : defs.Outcome = defs.outcome s c.now (turn_of c.now (entry_of e)) in
      let many : Bool = length o.signed == length (signatures_left e.signatures) in
      let few : Bool = nat_le (length c.now.signed + length (signatures_left e.signatures)) most_signatures in
      all-four many (same_answer o.spent e.spent) (list_all (is_valid s) o.signed) few
      (eq-eqb (length o.signed) (length (signatures_left e.signatures)) a.fits.0) (is-same o.spent e.spent a.fits.1) a.valid
      (left-few (length c.now.signed) (length (signatures_left e.signatures)) most_signatures within a.few)
