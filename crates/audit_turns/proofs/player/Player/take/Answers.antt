use Rattle.std.proofs.Common.{◌≡◌, true, false, sym, ap, ◌∙◌}
use Rattle.std.specs.Prelude.{◌==◌}
use Rattle.pool_laws.proofs.Tests.{and-first, and-second, both-true}
use Rattle.journal_entries.specs.Views.{entry as entry_of}
use Rattle.audit_defs.specs.Players.{is_written}
use Rattle.audit_turns.specs.Players.{number_of}
use Rattle.audit_turns.proofs.Spots.{same-number}
use Rattle.audit_turns.proofs.player.Player.take.Goals as goal

clash : {P : Type 0} → true ≡ false → P
clash e = absurd cc

pub returns-then-not-is_of-clause-only : goal.returns-then-not-is_of-clause-only
returns-then-not-is_of-clause-only g c = λ s d before own is shares saw named taken.
    let p = c.args.self.now in
    let e = c.args.entry.now in
    let here : (p.journal == c.args.journal) ≡ true = ap (λ n. n == c.args.journal) (sym is.journal)
    ∙ and-first (d.journal == c.args.journal) (is_written s d.now (entry_of e)) taken in
    let mine : (number_of p == e.process) ≡ true =
    ap (λ n. n == e.process) (sym (same-number s c.args.journal (entry_of e) d p is)) ∙ named in
    clash (sym (both-true (p.journal == c.args.journal) (number_of p == e.process) here mine) ∙ sym c.is_of.ensures ∙ c.if-not-is_of.true)

pub returns-clause-only : goal.returns-clause-only
returns-clause-only g c = λ s d before own is shares saw named taken.
    c.absorb.ensures.only s d before own is shares saw
    (and-second (d.journal == c.args.journal) (is_written s d.now (entry_of c.args.entry.now)) taken)
