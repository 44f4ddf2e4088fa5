use Rattle.std.proofs.Common.{ap, ◌∙◌}
use Rattle.std.specs.Prelude.{◌==◌}
use Rattle.std.specs.List.{position_from}
use Rattle.journal_entries.specs.Views.{entry as entry_of}
use Rattle.audit_turns.specs.declared.walk.Walk.{Walk}
use Rattle.audit_turns.specs.Players.{number_of}
use Rattle.audit_turns.proofs.Walking.{goes-nowhere, goes-on, passed-over}
use Rattle.audit_turns.proofs.walk.Walk.take.Goals as goal

pub returns-in-Some : goal.returns-in-Some
returns-in-Some g c =
    let e = entry_of c.args.entry.now in
    let new : Walk = record { players = c.take_at.new.players; claims = c.take_at.new.all } in
    record {
      taken = λ s k own walk shares. goes-on s c.args.journal e k own c.args.self.now walk c.in-Some.at
          (c.in-Some.ensures.place ∙ ap (position_from (λ q. number_of q == e.process) 0) c.deref.ensures.value) new c.take_at.result
          (c.take_at.ensures s shares);
      refused = λ s k own walk shares. goes-nowhere s c.args.journal e k own c.args.self.now walk c.in-Some.at
          (c.in-Some.ensures.place ∙ ap (position_from (λ q. number_of q == e.process) 0) c.deref.ensures.value) new c.take_at.result
          (c.take_at.ensures s shares);
    }

pub returns-in-None-clause-taken : goal.returns-in-None-clause-taken
returns-in-None-clause-taken g c = λ s k own walk shares.
    passed-over s c.args.journal (entry_of c.args.entry.now) k own c.args.self.now walk
    (c.in-None.ensures.place ∙ ap (position_from (λ q. number_of q == c.args.entry.now.process) 0) c.deref.ensures.value)
