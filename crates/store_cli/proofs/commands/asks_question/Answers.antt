use Rattle.std.proofs.Common.{sym, subst, ◌∙◌}
use Rattle.command_line.specs.Commands as rampart
use Rattle.command_line.specs.Views as views
use Rattle.std.specs.Prelude.{map, string_bytes}
use Rattle.store_cli.proofs.Statuses.{is_asked, never_true, no_command, payload_of}
use Rattle.store_cli.proofs.commands.asks_question.Goals as goal

pub returns-in-Some : goal.returns-in-Some
returns-in-Some c = (
  λ yes.
      let p = payload_of (views.command c.in-Some.command) (sym c.is_ask.ensures ∙ yes) in
      (p.0, subst (λ (x : rampart.Command). rampart.Asks (map string_bytes c.args.words.now) x) p.1 c.in-Some.ensures.found),
  λ asks. c.is_ask.ensures ∙ is_asked (views.command c.in-Some.command) asks.0 (c.in-Some.ensures.only (rampart.Ask asks.0) asks.1),
)

pub returns-in-None : goal.returns-in-None
returns-in-None c = (λ yes. never_true yes, λ asks. no_command (rampart.Ask asks.0) (c.in-None.ensures.only (rampart.Ask asks.0) asks.1))
