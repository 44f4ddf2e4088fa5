use Rattle.std.proofs.Common.{◌≡◌, ◌∷◌, map, subst, ◌∙◌}
use Rattle.std.specs.Prelude.{string_bytes}
use Rattle.command_line.specs.Commands.{Asks, Audit}
use Rattle.command_line.proofs.Asking.{asked_listed, or_is}
use Rattle.command_line.proofs.commands.listed_in.Goals as goal

pub returns-in-Some : goal.returns-in-Some
returns-in-Some c =
    let split : c.args.words.now ≡ c.in-Some.field-0-0.now ∷ c.in-Some.processes.now = c.in-Some.ensures.cases.0 in
    record {
      audit = λ listed asks. or_is c.read_listed.result c.or_none.result listed
          (c.read_listed.ensures ∙ asked_listed (string_bytes c.in-Some.field-0-0.now) (map string_bytes c.in-Some.processes.now) listed
          (subst (λ ws. Asks (map string_bytes ws) (Audit listed)) split asks)) c.or_none.ensures;
    }
