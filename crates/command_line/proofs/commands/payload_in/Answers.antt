use Rattle.std.proofs.Common.{◌≡◌, ◌∷◌, map, subst}
use Rattle.std.specs.Prelude.{string_bytes}
use Rattle.command_line.specs.Commands.{Asks, Ask}
use Rattle.command_line.proofs.PayloadWords.{asked_behind}
use Rattle.command_line.proofs.commands.payload_in.Goals as goal

pub returns-in-Some : goal.returns-in-Some
returns-in-Some c =
    let split : c.args.words.now ≡ c.in-Some.field-0-0.now ∷ c.in-Some.further.now = c.in-Some.ensures.cases.0 in
    record {
      ask = λ payload asks. c.spelled_by.ensures payload asks.fits
          (asked_behind (string_bytes c.in-Some.field-0-0.now) (map string_bytes c.in-Some.further.now) payload
          (subst (λ ws. Asks (map string_bytes ws) (Ask payload)) split asks));
    }
