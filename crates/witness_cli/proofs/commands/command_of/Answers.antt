use Rattle.std.specs.Prelude.{map, string_bytes, option_map}
use Rattle.witness_cli.specs.Commands.{command}
use Rattle.witness_cli.proofs.Asking.{asks-of, asked-only}
use Rattle.witness_cli.proofs.commands.command_of.Goals as goal

pub returns-clause-found : goal.returns-clause-found
returns-clause-found c = asks-of c.command_is_spelled.ensures command (map string_bytes c.args.words.now) c.of_words.result c.of_words.ensures

pub returns-clause-only : goal.returns-clause-only
returns-clause-only c =
    asked-only c.command_is_spelled.ensures (map string_bytes c.args.words.now) (option_map command c.of_words.result) c.of_words.ensures
