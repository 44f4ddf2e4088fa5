use Rattle.std.specs.Prelude.{map, string_bytes, option_map}
use Rattle.command_line.specs.Views as views
use Rattle.command_line.proofs.Asking.{asks_of, asked_only}
use Rattle.command_line.proofs.commands.read_command.Goals as goal

pub returns-clause-found : goal.returns-clause-found
returns-clause-found c = asks_of views.command (map string_bytes c.args.words.now) c.of_words.result c.of_words.ensures

pub returns-clause-only : goal.returns-clause-only
returns-clause-only c = asked_only (map string_bytes c.args.words.now) (option_map views.command c.of_words.result) c.of_words.ensures
