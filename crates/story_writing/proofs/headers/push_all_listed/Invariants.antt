use Rattle.std.proofs.Common.{◌≡◌, ◌++◌, take, map}
use Rattle.std.specs.List.{flat_map}
use Rattle.schedule_file.specs.Views.{listed}
use Rattle.story_defs.specs.Texts.{listed_tokens, token_line}
use Rattle.story_writing.proofs.headers.push_all_listed.Given as goal

abbrev pub invariant-processes : goal.invariant-processes
invariant-processes l = l.out.items ≡ l.initial.out.items
    ++ flat_map token_line (map listed_tokens (map listed (take l.listed-index l.processes)))
