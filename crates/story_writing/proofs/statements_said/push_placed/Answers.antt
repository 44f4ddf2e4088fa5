use Rattle.std.proofs.Common.{◌++◌, ◌∷◌, ℕ, List, map}
use Rattle.std.specs.List.{flat_map}
use Rattle.statements.specs.Batches.{message_of}
use Rattle.story_defs.specs.Texts.{number, message_tokens}
use Rattle.story_writing.specs.Tokens.{behind}
use Rattle.story_writing.proofs.TokenLines.{all_written, placed}
use Rattle.story_writing.proofs.statements_said.push_placed.Goals as goal

pub returns : goal.returns
returns c =
    let piece : List ℕ = flat_map (λ m. behind (message_tokens m)) (map message_of c.messages.result.now) in
    let wanted : List ℕ = c.args.out.now.items ++ behind (number c.args.place ∷ flat_map message_tokens c.args.batch) in
    all_written c.push_messages.result c.push_messages.new.out.items c.push_behind.new.out.items piece wanted c.push_messages.ensures
    (rw (c.in_ok-push_behind.ensures, c.messages.ensures.list, c.into.ensures) (placed c.args.out.now.items c.args.place c.args.batch))
