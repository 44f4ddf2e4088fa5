use Rattle.std.proofs.Common.{◌≡◌, ◌++◌, take, map}
use Rattle.std.specs.List.{flat_map}
use Rattle.statements.specs.Batches.{message_of}
use Rattle.story_defs.specs.Texts.{message_tokens}
use Rattle.story_writing.specs.Tokens.{behind}
use Rattle.story_writing.proofs.statements_said.push_messages.Given as goal

abbrev pub invariant-messages : goal.invariant-messages
invariant-messages l = l.out.items ≡ l.initial.out.items
    ++ flat_map (λ m. behind (message_tokens m)) (map message_of (take l.message-index l.messages))
