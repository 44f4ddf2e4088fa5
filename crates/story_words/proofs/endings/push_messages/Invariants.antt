use Rattle.std.proofs.Common.{◌≡◌, ◌++◌, ◌∷◌, map, take}
use Rattle.std.specs.List.{flat_map}
use Rattle.text_defs.specs.Words.{space}
use Rattle.statements.specs.Batches.{message_of}
use Rattle.trace_defs.specs.Phrases.{message_word}
use Rattle.story_words.proofs.endings.push_messages.Given as goal

abbrev pub invariant-loop-sender : goal.invariant-loop-sender
invariant-loop-sender l = l.out.items ≡ l.fn.out.items
    ++ flat_map (λ w. space ∷ w) (map message_word (map message_of (take l.sender-index l.messages)))
