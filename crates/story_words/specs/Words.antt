-- Words of the code, as their letters.
use Rattle.std.specs.Prelude.{ℕ, List, ◌++◌, codes}
use Rattle.std.specs.Fmt.{decimal}
use Rattle.trace_defs.specs.Phrases.{number_and_colon, message_word}
use Rattle.story_words.specs.declared.words.Word.{Word}
use Rattle.story_words.specs.declared.words.Word.TheVariants.{Text, Number, Head, Message}

abbrev pub spelled : Word → List ℕ
spelled (Text text) = text.now
spelled (Number n) = decimal n
spelled (Head n) = number_and_colon n
spelled (Message sender number) = message_word (record { sender = sender; number = number })
