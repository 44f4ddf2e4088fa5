-- Words of the code, as plain data.
use Rattle.sig_scheme.specs.Keys.{key_bytes}
use Rattle.store_defs.specs.Words as plain
use Rattle.store_words.specs.declared.reading.Word.{Word}
use Rattle.store_words.specs.declared.reading.Word.TheVariants.{Give, State, StateKey}

abbrev pub word : Word → plain.Word
word Give = plain.Give
word (State bytes) = plain.State bytes.items
word (StateKey process key) = plain.StateKey process (key_bytes key)
