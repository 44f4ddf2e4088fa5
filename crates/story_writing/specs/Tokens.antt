-- Tokens as the code writes them, as plain data.
use Rattle.std.specs.Prelude.{ℕ, List, ◌∷◌, map}
use Rattle.std.specs.List.{flat_map}
use Rattle.std.specs.Fmt.{decimal}
use Rattle.text_defs.specs.Words.{space}
use Rattle.story_defs.specs.Texts as plain
use Rattle.story_defs.specs.Texts.{shown}
use Rattle.story_writing.specs.declared.tokens.Token.{Token}
use Rattle.story_writing.specs.declared.tokens.Token.TheVariants.{Word, Number, Bytes}

abbrev pub token : Token → plain.Token
token (Word word) = plain.Word word.now
token (Number n) = plain.Word (decimal n)
token (Bytes bytes) = plain.Bytes bytes.now

-- tokens after others in a line, a space before each
abbrev pub behind : List plain.Token → List ℕ
behind tokens = flat_map (λ t. space ∷ shown t) tokens
