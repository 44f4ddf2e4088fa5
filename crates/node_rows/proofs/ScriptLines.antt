-- The row of specs/ScriptLines.antt, computed.
use Rattle.std.proofs.Common.{refl}
use Rattle.std.specs.Char.{encode_utf8}
use Rattle.std.specs.Fmt.{digits}
use Rattle.std.specs.Str.{is_utf8, chars}
use Rattle.byte_defs.specs.Equality.{bytes_discrete}
use Rattle.hex.specs.Hex.{decode_pairs}
use Rattle.text_defs.specs.Words.{number_of, value_behind, bytes_of}
use Rattle.node_defs.specs.Scripts.{line_said, said_by, payload_of}
use Rattle.node_rows.specs.ScriptLines.{hosted, ScriptLines}

pub script_lines : ScriptLines
unfolding bytes_discrete number_of value_behind bytes_of decode_pairs line_said said_by payload_of hosted digits is_utf8 chars encode_utf8
script_lines = record { own = refl; others = refl; strangers = refl; text = refl; no_text = refl }
