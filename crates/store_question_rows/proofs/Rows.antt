-- The rows of specs/Rows.antt, computed.
use Rattle.std.proofs.Common.{refl}
use Rattle.std.specs.Fmt.{digits}
use Rattle.hex.specs.Hex.{decode_pairs, encode_with}
use Rattle.text_defs.specs.Words.{begin_with, bytes_of, number_of, value_behind}
use Rattle.kit_defs.specs.KitReading.{finish, is_repeated, line_by, members_by, take_line}
use Rattle.input_defs.specs.Fronts.{front_at}
use Rattle.store_defs.specs.Stores.{command_behind, exchange_at, key_at, most_keys, pairs_at, request_of, set_at, store_of, text_within}
use Rattle.store_defs.specs.Records.{reply_of, short_at, small_at}
use Rattle.store_defs.specs.Words.{most_state_line_bytes}
use Rattle.store_defs.specs.Asking.{most_replies}
use Rattle.store_question_defs.specs.Inputs.{ask_input, lines_from}
use Rattle.store_rows.specs.Scripts.{get_a}
use Rattle.store_rows.specs.Asked.{kit, replies, reply_key, view}
use Rattle.store_question_rows.specs.Rows.{QuestionOfTwoRequests, others, second, written}

pub question_of_two_requests : QuestionOfTwoRequests
unfolding digits encode_with decode_pairs command_behind exchange_at key_at most_keys pairs_at request_of set_at store_of text_within
    reply_of short_at small_at begin_with bytes_of number_of value_behind finish is_repeated line_by members_by take_line front_at most_replies
    most_state_line_bytes lines_from ask_input get_a kit replies reply_key view written second others
question_of_two_requests = record { served = refl; among = refl; cut = refl; no_kit = refl }
