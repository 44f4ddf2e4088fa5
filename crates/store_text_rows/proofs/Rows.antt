-- The rows of specs/Rows.antt, computed.
use Rattle.std.proofs.Common.{refl}
use Rattle.std.specs.Prelude.{⊤}
use Rattle.std.specs.Fmt.{digits}
use Rattle.hex.specs.Hex.{decode_pairs, encode_with}
use Rattle.text_defs.specs.Words.{bytes_of, number_of, value_behind}
use Rattle.story_defs.specs.PlainLines.{scan}
use Rattle.story_defs.specs.Words.{hex_word}
use Rattle.store_defs.specs.Stores.{command_behind, exchange_at, key_at, most_keys, pairs_at, request_of, set_at, store_of, text_within}
use Rattle.store_defs.specs.Records.{reply_of, short_at, small_at, state_at, state_record_of}
use Rattle.store_text_defs.specs.Requests.{asks, last_tag, request_in}
use Rattle.store_text_defs.specs.Meanings.{meaning}
use Rattle.store_text_rows.specs.Rows.{EachAnswer, EachState, NoRequests, TwoRequestsInWords}

-- what a row opens
unfoldable pub opened : ⊤
unfolding digits decode_pairs encode_with bytes_of number_of value_behind scan hex_word command_behind exchange_at key_at most_keys pairs_at
    request_of set_at store_of text_within reply_of short_at small_at state_at state_record_of asks last_tag request_in meaning
opened = tt

pub two_requests_in_words : TwoRequestsInWords
unfolding opened
two_requests_in_words = record {
  put = refl;
  get = refl;
  digits = refl;
  other = refl;
  delivered = refl;
  done = refl;
  value = refl;
  silent = refl;
}

pub no_requests : NoRequests
unfolding opened
no_requests = record { none = refl; greatest = refl }

pub each_answer : EachAnswer
unfolding opened
each_answer = record { answers = refl; others = refl }

pub each_state : EachState
unfolding opened
each_state = record {
  empty = refl;
  pairs = refl;
  another = refl;
  taken = refl;
  refused = refl;
  no_reply = refl;
  no_answer = refl;
  answer = refl;
}
