-- The row of specs/Asked.antt, computed.
use Rattle.std.proofs.Common.{◌≡◌, refl, ℕ, List, [], ◌∷◌, ◌++◌}
use Rattle.std.specs.Prelude.{codes}
use Rattle.std.specs.Fmt.{digits}
use Rattle.hex.specs.Hex.{decode_pairs, encode_with}
use Rattle.sha2.specs.Sha256.{compress, digest_bytes, first_words, hash_after, rounds, schedule, sha256}
use Rattle.store_defs.specs.Stores.{applied, carried_out, command_behind, exchange_at, key_at, most_keys, pairs_at, request_of, set_at, store_after, store_bytes, store_of, text_within, with_pair}
use Rattle.store_defs.specs.Records.{reply_body, reply_of, short_at, small_at, state_at, state_body, state_record_of}
use Rattle.text_defs.specs.Words.{begin_with, bytes_of, number_of, value_behind}
use Rattle.kit_defs.specs.KitReading.{finish, is_repeated, line_by, members_by, take_line}
use Rattle.input_defs.specs.Fronts.{front_at}
use Rattle.store_defs.specs.Votes.{accepted, offer, vote_after}
use Rattle.store_defs.specs.Asking.{ask_output, asked, most_replies, question_from, replies_from}
use Rattle.store_rows.specs.Scripts.{get_a, text_of}
use Rattle.store_rows.specs.Asked.{Asked, broken, kit, replies, reply_key, view}

both : ask_output get_a (text_of (kit ++ reply_key ++ view ++ replies)) ≡ (text_of (codes "answer 0 1 0 0162" ∷ []), 0)
unfolding digits encode_with decode_pairs compress digest_bytes first_words hash_after rounds schedule sha256
    applied carried_out command_behind exchange_at key_at most_keys pairs_at request_of set_at store_after store_bytes store_of text_within with_pair
    reply_body reply_of short_at small_at state_at state_body state_record_of
    begin_with bytes_of number_of value_behind finish is_repeated line_by members_by take_line ask_output asked front_at most_replies question_from replies_from
    accepted offer vote_after get_a broken kit replies reply_key view
both = refl

nothing : ask_output get_a (text_of (kit ++ reply_key ++ view)) ≡ (text_of (codes "answer none" ∷ []), 0)
unfolding digits encode_with decode_pairs compress digest_bytes first_words hash_after rounds schedule sha256
    applied carried_out command_behind exchange_at key_at most_keys pairs_at request_of set_at store_after store_bytes store_of text_within with_pair
    reply_body reply_of short_at small_at state_at state_body state_record_of
    begin_with bytes_of number_of value_behind finish is_repeated line_by members_by take_line ask_output asked front_at most_replies question_from replies_from
    accepted offer vote_after get_a broken kit replies reply_key view
nothing = refl

no_key : ask_output get_a (text_of (kit ++ view ++ replies)) ≡ (text_of (codes "answer none" ∷ []), 0)
unfolding digits encode_with decode_pairs compress digest_bytes first_words hash_after rounds schedule sha256
    applied carried_out command_behind exchange_at key_at most_keys pairs_at request_of set_at store_after store_bytes store_of text_within with_pair
    reply_body reply_of short_at small_at state_at state_body state_record_of
    begin_with bytes_of number_of value_behind finish is_repeated line_by members_by take_line ask_output asked front_at most_replies question_from replies_from
    accepted offer vote_after get_a broken kit replies reply_key view
no_key = refl

no_line : ask_output get_a (text_of (kit ++ reply_key ++ view ++ broken)) ≡ (text_of (codes "stop 7 line 11" ∷ []), 7)
unfolding digits encode_with decode_pairs compress digest_bytes first_words hash_after rounds schedule sha256
    applied carried_out command_behind exchange_at key_at most_keys pairs_at request_of set_at store_after store_bytes store_of text_within with_pair
    reply_body reply_of short_at small_at state_at state_body state_record_of
    begin_with bytes_of number_of value_behind finish is_repeated line_by members_by take_line ask_output asked front_at most_replies question_from replies_from
    accepted offer vote_after get_a broken kit replies reply_key view
no_line = refl

pub ask : Asked
ask = record { both = both; nothing = nothing; no_key = no_key; no_line = no_line }
