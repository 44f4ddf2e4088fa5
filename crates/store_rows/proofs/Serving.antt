-- The row of specs/ServeTwoRequests.antt, computed.
use Rattle.std.proofs.Common.{◌≡◌, refl, ℕ, List, [], ◌∷◌, ◌++◌}
use Rattle.std.specs.Prelude.{codes}
use Rattle.std.specs.Fmt.{digits}
use Rattle.hex.specs.Hex.{decode_pairs, encode_with}
use Rattle.sha2.specs.Sha256.{compress, digest_bytes, first_words, hash_after, rounds, schedule, sha256}
use Rattle.store_defs.specs.Stores.{applied, carried_out, command_behind, exchange_at, key_at, most_keys, pairs_at, request_of, set_at, store_after, store_bytes, store_of, text_within, with_pair}
use Rattle.store_defs.specs.Records.{reply_body, reply_of, short_at, small_at, state_at, state_body, state_record_of}
use Rattle.store_defs.specs.Serving.{after_note, after_offer, offer_word, reply_to, server_of, state_given, reported_of}
use Rattle.store_defs.specs.Holding.{delivered_below, stayed, store_over}
use Rattle.store_defs.specs.Words.{given_text, offered_text, reported_text, reply_key_text, state_key_text}
use Rattle.signature_defs.specs.Secrets.{Plain, public_key_of}
use Rattle.group_defs.specs.Process.{start}
use Rattle.store_defs.specs.Keys.{reply_secret, state_secret}
use Rattle.store_rows.specs.Scripts.{get_a, group, key_0, place_of, set_a, text_of, reported}
use Rattle.store_rows.specs.ServeTwoRequests.{ServeTwoRequests, keys, notes, replies, s}

reply_key : reply_key_text 0 (public_key_of (reply_secret (Plain key_0 100))) ++ state_key_text 0 (public_key_of (state_secret (Plain key_0 100)))
    ≡ text_of keys
unfolding digits encode_with decode_pairs compress digest_bytes first_words hash_after rounds schedule sha256
    applied carried_out command_behind exchange_at key_at most_keys pairs_at request_of set_at store_after store_bytes store_of text_within with_pair
    reply_body reply_of short_at small_at state_at state_body state_record_of
    after_note after_offer offer_word reply_to server_of state_given reported_of delivered_below stayed store_over given_text offered_text reported_text get_a group key_0 set_a keys notes replies s
reply_key = refl

reported_is : reported (place_of 0 key_0) (server_of (start s 0 16)) notes ≡ text_of replies
unfolding digits encode_with decode_pairs compress digest_bytes first_words hash_after rounds schedule sha256
    applied carried_out command_behind exchange_at key_at most_keys pairs_at request_of set_at store_after store_bytes store_of text_within with_pair
    reply_body reply_of short_at small_at state_at state_body state_record_of
    after_note after_offer offer_word reply_to server_of state_given reported_of delivered_below stayed store_over given_text offered_text reported_text get_a group key_0 set_a keys notes replies s
reported_is = refl

pub serve_two_requests : ServeTwoRequests
serve_two_requests = record { reply_key = reply_key; reported_is = reported_is }
