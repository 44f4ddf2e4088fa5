-- The row of specs/StateForJoiner.antt, computed.
use Rattle.std.proofs.Common.{◌≡◌, refl, ℕ, List, [], ◌∷◌, ◌++◌}
use Rattle.std.specs.Prelude.{codes}
use Rattle.std.specs.Fmt.{digits}
use Rattle.hex.specs.Hex.{decode_pairs, encode_with}
use Rattle.sha2.specs.Sha256.{compress, digest_bytes, first_words, hash_after, rounds, schedule, sha256}
use Rattle.store_defs.specs.Stores.{applied, carried_out, command_behind, exchange_at, key_at, most_keys, pairs_at, request_of, set_at, store_after, store_bytes, store_of, text_within, with_pair}
use Rattle.store_defs.specs.Records.{reply_body, reply_of, short_at, small_at, state_at, state_body, state_record_of}
use Rattle.store_defs.specs.Transfers.{offer, transfer_after}
use Rattle.store_defs.specs.Serving.{after_note, after_notes, after_offer, offer_word, reply_to, server_of, state_given, reported_of}
use Rattle.store_defs.specs.Holding.{delivered_below, stayed, store_over}
use Rattle.store_defs.specs.Words.{given_text, offered_text, reported_text}
use Rattle.group_defs.specs.Events.{Delivers}
use Rattle.store_rows.specs.Scripts.{delivered, get_a, group, key_0, key_1, place_of, set_a, text_of, reported}
use Rattle.store_rows.specs.StateForJoiner.{StateForJoiner, giver, joiner, keyed, offering, ready, s, state, view_1}

gives : given_text 0 (state_given (place_of 0 key_0) giver) ≡ text_of (codes "state 0 00000100000007000101610001620020eb6f94fc669abaf5834d61ae87f1286692bb03f4d88eb00290d43c9670fe92df" ∷ [])
unfolding digits encode_with decode_pairs compress digest_bytes first_words hash_after rounds schedule sha256
    applied carried_out command_behind exchange_at key_at most_keys pairs_at request_of set_at store_after store_bytes store_of text_within with_pair
    reply_body reply_of short_at small_at state_at state_body state_record_of
    after_note after_notes after_offer offer_word reply_to server_of state_given reported_of delivered_below stayed store_over given_text offered_text reported_text
    offer get_a group key_0 key_1 set_a giver joiner keyed ready s state view_1
gives = refl

has_none : given_text 1 (state_given (place_of 1 key_1) joiner) ≡ text_of (codes "state 1 none" ∷ [])
unfolding digits encode_with decode_pairs compress digest_bytes first_words hash_after rounds schedule sha256
    applied carried_out command_behind exchange_at key_at most_keys pairs_at request_of set_at store_after store_bytes store_of text_within with_pair
    reply_body reply_of short_at small_at state_at state_body state_record_of
    after_note after_notes after_offer offer_word reply_to server_of state_given reported_of delivered_below stayed store_over given_text offered_text reported_text
    offer get_a group key_0 key_1 set_a giver joiner keyed ready s state view_1
has_none = refl

no_record : offering joiner (0 ∷ []) ≡ text_of (codes "state 1 refused grammar" ∷ [])
unfolding digits encode_with decode_pairs compress digest_bytes first_words hash_after rounds schedule sha256
    applied carried_out command_behind exchange_at key_at most_keys pairs_at request_of set_at store_after store_bytes store_of text_within with_pair
    reply_body reply_of short_at small_at state_at state_body state_record_of
    after_note after_notes after_offer offer_word reply_to server_of state_given reported_of delivered_below stayed store_over given_text offered_text reported_text
    offer get_a group key_0 key_1 set_a giver joiner keyed ready s state view_1
no_record = refl

no_key : offering joiner state ≡ text_of (codes "state 1 refused unsigned" ∷ [])
unfolding digits encode_with decode_pairs compress digest_bytes first_words hash_after rounds schedule sha256
    applied carried_out command_behind exchange_at key_at most_keys pairs_at request_of set_at store_after store_bytes store_of text_within with_pair
    reply_body reply_of short_at small_at state_at state_body state_record_of
    after_note after_notes after_offer offer_word reply_to server_of state_given reported_of delivered_below stayed store_over given_text offered_text reported_text
    offer get_a group key_0 key_1 set_a giver joiner keyed ready s state view_1
no_key = refl

takes : offering keyed state ≡ text_of (codes "state 1 ready" ∷ [])
unfolding digits encode_with decode_pairs compress digest_bytes first_words hash_after rounds schedule sha256
    applied carried_out command_behind exchange_at key_at most_keys pairs_at request_of set_at store_after store_bytes store_of text_within with_pair
    reply_body reply_of short_at small_at state_at state_body state_record_of
    after_note after_notes after_offer offer_word reply_to server_of state_given reported_of delivered_below stayed store_over given_text offered_text reported_text
    offer get_a group key_0 key_1 set_a giver joiner keyed ready s state view_1
takes = refl

holds : offering ready state ≡ text_of (codes "state 1 refused held" ∷ [])
unfolding digits encode_with decode_pairs compress digest_bytes first_words hash_after rounds schedule sha256
    applied carried_out command_behind exchange_at key_at most_keys pairs_at request_of set_at store_after store_bytes store_of text_within with_pair
    reply_body reply_of short_at small_at state_at state_body state_record_of
    after_note after_notes after_offer offer_word reply_to server_of state_given reported_of delivered_below stayed store_over given_text offered_text reported_text
    offer get_a group key_0 key_1 set_a giver joiner keyed ready s state view_1
holds = refl

gives_not : given_text 1 (state_given (place_of 1 key_1) ready) ≡ text_of (codes "state 1 none" ∷ [])
unfolding digits encode_with decode_pairs compress digest_bytes first_words hash_after rounds schedule sha256
    applied carried_out command_behind exchange_at key_at most_keys pairs_at request_of set_at store_after store_bytes store_of text_within with_pair
    reply_body reply_of short_at small_at state_at state_body state_record_of
    after_note after_notes after_offer offer_word reply_to server_of state_given reported_of delivered_below stayed store_over given_text offered_text reported_text
    offer get_a group key_0 key_1 set_a giver joiner keyed ready s state view_1
gives_not = refl

replies : reported (place_of 1 key_1) ready (Delivers 1 (delivered 0 1 0 get_a) ∷ []) ≡ text_of (codes "reply 1 010001000000000b0000000000000001020161000201620020b552e239bc3e9a49068d35c3224d504dc622e9b174583149219857c6ab5a1f9b" ∷ [])
unfolding digits encode_with decode_pairs compress digest_bytes first_words hash_after rounds schedule sha256
    applied carried_out command_behind exchange_at key_at most_keys pairs_at request_of set_at store_after store_bytes store_of text_within with_pair
    reply_body reply_of short_at small_at state_at state_body state_record_of
    after_note after_notes after_offer offer_word reply_to server_of state_given reported_of delivered_below stayed store_over given_text offered_text reported_text
    offer get_a group key_0 key_1 set_a giver joiner keyed ready s state view_1
replies = refl

without : reported (place_of 1 key_1) keyed (Delivers 1 (delivered 0 1 0 get_a) ∷ []) ≡ text_of (codes "reply 1 none" ∷ [])
unfolding digits encode_with decode_pairs compress digest_bytes first_words hash_after rounds schedule sha256
    applied carried_out command_behind exchange_at key_at most_keys pairs_at request_of set_at store_after store_bytes store_of text_within with_pair
    reply_body reply_of short_at small_at state_at state_body state_record_of
    after_note after_notes after_offer offer_word reply_to server_of state_given reported_of delivered_below stayed store_over given_text offered_text reported_text
    offer get_a group key_0 key_1 set_a giver joiner keyed ready s state view_1
without = refl

pub state_for_joiner : StateForJoiner
state_for_joiner = record { gives = gives; has_none = has_none; no_record = no_record; no_key = no_key; takes = takes; holds = holds; gives_not = gives_not; replies = replies; without = without }
