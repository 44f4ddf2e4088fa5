-- The row of specs/Places.antt, computed.
use Rattle.std.proofs.Common.{◌≡◌, refl, ℕ, List, [], ◌∷◌, Option, Some, None}
use Rattle.group_defs.specs.Process.{start}
use Rattle.group_defs.specs.Events.{Delivers, Installs, Liar}
use Rattle.store_defs.specs.Stores.{applied, carried_out, command_behind, exchange_at, key_at, most_keys, pairs_at, request_of, set_at, store_after, store_bytes, store_of, text_within, with_pair}
use Rattle.store_defs.specs.Records.{reply_body}
use Rattle.store_defs.specs.Holding.{delivered_below, stayed, store_over}
use Rattle.store_defs.specs.Serving.{NoLeaf, NoStore, after_note, reply_to, server_of, reported_of}
use Rattle.store_rows.specs.Scripts.{delivered, get_a, set_a}
use Rattle.store_rows.specs.Places.{Places, again, all_seen, outside, place_with, s}

positions : all_seen (place_with 9) (server_of (start s 0 16))
    (Delivers 0 (delivered 0 1 0 get_a) ∷ Delivers 0 (delivered 0 1 1 set_a) ∷ Delivers 0 (delivered 0 0 0 get_a)
    ∷ Delivers 0 (delivered 1 0 1 get_a) ∷ Installs (record { number = 1; members = 0 ∷ 1 ∷ [] }) ∷ Delivers 1 (delivered 0 1 0 get_a) ∷ [])
    ≡ ((0, 0, 2 ∷ [], 0 ∷ []) ∷ [], []) ∷ ((0, 1, 0 ∷ [], 1 ∷ []) ∷ [], []) ∷ ((0, 2, 1 ∷ 98 ∷ [], 2 ∷ []) ∷ [], [])
    ∷ ((1, 0, 1 ∷ 98 ∷ [], 3 ∷ []) ∷ [], []) ∷ ([], []) ∷ ((0, 0, 1 ∷ 98 ∷ [], 4 ∷ []) ∷ [], []) ∷ []
unfolding applied carried_out command_behind exchange_at key_at most_keys pairs_at request_of set_at store_after store_bytes store_of text_within with_pair
    reply_body delivered_below stayed store_over after_note reply_to server_of reported_of get_a set_a again outside s
positions = refl

spent : all_seen (place_with 1) (server_of (start s 0 16)) (Delivers 0 (delivered 0 1 0 set_a) ∷ Liar 1 ∷ Delivers 0 (delivered 1 1 1 get_a) ∷ [])
    ≡ ((0, 0, 0 ∷ [], 0 ∷ []) ∷ [], []) ∷ ([], []) ∷ ([], NoLeaf ∷ []) ∷ []
unfolding applied carried_out command_behind exchange_at key_at most_keys pairs_at request_of set_at store_after store_bytes store_of text_within with_pair
    reply_body delivered_below stayed store_over after_note reply_to server_of reported_of get_a set_a again outside s
spent = refl

back : all_seen (place_with 1) (server_of (start s 0 16)) (Delivers 0 (delivered 0 1 0 set_a) ∷ Installs outside ∷ Installs again
    ∷ Delivers 2 (delivered 0 1 0 get_a) ∷ [])
    ≡ ((0, 0, 0 ∷ [], 0 ∷ []) ∷ [], []) ∷ ([], []) ∷ ([], []) ∷ ([], NoStore ∷ []) ∷ []
unfolding applied carried_out command_behind exchange_at key_at most_keys pairs_at request_of set_at store_after store_bytes store_of text_within with_pair
    reply_body delivered_below stayed store_over after_note reply_to server_of reported_of get_a set_a again outside s
back = refl

pub places : Places
places = record { positions = positions; spent = spent; back = back }
