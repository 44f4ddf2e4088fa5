-- The row of specs/Commands.antt, computed.
use Rattle.std.proofs.Common.{◌≡◌, refl}
use Rattle.store_defs.specs.Stores.{applied, carried_out, command_behind, empty, exchange_at, key_at, most_keys, request_of, set_at, store_after, store_bytes, text_within, with_pair}
use Rattle.store_rows.specs.Commands.{Commands, answers, answers_to, requests, state}

answered : answers_to empty requests ≡ answers
unfolding applied carried_out command_behind exchange_at key_at most_keys request_of set_at text_within with_pair requests answers
answered = refl

spelled : store_bytes (store_after empty requests) ≡ state
unfolding applied carried_out command_behind exchange_at key_at most_keys request_of set_at store_after store_bytes text_within with_pair requests state
spelled = refl

pub commands : Commands
commands = record { answered = answered; spelled = spelled }
