-- Process 1 joins in view 1: process 0 gives its state, and process 1 refuses it until it has its key, takes it, and replies from then on.
use Rattle.std.specs.Prelude.{◌≡◌, ℕ, List, [], ◌∷◌, ◌++◌, codes, Option, Some, None, true}
use Rattle.signature_defs.specs.Plain.{plain_valid}
use Rattle.signature_defs.specs.Secrets.{Plain, public_key_of}
use Rattle.group_defs.specs.Views.{View}
use Rattle.group_defs.specs.Process.{Setting, all_kinds, start}
use Rattle.group_defs.specs.Events.{Note, Delivers, Installs}
use Rattle.store_defs.specs.Keys.{state_secret}
use Rattle.store_defs.specs.Serving.{Server, after_notes, after_offer, offer_word, server_of, state_given, with_key}
use Rattle.store_defs.specs.Words.{given_text, offered_text}
use Rattle.store_rows.specs.Scripts.{delivered, get_a, key_0, key_1, place_of, set_a, text_of, reported}

unfoldable pub s : Setting
s = record {
  group = [];
  roster = (0, []) ∷ (1, []) ∷ [];
  genesis = record { number = 0; members = 0 ∷ [] };
  valid = λ key body signature. true;
  signs = all_kinds;
}

unfoldable pub view_1 : View
view_1 = record { number = 1; members = 0 ∷ 1 ∷ [] }

-- process 0, which delivered the first request, and process 1, in view 1
unfoldable pub giver : Server
giver = after_notes (place_of 0 key_0) (server_of (start s 0 16)) (Delivers 0 (delivered 0 0 0 set_a) ∷ Installs view_1 ∷ [])

unfoldable pub joiner : Server
joiner = after_notes (place_of 1 key_1) (server_of (start s 1 16)) (Installs view_1 ∷ [])

unfoldable pub keyed : Server
keyed = with_key 0 (public_key_of (state_secret (Plain key_0 100))) joiner

unfoldable pub state : List ℕ
state = 0 ∷ 0 ∷ 1 ∷ 0 ∷ 0 ∷ 0 ∷ 7 ∷ 0 ∷ 1 ∷ 1 ∷ 97 ∷ 0 ∷ 1 ∷ 98 ∷ 0 ∷ 32 ∷ 235 ∷ 111 ∷ 148 ∷ 252 ∷ 102 ∷ 154 ∷ 186 ∷ 245 ∷ 131 ∷ 77 ∷ 97 ∷ 174 ∷ 135 ∷ 241 ∷ 40 ∷ 102 ∷ 146 ∷ 187 ∷ 3 ∷ 244 ∷ 216 ∷ 142 ∷ 176 ∷ 2 ∷ 144 ∷ 212 ∷ 60 ∷ 150 ∷ 112 ∷ 254 ∷ 146 ∷ 223 ∷ []

-- process 1 with the state
unfoldable pub ready : Server
ready = after_offer plain_valid (place_of 1 key_1) [] keyed state

abbrev pub offering : Server → List ℕ → List ℕ
offering server bytes = offered_text 1 (offer_word plain_valid (place_of 1 key_1) server bytes)

-- the row: what the definitions give
pub record StateForJoiner : Type 0 where
  pub gives : given_text 0 (state_given (place_of 0 key_0) giver) ≡ text_of (codes "state 0 00000100000007000101610001620020eb6f94fc669abaf5834d61ae87f1286692bb03f4d88eb00290d43c9670fe92df" ∷ [])
  pub has_none : given_text 1 (state_given (place_of 1 key_1) joiner) ≡ text_of (codes "state 1 none" ∷ [])
  pub no_record : offering joiner (0 ∷ []) ≡ text_of (codes "state 1 refused grammar" ∷ [])
  pub no_key : offering joiner state ≡ text_of (codes "state 1 refused unsigned" ∷ [])
  pub takes : offering keyed state ≡ text_of (codes "state 1 ready" ∷ [])
  pub holds : offering ready state ≡ text_of (codes "state 1 refused held" ∷ [])
  pub gives_not : given_text 1 (state_given (place_of 1 key_1) ready) ≡ text_of (codes "state 1 none" ∷ [])
  pub replies : reported (place_of 1 key_1) ready (Delivers 1 (delivered 0 1 0 get_a) ∷ []) ≡ text_of (codes "reply 1 010001000000000b0000000000000001020161000201620020b552e239bc3e9a49068d35c3224d504dc622e9b174583149219857c6ab5a1f9b" ∷ [])
  pub without : reported (place_of 1 key_1) keyed (Delivers 1 (delivered 0 1 0 get_a) ∷ []) ≡ text_of (codes "reply 1 none" ∷ [])
