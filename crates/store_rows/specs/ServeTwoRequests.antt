-- A process alone in its view serves two requests: its keys, and its reply to each.
use Rattle.std.specs.Prelude.{◌≡◌, ℕ, List, [], ◌∷◌, ◌++◌, codes, true}
use Rattle.signature_defs.specs.Secrets.{Plain, public_key_of}
use Rattle.message_defs.specs.Statements.{Message}
use Rattle.group_defs.specs.Process.{Setting, Process, all_kinds, start}
use Rattle.group_defs.specs.Events.{Note, Delivers}
use Rattle.store_defs.specs.Keys.{reply_secret, state_secret}
use Rattle.store_defs.specs.Serving.{Place, Server, server_of}
use Rattle.store_defs.specs.Words.{reply_key_text, state_key_text}
use Rattle.store_rows.specs.Scripts.{delivered, get_a, key_0, place_of, set_a, text_of, reported}

unfoldable pub s : Setting
s = record {
  group = [];
  roster = (0, []) ∷ [];
  genesis = record { number = 0; members = 0 ∷ [] };
  valid = λ key body signature. true;
  signs = all_kinds;
}

unfoldable pub notes : List Note
notes = Delivers 0 (delivered 0 0 0 set_a) ∷ Delivers 0 (delivered 1 0 1 get_a) ∷ []

-- the lines after the host line
unfoldable pub keys : List (List ℕ)
keys =
    codes "replykey 0 c812792564484ed2db7d7a0479050f49eb7bcd71e7fcd29432c45a891508a94b"
    ∷ codes "statekey 0 3870ef34517471704c4edbd01958d3793eb40ce23eb7005b96a38961a888f9bd" ∷ []

-- the reply lines
unfoldable pub replies : List (List ℕ)
replies =
    codes "reply 0 000000000000000e00000000000000000101610001620001000020c30f02c6e7865639d258b1b374c743a79fefcd59d5cd8383a7c50c8939ebe0db"
    ∷ codes "reply 0 000000000100000b0000000000000001020161000201620020a737d1c1150f49f398e5f7e25df506af19ab5e9f375d2ad62a4a6f222dd661b4" ∷ []

-- the row: what the definitions give
pub record ServeTwoRequests : Type 0 where
  pub reply_key : reply_key_text 0 (public_key_of (reply_secret (Plain key_0 100))) ++ state_key_text 0 (public_key_of (state_secret (Plain key_0 100)))
      ≡ text_of keys
  pub reported_is : reported (place_of 0 key_0) (server_of (start s 0 16)) notes ≡ text_of replies
