-- Rows of the input of `ask` that is made of lines.
use Rattle.std.specs.Prelude.{◌≡◌, ℕ, List, [], ◌∷◌, ◌++◌, codes, Ok, Err}
use Rattle.kit_defs.specs.KitReading.{Line}
use Rattle.store_question_defs.specs.Inputs.{ask_input}
use Rattle.store_rows.specs.Asked.{kit, reply_key, view}
use Rattle.store_rows.specs.Scripts.{get_a, text_of}

-- what the process of the row `serve_two_requests` (`store_rows`) wrote, but for its state key
unfoldable pub written : List (List ℕ)
written =
    codes "host 0 view 0 delivered 0 entries 0"
    ∷ codes "replykey 0 c812792564484ed2db7d7a0479050f49eb7bcd71e7fcd29432c45a891508a94b"
    ∷ codes "deliver 0 0 0 0 0 0000000000000000010161000162"
    ∷ codes "reply 0 000000000000000e00000000000000000101610001620001000020c30f02c6e7865639d258b1b374c743a79fefcd59d5cd8383a7c50c8939ebe0db"
    ∷ codes "deliver 0 0 1 0 1 0000000000000001020161"
    ∷ codes "reply 0 000000000100000b0000000000000001020161000201620020a737d1c1150f49f398e5f7e25df506af19ab5e9f375d2ad62a4a6f222dd661b4" ∷ []

-- the reply to the second request
unfoldable pub second : List (List ℕ)
second = codes "reply 0 000000000100000b0000000000000001020161000201620020a737d1c1150f49f398e5f7e25df506af19ab5e9f375d2ad62a4a6f222dd661b4" ∷ []

-- lines of a process that lies, and of no form, and a view twice
unfoldable pub others : List (List ℕ)
others =
    codes "replykey 0 00"
    ∷ codes "replykey 1 c812792564484ed2db7d7a0479050f49eb7bcd71e7fcd29432c45a891508a94b"
    ∷ codes "view 0 1 : 0 1"
    ∷ codes "reply 0 none"
    ∷ codes "reply 1 000000000100000b0000000000000001020161000201620020a737d1c1150f49f398e5f7e25df506af19ab5e9f375d2ad62a4a6f222dd661b4"
    ∷ codes "view 4 : 0"
    ∷ codes "view 3 : 2 0" ∷ []

pub record QuestionOfTwoRequests : Type 0 where
  pub served : ask_input get_a (text_of (kit ++ written)) ≡ Ok (text_of (kit ++ reply_key ++ view ++ second))
  -- the first key, and the last view
  pub among : ask_input get_a (text_of (kit ++ others ++ written)) ≡ Ok (text_of (kit ++ reply_key ++ codes "view 3 : 2 0" ∷ second))
  -- a line that no line feed ends
  pub cut : ask_input get_a (text_of (kit ++ written) ++ codes "reply 0") ≡ Err (Line 15)
  pub no_kit : ask_input get_a (text_of written) ≡ Err (Line 1)
