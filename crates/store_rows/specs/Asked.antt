-- `ask` of the second request: with both replies, without any, without the reply key, and with a reply that has a digit too many.
use Rattle.std.specs.Prelude.{◌≡◌, ℕ, List, [], ◌∷◌, ◌++◌, codes}
use Rattle.store_defs.specs.Asking.{ask_output}
use Rattle.store_rows.specs.Scripts.{get_a, text_of}

unfoldable pub kit : List (List ℕ)
kit =
    codes "rampart kit 1"
    ∷ codes "scheme plain"
    ∷ codes "group 6f289d5b5aa425dc2f365877e4cf8595"
    ∷ codes "key 0 2dd447ac7305bc84b2dc0da0fe9411f33e1af724d30036daa8b9c930ce8b3722"
    ∷ codes "genesis 0"
    ∷ codes "port 0 47000"
    ∷ codes "host 0 plain 100"
    ∷ codes "go" ∷ []

unfoldable pub reply_key : List (List ℕ)
reply_key = codes "replykey 0 c812792564484ed2db7d7a0479050f49eb7bcd71e7fcd29432c45a891508a94b" ∷ []

unfoldable pub replies : List (List ℕ)
replies =
    codes "reply 0 000000000000000e00000000000000000101610001620001000020c30f02c6e7865639d258b1b374c743a79fefcd59d5cd8383a7c50c8939ebe0db"
    ∷ codes "reply 0 000000000100000b0000000000000001020161000201620020a737d1c1150f49f398e5f7e25df506af19ab5e9f375d2ad62a4a6f222dd661b4" ∷ []

unfoldable pub view : List (List ℕ)
view = codes "view 0 : 0" ∷ []

unfoldable pub broken : List (List ℕ)
broken = codes "reply 0 000000000000000e00000000000000000101610001620001000020c30f02c6e7865639d258b1b374c743a79fefcd59d5cd8383a7c50c8939ebe0db0" ∷ []

-- the row: what the definitions give
pub record Asked : Type 0 where
  pub both : ask_output get_a (text_of (kit ++ reply_key ++ view ++ replies)) ≡ (text_of (codes "answer 0 1 0 0162" ∷ []), 0)
  pub nothing : ask_output get_a (text_of (kit ++ reply_key ++ view)) ≡ (text_of (codes "answer none" ∷ []), 0)
  pub no_key : ask_output get_a (text_of (kit ++ view ++ replies)) ≡ (text_of (codes "answer none" ∷ []), 0)
  pub no_line : ask_output get_a (text_of (kit ++ reply_key ++ view ++ broken)) ≡ (text_of (codes "stop 7 line 11" ∷ []), 7)
