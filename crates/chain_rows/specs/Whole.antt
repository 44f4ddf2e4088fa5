-- Row «chain_of_two_views», whole: the kit of `keygen 1 2 plain:100`, the Proof with which process 0 answers, and the same once more.
use Rattle.std.specs.Prelude.{◌≡◌, ℕ, List, ◌++◌, codes}
use Rattle.chain_text_defs.specs.Chains.{chain_of}
use Rattle.chain_rows.specs.Reported.{says}

unfoldable pub input : List ℕ
input =
    codes "rampart kit 1\n"
    ++ codes "scheme plain\n"
    ++ codes "group 6f289d5b5aa425dc2f365877e4cf8595\n"
    ++ codes "key 0 2dd447ac7305bc84b2dc0da0fe9411f33e1af724d30036daa8b9c930ce8b3722\n"
    ++ codes "key 1 00d30be9d2cd77737e2bbd0d7678b8b6c35b2fa04810456308028c71958103a5\n"
    ++ codes "genesis 0\n"
    ++ codes "port 0 47000\n"
    ++ codes "port 1 47001\n"
    ++ codes "host 0 plain 100\n"
    ++ codes "pair 0 1 e5d93ab81fbaf5647142a212f6fec7a66fc65a8250045aaf87c78aa3de95e3e9\n"
    ++ codes "host 1 plain 100\n"
    ++ codes "pair 1 0 e5d93ab81fbaf5647142a212f6fec7a66fc65a8250045aaf87c78aa3de95e3e9\n"
    ++ codes "go\n"
    ++ codes "proof 01020400080b00000002010001010000202cd47032c3d2282ea720305186c7350d254e81a370fbf8fab6c403d229a54b3a0008040000000000000001000020c5289626e044c8d8ca858193426b390e0845b012f47b66fb6bc41728d92270970016020000000000000e0000000000000000010161000162010000203182617e23a078f285bf03be978a7950e0b36a9cba3ac8f4567c8a6ec1bd83410008050000000000000001000020c2d7aac53f0582fe849a3bdbd6232ce6e05beadd1c7dd69e7ac884c09d6df1a4\n"
    ++ codes "proof 01020400080b00000002010001010000202cd47032c3d2282ea720305186c7350d254e81a370fbf8fab6c403d229a54b3a0008040000000000000001000020c5289626e044c8d8ca858193426b390e0845b012f47b66fb6bc41728d92270970016020000000000000e0000000000000000010161000162010000203182617e23a078f285bf03be978a7950e0b36a9cba3ac8f4567c8a6ec1bd83410008050000000000000001000020c2d7aac53f0582fe849a3bdbd6232ce6e05beadd1c7dd69e7ac884c09d6df1a4\n"

-- the row: what the definitions give
pub record Whole : Type 0 where
  pub is_input : chain_of input ≡ says (codes "view 0 : 0\n" ++ codes "view 1 : 0 1\n" ++ codes "stop 7 few 15 0\n") 7
