-- Rows of the store in words.
use Rattle.std.specs.Prelude.{◌≡◌, ℕ, List, [], ◌∷◌, map, codes, Some, None}
use Rattle.store_text_defs.specs.declared.Filter.TheVariants.{Assemble, Tell}
use Rattle.store_text_defs.specs.Requests.{reported}
use Rattle.store_text_defs.specs.Answers.{said_tokens}
use Rattle.store_text_defs.specs.Filters.{becomes}

-- The two requests of `serve_two_requests` (`store_rows`): the key a is set to b, and then asked for. The submitted bytes and the records are
-- those that the row has.
pub record TwoRequestsInWords : Type 0 where
  pub put : becomes Assemble (codes "0 put 0 \"a\" \"b\"") ≡ Some (codes "0 submit 0000000000000000010161000162\n")
  pub get : becomes Assemble (codes "0 get 1 \"a\"") ≡ Some (codes "0 submit 0000000000000001020161\n")
  -- in hexadecimal, with blanks and a comment
  pub digits : becomes Assemble (codes "0 put 0  61 62   # a is b") ≡ Some (codes "0 submit 0000000000000000010161000162\n")
  pub other : becomes Assemble (codes "0 submit 616263") ≡ Some (codes "0 submit 616263\n")
  pub delivered : becomes Tell (codes "deliver 0 0 0 0 0 0000000000000000010161000162")
      ≡ Some (codes "deliver 0 0 0 0 0 0000000000000000010161000162\n  put 0 \"a\" \"b\"\n")
  pub done : becomes Tell (codes "reply 0 000000000000000e00000000000000000101610001620001000020c30f02c6e7865639d258b1b374c743a79fefcd59d5cd8383a7c50c8939ebe0db")
      ≡ Some (codes "reply 0 000000000000000e00000000000000000101610001620001000020c30f02c6e7865639d258b1b374c743a79fefcd59d5cd8383a7c50c8939ebe0db\n  view 0 place 0 position 0 : put 0 \"a\" \"b\" : done\n")
  pub value : becomes Tell (codes "reply 0 000000000100000b0000000000000001020161000201620020a737d1c1150f49f398e5f7e25df506af19ab5e9f375d2ad62a4a6f222dd661b4")
      ≡ Some (codes "reply 0 000000000100000b0000000000000001020161000201620020a737d1c1150f49f398e5f7e25df506af19ab5e9f375d2ad62a4a6f222dd661b4\n  view 0 place 1 position 0 : get 1 \"a\" : value \"b\"\n")
  pub silent : becomes Tell (codes "host 0 view 0 delivered 0 entries 0") ≡ Some (codes "host 0 view 0 delivered 0 entries 0\n")

-- no value, a process too many, a tag too great and one with a zero before it, no key, a value where none is asked for, half a byte, a text that
-- does not end, and one value where two are asked for
abbrev pub faulty : List (List ℕ)
faulty =
    codes "0 put 0 \"a\""
    ∷ codes "64 get 0 \"a\""
    ∷ codes "0 get 18446744073709551616 \"a\""
    ∷ codes "0 get 00 \"a\""
    ∷ codes "0 get 0"
    ∷ codes "0 get 0 \"\""
    ∷ codes "0 get 0 \"a\" \"b\""
    ∷ codes "0 remove 0 616"
    ∷ codes "0 put 0 \"a\" \"b"
    ∷ codes "0 swap 0 \"a\" \"b\"" ∷ []

-- and the greatest tag
pub record NoRequests : Type 0 where
  pub none : map (becomes Assemble) faulty ≡ None ∷ None ∷ None ∷ None ∷ None ∷ None ∷ None ∷ None ∷ None ∷ None ∷ []
  pub greatest : becomes Assemble (codes "63 remove 18446744073709551615 \"a\"") ≡ Some (codes "63 submit ffffffffffffffff030161\n")

-- what is written of bytes
abbrev pub reported_of : List ℕ → List ℕ
reported_of bytes = reported (said_tokens bytes)

pub record EachAnswer : Type 0 where
  pub answers : map reported_of ((0 ∷ []) ∷ (1 ∷ 98 ∷ []) ∷ (1 ∷ []) ∷ (2 ∷ []) ∷ (3 ∷ []) ∷ (4 ∷ []) ∷ (5 ∷ 0 ∷ []) ∷ [])
      ≡ codes "done" ∷ codes "value \"b\"" ∷ codes "value \"\"" ∷ codes "absent" ∷ codes "no request" ∷ codes "full" ∷ codes "differs 00" ∷ []
  pub others : map reported_of ([] ∷ (6 ∷ []) ∷ (0 ∷ 0 ∷ []) ∷ []) ≡ codes "unknown \"\"" ∷ codes "unknown 06" ∷ codes "unknown 0000" ∷ []

-- each of these lines, and the sentence after it
pub record EachState : Type 0 where
  pub empty : becomes Tell (codes "state 0 0000010000000200000000")
      ≡ Some (codes "state 0 0000010000000200000000\n  the store of view 1\n")
  pub pairs : becomes Tell (codes "state 2 0200010000000800010161000262630000")
      ≡ Some (codes "state 2 0200010000000800010161000262630000\n  the store of view 1\n  \"a\" is \"bc\"\n")
  pub another : becomes Tell (codes "state 3 0200010000000800010161000262630000") ≡ Some (codes "state 3 0200010000000800010161000262630000\n")
  pub taken : becomes Tell (codes "state 3 taken 1") ≡ Some (codes "state 3 taken 1\n  members that gave this state: 1\n")
  pub refused : becomes Tell (codes "state 3 refused known") ≡ Some (codes "state 3 refused known\n  refused: its signer is counted\n")
  pub no_reply : becomes Tell (codes "reply 3 none") ≡ Some (codes "reply 3 none\n  the process does not hold the store\n")
  pub no_answer : becomes Tell (codes "answer none") ≡ Some (codes "answer none\n  not enough members gave one answer\n")
  pub answer : becomes Tell (codes "answer 0 1 0 0162") ≡ Some (codes "answer 0 1 0 0162\n  value \"b\"\n")
