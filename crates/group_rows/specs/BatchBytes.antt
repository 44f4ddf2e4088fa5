-- How Orders, Places and Keeps are spelled and read: one message by the kinds 3 to 5, and 2 to 16 of them by 12 to 14.
use Rattle.std.specs.Prelude.{◌≡◌, ℕ, List, [], ◌∷◌, ◌++◌, map, Result, Ok, Err}
use Rattle.std.specs.List.{range_with_len}
use Rattle.message_defs.specs.declared.FrameFault.TheVariants as faults
use Rattle.message_defs.specs.declared.FrameFault.{FrameFault}
use Rattle.message_defs.specs.Statements.{Batch, Statement, Order, Place, Keep}
use Rattle.message_defs.specs.Spelling.{spelling}
use Rattle.message_defs.specs.Reading.{statement_in, statement_of}
use Rattle.message_defs.specs.Claims.{in_proof}
use Rattle.group_rows.specs.Scripts.{msg}

-- a batch of n messages, 0, 1, 2 and so on of process 7
abbrev pub many : ℕ → Batch
many n = map (λ l. msg 7 l) (range_with_len 0 n)

abbrev pub read : List ℕ → Result Statement FrameFault
read = statement_of

-- a count is 2 to 16
abbrev pub head : List ℕ
head = 12 ∷ 0 ∷ 1 ∷ 0 ∷ 2 ∷ []

-- the row: what the definitions give
pub record BatchBytes : Type 0 where
  pub one : spelling (Place 1 2 (many 1)) ≡ 4 ∷ 0 ∷ 1 ∷ 0 ∷ 2 ∷ 7 ∷ 0 ∷ 0 ∷ []
  pub two : spelling (Place 1 2 (many 2)) ≡ 13 ∷ 0 ∷ 1 ∷ 0 ∷ 2 ∷ 2 ∷ 7 ∷ 0 ∷ 0 ∷ 7 ∷ 0 ∷ 1 ∷ []
  -- what is spelled is read again
  pub one_again : read (spelling (Order 1 2 (many 1))) ≡ Ok (Order 1 2 (many 1))
  pub two_again : read (spelling (Order 1 2 (many 2))) ≡ Ok (Order 1 2 (many 2))
  pub most_again : read (spelling (Keep 1 2 (many 16))) ≡ Ok (Keep 1 2 (many 16))
  pub none : read (head ++ 0 ∷ []) ≡ Err faults.Statement
  pub single : read (head ++ 1 ∷ 7 ∷ 0 ∷ 0 ∷ []) ≡ Err faults.Statement
  pub too_many : read (spelling (Keep 1 2 (many 17))) ≡ Err faults.Statement
  -- the length is that of the count
  pub longer : read (spelling (Place 1 2 (many 2)) ++ 0 ∷ []) ≡ Err faults.Statement
  pub shorter : read (head ++ 2 ∷ 7 ∷ 0 ∷ 0 ∷ 7 ∷ 0 ∷ []) ≡ Err faults.Statement
  -- the range of each message is tested, after the grammar
  pub second_sender : read (head ++ 2 ∷ 7 ∷ 0 ∷ 0 ∷ 64 ∷ 0 ∷ 0 ∷ []) ≡ Err faults.Range
  pub second_number : read (head ++ 2 ∷ 7 ∷ 0 ∷ 0 ∷ 7 ∷ 4 ∷ 0 ∷ []) ≡ Err faults.Range
  pub grammar_first : read (head ++ 2 ∷ 64 ∷ 0 ∷ 0 ∷ 7 ∷ 0 ∷ []) ≡ Err faults.Statement
  -- no kind byte is above 14
  pub no_kind : read (15 ∷ 0 ∷ 1 ∷ []) ≡ Err faults.Statement
  -- a Proof carries a Place and a Keep of several messages, and no Order, which is refused before its count
  pub proof_place : statement_in in_proof (spelling (Place 1 2 (many 2))) ≡ Ok (Place 1 2 (many 2))
  pub proof_keep : statement_in in_proof (spelling (Keep 1 2 (many 2))) ≡ Ok (Keep 1 2 (many 2))
  pub proof_order : statement_in in_proof (head ++ 1 ∷ []) ≡ Err faults.Misplaced
