-- The row of specs/BatchBytes.antt, computed.
use Rattle.std.proofs.Common.{◌≡◌, refl, [], ◌∷◌, ◌++◌}
use Rattle.std.specs.Prelude.{Ok, Err}
use Rattle.message_defs.specs.declared.FrameFault.TheVariants as faults
use Rattle.message_defs.specs.Statements.{Order, Place, Keep}
use Rattle.message_defs.specs.Spelling.{spelling}
use Rattle.message_defs.specs.Reading.{content_at, count_at, message_at, messages_at, placed_at, statement_in, statement_of}
use Rattle.message_defs.specs.Claims.{in_proof}
use Rattle.group_rows.specs.BatchBytes.{many, read, head, BatchBytes}

one : spelling (Place 1 2 (many 1)) ≡ 4 ∷ 0 ∷ 1 ∷ 0 ∷ 2 ∷ 7 ∷ 0 ∷ 0 ∷ []
one = refl

two : spelling (Place 1 2 (many 2)) ≡ 13 ∷ 0 ∷ 1 ∷ 0 ∷ 2 ∷ 2 ∷ 7 ∷ 0 ∷ 0 ∷ 7 ∷ 0 ∷ 1 ∷ []
two = refl

one_again : read (spelling (Order 1 2 (many 1))) ≡ Ok (Order 1 2 (many 1))
unfolding statement_of statement_in content_at placed_at count_at messages_at message_at
one_again = refl

two_again : read (spelling (Order 1 2 (many 2))) ≡ Ok (Order 1 2 (many 2))
unfolding statement_of statement_in content_at placed_at count_at messages_at message_at
two_again = refl

most_again : read (spelling (Keep 1 2 (many 16))) ≡ Ok (Keep 1 2 (many 16))
unfolding statement_of statement_in content_at placed_at count_at messages_at message_at
most_again = refl

none : read (head ++ 0 ∷ []) ≡ Err faults.Statement
unfolding statement_of statement_in content_at placed_at count_at messages_at message_at
none = refl

single : read (head ++ 1 ∷ 7 ∷ 0 ∷ 0 ∷ []) ≡ Err faults.Statement
unfolding statement_of statement_in content_at placed_at count_at messages_at message_at
single = refl

too_many : read (spelling (Keep 1 2 (many 17))) ≡ Err faults.Statement
unfolding statement_of statement_in content_at placed_at count_at messages_at message_at
too_many = refl

longer : read (spelling (Place 1 2 (many 2)) ++ 0 ∷ []) ≡ Err faults.Statement
unfolding statement_of statement_in content_at placed_at count_at messages_at message_at
longer = refl

shorter : read (head ++ 2 ∷ 7 ∷ 0 ∷ 0 ∷ 7 ∷ 0 ∷ []) ≡ Err faults.Statement
unfolding statement_of statement_in content_at placed_at count_at messages_at message_at
shorter = refl

second_sender : read (head ++ 2 ∷ 7 ∷ 0 ∷ 0 ∷ 64 ∷ 0 ∷ 0 ∷ []) ≡ Err faults.Range
unfolding statement_of statement_in content_at placed_at count_at messages_at message_at
second_sender = refl

second_number : read (head ++ 2 ∷ 7 ∷ 0 ∷ 0 ∷ 7 ∷ 4 ∷ 0 ∷ []) ≡ Err faults.Range
unfolding statement_of statement_in content_at placed_at count_at messages_at message_at
second_number = refl

grammar_first : read (head ++ 2 ∷ 64 ∷ 0 ∷ 0 ∷ 7 ∷ 0 ∷ []) ≡ Err faults.Statement
unfolding statement_of statement_in content_at placed_at count_at messages_at message_at
grammar_first = refl

no_kind : read (15 ∷ 0 ∷ 1 ∷ []) ≡ Err faults.Statement
unfolding statement_of statement_in
no_kind = refl

proof_place : statement_in in_proof (spelling (Place 1 2 (many 2))) ≡ Ok (Place 1 2 (many 2))
unfolding statement_in content_at placed_at count_at messages_at message_at
proof_place = refl

proof_keep : statement_in in_proof (spelling (Keep 1 2 (many 2))) ≡ Ok (Keep 1 2 (many 2))
unfolding statement_in content_at placed_at count_at messages_at message_at
proof_keep = refl

proof_order : statement_in in_proof (head ++ 1 ∷ []) ≡ Err faults.Misplaced
unfolding statement_in
proof_order = refl

pub batch_bytes : BatchBytes
batch_bytes = record {
  one = one;
  two = two;
  one_again = one_again;
  two_again = two_again;
  most_again = most_again;
  none = none;
  single = single;
  too_many = too_many;
  longer = longer;
  shorter = shorter;
  second_sender = second_sender;
  second_number = second_number;
  grammar_first = grammar_first;
  no_kind = no_kind;
  proof_place = proof_place;
  proof_keep = proof_keep;
  proof_order = proof_order;
}
