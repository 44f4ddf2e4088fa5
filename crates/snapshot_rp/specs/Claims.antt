-- Claims and updates, as their bytes say them.
use Rattle.std.specs.Prelude.{ℕ, nat_lt, List, Result, Ok, Err}
use Rattle.byte_defs.specs.Fields.{◌>>=◌, refuse_if}
use Rattle.message_defs.specs.declared.FrameFault.{FrameFault}
use Rattle.message_defs.specs.Statements.{Statement, End, Claim}
use Rattle.message_defs.specs.Limits.{last_process}
use Rattle.message_defs.specs.Updates.{Update}
use Rattle.message_defs.specs.Reading.{update_by, update_within, statement_of}

-- the statement that was read, or an End
abbrev pub statement_or_end : Result Statement FrameFault → Statement
statement_or_end (Ok st) = st
statement_or_end (Err fault) = End 0 0

abbrev pub kept : ℕ → List ℕ → List ℕ → Claim
kept signer statement signature = record { signer = signer; statement = statement_or_end (statement_of statement); signature = signature }

-- the process of this number; else this fault
abbrev pub process_in : ℕ → ℕ → Result ℕ ℕ
process_in fault n = refuse_if (nat_lt last_process n) fault >>= λ _. Ok n

-- the update of these two bytes, in its range
abbrev pub updated : ℕ → ℕ → Result Update FrameFault
updated tag p = update_by tag p >>= λ u. update_within u >>= λ _. Ok u
