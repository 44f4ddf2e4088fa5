-- Claims whose bytes are kept.
use Rattle.std.specs.Prelude.{ℕ, List, Ok, Err, IsOk}
use Rattle.message_defs.specs.Statements.{Statement, End, Claim}
use Rattle.message_defs.specs.Reading.{statement_of}
use Rattle.stmt_codec.specs.declared.own.OwnClaim.{OwnClaim}

-- the bytes spell a statement
abbrev pub IsReadable : List ℕ → Type 0
IsReadable bytes = IsOk (statement_of bytes)

-- the statement that the bytes spell; bytes that spell none are not kept
abbrev pub said_in : List ℕ → Statement
said_in bytes = elim (statement_of bytes) [ Ok st ↦ st | Err fault ↦ End 0 0 ]

-- the claim whose statement and signature these bytes are
abbrev pub claim_in : OwnClaim → Claim
claim_in c = record { signer = c.signer; statement = said_in c.statement; signature = c.signature }
