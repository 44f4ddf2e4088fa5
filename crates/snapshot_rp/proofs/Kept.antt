-- The bytes of a kept claim are the spelling of its statement.
use Rattle.std.proofs.Common.{◌≡◌, ◌≤◌, ℕ, List, length, Result, Ok, Err, refl, sym}
use Rattle.std.specs.Prelude.{IsOk}
use Rattle.byte_defs.proofs.Fields.{IsBytes}
use Rattle.message_defs.specs.declared.FrameFault.{FrameFault}
use Rattle.message_defs.specs.Statements.{Statement, Claim}
use Rattle.message_defs.specs.Spelling.{IsStatement, spelling}
use Rattle.message_defs.specs.Reading.{statement_of}
use Rattle.member_events.proofs.Grammar.{spelling_again}
use Rattle.snapshot_laws.proofs.Claims.{read_statement_is}
use Rattle.snapshot_rp.specs.Claims.{statement_or_end, kept}

pub record IsSpelling (bytes : List ℕ) : Type 0 where
  pub same : spelling (statement_or_end (statement_of bytes)) ≡ bytes
  pub short : length bytes ≤ 1032

spelling_by : (bytes : List ℕ) (r : Result Statement FrameFault) → IsBytes bytes → statement_of bytes ≡ r → IsOk r → IsSpelling bytes
spelling_by bytes (Ok st) fits is ok = let s = read_statement_is bytes st fits is in record { same = rw is (sym s.0); short = s.1 }
spelling_by bytes (Err fault) fits is ok = absurd cc

pub kept_is_spelled : (bytes : List ℕ) → IsBytes bytes → IsOk (statement_of bytes) → IsSpelling bytes
kept_is_spelled bytes fits ok = spelling_by bytes (statement_of bytes) fits refl ok

-- ---- what is spelled is kept as the claim

pub spelling_is_read : (st : Statement) (bytes : List ℕ) → IsStatement st → bytes ≡ spelling st → IsOk (statement_of bytes)
spelling_is_read st bytes is same = rw (same, spelling_again st is) refl

pub kept_so : (c : Claim) (statement signature : List ℕ) → IsStatement c.statement → statement ≡ spelling c.statement
    → signature ≡ c.signature → kept c.signer statement signature ≡ c
kept_so c statement signature is same signed = rw (same, signed, spelling_again c.statement is) refl
