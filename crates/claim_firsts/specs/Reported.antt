-- The convictions that a table reports.
use Rattle.std.specs.Prelude.{ℕ, ◌==◌, find, Option, option_map, option_and_then}
use Rattle.message_defs.specs.Statements.{Claim}
use Rattle.message_defs.specs.Spelling.{IsStatement}
use Rattle.stmt_codec.specs.Views.{claim, stmt}
use Rattle.conviction_defs.specs.Convictions as plain
use Rattle.claim_firsts.specs.declared.conviction.Conviction.{Conviction}
use Rattle.claim_firsts.specs.Tables.{Table}
use Rattle.claim_firsts.specs.Seen.{is_beside}

-- a conviction, as plain data
abbrev pub conviction : Conviction → plain.Conviction
conviction c = record { process = c.process; first = claim c.first; second = claim c.second }

-- both statements are in their ranges, so that they have a spelling
abbrev pub AreSpelled : Conviction → Type 0
AreSpelled c = IsStatement (stmt c.first.statement) × IsStatement (stmt c.second.statement)

-- of the process, with this second claim and the first one beside it
abbrev pub conviction_with : Table → ℕ → Claim → Option plain.Conviction
conviction_with t q c = option_map (λ b. record { process = q; first = b; second = c }) (find (is_beside c) t.firsts)

-- the conviction of the process, where it has a second claim
abbrev pub conviction_by : Table → ℕ → Option plain.Conviction
conviction_by t q = option_and_then (conviction_with t q) (find (λ c. c.signer == q) t.seconds)
