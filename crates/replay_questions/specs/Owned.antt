-- Whose word a claim is, as the report computes it.
use Rattle.std.specs.Prelude.{Bool, ◌||◌, not, ◌==◌}
use Rattle.std.specs.List.{list_any, list_all}
use Rattle.message_defs.specs.Statements.{Claim, same_statement}
use Rattle.group_defs.specs.Hearing.{is_valid}
use Rattle.group_defs.specs.Process.{Process}
use Rattle.group_defs.specs.Family.{Family, ends, statements_of}
use Rattle.replay_world.specs.Handing.{claims_of}
use Rattle.replay_world.specs.declared.traffic.Sent.{Sent}

-- the process is not the claim's signer, or signed its statement
abbrev pub is_word_of : Claim → Process → Bool
is_word_of c p = not (p.me == c.signer) || list_any (same_statement c.statement) (statements_of p)

-- the claim is not valid, or its signer is none of the correct processes, or signed its statement by the end
abbrev pub is_owned : Family → Claim → Bool
is_owned f c = not (is_valid f.setting c) || list_all (is_word_of c) (ends f)

-- the frame was handed to nobody, or all its claims are owned
abbrev pub is_unhanded_or_owned : Family → Sent → Bool
is_unhanded_or_owned f s = not s.handed || list_all (is_owned f) (claims_of s.bytes)
