-- The rows of specs/Rows.antt, computed.
use Rattle.std.proofs.Common.{refl}
use Rattle.std.specs.Prelude.{⊤}
use Rattle.std.specs.Fmt.{digits}
use native.Mathlib.Decide.{ℕ_discrete}
use Rattle.hex.specs.Hex.{decode_pairs, encode_with}
use Rattle.byte_defs.specs.Equality.{bytes_discrete, list_discrete, option_discrete, pair_discrete}
use Rattle.text_defs.specs.Words.{bytes_of, number_of, value_behind}
use Rattle.message_defs.specs.Updates.{Value-discrete}
use Rattle.message_defs.specs.Statements.{Batch-discrete, Message-discrete}
use Rattle.message_defs.specs.Reading.{content_at, echo_at, message_at, payload_at, statement_in, statement_of}
use Rattle.message_defs.specs.Frames.{all_groups, frame_of, group_at, groups_at, signature_at, signatures_at, want_at}
use Rattle.message_defs.specs.Claims.{claims_of, claims_of_group, claims_of_groups, claims_on}
use Rattle.conviction_defs.specs.Convictions.{pair_behind}
use Rattle.witness_defs.specs.Lines.{evidence_in}
use Rattle.witness_defs.specs.Judging.{judged_at}
use Rattle.witness_rows.specs.Rows.{NothingLessIsTaken, TwoEchoesTravel}

-- what a row opens
unfoldable pub opened : ⊤
unfolding digits ℕ_discrete decode_pairs encode_with bytes_discrete list_discrete option_discrete pair_discrete bytes_of number_of value_behind
    Value-discrete Batch-discrete Message-discrete content_at echo_at message_at payload_at statement_in statement_of all_groups frame_of
    group_at groups_at signature_at signatures_at want_at claims_of claims_of_group claims_of_groups claims_on pair_behind evidence_in judged_at
opened = tt

pub two_echoes_travel : TwoEchoesTravel
unfolding opened
two_echoes_travel = record { written = refl; taken = refl }

pub nothing_less_is_taken : NothingLessIsTaken
unfolding opened
nothing_less_is_taken = refl
