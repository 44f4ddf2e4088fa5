-- The rows of specs/Rows.antt, computed.
use Rattle.std.proofs.Common.{refl}
use Rattle.std.specs.Prelude.{⊤}
use Rattle.std.specs.Fmt.{digits}
use native.Mathlib.Decide.{ℕ_discrete}
use Rattle.hex.specs.Hex.{decode_pairs, encode_with}
use Rattle.byte_defs.specs.Equality.{bytes_discrete, list_discrete, option_discrete, pair_discrete}
use Rattle.text_defs.specs.Words.{bytes_of, number_of, value_behind}
use Rattle.message_defs.specs.Updates.{Value-discrete}
use Rattle.message_defs.specs.Statements.{Batch-discrete, Message-discrete}
use Rattle.message_defs.specs.Reading.{content_at, statement_in, statement_of, update_at, value_at, valued_at}
use Rattle.message_defs.specs.Frames.{all_groups, frame_of, group_at, groups_at, signature_at, signatures_at, want_at}
use Rattle.message_defs.specs.Claims.{claims_of, claims_of_group, claims_of_groups, claims_on}
use Rattle.group_defs.specs.Certified.{placed}
use Rattle.group_defs.specs.Due.{least_due, next_messages}
use Rattle.group_defs.specs.Hearing.{hear_all}
use Rattle.group_defs.specs.Signing.{sign_all, sign_kind, sign_kinds}
use Rattle.group_defs.specs.Settle.{deliver_more, settle}
use Rattle.group_defs.specs.Events.{after, run}
use Rattle.kit_defs.specs.KitReading.{members_by}
use Rattle.chain_defs.specs.Advance.{advance, proof_said}
use Rattle.chain_text_defs.specs.Chains.{chain_at, proof_in}
use Rattle.proof_defs.specs.Starts.{start_in, started_at}
use Rattle.proof_rows.specs.Rows.{StartsAreRead, TwoViewsTravel, turns}

-- what a row opens
unfoldable pub opened : ⊤
unfolding digits ℕ_discrete decode_pairs encode_with bytes_discrete list_discrete option_discrete pair_discrete bytes_of number_of value_behind
    Value-discrete Batch-discrete Message-discrete content_at statement_in statement_of update_at value_at valued_at all_groups frame_of group_at groups_at
    signature_at signatures_at want_at claims_of claims_of_group claims_of_groups claims_on advance proof_said chain_at proof_in members_by start_in started_at
opened = tt

pub two_views_travel : TwoViewsTravel
unfolding opened placed next_messages least_due hear_all sign_kind sign_kinds sign_all deliver_more settle after run turns
two_views_travel = record { written = refl; shown = refl; large = refl }

pub starts_are_read : StartsAreRead
unfolding opened
starts_are_read = record { whole = refl; begun = refl; refused = refl; none = refl; late = refl; turned = refl; sixteen = refl; seventeen = refl }
