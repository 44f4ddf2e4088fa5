-- The row of specs/Accusing.antt, computed.
use Rattle.std.proofs.Common.{◌≡◌, refl, [], ◌∷◌, Some, None, true, false}
use Rattle.std.specs.Prelude.{codes, flat_map}
use Rattle.std.specs.Fmt.{digits}
use native.Mathlib.Decide.{ℕ_discrete}
use Rattle.byte_defs.specs.Equality.{bytes_discrete, list_discrete, option_discrete, pair_discrete}
use Rattle.text_defs.specs.Words.{value_behind, number_of}
use Rattle.message_defs.specs.Updates.{Value-discrete}
use Rattle.message_defs.specs.Statements.{Message-discrete, Batch-discrete}
use Rattle.group_defs.specs.Certified.{placed}
use Rattle.group_defs.specs.Due.{least_due, next_messages}
use Rattle.group_defs.specs.Hearing.{hear_all}
use Rattle.group_defs.specs.Signing.{sign_kind, sign_kinds, sign_all}
use Rattle.group_defs.specs.Settle.{deliver_more, settle}
use Rattle.group_defs.specs.Events.{after, run}
use Rattle.group_defs.specs.Accounts.{bounded}
use Rattle.group_defs.specs.Family.{accounts, numbers, honest}
use Rattle.guard_defs.specs.Guarding.{expelled, guarded_all}
use Rattle.node_defs.specs.Lines.{expel_line}
use Rattle.guard_defs.specs.Lines.{accused_by, accuse_line, accusation}
use Rattle.guard_rows.specs.Scripts.{s, frames_sent, expels_in}
use Rattle.guard_rows.specs.Accusing.{two_echoes, behind, all, Accusing}

expel : expel_line 0 3 ≡ codes "expel 0 3\n"
unfolding ℕ_discrete bytes_discrete option_discrete pair_discrete Value-discrete Message-discrete list_discrete Batch-discrete placed next_messages least_due hear_all sign_kind sign_kinds sign_all deliver_more settle after run digits value_behind number_of expelled guarded_all two_echoes all
expel = refl

accuse : accuse_line (behind 0 two_echoes) 3 ≡ codes "accuse 0 3\n"
unfolding ℕ_discrete bytes_discrete option_discrete pair_discrete Value-discrete Message-discrete list_discrete Batch-discrete placed next_messages least_due hear_all sign_kind sign_kinds sign_all deliver_more settle after run digits value_behind number_of expelled guarded_all two_echoes all
accuse = refl

sent : flat_map frames_sent (accusation (behind 0 two_echoes) 3) ≡ ((1 ∷ 2 ∷ 3 ∷ []), (1 ∷ 1 ∷ 2 ∷ 0 ∷ 9 ∷ 2 ∷ 0 ∷ 0 ∷ 3 ∷ 0 ∷ 0 ∷ 0 ∷ 1 ∷ 97 ∷ 1 ∷ 3 ∷ 0 ∷ 0 ∷ 0 ∷ 9 ∷ 2 ∷ 0 ∷ 0 ∷ 3 ∷ 0 ∷ 0 ∷ 0 ∷ 1 ∷ 98 ∷ 1 ∷ 3 ∷ 0 ∷ 0 ∷ [])) ∷ []
unfolding ℕ_discrete bytes_discrete option_discrete pair_discrete Value-discrete Message-discrete list_discrete Batch-discrete placed next_messages least_due hear_all sign_kind sign_kinds sign_all deliver_more settle after run digits value_behind number_of expelled guarded_all two_echoes all
sent = refl

accuse_none : accuse_line (behind 2 []) 3 ≡ codes "accuse 2 none\n"
unfolding ℕ_discrete bytes_discrete option_discrete pair_discrete Value-discrete Message-discrete list_discrete Batch-discrete placed next_messages least_due hear_all sign_kind sign_kinds sign_all deliver_more settle after run digits value_behind number_of expelled guarded_all two_echoes all
accuse_none = refl

none_sent : flat_map frames_sent (accusation (behind 2 []) 3) ≡ []
unfolding ℕ_discrete bytes_discrete option_discrete pair_discrete Value-discrete Message-discrete list_discrete Batch-discrete placed next_messages least_due hear_all sign_kind sign_kinds sign_all deliver_more settle after run digits value_behind number_of expelled guarded_all two_echoes all
none_sent = refl

accuse_outside : accuse_line (behind 4 two_echoes) 3 ≡ codes "accuse 4 3\n"
unfolding ℕ_discrete bytes_discrete option_discrete pair_discrete Value-discrete Message-discrete list_discrete Batch-discrete placed next_messages least_due hear_all sign_kind sign_kinds sign_all deliver_more settle after run digits value_behind number_of expelled guarded_all two_echoes all
accuse_outside = refl

sent_outside : flat_map frames_sent (accusation (behind 4 two_echoes) 3) ≡ ((0 ∷ 1 ∷ 2 ∷ 3 ∷ []), (1 ∷ 1 ∷ 2 ∷ 0 ∷ 9 ∷ 2 ∷ 0 ∷ 0 ∷ 3 ∷ 0 ∷ 0 ∷ 0 ∷ 1 ∷ 97 ∷ 1 ∷ 3 ∷ 0 ∷ 0 ∷ 0 ∷ 9 ∷ 2 ∷ 0 ∷ 0 ∷ 3 ∷ 0 ∷ 0 ∷ 0 ∷ 1 ∷ 98 ∷ 1 ∷ 3 ∷ 0 ∷ 0 ∷ [])) ∷ []
unfolding ℕ_discrete bytes_discrete option_discrete pair_discrete Value-discrete Message-discrete list_discrete Batch-discrete placed next_messages least_due hear_all sign_kind sign_kinds sign_all deliver_more settle after run digits value_behind number_of expelled guarded_all two_echoes all
sent_outside = refl

word : accused_by (codes "accuse" ∷ codes "3" ∷ []) ≡ Some 3
unfolding ℕ_discrete bytes_discrete option_discrete pair_discrete Value-discrete Message-discrete list_discrete Batch-discrete placed next_messages least_due hear_all sign_kind sign_kinds sign_all deliver_more settle after run digits value_behind number_of expelled guarded_all two_echoes all
word = refl

word_beyond : accused_by (codes "accuse" ∷ codes "64" ∷ []) ≡ None
unfolding ℕ_discrete bytes_discrete option_discrete pair_discrete Value-discrete Message-discrete list_discrete Batch-discrete placed next_messages least_due hear_all sign_kind sign_kinds sign_all deliver_more settle after run digits value_behind number_of expelled guarded_all two_echoes all
word_beyond = refl

word_zero : accused_by (codes "accuse" ∷ codes "03" ∷ []) ≡ None
unfolding ℕ_discrete bytes_discrete option_discrete pair_discrete Value-discrete Message-discrete list_discrete Batch-discrete placed next_messages least_due hear_all sign_kind sign_kinds sign_all deliver_more settle after run digits value_behind number_of expelled guarded_all two_echoes all
word_zero = refl

word_more : accused_by (codes "accuse" ∷ codes "3" ∷ codes "3" ∷ []) ≡ None
unfolding ℕ_discrete bytes_discrete option_discrete pair_discrete Value-discrete Message-discrete list_discrete Batch-discrete placed next_messages least_due hear_all sign_kind sign_kinds sign_all deliver_more settle after run digits value_behind number_of expelled guarded_all two_echoes all
word_more = refl

word_other : accused_by (codes "expel" ∷ codes "3" ∷ []) ≡ None
unfolding ℕ_discrete bytes_discrete option_discrete pair_discrete Value-discrete Message-discrete list_discrete Batch-discrete placed next_messages least_due hear_all sign_kind sign_kinds sign_all deliver_more settle after run digits value_behind number_of expelled guarded_all two_echoes all
word_other = refl

judged : honest all ∷ bounded (accounts all) (numbers all) ∷ [] ≡ false ∷ true ∷ []
unfolding ℕ_discrete bytes_discrete option_discrete pair_discrete Value-discrete Message-discrete list_discrete Batch-discrete placed next_messages least_due hear_all sign_kind sign_kinds sign_all deliver_more settle after run digits value_behind number_of expelled guarded_all two_echoes all
judged = refl

expels : expels_in s 0 two_echoes ≡ 3 ∷ []
unfolding ℕ_discrete bytes_discrete option_discrete pair_discrete Value-discrete Message-discrete list_discrete Batch-discrete placed next_messages least_due hear_all sign_kind sign_kinds sign_all deliver_more settle after run digits value_behind number_of expelled guarded_all two_echoes all
expels = refl

pub accusing_rows : Accusing
accusing_rows = record {
  expel = expel;
  accuse = accuse;
  sent = sent;
  accuse_none = accuse_none;
  none_sent = none_sent;
  accuse_outside = accuse_outside;
  sent_outside = sent_outside;
  word = word;
  word_beyond = word_beyond;
  word_zero = word_zero;
  word_more = word_more;
  word_other = word_other;
  judged = judged;
  expelled = expels;
}
