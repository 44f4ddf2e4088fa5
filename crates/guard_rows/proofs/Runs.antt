-- The row of specs/Runs.antt, computed.
use Rattle.std.proofs.Common.{◌≡◌, refl, [], ◌∷◌}
use native.Mathlib.Decide.{ℕ_discrete}
use Rattle.byte_defs.specs.Equality.{bytes_discrete, list_discrete, option_discrete, pair_discrete}
use Rattle.message_defs.specs.Updates.{Value-discrete}
use Rattle.message_defs.specs.Statements.{Message-discrete, Batch-discrete}
use Rattle.group_defs.specs.Certified.{placed}
use Rattle.group_defs.specs.Due.{least_due, next_messages}
use Rattle.group_defs.specs.Hearing.{hear_all}
use Rattle.group_defs.specs.Signing.{sign_kind, sign_kinds, sign_all}
use Rattle.group_defs.specs.Settle.{deliver_more, settle}
use Rattle.group_defs.specs.Events.{after}
use Rattle.guard_defs.specs.Guarding.{expelled, guarded_all}
use Rattle.guard_rows.specs.Scripts.{s, spent, answers, expels_in}
use Rattle.guard_rows.specs.Runs.{Runs, expels, expels_seen, asked_next, asked_next_seen, by_note, by_note_seen, of_other_view, of_other_view_seen, in_order, in_order_seen, of_itself, of_itself_seen, of_stranger, of_stranger_seen, as_stranger, as_stranger_seen, perceived_already, perceived_already_seen, handed_again, handed_again_seen, forged_pair, forged_pair_seen, by_then, by_then_seen, views_spent, views_spent_seen}

is_expels : answers s 0 expels ≡ expels_seen
unfolding ℕ_discrete bytes_discrete option_discrete pair_discrete Value-discrete Message-discrete list_discrete Batch-discrete placed next_messages least_due hear_all sign_kind sign_kinds sign_all deliver_more settle after expelled guarded_all expels expels_seen
is_expels = refl

expels_whom : expels_in s 0 expels ≡ 3 ∷ []
unfolding ℕ_discrete bytes_discrete option_discrete pair_discrete Value-discrete Message-discrete list_discrete Batch-discrete placed next_messages least_due hear_all sign_kind sign_kinds sign_all deliver_more settle after expelled guarded_all expels
expels_whom = refl

is_asked_next : answers s 1 asked_next ≡ asked_next_seen
unfolding ℕ_discrete bytes_discrete option_discrete pair_discrete Value-discrete Message-discrete list_discrete Batch-discrete placed next_messages least_due hear_all sign_kind sign_kinds sign_all deliver_more settle after expelled guarded_all asked_next asked_next_seen
is_asked_next = refl

asked_next_whom : expels_in s 1 asked_next ≡ 3 ∷ []
unfolding ℕ_discrete bytes_discrete option_discrete pair_discrete Value-discrete Message-discrete list_discrete Batch-discrete placed next_messages least_due hear_all sign_kind sign_kinds sign_all deliver_more settle after expelled guarded_all asked_next
asked_next_whom = refl

is_by_note : answers s 0 by_note ≡ by_note_seen
unfolding ℕ_discrete bytes_discrete option_discrete pair_discrete Value-discrete Message-discrete list_discrete Batch-discrete placed next_messages least_due hear_all sign_kind sign_kinds sign_all deliver_more settle after expelled guarded_all by_note by_note_seen
is_by_note = refl

by_note_whom : expels_in s 0 by_note ≡ 3 ∷ []
unfolding ℕ_discrete bytes_discrete option_discrete pair_discrete Value-discrete Message-discrete list_discrete Batch-discrete placed next_messages least_due hear_all sign_kind sign_kinds sign_all deliver_more settle after expelled guarded_all by_note
by_note_whom = refl

is_of_other_view : answers s 0 of_other_view ≡ of_other_view_seen
unfolding ℕ_discrete bytes_discrete option_discrete pair_discrete Value-discrete Message-discrete list_discrete Batch-discrete placed next_messages least_due hear_all sign_kind sign_kinds sign_all deliver_more settle after expelled guarded_all of_other_view of_other_view_seen
is_of_other_view = refl

of_other_view_whom : expels_in s 0 of_other_view ≡ 3 ∷ []
unfolding ℕ_discrete bytes_discrete option_discrete pair_discrete Value-discrete Message-discrete list_discrete Batch-discrete placed next_messages least_due hear_all sign_kind sign_kinds sign_all deliver_more settle after expelled guarded_all of_other_view
of_other_view_whom = refl

is_in_order : answers s 0 in_order ≡ in_order_seen
unfolding ℕ_discrete bytes_discrete option_discrete pair_discrete Value-discrete Message-discrete list_discrete Batch-discrete placed next_messages least_due hear_all sign_kind sign_kinds sign_all deliver_more settle after expelled guarded_all in_order in_order_seen
is_in_order = refl

in_order_whom : expels_in s 0 in_order ≡ 1 ∷ 3 ∷ []
unfolding ℕ_discrete bytes_discrete option_discrete pair_discrete Value-discrete Message-discrete list_discrete Batch-discrete placed next_messages least_due hear_all sign_kind sign_kinds sign_all deliver_more settle after expelled guarded_all in_order
in_order_whom = refl

is_of_itself : answers s 3 of_itself ≡ of_itself_seen
unfolding ℕ_discrete bytes_discrete option_discrete pair_discrete Value-discrete Message-discrete list_discrete Batch-discrete placed next_messages least_due hear_all sign_kind sign_kinds sign_all deliver_more settle after expelled guarded_all of_itself of_itself_seen
is_of_itself = refl

of_itself_whom : expels_in s 3 of_itself ≡ []
unfolding ℕ_discrete bytes_discrete option_discrete pair_discrete Value-discrete Message-discrete list_discrete Batch-discrete placed next_messages least_due hear_all sign_kind sign_kinds sign_all deliver_more settle after expelled guarded_all of_itself
of_itself_whom = refl

is_of_stranger : answers s 0 of_stranger ≡ of_stranger_seen
unfolding ℕ_discrete bytes_discrete option_discrete pair_discrete Value-discrete Message-discrete list_discrete Batch-discrete placed next_messages least_due hear_all sign_kind sign_kinds sign_all deliver_more settle after expelled guarded_all of_stranger of_stranger_seen
is_of_stranger = refl

of_stranger_whom : expels_in s 0 of_stranger ≡ []
unfolding ℕ_discrete bytes_discrete option_discrete pair_discrete Value-discrete Message-discrete list_discrete Batch-discrete placed next_messages least_due hear_all sign_kind sign_kinds sign_all deliver_more settle after expelled guarded_all of_stranger
of_stranger_whom = refl

is_as_stranger : answers s 4 as_stranger ≡ as_stranger_seen
unfolding ℕ_discrete bytes_discrete option_discrete pair_discrete Value-discrete Message-discrete list_discrete Batch-discrete placed next_messages least_due hear_all sign_kind sign_kinds sign_all deliver_more settle after expelled guarded_all as_stranger as_stranger_seen
is_as_stranger = refl

as_stranger_whom : expels_in s 4 as_stranger ≡ []
unfolding ℕ_discrete bytes_discrete option_discrete pair_discrete Value-discrete Message-discrete list_discrete Batch-discrete placed next_messages least_due hear_all sign_kind sign_kinds sign_all deliver_more settle after expelled guarded_all as_stranger
as_stranger_whom = refl

is_perceived_already : answers s 0 perceived_already ≡ perceived_already_seen
unfolding ℕ_discrete bytes_discrete option_discrete pair_discrete Value-discrete Message-discrete list_discrete Batch-discrete placed next_messages least_due hear_all sign_kind sign_kinds sign_all deliver_more settle after expelled guarded_all perceived_already perceived_already_seen
is_perceived_already = refl

perceived_already_whom : expels_in s 0 perceived_already ≡ []
unfolding ℕ_discrete bytes_discrete option_discrete pair_discrete Value-discrete Message-discrete list_discrete Batch-discrete placed next_messages least_due hear_all sign_kind sign_kinds sign_all deliver_more settle after expelled guarded_all perceived_already
perceived_already_whom = refl

is_handed_again : answers s 0 handed_again ≡ handed_again_seen
unfolding ℕ_discrete bytes_discrete option_discrete pair_discrete Value-discrete Message-discrete list_discrete Batch-discrete placed next_messages least_due hear_all sign_kind sign_kinds sign_all deliver_more settle after expelled guarded_all handed_again handed_again_seen
is_handed_again = refl

handed_again_whom : expels_in s 0 handed_again ≡ 3 ∷ []
unfolding ℕ_discrete bytes_discrete option_discrete pair_discrete Value-discrete Message-discrete list_discrete Batch-discrete placed next_messages least_due hear_all sign_kind sign_kinds sign_all deliver_more settle after expelled guarded_all handed_again
handed_again_whom = refl

is_forged_pair : answers s 0 forged_pair ≡ forged_pair_seen
unfolding ℕ_discrete bytes_discrete option_discrete pair_discrete Value-discrete Message-discrete list_discrete Batch-discrete placed next_messages least_due hear_all sign_kind sign_kinds sign_all deliver_more settle after expelled guarded_all forged_pair forged_pair_seen
is_forged_pair = refl

forged_pair_whom : expels_in s 0 forged_pair ≡ []
unfolding ℕ_discrete bytes_discrete option_discrete pair_discrete Value-discrete Message-discrete list_discrete Batch-discrete placed next_messages least_due hear_all sign_kind sign_kinds sign_all deliver_more settle after expelled guarded_all forged_pair
forged_pair_whom = refl

is_by_then : answers s 2 by_then ≡ by_then_seen
unfolding ℕ_discrete bytes_discrete option_discrete pair_discrete Value-discrete Message-discrete list_discrete Batch-discrete placed next_messages least_due hear_all sign_kind sign_kinds sign_all deliver_more settle after expelled guarded_all by_then by_then_seen
is_by_then = refl

by_then_whom : expels_in s 2 by_then ≡ 1 ∷ []
unfolding ℕ_discrete bytes_discrete option_discrete pair_discrete Value-discrete Message-discrete list_discrete Batch-discrete placed next_messages least_due hear_all sign_kind sign_kinds sign_all deliver_more settle after expelled guarded_all by_then
by_then_whom = refl

is_views_spent : answers spent 0 views_spent ≡ views_spent_seen
unfolding ℕ_discrete bytes_discrete option_discrete pair_discrete Value-discrete Message-discrete list_discrete Batch-discrete placed next_messages least_due hear_all sign_kind sign_kinds sign_all deliver_more settle after expelled guarded_all views_spent views_spent_seen
is_views_spent = refl

views_spent_whom : expels_in spent 0 views_spent ≡ 3 ∷ []
unfolding ℕ_discrete bytes_discrete option_discrete pair_discrete Value-discrete Message-discrete list_discrete Batch-discrete placed next_messages least_due hear_all sign_kind sign_kinds sign_all deliver_more settle after expelled guarded_all views_spent
views_spent_whom = refl

pub guard_runs : Runs
guard_runs = record {
  is_expels = is_expels;
  expels_whom = expels_whom;
  is_asked_next = is_asked_next;
  asked_next_whom = asked_next_whom;
  is_by_note = is_by_note;
  by_note_whom = by_note_whom;
  is_of_other_view = is_of_other_view;
  of_other_view_whom = of_other_view_whom;
  is_in_order = is_in_order;
  in_order_whom = in_order_whom;
  is_of_itself = is_of_itself;
  of_itself_whom = of_itself_whom;
  is_of_stranger = is_of_stranger;
  of_stranger_whom = of_stranger_whom;
  is_as_stranger = is_as_stranger;
  as_stranger_whom = as_stranger_whom;
  is_perceived_already = is_perceived_already;
  perceived_already_whom = perceived_already_whom;
  is_handed_again = is_handed_again;
  handed_again_whom = handed_again_whom;
  is_forged_pair = is_forged_pair;
  forged_pair_whom = forged_pair_whom;
  is_by_then = is_by_then;
  by_then_whom = by_then_whom;
  is_views_spent = is_views_spent;
  views_spent_whom = views_spent_whom;
}
