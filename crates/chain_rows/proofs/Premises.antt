-- The row of specs/Premises.antt, computed.
use Rattle.std.proofs.Common.{◌≡◌, refl, [], ◌∷◌, map, true, false}
use Rattle.std.specs.List.{list_any}
use native.Mathlib.Decide.{ℕ_discrete}
use Rattle.byte_defs.specs.Equality.{bytes_discrete, list_discrete, option_discrete, pair_discrete}
use Rattle.message_defs.specs.Updates.{Value-discrete, Add}
use Rattle.message_defs.specs.Statements.{Message-discrete, Batch-discrete, Ready, same_statement}
use Rattle.message_defs.specs.Frames.{signature_at, signatures_at, group_at, groups_at, all_groups, frame_of}
use Rattle.message_defs.specs.Reading.{update_at, value_at, valued_at, content_at, statement_in}
use Rattle.message_defs.specs.Claims.{claims_on, claims_of_group, claims_of_groups, claims_of}
use Rattle.group_defs.specs.Process.{views_of}
use Rattle.group_defs.specs.Certified.{placed}
use Rattle.group_defs.specs.Due.{least_due, next_messages}
use Rattle.group_defs.specs.Hearing.{hear_all}
use Rattle.group_defs.specs.Signing.{sign_kind, sign_kinds, sign_all}
use Rattle.group_defs.specs.Settle.{deliver_more, settle}
use Rattle.group_defs.specs.Events.{after, run}
use Rattle.group_defs.specs.Accounts.{bounded}
use Rattle.group_defs.specs.Family.{accounts, ends, numbers, honest, statements_of}
use Rattle.chain_defs.specs.Advance.{proof_said, advance, views_shown}
use Rattle.chain_rows.specs.Scripts.{s, value}
use Rattle.chain_rows.specs.Premises.{next_to, alone, renewed, not_its_word, outnumbered, removes, renews, nobody, Premises}

renewed_judged : honest renewed ∷ bounded (accounts renewed) (numbers renewed) ∷ [] ≡ true ∷ true ∷ []
unfolding ℕ_discrete bytes_discrete option_discrete pair_discrete Value-discrete Message-discrete list_discrete Batch-discrete placed next_messages least_due hear_all sign_kind sign_kinds sign_all deliver_more settle after run signature_at signatures_at group_at groups_at all_groups frame_of update_at value_at valued_at content_at statement_in claims_on claims_of_group claims_of_groups claims_of proof_said advance views_shown renewed not_its_word outnumbered removes renews nobody
renewed_judged = refl

renewed_views : map views_of (ends renewed) ≡ (alone.genesis ∷ next_to (0 ∷ []) ∷ []) ∷ []
unfolding ℕ_discrete bytes_discrete option_discrete pair_discrete Value-discrete Message-discrete list_discrete Batch-discrete placed next_messages least_due hear_all sign_kind sign_kinds sign_all deliver_more settle after run signature_at signatures_at group_at groups_at all_groups frame_of update_at value_at valued_at content_at statement_in claims_on claims_of_group claims_of_groups claims_of proof_said advance views_shown renewed not_its_word outnumbered removes renews nobody
renewed_views = refl

renewed_chain : views_shown alone alone.genesis (not_its_word ∷ []) ≡ next_to (0 ∷ 1 ∷ []) ∷ []
unfolding ℕ_discrete bytes_discrete option_discrete pair_discrete Value-discrete Message-discrete list_discrete Batch-discrete placed next_messages least_due hear_all sign_kind sign_kinds sign_all deliver_more settle after run signature_at signatures_at group_at groups_at all_groups frame_of update_at value_at valued_at content_at statement_in claims_on claims_of_group claims_of_groups claims_of proof_said advance views_shown renewed not_its_word outnumbered removes renews nobody
renewed_chain = refl

renewed_never_said : map (λ p. list_any (same_statement (Ready 0 0 (value (Add 1) 0))) (statements_of p)) (ends renewed) ≡ false ∷ []
unfolding ℕ_discrete bytes_discrete option_discrete pair_discrete Value-discrete Message-discrete list_discrete Batch-discrete placed next_messages least_due hear_all sign_kind sign_kinds sign_all deliver_more settle after run signature_at signatures_at group_at groups_at all_groups frame_of update_at value_at valued_at content_at statement_in claims_on claims_of_group claims_of_groups claims_of proof_said advance views_shown renewed not_its_word outnumbered removes renews nobody
renewed_never_said = refl

outnumbered_judged : honest outnumbered ∷ bounded (accounts outnumbered) (numbers outnumbered) ∷ [] ≡ true ∷ false ∷ []
unfolding ℕ_discrete bytes_discrete option_discrete pair_discrete Value-discrete Message-discrete list_discrete Batch-discrete placed next_messages least_due hear_all sign_kind sign_kinds sign_all deliver_more settle after run signature_at signatures_at group_at groups_at all_groups frame_of update_at value_at valued_at content_at statement_in claims_on claims_of_group claims_of_groups claims_of proof_said advance views_shown renewed not_its_word outnumbered removes renews nobody
outnumbered_judged = refl

outnumbered_views : map views_of (ends outnumbered) ≡ (s.genesis ∷ next_to (0 ∷ 1 ∷ 2 ∷ 3 ∷ []) ∷ []) ∷ []
unfolding ℕ_discrete bytes_discrete option_discrete pair_discrete Value-discrete Message-discrete list_discrete Batch-discrete placed next_messages least_due hear_all sign_kind sign_kinds sign_all deliver_more settle after run signature_at signatures_at group_at groups_at all_groups frame_of update_at value_at valued_at content_at statement_in claims_on claims_of_group claims_of_groups claims_of proof_said advance views_shown renewed not_its_word outnumbered removes renews nobody
outnumbered_views = refl

outnumbered_chain : views_shown s s.genesis (removes ∷ []) ≡ next_to (1 ∷ 2 ∷ 3 ∷ []) ∷ []
unfolding ℕ_discrete bytes_discrete option_discrete pair_discrete Value-discrete Message-discrete list_discrete Batch-discrete placed next_messages least_due hear_all sign_kind sign_kinds sign_all deliver_more settle after run signature_at signatures_at group_at groups_at all_groups frame_of update_at value_at valued_at content_at statement_in claims_on claims_of_group claims_of_groups claims_of proof_said advance views_shown renewed not_its_word outnumbered removes renews nobody
outnumbered_chain = refl

nobody_judged : honest nobody ∷ bounded (accounts nobody) (numbers nobody) ∷ [] ≡ true ∷ true ∷ []
unfolding ℕ_discrete bytes_discrete option_discrete pair_discrete Value-discrete Message-discrete list_discrete Batch-discrete placed next_messages least_due hear_all sign_kind sign_kinds sign_all deliver_more settle after run signature_at signatures_at group_at groups_at all_groups frame_of update_at value_at valued_at content_at statement_in claims_on claims_of_group claims_of_groups claims_of proof_said advance views_shown renewed not_its_word outnumbered removes renews nobody
nobody_judged = refl

nobody_one : views_shown s s.genesis (renews ∷ []) ≡ next_to (0 ∷ 1 ∷ 2 ∷ 3 ∷ []) ∷ []
unfolding ℕ_discrete bytes_discrete option_discrete pair_discrete Value-discrete Message-discrete list_discrete Batch-discrete placed next_messages least_due hear_all sign_kind sign_kinds sign_all deliver_more settle after run signature_at signatures_at group_at groups_at all_groups frame_of update_at value_at valued_at content_at statement_in claims_on claims_of_group claims_of_groups claims_of proof_said advance views_shown renewed not_its_word outnumbered removes renews nobody
nobody_one = refl

nobody_two : views_shown s s.genesis (removes ∷ []) ≡ next_to (1 ∷ 2 ∷ 3 ∷ []) ∷ []
unfolding ℕ_discrete bytes_discrete option_discrete pair_discrete Value-discrete Message-discrete list_discrete Batch-discrete placed next_messages least_due hear_all sign_kind sign_kinds sign_all deliver_more settle after run signature_at signatures_at group_at groups_at all_groups frame_of update_at value_at valued_at content_at statement_in claims_on claims_of_group claims_of_groups claims_of proof_said advance views_shown renewed not_its_word outnumbered removes renews nobody
nobody_two = refl

pub premise_rows : Premises
premise_rows = record {
  renewed_judged = renewed_judged;
  renewed_views = renewed_views;
  renewed_chain = renewed_chain;
  renewed_never_said = renewed_never_said;
  outnumbered_judged = outnumbered_judged;
  outnumbered_views = outnumbered_views;
  outnumbered_chain = outnumbered_chain;
  nobody_judged = nobody_judged;
  nobody_one = nobody_one;
  nobody_two = nobody_two;
}
