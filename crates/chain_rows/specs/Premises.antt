-- No premise of the laws of chains can be dropped: each family lacks one, and its chain is not the group's or forks. Of the third, no process
-- is correct, so that nobody has installed the genesis.
use Rattle.std.specs.Prelude.{◌≡◌, ℕ, true, false, List, [], ◌∷◌, map}
use Rattle.std.specs.List.{list_any}
use Rattle.message_defs.specs.Updates.{Add, Renew}
use Rattle.message_defs.specs.Statements.{Ready, same_statement}
use Rattle.message_defs.specs.Claims.{Claims}
use Rattle.group_defs.specs.Views.{View}
use Rattle.group_defs.specs.Process.{Setting, views_of}
use Rattle.group_defs.specs.Events.{Event, Hand, RenewView, Tick, Turn}
use Rattle.group_defs.specs.Accounts.{bounded}
use Rattle.group_defs.specs.Family.{Family, accounts, ends, numbers, honest, statements_of}
use Rattle.chain_defs.specs.Advance.{views_shown}
use Rattle.chain_rows.specs.Scripts.{s, by, value}

abbrev pub turn : ℕ → Event → Turn
turn left e = record { event = e; allowance = left; signer = λ used body. [] }

abbrev pub next_to : List ℕ → View
next_to members = record { number = 1; members = members }

-- ---- a proof that is not a correct process's own word: the only member has renewed its view, and a valid Ready says that it adds another

abbrev pub alone : Setting
alone = record s { genesis = record { number = 0; members = 0 ∷ [] } }

unfoldable pub renewed : Family
renewed = record {
  setting = alone;
  correct = record { me = 0; batch_limit = 16; turns = turn 100 RenewView ∷ turn 96 Tick ∷ [] } ∷ [];
}

unfoldable pub not_its_word : List ℕ
not_its_word = 1 ∷ 2 ∷ 1 ∷ 0 ∷ 8 ∷ 11 ∷ 0 ∷ 0 ∷ 0 ∷ 2 ∷ 1 ∷ 0 ∷ 0 ∷ 1 ∷ 0 ∷ 0 ∷ 0 ∷ []

-- ---- a view that is not bounded: three of four members lie, and one Ready of each reached the correct one

unfoldable pub outnumbered : Family
outnumbered = record {
  setting = s;
  correct = record {
    me = 0;
    batch_limit = 16;
    turns = turn 100 (Hand 1 (Claims (by 1 (Ready 0 0 (value Renew 0)) ∷ by 2 (Ready 0 0 (value Renew 0)) ∷ by 3 (Ready 0 0 (value Renew 0)) ∷ []))) ∷ [];
  } ∷ [];
}

unfoldable pub removes : List ℕ
removes = 1 ∷ 2 ∷ 3 ∷ 0 ∷ 8 ∷ 11 ∷ 0 ∷ 0 ∷ 1 ∷ 1 ∷ 0 ∷ 0 ∷ 0 ∷ 1 ∷ 1 ∷ 0 ∷ 0 ∷ 0 ∷ 8 ∷ 11 ∷ 0 ∷ 0 ∷ 1 ∷ 1 ∷ 0 ∷ 0 ∷ 0 ∷ 1 ∷ 2 ∷ 0 ∷ 0 ∷ 0 ∷ 8 ∷ 11 ∷ 0 ∷ 0 ∷ 1 ∷ 1 ∷ 0 ∷ 0 ∷ 0 ∷ 1 ∷ 3 ∷ 0 ∷ 0 ∷ []

unfoldable pub renews : List ℕ
renews = 1 ∷ 2 ∷ 3 ∷ 0 ∷ 8 ∷ 11 ∷ 0 ∷ 0 ∷ 0 ∷ 3 ∷ 0 ∷ 0 ∷ 0 ∷ 1 ∷ 1 ∷ 0 ∷ 0 ∷ 0 ∷ 8 ∷ 11 ∷ 0 ∷ 0 ∷ 0 ∷ 3 ∷ 0 ∷ 0 ∷ 0 ∷ 1 ∷ 2 ∷ 0 ∷ 0 ∷ 0 ∷ 8 ∷ 11 ∷ 0 ∷ 0 ∷ 0 ∷ 3 ∷ 0 ∷ 0 ∷ 0 ∷ 1 ∷ 3 ∷ 0 ∷ 0 ∷ []

-- ---- nobody is correct

unfoldable pub nobody : Family
nobody = record { setting = s; correct = [] }

-- the row: what the definitions give
pub record Premises : Type 0 where
  pub renewed_judged : honest renewed ∷ bounded (accounts renewed) (numbers renewed) ∷ [] ≡ true ∷ true ∷ []
  pub renewed_views : map views_of (ends renewed) ≡ (alone.genesis ∷ next_to (0 ∷ []) ∷ []) ∷ []
  pub renewed_chain : views_shown alone alone.genesis (not_its_word ∷ []) ≡ next_to (0 ∷ 1 ∷ []) ∷ []
  pub renewed_never_said : map (λ p. list_any (same_statement (Ready 0 0 (value (Add 1) 0))) (statements_of p)) (ends renewed) ≡ false ∷ []
  pub outnumbered_judged : honest outnumbered ∷ bounded (accounts outnumbered) (numbers outnumbered) ∷ [] ≡ true ∷ false ∷ []
  pub outnumbered_views : map views_of (ends outnumbered) ≡ (s.genesis ∷ next_to (0 ∷ 1 ∷ 2 ∷ 3 ∷ []) ∷ []) ∷ []
  pub outnumbered_chain : views_shown s s.genesis (removes ∷ []) ≡ next_to (1 ∷ 2 ∷ 3 ∷ []) ∷ []
  pub nobody_judged : honest nobody ∷ bounded (accounts nobody) (numbers nobody) ∷ [] ≡ true ∷ true ∷ []
  pub nobody_one : views_shown s s.genesis (renews ∷ []) ≡ next_to (0 ∷ 1 ∷ 2 ∷ 3 ∷ []) ∷ []
  pub nobody_two : views_shown s s.genesis (removes ∷ []) ≡ next_to (1 ∷ 2 ∷ 3 ∷ []) ∷ []
