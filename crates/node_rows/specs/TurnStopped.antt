-- One turn, stopped at each of its calls: what is found then.
use Rattle.std.specs.Prelude.{◌≡◌, ℕ, List, [], ◌∷◌, length, map, Some, None, codes, replicate, ◌++◌}
use Rattle.std.specs.Option.{option_to_list}
use Rattle.journal_defs.specs.Entries.{Entry}
use Rattle.node_defs.specs.Casts.{Cast, from_start, entry_for}
use Rattle.journal_defs.specs.Entries.{Submit}
use Rattle.node_defs.specs.Nodes.{Node, Answer, Done, Failed, Came, Said, opens, run}
use Rattle.node_defs.specs.Lives.{Found, fresh, leaves}
use Rattle.node_rows.specs.Outsides.{toy}

unfoldable pub c : Cast
c = toy 100

-- two binds, the host lines, the service, its lines, and the journal finished
abbrev pub opening : List Answer
opening = Done ∷ Done ∷ Done ∷ Said [] [] ∷ Done ∷ Done ∷ []

-- what is found after these answers, of a new journal
abbrev pub found : List Answer → Found
found answers = leaves c fresh (run c (λ n digest. []) (opens c (from_start c) 0 []) answers)

-- how many entries are there for sure, and how many may be
abbrev pub counted : Found → ℕ × ℕ
counted f = (length f.sure, length (option_to_list f.more))

abbrev pub submitted : List Answer
submitted = opening ++ Came (codes "0 submit 61") ∷ []

-- the row: before the line, when the event was stepped, at the append, and from then on through the send and the line
pub record TurnStopped : Type 0 where
  pub counts : map (λ more. counted (found (submitted ++ more)))
      ([] ∷ (Done ∷ []) ∷ (Done ∷ Failed ∷ []) ∷ (Done ∷ Done ∷ []) ∷ (Done ∷ Done ∷ Done ∷ []) ∷ (Done ∷ Done ∷ Done ∷ Done ∷ []) ∷ [])
      ≡ (0, 0) ∷ (0, 1) ∷ (0, 1) ∷ (1, 0) ∷ (1, 0) ∷ (1, 0) ∷ []
