-- What is gathered from the claims and the updates of an image, one after the other.
use Rattle.std.specs.Prelude.{ℕ, ◌==◌, List, [], ◌∷◌, ◌++◌, Option, Some, None, if◌then◌else◌}
use Rattle.std.specs.Option.{option_or}
use Rattle.message_defs.specs.Statements.{Statement, End, Claim, view_of}
use Rattle.message_defs.specs.Updates.{Update}
use Rattle.claim_lists.specs.Pairs.{with_pair}
use Rattle.ending_rules.specs.declared.notifies.Perceived.{Perceived}
use Rattle.ending_rules.specs.Perceiving.{with_update}

-- with the claim after them, where it is of the view of this number
abbrev pub with_said : ℕ → List Claim → Claim → List Claim
with_said number said c = if view_of c.statement == number then said ++ c ∷ [] else said

abbrev pub with_all_said : ℕ → List Claim → List Claim → List Claim
with_all_said number said [] = said
with_all_said number said (c ∷ cs) = with_all_said number (with_said number said c) cs

-- with each of these pairs kept too, where none of its signer is
abbrev pub with_pairs : List (Claim × Claim) → List (Claim × Claim) → List (Claim × Claim)
with_pairs kept [] = kept
with_pairs kept (e ∷ es) = with_pairs (with_pair kept e.0 e.1) es

-- with the update of the entry, where it is of the view of this number
abbrev pub with_entry : ℕ → Perceived → ℕ × Update → Perceived
with_entry number set e = if e.0 == number then with_update set e.1 else set

abbrev pub with_entries : ℕ → Perceived → List (ℕ × Update) → Perceived
with_entries number set [] = set
with_entries number set (e ∷ es) = with_entries number (with_entry number set e) es

-- the length of an End of the view of this number
abbrev pub end_said : ℕ → Statement → Option ℕ
end_said number (End x k) = if x == number then Some k else None
end_said number _ = None

-- the length of the first End of the view among these
abbrev pub end_in : ℕ → List Claim → Option ℕ
end_in number [] = None
end_in number (c ∷ cs) = option_or (end_said number c.statement) (end_in number cs)
