use Rattle.std.proofs.Common.{◌∙◌, ◌-◌, ◌/◌, ap, List, ℕ, length}
use Rattle.std.specs.Prelude.{nat_lt}
use Rattle.store_defs.specs.Votes.{Vote}
use Rattle.vote_client.proofs.vote.Vote.is_enough.Goals as goal

pub returns : goal.returns
returns c =
    let few = c.faulty.ensures.value ∙ ap (λ (ms : List ℕ). (length ms - 1) / 3)
    (c.members-members.ensures.value ∙ ap (λ (v : Vote). v.view.members) c.self.view_is) in
    λ i. nat_lt (few i) (c.voters-many.ensures i)
