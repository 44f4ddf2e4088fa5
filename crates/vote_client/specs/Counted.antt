-- Who is counted with which content.
use Rattle.std.specs.Prelude.{ℕ, List, map}
use Rattle.store_defs.specs.Votes.{Content}
use Rattle.vote_client.specs.declared.vote.Given.{Given}

-- a signer with its content
abbrev pub given : Given → ℕ × Content
given g = (g.signer, record { place = g.place; position = g.position; answer = g.answer.items })

-- in order
abbrev pub counted : List Given → List (ℕ × Content)
counted gs = map given gs
