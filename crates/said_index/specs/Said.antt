-- What was said.
use Rattle.std.specs.Prelude.{ℕ, Bool, List}
use Rattle.std.specs.List.{list_any}
use Rattle.std.specs.Str.{bytes_eq}
use Rattle.stmt_codec.specs.declared.own.OwnClaim.{OwnClaim}
use Rattle.said_index.specs.Among.{is_among}
use Rattle.said_index.specs.declared.index.SaidIndex.{SaidIndex}

-- a statement with these bytes was said
abbrev pub is_said : List ℕ → SaidIndex → Bool
is_said x s = is_among x s.spelled

-- one of these claims says it
abbrev pub is_among_claims : List ℕ → List OwnClaim → Bool
is_among_claims x claims = list_any (λ c. bytes_eq x c.statement) claims
