-- Claims that are heard without being judged.
use Rattle.std.specs.Prelude.{List, [], ◌∷◌}
use Rattle.message_defs.specs.Statements.{Claim}
use Rattle.group_defs.specs.Process.{Pool}
use Rattle.image_parts.specs.Heard.{with_own}

-- the claims one after the other, each where none of its signer on its slot is heard
abbrev pub with_all : Pool → List Claim → Pool
with_all h [] = h
with_all h (c ∷ cs) = with_all (with_own h c) cs
