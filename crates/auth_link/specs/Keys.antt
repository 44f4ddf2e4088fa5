-- What the keys of a process are.
use Rattle.std.specs.Prelude.{ℕ, List, Option, None, slice_index_or}
use Rattle.auth_link.specs.declared.keys.LinkKeys.{LinkKeys}
use Rattle.link_defs.specs.Datagrams.{Known}

abbrev pub own_number : LinkKeys → ℕ
own_number k = k.me

abbrev pub group_of : LinkKeys → List ℕ
group_of k = k.group

-- the key that is shared with a process
abbrev pub pair_key : LinkKeys → ℕ → Option (List ℕ)
pair_key k p = slice_index_or k.keys p None

-- what the process knows of those that it speaks with
abbrev pub known : LinkKeys → Known
known k = record { me = own_number k; group = group_of k; pair = pair_key k }
