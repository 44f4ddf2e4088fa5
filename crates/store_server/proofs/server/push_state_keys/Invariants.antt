use Rattle.std.proofs.Common.{◌≡◌, ◌++◌, take}
use Rattle.std.specs.List.{flat_map}
use Rattle.store_defs.specs.Words.{state_key_text}
use Rattle.store_giving.specs.Given.{giver_in, state_key_in}
use Rattle.store_server.proofs.server.push_state_keys.Given as goal

-- the lines of the servers so far
abbrev pub invariant-servers : goal.invariant-servers
invariant-servers l = l.out.items
    ≡ l.fn.out.items ++ flat_map (λ x. state_key_text (giver_in x.giving) (state_key_in x.giving).public) (take l.server-index l.servers)
