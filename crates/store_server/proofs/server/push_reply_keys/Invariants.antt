use Rattle.std.proofs.Common.{◌≡◌, ◌++◌, take}
use Rattle.std.specs.List.{flat_map}
use Rattle.store_defs.specs.Words.{reply_key_text}
use Rattle.store_replies.specs.Replying.{key_in, me_in}
use Rattle.store_server.proofs.server.push_reply_keys.Given as goal

-- the lines of the servers so far
abbrev pub invariant-servers : goal.invariant-servers
invariant-servers l = l.out.items
    ≡ l.fn.out.items ++ flat_map (λ x. reply_key_text (me_in x.replies) (key_in x.replies).public) (take l.server-index l.servers)
