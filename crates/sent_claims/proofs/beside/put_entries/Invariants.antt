use Rattle.std.proofs.Common.{◌≡◌, drop, true}
use Rattle.sent_claims.specs.Lists.{extended}
use Rattle.sent_claims.specs.Certificates.{all_signed}
use Rattle.sent_claims.specs.Beside.{chosen}
use Rattle.sent_claims.specs.Entries.{places_of}
use Rattle.sent_claims.proofs.beside.put_entries.Given as goal

abbrev pub invariant-entries : goal.invariant-entries
invariant-entries l = extended true l.list (all_signed (chosen l.pool.pool.heard (places_of (drop l.entry-index l.entries))))
    ≡ extended true l.fn.list (all_signed (chosen l.pool.pool.heard (places_of l.entries)))
