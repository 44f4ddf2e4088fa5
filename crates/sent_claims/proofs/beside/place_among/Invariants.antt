use Rattle.std.proofs.Common.{◌≡◌, ◌+◌, drop}
use Rattle.sent_claims.specs.Entries.{first_above}
use Rattle.sent_claims.proofs.beside.place_among.Given as goal

abbrev pub invariant-entries : goal.invariant-entries
invariant-entries l = first_above l.numbers l.entries ≡ l.i + first_above l.numbers (drop l.i l.entries)
