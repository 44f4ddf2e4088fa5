use Rattle.std.proofs.Common.{◌≡◌}
use Rattle.line_input.specs.Places.{Leads}
use Rattle.store_defs.specs.Asking.{most_replies}
use Rattle.store_asking.specs.Places.{vote_at, vote_place}
use Rattle.store_asking.specs.Counts.{place_of}
use Rattle.store_asking.proofs.counting.read_replies.Given as goal

-- the vote is the one from the next line on, and no call has failed
abbrev pub invariant-replies : goal.invariant-replies
invariant-replies g l = record {
  leads : Leads (vote_at (vote_place l.kit l.keys l.first most_replies l.fn.vote l.fn.lines.ahead))
      (g.S.Source.left l.fn.input) (g.S.Source.left l.input) (vote_at (place_of l.kit l.keys l.count l.lines.ahead));
  steady : g.S.Source.faults l.input ≡ g.S.Source.faults l.fn.input;
}

abbrev pub decreases-replies : goal.decreases-replies
decreases-replies g l = l.count.left
