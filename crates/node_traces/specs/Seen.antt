-- Link, output and input, as their own words describe them.
use Rattle.std.specs.Prelude.{ℕ, List, Option}
use Rattle.node_traces.specs.Outside.{LinkSeen, SinkSeen, SourceSeen}

abbrev pub link_seen : {L : Type 0} → (L → Option (List (ℕ × List ℕ))) → (L → Option (ℕ → List (List ℕ))) → (L → ℕ) → L → LinkSeen
link_seen sent coming faults link = record { sent = sent link; coming = coming link; faults = faults link }

abbrev pub sink_seen : {K : Type 0} → (K → Option (List ℕ)) → (K → ℕ) → K → SinkSeen
sink_seen written faults sink = record { written = written sink; faults = faults sink }

abbrev pub source_seen : {S : Type 0} → (S → Option (List ℕ)) → (S → ℕ) → S → SourceSeen
source_seen left faults source = record { left = left source; faults = faults source }
