-- What is said of the hosted processes as a node begins.
use Rattle.std.proofs.Common.{◌≡◌, ℕ, ◌+◌, List, ◌++◌, length, Option, sym, ap, ◌∙◌}
use Rattle.std.specs.List.{flat_map}
use Rattle.kit_defs.specs.Kits.{Kit}
use Rattle.journal_defs.specs.Entries.{Entry}
use Rattle.node_defs.specs.Lines.{host_line}
use Rattle.node_defs.specs.Casts.{Cast, Beginning, entries_of}
use Rattle.node_defs.specs.Nodes.{at_first, entries_in, host_lines, opens}
use Rattle.opening_laws.specs.Opening.{HasToOpen, binds}
use Rattle.opening_laws.proofs.EntriesRead.{each_reads_on}
use Rattle.restored_hosts.specs.Below.{Hosts, Counts, count_in}
use Rattle.node_opening.specs.Reading.{HasRead, node_after}
use Rattle.node_opening.proofs.Each.{lines_of}
use Rattle.node_opening.proofs.Presented.{to_tell}

module _ (c : Cast) (kit : Kit) (head : List ℕ) (b : Beginning) (lines : ℕ) (seen : Option (List ℕ)) (es : List Entry) (gate : ℕ) (hosts : Hosts) (counts : Counts)
    (read : HasRead c kit head b lines seen es gate hosts counts) where
  counts-are : (p : ℕ) → entries_in b (node_after c b lines es) p ≡ count_in counts p
  counts-are p = ap (λ (ks : List Entry). b.before p + length (entries_of p ks)) (each_reads_on c (at_first b lines) es read.runs).kept
      ∙ sym (read.counted p)

  lines-are : host_lines c b (node_after c b lines es) ≡ lines_of (node_after c b lines es).now counts c.hosted
  lines-are = λ i. flat_map (λ p. host_line ((node_after c b lines es).now p) (counts-are p i)) c.hosted

  -- with these lines the node is to open
  pub to-open : (text : List ℕ) → text ≡ lines_of (node_after c b lines es).now counts c.hosted
      → HasToOpen (opens c b lines es) (binds c c.hosted ++ to_tell text)
  to-open text reported = record {
    runs = read.runs;
    opening = ap (λ t. binds c c.hosted ++ to_tell t) (lines-are ∙ sym reported);
  }
