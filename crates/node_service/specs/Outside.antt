-- What is around a node.
use Rattle.std.specs.Prelude.{List}
use Rattle.node_traces.specs.Outside.{LinkSeen, SinkSeen, SourceSeen}
use Rattle.node_traces.specs.Service.{Asked}
use Rattle.node_traces.specs.Goes.{Outside}

-- link, output and input as they are seen, and the service's history
abbrev pub outside : LinkSeen → SinkSeen → SourceSeen → List Asked → Outside
outside link sink source service = record { link = link; sink = sink; source = source; service = service }
