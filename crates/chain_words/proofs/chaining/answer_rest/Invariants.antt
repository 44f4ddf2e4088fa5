use Rattle.std.proofs.Common.{◌≡◌, ◌+◌, ℕ, List}
use Rattle.std.specs.Io.KnownBytes.{Appends}
use Rattle.chain_words.specs.Places.{answer_at, place}
use Rattle.chain_words.specs.Running.{ReachesBy}
use Rattle.chain_words.proofs.chaining.answer_rest.Given as goal

-- the lines before this one were answered, and no call has failed
abbrev pub invariant-proofs : goal.invariant-proofs
invariant-proofs g l = record {
  shown : (lines : List ℕ)
      × ReachesBy (answer_at (place l.kit (l.last + 1) l.fn.chain l.fn.lines.ahead)) (g.S.Source.left l.fn.input) (g.S.Source.left l.input) lines
      (place l.kit l.number l.chain l.lines.ahead)
      × Appends (g.K.Sink.written l.fn.output) (g.K.Sink.written l.output) lines;
  read : g.S.Source.faults l.input ≡ g.S.Source.faults l.fn.input;
  wrote : g.K.Sink.faults l.output ≡ g.K.Sink.faults l.fn.output;
}
