use Rattle.std.proofs.Common.{◌≡◌, List}
use Rattle.witness_defs.specs.Lines.{Evidence}
use Rattle.witness_words.specs.Places.{place}
use Rattle.witness_words.proofs.Judged.{Reaches}
use Rattle.witness_words.proofs.judging.judge_all.Given as goal

-- the lines before this one were taken, and no read has failed
abbrev pub invariant-evidence : goal.invariant-evidence
invariant-evidence g l = record {
  taken : (es : List Evidence)
      × Reaches (g.S.Source.left l.fn.input) (g.S.Source.left l.input) es (place l.front.kit l.number l.lines.ahead);
  steady : g.S.Source.faults l.input ≡ g.S.Source.faults l.fn.input;
}
