use Rattle.std.proofs.Common.{ℕ, List, ◌++◌, arith}
use Rattle.std.proofs.Math.Logic.{∥∥₁_elim, ∥∥₁_map}
use Rattle.std.proofs.Props.{props}
use Rattle.replay_run.specs.Midway.{IsMidway}
use Rattle.replay_run.proofs.Ranges.{header_if-once}
use Rattle.replay_run.proofs.Feeding.{ranges_fed, fed_midway}
use Rattle.replay_run.proofs.under_way.Replay.feed.Goals as goal

pub feed-requires : goal.feed-requires
feed-requires c = ∥∥₁_elim c.args.self.real (hlevel props) (λ some. omega (arith, some.1.room, c.requires))

pub begin-requires : goal.begin-requires
begin-requires c = ∥∥₁_elim c.args.self.real (header_if-once c.feed.new.self.header) (λ some.
    ranges_fed c.args.self.reader c.feed.new.self c.args.self.run some.0 c.args.piece.now some.1
    (λ i. omega (arith, c.type_inv.piece i)) c.feed.ensures.stands c.feed.ensures.stopped)

pub run_whole-requires : goal.run_whole-requires
run_whole-requires c = ∥∥₁_map c.args.self.real (λ some.
    let midway : (fed : List ℕ) × IsMidway c.feed.new.self c.in_ok-run.run' fed = (
      some.0 ++ c.args.piece.now,
      fed_midway c.args.self.reader c.feed.new.self c.args.self.run some.0 c.args.piece.now some.1
          (λ i. omega (arith, c.type_inv.piece i)) c.feed.ensures.stands c.feed.ensures.stopped c.in_ok-run.run' c.in_ok-run.ensures,
    ) in
    midway)

pub returns : goal.returns
returns c = λ fed has.
    c.in_ok-run-2.ensures.after (fed ++ c.args.piece.now)
    (fed_midway c.args.self.reader c.feed.new.self c.args.self.run fed c.args.piece.now has
    (λ i. omega (arith, c.type_inv.piece i)) c.feed.ensures.stands c.feed.ensures.stopped c.in_ok-run.run' c.in_ok-run.ensures)
