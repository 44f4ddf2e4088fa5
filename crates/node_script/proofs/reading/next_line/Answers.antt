use Rattle.std.proofs.Common.{List, ℕ, arith, subst, sym}
use Rattle.std.proofs.lemmas.Result.{err_from_is_err_and}
use Rattle.node_traces.specs.Seen.{link_seen, sink_seen}
use Rattle.node_input.specs.Reads.{Asks, IsFor}
use Rattle.node_input.specs.Sources.{SeenAs}
use Rattle.node_input.specs.Texts.{line as line_of}
use Rattle.node_snapping.specs.Hosts.{cast_in}
use Rattle.node_snapping.specs.Stops.{stop as stop_of}
use Rattle.node_snapping.specs.Snapping.{snapper}
use Rattle.node_script.proofs.Carried.{line-result, line-stopped}
use Rattle.node_script.proofs.NoDisk.{asked-cause}
use Rattle.node_script.proofs.Ending.{asked-none, forgets-here, not-all, untold, untold-is}
use Rattle.node_script.proofs.reading.next_line.Goals as goal

pub returns-in_err-number-clause-stops : goal.returns-in_err-number-clause-stops
returns-in_err-number-clause-stops g c = λ reported f k h n some has seen is lines script.
    let p = err_from_is_err_and c.from_residual.result c.from_residual.ensures.1 in
    rw (p.1, p.2) (record {
      history = h;
      has = has;
      holds = forgets-here g.D.Disk.seen g.D.Disk.may_leave g.D.Disk.moment g.D.Disk.left_since
          (λ d image left. g.D.Disk.only_now d image left) (snapper f.head f.begins reported) c.args.most f c.args.lines.now.ahead (g.S.Source.left c.args.input.now)
          (g.S.Source.faults c.args.input.now) c.args.running n
          (link_seen g.L.Link.sent g.L.Link.coming g.L.Link.faults c.args.link.now)
          (sink_seen g.K.Sink.written g.K.Sink.faults c.args.output.now) k h c.args.disk.now is seen;
    })

pub returns-in_err-said-clause-stops : goal.returns-in_err-said-clause-stops
returns-in_err-said-clause-stops g c = λ reported f k h n some has seen is lines script.
    let p = err_from_is_err_and c.from_residual-in_err-said.result c.from_residual-in_err-said.ensures.1 in
    let none = c.in_err-said.ensures.none k seen in
    rw (p.1, p.2) (record {
      history = h;
      has = has;
      holds = (
        none.0,
        asked-none g.D.Disk.seen g.D.Disk.may_leave g.D.Disk.moment g.D.Disk.left_since (λ d image left. g.D.Disk.only_now d image left)
            (snapper f.head f.begins reported) c.args.most f none.0
            (g.S.Source.left c.read_next.new.input) (g.S.Source.faults c.read_next.new.input) c.args.running n
            (link_seen g.L.Link.sent g.L.Link.coming g.L.Link.faults c.args.link.now)
            (sink_seen g.K.Sink.written g.K.Sink.faults c.args.output.now) k h c.args.disk.now is c.numbers.result c.in_ok-number.number
            (stop_of c.in_err-said.field-0.0) c.numbers.ensures (omega (arith, c.in_ok-number.ensures, lines)) none.1,
      );
    })

pub returns-in_err-said-clause-cause : goal.returns-in_err-said-clause-cause
returns-in_err-said-clause-cause g c =
    let p = err_from_is_err_and c.from_residual-in_err-said.result c.from_residual-in_err-said.ensures.1 in
    let none = c.in_err-said.ensures.none (untold (g.S.Source.faults c.args.input.now)) (untold-is _ _ _) in
    rw (p.1, p.2) (asked-cause c.numbers.result c.args.most c.in_ok-number.number (g.D.Disk.faults c.args.disk.now) _ none.1.source
    c.in_err-said.field-0.0
    none.1.holds)

pub carry_out-requires-clause-asks : goal.carry_out-requires-clause-asks
carry_out-requires-clause-asks g c =
    subst (λ (ps : List ℕ). IsFor ps c.line.result.now (line_of c.in_ok-said.said)) c.numbers.ensures
    (subst (λ (line : List ℕ). IsFor c.numbers.result line (line_of c.in_ok-said.said)) (sym c.line.ensures) c.in_ok-said.ensures.within)

pub returns-clause-goes_on : goal.returns-clause-goes_on
returns-clause-goes_on g c = λ reported f k h n some has seen is lines script.
    let ahead = c.read_next.new.lines.ahead in
    let left = g.S.Source.left c.read_next.new.input in
    let faults = g.S.Source.faults c.read_next.new.input in
    let way = subst (λ (line : List ℕ). SeenAs (λ o. Asks c.args.most c.numbers.result k o line (line_of c.in_ok-said.said)) ahead left faults)
    (sym c.line.ensures) (c.in_ok-said.ensures.asks k seen) in
    line-result g.D.Disk.seen g.D.Disk.may_leave g.D.Disk.moment g.D.Disk.left_since (λ d image left. g.D.Disk.only_now d image left)
    (snapper f.head f.begins reported (cast_in c.args.running)) c.args.most f c.args.running n
    (link_seen g.L.Link.sent g.L.Link.coming g.L.Link.faults c.args.link.now)
    (link_seen g.L.Link.sent g.L.Link.coming g.L.Link.faults c.carry_out.new.link)
    (sink_seen g.K.Sink.written g.K.Sink.faults c.args.output.now) (sink_seen g.K.Sink.written g.K.Sink.faults c.carry_out.new.output) k h
    c.args.disk.now c.carry_out.new.disk c.numbers.result c.in_ok-number.number c.line.result.now (line_of c.in_ok-said.said) ahead left faults is
    c.numbers.ensures (not-all c.args.count n.script c.requires.few script) (omega (arith, c.in_ok-number.ensures, lines)) way
    g.V.Service.heard c.carry_out.new.service c.carry_out.result
    (λ o w at number. c.carry_out.ensures.goes_on reported c.args.most f o h w some has at number)

pub returns-clause-stops : goal.returns-clause-stops
returns-clause-stops g c = λ reported f k h n some has seen is lines script.
    let ahead = c.read_next.new.lines.ahead in
    let left = g.S.Source.left c.read_next.new.input in
    let faults = g.S.Source.faults c.read_next.new.input in
    let way = subst (λ (line : List ℕ). SeenAs (λ o. Asks c.args.most c.numbers.result k o line (line_of c.in_ok-said.said)) ahead left faults)
    (sym c.line.ensures) (c.in_ok-said.ensures.asks k seen) in
    line-stopped g.D.Disk.seen g.D.Disk.may_leave g.D.Disk.moment g.D.Disk.left_since (λ d image left. g.D.Disk.only_now d image left)
    (snapper f.head f.begins reported (cast_in c.args.running)) c.args.most f c.args.running n
    (link_seen g.L.Link.sent g.L.Link.coming g.L.Link.faults c.args.link.now)
    (link_seen g.L.Link.sent g.L.Link.coming g.L.Link.faults c.carry_out.new.link)
    (sink_seen g.K.Sink.written g.K.Sink.faults c.args.output.now) (sink_seen g.K.Sink.written g.K.Sink.faults c.carry_out.new.output) k h
    c.args.disk.now c.carry_out.new.disk c.numbers.result c.in_ok-number.number c.line.result.now (line_of c.in_ok-said.said) ahead left faults is
    c.numbers.ensures (not-all c.args.count n.script c.requires.few script) (omega (arith, c.in_ok-number.ensures, lines)) way
    g.V.Service.heard c.carry_out.new.service c.carry_out.result
    (λ o w at number. c.carry_out.ensures.stops reported c.args.most f o h w some has at number)
