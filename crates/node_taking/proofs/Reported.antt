-- What goes out of a turn and is written, in the node's words.
use Rattle.std.proofs.Common.{◌≡◌, ℕ, List, [], ◌∷◌, ◌++◌, Result, Err, refl, sym, ap, subst, ◌∙◌}
use Rattle.std.specs.Prelude.{flat_map, zip}
use Rattle.std.specs.List.{AllZip}
use Rattle.std.proofs.lemmas.List.{append-nil}
use Rattle.journal_defs.specs.Entries.{Event}
use Rattle.node_defs.specs.Casts.{Cast, outcome_of}
use Rattle.node_defs.specs.Lines.{NoMemory, WriteFailed}
use Rattle.node_defs.specs.Nodes.{Node, Task, Flush, Leaving, Sends, Notes, Answer, Done, Failed, Snapper, answered, asks, leaving_of, run}
use Rattle.node_traces.specs.Ways.{Through}
use Rattle.node_traces.specs.Outside.{LinkSeen, LinkAnswered, SinkSeen, SinkAnswered, SinkWrote, SinkFailed, SourceSeen, SourceAnswered}
use Rattle.node_traces.specs.Service.{Asked, hears}
use Rattle.node_traces.specs.Goes.{Goes}
use Rattle.node_traces.proofs.Going.{parts_go_on}
use Rattle.letting_laws.specs.Letting.{Fits, asked, edge, failed_by, reported_by, HasBegun, LetOut, LetsFirstOut}
use Rattle.letting_laws.proofs.Machine.{each_lets_out}
use Rattle.sealing_laws.specs.Running.{stop as stop_of, Stop as Why}
use Rattle.sealing_laws.specs.Running as whys
use Rattle.node_taking.specs.Taking.{outside}
use Rattle.node_taking.specs.Keeping.{at, grown, letting}
use Rattle.node_taking.specs.Telling.{WasLetOut as Reported, TurnWasLetOut}
use Rattle.node_taking.proofs.Machine.{answers}
use Rattle.node_taking.proofs.Lines.{flush-failed, flushed-so, flushes-does, with_lines}
use Rattle.node_taking.proofs.Ends.{Ends, ends-after, forgets}

sink-still : (c : Cast) (ls : List Leaving) (ws : List Answer) (s : SinkSeen) → AllZip Fits ls ws → SinkAnswered s (asked c ls ws) s
unfolding Through
sink-still c [] [] s each = refl
sink-still c [] (a ∷ ws) s each = absurd each
sink-still c (l ∷ ls) [] s each = absurd each
sink-still c (Sends p q frame ∷ ls) (a ∷ ws) s each = (s, refl, sink-still c ls ws s each.1)
sink-still c (Notes p note ∷ ls) (a ∷ ws) s each = (s, refl, sink-still c ls ws s each.1)

source-still : (c : Cast) (most : ℕ) (ls : List Leaving) (ws : List Answer) (o : SourceSeen) → AllZip Fits ls ws
    → SourceAnswered most o (asked c ls ws) o
unfolding Through
source-still c most [] [] o each = refl
source-still c most [] (a ∷ ws) o each = absurd each
source-still c most (l ∷ ls) [] o each = absurd each
source-still c most (Sends p q frame ∷ ls) (a ∷ ws) o each = (o, refl, source-still c most ls ws o each.1)
source-still c most (Notes p note ∷ ls) (a ∷ ws) o each = (o, refl, source-still c most ls ws o each.1)

-- the first of it goes out
lets-first : (c : Cast) (snap : Snapper) (most : ℕ) (n k : Node) (first others : List Leaving) (ws : List Answer) (l m : LinkSeen) (s : SinkSeen)
    (o : SourceSeen) (h g : List Asked) → LetsFirstOut c snap n first others ws → AllZip Fits first ws → LinkAnswered l (asked c first ws) m
    → g ≡ h ++ hears c n.now (asked c first ws) → k ≡ run c snap n ws → Goes c snap most n (outside l s o h) k (outside m s o g)
lets-first c snap most n k first others ws l m s o h g law each link heard is = record {
  answers = ws;
  becomes = is;
  link = subst (λ cs. LinkAnswered l cs m) (sym law.calls_are) link;
  sink = subst (λ cs. SinkAnswered s cs s) (sym law.calls_are) (sink-still c first ws s each);
  source = subst (λ cs. SourceAnswered most o cs o) (sym law.calls_are) (source-still c most first ws o each);
  service = heard ∙ ap (λ (more : List Asked). h ++ more) (sym law.asked_are);
}

module _ (c : Cast) (snap : Snapper) (most : ℕ) (n : Node) (p : ℕ) (e : Event) (ts : List Task) (k l : LinkSeen) (s t : SinkSeen)
    (o : SourceSeen) (h g : List Asked) where
  -- what goes out of the turn, and the tasks after it
  abbrev out : List Leaving
  out = leaving_of p (outcome_of c (n.now p) e)

  abbrev others : List Task
  others = asks p e (outcome_of c (n.now p) e).notes ++ ts

  -- all of it goes out
  lets-out : (text late : List ℕ) → LetOut c (grown c n p e).now out (edge k [] [] h) (edge l text late g)
      → Goes c snap most (letting c n p e ts) (outside k s o h) (with_lines (at (grown c n p e) (Flush ∷ others)) text late) (outside l s o g)
  lets-out text late lets =
      let law = each_lets_out c snap (letting c n p e ts) out [] lets.answers
      (record { runs = refl; ready = refl; leaving = sym (append-nil out) }) lets.each in
      lets-first c snap most (letting c n p e ts) (with_lines (at (grown c n p e) (Flush ∷ others)) text late) out [] lets.answers k l s o h g law
      lets.each lets.link lets.service
      ((λ i. with_lines (at (grown c n p e) (Flush ∷ others)) (lets.text i) (lets.late i)) ∙ sym law.run_is)

  -- and is written
  pub tells-on : Reported c (grown c n p e).now out k l h g (SinkWrote s t)
      → Goes c snap most (letting c n p e ts) (outside k s o h) (at (grown c n p e) others) (outside l t o g)
  tells-on reported =
      let m : Node = with_lines (at (grown c n p e) (Flush ∷ others)) reported.out.text reported.out.late in
      parts_go_on c snap most (letting c n p e ts) m (at (grown c n p e) others) (outside k s o h) (outside l s o g) (outside l t o g)
      (lets-out reported.out.text reported.out.late reported.out.out)
      (answers c snap most m (at (grown c n p e) others) Done (outside l s o g) (outside l t o g)
      (flushed-so c snap (grown c n p e) reported.out.text reported.out.late others)
      (flushes-does c most (grown c n p e) reported.out.text reported.out.late others Done l s t o g (subst (SinkWrote s t) reported.out.whole reported.wrote)))

  -- the output failed
  write-failed : Reported c (grown c n p e).now out k l h g (SinkFailed s t)
      → Ends c snap most (letting c n p e ts) (outside k s o h) WriteFailed (outside l t o g) (grown c n p e).kept
  write-failed reported =
      let m : Node = with_lines (at (grown c n p e) (Flush ∷ others)) reported.out.text reported.out.late in
      let last : Node = answered c snap m Failed in
      let ends = flush-failed c snap (grown c n p e) reported.out.text reported.out.late others in
      ends-after c snap most (letting c n p e ts) m (outside k s o h) (outside l s o g) (outside l t o g) WriteFailed (grown c n p e).kept
      (lets-out reported.out.text reported.out.late reported.out.out)
      (record {
        last = last;
        stops = ends.0;
        keeps = ends.1;
        goes = answers c snap most m last Failed (outside l s o g) (outside l t o g) refl
            (flushes-does c most (grown c n p e) reported.out.text reported.out.late others Failed l s t o g
            (subst (SinkFailed s t) reported.out.whole reported.wrote));
      })

  -- memory ran out, after the first of it
  forgets-after : HasBegun c (grown c n p e).now out k h l g
      → Ends c snap most (letting c n p e ts) (outside k s o h) NoMemory (outside l s o g) (grown c n p e).kept
  forgets-after some =
      let law = each_lets_out c snap (letting c n p e ts) some.first some.others some.answers
      (record { runs = refl; ready = refl; leaving = some.splits }) some.each in
      let m : Node = record (letting c n p e ts) {
        leaving = some.others;
        text = flat_map reported_by (zip some.first some.answers);
        late = flat_map failed_by (zip some.first some.answers);
      } in
      ends-after c snap most (letting c n p e ts) m (outside k s o h) (outside l s o g) (outside l s o g) NoMemory (grown c n p e).kept
      (lets-first c snap most (letting c n p e ts) m some.first some.others some.answers k l s o h g law some.each some.link some.service
      (sym law.run_is))
      (forgets c snap most m (outside l s o g) refl)

  pub tells-stops : (T : Type 0) (why : Why) → TurnWasLetOut (let r : Result T Why = Err why in r) c (grown c n p e).now out k l h g s t
      → Ends c snap most (letting c n p e ts) (outside k s o h) (stop_of why) (outside l t o g) (grown c n p e).kept
  tells-stops T whys.NoMemory so =
      subst (λ (z : SinkSeen). Ends c snap most (letting c n p e ts) (outside k s o h) NoMemory (outside l z o g) (grown c n p e).kept) so.1
      (forgets-after so.0)
  tells-stops T whys.WriteFailed so = write-failed so
  tells-stops T _ bad = absurd bad
