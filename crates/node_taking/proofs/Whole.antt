-- One event, from the node at it to the node at its other tasks, or to its stop.
use Rattle.std.proofs.Common.{◌≡◌, ℕ, List, [], ◌∷◌, ◌++◌, Option, None, Some, refl, sym, subst, ◌∙◌}
use Rattle.group_defs.specs.Events.{EventFault, refusal}
use Rattle.journal_defs.specs.Entries.{Event}
use Rattle.journal_rp.specs.declared.journal.Journal.{Journal}
use Rattle.journal_rp.specs.declared.journal.Writing.{Writing}
use Rattle.node_laws.proofs.Soundness.{stays_sound}
use Rattle.sealing_laws.proofs.Passed.{verdict-is}
use Rattle.node_defs.specs.Casts.{Cast, handed, live, outcome_of}
use Rattle.node_defs.specs.Lines.{Stop, NoMemory, refused_line}
use Rattle.node_defs.specs.Lives.{IsSound}
use Rattle.node_defs.specs.Nodes.{Node, Task, Take, Say, Done, Snapper, asks, leaving_of}
use Rattle.node_traces.specs.Stops.{Outset}
use Rattle.node_traces.specs.Outside.{LinkSeen, SinkSeen, SinkWrote, SourceSeen}
use Rattle.node_traces.specs.Service.{Asked}
use Rattle.node_traces.specs.Goes.{Outside, Goes}
use Rattle.node_traces.specs.Went.{Went}
use Rattle.node_traces.proofs.Going.{parts_go_on}
use Rattle.node_traces.proofs.Went.{went_on}
use Rattle.sealing_laws.specs.Running.{Running, AreCountsOf, AreHosts, AreKeyed, IsJournalOf, IsNode, cast_in}
use Rattle.node_taking.specs.Taking.{outside, GoesOnTo, StopsSo}
use Rattle.node_taking.specs.Keeping.{at, grown, letting, Keeps}
use Rattle.node_taking.specs.Telling.{WasLetOut}
use Rattle.node_taking.proofs.Machine.{answers, at-so, refused-so, steps-does}
use Rattle.node_taking.proofs.Still.{still, stops-after, stops-still, Rests}
use Rattle.node_taking.proofs.Ends.{Ends, forgets, says-on}
use Rattle.node_taking.proofs.Reported.{tells-on}

-- a sound node stays so
pub sound-on : (f : Outset) (c : Cast) (snap : Snapper) (most : ℕ) (n m : Node) (x y : Outside) → Goes c snap most n x m y → AreKeyed c f
    → IsSound c f.begins.from n → IsSound c f.begins.from m
sound-on f c snap most n m x y goes keyed sound = subst (λ (k : Node). IsSound c f.begins.from k) (sym goes.becomes)
    (stays_sound c snap f.begins.from n goes.answers (λ p. (keyed p).number) sound)

-- what the running node is now, of the same cast
pub is-now : (f : Outset) (r r' : Running) (seen : Option (List ℕ)) (may_leave : List ℕ → Type 0) (m : Node) (ts : List Task)
    → cast_in r' ≡ cast_in r → AreHosts (cast_in r) r'.kit.now m.now None r'.hosts → IsJournalOf f.head m r'.journal seen may_leave
    → AreKeyed (cast_in r) f → IsSound (cast_in r) f.begins.from (at m ts) → AreCountsOf f.begins m r'.counts
    → IsNode f seen may_leave r' (at m ts) ts
is-now f r r' seen may_leave m ts same hosts journal keyed sound counts = record {
  at = record { runs = refl; opened = refl; leaving = refl; tasks = refl; text = refl; late = refl };
  hosts = subst (λ (c : Cast). AreHosts c r'.kit.now m.now None r'.hosts) (sym same) hosts;
  journal = record { gate = journal.gate; length = journal.length; rest = journal.rest };
  keyed = subst (λ (c : Cast). AreKeyed c f) (sym same) keyed;
  sound = subst (λ (c : Cast). IsSound c f.begins.from (at m ts)) (sym same) sound;
  counts = record { each = counts.each; few = counts.few };
}

module _ {D : Type 0} (seen : D → Option (List ℕ)) (may_leave : D → List ℕ → Type 0) (moment : D → ℕ)
    (left_since : D → ℕ → List ℕ → Type 0) (only_now : (d : D) (image : List ℕ) → left_since d (moment d) image → may_leave d image)
    (snap : Snapper) (most : ℕ) (f : Outset) where
  -- a stop with what was kept
  pub ends-still : (c : Cast) (m : Node) (x y : Outside) (d : D) (why : Stop) → m.opening ≡ [] → Rests (seen d) (may_leave d) f.head m
      → Ends c snap most m x why y m.kept → StopsSo seen may_leave moment left_since c snap most f m x d why y d
  ends-still c m x y d why opened rests ends =
      stops-still seen may_leave moment left_since only_now c snap most f m ends.last x y d why opened rests ends.goes ends.stops ends.keeps

  module _ (r : Running) (n : Node) (p : ℕ) (e : Event) (ts : List Task) where
    abbrev c : Cast
    c = cast_in r

    -- memory ran out for the event
    pub step-forgets : (d : D) (x : Outside) → IsNode f (seen d) (may_leave d) r n (Take p e ∷ ts)
        → StopsSo seen may_leave moment left_since c snap most f n x d NoMemory x d
    step-forgets d x is =
        subst (λ (m : Node). StopsSo seen may_leave moment left_since c snap most f m x d NoMemory x d) (sym (at-so n (Take p e ∷ ts) is.at))
        (ends-still c (at n (Take p e ∷ ts)) x x d NoMemory refl is.journal.rest (forgets c snap most (at n (Take p e ∷ ts)) x refl))

    -- ---- it was refused

    module _ (fault : EventFault) (l : LinkSeen) (s t : SinkSeen) (o : SourceSeen) (h : List Asked) (d : D)
        (is : IsNode f (seen d) (may_leave d) r n (Take p e ∷ ts)) (refused : refusal c.setting (n.now p) (handed e) ≡ Some fault) where
      refused-first : Goes c snap most (at n (Take p e ∷ ts)) (outside l s o h) (at n (Say (refused_line p fault) ∷ ts)) (outside l s o h)
      refused-first = answers c snap most (at n (Take p e ∷ ts)) (at n (Say (refused_line p fault) ∷ ts)) Done (outside l s o h) (outside l s o h)
          (refused-so c snap n p e ts fault (verdict-is c.setting (n.now p) (live c (n.now p) e) ∙ refused))
          (steps-does c most n p e ts (outside l s o h))

      pub refused-on : (r' : Running) → cast_in r' ≡ c → AreHosts c r'.kit.now n.now None r'.hosts
          → IsJournalOf f.head n r'.journal (seen d) (may_leave d) → AreCountsOf f.begins n r'.counts → SinkWrote s t (refused_line p fault)
          → GoesOnTo seen may_leave moment left_since c snap most f n (outside l s o h) d ts (outside l t o h) d r'
      refused-on r' same hosts journal counts wrote =
          let whole = parts_go_on c snap most (at n (Take p e ∷ ts)) (at n (Say (refused_line p fault) ∷ ts)) (at n ts) (outside l s o h)
          (outside l s o h) (outside l t o h) refused-first (says-on c snap most n (refused_line p fault) ts l s t o h wrote) in
          let went = subst (λ (m : Node). Went seen moment left_since c snap most f m (outside l s o h) d (at n ts) (outside l t o h) d)
          (sym (at-so n (Take p e ∷ ts) is.at))
          (still seen may_leave moment left_since only_now c snap most f (at n (Take p e ∷ ts)) (at n ts) (outside l s o h) (outside l t o h) d
          refl is.journal.rest whole) in
          record {
            node = at n ts;
            went = went;
            is = is-now f r r' (seen d) (may_leave d) n ts same hosts journal is.keyed
                (sound-on f c snap most n (at n ts) (outside l s o h) (outside l t o h) went.goes is.keyed is.sound) counts;
            cast = same;
            lines = refl;
            script = refl;
          }

      pub refused-stops : (why : Stop) → Ends c snap most (at n (Say (refused_line p fault) ∷ ts)) (outside l s o h) why (outside l t o h) n.kept
          → StopsSo seen may_leave moment left_since c snap most f n (outside l s o h) d why (outside l t o h) d
      refused-stops why ends =
          let m : Node = at n (Say (refused_line p fault) ∷ ts) in
          subst (λ (k : Node). StopsSo seen may_leave moment left_since c snap most f k (outside l s o h) d why (outside l t o h) d)
          (sym (at-so n (Take p e ∷ ts) is.at))
          (stops-after seen may_leave moment left_since only_now c snap most f (at n (Take p e ∷ ts)) m (outside l s o h) (outside l s o h) (outside l t o h) d d d why
          (still seen may_leave moment left_since only_now c snap most f (at n (Take p e ∷ ts)) m (outside l s o h) (outside l s o h) d refl
          is.journal.rest refused-first)
          (ends-still c m (outside l s o h) (outside l t o h) d why refl is.journal.rest ends))

    -- ---- it was taken

    module _ (k l : LinkSeen) (s t : SinkSeen) (o : SourceSeen) (h g : List Asked) (old new : D)
        (is : IsNode f (seen old) (may_leave old) r n (Take p e ∷ ts)) where
      -- the service is asked whom to suspect, before the other tasks
      abbrev others : List Task
      others = asks p e (outcome_of c (n.now p) e).notes ++ ts

      pub taken-on : (r' : Running) (us : List Task) → us ≡ others → cast_in r' ≡ c → AreHosts c r'.kit.now (grown c n p e).now None r'.hosts
          → Keeps seen may_leave moment left_since c snap most f n p e ts (outside k s o h) old new r'.journal
          → AreCountsOf f.begins (grown c n p e) r'.counts
          → WasLetOut c (grown c n p e).now (leaving_of p (outcome_of c (n.now p) e)) k l h g (SinkWrote s t)
          → GoesOnTo seen may_leave moment left_since c snap most f n (outside k s o h) old us (outside l t o g) new r'
      taken-on r' us left same hosts keeps counts tells =
          let went = went_on seen moment left_since c snap most f n (letting c n p e ts) (at (grown c n p e) others) (outside k s o h)
          (outside k s o h) (outside l t o g) old new new keeps.went
          (still seen may_leave moment left_since only_now c snap most f (letting c n p e ts) (at (grown c n p e) others) (outside k s o h)
          (outside l t o g) new refl keeps.journal.rest (tells-on c snap most n p e ts k l s t o h g tells)) in
          let goes : GoesOnTo seen may_leave moment left_since c snap most f n (outside k s o h) old others (outside l t o g) new r' = record {
            node = at (grown c n p e) others;
            went = went;
            is = is-now f r r' (seen new) (may_leave new) (grown c n p e) others same hosts keeps.journal is.keyed
                (sound-on f c snap most n (at (grown c n p e) others) (outside k s o h) (outside l t o g) went.goes is.keyed is.sound) counts;
            cast = same;
            lines = refl;
            script = refl;
          } in
          subst (λ (vs : List Task). GoesOnTo seen may_leave moment left_since c snap most f n (outside k s o h) old vs (outside l t o g) new r')
          (sym left) goes

      pub taken-stops : (journal : Journal Writing) (why : Stop)
          → Keeps seen may_leave moment left_since c snap most f n p e ts (outside k s o h) old new journal
          → Ends c snap most (letting c n p e ts) (outside k s o h) why (outside l t o g) (grown c n p e).kept
          → StopsSo seen may_leave moment left_since c snap most f n (outside k s o h) old why (outside l t o g) new
      taken-stops journal why keeps ends =
          stops-after seen may_leave moment left_since only_now c snap most f n (letting c n p e ts) (outside k s o h) (outside k s o h)
          (outside l t o g) old new new why keeps.went
          (ends-still c (letting c n p e ts) (outside k s o h) (outside l t o g) new why refl keeps.journal.rest ends)
