-- A line for the service, answer by answer: what it says is written, what it sends goes out, and then the lines of failed sends are written.
use Rattle.std.proofs.Common.{◌≡◌, ℕ, List, [], ◌∷◌, ◌++◌, append_assoc, Result, Ok, Err, refl, sym, subst, ◌∙◌}
use Rattle.std.specs.Prelude.{IfErr, OnOk}
use Rattle.node_defs.specs.Casts.{Cast}
use Rattle.node_defs.specs.Lines.{Stop, NoMemory, BadLine}
use Rattle.node_defs.specs.Nodes.{Node, Task, Flush, Say, Word, Words, Answer, Done, Failed, Said, Snapper, answered, post_tasks}
use Rattle.node_traces.specs.Outside.{LinkSeen, SinkSeen, SinkWrote, SourceSeen}
use Rattle.node_traces.specs.Service.{Asked, HeardBy, one_asked}
use Rattle.node_traces.specs.Goes.{Outside, Goes}
use Rattle.node_traces.proofs.Going.{parts_go_on}
use Rattle.letting_laws.specs.Letting.{edge, HasBegun, IsPosting, LetOut, sends_of}
use Rattle.letting_laws.proofs.Posting.{each_posts}
use Rattle.script_laws.specs.Script.{HasToDo, StopsWith}
use Rattle.script_laws.proofs.Service.{asks_the_outside}
use Rattle.node_receiving.specs.Hosts.{IsAt}
use Rattle.node_receiving.specs.Stops.{stop as stop_of, Stop as Why}
use Rattle.node_receiving.specs.Stops as whys
use Rattle.node_receiving.specs.Taking.{WritesText, at, outside}
use Rattle.node_receiving.proofs.Handed.{Ends, answers, at-so, ends-after, flush-failed, flushed-so, flushes-does, forgets, says-on, says-stops, with_lines}
use Rattle.node_serving.specs.Serving.{HasNoAnswer}

module _ (c : Cast) (snap : Snapper) (most : ℕ) (n : Node) (p : ℕ) (line : List ℕ) (ts : List Task) (l : LinkSeen) (s : SinkSeen)
    (o : SourceSeen) (h : List Asked) (is : IsAt n (Word p line ∷ ts)) where
  -- the node, about to ask, and what is around it
  abbrev asking : Node
  asking = at n (Word p line ∷ ts)

  abbrev around : Outside
  around = outside l s o h

  -- the history, once the service has answered
  abbrev pub heard_of : Answer → List Asked
  heard_of a = h ++ one_asked c (n.now p ∷ []) (Words p line) a

  -- ---- the service has no answer

  pub refuses : StopsWith c snap most n around (BadLine n.lines) (outside l s o (heard_of Done))
  refuses = (asks_the_outside c snap most n around).refused p line ts
      (record { runs = is.runs; opened = is.opened; leaving = is.leaving; tasks = is.tasks })

  pub forgets-it : StopsWith c snap most n around NoMemory around
  forgets-it =
      let ends = forgets c snap most n around is.runs in
      record { last = ends.last; stops = ends.stops; kept = ends.keeps; goes = ends.goes }

  -- ---- after other answers

  stops-from : (m : Node) (y z : Outside) (why : Stop) → Goes c snap most asking around m y → Ends c snap most m y why z n.kept
      → StopsWith c snap most n around why z
  stops-from m y z why first ends =
      let whole = ends-after c snap most asking m around y z why n.kept first ends in
      record {
        last = whole.last;
        stops = whole.stops;
        kept = whole.keeps;
        goes = subst (λ (k : Node). Goes c snap most k around whole.last z) (sym (at-so n (Word p line ∷ ts) is)) whole.goes;
      }

  module _ (text : List ℕ) (letters : List (ℕ × List ℕ)) where
    abbrev heard_now : List Asked
    heard_now = heard_of (Said text letters)

    -- what is left, once its text is written
    abbrev to_post : List Task
    to_post = (post_tasks p letters ++ Flush ∷ []) ++ ts

    says-it : Goes c snap most asking around (at n (Say text ∷ to_post)) (outside l s o heard_now)
    says-it = (asks_the_outside c snap most asking around).said p line ts text letters
        (record { runs = refl; opened = refl; leaving = refl; tasks = refl })

    -- its text is not written
    pub says-no-more : (T : Type 0) (why : Why) (t : SinkSeen) → WritesText (let r : Result T Why = Err why in r) text s t
        → StopsWith c snap most n around (stop_of why) (outside l t o heard_now)
    says-no-more T why t said =
        stops-from (at n (Say text ∷ to_post)) (outside l s o heard_now) (outside l t o heard_now) (stop_of why) says-it
        (says-stops T why c snap most n text to_post l s t o heard_now said)

    module _ (t : SinkSeen) (wrote : SinkWrote s t text) where
      writes-it : Goes c snap most asking around (at n to_post) (outside l t o heard_now)
      writes-it = parts_go_on c snap most asking (at n (Say text ∷ to_post)) (at n to_post) around (outside l s o heard_now)
          (outside l t o heard_now) says-it (says-on c snap most n text to_post l s t o heard_now wrote)

      is-posting : IsPosting (at n to_post) p letters (Flush ∷ ts)
      is-posting =
          record { runs = refl; ready = refl; nothing = refl; tasks = append_assoc (post_tasks p letters) (Flush ∷ []) ts }

      -- memory runs out after the first of its letters
      pub posts-no-more : (k : LinkSeen) → HasBegun c n.now (sends_of p letters) l [] k []
          → StopsWith c snap most n around NoMemory (outside k t o heard_now)
      posts-no-more k begun =
          let posts = each_posts c snap most (at n to_post) p letters (Flush ∷ ts) (outside l t o heard_now) is-posting in
          let part = posts.some n.now [] [] k begun in
          stops-from (at n to_post) (outside l t o heard_now) (outside k t o heard_now) NoMemory writes-it
          (record { last = part.last; stops = part.stops; keeps = part.kept; goes = part.goes })

      module _ (k : LinkSeen) (late : List ℕ) (out : LetOut c n.now (sends_of p letters) (edge l [] [] []) (edge k [] late [])) where
        -- the node, with these lines of failed sends
        abbrev flushing : Node
        flushing = with_lines (at n (Flush ∷ ts)) [] late

        posts-it : Goes c snap most asking around flushing (outside k t o heard_now)
        posts-it =
            let posts = each_posts c snap most (at n to_post) p letters (Flush ∷ ts) (outside l t o heard_now) is-posting in
            parts_go_on c snap most asking (at n to_post) flushing around (outside l t o heard_now) (outside k t o heard_now) writes-it
            (posts.all n.now [] [] k late out)

        flush-stops : (T : Type 0) (why : Why) (u : SinkSeen) → WritesText (let r : Result T Why = Err why in r) late t u
            → Ends c snap most flushing (outside k t o heard_now) (stop_of why) (outside k u o heard_now) n.kept
        flush-stops T whys.NoMemory u same =
            subst (λ (z : SinkSeen). Ends c snap most flushing (outside k t o heard_now) NoMemory (outside k z o heard_now) n.kept) same
            (forgets c snap most flushing (outside k t o heard_now) refl)
        flush-stops T whys.WriteFailed u failed =
            let ends = flush-failed c snap n [] late ts in
            record {
              last = answered c snap flushing Failed;
              stops = ends.0;
              keeps = ends.1;
              goes = answers c snap most flushing (answered c snap flushing Failed) Failed (outside k t o heard_now) (outside k u o heard_now)
                  refl (flushes-does c most n [] late ts Failed k t u o heard_now failed);
            }
        flush-stops T _ u bad = absurd bad

        -- the lines of failed sends are not written
        pub flushes-no-more : (T : Type 0) (why : Why) (u : SinkSeen) → WritesText (let r : Result T Why = Err why in r) late t u
            → StopsWith c snap most n around (stop_of why) (outside k u o heard_now)
        flushes-no-more T why u said =
            stops-from flushing (outside k t o heard_now) (outside k u o heard_now) (stop_of why) posts-it (flush-stops T why u said)

        -- or they are
        pub flushes-it : (u : SinkSeen) → SinkWrote t u late
            → Goes c snap most n around (record n { tasks = ts }) (outside k u o heard_now)
        flushes-it u wrote =
            let whole = parts_go_on c snap most asking flushing (at n ts) around (outside k t o heard_now) (outside k u o heard_now) posts-it
            (answers c snap most flushing (at n ts) Done (outside k t o heard_now) (outside k u o heard_now) (flushed-so c snap n [] late ts)
            (flushes-does c most n [] late ts Done k t u o heard_now wrote)) in
            let back : at n ts ≡ record n { tasks = ts } = λ i. record n {
              stopped = sym is.runs i;
              opening = sym is.opened i;
              leaving = sym is.leaving i;
              tasks = ts;
              text = sym is.text i;
              late = sym is.late i;
            } in
            subst (λ (m : Node). Goes c snap most n around m (outside k u o heard_now)) back
            (subst (λ (m : Node). Goes c snap most m around (at n ts) (outside k u o heard_now)) (sym (at-so n (Word p line ∷ ts) is)) whole)

  -- ---- as the code answers, and the service has it so

  module _ {V : Type 0} (heard : V → List Asked → Type 0) (service : V) where
    pub none-stops : (number : ℕ) (why : Stop) → n.lines ≡ number → HasNoAnswer heard service h c (n.now p) p line number why
        → HeardBy heard service (λ i. StopsWith c snap most n around why (outside l s o i))
    none-stops number (BadLine m) same none = record {
      history = heard_of Done;
      has = none.1;
      holds = subst (λ (w : ℕ). StopsWith c snap most n around (BadLine w) (outside l s o (heard_of Done))) (same ∙ sym none.0) refuses;
    }
    none-stops number NoMemory same none = record { history = h; has = none; holds = forgets-it }
    none-stops number _ same none = absurd none

    module _ (text : List ℕ) (letters : List (ℕ × List ℕ)) (has : heard service (heard_of (Said text letters))) where
      pub said-stops : (why : Why) (t : SinkSeen) → WritesText (let r : Result (Unit {0}) Why = Err why in r) text s t
          → HeardBy heard service (λ i. StopsWith c snap most n around (stop_of why) (outside l t o i))
      said-stops why t said =
          record { history = heard_of (Said text letters); has = has; holds = says-no-more text letters (Unit {0}) why t said }

      pub posted-stops : (t : SinkSeen) (k : LinkSeen) → SinkWrote s t text → HasBegun c n.now (sends_of p letters) l [] k []
          → HeardBy heard service (λ i. StopsWith c snap most n around NoMemory (outside k t o i))
      posted-stops t k wrote begun =
          record { history = heard_of (Said text letters); has = has; holds = posts-no-more text letters t wrote k begun }

      module _ (t u : SinkSeen) (k : LinkSeen) (late : List ℕ) (wrote : SinkWrote s t text)
          (out : LetOut c n.now (sends_of p letters) (edge l [] [] []) (edge k [] late [])) where
        pub served : (r : Result (Unit {0}) Why) → WritesText r late t u
            → OnOk r (HeardBy heard service (λ i. Goes c snap most n around (record n { tasks = ts }) (outside k u o i)))
        served (Ok x) said = record {
          history = heard_of (Said text letters);
          has = has;
          holds = flushes-it text letters t wrote k late out u said;
        }
        served (Err why) said = tt

        pub served-stops : (r : Result (Unit {0}) Why) → WritesText r late t u
            → IfErr r (λ why. HeardBy heard service (λ i. StopsWith c snap most n around (stop_of why) (outside k u o i)))
        served-stops (Ok x) said = tt
        served-stops (Err why) said = record {
          history = heard_of (Said text letters);
          has = has;
          holds = flushes-no-more text letters t wrote k late out (Unit {0}) why u said;
        }
