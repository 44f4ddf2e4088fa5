-- What the service of a run answers is what the servers of its processes write.
use Rattle.std.proofs.Common.{◌≡◌, ◌⊎◌, inl, inr, ℕ, List, [], ◌∷◌, ◌++◌, map, Bool, true, refl, sym, ap, ◌∙◌, subst, Option, Some, None}
use Rattle.std.specs.Prelude.{◌==◌, if◌then◌else◌, option_map}
use Rattle.std.specs.Option.{option_map_or, option_to_list}
use Rattle.std.proofs.lemmas.Bool.{eq-eqb}
use Rattle.std.proofs.lemmas.List.{append-nil, append_assoc}
use Rattle.kit_defs.specs.Kits.{Host, IsKit}
use Rattle.group_defs.specs.Process.{Delivered, Process}
use Rattle.group_defs.specs.Events.{Delivers, Note}
use Rattle.node_defs.specs.Casts.{Cast, from_start, setting_of}
use Rattle.node_defs.specs.Lines.{Stop}
use Rattle.node_defs.specs.Lives.{IsSound}
use Rattle.node_defs.specs.Nodes.{Answer, Append, Ask, Bind, Call, Finish, Flush, Get, Greet, Leaving, Mark, Node, Opening, Post, Rests, Said, Say, Sends, Serve, Snapper, Take, Task, Notes, NotesOf, Word, Words, answered, call_of, call_of_leaving, call_of_opening, call_of_tasks, run}
use Rattle.node_traces.specs.Service.{Asked, asked_by, asking}
use Rattle.node_traces.proofs.Service.{asked-in-a-row}
use Rattle.node_laws.proofs.Fitting.{start-numbered}
use Rattle.node_laws.proofs.Soundness.{answered-sound}
use Rattle.store_defs.specs.Holding.{payloads_of}
use Rattle.store_defs.specs.Records.{Reply, StateRecord}
use Rattle.store_defs.specs.Serving.{Given, ReplyWord, Server, Signed, ReportedReply, after_notes, reply_to, state_given, reported_of}
use Rattle.store_defs.specs.Services.{noted_text, place_of, worded}
use Rattle.store_defs.specs.Words as words
use Rattle.store_defs.specs.Words.{Give, given_text, reported_text}
use Rattle.following_laws.specs.Runs as runs
use Rattle.following_laws.specs.Runs.{TakesWord, Step, reached}
use Rattle.store_service.specs.Service.{AreServed, Serving, after_all, after_one, noted, serving}
use Rattle.node_defs.specs.Nodes as nodes
use Rattle.serve_laws.specs.Runs.{IsHostIn, NodeRun, after_some, at, cast, first, history, opened, steps, steps_by, steps_in, turns_of, word_in}
use Rattle.serve_laws.specs.Reported.{Gave, Replied, WasSaid, WritesOfNote, WritesToLine}
use Rattle.serve_laws.specs.Laws.{RunIsServed, RunsTell, SaysReply, SaysState}
use Rattle.serve_laws.proofs.Changing.{waiting}
use Rattle.serve_laws.proofs.Opened.{Waits, opened-sound, opening-waits}
use Rattle.serve_laws.proofs.Along as along

-- ---- lists of calls

served-split : (o : Option (List Serving)) (g h : List Asked) → AreServed o (g ++ h) → AreServed o g × AreServed (after_all o g) h
served-split o [] h are = (tt, are)
served-split o (i ∷ g) h are = let rest = served-split (after_one o i) g h are.1 in ((are.0, rest.0), rest.1)

after-both : (o : Option (List Serving)) (g h : List Asked) → after_all o (g ++ h) ≡ after_all (after_all o g) h
after-both o [] h = refl
after-both o (i ∷ g) h = after-both (after_one o i) g h

-- ---- which call it is

said-text : (t u : List ℕ) (s v : List (ℕ × List ℕ)) → Said t s ≡ Said u v → t ≡ u
said-text t u s v e = cc

same-note : (r p : ℕ) (other note : Note) → NotesOf r other ≡ NotesOf p note → Notes r other ≡ Notes p note
same-note r p other note e = cc

-- the node tells its service of this note
record NotesNow (n : Node) (p : ℕ) (note : Note) : Type 0 where
  over : n.opening ≡ []
  rest : List Leaving
  first_is : n.leaving ≡ Notes p note ∷ rest

module _ (c : Cast) (n : Node) (p : ℕ) (note : Note) where
  by-task : (ts : List Task) → call_of_tasks c n ts ≡ NotesOf p note → ⊥
  by-task [] e = cc
  by-task (Take r event ∷ ts) e = cc
  by-task (Append r event ∷ ts) e = cc
  by-task (Flush ∷ ts) e = cc
  by-task (Say text ∷ ts) e = cc
  by-task (Ask r event notes above ∷ ts) e = cc
  by-task (Get r most count ∷ ts) e = cc
  by-task (Word r line ∷ ts) e = cc
  by-task (Post r to frame ∷ ts) e = cc
  by-task (Mark ∷ ts) e = cc

  by-leaving : (ls : List Leaving) → n.opening ≡ [] → n.leaving ≡ ls → call_of_leaving c n ls ≡ NotesOf p note → NotesNow n p note
  by-leaving [] over is e = absurd (by-task n.tasks e)
  by-leaving (Sends r to frame ∷ ls) over is e = absurd cc
  by-leaving (Notes r other ∷ ls) over is e = record {
    over = over;
    rest = ls;
    first_is = is ∙ ap (λ (l : Leaving). l ∷ ls) (same-note r p other note e);
  }

  by-opening : (os : List Opening) → n.opening ≡ os → call_of_opening c n os ≡ NotesOf p note → NotesNow n p note
  by-opening [] is e = by-leaving n.leaving is refl e
  by-opening (Bind port ∷ os) is e = absurd cc
  by-opening (Greet text ∷ os) is e = absurd cc
  by-opening (Serve ∷ os) is e = absurd cc
  by-opening (Finish ∷ os) is e = absurd cc

  tells-now : call_of c n ≡ NotesOf p note → NotesNow n p note
  unfolding call_of
  tells-now e = go n.stopped e
    where
      go : (st : Option Stop) → elim st [ Some why ↦ Rests | None ↦ call_of_opening c n n.opening ] ≡ NotesOf p note → NotesNow n p note
      go None is = by-opening n.opening refl is
      go (Some why) is = absurd cc

-- the node hands this line to its service
record HandsNow (n : Node) : Type 0 where
  over : n.opening ≡ []
  none : n.leaving ≡ []

module _ (c : Cast) (n : Node) (p : ℕ) (line : List ℕ) where
  hands-leaving : (ls : List Leaving) → n.opening ≡ [] → n.leaving ≡ ls → call_of_leaving c n ls ≡ Words p line → HandsNow n
  hands-leaving [] over is e = record { over = over; none = is }
  hands-leaving (Sends r to frame ∷ ls) over is e = absurd cc
  hands-leaving (Notes r note ∷ ls) over is e = absurd cc

  hands-opening : (os : List Opening) → n.opening ≡ os → call_of_opening c n os ≡ Words p line → HandsNow n
  hands-opening [] is e = hands-leaving n.leaving is refl e
  hands-opening (Bind port ∷ os) is e = absurd cc
  hands-opening (Greet text ∷ os) is e = absurd cc
  hands-opening (Serve ∷ os) is e = absurd cc
  hands-opening (Finish ∷ os) is e = absurd cc

  hands-now : call_of c n ≡ Words p line → HandsNow n
  unfolding call_of
  hands-now e = go n.stopped e
    where
      go : (st : Option Stop) → elim st [ Some why ↦ Rests | None ↦ call_of_opening c n n.opening ] ≡ Words p line → HandsNow n
      go None is = hands-opening n.opening refl is
      go (Some why) is = absurd cc

-- ---- along the run

module _ (r : NodeRun) (h : Host) (is : IsKit r.kit) (found : IsHostIn r h) (served : AreServed None (history r)) where
  abbrev c : Cast
  c = cast r

  abbrev from : ℕ → Process
  from = (from_start (cast r)).from

  abbrev Holds : Node → Option (List Serving) → List Step → Type 0
  Holds n o done = along.Holds r.kit r.version r.snap h is found (first r h) (turns_of r h (opened r).kept) n o done

  holds-after : (front : List Answer) (n : Node) (o : Option (List Serving)) (done : List Step) → IsSound c from n → Holds n o done
      → AreServed o (asked_by c r.snap n front)
      → Holds (run c r.snap n front) (after_all o (asked_by c r.snap n front)) (done ++ steps_in r.kit c r.snap h.process n front)
  unfolding run asked_by steps_in
  holds-after [] n o done sound holds are = subst (Holds n o) (sym (append-nil done)) holds
  holds-after (a ∷ front) n o done sound holds are =
      let m : Node = answered c r.snap n a in
      let one : List Asked = asking c n.now (call_of c n) a in
      let step : List Step = steps_by r.kit h.process (n.now h.process) (call_of c n) a in
      let parts = served-split o one (asked_by c r.snap m front) are in
      let rest = holds-after front m (after_all o one) (done ++ step) (answered-sound c r.snap from (start-numbered c) n a sound)
      (along.next r.kit r.version r.snap h is found (first r h) (turns_of r h (opened r).kept) n o done a sound holds parts.0) parts.1 in
      subst (λ (o : Option (List Serving)). Holds (run c r.snap m front) o (done ++ (step ++ steps_in r.kit c r.snap h.process m front)))
      (sym (after-both o one (asked_by c r.snap m front)))
      (subst (Holds (run c r.snap m front) (after_all (after_all o one) (asked_by c r.snap m front)))
      (append_assoc done step (steps_in r.kit c r.snap h.process m front)) rest)

  begins : Holds (opened r) None []
  unfolding reached
  begins = record { process = refl; turns = sym (append-nil (turns_of r h (opened r).kept)); served = record { waits = opening-waits c c.hosted _; server = refl } }

  -- the turns that the entries of the run keep are those of its steps
  pub run-turns : turns_of r h (run c r.snap (opened r) r.answers).kept ≡ turns_of r h (opened r).kept ++ runs.turns_in (steps r h)
  run-turns = (holds-after r.answers (opened r) None [] (opened-sound c (from_start c) r.lines r.found) begins served).turns

  -- where the service said this text
  module _ (call : Call) (text : List ℕ) (w : WasSaid r call text) where
    abbrev n : Node
    n = after_some r w.front

    abbrev before : List Asked
    before = asked_by (cast r) r.snap (opened r) w.front

    abbrev done : List Step
    done = steps_in r.kit (cast r) r.snap h.process (opened r) w.front

    abbrev answer : Answer
    answer = Said text w.sends

    history-is : history r ≡ asked_by c r.snap (opened r) w.front ++ (asking c n.now (call_of c n) answer
        ++ asked_by c r.snap (answered c r.snap n answer) w.rest)
    unfolding asked_by
    history-is = ap (asked_by c r.snap (opened r)) w.answers_are ∙ asked-in-a-row c r.snap (opened r) w.front (answer ∷ w.rest)

    parts : AreServed None before × AreServed (after_all None before) (asking c n.now (call_of c n) answer
        ++ asked_by c r.snap (answered c r.snap n answer) w.rest)
    parts = served-split None before _ (subst (AreServed None) history-is served)

    holds : Holds n (after_all None before) done
    holds = holds-after w.front (opened r) None [] (opened-sound c (from_start c) r.lines r.found) begins parts.0

    so-served : AreServed (after_all None before) (asking c n.now call answer)
    so-served = subst (λ (k : Call). AreServed (after_all None before) (asking c n.now k answer)) w.call_is
        (served-split (after_all None before) (asking c n.now (call_of c n) answer) _ parts.1).0

  steps-in-a-row : (front : List Answer) (n : Node) (rest : List Answer) → steps_in r.kit c r.snap h.process n (front ++ rest)
      ≡ steps_in r.kit c r.snap h.process n front ++ steps_in r.kit c r.snap h.process (run c r.snap n front) rest
  unfolding run steps_in
  steps-in-a-row [] n rest = refl
  steps-in-a-row (a ∷ front) n rest =
      let step : List Step = steps_by r.kit h.process (n.now h.process) (call_of c n) a in
      ap (λ (ss : List Step). step ++ ss) (steps-in-a-row front (answered c r.snap n a) rest)
      ∙ sym (append_assoc step (steps_in r.kit c r.snap h.process (answered c r.snap n a) front) _)

  steps-so : (call : Call) (text : List ℕ) (w : WasSaid r call text) → steps r h ≡ done call text w
      ++ (steps_by r.kit h.process ((after_some r w.front).now h.process) call (Said text w.sends)
      ++ steps_in r.kit c r.snap h.process (answered c r.snap (after_some r w.front) (Said text w.sends)) w.rest)
  unfolding steps_in
  steps-so call text w =
      let n : Node = after_some r w.front in
      let rest : List Step = steps_in r.kit c r.snap h.process (answered c r.snap n (Said text w.sends)) w.rest in
      ap (steps_in r.kit c r.snap h.process (opened r)) w.answers_are
      ∙ steps-in-a-row w.front (opened r) (Said text w.sends ∷ w.rest)
      ∙ ap (λ (k : Call). done call text w ++ (steps_by r.kit h.process (n.now h.process) k (Said text w.sends) ++ rest)) w.call_is

  -- ---- notes

  note-so : (note : Note) (text : List ℕ) → WasSaid r (NotesOf h.process note) text → WritesOfNote r h note text
  note-so note text w = by (after_all None (before call text w)) (holds call text w) (so-served call text w)
    where
      call : Call
      call = NotesOf h.process note

      n : Node
      n = after_some r w.front

      it : NotesNow n h.process note
      it = tells-now c n h.process note w.call_is

      left-is : waiting h.process n.leaving ≡ note ∷ waiting h.process it.rest
      left-is = ap (waiting h.process) it.first_is
          ∙ ap (λ (b : Bool). if b then note ∷ waiting h.process it.rest else waiting h.process it.rest) (eq-eqb h.process h.process refl)

      by : (o : Option (List Serving)) → Holds n o (done call text w) → AreServed o (asking c n.now call (Said text w.sends))
          → WritesOfNote r h note text
      by None hold are = absurd (subst Waits it.over hold.served.waits)
      by (Some xs) hold are = telling (subst (along.IsSo r.kit r.version r.snap h is found (first r h) (turns_of r h (opened r).kept) (done call text w) hold.served.server) left-is hold.served.so)
        where
          text-so : text ≡ noted_text (place_of r.kit h) hold.served.server note
          text-so = said-text text (noted h.process note xs) w.sends [] are.0
              ∙ ap (λ (o : Option Serving). option_map_or (λ x. noted_text x.place x.server note) o []) hold.served.serves

          telling : along.IsSo r.kit r.version r.snap h is found (first r h) (turns_of r h (opened r).kept) (done call text w) hold.served.server (note ∷ waiting h.process it.rest)
              → WritesOfNote r h note text
          telling (inl so) = absurd (let never = so.0 in cc)
          telling (inr so) = record {
            before = so.before;
            turn = so.turn;
            behind = steps_in r.kit c r.snap h.process (answered c r.snap n (Said text w.sends)) w.rest;
            steps_are = steps-so call text w ∙ ap (λ (ss : List Step). ss ++ rest) so.done_is ∙ append_assoc so.before (runs.Happens so.turn ∷ []) rest;
            reported = so.reported;
            others = waiting h.process it.rest;
            notes_are = so.notes_are;
            text_is = text-so ∙ ap (λ (s : Server). noted_text (place_of r.kit h) s note) so.server_is;
          }
            where
              rest : List Step
              rest = steps_in r.kit c r.snap h.process (answered c r.snap n (Said text w.sends)) w.rest

  -- ---- lines

  line-so : (line text : List ℕ) → WasSaid r (Words h.process line) text → WritesToLine r h line text
  line-so line text w = by (after_all None (before call text w)) (holds call text w) (so-served call text w)
    where
      call : Call
      call = Words h.process line

      n : Node
      n = after_some r w.front

      it : HandsNow n
      it = hands-now c n h.process line w.call_is

      rest : List Step
      rest = steps_in r.kit c r.snap h.process (answered c r.snap n (Said text w.sends)) w.rest

      own : (h.process == h.process) ≡ true
      own = eq-eqb h.process h.process refl

      by : (o : Option (List Serving)) → Holds n o (done call text w) → AreServed o (asking c n.now call (Said text w.sends))
          → WritesToLine r h line text
      by None hold are = absurd (subst Waits it.over hold.served.waits)
      by (Some xs) hold are = word (word_in r.kit line) refl
        where
          t : Server
          t = hold.served.server

          here : List (List ℕ)
          here = payloads_of (n.now h.process).delivered

          said : (o : Option words.Word) → word_in r.kit line ≡ o
              → Said text w.sends ≡ option_map_or (λ x. Said x.0 []) (option_map (worded (along.valid r.kit r.version r.snap h is found (first r h) (turns_of r h (opened r).kept)) (place_of r.kit h) here t) o) nodes.Done
          said o e = are.0 ∙ ap (λ (u : Option (List ℕ × Server)). option_map_or (λ x. Said x.0 []) u nodes.Done)
              (along.all-worded r.kit r.version r.snap h is found (first r h) (turns_of r h (opened r).kept) n xs (done call text w) hold h.process line own
              ∙ ap (option_map (worded (along.valid r.kit r.version r.snap h is found (first r h) (turns_of r h (opened r).kept)) (place_of r.kit h) here t)) e)

          word : (o : Option words.Word) → word_in r.kit line ≡ o → WritesToLine r h line text
          word None e = absurd (let never = said None e in cc)
          word (Some x) e = record {
            before = done call text w;
            word = x;
            behind = rest;
            steps_are = steps-so call text w
                ∙ ap (λ (b : Bool). done call text w ++ ((if b then map TakesWord (option_to_list (word_in r.kit line)) else []) ++ rest)) own
                ∙ ap (λ (o : Option words.Word). done call text w ++ (map TakesWord (option_to_list o) ++ rest)) e;
            word_is = e;
            text_is = said-text text _ w.sends [] (said (Some x) e)
                ∙ ap (λ (p : Process). (worded (along.valid r.kit r.version r.snap h is found (first r h) (turns_of r h (opened r).kept)) (place_of r.kit h) (payloads_of p.delivered) t x).0) (sym hold.process)
                ∙ ap (λ (s : Server). (worded (along.valid r.kit r.version r.snap h is found (first r h) (turns_of r h (opened r).kept)) (place_of r.kit h) (payloads_of (at r h (done call text w)).process.delivered) s x).0)
                (along.settled r.kit r.version r.snap h is found (first r h) (turns_of r h (opened r).kept) (done call text w) t (waiting h.process n.leaving) hold.served.so (ap (waiting h.process) it.none));
          }

  -- ---- replies and states

  reply-so : (view : ℕ) (d : Delivered) (text : List ℕ) → WasSaid r (NotesOf h.process (Delivers view d)) text → SaysReply r h text
  unfolding reported_of
  reply-so view d text w =
      let so = note-so (Delivers view d) text w in
      let s : Server = after_notes (place_of r.kit h) (at r h so.before).server so.reported in
      record {
        word = reply_to (place_of r.kit h) s view d;
        text_is = so.text_is;
        replied = λ reply e. (
          s.delivered,
          record {
            view = view;
            delivered = d;
            said = subst (WasSaid r (NotesOf h.process (Delivers view d)))
                (so.text_is ∙ ap (λ (word : ReplyWord). reported_text h.process (ReportedReply word)) e) w;
            writes = record {
              before = so.before;
              turn = so.turn;
              behind = so.behind;
              steps_are = so.steps_are;
              front = so.reported;
              view = view;
              delivered = d;
              rest = so.others;
              notes_are = so.notes_are;
              reported = ap ReportedReply e;
              leaf_is = refl;
            };
          },
        );
      }

  state-so : (line text : List ℕ) → word_in r.kit line ≡ Some Give → WasSaid r (Words h.process line) text → SaysState r h text
  unfolding worded
  state-so line text gives w =
      let so = line-so line text w in
      let s : Server = (at r h so.before).server in
      let is-give : so.word ≡ Give = (let same = sym so.word_is ∙ gives in cc) in
      let text-is : text ≡ given_text h.process (state_given (place_of r.kit h) s) = so.text_is
      ∙ ap (λ (word : words.Word). (worded (along.valid r.kit r.version r.snap h is found (first r h) (turns_of r h (opened r).kept)) (place_of r.kit h)
      (payloads_of (at r h so.before).process.delivered) s word).0) is-give in
      record {
        word = state_given (place_of r.kit h) s;
        text_is = text-is;
        gave = λ given e. record {
          line = line;
          gives = gives;
          said = subst (WasSaid r (Words h.process line)) (text-is ∙ ap (given_text h.process) e) w;
          writes = record {
            before = so.before;
            behind = so.behind;
            steps_are = so.steps_are ∙ ap (λ (word : words.Word). so.before ++ TakesWord word ∷ so.behind) is-give;
            given = e;
          };
        };
      }

pub runs_tell : RunsTell
runs_tell r h is found served = record {
  notes = note-so r h is found served;
  lines = line-so r h is found served;
  replies = reply-so r h is found served;
  states = state-so r h is found served;
}
