-- Along a run the server that the service has of a process is the server of the run: answer by answer.
use Rattle.std.proofs.Common.{◌≡◌, ◌≢◌, ◌⊎◌, inl, inr, ℕ, zero, suc, ◌+◌, List, [], ◌∷◌, ◌++◌, map, Bool, true, false, refl, sym, ap, ◌∙◌, subst, Option, Some, None, Result, Ok, Err}
use Rattle.std.specs.Prelude.{◌==◌, if◌then◌else◌, option_and_then, option_map}
use Rattle.std.specs.Option.{option_map_or, option_to_list}
use Rattle.std.proofs.lemmas.Bool.{eq-eqb, eqb-true}
use Rattle.std.proofs.lemmas.List.{append-nil, append_assoc}
use Rattle.signature_defs.specs.Secrets.{Secret}
use Rattle.signature_defs.specs.Schemes.{is_valid}
use Rattle.kit_defs.specs.Kits.{Host, IsKit, Kit}
use Rattle.group_defs.specs.Process.{Process, Setting}
use Rattle.group_defs.specs.Events.{Note, Outcome, Turn, after, outcome, run}
use Rattle.journal_defs.specs.declared.Version.{Version}
use Rattle.journal_defs.specs.Entries.{Entry, Event}
use Rattle.safety_laws.proofs.Journalled.{journal_gives_the_turn}
use Rattle.node_defs.specs.Casts.{Cast, cast_of, entries_of, entry_for, from_start, host_of, kept_turn, live, outcome_of, setting_of, taken_up, turns_from}
use Rattle.node_defs.specs.Lines.{Full, Stop, WriteFailed}
use Rattle.node_defs.specs.Lives.{IsSound}
use Rattle.node_defs.specs.Scripts.{Line, line_said, most_lines}
use Rattle.node_defs.specs.Nodes.{Answer, Append, Appends, Ask, Asks, Bind, Binds, Broken, Call, Came, Change, Digest, Done, Failed, Finish, Finishes, Flush, Get, Greet, Leaving, Mark, Marks, Named, Node, Opening, Post, ReadsLine, ReceivesOn, Rests, Said, Say, Sends, SendsTo, Serve, Serves, Snapper, Steps, Take, Task, Notes, NotesOf, Unremembered, Word, Words, Writes, after_get, after_leaving, after_line, after_read, after_step, after_task, answered, by_answer, by_leaving, by_opening, by_tasks, call_of, call_of_leaving, call_of_opening, call_of_tasks, changed, counts, done_or, if_fits, is_full, leaving_call, new_entry, new_leaving, opened_one, opening_call, task_call, unless_stopped, with_turn}
use Rattle.node_traces.specs.Service.{Asked, asking, shows}
use Rattle.node_traces.proofs.Service.{asks-nothing}
use Rattle.node_laws.proofs.Entries.{entries-append, live-is-kept, other-entry, own-entry}
use Rattle.node_laws.proofs.Fitting.{start-numbered}
use Rattle.node_laws.proofs.Soundness.{answered-sound, bears, opens-only}
use Rattle.store_defs.specs.Holding.{payloads_of}
use Rattle.store_defs.specs.Serving.{Place, Server, after_note, after_notes, server_of}
use Rattle.store_defs.specs.Services.{line_worded, place_of, worded}
use Rattle.store_defs.specs.Words as words
use Rattle.following_laws.specs.Runs as runs
use Rattle.following_laws.specs.Runs.{Happens, Moment, TakesWord, Step, reached, turns_in}
use Rattle.following_laws.proofs.Replying.{notes-more}
use Rattle.store_service.specs.Service.{AreServed, Serving, after_all, after_call, after_own, serving, worded_of}
use Rattle.store_service.specs.Service as service
use Rattle.store_service.proofs.Changes.{own_calls_tell}
use Rattle.store_service.proofs.OfKits.{lines_are_the_kits, servers_are_the_kits}
use Rattle.serve_laws.specs.Runs.{steps_by, turns_by, word_in, words_by}
use Rattle.serve_laws.proofs.Changing.{NoTurn, IsNoAppend, IsNoDone, append-takes-none, leaving-takes-none, read-takes-none, task-takes-none, turn-waits, waiting}
use Rattle.serve_laws.proofs.Opened.{Begun, Waits}

-- ---- lists

pub reached-on : (kit : Kit) (h : Host) (m : Moment) (xs ys : List Step)
    → reached (setting_of kit) (place_of kit h) m (xs ++ ys)
    ≡ reached (setting_of kit) (place_of kit h) (reached (setting_of kit) (place_of kit h) m xs) ys
unfolding reached
reached-on kit h m [] ys = refl
reached-on kit h m (x ∷ xs) ys = reached-on kit h (runs.after_step (setting_of kit) (place_of kit h) m x) xs ys

pub steps-join : (front back : List Step) → turns_in (front ++ back) ≡ turns_in front ++ turns_in back
steps-join [] back = refl
steps-join (Happens t ∷ front) back = ap (λ ts. t ∷ ts) (steps-join front back)
steps-join (TakesWord word ∷ front) back = steps-join front back

pub turns-join : (s : Setting) (p : Process) (es fs : List Entry) → turns_from s p (es ++ fs) ≡ turns_from s p es ++ turns_from s (taken_up s p es) fs
unfolding turns_from run
turns-join s p [] fs = refl
turns-join s p (e ∷ es) fs = ap (λ ts. kept_turn p e ∷ ts) (turns-join s (after s p (kept_turn p e)) es fs)

swapped : (a b : ℕ) (x : Bool) → (a == b) ≡ x → (b == a) ≡ x
swapped a b true is = eq-eqb b a (sym (eqb-true a b is))
swapped a b false is = look (b == a) refl
  where
    look : (x : Bool) → (b == a) ≡ x → x ≡ false
    look true at = let also = eq-eqb a b (sym (eqb-true b a at)) in cc
    look false at = refl

-- ---- a moment of a run

module _ (kit : Kit) (version : Version) (snap : Snapper) (h : Host) (is : IsKit kit) (found : host_of kit h.process ≡ Some h) (m0 : Moment)
    (turns0 : List Turn) where
  abbrev pub c : Cast
  c = cast_of kit version

  abbrev pub from : ℕ → Process
  from = (from_start c).from

  abbrev pub p : ℕ
  p = h.process

  abbrev pub q : Place
  q = place_of kit h

  abbrev pub valid : List ℕ → List ℕ → List ℕ → Bool
  valid = is_valid kit.scheme

  -- the turns of the process that the entries keep
  abbrev pub turns_in_these : List Entry → List Turn
  turns_in_these es = turns_from (setting_of kit) ((from_start (cast_of kit version)).from h.process) (entries_of h.process es)

  abbrev pub at : List Step → Moment
  at done = reached (setting_of kit) q m0 done

  -- the server of the process at its place
  abbrev pub mine : Server → Serving
  mine t = record { place = q; server = t }

  -- the server has been told of some of the notes of the last turn, and these are left
  pub record IsTelling (done : List Step) (t : Server) (left : List Note) : Type 0 where
    pub before : List Step
    pub turn : Turn
    pub done_is : done ≡ before ++ Happens turn ∷ []
    pub reported : List Note
    pub notes_are : (outcome (setting_of kit) (at before).process turn).notes ≡ reported ++ left
    pub server_is : t ≡ after_notes q (at before).server reported

  -- or of all, and it is as the steps leave it
  abbrev pub IsSo : List Step → Server → List Note → Type 0
  IsSo done t left = ((left ≡ []) × (t ≡ (at done).server)) ⊎ IsTelling done t left

  -- the service begins, as the process is then
  pub record IsToBegin (n : Node) (done : List Step) : Type 0 where
    pub waits : Waits n.opening
    pub server : (at done).server ≡ server_of (n.now p)

  -- the service has this server of the process
  pub record Has (n : Node) (xs : List Serving) (done : List Step) : Type 0 where
    pub server : Server
    pub serves : serving p xs ≡ Some (mine server)
    pub begun : Begun n.opening
    pub so : IsSo done server (waiting p n.leaving)

  abbrev pub ServedSo : Node → Option (List Serving) → List Step → Type 0
  ServedSo n None done = IsToBegin n done
  ServedSo n (Some xs) done = Has n xs done

  pub record Holds (n : Node) (o : Option (List Serving)) (done : List Step) : Type 0 where
    pub process : (at done).process ≡ n.now p
    pub turns : turns_in_these n.kept ≡ turns0 ++ turns_in done
    pub served : ServedSo n o done

  -- after the call with this answer node n' holds so too
  abbrev Next : Node → Option (List Serving) → List Step → Call → Answer → Node → Type 0
  Next n o done call a n' = AreServed o (asking c n.now call a)
      → Holds n' (after_all o (asking c n.now call a)) (done ++ steps_by kit p (n.now p) call a)

  -- all notes have been told of
  pub settled : (done : List Step) (t : Server) (left : List Note) → IsSo done t left → left ≡ [] → t ≡ (at done).server
  unfolding reached runs.after_step
  settled done t left (inl so) none = so.1
  settled done t left (inr so) none =
      so.server_is
      ∙ ap (λ (ns : List Note). after_notes q (at so.before).server ns) (sym (append-nil so.reported) ∙ ap (λ (ns : List Note). so.reported ++ ns) (sym none)
      ∙ sym so.notes_are)
      ∙ ap (λ (m : Moment). m.server) (sym (reached-on kit h m0 so.before (Happens so.turn ∷ [])))
      ∙ ap (λ (ss : List Step). (at ss).server) (sym so.done_is)

  -- ---- what changes nothing

  -- a node with the same process, and as much to open and to tell
  record IsLike (n n' : Node) : Type 0 where
    now : n'.now p ≡ n.now p
    kept : turns_in_these n'.kept ≡ turns_in_these n.kept
    waits : Waits n.opening → Waits n'.opening
    begun : Begun n.opening → Begun n'.opening
    waiting_is : waiting p n'.leaving ≡ waiting p n.leaving

  like : (n n' : Node) (o : Option (List Serving)) (done : List Step) → IsLike n n' → Holds n o done → Holds n' o done
  like n n' None done l holds = record {
    process = holds.process ∙ sym l.now;
    turns = l.kept ∙ holds.turns;
    served = record { waits = l.waits holds.served.waits; server = holds.served.server ∙ ap server_of (sym l.now) };
  }
  like n n' (Some xs) done l holds = record {
    process = holds.process ∙ sym l.now;
    turns = l.kept ∙ holds.turns;
    served = record {
      server = holds.served.server;
      serves = holds.served.serves;
      begun = l.begun holds.served.begun;
      so = subst (IsSo done holds.served.server) (sym l.waiting_is) holds.served.so;
    };
  }

  no-steps : (now : Process) (call : Call) (a : Answer) → turns_by p now call ≡ [] → words_by kit p call ≡ [] → steps_by kit p now call a ≡ []
  no-steps now call Done t w = t
  no-steps now call Failed t w = refl
  no-steps now call Unremembered t w = refl
  no-steps now call (Came bytes) t w = refl
  no-steps now call Broken t w = refl
  no-steps now call (Said text sends) t w = w
  no-steps now call (Named r) t w = refl
  no-steps now call (Digest digest) t w = refl

  -- a call that neither the service nor the process is told of
  unasked : (n n' : Node) (o : Option (List Serving)) (done : List Step) (call : Call) (a : Answer) → shows c n.now call ≡ None
      → steps_by kit p (n.now p) call a ≡ [] → Holds n' o done → Next n o done call a n'
  unasked n n' o done call a none no-step holds served =
      subst (λ hs. Holds n' (after_all o hs) (done ++ steps_by kit p (n.now p) call a)) (sym (asks-nothing c n.now call a none))
      (subst (λ ss. Holds n' o (done ++ ss)) (sym no-step) (subst (Holds n' o) (sym (append-nil done)) holds))

  -- ---- the opening

  opens-on : (n : Node) (os : List Opening) (op : Opening) (a : Answer) → ((opened_one n os op a).opening ≡ n.opening)
      ⊎ ((opened_one n os op a).opening ≡ os) ⊎ ((t : List ℕ) × ((opened_one n os op a).opening ≡ Greet t ∷ os))
  opens-on n os (Bind port) Done = inr (inl refl)
  opens-on n os (Bind port) Failed = inl refl
  opens-on n os (Bind port) Unremembered = inl refl
  opens-on n os (Bind port) (Came bytes) = inl refl
  opens-on n os (Bind port) Broken = inl refl
  opens-on n os (Bind port) (Said text sends) = inl refl
  opens-on n os (Bind port) (Named r) = inl refl
  opens-on n os (Bind port) (Digest digest) = inl refl
  opens-on n os (Greet t) Done = inr (inl refl)
  opens-on n os (Greet t) Failed = inl refl
  opens-on n os (Greet t) Unremembered = inl refl
  opens-on n os (Greet t) (Came bytes) = inl refl
  opens-on n os (Greet t) Broken = inl refl
  opens-on n os (Greet t) (Said text sends) = inl refl
  opens-on n os (Greet t) (Named r) = inl refl
  opens-on n os (Greet t) (Digest digest) = inl refl
  opens-on n os Serve Done = inl refl
  opens-on n os Serve Failed = inl refl
  opens-on n os Serve Unremembered = inl refl
  opens-on n os Serve (Came bytes) = inl refl
  opens-on n os Serve Broken = inl refl
  opens-on n os Serve (Said text sends) = inr (inr (text, refl))
  opens-on n os Serve (Named r) = inl refl
  opens-on n os Serve (Digest digest) = inl refl
  opens-on n os Finish Done = inr (inl refl)
  opens-on n os Finish Failed = inl refl
  opens-on n os Finish Unremembered = inl refl
  opens-on n os Finish (Came bytes) = inl refl
  opens-on n os Finish Broken = inl refl
  opens-on n os Finish (Said text sends) = inl refl
  opens-on n os Finish (Named r) = inl refl
  opens-on n os Finish (Digest digest) = inl refl

  -- one that is not the service's
  opens-like : (n : Node) (os : List Opening) (op : Opening) (a : Answer) → n.opening ≡ op ∷ os
      → (Waits (op ∷ os) → Waits os) → (Begun (op ∷ os) → Begun os) → IsLike n (opened_one n os op a)
  opens-like n os op a e waits begun =
      let only = opens-only n os op a in
      record {
        now = ap (λ (f : ℕ → Process). f p) only.now;
        kept = ap turns_in_these only.kept;
        waits = λ w. by (opens-on n os op a) Waits (λ t x. x) w (waits (subst Waits e w));
        begun = λ b. by (opens-on n os op a) Begun (λ t x. x) b (begun (subst Begun e b));
        waiting_is = ap (waiting p) only.leaving;
      }
    where
      by : ((opened_one n os op a).opening ≡ n.opening) ⊎ ((opened_one n os op a).opening ≡ os)
          ⊎ ((t : List ℕ) × ((opened_one n os op a).opening ≡ Greet t ∷ os))
          → (P : List Opening → Type 0) → ((t : List ℕ) → P os → P (Greet t ∷ os)) → P n.opening → P os
          → P (opened_one n os op a).opening
      by (inl same) P greets old new = subst P (sym same) old
      by (inr (inl less)) P greets old new = subst P (sym less) new
      by (inr (inr more)) P greets old new = subst P (sym more.1) (greets more.0 new)

  opens-next : (n : Node) (o : Option (List Serving)) (done : List Step) (os : List Opening) (op : Opening) (a : Answer) → IsSound c from n
      → n.opening ≡ op ∷ os → Holds n o done → Next n o done (opening_call op) a (opened_one n os op a)
  opens-next n o done os (Bind port) a sound e holds =
      unasked n (opened_one n os (Bind port) a) o done (Binds port) a refl (no-steps (n.now p) (Binds port) a refl refl)
      (like n (opened_one n os (Bind port) a) o done (opens-like n os (Bind port) a e (λ w. w) (λ b. b)) holds)
  opens-next n o done os (Greet t) a sound e holds =
      unasked n (opened_one n os (Greet t) a) o done (Writes t) a refl (no-steps (n.now p) (Writes t) a refl refl)
      (like n (opened_one n os (Greet t) a) o done (opens-like n os (Greet t) a e (λ w. w) (λ b. b)) holds)
  opens-next n o done os Finish a sound e holds =
      unasked n (opened_one n os Finish a) o done Finishes a refl (no-steps (n.now p) Finishes a refl refl)
      (like n (opened_one n os Finish a) o done (opens-like n os Finish a e (λ w. w) (λ b. b)) holds)
  opens-next n (Some xs) done os Serve a sound e holds = absurd (subst Begun e holds.served.begun)
  opens-next n None done os Serve Done sound e holds = λ served. absurd (let never = served.0 in cc)
  opens-next n None done os Serve Failed sound e holds = λ served. absurd (let never = served.0 in cc)
  opens-next n None done os Serve Unremembered sound e holds = λ served. subst (Holds n None) (sym (append-nil done)) holds
  opens-next n None done os Serve (Came bytes) sound e holds = λ served. absurd (let never = served.0 in cc)
  opens-next n None done os Serve Broken sound e holds = λ served. absurd (let never = served.0 in cc)
  opens-next n None done os Serve (Named r) sound e holds = λ served. absurd (let never = served.0 in cc)
  opens-next n None done os Serve (Digest digest) sound e holds = λ served. absurd (let never = served.0 in cc)
  opens-next n None done os Serve (Said text sends) sound e holds = λ served.
      subst (Holds (opened_one n os Serve (Said text sends)) (Some (service.begun c (map n.now c.hosted)))) (sym (append-nil done)) (record {
        process = holds.process;
        turns = holds.turns;
        served = record {
          server = server_of (n.now p);
          serves = (servers_are_the_kits kit version n.now is (λ r hosted. bears c snap from (start-numbered c) n sound r)).each p
              ∙ ap (option_map (λ g. record { place = place_of kit g; server = server_of (n.now g.process) })) found;
          begun = subst Waits e holds.served.waits;
          so = inl (ap (waiting p) (nothing-out n.leaving refl), sym holds.served.server);
        };
      })
    where
      nothing-out : (ls : List Leaving) → n.leaving ≡ ls → ls ≡ []
      nothing-out [] is = refl
      nothing-out (l ∷ ls) is = absurd (let none = sound.finished (λ never. let a = sym is ∙ never in absurd cc) in let b = sym e ∙ none in cc)

  -- ---- what goes out

  own : (xs : List Serving) (i : Asked) (t : Server) → i.call ≢ Serves → serving p xs ≡ Some (mine t)
      → serving p (after_call xs i.cast i.shown i.call) ≡ Some (after_own p i.cast i.shown i.call (mine t))
  own xs i t other has = own_calls_tell p xs (mine t) (i ∷ []) has (other, tt)

  -- a change that takes no turn leaves so many notes to be told of
  fits-like : (n : Node) (ls : List Leaving) (ts : List Task) (x : Option Change) → NoTurn x → waiting p ls ≡ waiting p n.leaving
      → IsLike n (if_fits c n ls ts x)
  fits-like n ls ts None none same = record { now = refl; kept = refl; waits = λ w. w; begun = λ b. b; waiting_is = refl }
  fits-like n ls ts (Some x) none same = record {
    now = ap (λ (t : Option (ℕ × Event)). with_turn c n t p) none;
    kept = ap (λ (t : Option (ℕ × Event)). turns_in_these (n.kept ++ new_entry c n t)) none ∙ ap turns_in_these (append-nil n.kept);
    waits = λ w. w;
    begun = λ b. b;
    waiting_is = ap (λ (t : Option (ℕ × Event)). waiting p (ls ++ new_leaving c n t)) none ∙ ap (waiting p) (append-nil ls) ∙ same;
  }

  reported-one : (n : Node) (xs : List Serving) (done : List Step) (r : ℕ) (note : Note) (ls : List Leaving) (text : List ℕ)
      (sends : List (ℕ × List ℕ)) → n.leaving ≡ Notes r note ∷ ls → Holds n (Some xs) done
      → Next n (Some xs) done (NotesOf r note) (Said text sends) (if_fits c n ls n.tasks (after_leaving n (Notes r note) (Said text sends)))
  unfolding after_leaving after_notes
  reported-one n xs done r note ls text sends e holds = λ served. subst (Holds n' (Some ys)) (sym (append-nil done)) (record {
    process = holds.process;
    turns = ap turns_in_these (append-nil n.kept) ∙ holds.turns;
    served = go (r == p) refl;
  })
    where
      i : Asked
      i = record { cast = c; shown = n.now r ∷ []; call = NotesOf r note; answer = Said text sends }

      ys : List Serving
      ys = after_call xs c (n.now r ∷ []) (NotesOf r note)

      n' : Node
      n' = if_fits c n ls n.tasks (after_leaving n (Notes r note) (Said text sends))

      t : Server
      t = holds.served.server

      left : List Note
      left = waiting p ls

      now-left : waiting p (ls ++ []) ≡ left
      now-left = ap (waiting p) (append-nil ls)

      is-served : serving p ys ≡ Some (if r == p then service.with_new (after_note q t note) (mine t) else mine t)
      is-served = own xs i t (λ never. cc) holds.served.serves

      before : (b : Bool) → (r == p) ≡ b → waiting p n.leaving ≡ (if b then note ∷ left else left)
      before b at = ap (waiting p) e ∙ ap (λ (b : Bool). if b then note ∷ waiting p ls else waiting p ls) at

      on : IsSo done t (note ∷ left) → IsSo done (after_note q t note) left
      on (inl so) = absurd (let never = so.0 in cc)
      on (inr so) = inr (record {
        before = so.before;
        turn = so.turn;
        done_is = so.done_is;
        reported = so.reported ++ note ∷ [];
        notes_are = so.notes_are ∙ sym (append_assoc so.reported (note ∷ []) left);
        server_is = ap (λ (s : Server). after_note q s note) so.server_is
            ∙ sym (notes-more q (at so.before).server so.reported (note ∷ []));
      })

      go : (b : Bool) → (r == p) ≡ b → Has n' ys done
      go true at = record {
        server = after_note q t note;
        serves = is-served ∙ ap (λ (b : Bool). Some (if b then service.with_new (after_note q t note) (mine t) else mine t)) at;
        begun = holds.served.begun;
        so = subst (IsSo done (after_note q t note)) (sym now-left) (on (subst (IsSo done t) (before true at) holds.served.so));
      }
      go false at = record {
        server = t;
        serves = is-served ∙ ap (λ (b : Bool). Some (if b then service.with_new (after_note q t note) (mine t) else mine t)) at;
        begun = holds.served.begun;
        so = subst (IsSo done t) (sym now-left) (subst (IsSo done t) (before false at) holds.served.so);
      }

  leaves-next : (n : Node) (o : Option (List Serving)) (done : List Step) (l : Leaving) (ls : List Leaving) (a : Answer) → n.opening ≡ []
      → n.leaving ≡ l ∷ ls → Holds n o done → Next n o done (leaving_call c l) a (if_fits c n ls n.tasks (after_leaving n l a))
  unfolding after_leaving
  leaves-next n o done (Sends r to frame) ls a over e holds =
      unasked n _ o done (SendsTo (c.port to) (c.seal r to frame)) a refl
      (no-steps (n.now p) (SendsTo (c.port to) (c.seal r to frame)) a refl refl)
      (like n _ o done (fits-like n ls n.tasks (after_leaving n (Sends r to frame) a) (leaving-takes-none n (Sends r to frame) a)
      (sym (ap (waiting p) e))) holds)
  leaves-next n None done (Notes r note) ls a over e holds = absurd (subst Waits over holds.served.waits)
  leaves-next n (Some xs) done (Notes r note) ls Done over e holds = λ served. absurd (let never = served.0 in cc)
  leaves-next n (Some xs) done (Notes r note) ls Failed over e holds = λ served. absurd (let never = served.0 in cc)
  leaves-next n (Some xs) done (Notes r note) ls Unremembered over e holds = λ served.
      subst (Holds (if_fits c n ls n.tasks (after_leaving n (Notes r note) Unremembered)) (Some xs)) (sym (append-nil done))
      (subst (λ (x : Option Change). Holds (if_fits c n ls n.tasks x) (Some xs) done) nothing holds)
    where
      nothing : (let o : Option Change = None in o) ≡ after_leaving n (Notes r note) Unremembered
      nothing = refl
  leaves-next n (Some xs) done (Notes r note) ls (Came bytes) over e holds = λ served. absurd (let never = served.0 in cc)
  leaves-next n (Some xs) done (Notes r note) ls Broken over e holds = λ served. absurd (let never = served.0 in cc)
  leaves-next n (Some xs) done (Notes r note) ls (Said text sends) over e holds = reported-one n xs done r note ls text sends e holds
  leaves-next n (Some xs) done (Notes r note) ls (Named s) over e holds = λ served. absurd (let never = served.0 in cc)
  leaves-next n (Some xs) done (Notes r note) ls (Digest digest) over e holds = λ served. absurd (let never = served.0 in cc)

  -- ---- tasks

  -- with other servers, among which that of the process is the same
  same-server : (n n' : Node) (xs ys : List Serving) (done : List Step) → IsLike n n' → serving p ys ≡ serving p xs → Holds n (Some xs) done
      → Holds n' (Some ys) done
  same-server n n' xs ys done l same holds =
      let liked : Holds n' (Some xs) done = like n n' (Some xs) done l holds in
      record {
        process = liked.process;
        turns = liked.turns;
        served = record {
          server = liked.served.server;
          serves = same ∙ liked.served.serves;
          begun = liked.served.begun;
          so = liked.served.so;
        };
      }

  -- of a task that takes no turn
  task-like : (n : Node) (ts : List Task) (t : Task) (a : Answer) → n.leaving ≡ [] → IsNoAppend t → IsLike n (if_fits c n [] ts (after_task c snap n t a))
  task-like n ts t a none never = fits-like n [] ts (after_task c snap n t a) (task-takes-none c snap n t a never) (sym (ap (waiting p) none))

  plain-task : (n : Node) (o : Option (List Serving)) (done : List Step) (ts : List Task) (t : Task) (a : Answer) → n.leaving ≡ []
      → IsNoAppend t → Holds n o done → Holds (if_fits c n [] ts (after_task c snap n t a)) o done
  plain-task n o done ts t a none never holds = like n (if_fits c n [] ts (after_task c snap n t a)) o done (task-like n ts t a none never) holds

  -- a line of another process, or one that has no word
  module _ (n : Node) (xs : List Serving) (done : List Step) (holds : Holds n (Some xs) done) (r : ℕ) (line : List ℕ) where
    abbrev t : Server
    t = holds.served.server

    abbrev here : List (List ℕ)
    here = payloads_of (n.now r).delivered

    abbrev ys : List Serving
    ys = after_call xs (cast_of kit version) (n.now r ∷ []) (Words r line)

    worded-is : worded_of c here p line (mine t) ≡ option_map (worded valid q here t) (word_in kit line)
    unfolding line_worded
    worded-is =
        ap (λ (o : Option Secret). option_and_then (λ secret. line_worded (service.kit_in c secret) q here t line) o)
        (ap (option_map (λ g. g.secret)) found)
        ∙ lines_are_the_kits kit version h q here t line is found

    -- of its server a line makes this
    abbrev made-of : Option (List ℕ × Server) → Serving
    made-of o = option_map_or (λ w. service.with_new w.1 (mine t)) o (mine t)

    words-serve : (a : Answer) → serving p ys ≡ Some (if r == p then made-of (worded_of c here p line (mine t)) else mine t)
    words-serve a =
        own xs (record { cast = c; shown = n.now r ∷ []; call = Words r line; answer = a }) t (λ never. cc) holds.served.serves

    others-line : (r == p) ≡ false → serving p ys ≡ serving p xs
    others-line at =
        words-serve Done ∙ ap (λ (b : Bool). Some (if b then made-of (worded_of c here p line (mine t)) else mine t)) at
        ∙ sym holds.served.serves

    own-line : (o : Option words.Word) → (r == p) ≡ true → word_in kit line ≡ o
        → serving p ys ≡ Some (made-of (option_map (worded valid q here t) o))
    own-line o at e =
        words-serve Done ∙ ap (λ (b : Bool). Some (if b then made-of (worded_of c here p line (mine t)) else mine t)) at
        ∙ ap (λ (u : Option (List ℕ × Server)). Some (made-of u)) (worded-is ∙ ap (option_map (worded valid q here t)) e)

    wordless : (r == p) ≡ true → word_in kit line ≡ None → serving p ys ≡ serving p xs
    wordless at e = own-line None at e ∙ sym holds.served.serves

    -- it has this word
    with-word : (n' : Node) → IsLike n n' → n.leaving ≡ [] → (r == p) ≡ true → (w : words.Word) → word_in kit line ≡ Some w
        → Holds n' (Some ys) (done ++ TakesWord w ∷ [])
    unfolding reached runs.after_step
    with-word n' l none same w e = record {
      process = ap (λ (m : Moment). m.process) after ∙ holds.process ∙ sym l.now;
      turns = l.kept ∙ holds.turns
          ∙ ap (λ (ts : List Turn). turns0 ++ ts) (sym (append-nil (turns_in done)) ∙ sym (steps-join done (TakesWord w ∷ [])));
      served = record {
        server = (worded valid q here t w).1;
        serves = own-line (Some w) same e;
        begun = l.begun holds.served.begun;
        so = inl (
          l.waiting_is ∙ ap (waiting p) none,
          ap (λ (r : ℕ). (worded valid q (payloads_of (n.now r).delivered) t w).1) (eqb-true r p same)
              ∙ ap (λ (x : Process). (worded valid q (payloads_of x.delivered) t w).1) (sym holds.process)
              ∙ ap (λ (s : Server). (worded valid q (payloads_of (at done).process.delivered) s w).1) is-settled
              ∙ ap (λ (m : Moment). m.server) (sym after),
        );
      };
    }
      where
        is-settled : t ≡ (at done).server
        is-settled = settled done t (waiting p n.leaving) holds.served.so (ap (waiting p) none)

        after : at (done ++ TakesWord w ∷ []) ≡ runs.after_step (setting_of kit) q (at done) (TakesWord w)
        after = reached-on kit h m0 done (TakesWord w ∷ [])

    says-word : (n' : Node) → IsLike n n' → n.leaving ≡ []
        → Holds n' (Some ys) (done ++ (if r == p then map TakesWord (option_to_list (word_in kit line)) else []))
    says-word n' l none = go (r == p) refl
      where
        by : (o : Option words.Word) → (r == p) ≡ true → word_in kit line ≡ o → Holds n' (Some ys) (done ++ map TakesWord (option_to_list o))
        by None at e = subst (Holds n' (Some ys)) (sym (append-nil done)) (same-server n n' xs ys done l (wordless at e) holds)
        by (Some w) at e = with-word n' l none at w e

        go : (b : Bool) → (r == p) ≡ b → Holds n' (Some ys) (done ++ (if b then map TakesWord (option_to_list (word_in kit line)) else []))
        go true at = by (word_in kit line) at refl
        go false at = subst (Holds n' (Some ys)) (sym (append-nil done)) (same-server n n' xs ys done l (others-line at) holds)

    no-word : (o : Option (List ℕ × Server)) → Done ≡ option_map_or (λ w. Said w.0 []) o Done → o ≡ None
    no-word None e = refl
    no-word (Some w) e = absurd cc

    unmapped : (o : Option words.Word) → option_map (worded valid q here t) o ≡ None → o ≡ None
    unmapped None e = refl
    unmapped (Some w) e = absurd cc

    pub all-worded : (r == p) ≡ true → service.worded c here r line xs ≡ option_map (worded valid q here t) (word_in kit line)
    all-worded at =
        ap (λ (s : ℕ). service.worded c here s line xs) (eqb-true r p at)
        ∙ ap (option_and_then (worded_of c here p line)) holds.served.serves ∙ worded-is

    has-no-word : (n' : Node) → IsLike n n' → Done ≡ option_map_or (λ w. Said w.0 []) (service.worded c here r line xs) Done
        → Holds n' (Some ys) (done ++ [])
    has-no-word n' l served = subst (Holds n' (Some ys)) (sym (append-nil done)) (same-server n n' xs ys done l (go (r == p) refl) holds)
      where
        go : (b : Bool) → (r == p) ≡ b → serving p ys ≡ serving p xs
        go true at = wordless at (unmapped (word_in kit line) (sym (all-worded at) ∙ no-word (service.worded c here r line xs) served))
        go false at = others-line at

  -- an answer that no line has
  abbrev IsNoAnswer : Answer → Type 0
  IsNoAnswer Done = ⊥
  IsNoAnswer (Said text sends) = ⊥
  IsNoAnswer _ = Unit {0}

  neither : (o : Option (List ℕ × Server)) (a : Answer) → IsNoAnswer a → a ≡ option_map_or (λ w. Said w.0 []) o Done → ⊥
  neither None a never e = subst IsNoAnswer e never
  neither (Some w) a never e = subst IsNoAnswer e never

  words-next : (n : Node) (xs : List Serving) (done : List Step) (r : ℕ) (line : List ℕ) (ts : List Task) (a : Answer) → n.leaving ≡ []
      → Holds n (Some xs) done
      → Next n (Some xs) done (Words r line) a (if_fits c n [] ts (after_task c snap n (Word r line) a))
  words-next n xs done r line ts Done none holds = λ served.
      has-no-word n xs done holds r line _ (task-like n ts (Word r line) Done none tt) served.0
  words-next n xs done r line ts Failed none holds = λ served. absurd (neither (service.worded c (payloads_of (n.now r).delivered) r line xs) Failed tt served.0)
  words-next n xs done r line ts Unremembered none holds = λ served.
      subst (Holds _ (Some xs)) (sym (append-nil done)) (plain-task n (Some xs) done ts (Word r line) Unremembered none tt holds)
  words-next n xs done r line ts (Came bytes) none holds = λ served.
      absurd (neither (service.worded c (payloads_of (n.now r).delivered) r line xs) (Came bytes) tt served.0)
  words-next n xs done r line ts Broken none holds = λ served. absurd (neither (service.worded c (payloads_of (n.now r).delivered) r line xs) Broken tt served.0)
  words-next n xs done r line ts (Said text sends) none holds = λ served.
      says-word n xs done holds r line _ (task-like n ts (Word r line) (Said text sends) none tt) none
  words-next n xs done r line ts (Named s) none holds = λ served.
      absurd (neither (service.worded c (payloads_of (n.now r).delivered) r line xs) (Named s) tt served.0)
  words-next n xs done r line ts (Digest digest) none holds = λ served.
      absurd (neither (service.worded c (payloads_of (n.now r).delivered) r line xs) (Digest digest) tt served.0)

  -- the service is asked whom to suspect
  asks-one : (n : Node) (xs : List Serving) (done : List Step) (r : ℕ) (e : Event) (notes : List Note) (above : Option ℕ) (n' : Node)
      (a : Answer) → IsLike n n' → Holds n (Some xs) done
      → Holds n' (Some (after_call xs c (n.now r ∷ []) (Asks r e notes above))) (done ++ [])
  asks-one n xs done r e notes above n' a l holds =
      let ys : List Serving = after_call xs c (n.now r ∷ []) (Asks r e notes above) in
      subst (Holds n' (Some ys)) (sym (append-nil done)) (same-server n n' xs ys done l refl holds)

  asks-next : (n : Node) (xs : List Serving) (done : List Step) (r : ℕ) (e : Event) (notes : List Note) (above : Option ℕ) (ts : List Task)
      (a : Answer) → n.leaving ≡ [] → Holds n (Some xs) done
      → Next n (Some xs) done (Asks r e notes above) a (if_fits c n [] ts (after_task c snap n (Ask r e notes above) a))
  asks-next n xs done r e notes above ts Done none holds = λ served.
      asks-one n xs done r e notes above _ Done (task-like n ts (Ask r e notes above) Done none tt) holds
  asks-next n xs done r e notes above ts Failed none holds = λ served.
      asks-one n xs done r e notes above _ Failed (task-like n ts (Ask r e notes above) Failed none tt) holds
  asks-next n xs done r e notes above ts Unremembered none holds = λ served.
      subst (Holds _ (Some xs)) (sym (append-nil done)) (plain-task n (Some xs) done ts (Ask r e notes above) Unremembered none tt holds)
  asks-next n xs done r e notes above ts (Came bytes) none holds = λ served.
      asks-one n xs done r e notes above _ (Came bytes) (task-like n ts (Ask r e notes above) (Came bytes) none tt) holds
  asks-next n xs done r e notes above ts Broken none holds = λ served.
      asks-one n xs done r e notes above _ Broken (task-like n ts (Ask r e notes above) Broken none tt) holds
  asks-next n xs done r e notes above ts (Said text sends) none holds = λ served.
      asks-one n xs done r e notes above _ (Said text sends) (task-like n ts (Ask r e notes above) (Said text sends) none tt) holds
  asks-next n xs done r e notes above ts (Named s) none holds = λ served.
      asks-one n xs done r e notes above _ (Named s) (task-like n ts (Ask r e notes above) (Named s) none tt) holds
  asks-next n xs done r e notes above ts (Digest digest) none holds = λ served.
      asks-one n xs done r e notes above _ (Digest digest) (task-like n ts (Ask r e notes above) (Digest digest) none tt) holds

  -- ---- a turn

  -- the entry of a turn of process r, and the turn that it keeps
  abbrev entry : Node → ℕ → Event → Entry
  entry n r e = entry_for c (n.now r) e

  abbrev turned : Node → List Task → ℕ → Event → Node
  turned n ts r e = if_fits c n [] ts (after_task c snap n (Append r e) Done)

  own-turn : (n : Node) (xs : List Serving) (done : List Step) (e : Event) (ts : List Task) → IsSound c from n → n.leaving ≡ []
      → Holds n (Some xs) done
      → Holds (turned n ts p e) (Some xs) (done ++ turns_by p (n.now p) (Appends (entry n p e)))
  unfolding after_task reached runs.after_step after_notes turns_from
  own-turn n xs done e ts sound none holds =
      subst (λ ss. Holds (turned n ts p e) (Some xs) (done ++ ss)) (sym one-step) (record {
        process = ap (λ (m : Moment). m.process) after-it ∙ ap (λ (x : Process). after (setting_of kit) x turn) holds.process
            ∙ live-is-kept c (n.now p) e
            ∙ ap (λ (b : Bool). if b then after (setting_of kit) (n.now p) (live c (n.now p) e) else n.now p) (sym (eq-eqb p p refl));
        turns = ap (turns_from (setting_of kit) (from p)) (entries-append p n.kept (entry n p e ∷ [])
            ∙ ap (λ es. entries_of p n.kept ++ es) (own-entry p (entry n p e) (bears c snap from (start-numbered c) n sound p)))
            ∙ turns-join (setting_of kit) (from p) (entries_of p n.kept) (entry n p e ∷ [])
            ∙ ap (λ (x : Process). turns_in_these n.kept ++ kept_turn x (entry n p e) ∷ []) (sym (sound.processes p))
            ∙ ap (λ (ts : List Turn). ts ++ turn ∷ []) holds.turns
            ∙ append_assoc turns0 (turns_in done) (turn ∷ [])
            ∙ ap (λ (ts : List Turn). turns0 ++ ts) (sym (steps-join done (Happens turn ∷ [])));
        served = record {
          server = holds.served.server;
          serves = holds.served.serves;
          begun = holds.served.begun;
          so = inr (record {
            before = done;
            turn = turn;
            done_is = refl;
            reported = [];
            notes_are = ap (λ (x : Process). (outcome (setting_of kit) x turn).notes) holds.process
                ∙ ap (λ (o : Outcome). o.notes) (journal_gives_the_turn (setting_of kit) (n.now p) (live c (n.now p) e)).1
                ∙ sym (turn-waits p p (outcome_of c (n.now p) e) true (eq-eqb p p refl));
            server_is = settled done holds.served.server (waiting p n.leaving) holds.served.so (ap (waiting p) none);
          });
        };
      })
    where
      turn : Turn
      turn = kept_turn (n.now p) (entry n p e)

      one-step : turns_by p (n.now p) (Appends (entry n p e)) ≡ Happens turn ∷ []
      one-step = ap (λ (b : Bool). if b then Happens turn ∷ [] else [])
          (eq-eqb (n.now p).me p (bears c snap from (start-numbered c) n sound p))

      after-it : at (done ++ Happens turn ∷ []) ≡ runs.after_step (setting_of kit) q (at done) (Happens turn)
      after-it = reached-on kit h m0 done (Happens turn ∷ [])

  not-own : (n : Node) (r : ℕ) (e : Event) → IsSound c from n → (r == p) ≡ false → ((entry n r e).process == p) ≡ false
  not-own n r e sound other = ap (λ (s : ℕ). s == p) (bears c snap from (start-numbered c) n sound r) ∙ other

  others-turn : (n : Node) (xs : List Serving) (done : List Step) (r : ℕ) (e : Event) (ts : List Task) → IsSound c from n → n.leaving ≡ []
      → (r == p) ≡ false → Holds n (Some xs) done
      → Holds (turned n ts r e) (Some xs) (done ++ turns_by p (n.now p) (Appends (entry n r e)))
  unfolding after_task
  others-turn n xs done r e ts sound none other holds =
      subst (λ ss. Holds (turned n ts r e) (Some xs) (done ++ ss)) (sym no-step) (subst (Holds (turned n ts r e) (Some xs)) (sym (append-nil done))
      (like n (turned n ts r e) (Some xs) done (record {
        now = ap (λ (b : Bool). if b then after (setting_of kit) (n.now p) (live c (n.now p) e) else n.now p) (swapped r p false other);
        kept = ap (turns_from (setting_of kit) (from p)) (entries-append p n.kept (entry n r e ∷ [])
            ∙ ap (λ es. entries_of p n.kept ++ es) (other-entry p (entry n r e) (not-own n r e sound other)) ∙ append-nil (entries_of p n.kept));
        waits = λ w. w;
        begun = λ b. b;
        waiting_is = turn-waits p r (outcome_of c (n.now r) e) false other ∙ sym (ap (waiting p) none);
      }) holds))
    where
      no-step : turns_by p (n.now p) (Appends (entry n r e)) ≡ []
      no-step = ap (λ (b : Bool). if b then Happens (kept_turn (n.now p) (entry n r e)) ∷ [] else []) (not-own n r e sound other)

  turn-next : (n : Node) (xs : List Serving) (done : List Step) (r : ℕ) (e : Event) (ts : List Task) → IsSound c from n → n.leaving ≡ []
      → Holds n (Some xs) done
      → Holds (turned n ts r e) (Some xs) (done ++ turns_by p (n.now p) (Appends (entry n r e)))
  turn-next n xs done r e ts sound none holds = go (r == p) refl
    where
      go : (b : Bool) → (r == p) ≡ b → Holds (turned n ts r e) (Some xs) (done ++ turns_by p (n.now p) (Appends (entry n r e)))
      go true at = subst (λ (s : ℕ). Holds (turned n ts s e) (Some xs) (done ++ turns_by p (n.now p) (Appends (entry n s e))))
          (sym (eqb-true r p at)) (own-turn n xs done e ts sound none holds)
      go false at = others-turn n xs done r e ts sound none at holds

  append-like : (n : Node) (o : Option (List Serving)) (done : List Step) (r : ℕ) (e : Event) (ts : List Task) (a : Answer)
      → n.leaving ≡ [] → IsNoDone a → Holds n o done → Next n o done (Appends (entry n r e)) a (if_fits c n [] ts (after_task c snap n (Append r e) a))
  append-like n o done r e ts a none never holds =
      unasked n _ o done (Appends (entry n r e)) a refl (stepless a never) (like n _ o done
      (fits-like n [] ts (after_task c snap n (Append r e) a) (append-takes-none c snap n r e a never) (sym (ap (waiting p) none))) holds)
    where
      stepless : (a : Answer) → IsNoDone a → steps_by kit p (n.now p) (Appends (entry n r e)) a ≡ []
      stepless Done never = absurd never
      stepless Failed never = refl
      stepless Unremembered never = refl
      stepless (Came bytes) never = refl
      stepless Broken never = refl
      stepless (Said text sends) never = refl
      stepless (Named s) never = refl
      stepless (Digest digest) never = refl

  appends-next : (n : Node) (xs : List Serving) (done : List Step) (r : ℕ) (e : Event) (ts : List Task) (a : Answer) → IsSound c from n
      → n.leaving ≡ [] → Holds n (Some xs) done
      → Next n (Some xs) done (Appends (entry n r e)) a (if_fits c n [] ts (after_task c snap n (Append r e) a))
  appends-next n xs done r e ts Done sound none holds = λ served. turn-next n xs done r e ts sound none holds
  appends-next n xs done r e ts Failed sound none holds = append-like n (Some xs) done r e ts Failed none tt holds
  appends-next n xs done r e ts Unremembered sound none holds = append-like n (Some xs) done r e ts Unremembered none tt holds
  appends-next n xs done r e ts (Came bytes) sound none holds = append-like n (Some xs) done r e ts (Came bytes) none tt holds
  appends-next n xs done r e ts Broken sound none holds = append-like n (Some xs) done r e ts Broken none tt holds
  appends-next n xs done r e ts (Said text sends) sound none holds = append-like n (Some xs) done r e ts (Said text sends) none tt holds
  appends-next n xs done r e ts (Named s) sound none holds = append-like n (Some xs) done r e ts (Named s) none tt holds
  appends-next n xs done r e ts (Digest digest) sound none holds = append-like n (Some xs) done r e ts (Digest digest) none tt holds

  -- ---- each call

  -- of a task of which the service and the process are not told
  quiet-next : (n : Node) (o : Option (List Serving)) (done : List Step) (ts : List Task) (t : Task) (a : Answer) (call : Call)
      → n.leaving ≡ [] → IsNoAppend t → shows c n.now call ≡ None → turns_by p (n.now p) call ≡ [] → words_by kit p call ≡ [] → Holds n o done
      → Next n o done call a (if_fits c n [] ts (after_task c snap n t a))
  quiet-next n o done ts t a call none never unshown turnless wordless holds =
      unasked n _ o done call a unshown (no-steps (n.now p) call a turnless wordless) (plain-task n o done ts t a none never holds)

  task-next : (n : Node) (xs : List Serving) (done : List Step) (t : Task) (ts : List Task) (a : Answer) → IsSound c from n → n.leaving ≡ []
      → Holds n (Some xs) done → Next n (Some xs) done (task_call c n t) a (if_fits c n [] ts (after_task c snap n t a))
  task-next n xs done (Take r e) ts a sound none holds = quiet-next n (Some xs) done ts (Take r e) a (Steps r e) none tt refl refl refl holds
  task-next n xs done (Append r e) ts a sound none holds = appends-next n xs done r e ts a sound none holds
  task-next n xs done Flush ts a sound none holds = quiet-next n (Some xs) done ts Flush a (Writes (n.text ++ n.late)) none tt refl refl refl holds
  task-next n xs done (Say text) ts a sound none holds = quiet-next n (Some xs) done ts (Say text) a (Writes text) none tt refl refl refl holds
  task-next n xs done (Ask r e notes above) ts a sound none holds = asks-next n xs done r e notes above ts a none holds
  task-next n xs done (Get r most count) ts a sound none holds =
      quiet-next n (Some xs) done ts (Get r most count) a (ReceivesOn (c.port r)) none tt refl refl refl holds
  task-next n xs done (Word r line) ts a sound none holds = words-next n xs done r line ts a none holds
  task-next n xs done (Post r to frame) ts a sound none holds =
      quiet-next n (Some xs) done ts (Post r to frame) a (SendsTo (c.port to) (c.seal r to frame)) none tt refl refl refl holds
  task-next n xs done Mark ts a sound none holds = quiet-next n (Some xs) done ts Mark a Marks none tt refl refl refl holds

  counts-like : (n : Node) (a : Answer) → IsLike n (counts n a)
  counts-like n Done = record { now = refl; kept = refl; waits = λ w. w; begun = λ b. b; waiting_is = refl }
  counts-like n Failed = record { now = refl; kept = refl; waits = λ w. w; begun = λ b. b; waiting_is = refl }
  counts-like n Unremembered = record { now = refl; kept = refl; waits = λ w. w; begun = λ b. b; waiting_is = refl }
  counts-like n (Came line) = record { now = refl; kept = refl; waits = λ w. w; begun = λ b. b; waiting_is = refl }
  counts-like n Broken = record { now = refl; kept = refl; waits = λ w. w; begun = λ b. b; waiting_is = refl }
  counts-like n (Said text sends) = record { now = refl; kept = refl; waits = λ w. w; begun = λ b. b; waiting_is = refl }
  counts-like n (Named r) = record { now = refl; kept = refl; waits = λ w. w; begun = λ b. b; waiting_is = refl }
  counts-like n (Digest digest) = record { now = refl; kept = refl; waits = λ w. w; begun = λ b. b; waiting_is = refl }

  read-next : (n : Node) (o : Option (List Serving)) (done : List Step) (a : Answer) → n.leaving ≡ [] → Holds n o done
      → Next n o done ReadsLine a (counts (if_fits c n [] [] (after_read c n a)) a)
  read-next n o done a none holds =
      let read : Node = if_fits c n [] [] (after_read c n a) in
      unasked n (counts read a) o done ReadsLine a refl (no-steps (n.now p) ReadsLine a refl refl)
      (like read (counts read a) o done (counts-like read a)
      (like n read o done (fits-like n [] [] (after_read c n a) (read-takes-none c n a) (sym (ap (waiting p) none))) holds))

  tasks-next : (n : Node) (o : Option (List Serving)) (done : List Step) (ts : List Task) (a : Answer) → IsSound c from n → n.opening ≡ []
      → n.leaving ≡ [] → Holds n o done → Next n o done (call_of_tasks c n ts) a (by_tasks c snap n a ts)
  tasks-next n o done [] a sound over none holds = read-next n o done a none holds
  tasks-next n None done (t ∷ ts) a sound over none holds = absurd (subst Waits over holds.served.waits)
  tasks-next n (Some xs) done (t ∷ ts) a sound over none holds = task-next n xs done t ts a sound none holds

  leaving-next : (n : Node) (o : Option (List Serving)) (done : List Step) (ls : List Leaving) (a : Answer) → IsSound c from n
      → n.opening ≡ [] → n.leaving ≡ ls → Holds n o done → Next n o done (call_of_leaving c n ls) a (by_leaving c snap n a ls)
  leaving-next n o done [] a sound over e holds = tasks-next n o done n.tasks a sound over e holds
  leaving-next n o done (l ∷ ls) a sound over e holds = leaves-next n o done l ls a over e holds

  opening-next : (n : Node) (o : Option (List Serving)) (done : List Step) (os : List Opening) (a : Answer) → IsSound c from n
      → n.opening ≡ os → Holds n o done → Next n o done (call_of_opening c n os) a (by_opening c snap n a os)
  opening-next n o done [] a sound e holds = leaving-next n o done n.leaving a sound e refl holds
  opening-next n o done (op ∷ os) a sound e holds = opens-next n o done os op a sound e holds

  answer-next : (n : Node) (o : Option (List Serving)) (done : List Step) (a : Answer) → IsSound c from n → Holds n o done
      → Next n o done (call_of_opening c n n.opening) a (by_answer c snap n a)
  answer-next n o done Done sound holds = opening-next n o done n.opening Done sound refl holds
  answer-next n o done Failed sound holds = opening-next n o done n.opening Failed sound refl holds
  answer-next n o done Unremembered sound holds = λ served.
      let m : Node = by_answer c snap n Unremembered in
      subst (Holds m o) (sym (append-nil done))
      (like n m o done (record { now = refl; kept = refl; waits = λ w. w; begun = λ b. b; waiting_is = refl }) holds)
  answer-next n o done (Came bytes) sound holds = opening-next n o done n.opening (Came bytes) sound refl holds
  answer-next n o done Broken sound holds = opening-next n o done n.opening Broken sound refl holds
  answer-next n o done (Said text sends) sound holds = opening-next n o done n.opening (Said text sends) sound refl holds
  answer-next n o done (Named r) sound holds = opening-next n o done n.opening (Named r) sound refl holds
  answer-next n o done (Digest digest) sound holds = opening-next n o done n.opening (Digest digest) sound refl holds

  pub next : (n : Node) (o : Option (List Serving)) (done : List Step) (a : Answer) → IsSound c from n → Holds n o done
      → Next n o done (call_of c n) a (answered c snap n a)
  unfolding call_of answered
  next n o done a sound holds = go n.stopped
    where
      go : (st : Option Stop) → Next n o done (elim st [ Some why ↦ Rests | None ↦ call_of_opening c n n.opening ]) a (unless_stopped c snap n a st)
      go None = answer-next n o done a sound holds
      go (Some why) = unasked n n o done Rests a refl (no-steps (n.now p) Rests a refl refl) holds
