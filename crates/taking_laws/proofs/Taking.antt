-- A server can take each note of its process.
use Rattle.std.proofs.Common.{◌≡◌, inl, ℕ, suc, ◌+◌, ◌<◌, ◌≤◌, max, List, [], ◌∷◌, ◌++◌, map, length, Bool, true, false, Ok, Err, refl, sym, ap, ◌∙◌, subst, arith}
use Rattle.std.specs.Prelude.{if◌then◌else◌, ◌||◌, not, is_some, fold, nat_lt, ◌==◌}
use Rattle.std.proofs.lemmas.Bool.{eq-eqb, eqb-true, ltb-false, ltb-true}
use Rattle.std.proofs.lemmas.List.{append-nil, append_assoc, length-append, length-map}
use Rattle.std.proofs.lemmas.List.Elements.{filter-append}
use Rattle.std.proofs.lemmas.List.Sums.{fold-append}
use Rattle.message_defs.specs.Limits.{last_number, most_payload_bytes, most_places}
use Rattle.message_defs.specs.Statements.{Claim}
use Rattle.group_defs.specs.Views.{View, is_member}
use Rattle.group_defs.specs.Process.{Setting, Delivered, Left, Process, deliveries_of, places_in, start}
use Rattle.group_defs.specs.Accounts.{IsByPlace, at_place}
use Rattle.group_defs.specs.Family.{handed_to}
use Rattle.group_defs.specs.Settle.{install}
use Rattle.group_defs.specs.Events.{Note, Delivers, Installs, Liar, Spent, Halts, Turn, after, note_if, outcome, run}
use Rattle.pool_laws.proofs.Members.{Mem, All-mem, index-mem, mem-behind}
use Rattle.pool_laws.proofs.Places.{length-snoc}
use Rattle.safety_laws.proofs.GroupGrows.{run-append}
use Rattle.safety_laws.proofs.Induction.{Keeps, run-keeps}
use Rattle.store_defs.specs.declared.Taken.{Taken}
use Rattle.store_defs.specs.declared.Taken.TheVariants as taken
use Rattle.store_defs.specs.Records.{StateRecord, last_position, state_record_of}
use Rattle.store_defs.specs.Stores.{Reading}
use Rattle.store_defs.specs.Holding.{payloads_of}
use Rattle.store_defs.specs.Serving.{Place, Server, after_message, after_note, after_notes, after_offer, after_taken, after_view, position_at, server_of, taken_by}
use Rattle.store_defs.specs.Votes.{Valid}
use Rattle.store_defs.specs.Words.{Give, State, StateKey}
use Rattle.store_defs.specs.Services.{worded}
use Rattle.store_replies.specs.Words.{HasSpelling}
use Rattle.following_laws.specs.Runs.{Happens, Moment, TakesWord, Step, after_step, begin, reached, turns_in}
use Rattle.following_laws.proofs.Growing.{in_place, longer}
use Rattle.following_laws.proofs.Offering.{last-kept}
use Rattle.following_laws.proofs.Replying.{notes-more, quiet-stays}
use Rattle.following_laws.proofs.Turns.{Quiet, TurnSo, most-at-least, turn-so}
use Rattle.store_server.specs.Notes as code
use Rattle.taking_laws.specs.Laws.{NotesAreTaken, ServersCanTake, Takes}
use Rattle.taking_laws.proofs.Ranges.{AreShort, IsRanged, is-ranged}

-- ---- notes one after the other

-- the server can take each of them, told of those before it
abbrev pub AreTaken : Place → Server → List Note → Type 0
AreTaken q s [] = Unit {0}
AreTaken q s (n ∷ ns) = Takes s n × AreTaken q (after_note q s n) ns

taken-more : (q : Place) (s : Server) (ns ms : List Note) → AreTaken q s ns → AreTaken q (after_notes q s ns) ms → AreTaken q s (ns ++ ms)
unfolding after_notes
taken-more q s [] ms one two = two
taken-more q s (n ∷ ns) ms one two = (one.0, taken-more q (after_note q s n) ns ms one.1 two)

takes-it : (q : Place) (s : Server) (reported others : List Note) (note : Note) → AreTaken q s (reported ++ note ∷ others)
    → Takes (after_notes q s reported) note
unfolding after_notes
takes-it q s [] others note are = are.0
takes-it q s (n ∷ reported) others note are = takes-it q (after_note q s n) reported others note are.1

quiet-taken : (q : Place) (s : Server) (ns : List Note) → Quiet ns → AreTaken q s ns
unfolding after_note
quiet-taken q s [] ok = tt
quiet-taken q s (Delivers x d ∷ ns) ok = absurd ok
quiet-taken q s (Installs v ∷ ns) ok = absurd ok
quiet-taken q s (Liar p ∷ ns) ok = (tt, quiet-taken q s ns ok)
quiet-taken q s (Spent ∷ ns) ok = (tt, quiet-taken q s ns ok)
quiet-taken q s (Halts k m ∷ ns) ok = (tt, quiet-taken q s ns ok)

-- ---- positions

-- no message is said to stand further back at its place than there are messages of that place
abbrev Counts : Server → List Delivered → Type 0
Counts s ds = (k : ℕ) → position_at s.last k ≤ length (at_place k ds)

one-more : (k : ℕ) (ds : List Delivered) (d : Delivered)
    → length (at_place k (ds ++ d ∷ [])) ≡ length (at_place k ds) + (if d.place == k then 1 else 0)
one-more k ds d = ap length (filter-append (λ (e : Delivered). e.place == k) ds (d ∷ []))
    ∙ length-append (at_place k ds) (at_place k (d ∷ [])) ∙ ap (λ n. length (at_place k ds) + n) (last (d.place == k))
  where
    last : (b : Bool) → length (if b then d ∷ [] else []) ≡ (if b then 1 else 0)
    last true = refl
    last false = refl

counts-more : (s : Server) (ds : List Delivered) (d : Delivered) → Counts s ds → Counts (after_message s d) (ds ++ d ∷ [])
counts-more s ds d ok k = go (d.place == k) refl
  where
    go : (b : Bool) → (d.place == k) ≡ b → (if b then position_at s.last d.place + 1 else 0) ≤ length (at_place k (ds ++ d ∷ []))
    go true e =
        let was = ok d.place in
        let same : length (at_place d.place ds) ≡ length (at_place k ds) = ap (λ j. length (at_place j ds)) (eqb-true d.place k e) in
        let more : length (at_place k (ds ++ d ∷ [])) ≡ length (at_place k ds) + 1
        = one-more k ds d ∙ ap (λ (b : Bool). length (at_place k ds) + (if b then 1 else 0)) e in
        omega (arith, was, same, more)
    go false e = omega arith

-- ---- the messages of a turn

-- what is known of a message that comes after these in its view
record IsFit (before : List Delivered) (d : Delivered) : Type 0 where
  pub place : d.place ≤ last_number
  pub position : length (at_place d.place before) ≤ last_position
  pub payload : length d.payload ≤ most_payload_bytes

module _ (ds : List Delivered) (stands : IsByPlace ds) (few : places_in ds ≤ most_places) (short : AreShort ds) where
  is-fit : (before : List Delivered) (d : Delivered) (behind : List Delivered) → ds ≡ before ++ d ∷ behind → IsFit before d
  is-fit before d behind parts =
      let whole : places_in ds ≡ fold (λ (most : ℕ) (d : Delivered). max most (d.place + 1)) (max (places_in before) (d.place + 1)) behind
      = ap places_in parts ∙ fold-append (λ (most : ℕ) (d : Delivered). max most (d.place + 1)) 0 before (d ∷ behind) in
      let least = most-at-least (max (places_in before) (d.place + 1)) behind in
      let below : d.place < places_in ds = omega (arith, whole, least) in
      let many = (stands.batches d.place below).1 in
      let split : length (at_place d.place ds) ≡ length (at_place d.place before) + length (at_place d.place (d ∷ behind))
      = ap (λ es. length (at_place d.place es)) parts
      ∙ ap length (filter-append (λ (e : Delivered). e.place == d.place) before (d ∷ behind))
      ∙ length-append (at_place d.place before) (at_place d.place (d ∷ behind)) in
      let one : 1 ≤ length (at_place d.place (d ∷ behind)) = here (d.place == d.place) (eq-eqb d.place d.place refl) in
      record {
        place = omega (arith, below, few);
        position = omega (arith, many, split, one);
        payload = short d (subst (Mem d) (sym parts) (mem-behind before (d ∷ behind) d (inl refl)));
      }
    where
      here : (b : Bool) → b ≡ true → 1 ≤ length (if b then d ∷ at_place d.place behind else at_place d.place behind)
      here true e = omega arith
      here false e = absurd cc

  messages-taken : (q : Place) (x : ℕ) → x ≤ last_number → (rest before more : List Delivered) (s : Server) → Counts s before
      → ds ≡ before ++ (more ++ rest) → AreTaken q s (map (Delivers x) more)
  unfolding after_note
  messages-taken q x within rest before [] s counts parts = tt
  messages-taken q x within rest before (d ∷ more) s counts parts =
      let fit = is-fit before d (more ++ rest) parts in
      let first : HasSpelling x d.place (position_at s.last d.place) d.payload = record {
        view = within;
        place = fit.place;
        position = (let at = counts d.place in let most = fit.position in omega (arith, at, most));
        payload = fit.payload;
      } in (
        first,
        messages-taken q x within rest (before ++ d ∷ []) more (after_message s d) (counts-more s before d counts)
            (parts ∙ sym (append_assoc before (d ∷ []) (more ++ rest))),
      )

counts-after : (q : Place) (x : ℕ) (before more : List Delivered) (s : Server) → Counts s before
    → Counts (after_notes q s (map (Delivers x) more)) (before ++ more)
unfolding after_notes after_note
counts-after q x before [] s counts = subst (Counts s) (sym (append-nil before)) counts
counts-after q x before (d ∷ more) s counts =
    subst (Counts (after_notes q (after_message s d) (map (Delivers x) more))) (append_assoc before (d ∷ []) more)
    (counts-after q x (before ++ d ∷ []) more (after_message s d) (counts-more s before d counts))

view-after : (q : Place) (x : ℕ) (more : List Delivered) (s : Server) → (after_notes q s (map (Delivers x) more)).view ≡ s.view
unfolding after_notes after_note
view-after q x [] s = refl
view-after q x (d ∷ more) s = view-after q x more (after_message s d)

-- ---- a moment

-- views are numbered by how many were left
abbrev Numbered : Process → Type 0
Numbered p = p.pool.view.number ≡ length p.left

numbered-keeps : (s : Setting) (from : List Claim) → Keeps s from Numbered
numbered-keeps s from = record {
  accepts = λ p payload ok. ok;
  perceives = λ p e ok. ok;
  hears = λ p c m e ok. ok;
  doubts = λ p conflicts ok. ok;
  signs = λ p signer st next none ok. ok;
  decides = λ p ok. ok;
  delivers = λ p ds member room e ok. ok;
  installs = λ p d decided whole ok.
      (let longer : length (install d p).left ≡ suc (length p.left) = length-snoc p.left _ in omega (arith, longer, ok));
  halts = λ p d decided member ok. ok;
}

numbered-after : (s : Setting) (p : Process) (t : Turn) → Numbered p → Numbered (after s p t)
unfolding run
numbered-after s p t ok = run-keeps s Numbered (t ∷ []) (numbered-keeps s (handed_to (t ∷ []))) p ok

record Sees (m : Moment) : Type 0 where
  pub numbered : Numbered m.process
  pub seen : m.server.view.number ≡ length m.process.left
  pub counts : Counts m.server m.process.delivered

-- told of a turn, the server sees its process as the turn leaves it; and it can take the notes, where what was delivered by then is in range
module _ (setting : Setting) (q : Place) (p : Process) (t : Turn) (s : Server) (numbered : p.pool.view.number ≡ length p.left)
    (seen : s.view.number ≡ length p.left) (counts : Counts s p.delivered) where
  abbrev r : Process
  r = after setting p t

  abbrev so : TurnSo p (after setting p t) (outcome setting p t).notes
  so = turn-so setting p t

  abbrev x : ℕ
  x = p.pool.view.number

  abbrev reported : Server
  reported = after_notes q s (map (Delivers p.pool.view.number) so.on.more)

  numbered-now : r.pool.view.number ≡ length r.left
  numbered-now = numbered-after setting p t numbered

  reported-seen : reported.view.number ≡ length p.left
  reported-seen = ap (λ (v : View). v.number) (view-after q x so.on.more s) ∙ seen

  reported-counts : Counts reported (p.delivered ++ so.on.more)
  reported-counts = counts-after q x p.delivered so.on.more s counts

  same-left : nat_lt (length p.left) (length r.left) ≡ false → length r.left ≡ length p.left
  same-left e =
      let kept = longer so.done.left r.left so.later.left in
      let same = ap length so.on.left in
      let most = ltb-false (length p.left) (length r.left) e in
      omega (arith, kept, same, most)

  abbrev tail : Bool → List Note
  tail i = note_if i (Installs r.pool.view) ++ so.rest

  after-tail : (i : Bool) → nat_lt (length p.left) (length r.left) ≡ i
      → ((after_notes q reported (tail i)).view.number ≡ length r.left) × Counts (after_notes q reported (tail i)) r.delivered
  unfolding after_notes after_note
  after-tail true e = subst (λ (u : Server). (u.view.number ≡ length r.left) × Counts u r.delivered)
      (sym (quiet-stays q (after_view q reported r.pool.view) so.rest so.quiet)) (numbered-now, λ k. omega arith)
  after-tail false e = subst (λ (u : Server). (u.view.number ≡ length r.left) × Counts u r.delivered)
      (sym (quiet-stays q reported so.rest so.quiet))
      (reported-seen ∙ sym (same-left e), subst (Counts reported) (sym (so.still (same-left e) ∙ so.on.delivered)) reported-counts)

  notes-are : after_notes q s (outcome setting p t).notes ≡ after_notes q reported (tail (nat_lt (length p.left) (length r.left)))
  notes-are = ap (after_notes q s) so.notes ∙ notes-more q s (map (Delivers p.pool.view.number) so.on.more) _

  sees-after : (server : Server) → server ≡ after_notes q s (outcome setting p t).notes
      → (server.view.number ≡ length r.left) × Counts server r.delivered
  sees-after server is = subst (λ (u : Server). (u.view.number ≡ length r.left) × Counts u r.delivered) (sym (is ∙ notes-are))
      (after-tail (nat_lt (length p.left) (length r.left)) refl)

  module _ (ranged : IsRanged (after setting p t)) where
    -- what was delivered in the view by then, and maybe more
    abbrev all : List Delivered
    all = in_place (map (λ (l : Left). l.delivered) r.left ++ r.delivered ∷ []) (length so.done.left)

    is-all : Mem all (deliveries_of r)
    is-all =
        let kept = longer so.done.left r.left so.later.left in
        let long : length (deliveries_of r) ≡ length (map (λ (l : Left). l.delivered) r.left) + 1
        = length-append (map (λ (l : Left). l.delivered) r.left) (r.delivered ∷ []) in
        let mapped = length-map r.left (λ (l : Left). l.delivered) in
        index-mem (deliveries_of r) (length so.done.left) [] (omega (arith, kept, long, mapped))

    all-is : all ≡ p.delivered ++ (so.on.more ++ so.later.here.0)
    all-is = sym so.later.here.1 ∙ ap (λ ds. ds ++ so.later.here.0) so.on.delivered
        ∙ append_assoc p.delivered so.on.more so.later.here.0

    first-within : p.pool.view.number ≤ last_number
    first-within =
        let kept = longer so.done.left r.left so.later.left in
        let same = ap length so.on.left in
        let now = numbered-now in
        let most = ranged.number in
        omega (arith, kept, same, now, most, numbered)

    first-taken : AreTaken q s (map (Delivers p.pool.view.number) so.on.more)
    first-taken = messages-taken all (All-mem IsByPlace (deliveries_of r) all ranged.by_place is-all)
        (All-mem (λ ds. places_in ds ≤ most_places) (deliveries_of r) all ranged.few_places is-all)
        (All-mem AreShort (deliveries_of r) all ranged.short is-all)
        q x first-within so.later.here.0 p.delivered so.on.more s counts all-is

    tail-taken : (i : Bool) → nat_lt (length p.left) (length r.left) ≡ i → AreTaken q reported (tail i)
    unfolding after_note
    tail-taken true e =
        let further = ltb-true (length p.left) (length r.left) e in
        let was = reported-seen in
        let now = numbered-now in
        (((ranged.number, ranged.view), omega (arith, further, was, now)), quiet-taken q (after_view q reported r.pool.view) so.rest so.quiet)
    tail-taken false e = quiet-taken q reported so.rest so.quiet

    pub all-taken : AreTaken q s (outcome setting p t).notes
    all-taken = subst (AreTaken q s) (sym so.notes) (taken-more q s (map (Delivers p.pool.view.number) so.on.more)
        (tail (nat_lt (length p.left) (length r.left))) first-taken (tail-taken (nat_lt (length p.left) (length r.left)) refl))

-- ---- a word

offer-sees : (valid : Valid) (q : Place) (here : List (List ℕ)) (s : Server) (bytes : List ℕ) → (after_offer valid q here s bytes).view ≡ s.view
unfolding after_offer
offer-sees valid q here s bytes = go (state_record_of bytes)
  where
    by : (r : StateRecord) (k : Taken) → (after_taken here s r k).view ≡ s.view
    by r taken.Ready = refl
    by r (taken.Counted n) = refl
    by r taken.OtherView = refl
    by r taken.Stranger = refl
    by r taken.Unsigned = refl
    by r taken.Known = refl

    either : (b : Bool) (s' : Server) → s'.view ≡ s.view → (if b then s else s').view ≡ s.view
    either true s' e = refl
    either false s' e = e

    go : (o : Reading StateRecord) → let s' : Server = elim o [
      | Err fault ↦ s
      | Ok r ↦ if is_some s.store || not (is_member s.view q.me) then s else after_taken here s r (taken_by valid q s r)
    ] in s'.view ≡ s.view
    go (Err fault) = refl
    go (Ok r) = either (is_some s.store || not (is_member s.view q.me)) (after_taken here s r (taken_by valid q s r)) (by r (taken_by valid q s r))

-- ---- along the steps

module _ (setting : Setting) (q : Place) where
  with-step : (m : Moment) (step : Step) → Sees m → Sees (after_step setting q m step)
  unfolding after_step worded
  with-step m (Happens t) ok =
      let now = sees-after setting q m.process t m.server ok.numbered ok.seen ok.counts _ refl in
      record { numbered = numbered-after setting m.process t ok.numbered; seen = now.0; counts = now.1 }
  with-step m (TakesWord Give) ok = record { numbered = ok.numbered; seen = ok.seen; counts = ok.counts }
  with-step m (TakesWord (State bytes)) ok = record {
    numbered = ok.numbered;
    seen = ap (λ (v : View). v.number) (offer-sees setting.valid q (payloads_of m.process.delivered) m.server bytes) ∙ ok.seen;
    counts = λ k. subst (λ last. position_at last k ≤ length (at_place k m.process.delivered))
        (sym (last-kept setting.valid q (payloads_of m.process.delivered) m.server bytes)) (ok.counts k);
  }
  with-step m (TakesWord (StateKey p key)) ok = record { numbered = ok.numbered; seen = ok.seen; counts = ok.counts }

  sees-along : (steps : List Step) (m : Moment) → Sees m → Sees (reached setting q m steps)
  unfolding reached
  sees-along [] m ok = ok
  sees-along (step ∷ steps) m ok = sees-along steps (after_step setting q m step) (with-step m step ok)

  process-is : (steps : List Step) (m : Moment) → (reached setting q m steps).process ≡ run setting m.process (turns_in steps)
  unfolding reached after_step run
  process-is [] m = refl
  process-is (Happens t ∷ steps) m = process-is steps (after_step setting q m (Happens t))
  process-is (TakesWord word ∷ steps) m = process-is steps (after_step setting q m (TakesWord word))

begins : (p : Process) → Numbered p → Sees (begin p)
unfolding server_of
begins p numbered = record { numbered = numbered; seen = numbered; counts = λ k. omega arith }

-- ---- the laws

one-turn : (s : Setting) (p : Process) (t : Turn) → run s p (t ∷ []) ≡ after s p t
unfolding run
one-turn s p t = refl

pub notes_are_taken : NotesAreTaken
notes_are_taken s q me limit earlier steps t reported others note zeroth genesis handed notes =
    let started : Process = start s me limit in
    let begun : Process = run s started earlier in
    let m : Moment = reached s q (begin begun) steps in
    let numbered = run-keeps s Numbered earlier (numbered-keeps s (handed_to earlier)) started zeroth in
    let sees = sees-along s q steps (begin begun) (begins begun numbered) in
    let ends : run s started (earlier ++ (turns_in steps ++ t ∷ [])) ≡ after s m.process t
    = run-append s started earlier (turns_in steps ++ t ∷ [])
    ∙ run-append s begun (turns_in steps) (t ∷ [])
    ∙ ap (λ (p : Process). run s p (t ∷ [])) (sym (process-is s q steps (begin begun)))
    ∙ one-turn s m.process t in
    let ranged = subst IsRanged ends (is-ranged s me limit (earlier ++ (turns_in steps ++ t ∷ [])) zeroth genesis handed) in
    takes-it q m.server reported others note
    (subst (AreTaken q m.server) notes (all-taken s q m.process t m.server sees.numbered sees.seen sees.counts ranged))

pub servers_can_take : ServersCanTake
servers_can_take q s x (code.Delivered view place sender number payload) is takes =
    record {
      view = takes.view;
      place = takes.place;
      position = subst (λ last. position_at last place ≤ last_position) is.replies.last takes.position;
      payload = takes.payload;
    }
servers_can_take q s x (code.Installed view members) is takes =
    (takes.0, (let later = takes.1 in let same = ap (λ (v : View). v.number) is.gives.view in omega (arith, later, same)))
servers_can_take q s x (code.Liar p) is takes = tt
servers_can_take q s x code.Spent is takes = tt
servers_can_take q s x (code.Halted delivered cut) is takes = tt
