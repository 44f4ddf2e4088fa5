-- Notes that were told, to the lines and to the service.
use Rattle.std.proofs.Common.{◌≡◌, ℕ, List, [], ◌∷◌, ◌++◌, length, get_or, take, drop, refl, sym, ap, subst, append_assoc, ◌<◌, ◌+◌, ◌≤◌, ◌∙◌}
use Rattle.std.specs.Prelude.{flat_map, zip, None}
use Rattle.std.specs.List.{AllZip}
use Rattle.std.proofs.lemmas.List.{append-nil, map-append, take_all, take_more, take-append-drop}
use Rattle.group_defs.specs.Events as defs
use Rattle.group_defs.specs.Process.{Process}
use Rattle.member_events.specs.declared.events.Note.{Note}
use Rattle.node_service.specs.Lines.{note}
use Rattle.node_defs.specs.Casts.{Cast}
use Rattle.node_defs.specs.Lines.{note_line}
use Rattle.node_defs.specs.Nodes.{Leaving, Notes, NotesOf, Answer, Said}
use Rattle.node_traces.specs.Ways.{Through}
use Rattle.node_traces.specs.Outside.{LinkSeen, LinkStep, LinkAnswered}
use Rattle.node_traces.specs.Service.{Asked, HeardBy, one_asked}
use Rattle.letting_laws.specs.Letting.{Fits, asked, reported_by, failed_by, edge, LetOut, HasBegun}
use Rattle.node_service.specs.Answers.{HasAnswered}
use Rattle.node_turns.specs.Letters.{tells_of, ReportsNotes}
use Rattle.letting_laws.proofs.Joined.{let-both, begun-after, begun-front, begun-with}

-- ---- one note

-- its line, and after it what the service said of it
pub reported-one : (c : Cast) (at : ℕ → Process) (me : ℕ) (n : Note) (link : LinkSeen) (old pushed new text : List ℕ) (h : List Asked)
    → pushed ≡ old ++ note_line me (note n) → new ≡ pushed ++ text
    → LetOut c at (tells_of me (n ∷ [])) (edge link old [] h)
    (edge link new [] (h ++ one_asked c (at me ∷ []) (NotesOf me (note n)) (Said text [])))
unfolding Through
reported-one c at me n link old pushed new text h line more = record {
  answers = Said text [] ∷ [];
  each = (tt, tt);
  link = (link, refl, refl);
  text = more ∙ ap (λ (t : List ℕ). t ++ text) line ∙ append_assoc old (note_line me (note n)) text
      ∙ ap (λ (t : List ℕ). old ++ t) (sym (append-nil (note_line me (note n) ++ text)));
  late = refl;
  service = refl;
}

-- as the service has it
pub reported-by : {V : Type 0} (heard : V → List Asked → Type 0) (service : V) (c : Cast) (at : ℕ → Process) (me : ℕ) (n : Note)
    (link : LinkSeen)
    (old pushed new : List ℕ) (h : List Asked) → pushed ≡ old ++ note_line me (note n)
    → HasAnswered heard service h c (at me ∷ []) (NotesOf me (note n)) pushed new
    → HeardBy heard service (λ i. LetOut c at (tells_of me (n ∷ [])) (edge link old [] h) (edge link new [] i))
reported-by heard service c at me n link old pushed new h line tells = record {
  history = h ++ one_asked c (at me ∷ []) (NotesOf me (note n)) (Said tells.text []);
  has = tells.has;
  holds = reported-one c at me n link old pushed new tells.text h line tells.reported;
}

-- none of it went out
pub begun-nothing : (c : Cast) (at : ℕ → Process) (ls : List Leaving) (k : LinkSeen) (h : List Asked) → HasBegun c at ls k h k h
unfolding Through
begun-nothing c at ls k h = record {
  first = [];
  others = ls;
  splits = refl;
  answers = [];
  each = tt;
  link = refl;
  service = sym (append-nil h);
}

pub untold-by : {V : Type 0} (heard : V → List Asked → Type 0) (service : V) (c : Cast) (at : ℕ → Process) (ls : List Leaving)
    (link : LinkSeen)
    (h : List Asked) → heard service h → HeardBy heard service (λ i. HasBegun c at ls link h link i)
untold-by heard service c at ls link h has = record { history = h; has = has; holds = begun-nothing c at ls link h }

-- ---- one note after the other

tells-append : (me : ℕ) (xs ys : List Note) → tells_of me (xs ++ ys) ≡ tells_of me xs ++ tells_of me ys
tells-append me xs ys = map-append (λ (n : Note). Notes me (note n)) xs ys

one-note : (ns : List Note) (i : ℕ) (n : Note) → i < length ns → n ≡ get_or ns i n → take (i + 1) ns ≡ take i ns ++ n ∷ []
one-note ns i n lt is = take_more ns i n lt ∙ ap (λ (m : Note). take i ns ++ m ∷ []) (sym is)

-- as the loop has it: this is the note at the place
pub notes-step : {V : Type 0} (heard : V → List Asked → Type 0) (service : V) (c : Cast) (at : ℕ → Process) (me : ℕ) (ns : List Note)
    (i : ℕ)
    (n : Note) (link : LinkSeen) (old mid new : List ℕ) (h j : List Asked) → i < length ns → n ≡ get_or ns i n
    → LetOut c at (tells_of me (take i ns)) (edge link old [] h) (edge link mid [] j)
    → HeardBy heard service (λ k. LetOut c at (tells_of me (n ∷ [])) (edge link mid [] j) (edge link new [] k))
    → HeardBy heard service (λ k. LetOut c at (tells_of me (take (i + 1) ns)) (edge link old [] h) (edge link new [] k))
notes-step heard service c at me ns i n link old mid new h j lt is before one = record {
  history = one.history;
  has = one.has;
  holds = subst (λ ls. LetOut c at ls (edge link old [] h) (edge link new [] one.history))
      (sym (tells-append me (take i ns) (n ∷ [])) ∙ ap (tells_of me) (sym (one-note ns i n lt is)))
      (let-both c at (tells_of me (take i ns)) (tells_of me (n ∷ [])) (edge link old [] h) (edge link mid [] j) (edge link new [] one.history)
      before one.holds);
}

pub notes-stop : {V : Type 0} (heard : V → List Asked → Type 0) (service : V) (c : Cast) (at : ℕ → Process) (me : ℕ) (ns : List Note)
    (i : ℕ)
    (n : Note) (link : LinkSeen) (old mid : List ℕ) (h j : List Asked) → i < length ns → n ≡ get_or ns i n
    → LetOut c at (tells_of me (take i ns)) (edge link old [] h) (edge link mid [] j)
    → HeardBy heard service (λ k. HasBegun c at (tells_of me (n ∷ [])) link j link k)
    → HeardBy heard service (λ k. HasBegun c at (tells_of me ns) link h link k)
notes-stop heard service c at me ns i n link old mid h j lt is before some = record {
  history = some.history;
  has = some.has;
  holds = subst (λ ls. HasBegun c at ls link h link some.history) whole
      (begun-front c at (tells_of me (take i ns) ++ tells_of me (n ∷ [])) (tells_of me (drop (i + 1) ns)) link link h some.history
      (begun-after c at (tells_of me (take i ns)) (tells_of me (n ∷ [])) (edge link old [] h) (edge link mid [] j) link some.history before
      some.holds));
}
  where
    whole : (tells_of me (take i ns) ++ tells_of me (n ∷ [])) ++ tells_of me (drop (i + 1) ns) ≡ tells_of me ns
    whole = ap (λ ls. ls ++ tells_of me (drop (i + 1) ns)) (sym (tells-append me (take i ns) (n ∷ [])))
        ∙ sym (tells-append me (take i ns ++ n ∷ []) (drop (i + 1) ns))
        ∙ ap (λ (ms : List Note). tells_of me (ms ++ drop (i + 1) ns)) (sym (one-note ns i n lt is))
        ∙ ap (tells_of me) (take-append-drop (i + 1) ns)

pub notes-ended : {V : Type 0} (heard : V → List Asked → Type 0) (service : V) (c : Cast) (at : ℕ → Process) (me : ℕ) (ns : List Note)
    (i : ℕ)
    (link : LinkSeen) (old new : List ℕ) (h : List Asked) → length ns ≤ i
    → HeardBy heard service (λ k. LetOut c at (tells_of me (take i ns)) (edge link old [] h) (edge link new [] k))
    → HeardBy heard service (λ k. LetOut c at (tells_of me ns) (edge link old [] h) (edge link new [] k))
notes-ended heard service c at me ns i link old new h past all = record {
  history = all.history;
  has = all.has;
  holds = subst (λ (ms : List Note). LetOut c at (tells_of me ms) (edge link old [] h) (edge link new [] all.history)) (take_all i ns past)
      all.holds;
}

-- ---- whatever the link is

-- a note does nothing to it
note-still : (p : ℕ) (n : defs.Note) (a : Answer) (l : LinkSeen) → Fits (Notes p n) a → LinkStep l (NotesOf p n, a) l
note-still p n (Said text sends) l fits = refl
note-still p n _ l fits = absurd fits

notes-still : (c : Cast) (me : ℕ) (ns : List Note) (answers : List Answer) (l : LinkSeen) → AllZip Fits (tells_of me ns) answers
    → LinkAnswered l (asked c (tells_of me ns) answers) l
unfolding Through
notes-still c me [] [] l each = refl
notes-still c me [] (a ∷ more) l each = absurd each
notes-still c me (n ∷ ns) [] l each = absurd each
notes-still c me (n ∷ ns) (a ∷ more) l each = (l, note-still me (note n) a l each.0, notes-still c me ns more l each.1)

-- and no line tells that its send failed
notes-late : (me : ℕ) (ns : List Note) (answers : List Answer) → flat_map failed_by (zip (tells_of me ns) answers) ≡ []
notes-late me [] [] = refl
notes-late me [] (a ∷ more) = refl
notes-late me (n ∷ ns) [] = refl
notes-late me (n ∷ ns) (a ∷ more) = notes-late me ns more

-- so they are told so beside any link, after any lines, and before any lines of failed sends
pub reported-anywhere : (c : Cast) (at : ℕ → Process) (me : ℕ) (ns : List Note) (k l : LinkSeen) (old reported first late : List ℕ)
    (h i : List Asked)
    → (out : LetOut c at (tells_of me ns) (edge k old [] h) (edge k reported [] i))
    → LetOut c at (tells_of me ns) (edge l first late h) (edge l (first ++ flat_map reported_by (zip (tells_of me ns) out.answers)) late i)
reported-anywhere c at me ns k l old reported first late h i out = record {
  answers = out.answers;
  each = out.each;
  link = notes-still c me ns out.answers l out.each;
  text = refl;
  late = sym (append-nil late) ∙ ap (λ (t : List ℕ). late ++ t) (sym (notes-late me ns out.answers));
  service = out.service;
}

-- ---- all of them

no-link : LinkSeen
no-link = record { sent = None; coming = None; faults = 0 }

-- as the code has it: with the lines that follow
pub tells-notes : (c : Cast) (at : ℕ → Process) (me : ℕ) (ns : List Note) (k : LinkSeen) (h i : List Asked) (old reported late new : List ℕ)
    → LetOut c at (tells_of me ns) (edge k old [] h) (edge k reported [] i) → new ≡ reported ++ late → ReportsNotes c at me ns h i old late new
tells-notes c at me ns k h i old reported late new out is = record {
  reported = reported;
  out = λ link. subst (λ (t : List ℕ). LetOut c at (tells_of me ns) (edge link old [] h) (edge link t [] i)) (sym out.text)
      (reported-anywhere c at me ns k link old reported old [] h i out);
  whole = is;
}

pub heard-notes : {V : Type 0} (heard : V → List Asked → Type 0) (service : V) (c : Cast) (at : ℕ → Process) (me : ℕ) (ns : List Note)
    (h : List Asked) (old reported late new : List ℕ)
    → ((k : LinkSeen) → HeardBy heard service (λ i. LetOut c at (tells_of me ns) (edge k old [] h) (edge k reported [] i))) → new ≡ reported ++ late
    → HeardBy heard service (λ i. ReportsNotes c at me ns h i old late new)
heard-notes heard service c at me ns h old reported late new out is =
    let any = out no-link in
    record { history = any.history; has = any.has; holds = tells-notes c at me ns no-link h any.history old reported late new any.holds is }

-- all were told, and the lines after them could not be kept
pub heard-all : {V : Type 0} (heard : V → List Asked → Type 0) (service : V) (c : Cast) (at : ℕ → Process) (me : ℕ) (ns : List Note)
    (link : LinkSeen) (h : List Asked) (old reported : List ℕ)
    → HeardBy heard service (λ i. LetOut c at (tells_of me ns) (edge link old [] h) (edge link reported [] i))
    → HeardBy heard service (λ i. HasBegun c at (tells_of me ns) link h link i)
heard-all heard service c at me ns link h old reported all = record {
  history = all.history;
  has = all.has;
  holds = begun-with c at (tells_of me ns) (edge link old [] h) (edge link reported [] all.history) all.holds;
}
