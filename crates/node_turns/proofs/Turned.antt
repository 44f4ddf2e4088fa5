-- A whole turn that was let out.
use Rattle.std.proofs.Common.{◌≡◌, ℕ, List, [], ◌∷◌, ◌++◌, map, refl, sym, ap, subst, append_assoc, ◌∙◌}
use Rattle.std.specs.Prelude.{flat_map, zip}
use Rattle.std.proofs.lemmas.Grind.{flat_map-append}
use Rattle.std.proofs.lemmas.List.Folds.{flat_map-map}
use Rattle.group_defs.specs.Process.{Process}
use Rattle.group_defs.specs.Sending as parcels
use Rattle.group_defs.specs.Sending.{frames_of}
use Rattle.group_defs.specs.Events as defs
use Rattle.member_events.specs.declared.events.Outcome.{Outcome}
use Rattle.member_events.specs.declared.events.Sending.{Sending}
use Rattle.member_events.specs.declared.events.Note.{Note}
use Rattle.node_service.specs.Lines.{frame_to, frames_to, IsOutcome, note}
use Rattle.node_defs.specs.Casts.{Cast, letters_of}
use Rattle.node_defs.specs.Nodes.{Leaving, Notes, leaving_of}
use Rattle.node_traces.specs.Outside.{LinkSeen}
use Rattle.node_traces.specs.Service.{Asked, HeardBy}
use Rattle.letting_laws.specs.Letting.{reported_by, edge, LetOut, HasBegun}
use Rattle.node_turns.specs.Letters.{letters_to, letters_in, sends_of, tells_of, LetsTurnOut, ReportsNotes}
use Rattle.letting_laws.proofs.Joined.{let-both, begun-after, begun-front}
use Rattle.node_turns.proofs.Reported.{reported-anywhere}

-- ---- letters

-- the letters of a frame list
one-sending : (out : parcels.Sending) (frames : List (List ℕ))
    → flat_map (λ bytes. map (λ (q : ℕ). (q, bytes)) out.to) frames ≡ flat_map letters_to (map (λ bytes. (out.to, bytes)) frames)
one-sending out frames = sym (flat_map-map letters_to (λ (bytes : List ℕ). (out.to, bytes)) frames)

all-sendings : (outs : List parcels.Sending)
    → flat_map (λ (out : parcels.Sending). flat_map (λ bytes. map (λ (q : ℕ). (q, bytes)) out.to) (frames_of out.parcel)) outs
    ≡ flat_map letters_to (flat_map frames_to outs)
all-sendings [] = refl
all-sendings (out ∷ outs) =
    ap (λ (ls : List (ℕ × List ℕ)). ls
    ++ flat_map (λ (out : parcels.Sending). flat_map (λ bytes. map (λ (q : ℕ). (q, bytes)) out.to) (frames_of out.parcel)) outs)
    (one-sending out (frames_of out.parcel))
    ∙ ap (λ (ls : List (ℕ × List ℕ)). flat_map letters_to (frames_to out) ++ ls) (all-sendings outs)
    ∙ sym (flat_map-append letters_to (frames_to out) (flat_map frames_to outs))

-- the letters of the definitions are those of the code
pub letters-are : (o : defs.Outcome) (r : Outcome) → IsOutcome o r → letters_of o ≡ letters_in r.sends.items
letters-are o r is = all-sendings o.sends ∙ ap (flat_map letters_to) is.sends
    ∙ flat_map-map letters_to frame_to r.sends.items

notes-are : (me : ℕ) (ns : List Note) → map (Notes me) (map note ns) ≡ tells_of me ns
notes-are me [] = refl
notes-are me (n ∷ ns) = ap (λ (ls : List Leaving). Notes me (note n) ∷ ls) (notes-are me ns)

-- what goes out of a turn
pub leaving-is : (me : ℕ) (o : defs.Outcome) (r : Outcome) → IsOutcome o r
    → sends_of me (letters_in r.sends.items) ++ tells_of me r.notes.items ≡ leaving_of me o
leaving-is me o r is =
    ap (λ (ls : List Leaving). ls ++ tells_of me r.notes.items) (ap (sends_of me) (sym (letters-are o r is)))
    ∙ ap (λ (ls : List Leaving). sends_of me (letters_of o) ++ ls) (sym (notes-are me r.notes.items) ∙ ap (map (Notes me)) (sym is.reported))

-- ---- all of it

-- what is lent of the outcome is what is in it
lent-is : (me : ℕ) (o : defs.Outcome) (r : Outcome) (sends : List Sending) (ns : List Note) → IsOutcome o r → sends ≡ r.sends.items
    → ns ≡ r.notes.items → sends_of me (letters_in sends) ++ tells_of me ns ≡ leaving_of me o
lent-is me o r sends ns is sends_are notes_are =
    (λ i. sends_of me (letters_in (sends_are i)) ++ tells_of me (notes_are i)) ∙ leaving-is me o r is

-- the letters went out, and the notes were told: as the code has it, with the lines of failed sends, none at first
pub turn-out : (c : Cast) (at : ℕ → Process) (me : ℕ) (o : defs.Outcome) (r : Outcome) (k l : LinkSeen) (sends : List Sending)
    (ns : List Note)
    (first late lent old new : List ℕ) (h i : List Asked) → IsOutcome o r → sends ≡ r.sends.items → ns ≡ r.notes.items → first ≡ []
    → lent ≡ late → LetOut c at (sends_of me (letters_in sends)) (edge k [] first h) (edge l [] late h)
    → ReportsNotes c at me ns h i old lent new → LetsTurnOut c at (leaving_of me o) k l h i old new
turn-out c at me o r k l sends ns first late lent old new h i is sends_are notes_are none lent_is sent reported =
    let out = reported.out k in
    let text = flat_map reported_by (zip (tells_of me ns) out.answers) in
    record {
      text = text;
      late = late;
      out = subst (λ ls. LetOut c at ls (edge k [] [] h) (edge l text late i)) (lent-is me o r sends ns is sends_are notes_are)
          (let-both c at (sends_of me (letters_in sends)) (tells_of me ns) (edge k [] [] h) (edge l [] late h) (edge l text late i)
          (subst (λ (t : List ℕ). LetOut c at (sends_of me (letters_in sends)) (edge k [] t h) (edge l [] late h)) none sent)
          (reported-anywhere c at me ns k l old reported.reported [] late h i out));
      whole = reported.whole ∙ (λ j. out.text j ++ lent_is j) ∙ append_assoc old text late;
    }

-- some letters went out
pub turn-stopped : {V : Type 0} (heard : V → List Asked → Type 0) (service : V) (c : Cast) (at : ℕ → Process) (me : ℕ) (o : defs.Outcome)
    (r : Outcome) (k l : LinkSeen) (sends : List Sending) (h : List Asked) → IsOutcome o r → sends ≡ r.sends.items → heard service h
    → HasBegun c at (sends_of me (letters_in sends)) k h l h → HeardBy heard service (λ i. HasBegun c at (leaving_of me o) k h l i)
turn-stopped heard service c at me o r k l sends h is sends_are has some = record {
  history = h;
  has = has;
  holds = subst (λ ls. HasBegun c at ls k h l h) (lent-is me o r sends r.notes.items is sends_are refl)
      (begun-front c at (sends_of me (letters_in sends)) (tells_of me r.notes.items) k l h h some);
}

-- all letters did and some of the notes, and a line could not be kept
pub turn-untold : {V : Type 0} (heard : V → List Asked → Type 0) (service : V) (c : Cast) (at : ℕ → Process) (me : ℕ) (o : defs.Outcome)
    (r : Outcome) (k l : LinkSeen) (sends : List Sending) (ns : List Note) (first late : List ℕ) (h : List Asked) → IsOutcome o r
    → sends ≡ r.sends.items → ns ≡ r.notes.items → LetOut c at (sends_of me (letters_in sends)) (edge k [] first h) (edge l [] late h)
    → HeardBy heard service (λ i. HasBegun c at (tells_of me ns) l h l i)
    → HeardBy heard service (λ i. HasBegun c at (leaving_of me o) k h l i)
turn-untold heard service c at me o r k l sends ns first late h is sends_are notes_are sent some = record {
  history = some.history;
  has = some.has;
  holds = subst (λ ls. HasBegun c at ls k h l some.history) (lent-is me o r sends ns is sends_are notes_are)
      (begun-after c at (sends_of me (letters_in sends)) (tells_of me ns) (edge k [] first h) (edge l [] late h) l some.history sent some.holds);
}

-- the whole turn went out, and the service has heard of it
pub turn-heard : {V : Type 0} (heard : V → List Asked → Type 0) (service : V) (c : Cast) (at : ℕ → Process) (me : ℕ) (o : defs.Outcome)
    (r : Outcome) (k l : LinkSeen) (sends : List Sending) (ns : List Note) (first late lent old new : List ℕ) (h : List Asked) → IsOutcome o r
    → sends ≡ r.sends.items → ns ≡ r.notes.items → first ≡ [] → lent ≡ late
    → LetOut c at (sends_of me (letters_in sends)) (edge k [] first h) (edge l [] late h)
    → HeardBy heard service (λ i. ReportsNotes c at me ns h i old lent new)
    → HeardBy heard service (λ i. LetsTurnOut c at (leaving_of me o) k l h i old new)
turn-heard heard service c at me o r k l sends ns first late lent old new h is sends_are notes_are none lent_is sent reported = record {
  history = reported.history;
  has = reported.has;
  holds = turn-out c at me o r k l sends ns first late lent old new h reported.history is sends_are notes_are none lent_is sent reported.holds;
}
