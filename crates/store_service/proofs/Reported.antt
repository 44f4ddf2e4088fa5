-- What a note makes of the servers, and what is said of it.
use Rattle.std.proofs.Common.{◌≡◌, ℕ, ◌<◌, List, [], ◌++◌, get_or, length, Option, Some, None, refl, sym, ap, subst, ◌∙◌}
use Rattle.std.specs.Prelude.{◌==◌, slice_set}
use Rattle.std.specs.List.{position_from}
use Rattle.std.specs.Option.{option_map_or}
use Rattle.node_service.specs.Histories as defs
use Rattle.node_service.specs.Words.{note}
use Rattle.store_server.specs.Notes.{Note, Delivered, Installed, Liar, Spent, Halted, note_of}
use Rattle.store_server.specs.Places as plain
use Rattle.store_server.specs.Places.{Place, after_note, noted_text}
use Rattle.store_server.specs.Serving.{IsServer}
use Rattle.store_server.specs.declared.server.Server.{Server}
use Rattle.store_service.specs.Service.{Serving, after_noted, noted, with_server}
use Rattle.store_service.specs.Served.{AreThese, whose}
use Rattle.store_service.proofs.Found.{none-at, same-server, spot-at}

-- the words of a node and those of a server say the same of a note
pub same-note : (n : Note) → note_of n ≡ note n
same-note (Delivered view place sender number payload) = refl
same-note (Installed view members) = refl
same-note (Liar p) = refl
same-note Spent = refl
same-note (Halted delivered cut) = refl

-- so much was said, and these are the servers then
abbrev pub NoteIsWritten : ℕ → defs.Note → List Serving → List ℕ → List Server → Type 0
NoteIsWritten p n xs text new = (text ≡ noted p n xs) × AreThese (after_noted p n xs) new

module _ (p : ℕ) (n : Note) (xs : List Serving) (old : List Server) (are : AreThese xs old) where
  -- the process has its server at this place
  pub reported-at : (at : ℕ) (server new : Server) (before text : List ℕ) → Some at ≡ position_from (λ x. whose x == p) 0 old
      → at < length old → server ≡ get_or old at server → before ≡ []
      → ((q : Place) (s : plain.Server) → IsServer q s server → IsServer q (after_note q s (note_of n)) new)
      → ((q : Place) (s : plain.Server) → IsServer q s server → text ≡ before ++ noted_text q s (note_of n))
      → NoteIsWritten p (note n) xs text (slice_set old at new)
  reported-at at server new before text is low is-at none after reported =
      let spot = spot-at p xs old at are is in
      let x = spot.one in
      let here : IsServer x.place x.server server =
      subst (IsServer x.place x.server) (sym (same-server old at server spot.server low is-at spot.at)) spot.is in
      subst (λ (m : defs.Note). NoteIsWritten p m xs text (slice_set old at new)) (same-note n) (
        reported x.place x.server here ∙ ap (λ (t : List ℕ). t ++ noted_text x.place x.server (note_of n)) none
            ∙ sym (ap (λ (o : Option Serving). option_map_or (λ y. noted_text y.place y.server (note_of n)) o []) spot.found),
        subst (λ (ys : List Serving). AreThese ys (slice_set old at new))
            (sym (ap (λ (o : Option Serving). option_map_or (λ y. with_server p (after_note y.place y.server (note_of n)) xs) o xs) spot.found))
            (spot.changed (after_note x.place x.server (note_of n)) new (after x.place x.server here)),
      )

  -- it has none
  pub reported-none : (text : List ℕ) → None ≡ position_from (λ x. whose x == p) 0 old → text ≡ [] → NoteIsWritten p (note n) xs text old
  reported-none text is none =
      let found = none-at p xs old are is in (
        none ∙ sym (ap (λ (o : Option Serving). option_map_or (λ y. noted_text y.place y.server (note n)) o []) found),
        subst (λ (ys : List Serving). AreThese ys old)
            (sym (ap (λ (o : Option Serving). option_map_or (λ y. with_server p (after_note y.place y.server (note n)) xs) o xs) found)) are,
      )
