-- What a line makes of the servers, and what it writes.
use Rattle.std.proofs.Common.{◌≡◌, ℕ, ◌<◌, List, [], get_or, length, Bool, true, false, Option, Some, None, refl, sym, ap, subst, ◌∙◌}
use Rattle.std.specs.Prelude.{◌==◌, if◌then◌else◌, slice_set, option_and_then, option_map}
use Rattle.std.specs.Bool.{then_some}
use Rattle.std.specs.List.{position_from}
use Rattle.std.specs.Option.{option_map_or}
use Rattle.node_service.specs.Histories.{Cast}
use Rattle.store_server.specs.Places as plain
use Rattle.store_server.specs.Places.{Place, Secret, line_worded}
use Rattle.store_server.specs.Serving.{IsHeard, IsServer}
use Rattle.store_server.specs.declared.server.Server.{Server}
use Rattle.store_service.specs.Service.{Serving, after_worded, kit_in, serving, with_server, worded, worded_of}
use Rattle.store_service.specs.Served.{AreThese, whose}
use Rattle.store_service.proofs.Found.{Spot, none-at, same-server, spot-at}

pub some-where : {A B : Type 0} (f : A → B) (b : Bool) (x : A) → option_map f (then_some b x) ≡ (if b then Some (f x) else None)
some-where f true x = refl
some-where f false x = refl

module _ (c : Cast) (here : List (List ℕ)) (p : ℕ) (line : List ℕ) (xs : List Serving) (old : List Server) (are : AreThese xs old) where
  -- so it was answered, and these are the servers then
  abbrev pub Answered : Option (List ℕ) → List Server → Type 0
  Answered text new = (text ≡ option_map (λ w. w.0) (worded c here p line xs)) × AreThese (after_worded c here p line xs) new

  so-answered : (o : Option (List ℕ × plain.Server)) → worded c here p line xs ≡ o → (text : Option (List ℕ)) (new : List Server)
      → text ≡ option_map (λ w. w.0) o → AreThese (option_map_or (λ w. with_server p w.1 xs) o xs) new → Answered text new
  so-answered o is text new reported these = (
    reported ∙ sym (ap (λ (u : Option (List ℕ × plain.Server)). option_map (λ w. w.0) u) is),
    subst (λ (ys : List Serving). AreThese ys new)
        (sym (ap (λ (u : Option (List ℕ × plain.Server)). option_map_or (λ w. with_server p w.1 xs) u xs) is)) these,
  )

  -- the process has no server
  pub no-server : None ≡ position_from (λ x. whose x == p) 0 old → Answered None old
  no-server is =
      so-answered None (ap (λ (o : Option Serving). option_and_then (worded_of c here p line) o) (none-at p xs old are is)) None old refl are

  -- the cast has no secret of it
  pub no-secret : c.secret p ≡ None → Answered None old
  no-secret has = so-answered None (go (serving p xs)) None old refl are
    where
      go : (o : Option Serving) → option_and_then (worded_of c here p line) o ≡ None
      go None = refl
      go (Some x) = ap (λ (o : Option Secret). option_and_then (λ secret. line_worded (kit_in c secret) x.place here x.server line) o) has

  module _ (at : ℕ) (is : Some at ≡ position_from (λ x. whose x == p) 0 old) (secret : Secret) (has : c.secret p ≡ Some secret)
      (server new : Server) (low : at < length old) (is-at : server ≡ get_or old at server) where
    spot : Spot p xs old at
    spot = spot-at p xs old at are is

    here-is : IsServer spot.one.place spot.one.server server
    here-is = subst (IsServer spot.one.place spot.one.server) (sym (same-server old at server spot.server low is-at spot.at)) spot.is

    worded-so : worded c here p line xs ≡ line_worded (kit_in c secret) spot.one.place here spot.one.server line
    worded-so =
        ap (λ (o : Option Serving). option_and_then (worded_of c here p line) o) spot.found
        ∙ ap (λ (o : Option Secret). option_and_then
        (λ key. line_worded (kit_in c key) spot.one.place here spot.one.server line) o) has

    go-on : (text : List ℕ) (heard : Bool) (o : Option (List ℕ × plain.Server)) → worded c here p line xs ≡ o
        → IsHeard spot.one.place spot.one.server [] text new heard o
        → Answered (if heard then Some text else None) (slice_set old at new)
    go-on text heard None so h = so-answered None so (if heard then Some text else None) (slice_set old at new)
        (ap (λ (b : Bool). if b then Some text else None) h.0) (spot.same new h.2)
    go-on text heard (Some w) so h = so-answered (Some w) so (if heard then Some text else None) (slice_set old at new)
        (ap (λ (b : Bool). if b then Some text else None) h.0 ∙ ap (λ (t : List ℕ). Some t) h.1) (spot.changed w.1 new h.2)

    -- it heard the line
    pub hears : (before text : List ℕ) (heard : Bool) → before ≡ []
        → ((q : Place) (s : plain.Server) → IsServer q s server
        → IsHeard q s before text new heard (line_worded (kit_in c secret) q here s line))
        → Answered (if heard then Some text else None) (slice_set old at new)
    hears before text heard none h =
        go-on text heard (line_worded (kit_in c secret) spot.one.place here spot.one.server line) worded-so
        (subst (λ (t : List ℕ). IsHeard spot.one.place spot.one.server t text new heard
        (line_worded (kit_in c secret) spot.one.place here spot.one.server line)) none (h spot.one.place spot.one.server here-is))
