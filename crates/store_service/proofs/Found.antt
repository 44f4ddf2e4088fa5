-- The server of a process among those of the definitions, its place among those of the code, and what a change there makes.
use Rattle.std.proofs.Common.{◌≡◌, ℕ, suc, ◌+◌, ◌<◌, List, [], ◌∷◌, Bool, true, false, cond, get_or, length, Option, Some, None, refl, sym, ap, subst, ◌∙◌, arith}
use Rattle.std.specs.Prelude.{◌==◌, if◌then◌else◌, slice_get, slice_set}
use Rattle.std.specs.List.{position_from}
use Rattle.std.proofs.lemmas.Option.{slice_get-get_or}
use Rattle.store_server.specs.Places as plain
use Rattle.store_server.specs.Serving.{IsServer}
use Rattle.store_server.specs.declared.server.Server.{Server}
use Rattle.store_service.specs.Service.{Serving, serving, with_new, with_server}
use Rattle.store_service.specs.Served.{AreThese, whose}

module _ (p : ℕ) where
  -- the server of process p, which is at this place
  pub record Spot (xs : List Serving) (servers : List Server) (i : ℕ) : Type 0 where
    pub one : Serving
    pub server : Server
    pub at : slice_get servers i ≡ Some server
    pub is : IsServer one.place one.server server
    pub found : serving p xs ≡ Some one
    -- where it changes there
    pub changed : (s : plain.Server) (new : Server) → IsServer one.place s new → AreThese (with_server p s xs) (slice_set servers i new)
    pub same : (new : Server) → IsServer one.place one.server new → AreThese xs (slice_set servers i new)

  -- its number is that of the code's
  named : (x : Serving) (server : Server) → IsServer x.place x.server server → (b : Bool) → (whose server == p) ≡ b
      → (x.place.me == p) ≡ b
  named x server is b t = ap (λ n. n == p) is.replies.me ∙ t

  module _ (x : Serving) (xs : List Serving) (server : Server) (servers : List Server) (is : IsServer x.place x.server server)
      (are : AreThese xs servers) where
    found-here : (x.place.me == p) ≡ true → serving p (x ∷ xs) ≡ Some x
    found-here t = ap (λ (b : Bool). cond b (Some x) (serving p xs)) t

    found-there : (x.place.me == p) ≡ false → serving p (x ∷ xs) ≡ serving p xs
    found-there t = ap (λ (b : Bool). cond b (Some x) (serving p xs)) t

    changed-here : (s : plain.Server) → (x.place.me == p) ≡ true → with_server p s (x ∷ xs) ≡ with_new s x ∷ xs
    changed-here s t = ap (λ (b : Bool). if b then with_new s x ∷ xs else x ∷ with_server p s xs) t

    changed-there : (s : plain.Server) → (x.place.me == p) ≡ false → with_server p s (x ∷ xs) ≡ x ∷ with_server p s xs
    changed-there s t = ap (λ (b : Bool). if b then with_new s x ∷ xs else x ∷ with_server p s xs) t

    -- it is the first one
    here : (whose server == p) ≡ true → Spot (x ∷ xs) (server ∷ servers) 0
    here t = record {
      one = x;
      server = server;
      at = refl;
      is = is;
      found = found-here (named x server is true t);
      changed = λ s new so. subst (λ (ys : List Serving). AreThese ys (new ∷ servers)) (sym (changed-here s (named x server is true t))) (so, are);
      same = λ new so. (so, are);
    }

    -- or a later one
    there : (whose server == p) ≡ false → (i : ℕ) → Spot xs servers i → Spot (x ∷ xs) (server ∷ servers) (suc i)
    there t i spot = record {
      one = spot.one;
      server = spot.server;
      at = spot.at;
      is = spot.is;
      found = found-there (named x server is false t) ∙ spot.found;
      changed = λ s new so. subst (λ (ys : List Serving). AreThese ys (server ∷ slice_set servers i new))
          (sym (changed-there s (named x server is false t))) (is, spot.changed s new so);
      same = λ new so. (is, spot.same new so);
    }

  -- what is found, counted from n
  record Counted (xs : List Serving) (servers : List Server) (n i : ℕ) : Type 0 where
    pub place : ℕ
    pub counted : i ≡ n + place
    pub spot : Spot xs servers place

  abbrev Finds : List Serving → List Server → ℕ → Option ℕ → Type 0
  Finds xs servers n None = serving p xs ≡ None
  Finds xs servers n (Some i) = Counted xs servers n i

  finds-on : (x : Serving) (xs : List Serving) (server : Server) (servers : List Server) → IsServer x.place x.server server
      → AreThese xs servers → (n : ℕ) (b : Bool) → (whose server == p) ≡ b → (r : Option ℕ) → Finds xs servers (n + 1) r
      → Finds (x ∷ xs) (server ∷ servers) n (cond b (Some n) r)
  finds-on x xs server servers is are n true t r rest =
      record { place = 0; counted = omega arith; spot = here x xs server servers is are t }
  finds-on x xs server servers is are n false t None rest = found-there x xs server servers is are (named x server is false t) ∙ rest
  finds-on x xs server servers is are n false t (Some i) rest = record {
    place = suc rest.place;
    counted = omega (arith, rest.counted);
    spot = there x xs server servers is are t rest.place rest.spot;
  }

  finds : (xs : List Serving) (servers : List Server) (n : ℕ) → AreThese xs servers
      → Finds xs servers n (position_from (λ x. whose x == p) n servers)
  finds [] [] n are = refl
  finds [] (server ∷ servers) n are = absurd are
  finds (x ∷ xs) [] n are = absurd are
  finds (x ∷ xs) (server ∷ servers) n are =
      finds-on x xs server servers are.0 are.1 n (whose server == p) refl
      (position_from (λ y. whose y == p) (n + 1) servers) (finds xs servers (n + 1) are.1)

  -- the server at the place that was found
  pub spot-at : (xs : List Serving) (servers : List Server) (at : ℕ) → AreThese xs servers
      → Some at ≡ position_from (λ x. whose x == p) 0 servers → Spot xs servers at
  spot-at xs servers at are is =
      let counted : Counted xs servers 0 at = subst (Finds xs servers 0) (sym is) (finds xs servers 0 are) in
      let same : counted.place ≡ at = omega (arith, counted.counted) in
      subst (Spot xs servers) same counted.spot

  -- none was found
  pub none-at : (xs : List Serving) (servers : List Server) → AreThese xs servers
      → None ≡ position_from (λ x. whose x == p) 0 servers → serving p xs ≡ None
  none-at xs servers are is = subst (Finds xs servers 0) (sym is) (finds xs servers 0 are)

-- what is read at a place is what is there
pub same-server : (old : List Server) (at : ℕ) (server x : Server) → at < length old → server ≡ get_or old at server
    → slice_get old at ≡ Some x → server ≡ x
same-server old at server x low is-at get =
    let some : (let o : Option Server = Some server in o) ≡ Some x =
    ap (λ (y : Server). Some y) is-at ∙ sym (slice_get-get_or old at server low) ∙ get in cc
