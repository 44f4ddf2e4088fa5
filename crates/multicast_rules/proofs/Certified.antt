-- What is certified of a message and of a place.
use Rattle.std.proofs.Common.{◌≡◌, ℕ, ◌<◌, ◌≤◌, List, [], ◌∷◌, length, Option, Some, None, Bool, true, false, refl, sym, ap, ◌∙◌, arith, slice_get}
use Rattle.std.proofs.lemmas.Bool.{lt-ltb}
use Rattle.std.specs.Prelude.{is_some, ◌&&◌, nat_lt, if◌then◌else◌, option_and_then, option_map}
use Rattle.message_defs.specs.Statements.{Message, Batch, Statement, Echo, EchoAt, slot_of, payload_of}
use Rattle.group_defs.specs.Process.{Pool, Process, Delivered, places_in}
use Rattle.group_defs.specs.Certified.{certified_on, payload_at, place_at, placed}
use Rattle.group_defs.specs.Due.{are_certified}
use Rattle.group_defs.specs.Settle.{delivery, deliverable}
use Rattle.pool_laws.proofs.Heard.{certified_on-is, placed-at}
use Rattle.pool_laws.proofs.Places.{get-some, slice_get-length}
use Rattle.own_place.specs.declared.own.Own.{Own}
use Rattle.own_place.specs.Owns.{HasDelivered}
use Rattle.multicast_rules.specs.Delivering.{batch_in}

-- ---- messages

is_some-map : {A B : Type 0} (f : A → B) (o : Option A) → is_some o ≡ is_some (option_map f o)
is_some-map f None = refl
is_some-map f (Some a) = refl

echoed : (st : Statement) (x : ℕ) (m : Message) → slot_of st ≡ EchoAt x m → is_some (payload_of st) ≡ true
echoed (Echo y n payload) x m e = refl
echoed _ x m e = absurd cc

-- what is certified of a message has a payload
pub held-is : {A : Type 0} (h : Pool) (m : Message) (x : ℕ) (view : A → Statement) (o : Option A) → x ≡ h.view.number
    → option_map view o ≡ certified_on h (EchoAt x m) → is_some o ≡ is_some (payload_at h m)
held-is h m x view o same e = is_some-map view o ∙ ap is_some (e ∙ ap (λ x. certified_on h (EchoAt x m)) same) ∙ go
    (certified_on h (EchoAt h.view.number m)) refl
  where
    go : (o : Option Statement) → certified_on h (EchoAt h.view.number m) ≡ o → is_some o ≡ is_some (option_and_then payload_of o)
    go None e = refl
    go (Some st) e = sym (echoed st h.view.number m (certified_on-is h (EchoAt h.view.number m) st e).1)

-- ---- places

-- below the placed length a place holds what is certified of it
pub placed-get : (h : Pool) (k : ℕ) → k < length (placed h) → place_at h k ≡ slice_get (placed h) k
placed-get h k lt = let at = get-some (placed h) k lt in placed-at h k at.0 at.1 ∙ sym at.1

-- and none is placed from it on
pub unplaced-get : (h : Pool) (k : ℕ) → length (placed h) ≤ k → None ≡ slice_get (placed h) k
unplaced-get h k le = go (slice_get (placed h) k) refl
  where
    go : (o : Option Batch) → slice_get (placed h) k ≡ o → None ≡ o
    go None e = refl
    go (Some b) e = absurd (let lt = slice_get-length (placed h) k b e in omega (arith, lt, le))

-- ---- deliveries

module _ (h : Pool) (k : ℕ) where
  entry : Message → List ℕ → Delivered
  entry m payload = record { place = k; message = m; payload = payload }

  -- a batch is delivered where all of it is certified
  names-delivered : (b : Batch) → option_map batch_in (delivery h k b) ≡ (if are_certified h b then Some b else None)
  names-delivered [] = refl
  names-delivered (m ∷ ms) = go (payload_at h m) (delivery h k ms) (are_certified h ms) (names-delivered ms)
    where
      go : (o : Option (List ℕ)) (ds : Option (List Delivered)) (b : Bool) → option_map batch_in ds ≡ (if b then Some ms else None)
          → option_map batch_in (option_and_then
          (λ payload. option_map (λ ds. record { place = k; message = m; payload = payload } ∷ ds) ds) o)
          ≡ (if is_some o && b then Some (m ∷ ms) else None)
      go None ds b e = refl
      go (Some payload) None true e = absurd cc
      go (Some payload) None false e = refl
      go (Some payload) (Some ds) true e = let is : batch_in ds ≡ ms = cc in λ i. Some (m ∷ is i)
      go (Some payload) (Some ds) false e = absurd cc

  where-certified : (o : Option Batch)
      → option_map batch_in (option_and_then (delivery h k) o) ≡ option_and_then (λ b. if are_certified h b then Some b else None) o
  where-certified None = refl
  where-certified (Some b) = names-delivered b

-- what the next place delivers is its batch, where all of it is certified
pub deliverable-is : (p : Process) (h : Pool) (k : ℕ) → p.pool ≡ h → places_in p.delivered ≡ k
    → option_map batch_in (deliverable p) ≡ option_and_then (λ b. if are_certified h b then Some b else None) (place_at h k)
deliverable-is p h k same places =
    (λ i. option_map batch_in (option_and_then (delivery (same i) (places i)) (place_at (same i) (places i)))) ∙ where-certified h k
    (place_at h k)

-- below the limit that is what is answered
pub delivers : (p : Process) (own : Own) (h : Pool) (limit : ℕ) (b : Batch) (t : Bool) → HasDelivered own p → p.pool ≡ h
    → own.delivered < limit → Some b ≡ place_at h own.delivered → t ≡ are_certified h b
    → (if t then Some b else None) ≡ (if nat_lt (places_in p.delivered) limit then option_map batch_in (deliverable p) else None)
delivers p own h limit b t has same lt at e =
    let within : nat_lt (places_in p.delivered) limit ≡ true = ap (λ k. nat_lt k limit) has.places ∙ lt-ltb own.delivered limit lt in
    ap (λ t. if t then Some b else None) e
    ∙ ap (λ (o : Option Batch). option_and_then (λ b. if are_certified h b then Some b else None) o) at
    ∙ sym (deliverable-is p h own.delivered same has.places)
    ∙ sym (ap (λ t. if t then option_map batch_in (deliverable p) else None) within)
