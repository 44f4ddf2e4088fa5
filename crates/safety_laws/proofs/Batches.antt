-- How many places a list of deliveries has, what a place delivers, and the messages of batches with their places.
use Rattle.std.proofs.Common.{◌≡◌, inl, inr, ℕ, zero, suc, ◌+◌, ◌≤◌, max, List, [], ◌∷◌, ◌++◌, map, length, Some, refl, sym, ap, ◌∙◌, subst, arith, slice_get}
use Rattle.std.specs.Prelude.{fold, option_map}
use Rattle.std.proofs.lemmas.List.{append-nil, append_assoc, length-append, map-append}
use Rattle.std.proofs.lemmas.List.Sums.{fold-append}
use Rattle.group_defs.specs.Below.{Message, Batch}
use Rattle.group_defs.specs.Process.{Pool, Delivered, Process, places_in}
use Rattle.group_defs.specs.Certified.{messages, payload_at, place_at}
use Rattle.group_defs.specs.Settle.{delivery, deliverable}
use Rattle.pool_laws.proofs.Members.{Mem}
use Rattle.pool_laws.proofs.Tests.{map-some, then-some}

-- ---- how many places

-- all of them stand at this place
abbrev pub AreAt : ℕ → List Delivered → Type 0
AreAt k es = (e : Delivered) → Mem e es → e.place ≡ k

abbrev behind : ℕ → List Delivered → ℕ
behind n es = fold (λ most d. max most (d.place + 1)) n es

no-more : (k n : ℕ) (es : List Delivered) → n ≤ suc k → AreAt k es → behind n es ≤ suc k
no-more k n [] le are = le
no-more k n (e ∷ es) le are = no-more k (max n (e.place + 1)) es (let at = are e (inl refl) in omega (arith, le, at)) (λ d m. are d (inr m))

as-many : (k : ℕ) (es : List Delivered) → AreAt k es → behind (suc k) es ≡ suc k
as-many k [] are = refl
as-many k (e ∷ es) are =
    let same : max (suc k) (e.place + 1) ≡ suc k = (let at = are e (inl refl) in omega (arith, at)) in
    ap (λ n. behind n es) same ∙ as-many k es (λ d m. are d (inr m))

pub places-at-most : (ds es : List Delivered) → AreAt (places_in ds) es → places_in (ds ++ es) ≤ suc (places_in ds)
places-at-most ds es are =
    let split = fold-append (λ (most : ℕ) (d : Delivered). max most (d.place + 1)) 0 ds es in
    let le = no-more (places_in ds) (places_in ds) es (omega arith) are in
    omega (arith, split, le)

pub places-one-more : (ds es : List Delivered) (e : Delivered) → AreAt (places_in ds) (e ∷ es)
    → places_in (ds ++ e ∷ es) ≡ suc (places_in ds)
places-one-more ds es e are =
    let k : ℕ = places_in ds in
    let same : max k (e.place + 1) ≡ suc k = (let at = are e (inl refl) in omega (arith, at)) in
    fold-append (λ (most : ℕ) (d : Delivered). max most (d.place + 1)) 0 ds (e ∷ es) ∙ ap (λ n. behind n es) same ∙ as-many k es
    (λ d m. are d (inr m))

-- ---- what a place delivers

-- a message with its place
abbrev pub with_place : ℕ → Message → ℕ × Message
with_place k m = (k, m)

abbrev pub named_at : Delivered → ℕ × Message
named_at d = (d.place, d.message)

abbrev one : ℕ → Message → List ℕ → Delivered
one k m payload = record { place = k; message = m; payload = payload }

module _ (h : Pool) (k : ℕ) where
  delivery-cons : (m : Message) (ms : Batch) (ds : List Delivered) → delivery h k (m ∷ ms) ≡ Some ds
      → (payload : List ℕ) × (rest : List Delivered) × (payload_at h m ≡ Some payload) × (delivery h k ms ≡ Some rest)
      × (one k m payload ∷ rest ≡ ds)
  delivery-cons m ms ds e =
      let paid = then-some (λ payload. option_map (λ (ds : List Delivered). one k m payload ∷ ds) (delivery h k ms))
      (payload_at h m) ds e in
      let rest = map-some (λ (ds : List Delivered). one k m paid.0 ∷ ds) (delivery h k ms) ds paid.2 in
      (paid.0, rest.0, paid.1, rest.1, rest.2)

  pub delivery-each : (P : Delivered → Type 0) → ((m : Message) (payload : List ℕ) → payload_at h m ≡ Some payload → P (one k m payload))
      → (b : Batch) (ds : List Delivered) → delivery h k b ≡ Some ds → (d : Delivered) → Mem d ds → P d
  delivery-each P each [] ds e d there = absurd (let none : [] ≡ ds = cc in subst (Mem d) (sym none) there)
  delivery-each P each (m ∷ ms) ds e d there =
      let parts = delivery-cons m ms ds e in
      go parts.0 parts.1 parts.2 (λ m. delivery-each P each ms parts.1 parts.3 d m) (subst (Mem d) (sym parts.4) there)
    where
      go : (payload : List ℕ) (rest : List Delivered) → payload_at h m ≡ Some payload → (Mem d rest → P d) → Mem d (one k m payload ∷ rest)
          → P d
      go payload rest paid later (inl is) = subst P is (each m payload paid)
      go payload rest paid later (inr m') = later m'

  pub delivery-at : (b : Batch) (ds : List Delivered) → delivery h k b ≡ Some ds → AreAt k ds
  delivery-at b ds e = delivery-each (λ d. d.place ≡ k) (λ m payload paid. refl) b ds e

  pub delivery-paid : (b : Batch) (ds : List Delivered) → delivery h k b ≡ Some ds → (d : Delivered) → Mem d ds
      → payload_at h d.message ≡ Some d.payload
  delivery-paid b ds e = delivery-each (λ d. payload_at h d.message ≡ Some d.payload) (λ m payload paid. paid) b ds e

  pub delivery-names : (b : Batch) (ds : List Delivered) → delivery h k b ≡ Some ds → map named_at ds ≡ map (with_place k) b
  delivery-names [] ds e = let none : [] ≡ ds = cc in ap (map named_at) (sym none)
  delivery-names (m ∷ ms) ds e =
      let parts = delivery-cons m ms ds e in
      ap (map named_at) (sym parts.4) ∙ (λ i. with_place k m ∷ delivery-names ms parts.1 parts.3 i)

-- the batch that the next place delivers
pub next-place : (p : Process) (ds : List Delivered) → deliverable p ≡ Some ds
    → (b : Batch) × (place_at p.pool (places_in p.delivered) ≡ Some b) × (delivery p.pool (places_in p.delivered) b ≡ Some ds)
next-place p ds e = then-some (delivery p.pool (places_in p.delivered)) (place_at p.pool (places_in p.delivered)) ds e

pub next-at : (p : Process) (ds : List Delivered) → deliverable p ≡ Some ds → AreAt (places_in p.delivered) ds
next-at p ds e = let b = next-place p ds e in delivery-at p.pool (places_in p.delivered) b.0 ds b.2

-- ---- the messages of batches, with their places

abbrev pub spread : ℕ → List Batch → List (ℕ × Message)
spread k [] = []
spread k (b ∷ bs) = map (with_place k) b ++ spread (k + 1) bs

pub spread-append : (a : ℕ) (bs cs : List Batch) → spread a (bs ++ cs) ≡ spread a bs ++ spread (a + length bs) cs
spread-append a [] cs = let same : a ≡ a + 0 = omega arith in ap (λ a. spread a cs) same
spread-append a (b ∷ bs) cs =
    let same : (a + 1) + length bs ≡ a + suc (length bs) = omega arith in
    ap (λ es. map (with_place a) b ++ es) (spread-append (a + 1) bs cs ∙ ap (λ n. spread (a + 1) bs ++ spread n cs) same)
    ∙ sym (append_assoc (map (with_place a) b) (spread (a + 1) bs) (spread (a + suc (length bs)) cs))

pub spread-snoc : (bs : List Batch) (b : Batch) → spread 0 (bs ++ b ∷ []) ≡ spread 0 bs ++ map (with_place (length bs)) b
spread-snoc bs b = spread-append 0 bs (b ∷ []) ∙ ap (λ es. spread 0 bs ++ es)
    (append-nil (map (with_place (0 + length bs)) b) ∙ ap (λ n. map (with_place n) b) same)
  where
    same : 0 + length bs ≡ length bs
    same = omega arith

pub spread-longer : (a : ℕ) (bs cs : List Batch) → length (spread a bs) ≤ length (spread a (bs ++ cs))
spread-longer a bs cs =
    let split = ap length (spread-append a bs cs) in
    let both = length-append (spread a bs) (spread (a + length bs) cs) in
    omega (arith, split, both)

append-same : {A : Type 0} (zs xs ys : List A) → ((i : ℕ) (x y : A) → slice_get xs i ≡ Some x → slice_get ys i ≡ Some y → x ≡ y)
    → (i : ℕ) (x y : A) → slice_get (zs ++ xs) i ≡ Some x → slice_get (zs ++ ys) i ≡ Some y → x ≡ y
append-same [] xs ys same i x y at at' = same i x y at at'
append-same (z ∷ zs) xs ys same zero x y at at' = cc
append-same (z ∷ zs) xs ys same (suc i) x y at at' = append-same zs xs ys same i x y at at'

-- where the batches are the same as far as both lists reach, so are their messages
pub spread-same : (a : ℕ) (bs cs : List Batch) → ((k : ℕ) (b c : Batch) → slice_get bs k ≡ Some b → slice_get cs k ≡ Some c → b ≡ c)
    → (i : ℕ) (x y : ℕ × Message) → slice_get (spread a bs) i ≡ Some x → slice_get (spread a cs) i ≡ Some y → x ≡ y
spread-same a [] cs same i x y at at' = absurd cc
spread-same a (b ∷ bs) [] same i x y at at' = absurd cc
spread-same a (b ∷ bs) (c ∷ cs) same i x y at at' =
    append-same (map (with_place a) b) (spread (a + 1) bs) (spread (a + 1) cs)
    (spread-same (a + 1) bs cs (λ k b' c'. same (suc k) b' c')) i x y at
    (ap (λ b. slice_get (map (with_place a) b ++ spread (a + 1) cs) i) (same zero b c refl refl) ∙ at')

pub of-one : (a : ℕ) (b : Batch) → map (λ (e : ℕ × Message). e.1) (map (with_place a) b) ≡ b
of-one a [] = refl
of-one a (m ∷ ms) = ap (λ ms. m ∷ ms) (of-one a ms)

pub spread-messages : (a : ℕ) (bs : List Batch) → map (λ (e : ℕ × Message). e.1) (spread a bs) ≡ messages bs
spread-messages a [] = refl
spread-messages a (b ∷ bs) = map-append (λ (e : ℕ × Message). e.1) (map (with_place a) b)
    (spread (a + 1) bs) ∙ (λ i. of-one a b i ++ spread-messages (a + 1) bs i)
