-- What the next place delivers is in range, and a process stays bounded.
use Rattle.std.proofs.Common.{◌≡◌, ℕ, ◌+◌, ◌*◌, ◌≤◌, List, [], ◌∷◌, ◌++◌, map, length, Some, cond, refl, sym, ap, ◌∙◌, subst, arith}
use Rattle.std.specs.Prelude.{◌==◌, All, sum}
use Rattle.std.proofs.lemmas.List.{length-append, length-map}
use Rattle.std.proofs.lemmas.List.Sums.{sum_by-append, sum_by-le, count_by-le-length}
use Rattle.message_defs.specs.Limits.{last_number, most_messages}
use Rattle.message_defs.specs.Spelling.{IsBatch, IsStatement}
use Rattle.message_defs.specs.Updates.{Value}
use Rattle.message_defs.specs.Statements.{Message, Batch, Place}
use Rattle.group_defs.specs.Process.{Pool, Delivered, Left, Process, delivered_from, places_in, earlier}
use Rattle.group_defs.specs.Certified.{place_at}
use Rattle.group_defs.specs.Settle.{delivery, deliverable, install}
use Rattle.rule_laws.specs.Heard.{IsPool}
use Rattle.rule_laws.proofs.Certified.{certified-ranges}
use Rattle.pool_laws.proofs.Heard.{place-certified}
use Rattle.pool_laws.proofs.Members.{All-mem, each-snoc, map-mem, mem-All}
use Rattle.safety_laws.proofs.Batches.{AreAt, named_at, with_place, delivery-at, delivery-names, next-place, of-one, places-one-more}
use Rattle.member_state.specs.Bounds.{AreFew, IsBounded}

-- ---- the next place

-- its number is in range, and it delivers 1 to 16 messages, those of the batch that is certified there
pub record IsNext (p : Process) (ds : List Delivered) : Type 0 where
  pub batch : Batch
  pub delivers : delivery p.pool (places_in p.delivered) batch ≡ Some ds
  pub names : map (λ d. d.message) ds ≡ batch
  pub some : 1 ≤ length batch
  pub place : places_in p.delivered ≤ last_number
  pub few : length ds ≤ most_messages
  pub more : places_in (p.delivered ++ ds) ≡ places_in p.delivered + 1

place-range : (h : Pool) → IsPool h → (k : ℕ) (b : Batch) → place_at h k ≡ Some b → (k ≤ last_number) × IsBatch b
place-range h pool k b e = let range : IsStatement (Place h.view.number k b) = certified-ranges h pool (Place h.view.number k b)
    (place-certified h k b e) in (range.1, range.2)

as-long : (h : Pool) (k : ℕ) (b : Batch) (ds : List Delivered) → delivery h k b ≡ Some ds → length ds ≡ length b
as-long h k b ds e = sym (length-map ds named_at) ∙ ap length (delivery-names h k b ds e) ∙ length-map b (with_place k)

seconds : (ds : List Delivered) → map (λ (e : ℕ × Message). e.1) (map named_at ds) ≡ map (λ (d : Delivered). d.message) ds
seconds [] = refl
seconds (d ∷ ds) = ap (λ ms. d.message ∷ ms) (seconds ds)

names : (k : ℕ) (b : Batch) (ds : List Delivered) → map named_at ds ≡ map (with_place k) b → map (λ (d : Delivered). d.message) ds ≡ b
names k b ds e = sym (seconds ds) ∙ ap (map (λ (e : ℕ × Message). e.1)) e ∙ of-one k b

places-more : (ds es : List Delivered) → 1 ≤ length es → AreAt (places_in ds) es → places_in (ds ++ es) ≡ places_in ds + 1
places-more ds [] le at = absurd (omega (arith, le))
places-more ds (e ∷ es) le at = (let more = places-one-more ds es e at in omega (arith, more))

pub is-next : (p : Process) (ds : List Delivered) → IsPool p.pool → deliverable p ≡ Some ds → IsNext p ds
is-next p ds pool e =
    let next = next-place p ds e in
    let range = place-range p.pool pool (places_in p.delivered) next.0 next.1 in
    let long = as-long p.pool (places_in p.delivered) next.0 ds next.2 in
    record {
      batch = next.0;
      delivers = next.2;
      names = names (places_in p.delivered) next.0 ds (delivery-names p.pool (places_in p.delivered) next.0 ds next.2);
      some = range.1.some;
      place = range.0;
      few = (let few = range.1.few in omega (arith, few, long));
      more = places-more p.delivered ds (let some = range.1.some in omega (arith, some, long))
          (delivery-at p.pool (places_in p.delivered) next.0 ds next.2);
    }

-- ---- bounds

delivered-more : (m : ℕ) (ds es : List Delivered) → delivered_from m (ds ++ es) ≡ delivered_from m ds + delivered_from m es
delivered-more m ds es = sum_by-append (λ (d : Delivered). cond (d.message.sender == m) 1 0) ds es

few-more : (ds es : List Delivered) → length es ≤ 16 → places_in ds ≤ 1023 → places_in (ds ++ es) ≡ places_in ds + 1 → AreFew ds
    → AreFew (ds ++ es)
few-more ds es few place more ok = record {
  places = omega (arith, place, more);
  messages = (let len = length-append ds es in let le = ok.messages in omega (arith, len, le, few, more));
}

pub delivering-bounded : (p : Process) (ds : List Delivered) → IsNext p ds → IsBounded p
    → IsBounded (record p { delivered = p.delivered ++ ds })
delivering-bounded p ds next ok = record {
  now = few-more p.delivered ds next.few next.place next.more ok.now;
  before = ok.before;
  backlog = (let more = delivered-more p.me p.delivered ds in let le = ok.backlog in omega (arith, more, le));
}

pub installing-bounded : (p : Process) (d : ℕ × Value) → earlier (install d p) ≡ earlier p + delivered_from p.me p.delivered → IsBounded p
    → IsBounded (install d p)
installing-bounded p d more ok = record {
  now = record { places = omega arith; messages = omega arith };
  before = mem-All (λ (v : Left). AreFew v.delivered) _
      (each-snoc (λ (v : Left). AreFew v.delivered) p.left _
      (λ v m. All-mem (λ (v : Left). AreFew v.delivered) p.left v ok.before m) ok.now);
  backlog = (let le = ok.backlog in omega (arith, more, le));
}

-- ---- how many of a sender's

pub delivered-few : (m : ℕ) (ds : List Delivered) → AreFew ds → delivered_from m ds ≤ 16384
delivered-few m ds few = (let le = count_by-le-length
    (λ (d : Delivered). d.message.sender == m) ds in let messages = few.messages in let places = few.places in omega
    (arith, le, messages, places))

pub earlier-few : (p : Process) → IsBounded p → earlier p ≤ length p.left * 16384
earlier-few p ok =
    let counts : List ℕ = map (λ (v : Left). delivered_from p.me v.delivered) p.left in
    let each : All (λ n. n ≤ 16384) counts = mem-All (λ n. n ≤ 16384) counts
    (λ n m. let v = map-mem (λ (v : Left). delivered_from p.me v.delivered) p.left n m in subst (λ n. n ≤ 16384) v.2
    (delivered-few p.me v.0.delivered (All-mem (λ (v : Left). AreFew v.delivered) p.left v.0 ok.before v.1))) in
    subst (λ n. sum counts ≤ n * 16384) (length-map p.left (λ (v : Left). delivered_from p.me v.delivered))
    (sum_by-le (λ (n : ℕ). n) 16384 counts each)
