-- Delivered messages, the decision, and whether the process has halted.
use Rattle.std.proofs.Common.{◌≡◌, ℕ, zero, suc, ◌≤◌, Bool, true, false, ltb, eqb, List, [], ◌∷◌, ◌++◌, length, Option, Some, None, Ok, refl, ap, subst, ◌∙◌, arith}
use Rattle.std.specs.Prelude.{if◌then◌else◌}
use Rattle.std.specs.Int.{w8, w16}
use Rattle.std.proofs.lemmas.Bool.{ltb-false, le-ltb}
use Rattle.byte_defs.specs.Fields.{◌>>=◌}
use Rattle.byte_defs.proofs.Fields.{IsBytes, Takes, bind_ok, refuse_ok, ok_is}
use Rattle.message_defs.specs.Updates.{Value}
use Rattle.message_defs.specs.Statements.{Message}
use Rattle.message_defs.specs.Spelling.{IsMessage, message_bytes, ready_bytes}
use Rattle.group_defs.specs.Process.{Delivered}
use Rattle.image_defs.specs.Spelling.{list_bytes}
use Rattle.snapshot_defs.specs.declared.Version.{Version}
use Rattle.snapshot_defs.specs.declared.Version.TheVariants.{One, Two}
use Rattle.snapshot_defs.specs.Steps.{Step, ◌&◌, made, number_to, text_to}
use Rattle.snapshot_defs.specs.Reading.{process_at, ranked_at, place_at, message_at, delivered_at, view_at, decision_at, halted_at}
use Rattle.snapshot_defs.specs.Spelling.{place_bytes, message_of_bytes}
use Rattle.snapshot_defs.specs.Ranges.{IsListOf, IsPlaceAt, IsDeliveredAt, IsDecision}
use Rattle.snapshot_laws.proofs.Fields.{IsField, and_is, made_is, ranged_is, byte_to_is, short_to_is, text_to_is}
use Rattle.snapshot_laws.proofs.Lists.{list_is}
use Rattle.snapshot_laws.proofs.Claims.{process_is}
use Rattle.snapshot_laws.proofs.Values.{ranked_is, ranked_bytes}

-- ---- delivered messages

abbrev done : ℕ → List ℕ → Step ℕ
done k bytes = Ok (k, bytes)

place_is : (v : Version) (k : ℕ) → IsField (place_at v k) (place_bytes v) (IsPlaceAt v k)
unfolding place_at
place_is One k = record {
  takes = λ bytes x fits e.
      let r = refuse_ok (ltb 1023 k) (length bytes) (λ _. done k bytes) x e in
      let here : ℕ × List ℕ = (k, bytes) in
      subst (λ (y : ℕ × List ℕ). Takes bytes [] y.1 × IsPlaceAt One k y.0) {x = here} {y = x} (ok_is here x r.1)
      (record { parts = refl; rest_fits = fits }, (ltb-false 1023 k r.0, refl));
  again = λ place rest is.
      let le : k ≤ 1023 = omega (arith, is.0, is.1) in
      rw (le-ltb 1023 k le, is.1) refl;
}
place_is Two k = short_to_is 1023 (omega arith)

abbrev message_by : ℕ × ℕ → Message
message_by m = record { sender = m.0; number = m.1 }

message_is : IsField message_at message_bytes IsMessage
unfolding message_at
message_is = made_is message_by (λ m. (m.sender, m.number)) (λ m. refl) (λ m. refl)
    (and_is process_at (number_to w16 1023) process_is (short_to_is 1023 (omega arith)))

abbrev delivered_by : ℕ × (Message × List ℕ) → Delivered
delivered_by d = record { place = d.0; message = d.1.0; payload = d.1.1 }

delivered_is : (v : Version) (k : ℕ) → IsField (delivered_at v k) (message_of_bytes v) (IsDeliveredAt v k)
unfolding delivered_at
delivered_is v k = ranged_is (λ d is. (is.0, is.1.0.0, is.1.0.1, is.1.1)) (λ d is. (is.0, ((is.1, is.2), is.3)))
    (made_is delivered_by (λ d. (d.place, (d.message, d.payload))) (λ d. refl) (λ d. refl)
    (and_is (place_at v k) (message_at & text_to 1024) (place_is v k)
    (and_is message_at (text_to 1024) message_is (text_to_is 1024 (omega arith)))))

pub view_is : (v : Version) → IsField (view_at v) (list_bytes (message_of_bytes v)) (IsListOf (IsDeliveredAt v))
unfolding view_at
view_is v = list_is (delivered_at v) (delivered_is v)

-- ---- the decision

abbrev pub Decision : Type 0
Decision = Option (ℕ × Value)

abbrev by_tag : ℕ × List ℕ → Step Decision
by_tag tag = if eqb tag.0 0 then Ok (None, tag.1) else made Some ranked_at tag.1

abbrev IsTaken : List ℕ → Decision × List ℕ → Type 0
IsTaken bytes x = Takes bytes (ready_bytes x.0) x.1 × IsDecision x.0

some_taken : (bytes : List ℕ) (x : Decision × List ℕ) → IsBytes bytes → made Some ranked_at bytes ≡ Ok x
    → Takes (1 ∷ bytes) (ready_bytes x.0) x.1 × IsDecision x.0
some_taken bytes x fits e =
    let a = bind_ok (ranked_at bytes) _ x e in
    let p = ranked_is.takes bytes a.0 fits a.1 in
    let some : Decision × List ℕ = (Some a.0.0, a.0.1) in
    subst (λ (y : Decision × List ℕ). Takes (1 ∷ bytes) (ready_bytes y.0) y.1 × IsDecision y.0) {x = some} {y = x} (ok_is some x a.2)
    (record { parts = ap (λ (l : List ℕ). 1 ∷ l) p.0.parts; rest_fits = p.0.rest_fits }, p.1)

tag_taken : (bytes : List ℕ) (n : ℕ) (rest : List ℕ) (x : Decision × List ℕ) → Takes bytes (n ∷ []) rest → n ≤ 1 → by_tag (n, rest) ≡ Ok x
    → IsTaken bytes x
tag_taken bytes zero rest x front le e =
    let none : Decision × List ℕ = (None, rest) in
    subst (λ (y : Decision × List ℕ). IsTaken bytes y) {x = none} {y = x} (ok_is none x e) (front, tt)
tag_taken bytes (suc zero) rest x front le e =
    let p = some_taken rest x front.rest_fits e in
    (record { parts = front.parts ∙ p.0.parts; rest_fits = p.0.rest_fits }, p.1)
tag_taken bytes (suc (suc n)) rest x front le e = absurd (omega arith)

pub decision_is : IsField decision_at ready_bytes IsDecision
unfolding decision_at
decision_is = record {
  takes = λ bytes x fits e.
      let a = bind_ok (number_to w8 1 bytes) by_tag x e in
      let p = (byte_to_is 1).takes bytes a.0 fits a.1 in
      tag_taken bytes a.0.0 a.0.1 x p.0 p.1 a.2;
  again = again;
}
  where
    again : (d : Decision) (rest : List ℕ) → IsDecision d → (number_to w8 1 (ready_bytes d ++ rest) >>= by_tag) ≡ Ok (d, rest)
    again None rest is = rw ((byte_to_is 1).again 0 rest (omega arith)) refl
    again (Some r) rest is = rw ((byte_to_is 1).again 1 (ranked_bytes r ++ rest) (omega arith), ranked_is.again r rest is) refl

-- ---- whether it has halted

abbrev pub flag : Bool → ℕ
flag b = if b then 1 else 0

flag_is : (n : ℕ) → n ≤ 1 → n ≡ flag (eqb n 1)
flag_is zero le = refl
flag_is (suc zero) le = refl
flag_is (suc (suc n)) le = absurd (omega arith)

abbrev pub flag_bytes : Bool → List ℕ
flag_bytes b = flag b ∷ []

abbrev pub IsAny : Bool → Type 0
IsAny b = Unit {0}

pub halted_is : IsField halted_at flag_bytes IsAny
unfolding halted_at
halted_is = record {
  takes = λ bytes x fits e.
      let a = bind_ok (number_to w8 1 bytes) _ x e in
      let p = (byte_to_is 1).takes bytes a.0 fits a.1 in
      let is : Bool × List ℕ = (eqb a.0.0 1, a.0.1) in
      subst (λ (y : Bool × List ℕ). Takes bytes (flag_bytes y.0) y.1 × IsAny y.0) {x = is} {y = x} (ok_is is x a.2)
      (subst (λ (k : ℕ). Takes bytes (k ∷ []) a.0.1) (flag_is a.0.0 p.1) p.0, tt);
  again = again;
}
  where
    again : (b : Bool) (rest : List ℕ) → IsAny b → made (λ n. eqb n 1) (number_to w8 1) (flag_bytes b ++ rest) ≡ Ok (b, rest)
    again true rest is = rw ((byte_to_is 1).again 1 rest (omega arith)) refl
    again false rest is = rw ((byte_to_is 1).again 0 rest (omega arith)) refl
