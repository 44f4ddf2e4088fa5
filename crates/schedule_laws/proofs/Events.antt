-- An event that is read is spelled so and in its ranges, and what is spelled so and in its ranges is read.
use Rattle.std.proofs.Common.{◌≡◌, ℕ, zero, suc, ◌≤◌, Bool, true, leb, List, [], ◌∷◌, ◌++◌, length, Ok, refl, sym, ap, subst, ◌∙◌, append_assoc, arith}
use Rattle.std.specs.Prelude.{is_ok}
use Rattle.std.specs.Int.{w16, w32, w64}
use Rattle.std.proofs.lemmas.Bool.{leb-true, le-leb, and_parts}
use Rattle.byte_defs.specs.Fields.{◌>>=◌, two_bytes, text, four_bytes}
use Rattle.byte_defs.proofs.Fields.{IsBytes, bind_ok, ok_is, Takes, Takes-then, short_takes, short_again, long_takes, long_again, bytes_takes, bytes_again}
use Rattle.message_defs.specs.Reading.{statement_of}
use Rattle.replay_defs.specs.declared.FaultKind.TheVariants as faults
use Rattle.replay_defs.specs.Keys.{is_from}
use Rattle.replay_defs.specs.Schedules.{Listed, ScheduleEvent, Submit, Raw, Pass, Drain, Lie, Suspect, Join, Renew, Tick, is_correct, is_corrupt, steps_of, most_raw_bytes, eight_bytes, event_bytes, IsEvent}
use Rattle.replay_defs.specs.Reading.{Step, Roles, roles_of, wide_at, field_at, fault_at, tested, byte_that, process_that, text_at, other_at, correct_at, submit_at, raw_at, pass_at, drain_at, lie_at, about_at, alone_at, fields_at, steps_at, tag_at, event_at}
use Rattle.schedule_laws.proofs.Steps.{tested_ok, tested_again, mask_takes, mask_again, byte_that_takes, byte_that_again, process_that_takes, process_that_again, text_takes, text_again}

Takes-behind : (n : ℕ) (bytes spelled rest : List ℕ) → Takes bytes spelled rest → Takes (n ∷ bytes) (n ∷ spelled) rest
Takes-behind n bytes spelled rest t = record { parts = ap (λ (all : List ℕ). n ∷ all) t.parts; rest_fits = t.rest_fits }

-- any process
other_takes : (bytes : List ℕ) (x : ℕ × List ℕ) → IsBytes bytes → other_at bytes ≡ Ok x → Takes bytes (x.0 ∷ []) x.1 × (x.0 ≤ 63)
unfolding other_at
other_takes bytes x fits e =
    let t = byte_that_takes (λ p. leb p 63) faults.Field bytes x fits e in
    (t.0, leb-true x.0 63 t.2)

other_again : (p : ℕ) (rest : List ℕ) → p ≤ 63 → other_at (p ∷ rest) ≡ Ok (p, rest)
unfolding other_at
other_again p rest le = byte_that_again (λ q. leb q 63) faults.Field p rest (le-leb p 63 le)

-- a statement behind its length
abbrev is_statement : List ℕ → Bool
is_statement bytes = is_ok (statement_of bytes)

module _ (ls : List Listed) where
  abbrev roles : Roles
  roles = roles_of ls

  -- an event that was read behind this tag
  abbrev IsTaken : ℕ → List ℕ → ScheduleEvent × List ℕ → Type 0
  IsTaken tag bytes x = Takes (tag ∷ bytes) (event_bytes x.0) x.1 × IsEvent ls x.0

  submit_takes : (bytes : List ℕ) (x : ScheduleEvent × List ℕ) → IsBytes bytes → submit_at roles bytes ≡ Ok x → IsTaken 1 bytes x
  unfolding submit_at
  submit_takes bytes x fits e =
      let a = bind_ok (correct_at roles bytes) _ x e in
      let b = bind_ok (text_at 65535 a.0.1) _ x a.2 in
      let t0 = process_that_takes (is_correct ls) faults.Field bytes a.0 fits a.1 in
      let t1 = text_takes 65535 a.0.1 b.0 t0.0.rest_fits b.1 in
      let both = Takes-then bytes (a.0.0 ∷ []) a.0.1 (text b.0.0) b.0.1 t0.0 t1.0 in
      let made : ScheduleEvent × List ℕ = (Submit a.0.0 b.0.0, b.0.1) in
      subst (λ (y : ScheduleEvent × List ℕ). IsTaken 1 bytes y) {x = made} {y = x} (ok_is made x b.2)
      (Takes-behind 1 bytes (a.0.0 ∷ text b.0.0) b.0.1 both, (t0.2, t1.1))

  raw_takes : (bytes : List ℕ) (x : ScheduleEvent × List ℕ) → IsBytes bytes → raw_at roles bytes ≡ Ok x → IsTaken 2 bytes x
  unfolding raw_at
  raw_takes bytes x fits e =
      let a = bind_ok (correct_at roles bytes) _ x e in
      let b = bind_ok (other_at a.0.1) _ x a.2 in
      let c = bind_ok (text_at most_raw_bytes b.0.1) _ x b.2 in
      let t0 = process_that_takes (is_correct ls) faults.Field bytes a.0 fits a.1 in
      let t1 = other_takes a.0.1 b.0 t0.0.rest_fits b.1 in
      let t2 = text_takes most_raw_bytes b.0.1 c.0 t1.0.rest_fits c.1 in
      let two_more = Takes-then a.0.1 (b.0.0 ∷ []) b.0.1 (text c.0.0) c.0.1 t1.0 t2.0 in
      let all = Takes-then bytes (a.0.0 ∷ []) a.0.1 (b.0.0 ∷ text c.0.0) c.0.1 t0.0 two_more in
      let made : ScheduleEvent × List ℕ = (Raw a.0.0 b.0.0 c.0.0, c.0.1) in
      subst (λ (y : ScheduleEvent × List ℕ). IsTaken 2 bytes y) {x = made} {y = x} (ok_is made x c.2)
      (Takes-behind 2 bytes (a.0.0 ∷ b.0.0 ∷ text c.0.0) c.0.1 all, (t0.2, t1.1, t2.2))

  pass_takes : (bytes : List ℕ) (x : ScheduleEvent × List ℕ) → IsBytes bytes → pass_at roles bytes ≡ Ok x → IsTaken 3 bytes x
  unfolding pass_at
  pass_takes bytes x fits e =
      let a = bind_ok (wide_at w32 bytes) _ x e in
      let b = bind_ok (correct_at roles a.0.1) _ x a.2 in
      let t0 = long_takes (fault_at faults.Short bytes) bytes a.0.0 a.0.1 fits a.1 in
      let t1 = process_that_takes (is_correct ls) faults.Field a.0.1 b.0 t0.0.rest_fits b.1 in
      let both = Takes-then bytes (four_bytes a.0.0) a.0.1 (b.0.0 ∷ []) b.0.1 t0.0 t1.0 in
      let made : ScheduleEvent × List ℕ = (Pass a.0.0 b.0.0, b.0.1) in
      subst (λ (y : ScheduleEvent × List ℕ). IsTaken 3 bytes y) {x = made} {y = x} (ok_is made x b.2)
      (Takes-behind 3 bytes (four_bytes a.0.0 ++ b.0.0 ∷ []) b.0.1 both, (t0.1, t1.2))

  drain_takes : (bytes : List ℕ) (x : ScheduleEvent × List ℕ) → IsBytes bytes → drain_at roles bytes ≡ Ok x → IsTaken 4 bytes x
  unfolding drain_at
  drain_takes bytes x fits e =
      let a = bind_ok (wide_at w32 bytes) _ x e in
      let b = bind_ok (wide_at w64 a.0.1) _ x a.2 in
      let t0 = long_takes (fault_at faults.Short bytes) bytes a.0.0 a.0.1 fits a.1 in
      let t1 = mask_takes a.0.1 b.0 t0.0.rest_fits b.1 in
      let both = Takes-then bytes (four_bytes a.0.0) a.0.1 (eight_bytes b.0.0) b.0.1 t0.0 t1.0 in
      let made : ScheduleEvent × List ℕ = (Drain a.0.0 b.0.0, b.0.1) in
      subst (λ (y : ScheduleEvent × List ℕ). IsTaken 4 bytes y) {x = made} {y = x} (ok_is made x b.2)
      (Takes-behind 4 bytes (four_bytes a.0.0 ++ eight_bytes b.0.0) b.0.1 both, (t0.1, t1.1))

  lie_takes : (bytes : List ℕ) (x : ScheduleEvent × List ℕ) → IsBytes bytes → lie_at roles bytes ≡ Ok x → IsTaken 5 bytes x
  unfolding lie_at
  lie_takes bytes x fits e =
      let a = bind_ok (process_that (is_corrupt ls) faults.Field bytes) _ x e in
      let b = bind_ok (wide_at w64 a.0.1) _ x a.2 in
      let c = bind_ok (wide_at w16 b.0.1) _ x b.2 in
      let d = bind_ok (tested is_statement faults.Field (field_at c.0.0) c.0.1) _ x c.2 in
      let t0 = process_that_takes (is_corrupt ls) faults.Field bytes a.0 fits a.1 in
      let t1 = mask_takes a.0.1 b.0 t0.0.rest_fits b.1 in
      let t2 = short_takes (fault_at faults.Short b.0.1) b.0.1 c.0.0 c.0.1 t1.0.rest_fits c.1 in
      let g = tested_ok is_statement faults.Field (field_at c.0.0) c.0.1 d.0 d.1 in
      let t3 = bytes_takes (fault_at faults.Short c.0.1) c.0.0 c.0.1 d.0.0 d.0.1 t2.0.rest_fits g.0 in
      let texted : Takes b.0.1 (text d.0.0) d.0.1 = rw t3.1 (Takes-then b.0.1 (two_bytes c.0.0) c.0.1 d.0.0 d.0.1 t2.0 t3.0) in
      let masked = Takes-then a.0.1 (eight_bytes b.0.0) b.0.1 (text d.0.0) d.0.1 t1.0 texted in
      let all = Takes-then bytes (a.0.0 ∷ []) a.0.1 (eight_bytes b.0.0 ++ text d.0.0) d.0.1 t0.0 masked in
      let made : ScheduleEvent × List ℕ = (Lie a.0.0 b.0.0 d.0.0, d.0.1) in
      subst (λ (y : ScheduleEvent × List ℕ). IsTaken 5 bytes y) {x = made} {y = x} (ok_is made x d.2)
      (Takes-behind 5 bytes (a.0.0 ∷ (eight_bytes b.0.0 ++ text d.0.0)) d.0.1 all, (t0.2, t1.1, omega (arith, t3.1, t2.1), g.1))

  about_takes : (kind : ℕ → ℕ → ScheduleEvent) (tag : ℕ) (bytes : List ℕ) (x : ScheduleEvent × List ℕ)
      → ((p q : ℕ) → event_bytes (kind p q) ≡ tag ∷ p ∷ q ∷ []) → ((p q : ℕ) → is_correct ls p ≡ true → q ≤ 63 → IsEvent ls (kind p q))
      → IsBytes bytes → about_at roles kind bytes ≡ Ok x → IsTaken tag bytes x
  unfolding about_at
  about_takes kind tag bytes x spelled ranged fits e =
      let a = bind_ok (correct_at roles bytes) _ x e in
      let b = bind_ok (other_at a.0.1) _ x a.2 in
      let t0 = process_that_takes (is_correct ls) faults.Field bytes a.0 fits a.1 in
      let t1 = other_takes a.0.1 b.0 t0.0.rest_fits b.1 in
      let both = Takes-then bytes (a.0.0 ∷ []) a.0.1 (b.0.0 ∷ []) b.0.1 t0.0 t1.0 in
      let made : ScheduleEvent × List ℕ = (kind a.0.0 b.0.0, b.0.1) in
      subst (λ (y : ScheduleEvent × List ℕ). IsTaken tag bytes y) {x = made} {y = x} (ok_is made x b.2)
      (rw (spelled a.0.0 b.0.0) (Takes-behind tag bytes (a.0.0 ∷ b.0.0 ∷ []) b.0.1 both), ranged a.0.0 b.0.0 t0.2 t1.1)

  alone_takes : (kind : ℕ → ScheduleEvent) (tag : ℕ) (bytes : List ℕ) (x : ScheduleEvent × List ℕ)
      → ((p : ℕ) → event_bytes (kind p) ≡ tag ∷ p ∷ []) → ((p : ℕ) → is_correct ls p ≡ true → IsEvent ls (kind p))
      → IsBytes bytes → alone_at roles kind bytes ≡ Ok x → IsTaken tag bytes x
  unfolding alone_at
  alone_takes kind tag bytes x spelled ranged fits e =
      let a = bind_ok (correct_at roles bytes) _ x e in
      let t0 = process_that_takes (is_correct ls) faults.Field bytes a.0 fits a.1 in
      let made : ScheduleEvent × List ℕ = (kind a.0.0, a.0.1) in
      subst (λ (y : ScheduleEvent × List ℕ). IsTaken tag bytes y) {x = made} {y = x} (ok_is made x a.2)
      (rw (spelled a.0.0) (Takes-behind tag bytes (a.0.0 ∷ []) a.0.1 t0.0), ranged a.0.0 t0.2)

  fields_take : (tag : ℕ) (rest : List ℕ) (x : ScheduleEvent × List ℕ) → 1 ≤ tag → tag ≤ 9 → IsBytes rest → fields_at roles tag rest ≡ Ok x
      → IsTaken tag rest x
  unfolding fields_at
  fields_take zero rest x least most fits e = absurd (omega arith)
  fields_take (suc zero) rest x least most fits e = submit_takes rest x fits e
  fields_take (suc (suc zero)) rest x least most fits e = raw_takes rest x fits e
  fields_take (suc (suc (suc zero))) rest x least most fits e = pass_takes rest x fits e
  fields_take (suc (suc (suc (suc zero)))) rest x least most fits e = drain_takes rest x fits e
  fields_take (suc (suc (suc (suc (suc zero))))) rest x least most fits e = lie_takes rest x fits e
  fields_take (suc (suc (suc (suc (suc (suc zero)))))) rest x least most fits e = about_takes Suspect 6 rest x (λ p q. refl)
      (λ p q c o. (c, o)) fits e
  fields_take (suc (suc (suc (suc (suc (suc (suc zero))))))) rest x least most fits e = about_takes Join 7 rest x (λ p q. refl)
      (λ p q c o. (c, o)) fits e
  fields_take (suc (suc (suc (suc (suc (suc (suc (suc zero)))))))) rest x least most fits e = alone_takes Renew 8 rest x (λ p. refl)
      (λ p c. c) fits e
  fields_take (suc (suc (suc (suc (suc (suc (suc (suc (suc zero))))))))) rest x least most fits e = alone_takes Tick 9 rest x (λ p. refl)
      (λ p c. c) fits e
  fields_take (suc (suc (suc (suc (suc (suc (suc (suc (suc (suc tag)))))))))) rest x least most fits e = absurd (omega arith)

  -- an event that takes one step
  one_step : (n : ℕ × List ℕ) (bytes : List ℕ) (made x : ScheduleEvent × List ℕ) → 1 ≡ steps_of made.0
      → (let reported : Step ℕ = Ok (1, bytes) in reported) ≡ Ok n → (let read : Step ScheduleEvent = Ok made in read) ≡ Ok x → n.0 ≡ steps_of x.0
  one_step n bytes made x one e f =
      let reported : ℕ × List ℕ = (1, bytes) in
      ap (λ (m : ℕ × List ℕ). m.0) (sym (ok_is reported n e)) ∙ one ∙ ap (λ (y : ScheduleEvent × List ℕ). steps_of y.0) (ok_is made x f)

  -- how many steps the event takes, as told behind its tag
  steps_are : (tag : ℕ) (bytes : List ℕ) (n : ℕ × List ℕ) (x : ScheduleEvent × List ℕ) → 1 ≤ tag → tag ≤ 9 → steps_at tag bytes ≡ Ok n
      → fields_at roles tag bytes ≡ Ok x → n.0 ≡ steps_of x.0
  unfolding steps_at fields_at submit_at raw_at pass_at drain_at lie_at about_at alone_at
  steps_are zero bytes n x least most e f = absurd (omega arith)
  steps_are (suc zero) bytes n x least most e f =
      let a = bind_ok (correct_at roles bytes) _ x f in
      let b = bind_ok (text_at 65535 a.0.1) _ x a.2 in
      one_step n bytes (Submit a.0.0 b.0.0, b.0.1) x refl e b.2
  steps_are (suc (suc zero)) bytes n x least most e f =
      let a = bind_ok (correct_at roles bytes) _ x f in
      let b = bind_ok (other_at a.0.1) _ x a.2 in
      let c = bind_ok (text_at most_raw_bytes b.0.1) _ x b.2 in
      one_step n bytes (Raw a.0.0 b.0.0 c.0.0, c.0.1) x refl e c.2
  steps_are (suc (suc (suc zero))) bytes n x least most e f =
      let a = bind_ok (wide_at w32 bytes) _ x f in
      let b = bind_ok (correct_at roles a.0.1) _ x a.2 in
      one_step n bytes (Pass a.0.0 b.0.0, b.0.1) x refl e b.2
  steps_are (suc (suc (suc (suc zero)))) bytes n x least most e f =
      let a = bind_ok (wide_at w32 bytes) _ x f in
      let b = bind_ok (wide_at w64 a.0.1) _ x a.2 in
      let made : ScheduleEvent × List ℕ = (Drain a.0.0 b.0.0, b.0.1) in
      let same : n ≡ a.0 = ok_is n a.0 (sym e ∙ a.1) in
      ap (λ (m : ℕ × List ℕ). m.0) same ∙ ap (λ (y : ScheduleEvent × List ℕ). steps_of y.0) (ok_is made x b.2)
  steps_are (suc (suc (suc (suc (suc zero))))) bytes n x least most e f =
      let a = bind_ok (process_that (is_corrupt ls) faults.Field bytes) _ x f in
      let b = bind_ok (wide_at w64 a.0.1) _ x a.2 in
      let c = bind_ok (wide_at w16 b.0.1) _ x b.2 in
      let d = bind_ok (tested is_statement faults.Field (field_at c.0.0) c.0.1) _ x c.2 in
      one_step n bytes (Lie a.0.0 b.0.0 d.0.0, d.0.1) x refl e d.2
  steps_are (suc (suc (suc (suc (suc (suc zero)))))) bytes n x least most e f =
      let a = bind_ok (correct_at roles bytes) _ x f in
      let b = bind_ok (other_at a.0.1) _ x a.2 in
      one_step n bytes (Suspect a.0.0 b.0.0, b.0.1) x refl e b.2
  steps_are (suc (suc (suc (suc (suc (suc (suc zero))))))) bytes n x least most e f =
      let a = bind_ok (correct_at roles bytes) _ x f in
      let b = bind_ok (other_at a.0.1) _ x a.2 in
      one_step n bytes (Join a.0.0 b.0.0, b.0.1) x refl e b.2
  steps_are (suc (suc (suc (suc (suc (suc (suc (suc zero)))))))) bytes n x least most e f =
      let a = bind_ok (correct_at roles bytes) _ x f in
      one_step n bytes (Renew a.0.0, a.0.1) x refl e a.2
  steps_are (suc (suc (suc (suc (suc (suc (suc (suc (suc zero))))))))) bytes n x least most e f =
      let a = bind_ok (correct_at roles bytes) _ x f in
      one_step n bytes (Tick a.0.0, a.0.1) x refl e a.2
  steps_are (suc (suc (suc (suc (suc (suc (suc (suc (suc (suc tag)))))))))) bytes n x least most e f = absurd (omega arith)

  abbrev is_tag : ℕ → Bool
  is_tag tag = is_from 1 9 tag

  abbrev is_room : ℕ → ℕ × ℕ → Bool
  is_room left tag = leb tag.1 left

  pub event_takes : (left : ℕ) (bytes : List ℕ) (x : ScheduleEvent × List ℕ) → IsBytes bytes → event_at roles left bytes ≡ Ok x
      → Takes bytes (event_bytes x.0) x.1 × IsEvent ls x.0 × (steps_of x.0 ≤ left)
  unfolding event_at tag_at
  event_takes left bytes x fits e =
      let a = bind_ok (tested (is_room left) faults.TooMany tag_at bytes) _ x e in
      let g = tested_ok (is_room left) faults.TooMany tag_at bytes a.0 a.1 in
      let t = bind_ok (byte_that is_tag faults.Tag bytes) _ a.0 g.0 in
      let s = bind_ok (steps_at t.0.0 t.0.1) _ a.0 t.2 in
      let made : (ℕ × ℕ) × List ℕ = ((t.0.0, s.0.0), t.0.1) in
      let same : made ≡ a.0 = ok_is made a.0 s.2 in
      let t0 = byte_that_takes is_tag faults.Tag bytes t.0 fits t.1 in
      let range = and_parts (leb 1 t.0.0) (leb t.0.0 9) t0.2 in
      let least = leb-true 1 t.0.0 range.0 in
      let most = leb-true t.0.0 9 range.1 in
      let fields : fields_at roles t.0.0 t.0.1 ≡ Ok x = subst (λ (y : (ℕ × ℕ) × List ℕ). fields_at roles y.0.0 y.1 ≡ Ok x) (sym same) a.2 in
      let room : leb s.0.0 left ≡ true = subst (λ (y : (ℕ × ℕ) × List ℕ). leb y.0.1 left ≡ true) (sym same) g.1 in
      let taken = fields_take t.0.0 t.0.1 x least most t0.0.rest_fits fields in
      let steps : s.0.0 ≡ steps_of x.0 = steps_are t.0.0 t.0.1 s.0 x least most s.1 fields in (
        record { parts = t0.0.parts ∙ taken.0.parts; rest_fits = taken.0.rest_fits },
        taken.1,
        omega (arith, steps, leb-true s.0.0 left room),
      )

  -- ---- what is spelled so is read

  -- the tag and the fields of an event
  abbrev tag_of : ScheduleEvent → ℕ
  tag_of (Submit at payload) = 1
  tag_of (Raw to from bytes) = 2
  tag_of (Pass frame to) = 3
  tag_of (Drain count mask) = 4
  tag_of (Lie signer mask statement) = 5
  tag_of (Suspect at other) = 6
  tag_of (Join at other) = 7
  tag_of (Renew at) = 8
  tag_of (Tick at) = 9

  abbrev field_bytes : ScheduleEvent → List ℕ
  field_bytes (Submit at payload) = at ∷ text payload
  field_bytes (Raw to from bytes) = to ∷ from ∷ text bytes
  field_bytes (Pass frame to) = four_bytes frame ++ to ∷ []
  field_bytes (Drain count mask) = four_bytes count ++ eight_bytes mask
  field_bytes (Lie signer mask statement) = signer ∷ (eight_bytes mask ++ text statement)
  field_bytes (Suspect at other) = at ∷ other ∷ []
  field_bytes (Join at other) = at ∷ other ∷ []
  field_bytes (Renew at) = at ∷ []
  field_bytes (Tick at) = at ∷ []

  parts_of : (e : ScheduleEvent) → (event_bytes e ≡ tag_of e ∷ field_bytes e) × (is_tag (tag_of e) ≡ true)
  parts_of (Submit at payload) = (refl, refl)
  parts_of (Raw to from bytes) = (refl, refl)
  parts_of (Pass frame to) = (refl, refl)
  parts_of (Drain count mask) = (refl, refl)
  parts_of (Lie signer mask statement) = (refl, refl)
  parts_of (Suspect at other) = (refl, refl)
  parts_of (Join at other) = (refl, refl)
  parts_of (Renew at) = (refl, refl)
  parts_of (Tick at) = (refl, refl)

  module _ (correct_below : (p : ℕ) → is_correct ls p ≡ true → p ≤ 63) (corrupt_below : (p : ℕ) → is_corrupt ls p ≡ true → p ≤ 63) where
    correct_again : (p : ℕ) (rest : List ℕ) → is_correct ls p ≡ true → correct_at roles (p ∷ rest) ≡ Ok (p, rest)
    correct_again p rest is = process_that_again (is_correct ls) faults.Field p rest (correct_below p is) is

    lie_again : (signer mask : ℕ) (st rest : List ℕ) → IsEvent ls (Lie signer mask st)
        → lie_at roles (field_bytes (Lie signer mask st) ++ rest) ≡ Ok (Lie signer mask st, rest)
    unfolding lie_at
    lie_again signer mask st rest fits =
        let behind : List ℕ = two_bytes (length st) ++ (st ++ rest) in
        let statement : tested is_statement faults.Field (field_at (length st)) (st ++ rest) ≡ Ok (st, rest) =
        tested_again is_statement faults.Field (field_at (length st))
        (st ++ rest) st rest (bytes_again (fault_at faults.Short (st ++ rest)) st rest) fits.3 in
        ap (λ (t : List ℕ). lie_at roles (signer ∷ t))
        (append_assoc (eight_bytes mask) (text st) rest ∙ ap (λ (t : List ℕ). eight_bytes mask ++ t)
        (append_assoc (two_bytes (length st)) st rest))
        ∙ rw (
          process_that_again (is_corrupt ls) faults.Field signer (eight_bytes mask ++ behind) (corrupt_below signer fits.0) fits.0,
          mask_again mask behind fits.1,
          short_again (fault_at faults.Short behind) (length st) (st ++ rest) fits.2,
          statement,
        ) refl

    fields_again : (e : ScheduleEvent) (rest : List ℕ) → IsEvent ls e → fields_at roles (tag_of e) (field_bytes e ++ rest) ≡ Ok (e, rest)
    unfolding fields_at submit_at raw_at pass_at drain_at about_at alone_at
    fields_again (Submit at payload) rest fits =
        rw (correct_again at (text payload ++ rest) fits.0, text_again 65535 payload rest fits.1 (omega (arith, fits.1))) refl
    fields_again (Raw to from bytes) rest fits =
        rw (
          correct_again to (from ∷ (text bytes ++ rest)) fits.0,
          other_again from (text bytes ++ rest) fits.1,
          text_again most_raw_bytes bytes rest (omega (arith, fits.2)) fits.2,
        ) refl
    fields_again (Pass frame to) rest fits =
        ap (pass_at roles) (append_assoc (four_bytes frame) (to ∷ []) rest)
        ∙ rw (
          long_again (fault_at faults.Short (four_bytes frame ++ (to ∷ rest))) frame (to ∷ rest) fits.0,
          correct_again to rest fits.1,
        ) refl
    fields_again (Drain count mask) rest fits =
        ap (drain_at roles) (append_assoc (four_bytes count) (eight_bytes mask) rest)
        ∙ rw (
          long_again (fault_at faults.Short (four_bytes count ++ (eight_bytes mask ++ rest))) count (eight_bytes mask ++ rest) fits.0,
          mask_again mask rest fits.1,
        ) refl
    fields_again (Lie signer mask st) rest fits = lie_again signer mask st rest fits
    fields_again (Suspect at other) rest fits = rw (correct_again at (other ∷ rest) fits.0, other_again other rest fits.1) refl
    fields_again (Join at other) rest fits = rw (correct_again at (other ∷ rest) fits.0, other_again other rest fits.1) refl
    fields_again (Renew at) rest fits = rw (correct_again at rest fits) refl
    fields_again (Tick at) rest fits = rw (correct_again at rest fits) refl

    steps_again : (e : ScheduleEvent) (rest : List ℕ) → IsEvent ls e
        → (after : List ℕ) × (steps_at (tag_of e) (field_bytes e ++ rest) ≡ Ok (steps_of e, after))
    unfolding steps_at
    steps_again (Submit at payload) rest fits = (field_bytes (Submit at payload) ++ rest, refl)
    steps_again (Raw to from bytes) rest fits = (field_bytes (Raw to from bytes) ++ rest, refl)
    steps_again (Pass frame to) rest fits = (field_bytes (Pass frame to) ++ rest, refl)
    steps_again (Drain count mask) rest fits = (
      eight_bytes mask ++ rest,
      ap (wide_at w32)
          (append_assoc (four_bytes count) (eight_bytes mask) rest) ∙ long_again
          (fault_at faults.Short (four_bytes count ++ (eight_bytes mask ++ rest))) count (eight_bytes mask ++ rest) fits.0,
    )
    steps_again (Lie signer mask st) rest fits = (field_bytes (Lie signer mask st) ++ rest, refl)
    steps_again (Suspect at other) rest fits = (field_bytes (Suspect at other) ++ rest, refl)
    steps_again (Join at other) rest fits = (field_bytes (Join at other) ++ rest, refl)
    steps_again (Renew at) rest fits = (field_bytes (Renew at) ++ rest, refl)
    steps_again (Tick at) rest fits = (field_bytes (Tick at) ++ rest, refl)

    pub event_again : (left : ℕ) (e : ScheduleEvent) (rest : List ℕ) → steps_of e ≤ left → IsEvent ls e
        → event_at roles left (event_bytes e ++ rest) ≡ Ok (e, rest)
    unfolding event_at tag_at
    event_again left e rest room fits =
        let p = parts_of e in
        let behind : List ℕ = field_bytes e ++ rest in
        let steps = steps_again e rest fits in
        let tag : tag_at (tag_of e ∷ behind)
        ≡ Ok ((tag_of e, steps_of e), behind) = rw (byte_that_again is_tag faults.Tag (tag_of e) behind p.1, steps.1) refl in
        let tagged : tested (is_room left) faults.TooMany tag_at (tag_of e ∷ behind) ≡ Ok ((tag_of e, steps_of e), behind) =
        tested_again (is_room left) faults.TooMany tag_at (tag_of e ∷ behind)
        (tag_of e, steps_of e) behind tag (le-leb (steps_of e) left room) in
        ap (λ (t : List ℕ). event_at roles left (t ++ rest)) p.0
        ∙ ap (λ (read : Step (ℕ × ℕ)). read >>= λ t. fields_at roles t.0.0 t.1) tagged
        ∙ fields_again e rest fits
