-- The parts of a statement: what was read is spelled so, and what is spelled so is read.
use Rattle.std.proofs.Common.{◌≡◌, ℕ, ◌≤◌, Bool, true, false, not, ltb, leb, eqb, List, [], ◌∷◌, ◌++◌, length, Option, Some, None, Result, Ok, refl, sym, ap, subst, ◌∙◌, inl, inr, append_assoc, arith}
use Rattle.std.specs.Prelude.{if◌then◌else◌, ◌&&◌, ◌⊎◌}
use Rattle.std.proofs.lemmas.Bool.{ltb-false, le-ltb, leb-false, lt-leb, eqb-true, eq-eqb}
use Rattle.std.proofs.lemmas.List.{nil_from_length, append-nil}
use Rattle.byte_defs.specs.Fields.{◌>>=◌, refuse_if, two_bytes, text}
use Rattle.byte_defs.proofs.Fields.{IsBytes, bind_ok, refuse_ok, ok_is, not_false, Takes, Takes-then, byte_takes, byte_again, short_takes, short_again}
use Rattle.message_defs.specs.declared.FrameFault.{FrameFault}
use Rattle.message_defs.specs.declared.FrameFault.TheVariants as faults
use Rattle.message_defs.specs.Updates.{Update, Remove, Add, Renew, Value, update_numbers}
use Rattle.message_defs.specs.Statements.{Message}
use Rattle.message_defs.specs.Spelling.{IsMessage, IsUpdate, IsValue, IsReport, message_bytes, value_bytes, ready_bytes}
use Rattle.message_defs.specs.Reading.{byte_at, short_at, ended, message_at, payload_at, update_by, update_at, value_at, report_at, within, message_within, update_within, value_within, report_within}

-- ---- tests

unrefused : (b : Bool) (d : FrameFault) → refuse_if b d ≡ Ok tt → b ≡ false
unrefused true d e = absurd cc
unrefused false d e = refl

pub within_ok : (limit n : ℕ) → within limit n ≡ Ok tt → n ≤ limit
within_ok limit n e = ltb-false _ _ (unrefused (ltb limit n) faults.Range e)

pub is_within : (limit n : ℕ) → n ≤ limit → within limit n ≡ Ok tt
is_within limit n le = let fine : ltb limit n ≡ false = le-ltb _ _ le in rw fine refl

pub ended_ok : (bytes : List ℕ) → ended bytes ≡ Ok tt → bytes ≡ []
ended_ok bytes e = nil_from_length bytes (eqb-true _ _ (not_false _ (unrefused (not (eqb (length bytes) 0)) faults.Statement e)))

pub message_within_ok : (m : Message) → message_within m ≡ Ok tt → IsMessage m
message_within_ok m e =
    let a = bind_ok (within 63 m.sender) _ tt e in
    (within_ok _ _ a.1, within_ok _ _ a.2)

pub is_message_within : (m : Message) → IsMessage m → message_within m ≡ Ok tt
is_message_within m fits = rw (is_within 63 m.sender fits.0) (is_within 1023 m.number fits.1)

pub update_within_ok : (u : Update) → update_within u ≡ Ok tt → IsUpdate u
update_within_ok (Remove p) e = within_ok _ _ e
update_within_ok (Add p) e = within_ok _ _ e
update_within_ok Renew e = tt

pub is_update_within : (u : Update) → IsUpdate u → update_within u ≡ Ok tt
is_update_within (Remove p) fits = is_within 63 p fits
is_update_within (Add p) fits = is_within 63 p fits
is_update_within Renew fits = refl

pub value_within_ok : (v : Value) → value_within v ≡ Ok tt → IsValue v
value_within_ok v e =
    let a = bind_ok (update_within v.update) _ tt e in
    (update_within_ok v.update a.1, within_ok _ _ a.2)

pub is_value_within : (v : Value) → IsValue v → value_within v ≡ Ok tt
is_value_within v fits = rw (is_update_within v.update fits.0) (is_within 1024 v.cut fits.1)

-- ---- fields

-- a field of two bytes, and nothing behind the last field
pub short : (bytes : List ℕ) (x : ℕ × List ℕ) → IsBytes bytes → short_at bytes ≡ Ok x → Takes bytes (two_bytes x.0) x.1
short bytes x fits e = (short_takes faults.Statement bytes x.0 x.1 fits e).0

pub byte : (bytes : List ℕ) (x : ℕ × List ℕ) → IsBytes bytes → byte_at bytes ≡ Ok x → Takes bytes (x.0 ∷ []) x.1
byte bytes x fits e = (byte_takes faults.Statement bytes x.0 x.1 fits e).0

pub whole : (bytes front rest : List ℕ) → bytes ≡ front ++ rest → rest ≡ [] → bytes ≡ front
whole bytes front rest e none = e ∙ ap (λ (t : List ℕ). front ++ t) none ∙ append-nil front

pub message_takes : (bytes : List ℕ) (x : Message × List ℕ) → IsBytes bytes → message_at bytes ≡ Ok x → Takes bytes (message_bytes x.0) x.1
unfolding message_at
message_takes bytes x fits e =
    let a = bind_ok (byte_at bytes) _ x e in
    let b = bind_ok (short_at a.0.1) _ x a.2 in
    let s = byte_takes faults.Statement bytes a.0.0 a.0.1 fits a.1 in
    let l = short_takes faults.Statement a.0.1 b.0.0 b.0.1 s.0.rest_fits b.1 in
    let made : Message × List ℕ = (record { sender = a.0.0; number = b.0.0 }, b.0.1) in
    subst (λ (y : Message × List ℕ). Takes bytes (message_bytes y.0) y.1) (ok_is made x b.2)
    (Takes-then bytes (a.0.0 ∷ []) a.0.1 (two_bytes b.0.0) b.0.1 s.0 l.0)

pub message_again : (m : Message) (rest : List ℕ) → IsMessage m → message_at (message_bytes m ++ rest) ≡ Ok (m, rest)
unfolding message_at
message_again m rest fits = rw (
  byte_again faults.Statement m.sender (two_bytes m.number ++ rest),
  short_again faults.Statement m.number rest (omega (arith, fits.1)),
) refl

pub payload_takes : (bytes payload : List ℕ) → IsBytes bytes → payload_at bytes ≡ Ok payload → bytes ≡ text payload
unfolding payload_at
payload_takes bytes payload fits e =
    let a = bind_ok (short_at bytes) _ payload e in
    let b = refuse_ok (not (eqb (length a.0.1) a.0.0)) faults.Statement (λ _. Ok a.0.1) payload a.2 in
    let len : length a.0.1 ≡ a.0.0 = eqb-true _ _ (not_false _ b.0) in
    let t = short_takes faults.Statement bytes a.0.0 a.0.1 fits a.1 in
    t.0.parts ∙ ap (λ (n : ℕ). two_bytes n ++ a.0.1) (sym len) ∙ ap text (ok_is a.0.1 payload b.1)

pub payload_again : (payload : List ℕ) → length payload ≤ 1024 → payload_at (text payload) ≡ Ok payload
unfolding payload_at
payload_again payload short =
    let same : eqb (length payload) (length payload) ≡ true = eq-eqb _ _ refl in
    rw (short_again faults.Statement (length payload) payload (omega arith), same) refl

-- a choice that was read: the first, or what comes after it
chosen : {A : Type 0} (b : Bool) (x y : A) (after : Result A FrameFault) → (if b then Ok x else after) ≡ Ok y
    → ((b ≡ true) × (x ≡ y)) ⊎ (after ≡ Ok y)
chosen true x y after e = inl (refl, cc)
chosen false x y after e = inr e

and_true : (b d : Bool) → (b && d) ≡ true → (b ≡ true) × (d ≡ true)
and_true true d e = (refl, e)
and_true false d e = absurd cc

update_by_is : (tag p : ℕ) (u : Update) → update_by tag p ≡ Ok u → update_numbers u ≡ tag ∷ p ∷ []
update_by_is tag p u e =
    elim (chosen (eqb tag 1) (Remove p) u _ e) [
      | inl one ↦ rw (← one.1, eqb-true tag 1 one.0) refl
      | inr e ↦ elim (chosen (eqb tag 2) (Add p) u _ e) [
        | inl one ↦ rw (← one.1, eqb-true tag 2 one.0) refl
        | inr e ↦ elim (chosen (eqb tag 3 && eqb p 0) Renew u _ e) [
          | inl one ↦ let both = and_true (eqb tag 3) (eqb p 0) one.0 in rw (← one.1, eqb-true tag 3 both.0, eqb-true p 0 both.1) refl
          | inr e ↦ absurd cc
        ]
      ]
    ]

pub update_takes : (bytes : List ℕ) (x : Update × List ℕ) → IsBytes bytes → update_at bytes ≡ Ok x → Takes bytes (update_numbers x.0) x.1
unfolding update_at
update_takes bytes x fits e =
    let a = bind_ok (byte_at bytes) _ x e in
    let b = bind_ok (byte_at a.0.1) _ x a.2 in
    let d = bind_ok (update_by a.0.0 b.0.0) _ x b.2 in
    let tag = byte_takes faults.Statement bytes a.0.0 a.0.1 fits a.1 in
    let p = byte_takes faults.Statement a.0.1 b.0.0 b.0.1 tag.0.rest_fits b.1 in
    let made : Update × List ℕ = (d.0, b.0.1) in
    let spelled : Takes bytes (update_numbers d.0) b.0.1 = rw (update_by_is a.0.0 b.0.0 d.0 d.1)
    (Takes-then bytes (a.0.0 ∷ []) a.0.1 (b.0.0 ∷ []) b.0.1 tag.0 p.0) in
    subst (λ (y : Update × List ℕ). Takes bytes (update_numbers y.0) y.1) (ok_is made x d.2) spelled

pub update_again : (u : Update) (rest : List ℕ) → update_at (update_numbers u ++ rest) ≡ Ok (u, rest)
unfolding update_at
update_again (Remove p) rest = rw (byte_again faults.Statement 1 (p ∷ rest), byte_again faults.Statement p rest) refl
update_again (Add p) rest = rw (byte_again faults.Statement 2 (p ∷ rest), byte_again faults.Statement p rest) refl
update_again Renew rest = rw (byte_again faults.Statement 3 (0 ∷ rest), byte_again faults.Statement 0 rest) refl

pub value_takes : (bytes : List ℕ) (x : Value × List ℕ) → IsBytes bytes → value_at bytes ≡ Ok x → Takes bytes (value_bytes x.0) x.1
unfolding value_at
value_takes bytes x fits e =
    let a = bind_ok (update_at bytes) _ x e in
    let b = bind_ok (short_at a.0.1) _ x a.2 in
    let u = update_takes bytes a.0 fits a.1 in
    let c = short_takes faults.Statement a.0.1 b.0.0 b.0.1 u.rest_fits b.1 in
    let made : Value × List ℕ = (record { update = a.0.0; cut = b.0.0 }, b.0.1) in
    subst (λ (y : Value × List ℕ). Takes bytes (value_bytes y.0) y.1) (ok_is made x b.2)
    (Takes-then bytes (update_numbers a.0.0) a.0.1 (two_bytes b.0.0) b.0.1 u c.0)

pub value_again : (v : Value) (rest : List ℕ) → IsValue v → value_at (value_bytes v ++ rest) ≡ Ok (v, rest)
unfolding value_at
value_again v rest fits =
    ap value_at (append_assoc (update_numbers v.update) (two_bytes v.cut) rest) ∙ rw
    (update_again v.update (two_bytes v.cut ++ rest), short_again faults.Statement v.cut rest (omega (arith, fits.1))) refl

-- the report of a Last
abbrev Report : Type 0
Report = Option (ℕ × Value)

abbrev some_report : List ℕ → Result (Report × List ℕ) FrameFault
some_report bytes = byte_at bytes >>= λ rank. value_at rank.1 >>= λ value. Ok (Some (rank.0, value.0), value.1)

some_takes : (bytes : List ℕ) (x : Report × List ℕ) → IsBytes bytes → some_report bytes ≡ Ok x → Takes (1 ∷ bytes) (ready_bytes x.0) x.1
some_takes bytes x fits e =
    let a = bind_ok (byte_at bytes) _ x e in
    let b = bind_ok (value_at a.0.1) _ x a.2 in
    let rank = byte_takes faults.Statement bytes a.0.0 a.0.1 fits a.1 in
    let value = value_takes a.0.1 b.0 rank.0.rest_fits b.1 in
    let both = Takes-then bytes (a.0.0 ∷ []) a.0.1 (value_bytes b.0.0) b.0.1 rank.0 value in
    let made : Report × List ℕ = (Some (a.0.0, b.0.0), b.0.1) in
    subst (λ (y : Report × List ℕ). Takes (1 ∷ bytes) (ready_bytes y.0) y.1) (ok_is made x b.2)
    (record { parts = ap (λ (t : List ℕ). 1 ∷ t) both.parts; rest_fits = both.rest_fits })

pub report_takes : (bytes : List ℕ) (x : Report × List ℕ) → IsBytes bytes → report_at bytes ≡ Ok x → Takes bytes (ready_bytes x.0) x.1
unfolding report_at
report_takes bytes x fits e =
    let a = bind_ok (byte_at bytes) _ x e in
    let tag = byte_takes faults.Statement bytes a.0.0 a.0.1 fits a.1 in
    elim (chosen (eqb a.0.0 0) (None, a.0.1) x (refuse_if (not (eqb a.0.0 1)) faults.Statement >>= λ _. some_report a.0.1) a.2) [
      | inl none ↦ let zero : a.0.0 ≡ 0 = eqb-true _ _ none.0 in
          subst (λ (y : Report × List ℕ). Takes bytes (ready_bytes y.0) y.1) none.1
          (subst (λ (t : ℕ). Takes bytes (t ∷ []) a.0.1) zero tag.0)
      | inr some ↦
          let b = refuse_ok (not (eqb a.0.0 1)) faults.Statement (λ _. some_report a.0.1) x some in
          let one : a.0.0 ≡ 1 = eqb-true _ _ (not_false _ b.0) in
          let whole : bytes ≡ 1 ∷ a.0.1 = tag.0.parts ∙ ap (λ (t : ℕ). t ∷ a.0.1) one in
          subst (λ (t : List ℕ). Takes t (ready_bytes x.0) x.1) (sym whole) (some_takes a.0.1 x tag.0.rest_fits b.1)
    ]

pub report_again : (r : ℕ) (ready : Report) (rest : List ℕ) → IsReport r ready → report_at (ready_bytes ready ++ rest) ≡ Ok (ready, rest)
unfolding report_at
report_again r None rest fits = rw (byte_again faults.Statement 0 rest) refl
report_again r (Some ready) rest fits =
    rw (
      byte_again faults.Statement 1 (ready.0 ∷ (value_bytes ready.1 ++ rest)),
      byte_again faults.Statement ready.0 (value_bytes ready.1 ++ rest),
      value_again ready.1 rest fits.1,
    ) refl

pub report_within_ok : (r : ℕ) (ready : Report) → report_within r ready ≡ Ok tt → IsReport r ready
report_within_ok r None e = tt
report_within_ok r (Some ready) e =
    let a = refuse_ok (leb r ready.0) faults.Range (λ _. value_within ready.1) tt e in
    (leb-false _ _ a.0, value_within_ok ready.1 a.1)

pub is_report_within : (r : ℕ) (ready : Report) → IsReport r ready → report_within r ready ≡ Ok tt
is_report_within r None fits = refl
is_report_within r (Some ready) fits = let fine : leb r ready.0 ≡ false = lt-leb _ _ fits.0 in rw fine (is_value_within ready.1 fits.1)
