use Rattle.std.proofs.Common.{inl, inr, Err, ap, arith}
use Rattle.kit_reading.specs.declared.fronts.FrontFault.{FrontFault}
use Rattle.store_questions.proofs.Statuses.{at_read, never, no_fault, no_read, no_text, one_of, quiet_so, refused_so}
use Rattle.store_questions.proofs.word.write_question.Goals as goal

-- ---- a text

pub returns-in-Ok-clause-made : goal.returns-in-Ok-clause-made
returns-in-Ok-clause-made g c = λ zero.
    let made = c.in-Ok.ensures.made in
    record {
      input = made.read;
      taken = made.taken;
      over = made.ended;
      text = c.in-Ok.text.items;
      asks = c.question_is_asked.ensures c.args.payload.now made.read c.in-Ok.text.items made.is;
      wrote = rw c.deref.ensures.value at c.give.ensures.done zero;
    }

pub returns-in-Ok-clause-part : goal.returns-in-Ok-clause-part
returns-in-Ok-clause-part g c = λ four. record {
  text = c.in-Ok.text.items;
  all = c.in-Ok.ensures.made;
  part = rw c.deref.ensures.value at c.give.ensures.part four;
}

pub returns-in-Ok-clause-refuses : goal.returns-in-Ok-clause-refuses
returns-in-Ok-clause-refuses g c = λ bad calm. absurd (no_text c.args.payload.now c.in-Ok.text.items _ _ c.in-Ok.ensures.made bad)

-- ---- none

pub returns-in-Err-clause-made : goal.returns-in-Err-clause-made
returns-in-Err-clause-made g c = λ zero.
    absurd (never _ _ _ _ _ c.in-Err.fault _ 0 c.tell.ensures (λ a. omega (arith, a)) (λ a. omega (arith, a)) (λ a. omega (arith, a)) zero)

pub returns-in-Err-clause-read : goal.returns-in-Err-clause-read
returns-in-Err-clause-read g c = λ three.
    c.in-Err.ensures.failed (ap (λ (e : FrontFault). Err e) (at_read _ _ _ _ _ c.in-Err.fault _ c.tell.ensures three).0)

pub returns-in-Err-clause-no_read : goal.returns-in-Err-clause-no_read
returns-in-Err-clause-no_read g c = λ other. no_read _ _ _ _ _ c.in-Err.fault _ c.tell.ensures c.in-Err.ensures.steady other

pub returns-in-Err-clause-read_line : goal.returns-in-Err-clause-read_line
returns-in-Err-clause-read_line g c = λ three. (at_read _ _ _ _ _ c.in-Err.fault _ c.tell.ensures three).1

pub returns-in-Err-clause-write : goal.returns-in-Err-clause-write
returns-in-Err-clause-write g c = λ four.
    absurd (never _ _ _ _ _ c.in-Err.fault _ 4 c.tell.ensures (λ a. omega (arith, a)) (λ a. omega (arith, a)) (λ a. omega (arith, a)) four)

pub returns-in-Err-clause-part : goal.returns-in-Err-clause-part
returns-in-Err-clause-part g c = λ four.
    absurd (never _ _ _ _ _ c.in-Err.fault _ 4 c.tell.ensures (λ a. omega (arith, a)) (λ a. omega (arith, a)) (λ a. omega (arith, a)) four)

pub returns-in-Err-clause-refused : goal.returns-in-Err-clause-refused
returns-in-Err-clause-refused g c = λ seven. refused_so _ _ _ _ _ c.args.payload.now c.in-Err.fault _ _ _ c.tell.ensures seven c.in-Err.ensures.refused

pub returns-in-Err-clause-quiet : goal.returns-in-Err-clause-quiet
returns-in-Err-clause-quiet g c = quiet_so _ _ _ _ _ c.in-Err.fault _ c.tell.ensures

pub returns-in-Err-clause-completes : goal.returns-in-Err-clause-completes
returns-in-Err-clause-completes g c = λ is calm_in calm_out.
    elim (one_of _ _ _ _ _ c.in-Err.fault _ c.tell.ensures) [
      | inl one ↦ inr one
      | inr (inl three) ↦ absurd (calm_in (c.in-Err.ensures.failed (ap (λ (e : FrontFault). Err e) three.1)))
      | inr (inr seven) ↦ absurd (no_fault _ _ _ _ _ c.args.payload.now c.in-Err.fault _ _ _ c.tell.ensures seven c.in-Err.ensures.refused is)
    ]

pub returns-in-Err-clause-refuses : goal.returns-in-Err-clause-refuses
returns-in-Err-clause-refuses g c = λ bad calm_in.
    elim (one_of _ _ _ _ _ c.in-Err.fault _ c.tell.ensures) [
      | inl one ↦ inr one
      | inr (inl three) ↦ absurd (calm_in (c.in-Err.ensures.failed (ap (λ (e : FrontFault). Err e) three.1)))
      | inr (inr seven) ↦ inl seven
    ]

pub returns-in-Err-clause-only : goal.returns-in-Err-clause-only
returns-in-Err-clause-only g c = elim (one_of _ _ _ _ _ c.in-Err.fault _ c.tell.ensures) [
  | inl one ↦ inr (inl one)
  | inr (inl three) ↦ inr (inr (inl three.0))
  | inr (inr seven) ↦ inr (inr (inr (inr seven)))
]
