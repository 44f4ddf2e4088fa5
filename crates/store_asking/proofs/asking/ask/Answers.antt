use Rattle.std.proofs.Common.{◌≡◌, ◌≢◌, inl, inr, Err, List, ℕ, refl, sym, ap, subst, ◌∙◌, arith}
use Rattle.rp_base.specs.Streams.{WritesLine}
use Rattle.kit_reading.specs.declared.fronts.FrontFault.{FrontFault}
use Rattle.store_asking.specs.Stops.{line_of}
use Rattle.store_asking.proofs.Statuses.{by_status, is_read, is_seven, never, no_answer, no_fault, refused_so}
use Rattle.store_asking.proofs.asking.ask.Goals as goal

-- ---- an answer

pub returns-in-Ok-clause-answered : goal.returns-in-Ok-clause-answered
returns-in-Ok-clause-answered g c = λ zero. record {
  text = c.in-Ok.line.items;
  all = c.in-Ok.ensures.answers;
  wrote = rw c.deref.ensures.value at c.give.ensures.done zero;
}

pub returns-in-Ok-clause-part : goal.returns-in-Ok-clause-part
returns-in-Ok-clause-part g c = λ four. record {
  text = c.in-Ok.line.items;
  all = c.in-Ok.ensures.answers;
  part = rw c.deref.ensures.value at c.give.ensures.part four;
}

pub returns-in-Ok-clause-refuses : goal.returns-in-Ok-clause-refuses
returns-in-Ok-clause-refuses g c = λ bad calm. absurd (no_answer c.args.payload.now c.in-Ok.line.items _ _ c.in-Ok.ensures.answers bad)

-- ---- none

pub returns-in-Err-clause-stops : goal.returns-in-Err-clause-stops
returns-in-Err-clause-stops g c = λ seven.
    refused_so c.in-Err.fault _ _ _ _ _ _ (is_seven c.tell.result c.in-Err.fault c.tell.ensures.status seven) c.in-Err.ensures.refused
    (c.tell.ensures.line (λ one. omega (arith, one, seven)))

pub returns-in-Err-clause-completes : goal.returns-in-Err-clause-completes
returns-in-Err-clause-completes g c = λ asks calm_in calm_out.
    elim (by_status c.tell.result c.in-Err.fault c.tell.ensures.status) [
      | inl one ↦ inr one
      | inr (inl three) ↦ absurd (calm_in (c.in-Err.ensures.failed (ap (λ (e : FrontFault). Err e) three.1)))
      | inr (inr seven) ↦ absurd (no_fault c.in-Err.fault _ _ seven.1 c.in-Err.ensures.refused asks)
    ]
