use Rattle.std.proofs.Common.{◌≡◌, ◌≢◌, inl, inr, Err, sym, ap, ◌∙◌, arith}
use Rattle.interop_lines.specs.declared.stops.Stop.{Stop}
use Rattle.interop_lines.specs.declared.stops.Stop.TheVariants.{Read, Write}
use Rattle.interop_lines.proofs.ServingLaws.{at_line, at_read, at_write, part_stays, refused_so, says_so, stays}
use Rattle.interop_lines.proofs.serving.interop.Goals as goal

read-is-not-write : Read ≡ Write → ⊥
read-is-not-write e = absurd cc

pub returns-in-Err-clause-some : goal.returns-in-Err-clause-some
returns-in-Err-clause-some g c = λ one.
    elim c.in-Err.ensures.some [
      | inl write ↦ let four = c.tell.ensures.write write in absurd (omega arith)
      | inr s ↦ (s.0, s.1, stays _ s.0 s.1 _ _ _ _ _ s.2 (c.tell.ensures.silent one))
    ]

pub returns-in-Err-clause-read_line : goal.returns-in-Err-clause-read_line
returns-in-Err-clause-read_line g c = λ three.
    let other : c.tell.result ≢ 1 = λ e. omega (arith, three, e) in
    says_so _ c.in-Err.stop Read _ _ _ _ _ _ _ _ (at_read c.in-Err.stop (sym (c.tell.ensures.status other) ∙ three))
    c.in-Err.ensures.some c.in-Err.ensures.calm read-is-not-write (c.tell.ensures.line other)

pub returns-in-Err-clause-part : goal.returns-in-Err-clause-part
returns-in-Err-clause-part g c = λ four.
    let other : c.tell.result ≢ 1 = λ e. omega (arith, four, e) in
    let is = at_write c.in-Err.stop (sym (c.tell.ensures.status other) ∙ four) in
    part_stays _ c.in-Err.stop _ _ _ _ _ _ _ is (c.in-Err.ensures.part (ap (λ (s : Stop). Err s) is)) (c.tell.ensures.line other)

pub returns-in-Err-clause-refused : goal.returns-in-Err-clause-refused
returns-in-Err-clause-refused g c = λ seven.
    let other : c.tell.result ≢ 1 = λ e. omega (arith, seven, e) in
    let is = at_line c.in-Err.stop (sym (c.tell.ensures.status other) ∙ seven) in
    refused_so _ c.in-Err.stop is.0 _ _ _ _ _ _ _ _ is.1 (c.in-Err.ensures.refused is.0 (ap (λ (s : Stop). Err s) is.1)) c.in-Err.ensures.calm
    (c.tell.ensures.line other)
