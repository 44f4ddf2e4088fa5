use Rattle.std.proofs.Common.{◌≡◌, ◌∙◌, ◌+◌, ◌-◌, ◌&&◌, ℕ, suc, true, false, None, Some, take, drop, refl, sym, ap, arith}
use Rattle.std.proofs.lemmas.List.{drop-drop}
use Rattle.std.proofs.lemmas.Bool.{and_left}
use Rattle.signature_defs.specs.Strings.{part}
use Rattle.signature_defs.specs.Lms.{lms_valid}
use Rattle.signature_defs.specs.Hss.{length_under, levels_valid}
use Rattle.lms_hss.proofs.LevelFacts.{no_level, one_level, too_short, unknown_level}
use Rattle.lms_hss.proofs.verify.levels_valid.Goals as goal

pub returns-in_default : goal.returns-in_default
returns-in_default c =
    let n : ℕ = c.args.signed_keys - c.loop.counter - 1 in
    let more : c.args.signed_keys - c.loop.counter ≡ suc n = omega arith in
    let none : length_under c.loop.key.now ≡ None = sym c.length_under.ensures.value ∙ c.in_default.is in
    sym (c.loop.invariant.same ∙ rw more (unknown_level n c.loop.key.now c.args.message.now c.loop.rest.now none))

pub returns-then-rest-length : goal.returns-then-rest-length
returns-then-rest-length c =
    let n : ℕ = c.args.signed_keys - c.loop.counter - 1 in
    let more : c.args.signed_keys - c.loop.counter ≡ suc n = omega arith in
    let known : length_under c.loop.key.now ≡ Some c.in-Some.length = sym c.length_under.ensures.value ∙ c.in-Some.is in
    sym (c.loop.invariant.same ∙ rw more
    (too_short n c.in-Some.length c.loop.key.now c.args.message.now c.loop.rest.now known c.if-rest-length.true))

pub returns-then-not-lms_verify : goal.returns-then-not-lms_verify
returns-then-not-lms_verify c =
    let n : ℕ = c.args.signed_keys - c.loop.counter - 1 in
    let more : c.args.signed_keys - c.loop.counter ≡ suc n = omega arith in
    let len : ℕ = c.in-Some.length in
    let known : length_under c.loop.key.now ≡ Some len = sym c.length_under.ensures.value ∙ c.in-Some.is in
    let below : c.split_at-in-loop.result.0.now
    ≡ part len 56 c.loop.rest.now = c.split_at-in-loop.ensures.front ∙ rw c.split_at.ensures.back refl in
    let refused : lms_valid c.loop.key.now (part len 56 c.loop.rest.now) (take len c.loop.rest.now) ≡ false =
    rw (← below, ← c.split_at.ensures.front) (sym c.lms_verify.ensures ∙ c.if-not-lms_verify.true) in
    sym
    (c.loop.invariant.same
    ∙ rw more (one_level n len c.loop.key.now c.args.message.now c.loop.rest.now known ∙ and_left _ _ refused))

pub loop-preserved : goal.loop-preserved
loop-preserved c =
    let n : ℕ = c.args.signed_keys - c.loop.counter - 1 in
    let more : c.args.signed_keys - c.loop.counter ≡ suc n = omega arith in
    let rest : c.args.signed_keys - (c.loop.counter + 1) ≡ n = omega arith in
    let len : ℕ = c.in-Some.length in
    let known : length_under c.loop.key.now ≡ Some len = sym c.length_under.ensures.value ∙ c.in-Some.is in
    let below : c.split_at-in-loop.result.0.now
    ≡ part len 56 c.loop.rest.now = c.split_at-in-loop.ensures.front ∙ rw c.split_at.ensures.back refl in
    let deeper : c.split_at-in-loop.result.1.now ≡ drop (len + 56) c.loop.rest.now =
    c.split_at-in-loop.ensures.back ∙ rw c.split_at.ensures.back (drop-drop 56 len c.loop.rest.now) in
    let admitted : lms_valid c.loop.key.now (part len 56 c.loop.rest.now) (take len c.loop.rest.now) ≡ true =
    rw (← below, ← c.split_at.ensures.front) (sym c.lms_verify.ensures ∙ c.if-not-lms_verify.false) in
    record {
      whole = c.split_at-in-loop.ensures.front_len;
      same =
          c.loop.invariant.same
          ∙ rw (more, rest, below, deeper)
          (one_level n len c.loop.key.now c.args.message.now c.loop.rest.now known
          ∙ ap (λ b. b && levels_valid n (part len 56 c.loop.rest.now) c.args.message.now (drop (len + 56) c.loop.rest.now)) admitted);
    }

pub returns : goal.returns
returns c =
    let none : c.args.signed_keys - c.loop.counter ≡ 0 = omega arith in
    c.lms_verify-2.ensures ∙ sym (c.loop.invariant.same ∙ rw none (no_level c.loop.key.now c.args.message.now c.loop.rest.now))
