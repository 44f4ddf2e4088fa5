use Rattle.std.proofs.Common.{◌≡◌, ◌≤◌, ℕ, length, true, false, refl, sym, ap, subst}
use Rattle.std.proofs.lemmas.Result.{IfOk-weaker}
use Rattle.group_defs.specs.Process.{Setting, all_kinds}
use Rattle.image_defs.specs.Images.{process_of}
use Rattle.snapshot_rp.specs.Views.{image as image_as}
use Rattle.member_restoring.specs.Judged.{Judges}
use Rattle.member_restoring.proofs.Real.{real-so}
use Rattle.member_restoring.proofs.judging.judge.Goals as goal

clash : {b : _} → b ≡ true → b ≡ false → ⊥
clash e f = cc

pub returns-then-not-can_have_made-clause-only : goal.returns-then-not-can_have_made-clause-only
returns-then-not-can_have_made-clause-only g c s judges so =
    let made : length c.as_slice-made.result.now ≡ length c.args.image.signed.items = ap length c.as_slice-made.ensures.value in
    absurd (clash (c.can_have_made.ensures.1 (
      subst (λ (n : ℕ). g.G.Tally.used c.args.signer ≤ n) (sym made) so.made,
      subst (λ (n : ℕ). n ≤ g.G.Tally.total c.args.signer) (sym made) so.within,
    )) c.if-not-can_have_made.true)

pub returns-in-Ok-clause-kept : goal.returns-in-Ok-clause-kept
returns-in-Ok-clause-kept g c s judges =
    let made : length c.as_slice-made.result.now ≡ length c.args.image.signed.items = ap length c.as_slice-made.ensures.value in
    IfOk-weaker c.with_signer.result _ _ (λ restored some. record {
      kept = (c.in-Ok.ensures.exact s judges).0 some;
      made = subst (λ (n : ℕ). g.G.Tally.used c.args.signer ≤ n) made (c.can_have_made.ensures.0 c.if-not-can_have_made.false).0;
      within = subst (λ (n : ℕ). n ≤ g.G.Tally.total c.args.signer) made (c.can_have_made.ensures.0 c.if-not-can_have_made.false).1;
    }) c.with_signer.ensures.only

pub returns-in-Ok-clause-only : goal.returns-in-Ok-clause-only
returns-in-Ok-clause-only g c s judges so = c.with_signer.ensures.some ((c.in-Ok.ensures.exact s judges).1 so.kept)

pub returns-in-Ok-clause-is : goal.returns-in-Ok-clause-is
returns-in-Ok-clause-is g c s judges =
    c.with_signer.ensures.is s (image_as c.args.image) judges.shares.bound judges.shares.keys judges.kinds
    (sym (ap length c.as_slice-made.ensures.value))
    (c.in-Ok.ensures.is s judges)

pub with_signer-requires-clause-real : goal.with_signer-requires-clause-real
with_signer-requires-clause-real g c =
    let s : Setting = record {
      group = c.args.group;
      roster = c.args.roster;
      genesis = c.args.genesis;
      valid = g.V.Scheme.valid c.args.scheme.now;
      signs = all_kinds;
    } in
    let judges : Judges s (g.V.Scheme.valid c.args.scheme.now) c.args.group c.args.roster c.args.genesis = record {
      shares = record { rule = refl; bound = refl; keys = refl };
      genesis_is = refl;
      kinds = refl;
    } in
    real-so s (process_of s 1 (image_as c.args.image)) c.in-Ok.state (c.in-Ok.ensures.is s judges)
