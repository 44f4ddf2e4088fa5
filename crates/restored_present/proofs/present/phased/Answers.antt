use Rattle.std.proofs.Common.{◌≡◌, ◌∙◌, map, refl, sym, ap, subst}
use Rattle.std.specs.Prelude.{◌↔◌, is_some, IfSome, IsTrue}
use Rattle.group_defs.specs.Views.{View}
use Rattle.group_defs.specs.Process.{Pool}
use Rattle.member_events.specs.Below.{report}
use Rattle.restored_left.specs.Members.{IsIn}
use Rattle.restored_left.specs.Facts.{HasEnd}
use Rattle.restored_present.proofs.Phased.{Decided, IsSo, decided_of, ended-so, so-same}
use Rattle.restored_present.proofs.Judged.{keys-are}
use Rattle.restored_present.proofs.present.phased.Goals as goal

pub returns-in_ok-present-in-Some-clause-exact : goal.returns-in_ok-present-in-Some-clause-exact
returns-in_ok-present-in-Some-clause-exact g c s p shares stands number pool decision halted =
    let image = c.args.image.now in
    let given : Decided = record {
      pool = c.args.pool.pool;
      keys = map (λ k. k.0) c.args.judge.now.roster.now;
      me = image.me;
      places = c.args.own.delivered;
      decision = report image.decision;
      halted = image.halted;
    } in
    let same : given ≡ decided_of s p = λ j. record {
      pool = sym pool j;
      keys = sym (keys-are s _ _ _ shares) j;
      me = sym number j;
      places = sym stands.delivered.places j;
      decision = sym decision j;
      halted = sym halted j;
    } in
    subst (λ o. IsTrue (is_some o) ↔ IsSo (decided_of s p)) c.in-Some.is (so-same given (decided_of s p) same _ c.phase_in.ensures.exact)

pub returns-in-None-clause-exact : goal.returns-in-None-clause-exact
returns-in-None-clause-exact g c s p shares stands number pool decision halted =
    let image = c.args.image.now in
    let given : Decided = record {
      pool = c.args.pool.pool;
      keys = map (λ k. k.0) c.args.judge.now.roster.now;
      me = image.me;
      places = c.args.own.delivered;
      decision = report image.decision;
      halted = image.halted;
    } in
    let same : given ≡ decided_of s p = λ j. record {
      pool = sym pool j;
      keys = sym (keys-are s _ _ _ shares) j;
      me = sym number j;
      places = sym stands.delivered.places j;
      decision = sym decision j;
      halted = sym halted j;
    } in
    subst (λ o. IsTrue (is_some o) ↔ IsSo (decided_of s p)) c.in-None.is (so-same given (decided_of s p) same _ c.phase_in.ensures.exact)

pub returns-in_ok-present-in-Some-clause-is : goal.returns-in_ok-present-in-Some-clause-is
returns-in_ok-present-in-Some-clause-is g c s p shares stands number pool view signed once decision halted =
    let image = c.args.image.now in
    let given : Decided = record {
      pool = c.args.pool.pool;
      keys = map (λ k. k.0) c.args.judge.now.roster.now;
      me = image.me;
      places = c.args.own.delivered;
      decision = report image.decision;
      halted = image.halted;
    } in
    let same : given ≡ decided_of s p = λ j. record {
      pool = sym pool j;
      keys = sym (keys-are s _ _ _ shares) j;
      me = sym number j;
      places = sym stands.delivered.places j;
      decision = sym decision j;
      halted = sym halted j;
    } in
    let so : IsSo (decided_of s p)
    = (subst (λ o. IsTrue (is_some o) ↔ IsSo (decided_of s p)) c.in-Some.is
    (so-same given (decided_of s p) same _ c.phase_in.ensures.exact)).0 refl in
    let here : p.pool.view ≡ c.args.view.now = ap (λ (h : Pool). h.view) pool ∙ view in
    let end : HasEnd p c.own_end-ended.result
    = c.own_end-ended.ensures p (signed ∙ sym c.deref.ensures.value) once.own
    (ap (λ (v : View). v.number) here ∙ sym c.number.ensures.value) in
    let phase : IsIn c.in-Some.phase p
    = subst (λ o. IfSome o (λ phase. IsIn phase p)) c.in-Some.is (c.phase_in.ensures.is p (record {
      pool = pool;
      number = number;
      end = end;
      places = stands.delivered.places;
      decision = decision;
      halted = so.1;
    })) in
    c.in_ok-present-in-Some.ensures s p stands here (signed ∙ sym c.deref-in-Some.ensures.value) once
    (ended-so p c.own_end-ended.result end ∙ sym c.is_some.ensures) pool phase
