use Rattle.std.proofs.Common.{◌≡◌, ◌∙◌, ◌+◌, ◌≤◌, ◌++◌, ◌∷◌, [], ℕ, Option, Some, sym, ap, subst}
use Rattle.std.proofs.Math.Logic.{∥∥₁_elim, ∥∥₁_map}
use Rattle.std.proofs.Props.{props}
use Rattle.message_defs.specs.Statements.{Ready}
use Rattle.group_defs.specs.Process.{Pool, delivered_from}
use Rattle.group_defs.specs.Certified.{certificate}
use Rattle.rp_base.specs.Views.{value}
use Rattle.own_place.specs.declared.own.Own.{Own}
use Rattle.member_state.specs.Parts.{all_signed}
use Rattle.accounts.specs.Views.{account}
use Rattle.member_state.specs.Below.{Begins, decision_of}
use Rattle.member_state.specs.declared.left.LeftView.{LeftView}
use Rattle.member_state.specs.declared.left.SaidBefore.{SaidBefore}
use Rattle.member_state.specs.declared.state.ProcessState.{ProcessState}
use Rattle.member_state.specs.States.{claims_of}
use Rattle.member_state.proofs.Ranges.{claims-once}
use Rattle.member_settling.specs.Steps.{in_phase}
use Rattle.member_settling.proofs.Begun.{HasBegun, installs-state, installs-reported, mine-is}
use Rattle.member_settling.proofs.Lists.{one-more}
use Rattle.member_settling.proofs.Marked.{since-here, since-left, stays-same}
use Rattle.member_settling.proofs.Real.{before, certified, order, ranged, short-last}
use Rattle.member_settling.proofs.leaving.enter.Goals as goal

-- what is kept of the view that is left
abbrev so : ProcessState → Option Pool → Option LeftView
so st older = Some (record { signed = st.own.signed; older = older })

-- what was said there
abbrev there : ProcessState → SaidBefore
there st = record { claims = st.said; from = st.said_from }

pub own_delivered-mine-requires : goal.own_delivered-mine-requires
own_delivered-mine-requires c = ∥∥₁_map c.requires.can
    (λ can. short-last can.setting can.process (in_phase can.leaving.phase c.args.state.now) can.leaving.state)

pub keep_left-requires-clause-range : goal.keep_left-requires-clause-range
keep_left-requires-clause-range c = ∥∥₁_elim c.requires.can (claims-once c.args.state.now.pool.pool.heard)
    (λ can. ranged can.setting can.process (in_phase can.leaving.phase c.args.state.now) can.leaving.state)

pub keep_left-requires-clause-certified : goal.keep_left-requires-clause-certified
keep_left-requires-clause-certified c = ∥∥₁_elim c.requires.can (hlevel props)
    (λ can. certified can.setting can.process (in_phase can.leaving.phase c.args.state.now) can.leaving.state
    (decision_of c.args.decision) can.leaving.decision)

pub keep_left-requires-clause-order : goal.keep_left-requires-clause-order
keep_left-requires-clause-order c = ∥∥₁_elim c.requires.can (hlevel props)
    (λ can. order can.setting can.process (in_phase can.leaving.phase c.args.state.now) can.leaving.state)

pub begin-requires-clause-mine : goal.begin-requires-clause-mine
begin-requires-clause-mine c = ∥∥₁_elim c.requires.can (hlevel props) (λ can.
    let old : ProcessState = in_phase can.leaving.phase c.args.state.now in
    let mine : c.own_delivered-mine.result
    ≡ delivered_from can.process.me can.process.delivered = mine-is can.setting can.process old c.own_delivered-mine.result
    can.leaving.state c.own_delivered-mine.ensures in
    subst (λ (n : ℕ). n + c.own_delivered-mine.result ≤ 4294967295)
    (sym (ap (λ (st : ProcessState). st.own.earlier) c.keep_left.ensures.rest))
    (before can.setting can.process old can.leaving.state c.own_delivered-mine.result mine))

pub returns-clause-leaves : goal.returns-clause-leaves
returns-clause-leaves c = λ s p leaving is.
    let old : ProcessState = in_phase leaving.phase c.args.state.now in
    let kept = c.keep_left.ensures.rest in
    let rest = c.begin.ensures.rest in
    let begun : HasBegun c.args.view (decision_of c.args.decision) c.own_delivered-mine.result c.args.state.now c.begin.new.state = record {
      limit = ap (λ (st : ProcessState). st.batch_limit) rest ∙ ap (λ (st : ProcessState). st.batch_limit) kept;
      own = subst (λ (own : Own). Begins c.args.view own c.begin.new.state.own c.own_delivered-mine.result)
          (ap (λ (st : ProcessState). st.own) kept) c.begin.ensures.own;
      pool = ap (λ (st : ProcessState). st.pool.pool) rest ∙ c.in_ok-older.ensures.begins;
      phase = λ p view me runs none ended. c.begin.ensures.phase p view (me ∙ c.begin.ensures.own.number) runs none ended;
      asked = c.begin.ensures.asked;
      said = c.begin.ensures.said;
      said_from = c.begin.ensures.from;
      said_before =
          ap claims_of (c.begin.ensures.kept ∙ (λ i. c.keep_left.ensures.lists i ++ there (kept i) ∷ []))
          ∙ one-more c.args.state.now.said_before.items (there c.args.state.now);
      pairs = ap (λ (st : ProcessState). st.conflicts.pairs) rest ∙ ap (λ (st : ProcessState). st.conflicts.pairs) kept;
      previous = ap (λ (st : ProcessState). st.archive.previous) rest ∙ c.in_ok-older.ensures.previous;
      commits = ap (λ (st : ProcessState). st.archive.commits) rest ∙ c.in_ok-older.ensures.commits;
      account = ap (λ (st : ProcessState). account st.account) rest ∙ c.in_ok-older.ensures.put;
    } in
    record {
      state = installs-state s p (decision_of c.args.decision) c.args.state.now c.begin.new.state c.args.view
          c.own_delivered-mine.result leaving is
          (mine-is s p old c.own_delivered-mine.result leaving.state c.own_delivered-mine.ensures) begun;
      reported = installs-reported p (decision_of c.args.decision) c.args.view c.args.notes.now.items c.push.new.self.items c.installed.result
          c.in_ok-push.ensures.items c.installed.ensures is;
    }

pub returns-in_err-push-clause-since : goal.returns-in_err-push-clause-since
returns-in_err-push-clause-since c b was is = since-here b was c.args.state.now is c.requires.here

pub returns-in_err-older-clause-since : goal.returns-in_err-older-clause-since
returns-in_err-older-clause-since c b was is =
    let same = c.in_err-older.ensures.same in
    since-here b was c.keep_left.new.state
    (stays-same b was c.args.state.now is c.keep_left.new.state same.0 same.1 c.keep_left.ensures.lists same.2 c.keep_left.ensures.rest)
    (ap (λ (st : ProcessState). st.left) c.keep_left.ensures.rest ∙ c.requires.here)

pub returns-clause-since : goal.returns-clause-since
returns-clause-since c b was is =
    let kept = c.keep_left.ensures.rest in
    let rest = c.begin.ensures.rest in
    since-left b was c.args.state.now c.begin.new.state c.args.view
    (all_signed (certificate c.args.state.now.pool.pool
    (Ready c.args.state.now.pool.pool.view.number c.args.decision.rank (value c.args.decision.value)))) c.in_ok-older.older
    (record {
      said_before = c.begin.ensures.kept ∙ (λ i. c.keep_left.ensures.lists i ++ there (kept i) ∷ []);
      left = c.begin.ensures.left ∙ ap (λ (st : ProcessState). so st c.in_ok-older.older) kept;
      limit = ap (λ (st : ProcessState). st.batch_limit) rest ∙ ap (λ (st : ProcessState). st.batch_limit) kept;
      pairs = ap (λ (st : ProcessState). st.conflicts.marked) rest ∙ ap (λ (st : ProcessState). st.conflicts.marked) kept;
      previous = c.in_ok-older.ensures.older;
      pool = ap (λ (st : ProcessState). st.archive.marked) rest ∙ c.in_ok-older.ensures.marked;
      commits = ap (λ (st : ProcessState). st.archive.commits) rest ∙ c.in_ok-older.ensures.commits;
      account = ap (λ (st : ProcessState). account st.account) rest ∙ c.in_ok-older.ensures.put;
    }) is
