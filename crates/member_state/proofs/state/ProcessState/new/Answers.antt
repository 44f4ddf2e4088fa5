use Rattle.std.proofs.Common.{◌≡◌, ◌∙◌, ℕ, refl, sym, ap, subst}
use Rattle.message_defs.specs.Spelling.{IsViewNumber}
use Rattle.group_defs.specs.Views.{View, IsView}
use Rattle.group_defs.specs.Process.{start}
use Rattle.own_place.specs.Words.{empty_pool}
use Rattle.own_place.specs.Owns.{IsOwnOf}
use Rattle.member_state.proofs.Starting.{starts}
use Rattle.member_state.proofs.state.ProcessState.new.Goals as goal

pub returns-clause-starts : goal.returns-clause-starts
returns-clause-starts c s with' =
    let g : s.genesis ≡ c.args.genesis.now = with'.genesis in
    let first : c.copied.result ≡ s.genesis = c.copied.ensures ∙ sym g in
    let second : s.genesis ≡ c.copied-2.result = g ∙ sym c.copied-2.ensures in
    starts s c.args.me c.args.batch_limit _ c.requires.some c.requires.few
    (subst (λ (v : View). IsViewNumber v.number) (sym g) c.number-number.ensures.within.0)
    (subst IsView (sym g) c.number-number.ensures.within.1) (ap (λ (v : View). v.number) g ∙ c.requires.number) (record {
      limit = refl;
      pool = c.in_ok-new.ensures.pool ∙ ap empty_pool first;
      place = subst (λ (v : View). IsOwnOf s (start s c.args.me c.args.batch_limit) (empty_pool v) c.first_place.result) (sym g)
          (c.first_place.ensures s c.args.batch_limit with');
      phase = c.begin.ensures.begins (start s c.args.me c.args.batch_limit) g refl refl refl refl;
      asked = λ u. sym (c.new-2.ensures u);
      said = c.new-3.ensures.claims;
      said_from = refl;
      said_before = c.new-4.ensures.items;
      pairs = c.new-5.ensures.pairs;
      previous = c.in_ok-new-2.ensures.previous;
      commits = c.in_ok-new-2.ensures.commits;
      account = c.in_ok-first_account.ensures s c.args.batch_limit second;
    })
