use Rattle.std.proofs.Common.{sym, ap, ◌∙◌}
use Rattle.std.specs.Prelude.{is_ok}
use Rattle.story_writing.proofs.TokenLines.{all_written}
use Rattle.store_records.specs.Cursors.{pairs_left}
use Rattle.store_records.specs.Views.{state_record}
use Rattle.store_telling.specs.Pieces.{pairs_reported, reported_text}
use Rattle.store_telling.proofs.Pairs.{no_state, state_reported}
use Rattle.store_telling.proofs.states.tell_state.Goals as goal

pub returns-in_default : goal.returns-in_default
returns-in_default c = no_state c.args.out.now.items (state_record c.args.given.now) (ap is_ok (c.in_default.ensures))

pub returns-then-not-is_store : goal.returns-then-not-is_store
returns-then-not-is_store c = no_state c.args.out.now.items (state_record c.args.given.now) (sym c.is_store.ensures ∙ c.if-not-is_store.true)

pub returns : goal.returns
returns c =
    all_written c.tell_pairs.result _ c.tell_head.new.out.items (reported_text (pairs_reported (pairs_left c.in-Some.pairs))) _ c.tell_pairs.ensures
    (state_reported c.args.out.now.items c.tell_head.new.out.items (state_record c.args.given.now) (pairs_left c.in-Some.pairs)
    c.in_ok-tell_head.ensures c.in-Some.ensures (sym c.is_store.ensures ∙ c.if-not-is_store.false))
