use Rattle.std.proofs.Common.{sym, ap, ◌∙◌, length, length-append, ◌∷◌, [], arith}
use Rattle.std.proofs.lemmas.Bool.{eqb-true, eqb-false}
use Rattle.text_codec.specs.Views.{parts_left}
use Rattle.kit_defs.proofs.Lists.{distinct_push}
use Rattle.view_words.proofs.Members.{one_more, names_none, names_again, names_too_many, names_all}
use Rattle.view_words.proofs.reading.members_in.Goals as goal
use Rattle.view_words.proofs.reading.members_in.Goals.{then-is_among-via-then-is_among, then-is_among-via-else-is_among+then-is_full}

pub returns-in_err-member-clause-members : goal.returns-in_err-member-clause-members
returns-in_err-member-clause-members c =
    rw c.from_residual.ensures (sym
    (names_none c.members.members.items (parts_left c.members.words) c.in-Some.word.now (parts_left c.next.new.self)
    (parts_left c.args.words) c.in-Some.ensures.steps (sym c.process.ensures ∙ c.in_err-member.was) c.members.invariant.so_far))

pub returns-then-is_among-clause-members : goal.returns-then-is_among-clause-members
returns-then-is_among-clause-members c =
    elim c.then-is_among.branch [
      | then-is_among-via-then-is_among w ↦ sym
          (names_again c.members.members.items (parts_left c.members.words) c.in-Some.word.now
          (parts_left c.next.new.self) c.in_ok-member.member (parts_left c.args.words) c.in-Some.ensures.steps
          (sym c.process.ensures ∙ c.in_ok-member.was)
          (rw c.deref.ensures.0 at (sym c.is_among.ensures ∙ w.if-is_among.true)) c.members.invariant.so_far)
      | then-is_among-via-else-is_among+then-is_full w ↦ sym
          (names_too_many (parts_left c.args.words)
          (omega (arith, ap length c.in-Some.ensures.steps, c.members.invariant.count, eqb-true _ _ (sym w.if-is_full.ensures.value))))
    ]

pub members-preserved : goal.members-preserved
members-preserved c = record {
  so_far = rw c.push.ensures.items
      (one_more c.members.members.items (parts_left c.members.words) c.in-Some.word.now
      (parts_left c.next.new.self) c.in_ok-member.member _ c.in-Some.ensures.steps (sym c.process.ensures ∙ c.in_ok-member.was)
      (rw c.deref.ensures.0 at (sym c.is_among.ensures ∙ c.if-is_among.false)) c.members.invariant.so_far);
  count = rw c.push.ensures.items
      (omega (
        arith,
        length-append c.members.members.items (c.in_ok-member.member ∷ []),
        ap length c.in-Some.ensures.steps,
        c.members.invariant.count,
      ));
  most = rw c.push.ensures.items
      (omega (
        arith,
        length-append c.members.members.items (c.in_ok-member.member ∷ []),
        c.members.invariant.most,
        eqb-false _ _ (sym c.is_full.ensures.value ∙ c.if-is_full.false),
      ));
  distinct = rw c.push.ensures.items
      (distinct_push c.members.members.items c.in_ok-member.member c.members.invariant.distinct
      (rw c.deref.ensures.0 at (sym c.is_among.ensures ∙ c.if-is_among.false)));
}

pub returns-else-is_empty-clause-members : goal.returns-else-is_empty-clause-members
returns-else-is_empty-clause-members c = sym (names_all c.members.members.items (parts_left c.members.words)
    (parts_left c.args.words) c.in_default.ensures.steps.0
    (omega (
      arith,
      ap length c.in_default.ensures.steps.0,
      c.members.invariant.count,
      eqb-false _ _ (sym c.is_empty.ensures ∙ c.if-is_empty.false),
    ))
    (omega (arith, ap length c.in_default.ensures.steps.0, c.members.invariant.count, c.members.invariant.most))
    c.members.invariant.so_far)
