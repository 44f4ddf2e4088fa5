use Rattle.std.proofs.Common.{◌≢◌, ◌∙◌, map, sym, ap, subst}
use Rattle.std.specs.Prelude.{filter, ◌==◌, AllPairs}
use Rattle.message_defs.specs.Statements.{Claim, view_of}
use Rattle.snapshot_rp.specs.Views.{perceived}
use Rattle.member_restoring.proofs.state.whole.Goals as goal

pub returns-clause-parts : goal.returns-clause-parts
returns-clause-parts c s p present past of limit here once =
    let number = c.number.ensures.value in
    record {
      limit = limit;
      pool = present.pool;
      place = present.place;
      phase = present.phase_is;
      asked = c.asked_in-perceived.ensures p (here ∙ sym c.number-2.ensures.value)
          (of.perceived ∙ ap (λ es. map perceived es) (sym c.deref-4.ensures.value));
      said = c.in_ok-said.ensures ∙ (λ j. filter (λ (e : Claim). view_of e.statement == (number ∙ sym here) j) ((c.deref.ensures.value ∙ sym of.signed) j));
      said_from = c.len-said_from.ensures;
      said_before = c.in_ok-said_before.ensures ∙ c.deref-2.ensures.value ∙ sym of.signed;
      pairs = c.in_ok-conflicts.ensures (subst (λ es. AllPairs (λ a b. a.1.signer ≢ b.1.signer) es) (sym c.deref-3.ensures.value) once) ∙ c.deref-3.ensures.value;
      past = past;
      account_is = c.account_of-account.ensures p of;
    }
