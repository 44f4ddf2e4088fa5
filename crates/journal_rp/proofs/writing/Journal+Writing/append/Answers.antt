use Rattle.std.proofs.Common.{◌∙◌}
use Rattle.journal_rp.proofs.writing.Journal+Writing.append.Goals as goal

pub returns-in_err-append-clause-any_moment : goal.returns-in_err-append-clause-any_moment
returns-in_err-append-clause-any_moment g c = λ head es e r is spelled. c.append.ensures.any_moment head es e r is
    (c.deref.ensures.value ∙ spelled)

pub returns-in_err-append-clause-in_order : goal.returns-in_err-append-clause-in_order
returns-in_err-append-clause-in_order g c = λ head es e r is spelled. c.append.ensures.in_order head es e r is
    (c.deref.ensures.value ∙ spelled)

pub returns-in_err-append-clause-stands : goal.returns-in_err-append-clause-stands
returns-in_err-append-clause-stands g c = λ head es e r is spelled. c.append.ensures.stands head es e r is (c.deref.ensures.value ∙ spelled)

pub returns-clause-any_moment : goal.returns-clause-any_moment
returns-clause-any_moment g c = λ head es e r is spelled. c.append.ensures.any_moment head es e r is (c.deref.ensures.value ∙ spelled)

pub returns-clause-in_order : goal.returns-clause-in_order
returns-clause-in_order g c = λ head es e r is spelled. c.append.ensures.in_order head es e r is (c.deref.ensures.value ∙ spelled)

pub returns-clause-stands : goal.returns-clause-stands
returns-clause-stands g c = λ head es e r is spelled. c.append.ensures.stands head es e r is (c.deref.ensures.value ∙ spelled)
