-- What the answer of `ask` tells.
use Rattle.std.proofs.Common.{◌≡◌, ℕ, List, Option, Some, refl, subst, sym}
use Rattle.signature_defs.specs.Schemes.{is_valid}
use Rattle.store_defs.specs.Asking.{ask_output, key_in}
use Rattle.store_defs.specs.Laws.{accepted_of}
use Rattle.store_defs.specs.Votes.{Content, Valid}
use Rattle.store_laws.proofs.Answers.{accepted_is_answer}
use Rattle.store_laws.proofs.Voting.{votes_exactly}
use Rattle.rampart_cli.specs.Reported.{AskReports, ReportsAnswer}

pub ask_reports : (payload bytes : List ℕ) → AskReports payload bytes
unfolding ask_output
ask_reports payload bytes kit q stands = record {
  written = rw (ask_output, stands) refl;
  exactly = votes_exactly (is_valid kit.scheme) kit.group (key_in q.keys) q.view payload q.replies;
  of_store = λ sv c served accepted.
      accepted_is_answer sv (key_in q.keys) q.view payload q.replies c served.premises served.installed served.own
      (subst (λ (v : Valid). accepted_of v sv.family.setting.group (key_in q.keys) q.view payload q.replies ≡ Some c) (sym served.valid)
      (subst (λ (g : List ℕ). accepted_of (is_valid kit.scheme) g (key_in q.keys) q.view payload q.replies ≡ Some c) (sym served.group) accepted));
}
