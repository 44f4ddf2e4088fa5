use Rattle.std.proofs.Common.{◌≡◌, ℕ, List, map, sym, ap, subst, ◌∙◌}
use Rattle.byte_defs.specs.Members.{has}
use Rattle.group_defs.specs.Accounts as questions
use Rattle.group_defs.specs.Accounts.{Account}
use Rattle.group_defs.specs.Family.{accounts, numbers}
use Rattle.replay_defs.specs.Worlds.{family_of, setting_of}
use Rattle.accounts.specs.Views.{account}
use Rattle.replay_questions.specs.Cast.{Player, ArePlayers}
use Rattle.replay_report.proofs.Questions.{accounts_same, family_numbers, bounded_by_members}
use Rattle.replay_report.proofs.answers.answers_of.Goals as goal

pub returns : goal.returns
returns c = λ h v shows.
    let f = family_of h v in
    let w = c.args.world.now in
    let P : List Player → Type 0 = λ ps. ArePlayers (setting_of h) ps v.players in
    let are : ArePlayers (setting_of h) c.players-players.result.now v.players = subst P (sym c.players-players.ensures) shows.players in
    let reported : map account c.as_slice-reported.result.now ≡ accounts f =
    ap (map account) c.as_slice-reported.ensures.value ∙
    (c.in_ok-accounts.ensures (setting_of h) v.players are ∙ accounts_same h v shows.ran) in
    let correct : (p : ℕ) → has c.numbers_of.result p ≡ has (numbers f) p =
    λ p. c.numbers_of.ensures p ∙ ap (λ ps. has ps p) (family_numbers h v (setting_of h) c.players-players.result.now are) in
    record {
      honest = c.honest.ensures h v shows;
      bounded = c.bounded.ensures ∙ (ap (λ (all : List Account). questions.bounded all c.numbers_of.result) reported ∙ bounded_by_members
          (accounts f) c.numbers_of.result (numbers f) correct);
      agree = c.agree.ensures ∙ ap questions.agree reported;
      sound = c.sound.ensures ∙ (λ i. questions.sound (reported i)
          ((c.processes.ensures.value ∙ ap (map (λ (k : ℕ × List ℕ). k.0)) (c.roster.ensures ∙ shows.roster)) i));
    }
