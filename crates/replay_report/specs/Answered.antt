-- The answers of a report.
use Rattle.std.specs.Prelude.{◌≡◌}
use Rattle.group_defs.specs.Process.{keyed}
use Rattle.group_defs.specs.Accounts.{bounded, agree, sound}
use Rattle.group_defs.specs.Family.{Family, accounts, numbers, honest}
use Rattle.report_lines.specs.declared.answers.Answers.{Answers}

-- a report's four answers are those of the family
pub record AreAnswers (f : Family) (a : Answers) : Type 0 where
  pub honest : a.honest ≡ honest f
  pub bounded : a.bounded ≡ bounded (accounts f) (numbers f)
  pub agree : a.agree ≡ agree (accounts f)
  pub sound : a.sound ≡ sound (accounts f) (keyed f.setting)
