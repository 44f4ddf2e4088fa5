-- What an account, a note and a refusal of the code are, passed on to those who ask for their lines.
pub use Rattle.accounts.specs.Views.{account}
pub use Rattle.report_lines.specs.Below.{note, fault}
