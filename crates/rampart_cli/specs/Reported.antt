-- What the answer of `ask` says of a group whose processes serve a store.
use Rattle.std.specs.Prelude.{◌≡◌, ℕ, List, All, Some, Ok}
use Rattle.signature_defs.specs.Schemes.{is_valid}
use Rattle.group_defs.specs.Family.{accounts}
use Rattle.kit_defs.specs.Kits.{Kit}
use Rattle.store_defs.specs.Asking.{Question, answer_text, answered, ask_output, asked, key_in}
use Rattle.store_defs.specs.Laws.{AcceptsExactly, IsAnswerOf, IsInstalled, IsOwnReply, ServicePremises, Services}
use Rattle.store_defs.specs.Votes.{Content}

-- A family of the kit's group, whose processes serve, under the premises of agreement and of what was offered to joiners; a correct process
-- installed the view that is asked; and the valid replies of correct signers are their own.
pub record IsServedBy (kit : Kit) (q : Question) (sv : Services) : Type 0 where
  pub group : sv.family.setting.group ≡ kit.group
  pub valid : sv.family.setting.valid ≡ is_valid kit.scheme
  pub premises : ServicePremises sv
  pub installed : IsInstalled sv.family q.view
  pub own : All (IsOwnReply sv (key_in q.keys)) q.replies

-- For bytes with this question after this kit: its answer is written, which is an answer exactly where more than f members of the
-- view vouch for one in valid replies, and then the least of these; and it is the store's answer to the payload, at this place of the group's
-- one sequence of messages.
pub record ReportsAnswer (payload bytes : List ℕ) (kit : Kit) (q : Question) : Type 0 where
  pub written : ask_output payload bytes ≡ (answer_text q.view.number (answered kit payload q), 0)
  pub exactly : AcceptsExactly (is_valid kit.scheme) kit.group (key_in q.keys) q.view payload q.replies
  pub of_store : (sv : Services) (c : Content) → IsServedBy kit q sv → answered kit payload q ≡ Some c
      → IsAnswerOf (accounts sv.family) q.view.number payload c

-- what the answer to bytes says, where they have a question
abbrev pub AskReports : List ℕ → List ℕ → Type 0
AskReports payload bytes = (kit : Kit) (q : Question) → asked bytes ≡ Ok (kit, q) → ReportsAnswer payload bytes kit q
