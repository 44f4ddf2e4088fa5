-- What a hosted process tells of itself.
use Rattle.std.proofs.Common.{◌≡◌, ℕ, ◌≤◌, length, sym, subst, ◌∙◌}
use Rattle.std.proofs.Math.Logic.{∥∥₁_elim}
use Rattle.std.proofs.Props.{props}
use Rattle.group_defs.specs.Accounts.{account_of}
use Rattle.group_defs.specs.Process.{Process, Setting}
use Rattle.accounts.specs.Views.{account}
use Rattle.accounts.specs.declared.account.Account.{Account}
use Rattle.sig_scheme.specs.declared.any_signer.AnySigner.{AnySigner}
use Rattle.sig_scheme.specs.Signers.{used}
use Rattle.node_service.specs.Hosts.{IsReal}
use Rattle.node_service.specs.Histories.{Cast}
use Rattle.node_service.specs.Words.{Core, Hosted, IsCore, IsHosted, core_of}
use Rattle.store_service.proofs.Begun.{number-so, some-list, some-view}

module _ (h : Hosted AnySigner) (core : Core AnySigner) (same : core ≡ core_of h) where
  -- this process of the cast
  module _ (c : Cast) (p : ℕ) (now : Process) (is : IsHosted c p now h) where
    core-so : IsCore used c.setting now core
    core-so = subst (IsCore used c.setting now) (sym same) is.core

    -- its number
    pub me-so : (me : ℕ) → ((s : Setting) (q : Process) → IsCore used s q core → q.me ≡ me) → me ≡ p
    me-so me tells = sym (tells c.setting now core-so) ∙ is.number

    -- its account
    pub account-so : (a : Account) → ((s : Setting) (q : Process) → IsCore used s q core → account_of q ≡ account a) → account_of now ≡ account a
    account-so a tells = tells c.setting now core-so

    -- how many views it left
    pub left-so : now.pool.view.number ≡ length now.left
    left-so = number-so used c.setting now core core-so

  -- whatever process it is, it tells of one view at least, and of what it delivered there
  module _ (real : IsReal used h) (a : Account) (tells : (s : Setting) (q : Process) → IsCore used s q core → account_of q ≡ account a) where
    pub views-so : 1 ≤ length a.views.items
    views-so = ∥∥₁_elim real (hlevel props) (λ has.
        some-view has.process a (tells has.setting has.process (subst (IsCore used has.setting has.process) (sym same) has.core)))

    pub lists-so : 1 ≤ length a.delivered.items
    lists-so = ∥∥₁_elim real (hlevel props) (λ has.
        some-list has.process a (tells has.setting has.process (subst (IsCore used has.setting has.process) (sym same) has.core)))
