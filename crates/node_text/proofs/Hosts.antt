-- The line of a hosted process, from what it tells of itself.
use Rattle.std.proofs.Common.{◌≡◌, ℕ, Vec, Global, map, length, sum, sym, ap, ◌∙◌}
use Rattle.group_defs.specs.Process.{Process}
use Rattle.group_defs.specs.Accounts as reported
use Rattle.group_defs.specs.Accounts.{account_of}
use Rattle.member_events.specs.declared.events.Delivered.{Delivered}
use Rattle.accounts.specs.declared.account.Account.{Account}
use Rattle.accounts.specs.Views.{account, delivery}
use Rattle.report_lines.proofs.Reported.{lengths-same}
use Rattle.node_defs.specs.Lines.{delivered_in_all, host_line}
use Rattle.node_text.specs.Words.{host_words}

pub host-is : (p : Process) (a : Account) (view delivered entries : ℕ) → account_of p ≡ account a → view ≡ p.pool.view.number
    → delivered ≡ sum (map (λ ds. length ds.items) a.delivered.items) → host_words a.me view delivered entries ≡ host_line p entries
host-is p a view delivered entries so v d =
    let me : a.me ≡ p.me = sym (ap (λ (t : reported.Account). t.me) so) in
    let all : delivered ≡ delivered_in_all p =
    d ∙ ap sum (sym (lengths-same (λ (ds : Vec Delivered Global). ds.items) delivery a.delivered.items))
    ∙ sym (ap (λ (t : reported.Account). sum (map length t.delivered)) so) in
    λ i. host_words (me i) (v i) (all i) entries
