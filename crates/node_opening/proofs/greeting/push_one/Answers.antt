use Rattle.std.proofs.Common.{◌≡◌, ◌++◌, None, true≢false, sym, subst, ◌∙◌}
use Rattle.std.specs.Prelude.{OnOk}
use Rattle.restored_hosts.specs.Below.{Core, IsCore}
use Rattle.sig_scheme.specs.declared.any_signer.AnySigner.{AnySigner}
use Rattle.sig_scheme.specs.Signers.{used}
use Rattle.node_defs.specs.Lines.{host_line}
use Rattle.node_opening.proofs.greeting.push_one.Goals as goal

pub returns-in-Some : goal.returns-in-Some
returns-in-Some c = λ k kit now are among.
    let host = (c.in-Some.ensures k kit now None are (λ e. cc)).1 in
    let core = subst (λ (x : Core AnySigner). IsCore used k.setting (now c.args.p) x) (sym c.core.ensures) host.process.core in
    subst (λ n. OnOk c.push_host.result (c.push_host.new.out.items ≡ c.args.text.now.items ++ host_line (now c.args.p) n)) c.of.ensures
    (c.push_host.ensures.pushed (now c.args.p) (c.account.ensures k.setting (now c.args.p) core))

pub returns-in-None : goal.returns-in-None
returns-in-None c = λ k kit now are among.
    absurd (true≢false (sym among ∙ c.in-None.ensures k kit now None are (λ e. cc)))
