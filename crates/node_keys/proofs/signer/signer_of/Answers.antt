use Rattle.sig_scheme.specs.Views.{secret}
use Rattle.node_keys.proofs.InKits.{hosted, secret-is, signer-is, signs}
use Rattle.node_keys.proofs.signer.signer_of.Goals as goal

pub made-requires : goal.made-requires
made-requires c =
    let h = hosted c.args.kit.now c.args.me c.requires.kit c.requires.hosted in
    signs c.args.kit.now c.args.me h (secret c.in-Some.secret.now)
    (secret-is c.args.kit.now c.args.me h (secret c.in-Some.secret.now) c.in-Some.ensures.value)

pub returns : goal.returns
returns c =
    let h = hosted c.args.kit.now c.args.me c.requires.kit c.requires.hosted in
    signer-is c.args.kit.now c.args.me h (secret c.in-Some.secret.now) c.made.result
    (secret-is c.args.kit.now c.args.me h (secret c.in-Some.secret.now) c.in-Some.ensures.value) c.made.ensures
