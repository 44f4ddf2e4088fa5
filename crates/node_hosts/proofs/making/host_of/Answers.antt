use Rattle.std.proofs.Common.{refl, sym}
use Rattle.journal_defs.specs.declared.Version.TheVariants.{One}
use Rattle.node_defs.specs.Casts.{setting_of}
use Rattle.node_hosts.proofs.Starting.{hosted-so, new-signer, numbered, port-is}
use Rattle.node_hosts.proofs.making.host_of.Goals as goal

pub new-requires-clause-unused : goal.new-requires-clause-unused
new-requires-clause-unused c = (new-signer c.args.kit.now One c.args.me c.in_ok-signer.signer c.in_ok-signer.ensures).unused

pub returns-clause-starts : goal.returns-clause-starts
returns-clause-starts c = λ version.
    let kit = c.args.kit.now in
    let new = new-signer kit version c.args.me c.in_ok-signer.signer c.in_ok-signer.ensures in
    record {
      process = hosted-so kit version c.args.me c.args.batch_limit c.in_ok-signer.signer c.in_ok-process.process new
          (c.in_ok-process.ensures.starts (setting_of kit) (record {
            group = sym c.group.ensures;
            roster = sym c.in_ok-roster.ensures;
            genesis = sym c.genesis_of-genesis.ensures;
            kinds = refl;
          })) c.in_ok-process.ensures.signer;
      keys = c.link_keys.ensures;
      port = port-is kit version c.args.me c.port_of.result c.port_of.ensures;
    }

pub returns-clause-number : goal.returns-clause-number
returns-clause-number c =
    let kit = c.args.kit.now in
    numbered kit c.args.me c.args.batch_limit c.in_ok-process.process
    (c.in_ok-process.ensures.starts (setting_of kit) (record {
      group = sym c.group.ensures;
      roster = sym c.in_ok-roster.ensures;
      genesis = sym c.genesis_of-genesis.ensures;
      kinds = refl;
    }))
