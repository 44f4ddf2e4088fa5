use Rattle.std.proofs.Common.{refl, sym, ap, ◌∙◌}
use Rattle.std.proofs.lemmas.Grind.{merely}
use Rattle.signature_defs.specs.Schemes.{is_valid}
use Rattle.node_defs.specs.Casts.{setting_of}
use Rattle.sig_scheme.specs.Signers.{any_keeps}
use Rattle.sig_scheme.specs.Views.{scheme}
use Rattle.snapshot_lines.specs.Said.{image as image_as}
use Rattle.member_restoring.specs.Judged.{Judges}
use Rattle.member_restoring.specs.Restored.{signer_in}
use Rattle.node_images.specs.Real.{HasImage}
use Rattle.node_images.proofs.Fitting.{fit-so, restorable-so}
use Rattle.node_images.proofs.Signing.{new-signer}
use Rattle.node_images.proofs.judging.process_of.Goals as goal

pub invariant_of-result : goal.invariant_of-result
invariant_of-result c =
    let kit = c.args.kit.now in
    let judges : Judges (setting_of kit) (is_valid (scheme c.scheme.result)) c.group.result c.in_ok-roster.roster c.genesis_of-genesis.result
    = record {
      shares = record { rule = ap is_valid (sym c.scheme.ensures); bound = sym c.group.ensures; keys = sym c.in_ok-roster.ensures };
      genesis_is = sym c.genesis_of-genesis.ensures;
      kinds = refl;
    } in
    let has : HasImage c.in-Ok.restored = record {
      setting = setting_of kit;
      image = image_as c.args.image;
      restored = c.in-Ok.ensures.is (setting_of kit) judges;
    } in
    record { real = merely has }

pub returns-in-Ok-clause-exact : goal.returns-in-Ok-clause-exact
returns-in-Ok-clause-exact c =
    let kit = c.args.kit.now in
    let new = new-signer kit c.args.process c.in_ok-signer.signer c.in_ok-signer.ensures in
    let judges : Judges (setting_of kit) (is_valid (scheme c.scheme.result)) c.group.result c.in_ok-roster.roster c.genesis_of-genesis.result
    = record {
      shares = record { rule = ap is_valid (sym c.scheme.ensures); bound = sym c.group.ensures; keys = sym c.in_ok-roster.ensures };
      genesis_is = sym c.genesis_of-genesis.ensures;
      kinds = refl;
    } in (
      λ some. fit-so kit c.args.process (image_as c.args.image) c.in_ok-signer.signer new (c.in-Ok.ensures.kept (setting_of kit) judges),
      λ fit. refl,
    )

pub returns-in-Ok-clause-is : goal.returns-in-Ok-clause-is
returns-in-Ok-clause-is c =
    let kit = c.args.kit.now in
    let new = new-signer kit c.args.process c.in_ok-signer.signer c.in_ok-signer.ensures in
    let judges : Judges (setting_of kit) (is_valid (scheme c.scheme.result)) c.group.result c.in_ok-roster.roster c.genesis_of-genesis.result
    = record {
      shares = record { rule = ap is_valid (sym c.scheme.ensures); bound = sym c.group.ensures; keys = sym c.in_ok-roster.ensures };
      genesis_is = sym c.genesis_of-genesis.ensures;
      kinds = refl;
    } in
    record {
      process = refl;
      number = c.requires.number;
      entries = refl;
      restored = c.in-Ok.ensures.is (setting_of kit) judges;
      total = c.in-Ok.ensures.total ∙ new.total;
      signs = (any_keeps c.in_ok-signer.signer (signer_in c.in-Ok.restored) c.in-Ok.ensures.key).signatures ∙ new.signs;
    }

pub returns-in-Err-NotKept-clause-exact : goal.returns-in-Err-NotKept-clause-exact
returns-in-Err-NotKept-clause-exact c =
    let kit = c.args.kit.now in
    let new = new-signer kit c.args.process c.in_ok-signer.signer c.in_ok-signer.ensures in
    let judges : Judges (setting_of kit) (is_valid (scheme c.scheme.result)) c.group.result c.in_ok-roster.roster c.genesis_of-genesis.result
    = record {
      shares = record { rule = ap is_valid (sym c.scheme.ensures); bound = sym c.group.ensures; keys = sym c.in_ok-roster.ensures };
      genesis_is = sym c.genesis_of-genesis.ensures;
      kinds = refl;
    } in (
      λ no_way. absurd cc,
      λ fit. absurd (let so = c.in-Err-NotKept.ensures.only (setting_of kit) judges
          (restorable-so kit c.args.process (image_as c.args.image) c.in_ok-signer.signer new fit) in
          let is = c.in-Err-NotKept.field-0-is in cc),
    )
