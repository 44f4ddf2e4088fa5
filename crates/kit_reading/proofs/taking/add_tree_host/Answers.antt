use Rattle.std.proofs.Common.{List, [], ◌∷◌, ◌++◌, ◌∙◌}
use Rattle.sig_scheme.specs.Views.{secret}
use Rattle.kit_defs.specs.Kits.{Host}
use Rattle.kit_file.specs.Views.{hosts}
use Rattle.kit_reading.proofs.Additions.{fits_built, fits_size, hosts_changed, tree_taken}
use Rattle.kit_reading.proofs.taking.add_tree_host.Goals as goal

pub invariant_of-draft-2 : goal.invariant_of-draft-2
invariant_of-draft-2 c =
    let made = λ (hs : List Host). hs ++ record { process = c.args.process; secret = secret c.args.of; pairs = [] } ∷ [] in
    c.requires.can.keeps _ (tree_taken c.args.number c.args.draft.now c.args.process
    (secret c.args.of) _ c.requires.trees c.in_ok-match_key.ensures
    ∙ hosts_changed c.args.draft.now _ c.draft.view_is made (hosts c.push_host.new.all.items) c.in_ok-push_host.ensures.pushed)

pub match_key-requires-clause-built : goal.match_key-requires-clause-built
match_key-requires-clause-built c = fits_built c.args.draft.now c.args.process (secret c.args.of) c.requires.trees c.requires.can.fits

pub match_key-requires-clause-size : goal.match_key-requires-clause-size
match_key-requires-clause-size c = fits_size c.args.draft.now c.args.process (secret c.args.of) c.requires.trees c.requires.can.fits
