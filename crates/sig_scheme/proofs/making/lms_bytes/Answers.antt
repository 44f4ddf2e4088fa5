use Rattle.std.proofs.Common.{sym, ◌∙◌, ap, length}
use Rattle.signature_defs.proofs.LmsLaws.{key_length}
use Rattle.sig_scheme.proofs.making.lms_bytes.Goals as goal

pub copy_from_slice-requires : goal.copy_from_slice-requires
copy_from_slice-requires c =
    let tree = c.args.key.now.tree in
    sym (ap length c.public.ensures ∙ key_length tree.ots tree.typecode tree.height tree.id tree.seed tree.sized)
