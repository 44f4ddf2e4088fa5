use Rattle.std.proofs.Common.{sym, ◌∙◌, ◌+◌, ap, length, length-append}
use Rattle.signature_defs.specs.Strings.{u32str}
use Rattle.signature_defs.specs.Hss.{tree_key}
use Rattle.signature_defs.proofs.HssLaws.{length-tree_key}
use Rattle.lms_hss.specs.Plans.{secret}
use Rattle.sig_scheme.proofs.making.hss_bytes.Goals as goal

pub copy_from_slice-requires : goal.copy_from_slice-requires
copy_from_slice-requires c =
    let plan = c.args.key.now.plan in
    sym (ap length c.public.ensures ∙ length-append (u32str plan.levels) (tree_key (secret plan) 0 0) ∙ ap (λ n. 4 + n)
    (length-tree_key (secret plan) 0 0 plan.sized))
