use Rattle.std.proofs.Common.{◌≡◌, ◌+◌, ◌*◌, ◌/◌, ◌^◌, take}
use Rattle.signature_defs.specs.Strings.{strings}
use Rattle.signature_defs.specs.Lms.{path_node}
use Rattle.lms_tree.proofs.tree.LmsTree.write_path.Given as goal

abbrev pub invariant-loop-i : goal.invariant-loop-i
invariant-loop-i l = record {
  node : l.r ≡ (2 ^ l.fn.self.height + l.fn.q) / 2 ^ l.i;
  written : take (32 * l.i) l.out ≡ strings (path_node l.fn.self.ots l.fn.self.height l.fn.self.id l.fn.self.seed l.fn.q) l.i;
}
