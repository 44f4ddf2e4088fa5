use Rattle.std.proofs.Common.{◌≡◌, ◌++◌, ◌∷◌, map, take}
use Rattle.std.specs.List.{flat_map}
use Rattle.text_defs.specs.Words.{space}
use Rattle.std.specs.Fmt.{decimal}
use Rattle.rp_base.specs.PidsLeft.{pids_left}
use Rattle.story_words.proofs.endings.push_numbers.Given as goal

abbrev pub invariant-loop-process : goal.invariant-loop-process
invariant-loop-process l = l.out.items ++ flat_map (λ w. space ∷ w) (map decimal (pids_left l.process-iterator)) ≡ l.fn.out.items
    ++ flat_map (λ w. space ∷ w) (map decimal l.fn.processes)
