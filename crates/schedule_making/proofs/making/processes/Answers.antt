use Rattle.std.proofs.Common.{[], ◌∷◌, ◌++◌, List, map, ap, sym, ◌∙◌, arith}
use Rattle.std.specs.List.{range_with_len}
use Rattle.std.proofs.lemmas.List.{map_push}
use Rattle.std.proofs.lemmas.List.FromFn.{map-range_with_len_more}
use Rattle.replay_defs.specs.Schedules as plain
use Rattle.replay_defs.specs.Generator.{made_listed}
use Rattle.schedule_file.specs.Views.{listed}
use Rattle.schedule_making.proofs.making.processes.Goals as goal

pub loop-p-preserved : goal.loop-p-preserved
loop-p-preserved c =
    ap (map listed) c.in_ok-push.ensures.items
    ∙ map_push listed c.loop-p.all.items c.listed.result
    ∙ ap (λ (ls : List plain.Listed). ls ++ listed c.listed.result ∷ []) c.loop-p.invariant
    ∙ ap (λ (l : plain.Listed). map made_listed (range_with_len 0 c.loop-p.p) ++ l ∷ []) c.listed.ensures
    ∙ sym (map-range_with_len_more made_listed 0 c.loop-p.p c.loop-p.p (omega arith))
