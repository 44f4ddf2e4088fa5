use Rattle.std.proofs.Common.{ℕ, ◌+◌, ◌-◌, ◌++◌, List, length, map, sym, ap, ◌∙◌, subst}
use Rattle.std.specs.Prelude.{flat_map}
use Rattle.std.specs.List.{range_with_len}
use Rattle.group_defs.specs.Process.{Letter}
use Rattle.group_defs.specs.Accounts.{Group, IsPrefixOf, group_of}
use Rattle.accounts.specs.Views.{account}
use Rattle.sound_question.specs.Parts.{payloads_of}
use Rattle.sound_question.proofs.Behind.{further, history-more, history-split, no-further}
use Rattle.sound_question.proofs.acceptance.behind_history.Goals as goal

pub returns-in-None : goal.returns-in-None
returns-in-None c =
    let me = c.args.a.now.me in
    let g : Group = group_of (map account c.args.accounts.now) in
    let x = c.loop-x.x in
    let n = length c.longest_views-views.result.now in
    let accepted = c.args.a.now.accepted.items in
    λ p. no-further (payloads_of me (flat_map g.sequence (range_with_len 0 x))) (payloads_of me (g.sequence x))
    (payloads_of me (flat_map g.sequence (range_with_len (x + 1) (n - x - 1)))) c.loop-x.left.now accepted c.loop-x.invariant
    (λ q. c.in-None.ensures (subst (λ (ls : List Letter). IsPrefixOf (payloads_of me ls) c.loop-x.left.now) (sym c.sequence_in.ensures) q))
    (subst (λ (ps : List (List ℕ)). IsPrefixOf ps accepted)
    (ap (λ (n : ℕ). payloads_of me (flat_map g.sequence (range_with_len 0 n)))
    (ap length (sym c.longest_views-views.ensures)) ∙ history-split me g.sequence x n c.loop-x-test.true) p)

pub loop-x-preserved : goal.loop-x-preserved
loop-x-preserved c =
    let me = c.args.a.now.me in
    let g : Group = group_of (map account c.args.accounts.now) in
    let x = c.loop-x.x in
    let rest = c.in-Some.rest.now in
    ap (λ (ps : List (List ℕ)). ps ++ rest) (history-more me g.sequence x)
    ∙ further (payloads_of me (flat_map g.sequence (range_with_len 0 x)))
    (payloads_of me (g.sequence x)) c.loop-x.left.now rest c.args.a.now.accepted.items c.loop-x.invariant
    (ap (λ (ls : List Letter). payloads_of me ls ++ rest) (sym c.sequence_in.ensures) ∙ c.in-Some.ensures)
