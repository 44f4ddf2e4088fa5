use Rattle.std.proofs.Common.{◌∙◌, ◌++◌, ℕ, List, ap}
use Rattle.stmt_codec.specs.Left.{claims_left}
use Rattle.interop_pool.specs.Hearers.{setting_with}
use Rattle.interop_pool.proofs.Heard.{heard-reported, reported}
use Rattle.interop_pool.proofs.questions.heard_words.Goals as goal

pub take_all-requires-clause-range : goal.take_all-requires-clause-range
take_all-requires-clause-range c = c.requires.range

pub take_all-requires-clause-own : goal.take_all-requires-clause-own
take_all-requires-clause-own c = c.requires.counted

pub push_claims-requires : goal.push_claims-requires
push_claims-requires c = c.requires.range

pub returns : goal.returns
returns c p delivered same =
    let cs = claims_left c.args.claims in
    let first = c.in_ok-take_all.ensures.verdicts p delivered same
    ∙ ap (λ (t : List ℕ). t ++ reported (setting_with c.args.roster.now) p cs) (c.in_ok-reported.ensures.items_if_clones_equal (λ x y e. e)) in
    heard-reported c.args.roster.now p cs _ _ _ _ c.requires.keys first (c.in_ok-take_all.ensures.heard p delivered same)
    c.in_ok-push_totals.ensures c.in_ok-push_claims.ensures
