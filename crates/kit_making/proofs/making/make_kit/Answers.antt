use Rattle.std.proofs.Common.{sym, subst, ◌∙◌}
use Rattle.std.proofs.lemmas.Result.{IfOk-weaker}
use Rattle.kit_defs.specs.Kits.{IsKit}
use Rattle.kit_making.proofs.Made.{hosts_rise, kit_is}
use Rattle.kit_making.proofs.MadeKits.{made_is_kit}
use Rattle.kit_making.proofs.making.make_kit.Goals as goal

pub invariant_of-parts : goal.invariant_of-parts
invariant_of-parts c = hosts_rise c.args.keys c.args.seed.now c.args.roster c.args.roster _ c.in_ok-make_hosts.ensures

pub new-requires : goal.new-requires
new-requires c =
    subst IsKit (sym (kit_is c.args.members c.args.roster c.args.keys c.args.seed.now _ c.scheme_of.ensures c.group_of.ensures
    c.in_ok-make_roster.ensures c.make_genesis.ensures c.in_ok-make_ports.ensures c.in_ok-make_hosts.ensures))
    (made_is_kit c.args.keys c.args.seed.now c.args.roster c.requires.plan c.args.members c.requires.some c.requires.most c.requires.listed
    c.requires.numbered)

pub returns-clause-made : goal.returns-clause-made
returns-clause-made c =
    IfOk-weaker c.new.result _ _
    (λ kit is. is ∙ kit_is c.args.members c.args.roster c.args.keys c.args.seed.now _ c.scheme_of.ensures c.group_of.ensures
    c.in_ok-make_roster.ensures c.make_genesis.ensures c.in_ok-make_ports.ensures c.in_ok-make_hosts.ensures)
    c.new.ensures

pub returns-clause-fits : goal.returns-clause-fits
returns-clause-fits c =
    let fits = made_is_kit c.args.keys c.args.seed.now c.args.roster c.requires.plan c.args.members c.requires.some c.requires.most
    c.requires.listed c.requires.numbered in
    IfOk-weaker c.new.result _ IsKit (λ kit is. subst IsKit (sym is) fits) (returns-clause-made c)
