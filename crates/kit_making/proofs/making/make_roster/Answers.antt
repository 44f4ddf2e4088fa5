use Rattle.std.proofs.Common.{◌≡◌, ℕ, List, None, refl, ap, subst, sym, ◌∙◌}
use Rattle.sig_scheme.specs.Keys.{refusal_of}
use Rattle.signature_defs.specs.Secrets.{public_key_of}
use Rattle.kit_defs.specs.KitMaking.{derived_secret}
use Rattle.kit_making.proofs.Made.{below_next, made_by, pair_is}
use Rattle.kit_making.proofs.MadeKits.{not_refused}
use Rattle.kit_making.proofs.making.make_roster.Goals as goal

pub public_key_of-requires : goal.public_key_of-requires
public_key_of-requires c = subst (λ s. refusal_of s ≡ None) (sym c.secret_of.ensures)
    (not_refused c.args.keys c.args.seed.now c.loop-p.p c.requires.plan)

pub add-requires : goal.add-requires
add-requires c =
    let listed : ℕ → ℕ × List ℕ = λ p. (p, public_key_of (derived_secret c.args.keys c.args.seed.now p)) in
    below_next listed (λ p. refl) c.loop-p.p c.process.result c.loop-p.roster c.loop-p.invariant c.process.ensures

pub loop-p-preserved : goal.loop-p-preserved
loop-p-preserved c =
    let listed : ℕ → ℕ × List ℕ = λ p. (p, public_key_of (derived_secret c.args.keys c.args.seed.now p)) in
    c.in_ok-add.ensures.added
    ∙ made_by listed c.loop-p.p c.loop-p.roster _ c.loop-p.invariant
    (pair_is c.process.result c.loop-p.p c.as_bytes.result.now
    (public_key_of (derived_secret c.args.keys c.args.seed.now c.loop-p.p)) c.process.ensures
    (c.as_bytes.ensures.value ∙ c.in_ok-key.ensures.has_bytes ∙ ap public_key_of c.secret_of.ensures))
