use Rattle.std.proofs.Common.{◌≡◌, ℕ, ◌+◌, ◌-◌, ◌<◌, List, ◌∷◌, true, false, refl, sym, ◌∙◌, ap, subst, map, length, drop, get_or, arith}
use Rattle.std.proofs.lemmas.List.{drop_all, drop_more}
use Rattle.group_defs.specs.Process as defs
use Rattle.group_defs.specs.Signing.{Signing, sign_kind, sign_kinds}
use Rattle.stmt_codec.specs.Views.{signed}
use Rattle.due_statements.specs.AskedOf.{kind_of}
use Rattle.due_statements.specs.declared.kind.Kind.{Kind}
use Rattle.due_statements.specs.declared.kind.Kind.TheVariants.{Init}
use Rattle.member_signing.specs.Signed.{IsSigned}
use Rattle.member_signing.proofs.Going.{as-at-first, begins, ends-kinds, kind-lacks, kind-more}
use Rattle.member_signing.proofs.signing.sign_kinds.Goals as goal

-- the kind at this place, and those behind it
next-kind : (kinds : List Kind) (i : ℕ) → i < length kinds
    → kind_of (get_or kinds i Init) ∷ map kind_of (drop (i + 1) kinds) ≡ map kind_of (drop i kinds)
next-kind kinds i lt = sym (ap (map kind_of) (drop_more kinds i Init lt))

pub kinds-init : goal.kinds-init
kinds-init g c = (
  (λ s p group used is. (
    p,
    begins s p c.args.state.now (g.G.Tally.total c.args.signer.now) (g.G.Tally.used c.args.signer.now)
        (map signed c.args.signed.now.items) is used,
    refl,
  )),
  c.requires.real,
  c.requires.undecided,
  refl,
  refl,
  omega arith,
  (λ b was is. is),
  refl,
  refl,
)

pub kinds-preserved : goal.kinds-preserved
kinds-preserved g c =
    let inv = c.kinds.invariant in (
      (λ s p group used is.
          let so = inv.0 s p group used is in
          let kind = kind_of (get_or c.args.kinds.now c.kinds.kind-index Init) in
          let signs = as-at-first s so.0 kind c.sign_any.new.state (g.G.Signer.signature c.kinds.signer)
          (g.G.Signer.signature c.args.signer.now) (g.G.Tally.total c.kinds.signer) (g.G.Tally.total c.args.signer.now)
          (g.G.Tally.used c.kinds.signer) (g.G.Tally.used c.sign_any.new.signer) (map signed c.kinds.signed.items)
          (map signed c.sign_any.new.signed.items) c.in_ok-lacks.lacks false inv.4 inv.3 c.if-lacks.false
          (c.in_ok-lacks.ensures.signs s so.0 group so.1.used so.1.state) in
          let more = kind-more s (g.G.Signer.signature c.args.signer.now) kind
          (map kind_of (drop (c.kinds.kind-index + 1) c.args.kinds.now)) p so.0 c.kinds.state c.sign_any.new.state
          (g.G.Tally.total c.args.signer.now) (g.G.Tally.used c.kinds.signer) (g.G.Tally.used c.sign_any.new.signer)
          (map signed c.args.signed.now.items) (map signed c.kinds.signed.items) (map signed c.sign_any.new.signed.items) so.1 signs in (
            (sign_kind s (g.G.Signer.signature c.args.signer.now) kind
                (g.G.Tally.total c.args.signer.now - g.G.Tally.used c.kinds.signer) so.0).now,
            more.0,
            more.1 ∙ ap (λ (ks : List defs.Kind). sign_kinds s (g.G.Signer.signature c.args.signer.now) ks
                (g.G.Tally.total c.args.signer.now - g.G.Tally.used c.kinds.signer) so.0)
                (next-kind c.args.kinds.now c.kinds.kind-index c.kinds-test.true) ∙ so.2,
          )),
      c.in_ok-lacks.ensures.real,
      c.in_ok-lacks.ensures.undecided,
      c.sign_any.ensures.total ∙ inv.3,
      c.sign_any.ensures.secret ∙ inv.4,
      (let before = inv.5 in let more = c.sign_any.ensures.rises in omega (arith, before, more)),
      (λ b was is. c.sign_any.ensures.stays b was (inv.6 b was is)),
      c.sign_any.ensures.left ∙ inv.7,
      c.sign_any.ensures.key ∙ inv.8,
    )

pub returns-then-lacks-clause-signs : goal.returns-then-lacks-clause-signs
returns-then-lacks-clause-signs g c s p group used is =
    let inv = c.kinds.invariant in
    let so = inv.0 s p group used is in
    let kind = kind_of (get_or c.args.kinds.now c.kinds.kind-index Init) in
    let signs = as-at-first s so.0 kind c.sign_any.new.state (g.G.Signer.signature c.kinds.signer) (g.G.Signer.signature c.args.signer.now)
    (g.G.Tally.total c.kinds.signer) (g.G.Tally.total c.args.signer.now) (g.G.Tally.used c.kinds.signer)
    (g.G.Tally.used c.sign_any.new.signer) (map signed c.kinds.signed.items)
    (map signed c.sign_any.new.signed.items) c.in_ok-lacks.lacks true inv.4 inv.3 c.if-lacks.true
    (c.in_ok-lacks.ensures.signs s so.0 group so.1.used so.1.state) in
    subst (λ (one : Signing). IsSigned s p one c.sign_any.new.state (g.G.Tally.total c.args.signer.now)
    (g.G.Tally.used c.sign_any.new.signer) (map signed c.args.signed.now.items) (map signed c.sign_any.new.signed.items) true)
    (ap (λ (ks : List defs.Kind). sign_kinds s (g.G.Signer.signature c.args.signer.now) ks
    (g.G.Tally.total c.args.signer.now - g.G.Tally.used c.kinds.signer) so.0)
    (next-kind c.args.kinds.now c.kinds.kind-index c.kinds-test.true) ∙ so.2)
    (kind-lacks s (g.G.Signer.signature c.args.signer.now) kind
    (map kind_of (drop (c.kinds.kind-index + 1) c.args.kinds.now)) p so.0 c.kinds.state c.sign_any.new.state
    (g.G.Tally.total c.args.signer.now) (g.G.Tally.used c.kinds.signer) (g.G.Tally.used c.sign_any.new.signer)
    (map signed c.args.signed.now.items) (map signed c.kinds.signed.items) (map signed c.sign_any.new.signed.items) so.1 signs)

pub returns-clause-signs : goal.returns-clause-signs
returns-clause-signs g c s p group used is =
    let so = c.kinds.invariant.0 s p group used is in
    subst (λ (one : Signing). IsSigned s p one c.kinds.state (g.G.Tally.total c.args.signer.now) (g.G.Tally.used c.kinds.signer)
    (map signed c.args.signed.now.items) (map signed c.kinds.signed.items) false) so.2
    (ends-kinds s (g.G.Signer.signature c.args.signer.now)
    (map kind_of (drop c.kinds.kind-index c.args.kinds.now)) p so.0 c.kinds.state (g.G.Tally.total c.args.signer.now)
    (g.G.Tally.total c.args.signer.now - g.G.Tally.used c.kinds.signer) (g.G.Tally.used c.kinds.signer)
    (map signed c.args.signed.now.items) (map signed c.kinds.signed.items)
    (ap (map kind_of) (drop_all c.kinds.kind-index c.args.kinds.now c.kinds-test.false)) so.1)

pub returns-in_err-lacks-clause-stays : goal.returns-in_err-lacks-clause-stays
returns-in_err-lacks-clause-stays g c b was is = c.sign_any.ensures.stays b was (c.kinds.invariant.6 b was is)

pub returns-then-lacks-clause-stays : goal.returns-then-lacks-clause-stays
returns-then-lacks-clause-stays g c b was is = c.sign_any.ensures.stays b was (c.kinds.invariant.6 b was is)
