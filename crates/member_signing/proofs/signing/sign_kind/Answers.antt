use Rattle.std.proofs.Common.{◌≡◌, ℕ, suc, ◌+◌, ◌-◌, ◌<◌, ◌≤◌, List, [], ◌∷◌, false, Option, refl, sym, ◌∙◌, ap, subst, map, arith}
use Rattle.std.specs.Prelude.{IfSome, MatchOption}
use Rattle.std.proofs.lemmas.List.{map-append}
use Rattle.message_defs.specs.Packing.{Signed, signed_of}
use Rattle.group_defs.specs.Signing.{Signer, Signing, own_claim, signs, sign_kind}
use Rattle.rule_laws.proofs.LeastIsDue.{least_due-may}
use Rattle.stmt_codec.specs.Views.{signed}
use Rattle.stmt_codec.specs.declared.own.OwnClaim.{OwnClaim}
use Rattle.due_statements.specs.AskedOf.{kind_of}
use Rattle.member_signing.specs.Signed.{IsOwed, IsSigned}
use Rattle.member_signing.proofs.ByKind.{still}
use Rattle.member_signing.proofs.Going.{begins, ends-none, ends-spent, goes-on, same-end, signs-one}
use Rattle.member_signing.proofs.Owned.{made-of, none-made}
use Rattle.member_signing.proofs.signing.sign_kind.Goals as goal

pub signatures-init : goal.signatures-init
signatures-init g c = (
  (λ s p group used is. (
    p,
    begins s p c.args.state.now (g.G.Tally.total c.args.signer.now) (g.G.Tally.used c.args.signer.now)
        (map signed c.args.signed.now.items) is used,
    refl,
  )),
  c.requires.real,
  c.requires.undecided,
  refl,
  refl,
  omega arith,
  (λ b was is. is),
  refl,
  refl,
)

pub next-requires-clause-left : goal.next-requires-clause-left
next-requires-clause-left g c = let here = c.used.ensures.value in let all = c.total.ensures in let room = c.signatures-test.true in omega
    (arith, here, all, room)

pub put-requires-clause-owed : goal.put-requires-clause-owed
put-requires-clause-owed g c = subst (λ (o : Option OwnClaim). IfSome o (IsOwed c.signatures.state)) c.in-Some.is c.in_ok-due.ensures.owed

pub signatures-smaller : goal.signatures-smaller
signatures-smaller g c =
    let made : g.G.Tally.used c.next.new.signer
    ≡ g.G.Tally.used c.signatures.signer + 1 = subst
    (λ (o : Option OwnClaim). MatchOption o (g.G.Tally.used c.next.new.signer ≡ g.G.Tally.used c.signatures.signer)
    (λ (own : OwnClaim). g.G.Tally.used c.next.new.signer
    ≡ g.G.Tally.used c.signatures.signer + 1)) c.in-Some.is c.in_ok-due.ensures.used in
    let here = c.used.ensures.value in
    let all = c.total.ensures.value in
    let room = c.signatures-test.true in
    let same = c.next.ensures.total in
    omega (arith, made, here, all, room, same)

pub signatures-preserved : goal.signatures-preserved
signatures-preserved g c =
    let inv = c.signatures.invariant in
    let made : g.G.Tally.used c.next.new.signer
    ≡ g.G.Tally.used c.signatures.signer + 1 = subst
    (λ (o : Option OwnClaim). MatchOption o (g.G.Tally.used c.next.new.signer ≡ g.G.Tally.used c.signatures.signer)
    (λ (own : OwnClaim). g.G.Tally.used c.next.new.signer
    ≡ g.G.Tally.used c.signatures.signer + 1)) c.in-Some.is c.in_ok-due.ensures.used in
    let more : g.G.Tally.used c.next.new.signer ≡ suc (g.G.Tally.used c.signatures.signer) = omega (arith, made) in
    let here = c.used.ensures.value in
    let all = c.total.ensures.value in
    let test = c.signatures-test.true in
    let same = inv.3 in
    let room : g.G.Tally.used c.signatures.signer < g.G.Tally.total c.args.signer.now = omega (arith, here, all, test, same) in (
      (λ s p group used is.
          let so = inv.0 s p group used is in
          let due = made-of s (g.G.Signer.signature c.signatures.signer) so.0
          (kind_of c.args.kind) c.in_ok-due.due c.in-Some.own c.in-Some.is (c.in_ok-due.ensures.next s so.0 group so.1.used so.1.state) in
          let its = subst (λ (sig : Signer). signed c.in-Some.own ≡ signed_of (own_claim s sig so.0 due.0)) inv.4 due.2 in
          let puts = c.in_ok-put-in-Some.ensures.puts s (g.G.Signer.signature c.args.signer.now) so.0 due.0
          (least_due-may s so.0 (kind_of c.args.kind) due.0 due.1) its so.1.state in
          let pushed = ap (map signed) c.in_ok-push-in-Some.ensures.items ∙ map-append signed c.signatures.signed.items
          (c.in-Some.own ∷ []) in
          let one = signs-one s (g.G.Signer.signature c.args.signer.now) so.0 c.put.new.state (g.G.Tally.total c.args.signer.now)
          (g.G.Tally.used c.next.new.signer)
          (map signed c.signatures.signed.items) due.0 (signed c.in-Some.own) puts (ap suc so.1.used ∙ sym more) its in (
            signs s (g.G.Signer.signature c.args.signer.now) so.0 due.0,
            subst (λ (now : List Signed). IsSigned s p
                (still (g.G.Tally.total c.args.signer.now - g.G.Tally.used c.next.new.signer) false
                (signs s (g.G.Signer.signature c.args.signer.now) so.0 due.0)) c.put.new.state (g.G.Tally.total c.args.signer.now)
                (g.G.Tally.used c.next.new.signer) (map signed c.args.signed.now.items) now false) (sym pushed)
                (goes-on s p so.0 _ _ _ _ _ _ _ _ _ _ _ so.1 one),
            same-end s (g.G.Signer.signature c.args.signer.now) (kind_of c.args.kind) so.0 due.0 (g.G.Tally.total c.args.signer.now)
                (g.G.Tally.used c.signatures.signer) (g.G.Tally.used c.next.new.signer) due.1 room more ∙ so.2,
          )),
      c.in_ok-put-in-Some.ensures.real,
      c.in_ok-put-in-Some.ensures.undecided,
      c.next.ensures.total ∙ inv.3,
      c.next.ensures.secret ∙ inv.4,
      (let before = inv.5 in omega (arith, before, made)),
      (λ b was is. c.put.ensures.stays b was (inv.6 b was is)),
      c.put.ensures.left ∙ inv.7,
      c.next.ensures.key ∙ inv.8,
    )

pub returns-in-None-clause-signs : goal.returns-in-None-clause-signs
returns-in-None-clause-signs g c s p group used is =
    let inv = c.signatures.invariant in
    let so = inv.0 s p group used is in
    let none = none-made s (g.G.Signer.signature c.signatures.signer) so.0 (kind_of c.args.kind) c.in_ok-due.due c.in-None.is
    (c.in_ok-due.ensures.next s so.0 group so.1.used so.1.state) in
    let count : g.G.Tally.used c.next.new.signer
    ≡ g.G.Tally.used c.signatures.signer = subst
    (λ (o : Option OwnClaim). MatchOption o (g.G.Tally.used c.next.new.signer ≡ g.G.Tally.used c.signatures.signer)
    (λ (own : OwnClaim). g.G.Tally.used c.next.new.signer
    ≡ g.G.Tally.used c.signatures.signer + 1)) c.in-None.is c.in_ok-due.ensures.used in
    subst (λ (one : Signing). IsSigned s p one c.signatures.state (g.G.Tally.total c.args.signer.now) (g.G.Tally.used c.next.new.signer)
    (map signed c.args.signed.now.items) (map signed c.signatures.signed.items) false) so.2
    (subst (λ (n : ℕ). IsSigned s p
    (sign_kind s (g.G.Signer.signature c.args.signer.now) (kind_of c.args.kind)
    (g.G.Tally.total c.args.signer.now - g.G.Tally.used c.signatures.signer) so.0) c.signatures.state
    (g.G.Tally.total c.args.signer.now) n (map signed c.args.signed.now.items) (map signed c.signatures.signed.items) false) (sym count)
    (ends-none s (g.G.Signer.signature c.args.signer.now)
    (kind_of c.args.kind) p so.0 c.signatures.state (g.G.Tally.total c.args.signer.now)
    (g.G.Tally.total c.args.signer.now - g.G.Tally.used c.signatures.signer) (g.G.Tally.used c.signatures.signer)
    (map signed c.args.signed.now.items) (map signed c.signatures.signed.items) none so.1))

pub returns-clause-signs : goal.returns-clause-signs
returns-clause-signs g c s p group used is =
    let inv = c.signatures.invariant in
    let so = inv.0 s p group used is in
    let here = c.used.ensures.value in
    let all = c.total.ensures.value in
    let test = c.signatures-test.false in
    let same = inv.3 in
    let room : g.G.Tally.total c.args.signer.now ≤ g.G.Tally.used c.signatures.signer = omega (arith, here, all, test, same) in
    subst (λ (one : Signing). IsSigned s p one c.signatures.state (g.G.Tally.total c.args.signer.now) (g.G.Tally.used c.signatures.signer)
    (map signed c.args.signed.now.items) (map signed c.signatures.signed.items) c.is_due.result) so.2
    (ends-spent s (g.G.Signer.signature c.args.signer.now)
    (kind_of c.args.kind) p so.0 c.signatures.state (g.G.Tally.total c.args.signer.now) (g.G.Tally.used c.signatures.signer)
    (map signed c.args.signed.now.items)
    (map signed c.signatures.signed.items) c.is_due.result room (c.is_due.ensures s so.0 so.1.state) so.1)

pub returns-in_err-put-in-Some-clause-stays : goal.returns-in_err-put-in-Some-clause-stays
returns-in_err-put-in-Some-clause-stays g c b was is = c.put.ensures.stays b was (c.signatures.invariant.6 b was is)

pub returns-in_err-push-in-Some-clause-stays : goal.returns-in_err-push-in-Some-clause-stays
returns-in_err-push-in-Some-clause-stays g c b was is = c.put.ensures.stays b was (c.signatures.invariant.6 b was is)
