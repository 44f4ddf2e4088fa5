-- What is decided, and whether the process has halted.
use Rattle.std.proofs.Common.{◌≡◌, ◌≢◌, ℕ, ◌<◌, List, Bool, true, false, Option, Some, None, refl, sym, ◌∙◌, subst}
use Rattle.std.specs.Prelude.{◌&&◌, ◌==◌, ◌↔◌, not, IsTrue}
use Rattle.std.proofs.lemmas.Bool.{ltb-true, lt-ltb, eqb-true, eq-eqb}
use Rattle.message_defs.specs.Updates.{Value}
use Rattle.group_defs.specs.Views.{View, is_member, is_possible}
use Rattle.pool_laws.proofs.Tests.{and-first, and-second, both-true, some-same}
use Rattle.kept_images.specs.Facts.{Decides, IsHaltedSo}
use Rattle.kept_images.specs.Tests.{ends, is_passed}

not-equal : (m n : ℕ) → not (m == n) ≡ true → m ≢ n
not-equal m n ok is = go (m == n) (eq-eqb m n is) ok
  where
    go : (b : Bool) → b ≡ true → not b ≡ true → ⊥
    go true e f = cc
    go false e f = cc

equal-not : (m n : ℕ) → m ≢ n → not (m == n) ≡ true
equal-not m n differ = go (m == n) refl
  where
    go : (b : Bool) → (m == n) ≡ b → not b ≡ true
    go true e = absurd (differ (eqb-true m n e))
    go false e = refl

pub ends-so : (keyed : List ℕ) (v : View) (me places : ℕ) (o : Option (ℕ × Value)) (b : Bool) → b ≡ ends keyed v me places o
    → IsTrue b ↔ Decides keyed v me places o
ends-so keyed v me places None b is = (λ ok d e. absurd (not-some e), λ so. is)
  where
    not-some : {d : ℕ × Value} → None ≡ Some d → ⊥
    not-some e = absurd cc
ends-so keyed v me places (Some x) b is =
    let p : Bool = is_possible keyed v x.1.update in
    let m : Bool = is_member v me in
    let n : Bool = not (places == x.1.cut) in (
      λ ok d e. (let rest = and-second p (m && n) (sym is ∙ ok) in
          subst (λ (d : ℕ × Value). IsTrue (is_possible keyed v d.1.update) × IsTrue (is_member v me) × (places ≢ d.1.cut)) (some-same x d e)
          (and-first p (m && n) (sym is ∙ ok), and-first m n rest, not-equal places x.1.cut (and-second m n rest))),
      λ so. (let here = so x refl in is ∙ both-true p (m && n) here.0 (both-true m n here.1 (equal-not places x.1.cut here.2))),
    )

abbrev Beyond : ℕ → Option (ℕ × Value) → Type 0
Beyond places o = (d : ℕ × Value) × (o ≡ Some d) × (d.1.cut < places)

passed-some : (places : ℕ) (o : Option (ℕ × Value)) → is_passed places o ≡ true → Beyond places o
passed-some places None ok = absurd cc
passed-some places (Some x) ok = (x, refl, ltb-true x.1.cut places ok)

some-passed : (places : ℕ) (o : Option (ℕ × Value)) → Beyond places o → is_passed places o ≡ true
some-passed places o so =
    subst (λ (o : Option (ℕ × Value)). is_passed places o ≡ true) (sym so.1) (lt-ltb so.0.1.cut places so.2)

-- it has halted where the cut is passed, and only there
pub halted-so : (halted : Bool) (places : ℕ) (o : Option (ℕ × Value)) → halted ≡ is_passed places o → IsHaltedSo halted places o
halted-so halted places o is = (λ ok. passed-some places o (sym is ∙ ok), λ so. is ∙ some-passed places o so)

pub so-halted : (halted : Bool) (places : ℕ) (o : Option (ℕ × Value)) → IsHaltedSo halted places o → halted ≡ is_passed places o
so-halted halted places o so = go halted (is_passed places o) so.0 so.1 (passed-some places o) (some-passed places o)
  where
    go : (h p : Bool) → (h ≡ true → Beyond places o) → (Beyond places o → h ≡ true) → (p ≡ true → Beyond places o)
        → (Beyond places o → p ≡ true) → h ≡ p
    go true p there back ahead behind = sym (behind (there refl))
    go false true there back ahead behind = back (ahead refl)
    go false false there back ahead behind = refl
