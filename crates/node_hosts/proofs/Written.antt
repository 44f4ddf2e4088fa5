-- An entry that agrees with a process is one that the process may have written.
use Rattle.std.proofs.Common.{◌≡◌, ◌-◌, Bool, true, false, true≢false, length, refl, sym}
use Rattle.std.specs.Prelude.{◌&&◌, ◌==◌, nat_le, if◌then◌else◌, IsTrue}
use Rattle.std.specs.List.{list_all}
use Rattle.std.proofs.lemmas.Bool.{eqb-true, eq-eqb, leb-true, le-leb}
use Rattle.group_defs.specs.Process.{Process}
use Rattle.group_defs.specs.Events.{Outcome, outcome}
use Rattle.group_defs.specs.Hearing.{is_valid}
use Rattle.journal_defs.specs.Entries.{Entry}
use Rattle.hosted_core.specs.Cores.{Agrees}
use Rattle.node_defs.specs.Casts.{Cast, handed, kept_turn, may_have_written}

both : (x y : Bool) → (x && y) ≡ true → (x ≡ true) × (y ≡ true)
both true true e = (refl, refl)
both true false e = absurd (true≢false (sym e))
both false y e = absurd (true≢false (sym e))

and-so : (x y : Bool) → x ≡ true → y ≡ true → (x && y) ≡ true
and-so true true e f = refl
and-so true false e f = f
and-so false y e f = e

same-so : (u v : Bool) → (if u then v else (if v then false else true)) ≡ true → u ≡ v
same-so true true e = refl
same-so true false e = absurd (true≢false (sym e))
same-so false true e = absurd (true≢false (sym e))
same-so false false e = refl

so-same : (u v : Bool) → u ≡ v → (if u then v else (if v then false else true)) ≡ true
so-same true true e = refl
so-same true false e = sym e
so-same false true e = e
so-same false false e = refl

pub agrees-so : (c : Cast) (p : Process) (e : Entry) → IsTrue (may_have_written c p e)
    → Agrees c.setting p (c.total p.me - length p.signed) (handed e.event) e.signatures e.spent
unfolding may_have_written
agrees-so c p e written =
    let o : Outcome = outcome c.setting p (kept_turn p e) in
    let many : Bool = length o.signed == length e.signatures in
    let lacks : Bool = if o.spent then e.spent else (if e.spent then false else true) in
    let valid : Bool = list_all (is_valid c.setting) o.signed in
    let few : Bool = nat_le (length e.signatures) (c.total p.me - length p.signed) in
    let fourth : ((many && lacks && valid) ≡ true) × (few ≡ true) = both (many && lacks && valid) few written in
    let third : ((many && lacks) ≡ true) × (valid ≡ true) = both (many && lacks) valid fourth.0 in
    let second : (many ≡ true) × (lacks ≡ true) = both many lacks third.0 in
    record {
      fits = (eqb-true (length o.signed) (length e.signatures) second.0, same-so o.spent e.spent second.1);
      valid = third.1;
      few = leb-true (length e.signatures) (c.total p.me - length p.signed) fourth.1;
    }

pub written-so : (c : Cast) (p : Process) (e : Entry)
    → Agrees c.setting p (c.total p.me - length p.signed) (handed e.event) e.signatures e.spent → IsTrue (may_have_written c p e)
unfolding may_have_written
written-so c p e agrees =
    let o : Outcome = outcome c.setting p (kept_turn p e) in
    let many : Bool = length o.signed == length e.signatures in
    let lacks : Bool = if o.spent then e.spent else (if e.spent then false else true) in
    let valid : Bool = list_all (is_valid c.setting) o.signed in
    let few : Bool = nat_le (length e.signatures) (c.total p.me - length p.signed) in
    and-so (many && lacks && valid) few (and-so (many && lacks) valid
    (and-so many lacks (eq-eqb (length o.signed) (length e.signatures) agrees.fits.0) (so-same o.spent e.spent agrees.fits.1)) agrees.valid)
    (le-leb (length e.signatures) (c.total p.me - length p.signed) agrees.few)
