-- Views that were left, by tests and as they are kept.
use Rattle.std.proofs.Common.{◌≡◌, List, [], ◌∷◌, length, map, Bool, true, false, Option, Some, None, refl, sym, ap, ◌∙◌}
use Rattle.std.specs.Prelude.{◌&&◌, ◌==◌, if◌then◌else◌, nat_lt, is_none, IsTrue, MatchOption, Result, Ok, Err}
use Rattle.std.specs.List.{list_all}
use Rattle.std.proofs.lemmas.Bool.{ltb-true, lt-ltb, eqb-true, eq-eqb}
use Rattle.message_defs.specs.Statements.{Ready, Claim}
use Rattle.group_defs.specs.Views.{View, UpdateFault, is_member, quorum, has_keys, is_possible, next_fault, next, next_view}
use Rattle.group_defs.specs.Process.{Setting, keyed}
use Rattle.group_defs.specs.Hearing.{is_valid}
use Rattle.image_defs.specs.Images.{LeftView, view_behind}
use Rattle.image_defs.specs.Kept.{IsLeft, AreLeft}
use Rattle.pool_laws.proofs.Members.{tested-all, all-tested}
use Rattle.pool_laws.proofs.Tests.{and-first, and-second, both-true, some-same}
use Rattle.kept_images.specs.Tests.{commits, rise_from, is_left, leaves}
use Rattle.kept_images.proofs.Entries.{commits-so, so-commits}
use Rattle.kept_images.proofs.Walks.{walk-rises}

-- where a view was left so, a view follows
pub one-follows : (s : Setting) (v : View) (l : LeftView) (b : Bool) → b ≡ is_left s v l → b ≡ true → (e : UpdateFault)
    → next v l.value.update ≡ Err e → ⊥
unfolding is_left
one-follows s v l b is left e refused =
    let first : Bool = nat_lt l.rank (length v.members) in
    let many : Bool = length l.commit == quorum (length v.members) in
    let possible : Bool = is_possible (keyed s) v l.value.update in
    let others : Bool = rise_from 0 (map (λ (x : Claim). x.signer) l.commit) && list_all (commits s v l.rank l.value) l.commit in
    let all = sym is ∙ left in
    let two = and-second first (many && (possible && others)) all in
    let may = and-first possible others (and-second many (possible && others) two) in
    go (next_fault v l.value.update) (and-first (is_none (next_fault v l.value.update)) (has_keys (keyed s) l.value.update) may) refused
  where
    go : (o : Option UpdateFault) → is_none o ≡ true
        → (let r : Result View UpdateFault = elim o [ None ↦ Ok (next_view v l.value.update) | Some fault ↦ Err fault ] in r ≡ Err e) → ⊥
    go None e refused = absurd cc
    go (Some fault) e refused = absurd cc

-- the settings s and t have the same keys, and judge claims alike
module _ (s t : Setting) (keys : keyed t ≡ keyed s) (alike : (c : Claim) → is_valid t c ≡ is_valid s c) where
  abbrev Each : View → LeftView → Claim → Type 0
  Each v l c = IsTrue (is_member v c.signer) × (c.statement ≡ Ready v.number l.rank l.value) × IsTrue (is_valid t c)

  each-so : (v : View) (l : LeftView) (c : Claim) → commits s v l.rank l.value c ≡ true → Each v l c
  each-so v l c ok = let so = commits-so s v l.rank l.value c ok in (so.0, so.1, alike c ∙ so.2)

  so-each : (v : View) (l : LeftView) (c : Claim) → Each v l c → commits s v l.rank l.value c ≡ true
  so-each v l c so = so-commits s v l.rank l.value c (so.0, so.1, sym (alike c) ∙ so.2)

  left-so : (v : View) (l : LeftView) → is_left s v l ≡ true → IsLeft t v l
  unfolding is_left
  left-so v l ok =
      let a : Bool = nat_lt l.rank (length v.members) in
      let b : Bool = length l.commit == quorum (length v.members) in
      let c : Bool = is_possible (keyed s) v l.value.update in
      let d : Bool = rise_from 0 (map (λ (x : Claim). x.signer) l.commit) in
      let e : Bool = list_all (commits s v l.rank l.value) l.commit in
      let two = and-second a (b && (c && (d && e))) ok in
      let three = and-second b (c && (d && e)) two in
      let four = and-second c (d && e) three in
      record {
        rank = ltb-true l.rank (length v.members) (and-first a (b && (c && (d && e))) ok);
        possible = ap (λ ks. is_possible ks v l.value.update) keys ∙ and-first c (d && e) three;
        many = eqb-true (length l.commit) (quorum (length v.members)) (and-first b (c && (d && e)) two);
        rising = (walk-rises (map (λ (x : Claim). x.signer) l.commit) d refl).0 (and-first d e four);
        each = tested-all (commits s v l.rank l.value) (Each v l) l.commit (each-so v l) (and-second d e four);
      }

  so-left : (v : View) (l : LeftView) → IsLeft t v l → is_left s v l ≡ true
  unfolding is_left
  so-left v l so =
      let a : Bool = nat_lt l.rank (length v.members) in
      let b : Bool = length l.commit == quorum (length v.members) in
      let c : Bool = is_possible (keyed s) v l.value.update in
      let d : Bool = rise_from 0 (map (λ (x : Claim). x.signer) l.commit) in
      let e : Bool = list_all (commits s v l.rank l.value) l.commit in
      both-true a (b && (c && (d && e))) (lt-ltb l.rank (length v.members) so.rank)
      (both-true b (c && (d && e)) (eq-eqb (length l.commit) (quorum (length v.members)) so.many)
      (both-true c (d && e) (ap (λ ks. is_possible ks v l.value.update) (sym keys) ∙ so.possible)
      (both-true d e ((walk-rises (map (λ (x : Claim). x.signer) l.commit) d refl).1 so.rising)
      (all-tested (commits s v l.rank l.value) (Each v l) l.commit (so-each v l) so.each))))

  pub left-behind : (v : View) (ls : List LeftView) (w : View) → leaves s v ls ≡ Some w → AreLeft t v ls × (w ≡ view_behind v ls)
  left-behind v [] w is = (tt, sym (some-same v w is))
  left-behind v (l ∷ ls) w is = go (is_left s v l) refl is (left-behind (next_view v l.value.update) ls w)
    where
      go : (b : Bool) → is_left s v l ≡ b → (if b then leaves s (next_view v l.value.update) ls else None) ≡ Some w
          → (leaves s (next_view v l.value.update) ls ≡ Some w
          → AreLeft t (next_view v l.value.update) ls × (w ≡ view_behind (next_view v l.value.update) ls))
          → AreLeft t v (l ∷ ls) × (w ≡ view_behind v (l ∷ ls))
      go true e is rest = let more = rest is in ((left-so v l e, more.0), more.1)
      go false e is rest = absurd cc

  pub behind-left : (v : View) (ls : List LeftView) → AreLeft t v ls → leaves s v ls ≡ Some (view_behind v ls)
  behind-left v [] so = refl
  behind-left v (l ∷ ls) so = go (is_left s v l) (so-left v l so.0) (behind-left (next_view v l.value.update) ls so.1)
    where
      go : (b : Bool) → b ≡ true
          → leaves s (next_view v l.value.update) ls ≡ Some (view_behind (next_view v l.value.update) ls)
          → (if b then leaves s (next_view v l.value.update) ls else None) ≡ Some (view_behind v (l ∷ ls))
      go true e rest = rest
      go false e rest = absurd cc

  pub leaves-all : (v : View) (ls : List LeftView) (o : Option View) → o ≡ leaves s v ls
      → MatchOption o (AreLeft t v ls → ⊥) (λ w. AreLeft t v ls × (w ≡ view_behind v ls))
  leaves-all v ls None is = λ so. not-none (is ∙ behind-left v ls so)
    where
      not-none : {w : View} → None ≡ Some w → ⊥
      not-none e = absurd cc
  leaves-all v ls (Some w) is = left-behind v ls w (sym is)
