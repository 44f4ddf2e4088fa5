-- A reply key stands behind those of lower processes: it is enough to look at the last of them.
use Rattle.std.proofs.Common.{◌≡◌, ℕ, zero, suc, ◌<◌, ◌&&◌, Bool, true, false, List, [], ◌∷◌, map, length, Option, Some, None, option_map, refl, sym, ap, subst, ◌∙◌, arith}
use Rattle.std.specs.Prelude.{All, AllPairs, IfSome, if◌then◌else◌, nat_lt}
use Rattle.std.specs.List.{AllByRecursion}
use Rattle.std.proofs.lemmas.List.Elements.{All-from_recursion}
use Rattle.std.proofs.lemmas.Bool.{ltb-true, lt-ltb}
use Rattle.byte_defs.specs.Choices.{and_then}
use Rattle.signature_defs.specs.Schemes.{Scheme}
use Rattle.text_defs.specs.Words.{bytes_of}
use Rattle.kit_defs.specs.Kits.{key_length, roster_of}
use Rattle.rp_base.specs.Rosters.{IsRising}
use Rattle.store_defs.specs.Words.{listed_process}
use Rattle.store_defs.specs.Asking.{reply_key_by}
use Rattle.store_asking.specs.Lines.{IsAbove, IsNext, Key, Of, PlainSaid, are_below, key_above, with_key}

abbrev Keys : Type 0
Keys = List (ℕ × List ℕ)

-- the last process is below this one
abbrev last_below : Keys → ℕ → Bool
last_below [] p = true
last_below (k ∷ []) p = nat_lt k.0 p
last_below (k ∷ l ∷ more) p = last_below (l ∷ more) p

-- a key of a process, where it passes the test
abbrev key_if : Scheme → List ℕ → List ℕ → List ℕ → (ℕ → Bool) → Option (ℕ × List ℕ)
key_if scheme roster process key test = and_then (listed_process roster process) (λ p.
    if test p then option_map (λ k. (p, k)) (bytes_of (key_length scheme) key) else None)

by_last : (scheme : Scheme) (roster : List ℕ) (keys : Keys) (process key : List ℕ)
    → reply_key_by scheme roster keys (process ∷ key ∷ []) ≡ key_if scheme roster process key (last_below keys)
by_last scheme roster [] process key = refl
by_last scheme roster (k ∷ []) process key = refl
by_last scheme roster (k ∷ l ∷ more) process key = by_last scheme roster (l ∷ more) process key

-- ---- rising processes

both_true : (a b : Bool) → (a && b) ≡ true → (a ≡ true) × (b ≡ true)
both_true true b e = (refl, e)
both_true false b e = absurd cc

tail_rises : (k : ℕ × List ℕ) (keys : Keys) → IsRising (k ∷ keys) → IsRising keys
tail_rises k keys rising = λ i j d lower within. rising (suc i) (suc j) d (omega (arith, lower)) (omega (arith, within))

never_both : (t : Bool) → (t && false) ≡ false
never_both true = refl
never_both false = refl

one_lower : (a b p : ℕ) (rest : Bool) → a < b → (nat_lt a p && (nat_lt b p && rest)) ≡ (nat_lt b p && rest)
one_lower a b p rest lower = of (nat_lt b p) refl
  where
    of : (t : Bool) → nat_lt b p ≡ t → (nat_lt a p && (t && rest)) ≡ (t && rest)
    of true e =
        let under = ltb-true b p e in
        let first : nat_lt a p ≡ true = lt-ltb a p (omega (arith, lower, under)) in
        rw first refl
    of false e = never_both (nat_lt a p)

alone : (t : Bool) → (t && true) ≡ t
alone true = refl
alone false = refl

all_or_last : (keys : Keys) (p : ℕ) → IsRising keys → are_below (roster_of keys) p ≡ last_below keys p
all_or_last [] p rising = refl
all_or_last (k ∷ []) p rising = alone (nat_lt k.0 p)
all_or_last (k ∷ l ∷ more) p rising =
    let lower : k.0 < l.0 = rising 0 1 k (omega arith) (omega arith) in
    one_lower k.0 l.0 p (are_below (roster_of more) p) lower ∙ all_or_last (l ∷ more) p (tail_rises k (l ∷ more) rising)

-- the words behind `replykey`, read so or so
pub same_key : (scheme : Scheme) (roster : List ℕ) (keys : Keys) (words : List (List ℕ)) → IsRising keys
    → key_above scheme roster (roster_of keys) words ≡ reply_key_by scheme roster keys words
same_key scheme roster keys [] rising = refl
same_key scheme roster keys (process ∷ []) rising = refl
same_key scheme roster keys (process ∷ key ∷ []) rising =
    (λ i. and_then (listed_process roster process) (λ p.
    if all_or_last keys p rising i then option_map (λ k. (p, k)) (bytes_of (key_length scheme) key) else None))
    ∙ sym (by_last scheme roster keys process key)
same_key scheme roster keys (process ∷ key ∷ more ∷ words) rising = refl

-- so it is said
pub key_so : (scheme : Scheme) (roster reported : List ℕ) (keys : Keys) (words : List (List ℕ)) (said : Option PlainSaid) → reported ≡ roster_of keys
    → IsRising keys → said ≡ option_map with_key (key_above scheme roster reported words)
    → said ≡ option_map with_key (reply_key_by scheme roster keys words)
key_so scheme roster reported keys words said is rising so =
    so ∙ ap (λ (ps : List ℕ). option_map with_key (key_above scheme roster ps words)) is
    ∙ ap (λ (o : Option (ℕ × List ℕ)). option_map with_key o) (same_key scheme roster keys words rising)

each_below : (keys : Keys) (p : ℕ) → are_below (roster_of keys) p ≡ true → AllByRecursion (λ k. k.0 < p) keys
each_below [] p e = tt
each_below (k ∷ keys) p e =
    let parts = both_true (nat_lt k.0 p) (are_below (roster_of keys) p) e in
    (ltb-true k.0 p parts.0, each_below keys p parts.1)

pub is_next : (keys : Keys) (said : PlainSaid) → IsAbove (roster_of keys) said → IsNext keys said
is_next keys (Key process key) above = All-from_recursion (λ k. k.0 < process) keys (each_below keys process above)
is_next keys (Of view) above = tt

pub next_if : {S : Type 0} (view : S → PlainSaid) (keys : Keys) (reported : List ℕ) (o : Option S) → reported ≡ roster_of keys
    → IfSome o (λ s. IsAbove reported (view s)) → IfSome o (λ s. IsNext keys (view s))
next_if view keys reported None are above = tt
next_if view keys reported (Some s) are above = is_next keys (view s) (subst (λ (ps : List ℕ). IsAbove ps (view s)) are above)
