-- A header that is read is spelled so and in its ranges, and what is spelled so and in its ranges is read.
use Rattle.std.proofs.Common.{◌≡◌, ◌≢◌, ℕ, zero, suc, ◌+◌, ◌<◌, ◌≤◌, Bool, true, false, not, leb, eqb, List, [], ◌∷◌, ◌++◌, length, get_or, Ok, refl, sym, ap, subst, ◌∙◌, append_assoc, arith, inl, inr}
use Rattle.std.specs.Prelude.{if◌then◌else◌, ◌||◌, ◌&&◌, ◌⊎◌, AllPairs, Some, None, option_and_then}
use Rattle.std.specs.List.{flat_map, AllByRecursion}
use Rattle.std.proofs.lemmas.Bool.{leb-true, le-leb, eqb-true, eq-eqb, and_parts, and_from, ne_eqb}
use Rattle.std.proofs.lemmas.List.{append-nil, length-append}
use Rattle.std.proofs.Math.ListN.{get_or-append}
use Rattle.std.proofs.Math.Seq.{get_or-append_seam}
use Rattle.std.proofs.lemmas.Slice.Eq.{bytes_eq-Decides}
use Rattle.std.proofs.lemmas.List.Quantifiers.{all_pairs_push}
use Rattle.std.proofs.lemmas.List.Concat.{flat_map-cons}
use Rattle.std.specs.Int.{w32}
use Rattle.byte_defs.specs.Choices.{first_that_holds}
use Rattle.byte_defs.specs.Equality.{same_bytes}
use Rattle.byte_defs.specs.Fields.{four_bytes}
use Rattle.byte_defs.specs.Members.{has}
use Rattle.byte_defs.proofs.Fields.{IsBytes, bind_ok, ok_is, Takes, Takes-then, byte_takes, byte_again, long_takes, long_again, bytes_takes, bytes_again, false_unless}
use Rattle.signature_defs.specs.declared.OtsType.{OtsType}
use Rattle.signature_defs.specs.LmOts.{ots_typecode, ots_type_of}
use Rattle.signature_defs.specs.Hss.{levels_in_range, height_in_range, length_in_range}
use Rattle.signature_defs.proofs.OtsLaws.{typecode_of_type, type_of_typecode}
use Rattle.message_defs.specs.Limits.{most_members, most_messages}
use Rattle.replay_defs.specs.declared.FaultKind.TheVariants as faults
use Rattle.replay_defs.specs.declared.Scheme.{Scheme}
use Rattle.replay_defs.specs.declared.Scheme.TheVariants as schemes
use Rattle.replay_defs.specs.Keys.{Key, Plain, Lms, Hss, is_from, ots_for, tree_bytes, key_bytes, IsTree, IsKey}
use Rattle.replay_defs.specs.Schedules.{Listed, Header, is_listed, is_correct, is_corrupt, most_processes, role_byte, scheme_byte, version_of, version_without_limit, magic, limit_bytes, listed_bytes, header_bytes, AreListed, IsHeader}
use Rattle.replay_defs.specs.Reading.{Step, byte_at, wide_at, field_at, fault_at, known, byte_that, process_that, ots_at, tree_at, plain_at, lms_at, hss_at, key_at, version_by, scheme_by, limit_at, listed_at, all_listed_at, processes_at, members_at, genesis_at, setting_at, header_at}
use Rattle.schedule_laws.proofs.Steps.{known_ok, known_again, byte_that_takes, byte_that_again, process_that_takes, process_that_again}

-- ---- keys

chosen : (levels : ℕ) (k kind : OtsType) → (if length_in_range levels k then Some k else None) ≡ Some kind
    → (k ≡ kind) × (length_in_range levels kind ≡ true)
chosen levels k kind e =
    elim (length_in_range levels k) as
    (λ b. length_in_range levels k ≡ b → (if b then Some k else None) ≡ Some kind → (k ≡ kind) × (length_in_range levels kind ≡ true)) [
      | true ↦ λ fits f. let same : k ≡ kind = cc in (same, subst (λ (o : OtsType). length_in_range levels o ≡ true) same fits)
      | false ↦ λ out f. absurd cc
    ] refl e

ots_is : (levels code : ℕ) (kind : OtsType) → ots_for levels code ≡ Some kind
    → (code ≡ ots_typecode kind) × (length_in_range levels kind ≡ true)
ots_is levels code kind e =
    elim (ots_type_of code) as (λ o. ots_type_of code ≡ o
    → option_and_then (λ k. if length_in_range levels k then Some k else None) o ≡ Some kind
    → (code ≡ ots_typecode kind) × (length_in_range levels kind ≡ true)) [
      | None ↦ λ is f. absurd cc
      | Some k ↦ λ is f. let c = chosen levels k kind f in (typecode_of_type code kind (is ∙ ap (λ (o : OtsType). Some o) c.0), c.1)
    ] refl e

ots_takes : (levels : ℕ) (bytes : List ℕ) (x : OtsType × List ℕ) → IsBytes bytes → ots_at levels bytes ≡ Ok x
    → Takes bytes (ots_typecode x.0 ∷ []) x.1 × (length_in_range levels x.0 ≡ true)
unfolding ots_at
ots_takes levels bytes x fits e =
    let k = known_ok (ots_for levels) faults.Key byte_at bytes x e in
    let t = byte_takes (fault_at faults.Short bytes) bytes k.0 x.1 fits k.1 in
    let is = ots_is levels k.0 x.0 k.2 in
    (subst (λ (n : ℕ). Takes bytes (n ∷ []) x.1) is.0 t.0, is.1)

ots_again : (levels : ℕ) (kind : OtsType) (rest : List ℕ) → length_in_range levels kind ≡ true
    → ots_at levels (ots_typecode kind ∷ rest) ≡ Ok (kind, rest)
unfolding ots_at
ots_again levels kind rest fits =
    let bytes : List ℕ = ots_typecode kind ∷ rest in
    let is : ots_for levels (ots_typecode kind) ≡ Some kind = rw (type_of_typecode kind, fits) refl in
    known_again (ots_for levels) faults.Key byte_at bytes (ots_typecode kind) kind rest
    (byte_again (fault_at faults.Short bytes) (ots_typecode kind) rest) is

abbrev Tree : Type 0
Tree = ℕ × OtsType × List ℕ × List ℕ

tree_takes : (levels : ℕ) (bytes : List ℕ) (x : Tree × List ℕ) → IsBytes bytes → tree_at levels bytes ≡ Ok x
    → Takes bytes (tree_bytes x.0.0 x.0.1 x.0.2 x.0.3) x.1 × IsTree levels x.0.0 x.0.1 x.0.2 x.0.3
unfolding tree_at
tree_takes levels bytes x fits e =
    let a = bind_ok (byte_that (height_in_range levels) faults.Key bytes) _ x e in
    let b = bind_ok (ots_at levels a.0.1) _ x a.2 in
    let c = bind_ok (field_at 16 b.0.1) _ x b.2 in
    let d = bind_ok (field_at 32 c.0.1) _ x c.2 in
    let t0 = byte_that_takes (height_in_range levels) faults.Key bytes a.0 fits a.1 in
    let t1 = ots_takes levels a.0.1 b.0 t0.0.rest_fits b.1 in
    let t2 = bytes_takes (fault_at faults.Short b.0.1) 16 b.0.1 c.0.0 c.0.1 t1.0.rest_fits c.1 in
    let t3 = bytes_takes (fault_at faults.Short c.0.1) 32 c.0.1 d.0.0 d.0.1 t2.0.rest_fits d.1 in
    let made : Tree × List ℕ = ((a.0.0, b.0.0, c.0.0, d.0.0), d.0.1) in
    let last = Takes-then b.0.1 c.0.0 c.0.1 d.0.0 d.0.1 t2.0 t3.0 in
    let more = Takes-then a.0.1 (ots_typecode b.0.0 ∷ []) b.0.1 (c.0.0 ++ d.0.0) d.0.1 t1.0 last in
    let whole = Takes-then bytes (a.0.0 ∷ []) a.0.1 (ots_typecode b.0.0 ∷ (c.0.0 ++ d.0.0)) d.0.1 t0.0 more in
    subst (λ (y : Tree × List ℕ). Takes bytes (tree_bytes y.0.0 y.0.1 y.0.2 y.0.3) y.1
    × IsTree levels y.0.0 y.0.1 y.0.2 y.0.3) {x = made} {y = x} (ok_is made x d.2)
    (whole, (t0.2, t1.1, t2.1, t3.1))

field_again : (n : ℕ) (out rest : List ℕ) → length out ≡ n → field_at n (out ++ rest) ≡ Ok (out, rest)
field_again n out rest len = ap (λ (k : ℕ). field_at k (out ++ rest)) (sym len) ∙ bytes_again (fault_at faults.Short (out ++ rest)) out rest

tree_again : (levels code : ℕ) (kind : OtsType) (id seed rest : List ℕ) → IsTree levels code kind id seed
    → tree_at levels (tree_bytes code kind id seed ++ rest) ≡ Ok ((code, kind, id, seed), rest)
unfolding tree_at
tree_again levels code kind id seed rest fits =
    ap (λ (t : List ℕ). tree_at levels (code ∷ ots_typecode kind ∷ t)) (append_assoc id seed rest)
    ∙ rw (
      byte_that_again (height_in_range levels) faults.Key code (ots_typecode kind ∷ (id ++ (seed ++ rest))) fits.0,
      ots_again levels kind (id ++ (seed ++ rest)) fits.1,
      field_again 16 id (seed ++ rest) fits.2,
      field_again 32 seed rest fits.3,
    ) refl

plain_takes : (bytes : List ℕ) (x : Key × List ℕ) → IsBytes bytes → plain_at bytes ≡ Ok x
    → Takes bytes (key_bytes x.0) x.1 × IsKey schemes.Plain x.0
unfolding plain_at
plain_takes bytes x fits e =
    let a = bind_ok (field_at 32 bytes) _ x e in
    let b = bind_ok (wide_at w32 a.0.1) _ x a.2 in
    let t0 = bytes_takes (fault_at faults.Short bytes) 32 bytes a.0.0 a.0.1 fits a.1 in
    let t1 = long_takes (fault_at faults.Short a.0.1) a.0.1 b.0.0 b.0.1 t0.0.rest_fits b.1 in
    let made : Key × List ℕ = (Plain a.0.0 b.0.0, b.0.1) in
    subst (λ (y : Key × List ℕ). Takes bytes (key_bytes y.0) y.1 × IsKey schemes.Plain y.0) {x = made} {y = x} (ok_is made x b.2)
    (Takes-then bytes a.0.0 a.0.1 (four_bytes b.0.0) b.0.1 t0.0 t1.0, (t0.1, t1.1))

lms_takes : (bytes : List ℕ) (x : Key × List ℕ) → IsBytes bytes → lms_at bytes ≡ Ok x
    → Takes bytes (key_bytes x.0) x.1 × IsKey schemes.Lms x.0
unfolding lms_at
lms_takes bytes x fits e =
    let a = bind_ok (tree_at 1 bytes) _ x e in
    let t = tree_takes 1 bytes a.0 fits a.1 in
    let made : Key × List ℕ = (Lms a.0.0.0 a.0.0.1 a.0.0.2 a.0.0.3, a.0.1) in
    subst (λ (y : Key × List ℕ). Takes bytes (key_bytes y.0) y.1 × IsKey schemes.Lms y.0) {x = made} {y = x} (ok_is made x a.2) t

hss_takes : (bytes : List ℕ) (x : Key × List ℕ) → IsBytes bytes → hss_at bytes ≡ Ok x
    → Takes bytes (key_bytes x.0) x.1 × IsKey schemes.Hss x.0
unfolding hss_at
hss_takes bytes x fits e =
    let a = bind_ok (byte_that levels_in_range faults.Key bytes) _ x e in
    let b = bind_ok (tree_at a.0.0 a.0.1) _ x a.2 in
    let t0 = byte_that_takes levels_in_range faults.Key bytes a.0 fits a.1 in
    let t1 = tree_takes a.0.0 a.0.1 b.0 t0.0.rest_fits b.1 in
    let made : Key × List ℕ = (Hss a.0.0 b.0.0.0 b.0.0.1 b.0.0.2 b.0.0.3, b.0.1) in
    subst (λ (y : Key × List ℕ). Takes bytes (key_bytes y.0) y.1 × IsKey schemes.Hss y.0) {x = made} {y = x} (ok_is made x b.2)
    (Takes-then bytes (a.0.0 ∷ []) a.0.1 (tree_bytes b.0.0.0 b.0.0.1 b.0.0.2 b.0.0.3) b.0.1 t0.0 t1.0, (t0.2, t1.1))

key_takes : (scheme : Scheme) (bytes : List ℕ) (x : Key × List ℕ) → IsBytes bytes → key_at scheme bytes ≡ Ok x
    → Takes bytes (key_bytes x.0) x.1 × IsKey scheme x.0
unfolding key_at
key_takes schemes.Plain bytes x fits e = plain_takes bytes x fits e
key_takes schemes.Lms bytes x fits e = lms_takes bytes x fits e
key_takes schemes.Hss bytes x fits e = hss_takes bytes x fits e

key_again : (scheme : Scheme) (key : Key) (rest : List ℕ) → IsKey scheme key → key_at scheme (key_bytes key ++ rest) ≡ Ok (key, rest)
unfolding key_at plain_at lms_at hss_at
key_again schemes.Plain (Plain key total) rest fits =
    ap plain_at (append_assoc key (four_bytes total) rest)
    ∙ rw (
      field_again 32 key (four_bytes total ++ rest) fits.0,
      long_again (fault_at faults.Short (four_bytes total ++ rest)) total rest fits.1,
    ) refl
key_again schemes.Lms (Lms code kind id seed) rest fits = rw (tree_again 1 code kind id seed rest fits) refl
key_again schemes.Hss (Hss levels code kind id seed) rest fits =
    rw (
      byte_that_again levels_in_range faults.Key levels (tree_bytes code kind id seed ++ rest) fits.0,
      tree_again levels code kind id seed rest fits.1,
    ) refl
key_again schemes.Plain (Lms code kind id seed) rest fits = absurd fits
key_again schemes.Plain (Hss levels code kind id seed) rest fits = absurd fits
key_again schemes.Lms (Plain key total) rest fits = absurd fits
key_again schemes.Lms (Hss levels code kind id seed) rest fits = absurd fits
key_again schemes.Hss (Plain key total) rest fits = absurd fits
key_again schemes.Hss (Lms code kind id seed) rest fits = absurd fits

-- ---- a listed process

abbrev IsListed : Scheme → ℕ → Listed → Type 0
IsListed scheme least l = (least ≤ l.process) × (l.process ≤ 63) × IsKey scheme l.key

role_spelled : (n : ℕ) → n ≤ 1 → n ≡ role_byte (eqb n 1)
role_spelled zero le = refl
role_spelled (suc zero) le = refl
role_spelled (suc (suc n)) le = absurd (omega arith)

role_again : (corrupt : Bool) → (is_from 0 1 (role_byte corrupt) ≡ true) × (eqb (role_byte corrupt) 1 ≡ corrupt)
role_again true = (refl, refl)
role_again false = (refl, refl)

abbrev is_role : ℕ → Bool
is_role n = is_from 0 1 n

listed_takes : (scheme : Scheme) (least : ℕ) (bytes : List ℕ) (x : Listed × List ℕ) → IsBytes bytes → listed_at scheme least bytes ≡ Ok x
    → Takes bytes (listed_bytes x.0) x.1 × IsListed scheme least x.0
unfolding listed_at
listed_takes scheme least bytes x fits e =
    let a = bind_ok (process_that (leb least) faults.Roster bytes) _ x e in
    let b = bind_ok (byte_that is_role faults.Roster a.0.1) _ x a.2 in
    let c = bind_ok (key_at scheme b.0.1) _ x b.2 in
    let t0 = process_that_takes (leb least) faults.Roster bytes a.0 fits a.1 in
    let t1 = byte_that_takes is_role faults.Roster a.0.1 b.0 t0.0.rest_fits b.1 in
    let t2 = key_takes scheme b.0.1 c.0 t1.0.rest_fits c.1 in
    let made : Listed × List ℕ = (record { process = a.0.0; corrupt = eqb b.0.0 1; key = c.0.0 }, c.0.1) in
    let role : b.0.0 ≡ role_byte (eqb b.0.0 1) = role_spelled b.0.0 (leb-true b.0.0 1 (and_parts (leb 0 b.0.0) (leb b.0.0 1) t1.2).1) in
    let roled : Takes a.0.1 (role_byte (eqb b.0.0 1) ∷ key_bytes c.0.0) c.0.1 = subst
    (λ (n : ℕ). Takes a.0.1 (n ∷ key_bytes c.0.0) c.0.1) role (Takes-then a.0.1 (b.0.0 ∷ []) b.0.1 (key_bytes c.0.0) c.0.1 t1.0 t2.0) in
    let whole = Takes-then bytes (a.0.0 ∷ []) a.0.1 (role_byte (eqb b.0.0 1) ∷ key_bytes c.0.0) c.0.1 t0.0 roled in
    subst (λ (y : Listed × List ℕ). Takes bytes (listed_bytes y.0) y.1 × IsListed scheme least y.0) {x = made} {y = x} (ok_is made x c.2)
    (whole, (leb-true least a.0.0 t0.2, t0.1, t2.1))

listed_again : (scheme : Scheme) (least : ℕ) (l : Listed) (rest : List ℕ) → IsListed scheme least l
    → listed_at scheme least (listed_bytes l ++ rest) ≡ Ok (l, rest)
unfolding listed_at
listed_again scheme least l rest fits =
    rw (
      process_that_again (leb least) faults.Roster l.process (role_byte l.corrupt ∷ (key_bytes l.key ++ rest)) fits.1
          (le-leb least l.process fits.0),
      byte_that_again is_role faults.Roster (role_byte l.corrupt) (key_bytes l.key ++ rest) (role_again l.corrupt).0,
      key_again scheme l.key rest fits.2,
      (role_again l.corrupt).1,
    ) refl

-- ---- all of them

all_listed_take : (n : ℕ) (scheme : Scheme) (least : ℕ) (bytes : List ℕ) (x : List Listed × List ℕ) → IsBytes bytes
    → all_listed_at n scheme least bytes ≡ Ok x
    → Takes bytes (flat_map listed_bytes x.0) x.1 × (length x.0 ≡ n) × AreListed scheme least x.0
unfolding all_listed_at
all_listed_take zero scheme least bytes x fits e =
    subst (λ (y : List Listed × List ℕ). Takes bytes (flat_map listed_bytes y.0) y.1 × (length y.0 ≡ 0)
    × AreListed scheme least y.0) {x = ([], bytes)} {y = x} (ok_is ([], bytes) x e) (record { parts = refl; rest_fits = fits }, refl, tt)
all_listed_take (suc n) scheme least bytes x fits e =
    let a = bind_ok (listed_at scheme least bytes) _ x e in
    let b = bind_ok (all_listed_at n scheme (a.0.0.process + 1) a.0.1) _ x a.2 in
    let first = listed_takes scheme least bytes a.0 fits a.1 in
    let others = all_listed_take n scheme (a.0.0.process + 1) a.0.1 b.0 first.0.rest_fits b.1 in
    let both = Takes-then bytes (listed_bytes a.0.0) a.0.1 (flat_map listed_bytes b.0.0) b.0.1 first.0 others.0 in
    let made : List Listed × List ℕ = (a.0.0 ∷ b.0.0, b.0.1) in
    subst (λ (y : List Listed × List ℕ). Takes bytes (flat_map listed_bytes y.0) y.1 × (length y.0 ≡ suc n)
    × AreListed scheme least y.0) {x = made} {y = x} (ok_is made x b.2)
    (rw flat_map-cons both, ap suc others.1, (first.1.0, first.1.1, first.1.2, others.2))

all_listed_again : (scheme : Scheme) (least : ℕ) (ls : List Listed) (rest : List ℕ) → AreListed scheme least ls
    → all_listed_at (length ls) scheme least (flat_map listed_bytes ls ++ rest) ≡ Ok (ls, rest)
unfolding all_listed_at
all_listed_again scheme least [] rest fits = refl
all_listed_again scheme least (l ∷ ls) rest fits =
    let regrouped : flat_map listed_bytes (l ∷ ls) ++ rest ≡ listed_bytes l
    ++ (flat_map listed_bytes ls ++ rest) = ap (λ (t : List ℕ). t ++ rest)
    (flat_map-cons listed_bytes l ls) ∙ append_assoc (listed_bytes l) (flat_map listed_bytes ls) rest in
    ap (all_listed_at (suc (length ls)) scheme least) regrouped
    ∙ rw (
      listed_again scheme least l (flat_map listed_bytes ls ++ rest) (fits.0, fits.1, fits.2),
      all_listed_again scheme (l.process + 1) ls rest fits.3,
    ) refl

processes_take : (scheme : Scheme) (bytes : List ℕ) (x : List Listed × List ℕ) → IsBytes bytes → processes_at scheme bytes ≡ Ok x
    → Takes bytes (length x.0 ∷ flat_map listed_bytes x.0) x.1 × (is_from 1 most_processes (length x.0) ≡ true) × AreListed scheme 0 x.0
unfolding processes_at
processes_take scheme bytes x fits e =
    let a = bind_ok (byte_that (is_from 1 most_processes) faults.Roster bytes) _ x e in
    let t0 = byte_that_takes (is_from 1 most_processes) faults.Roster bytes a.0 fits a.1 in
    let t1 = all_listed_take a.0.0 scheme 0 a.0.1 x t0.0.rest_fits a.2 in
    let whole : Takes bytes (length x.0 ∷ flat_map listed_bytes x.0) x.1 = rw t1.1
    (Takes-then bytes (a.0.0 ∷ []) a.0.1 (flat_map listed_bytes x.0) x.1 t0.0 t1.0) in
    (whole, rw t1.1 t0.2, t1.2)

processes_again : (scheme : Scheme) (ls : List Listed) (rest : List ℕ) → is_from 1 most_processes (length ls) ≡ true → AreListed scheme 0 ls
    → processes_at scheme (length ls ∷ (flat_map listed_bytes ls ++ rest)) ≡ Ok (ls, rest)
unfolding processes_at
processes_again scheme ls rest some fits =
    rw (
      byte_that_again (is_from 1 most_processes) faults.Roster (length ls) (flat_map listed_bytes ls ++ rest) some,
      all_listed_again scheme 0 ls rest fits,
    ) refl

-- ---- tests

or_true : (a b : Bool) → (a || b) ≡ true → (a ≡ true) ⊎ (b ≡ true)
or_true true b e = inl refl
or_true false b e = inr e

or_false : (a b : Bool) → (a || b) ≡ false → (a ≡ false) × (b ≡ false)
or_false true b e = absurd cc
or_false false b e = (refl, e)

-- every listed process has a number below 64, in each role
pub is_listed_below : (scheme : Scheme) (least : ℕ) (ls : List Listed) (p : ℕ) → AreListed scheme least ls → is_listed ls p ≡ true → p ≤ 63
is_listed_below scheme least [] p fits e = absurd cc
is_listed_below scheme least (l ∷ ls) p fits e =
    elim (or_true (eqb l.process p) (is_listed ls p) e) [
      | inl h ↦ let same : l.process ≡ p = eqb-true _ _ h in omega (arith, fits.1)
      | inr h ↦ is_listed_below scheme (l.process + 1) ls p fits.3 h
    ]

pub is_correct_below : (scheme : Scheme) (least : ℕ) (ls : List Listed) (p : ℕ) → AreListed scheme least ls → is_correct ls p ≡ true
    → p ≤ 63
is_correct_below scheme least [] p fits e = absurd cc
is_correct_below scheme least (l ∷ ls) p fits e =
    elim (or_true ((eqb l.process p) && not l.corrupt) (is_correct ls p) e) [
      | inl h ↦ let same : l.process ≡ p = eqb-true _ _ (and_parts (eqb l.process p) (not l.corrupt) h).0 in omega (arith, fits.1)
      | inr h ↦ is_correct_below scheme (l.process + 1) ls p fits.3 h
    ]

pub is_corrupt_below : (scheme : Scheme) (least : ℕ) (ls : List Listed) (p : ℕ) → AreListed scheme least ls → is_corrupt ls p ≡ true
    → p ≤ 63
is_corrupt_below scheme least [] p fits e = absurd cc
is_corrupt_below scheme least (l ∷ ls) p fits e =
    elim (or_true ((eqb l.process p) && l.corrupt) (is_corrupt ls p) e) [
      | inl h ↦ let same : l.process ≡ p = eqb-true _ _ (and_parts (eqb l.process p) l.corrupt h).0 in omega (arith, fits.1)
      | inr h ↦ is_corrupt_below scheme (l.process + 1) ls p fits.3 h
    ]

-- ---- members

abbrev Differ : ℕ → ℕ → Type 0
Differ m n = m ≢ n

not_among : (before : List ℕ) (m : ℕ) → ((k d : ℕ) → k < length before → get_or before k d ≢ m) → has before m ≡ false
not_among [] m h = refl
not_among (b ∷ bs) m h =
    let other : eqb b m ≡ false = false_unless (eqb b m) (λ e. h 0 0 (omega arith) (eqb-true b m e)) in
    rw (other, not_among bs m (λ k d lt. h (suc k) d (omega arith))) refl

among_not : (before : List ℕ) (m : ℕ) → has before m ≡ false → (k d : ℕ) → k < length before → get_or before k d ≢ m
among_not [] m e k d lt = absurd (omega arith)
among_not (b ∷ bs) m e zero d lt = λ same. let not_it = (or_false (eqb b m) (has bs m) e).0 in let it = eq-eqb b m same in absurd cc
among_not (b ∷ bs) m e (suc k) d lt = among_not bs m (or_false (eqb b m) (has bs m) e).1 k d (omega arith)

module _ (listed : ℕ → Bool) where
  -- members that are listed and none of those before
  abbrev AreMembers : List ℕ → List ℕ → Type 0
  AreMembers before [] = Unit {0}
  AreMembers before (m ∷ ms) = (m ≤ 63) × (listed m ≡ true) × (has before m ≡ false) × AreMembers (before ++ m ∷ []) ms

  -- a member behind those before
  abbrev is_next : List ℕ → ℕ → Bool
  is_next before m = listed m && not (has before m)

  -- those read, behind those before
  record AreRead (before bytes : List ℕ) (n : ℕ) (x : List ℕ × List ℕ) : Type 0 where
    more : List ℕ
    all : before ++ more ≡ x.0
    takes : Takes bytes more x.1
    count : length more ≡ n
    members : AreMembers before more

  members_take : (n : ℕ) (before bytes : List ℕ) (x : List ℕ × List ℕ) → IsBytes bytes → members_at n listed before bytes ≡ Ok x
      → AreRead before bytes n x
  unfolding members_at
  members_take zero before bytes x fits e =
      subst (λ (y : List ℕ × List ℕ). AreRead before bytes 0 y) {x = (before, bytes)} {y = x} (ok_is (before, bytes) x e)
      (record { more = []; all = append-nil before; takes = record { parts = refl; rest_fits = fits }; count = refl; members = tt })
  members_take (suc n) before bytes x fits e =
      let a = bind_ok (process_that (is_next before) faults.Roster bytes) _ x e in
      let first = process_that_takes (is_next before) faults.Roster bytes a.0 fits a.1 in
      let tests = and_parts (listed a.0.0) (not (has before a.0.0)) first.2 in
      let others = members_take n (before ++ a.0.0 ∷ []) a.0.1 x first.0.rest_fits a.2 in
      record {
        more = a.0.0 ∷ others.more;
        all = sym (append_assoc before (a.0.0 ∷ []) others.more) ∙ others.all;
        takes = Takes-then bytes (a.0.0 ∷ []) a.0.1 others.more x.1 first.0 others.takes;
        count = ap suc others.count;
        members = (first.1, tests.0, not_true _ tests.1, others.members);
      }
    where
      not_true : (b : Bool) → not b ≡ true → b ≡ false
      not_true true e = absurd cc
      not_true false e = refl

  members_again : (before ms rest : List ℕ) → AreMembers before ms
      → members_at (length ms) listed before (ms ++ rest) ≡ Ok (before ++ ms, rest)
  unfolding members_at
  members_again before [] rest fits = ap (λ (ps : List ℕ). Ok (ps, rest)) (sym (append-nil before))
  members_again before (m ∷ ms) rest fits =
      let new : not (has before m) ≡ true = rw fits.2 refl in
      rw (
        process_that_again (is_next before) faults.Roster m (ms ++ rest) fits.0 (and_from (listed m) (not (has before m)) fits.1 new),
        members_again (before ++ m ∷ []) ms rest fits.3,
      )
      (ap (λ (ps : List ℕ). Ok (ps, rest)) (append_assoc before (m ∷ []) ms))

  -- members are listed, and differ in pairs
  are_listed : (before ms : List ℕ) → AreMembers before ms → AllByRecursion (λ m. listed m ≡ true) ms
  are_listed before [] fits = tt
  are_listed before (m ∷ ms) fits = (fits.1, are_listed (before ++ m ∷ []) ms fits.3)

  are_distinct : (before ms : List ℕ) → AllPairs Differ before → AreMembers before ms → AllPairs Differ (before ++ ms)
  are_distinct before [] pairs fits = rw append-nil pairs
  are_distinct before (m ∷ ms) pairs fits =
      rw (← append_assoc before (m ∷ []) ms)
      (are_distinct (before ++ m ∷ []) ms (all_pairs_push Differ before m pairs (λ k d lt. among_not before m fits.2 k d lt)) fits.3)

  are_members : ((m : ℕ) → listed m ≡ true → m ≤ 63) → (before ms : List ℕ) → AllPairs Differ (before ++ ms)
      → AllByRecursion (λ m. listed m ≡ true) ms → AreMembers before ms
  are_members below before [] pairs fits = tt
  are_members below before (m ∷ ms) pairs fits =
      let two_places : (k d : ℕ) → k < length before
      → get_or (before ++ m ∷ ms) k d ≢ get_or (before ++ m ∷ ms)
      (length before) d = λ k d lt. pairs k (length before) d lt (omega (arith, length-append before (m ∷ ms))) in
      let new : (k d : ℕ) → k < length before
      → get_or before k d ≢ m = λ k d lt. rw (get_or-append before (m ∷ ms) d k lt, get_or-append_seam before m ms d) at
      (two_places k d lt) in
      (below m fits.0, fits.0, not_among before m new, are_members below (before ++ m ∷ []) ms (rw append_assoc pairs) fits.1)

genesis_takes : (listed : ℕ → Bool) (bytes : List ℕ) (x : List ℕ × List ℕ) → IsBytes bytes → genesis_at listed bytes ≡ Ok x
    → Takes bytes (length x.0 ∷ x.0) x.1 × (is_from 1 most_members (length x.0) ≡ true) × AreMembers listed [] x.0
unfolding genesis_at
genesis_takes listed bytes x fits e =
    let a = bind_ok (byte_that (is_from 1 most_members) faults.Roster bytes) _ x e in
    let t0 = byte_that_takes (is_from 1 most_members) faults.Roster bytes a.0 fits a.1 in
    let read = members_take listed a.0.0 [] a.0.1 x t0.0.rest_fits a.2 in
    let whole : Takes bytes (length read.more ∷ read.more) x.1 = rw read.count
    (Takes-then bytes (a.0.0 ∷ []) a.0.1 read.more x.1 t0.0 read.takes) in
    subst (λ (ms : List ℕ). Takes bytes (length ms ∷ ms) x.1 × (is_from 1 most_members (length ms) ≡ true)
    × AreMembers listed [] ms) {x = read.more} {y = x.0} read.all
    (whole, rw read.count t0.2, read.members)

genesis_again : (listed : ℕ → Bool) (ms rest : List ℕ) → is_from 1 most_members (length ms) ≡ true → AreMembers listed [] ms
    → genesis_at listed (length ms ∷ (ms ++ rest)) ≡ Ok (ms, rest)
unfolding genesis_at
genesis_again listed ms rest some fits =
    rw (byte_that_again (is_from 1 most_members) faults.Roster (length ms) (ms ++ rest) some, members_again listed [] ms rest fits) refl

-- ---- version, scheme and limit

-- a version and what it tells
abbrev IsVersion : ℕ → Type 0
IsVersion version = (version ≡ 1) ⊎ ((version ≡ 2) ⊎ (version ≡ 3))

version_is : (m : List ℕ) (version : ℕ) → version_by m ≡ Some version → (m ≡ magic version) × IsVersion version
version_is m version e =
    by (same_bytes m (magic 1)) (same_bytes m (magic 2)) (same_bytes m (magic 3))
    (λ t. (bytes_eq-Decides m (magic 1)).0 t) (λ t. (bytes_eq-Decides m (magic 2)).0 t) (λ t. (bytes_eq-Decides m (magic 3)).0 t) e
  where
    by : (a b c : Bool) → (a ≡ true → m ≡ magic 1) → (b ≡ true → m ≡ magic 2) → (c ≡ true → m ≡ magic 3)
        → first_that_holds ((a, 1) ∷ (b, 2) ∷ (c, 3) ∷ []) ≡ Some version → (m ≡ magic version) × IsVersion version
    by true b c one two three e = let is : 1 ≡ version = cc in (one refl ∙ ap magic is, inl (sym is))
    by false true c one two three e = let is : 2 ≡ version = cc in (two refl ∙ ap magic is, inr (inl (sym is)))
    by false false true one two three e = let is : 3 ≡ version = cc in (three refl ∙ ap magic is, inr (inr (sym is)))
    by false false false one two three e = absurd cc

version_again : (version : ℕ) → IsVersion version → version_by (magic version) ≡ Some version
version_again version (inl e) = rw e refl
version_again version (inr (inl e)) = rw e refl
version_again version (inr (inr e)) = rw e refl

-- versions that have the scheme
abbrev HasVersion : Scheme → ℕ → Type 0
HasVersion schemes.Plain version = eqb version 2 ≡ false
HasVersion schemes.Lms version = eqb version 2 ≡ false
HasVersion schemes.Hss version = eqb version 1 ≡ false

not_true : (b : Bool) → not b ≡ true → b ≡ false
not_true true e = absurd cc
not_true false e = refl

-- what the byte of a scheme says
abbrev Reported : ℕ → ℕ → Scheme → Type 0
Reported version b s = (b ≡ scheme_byte s) × HasVersion s version

first_reported : (version b : ℕ) (s : Scheme) (x y z : Bool) → (x ≡ true → Reported version b schemes.Plain)
    → (y ≡ true → Reported version b schemes.Lms) → (z ≡ true → Reported version b schemes.Hss)
    → first_that_holds ((x, schemes.Plain) ∷ (y, schemes.Lms) ∷ (z, schemes.Hss) ∷ []) ≡ Some s → Reported version b s
first_reported version b s true y z one two three e = let is : schemes.Plain ≡ s = cc in subst (Reported version b) is (one refl)
first_reported version b s false true z one two three e = let is : schemes.Lms ≡ s = cc in subst (Reported version b) is (two refl)
first_reported version b s false false true one two three e = let is : schemes.Hss ≡ s = cc in subst (Reported version b) is (three refl)
first_reported version b s false false false one two three e = absurd cc

scheme_is : (version b : ℕ) (s : Scheme) → scheme_by version b ≡ Some s → (b ≡ scheme_byte s) × HasVersion s version
scheme_is version b s e =
    first_reported version b s (eqb b 0 && not (eqb version 2)) (eqb b 1 && not (eqb version 2)) (eqb b 2 && not (eqb version 1))
    (λ t. let p = and_parts (eqb b 0) (not (eqb version 2)) t in (eqb-true b 0 p.0, not_true _ p.1))
    (λ t. let p = and_parts (eqb b 1) (not (eqb version 2)) t in (eqb-true b 1 p.0, not_true _ p.1))
    (λ t. let p = and_parts (eqb b 2) (not (eqb version 1)) t in (eqb-true b 2 p.0, not_true _ p.1))
    e

-- the limit that a version tells, and the version that it makes with a scheme of the version
record IsLimit (version : ℕ) (bytes : List ℕ) (x : ℕ × List ℕ) : Type 0 where
  takes : Takes bytes (limit_bytes x.0) x.1
  fits : is_from 1 most_messages x.0 ≡ true
  makes : (s : Scheme) → HasVersion s version → version_of s x.0 ≡ version

first_makes : (s : Scheme) → HasVersion s 1 → version_of s 1 ≡ 1
first_makes schemes.Plain has = refl
first_makes schemes.Lms has = refl
first_makes schemes.Hss has = absurd cc

second_makes : (s : Scheme) → HasVersion s 2 → version_of s 1 ≡ 2
second_makes schemes.Plain has = absurd cc
second_makes schemes.Lms has = absurd cc
second_makes schemes.Hss has = refl

no_limit : (version : ℕ) (bytes : List ℕ) (x : ℕ × List ℕ) → IsBytes bytes
    → ((s : Scheme) → HasVersion s version → version_of s 1 ≡ version) → (let none : Step ℕ = Ok (1, bytes) in none) ≡ Ok x
    → IsLimit version bytes x
no_limit version bytes x fits makes e =
    let made : ℕ × List ℕ = (1, bytes) in
    subst (λ (y : ℕ × List ℕ). IsLimit version bytes y) {x = made} {y = x} (ok_is made x e)
    (record { takes = record { parts = refl; rest_fits = fits }; fits = refl; makes = makes })

abbrev from_2 : ℕ → Bool
from_2 n = leb 2 n && leb n 16

third_limit : (bytes : List ℕ) (x : ℕ × List ℕ) → IsBytes bytes → byte_that from_2 faults.Field bytes ≡ Ok x → IsLimit 3 bytes x
third_limit bytes x fits e =
    let t = byte_that_takes from_2 faults.Field bytes x fits e in
    let p = and_parts (leb 2 x.0) (leb x.0 16) t.2 in
    let least : 2 ≤ x.0 = leb-true 2 x.0 p.0 in
    let other : eqb x.0 1 ≡ false = ne_eqb x.0 1 (λ same. omega arith) in
    record {
      takes = rw other t.0;
      fits = and_from (leb 1 x.0) (leb x.0 16) (le-leb 1 x.0 (omega arith)) p.1;
      makes = λ s has. rw other refl;
    }

limit_takes : (version : ℕ) (bytes : List ℕ) (x : ℕ × List ℕ) → IsVersion version → IsBytes bytes → limit_at version bytes ≡ Ok x
    → IsLimit version bytes x
unfolding limit_at
limit_takes version bytes x (inl is) fits e =
    subst (λ (v : ℕ). IsLimit v bytes x) (sym is) (no_limit 1 bytes x fits first_makes (rw is at e))
limit_takes version bytes x (inr (inl is)) fits e =
    subst (λ (v : ℕ). IsLimit v bytes x) (sym is) (no_limit 2 bytes x fits second_makes (rw is at e))
limit_takes version bytes x (inr (inr is)) fits e =
    subst (λ (v : ℕ). IsLimit v bytes x) (sym is) (third_limit bytes x fits (rw is at e))

abbrev Setting : Type 0
Setting = Scheme × ℕ × List ℕ

abbrev setting_bytes : Setting → List ℕ
setting_bytes x = magic (version_of x.0 x.1) ++ (scheme_byte x.0 ∷ (limit_bytes x.1 ++ x.2))

abbrev IsSetting : Setting → Type 0
IsSetting x = (is_from 1 most_messages x.1 ≡ true) × (length x.2 ≡ 16)

setting_takes : (bytes : List ℕ) (x : Setting × List ℕ) → IsBytes bytes → setting_at bytes ≡ Ok x
    → Takes bytes (setting_bytes x.0) x.1 × IsSetting x.0
unfolding setting_at
setting_takes bytes x fits e =
    let a = bind_ok (known version_by faults.Magic (field_at 4) bytes) _ x e in
    let b = bind_ok (known (scheme_by a.0.0) faults.Scheme byte_at a.0.1) _ x a.2 in
    let c = bind_ok (limit_at a.0.0 b.0.1) _ x b.2 in
    let d = bind_ok (field_at 16 c.0.1) _ x c.2 in
    let v = known_ok version_by faults.Magic (field_at 4) bytes a.0 a.1 in
    let is = version_is v.0 a.0.0 v.2 in
    let t0 = bytes_takes (fault_at faults.Short bytes) 4 bytes v.0 a.0.1 fits v.1 in
    let k = known_ok (scheme_by a.0.0) faults.Scheme byte_at a.0.1 b.0 b.1 in
    let s = scheme_is a.0.0 k.0 b.0.0 k.2 in
    let t1 = byte_takes (fault_at faults.Short a.0.1) a.0.1 k.0 b.0.1 t0.0.rest_fits k.1 in
    let limit = limit_takes a.0.0 b.0.1 c.0 is.1 t1.0.rest_fits c.1 in
    let t3 = bytes_takes (fault_at faults.Short c.0.1) 16 c.0.1 d.0.0 d.0.1 limit.takes.rest_fits d.1 in
    let version : a.0.0 ≡ version_of b.0.0 c.0.0 = sym (limit.makes b.0.0 s.1) in
    let last = Takes-then b.0.1 (limit_bytes c.0.0) c.0.1 d.0.0 d.0.1 limit.takes t3.0 in
    let more : Takes a.0.1 (scheme_byte b.0.0 ∷ (limit_bytes c.0.0 ++ d.0.0)) d.0.1 =
    subst (λ (n : ℕ). Takes a.0.1 (n ∷ (limit_bytes c.0.0 ++ d.0.0)) d.0.1) s.0
    (Takes-then a.0.1 (k.0 ∷ []) b.0.1 (limit_bytes c.0.0 ++ d.0.0) d.0.1 t1.0 last) in
    let front : Takes bytes (magic (version_of b.0.0 c.0.0)) a.0.1 = subst (λ (m : List ℕ). Takes bytes m a.0.1)
    (is.0 ∙ ap magic version) t0.0 in
    let whole = Takes-then bytes (magic (version_of b.0.0 c.0.0)) a.0.1
    (scheme_byte b.0.0 ∷ (limit_bytes c.0.0 ++ d.0.0)) d.0.1 front more in
    let made : Setting × List ℕ = ((b.0.0, c.0.0, d.0.0), d.0.1) in
    subst (λ (y : Setting × List ℕ). Takes bytes (setting_bytes y.0) y.1 × IsSetting y.0) {x = made} {y = x} (ok_is made x d.2)
    (whole, (limit.fits, t3.1))

-- the version, where it is known whether the limit is 1
abbrev version_where : Scheme → Bool → ℕ
version_where s one = if one then version_without_limit s else 3

where_is : (s : Scheme) (one : Bool) → IsVersion (version_where s one)
where_is schemes.Plain true = inl refl
where_is schemes.Lms true = inl refl
where_is schemes.Hss true = inr (inl refl)
where_is s false = inr (inr refl)

where_has : (s : Scheme) (one : Bool) → scheme_by (version_where s one) (scheme_byte s) ≡ Some s
where_has schemes.Plain true = refl
where_has schemes.Lms true = refl
where_has schemes.Hss true = refl
where_has schemes.Plain false = refl
where_has schemes.Lms false = refl
where_has schemes.Hss false = refl

no_limit_again : (s : Scheme) (rest : List ℕ) → limit_at (version_without_limit s) rest ≡ Ok (1, rest)
unfolding limit_at
no_limit_again schemes.Plain rest = refl
no_limit_again schemes.Lms rest = refl
no_limit_again schemes.Hss rest = refl

two_or_more : (n : ℕ) → 1 ≤ n → eqb n 1 ≡ false → 2 ≤ n
two_or_more zero le e = absurd (omega arith)
two_or_more (suc zero) le e = absurd cc
two_or_more (suc (suc n)) le e = omega arith

third_again : (n : ℕ) (rest : List ℕ) → from_2 n ≡ true → limit_at 3 (n ∷ rest) ≡ Ok (n, rest)
unfolding limit_at
third_again n rest t = byte_that_again from_2 faults.Field n rest t

limit_again : (s : Scheme) (limit : ℕ) (rest : List ℕ) → is_from 1 most_messages limit ≡ true
    → limit_at (version_of s limit) (limit_bytes limit ++ rest) ≡ Ok (limit, rest)
limit_again s limit rest fits =
    elim (eqb limit 1) as (λ b. eqb limit 1 ≡ b
    → limit_at (version_where s b) ((if b then [] else limit ∷ []) ++ rest) ≡ Ok (limit, rest)) [
      | true ↦ λ t. let is : limit ≡ 1 = eqb-true limit 1 t in rw is (no_limit_again s rest)
      | false ↦ λ t.
          let p = and_parts (leb 1 limit) (leb limit 16) fits in
          let least : 1 ≤ limit = leb-true 1 limit p.0 in
          let two : 2 ≤ limit = two_or_more limit least t in
          third_again limit rest (and_from (leb 2 limit) (leb limit 16) (le-leb 2 limit two) p.1)
    ] refl

setting_again : (s : Scheme) (limit : ℕ) (group rest : List ℕ) → IsSetting (s, limit, group)
    → setting_at (magic (version_of s limit) ++ (scheme_byte s ∷ (limit_bytes limit ++ (group ++ rest)))) ≡ Ok ((s, limit, group), rest)
unfolding setting_at
setting_again s limit group rest fits =
    let v : ℕ = version_of s limit in
    let behind : List ℕ = scheme_byte s ∷ (limit_bytes limit ++ (group ++ rest)) in
    let front : known version_by faults.Magic (field_at 4) (magic v ++ behind) ≡ Ok (v, behind) =
    known_again version_by faults.Magic (field_at 4) (magic v ++ behind) (magic v) v behind (field_again 4 (magic v) behind refl)
    (version_again v (where_is s (eqb limit 1))) in
    let named : known (scheme_by v) faults.Scheme byte_at behind ≡ Ok (s, limit_bytes limit ++ (group ++ rest)) =
    known_again (scheme_by v) faults.Scheme byte_at behind (scheme_byte s) s (limit_bytes limit ++ (group ++ rest))
    (byte_again (fault_at faults.Short behind) (scheme_byte s) (limit_bytes limit ++ (group ++ rest))) (where_has s (eqb limit 1)) in
    rw (front, named, limit_again s limit (group ++ rest) fits.0, field_again 16 group rest fits.1) refl

-- ---- the header

no_pairs : AllPairs Differ []
no_pairs i j d lt within = absurd (omega arith)

joined : (m l g f gen rest : List ℕ) (s n k : ℕ)
    → (m ++ (s ∷ (l ++ (g ++ (n ∷ (f ++ (k ∷ gen))))))) ++ rest ≡ m ++ (s ∷ (l ++ (g ++ (n ∷ (f ++ (k ∷ (gen ++ rest)))))))
joined m l g f gen rest s n k =
    append_assoc m (s ∷ (l ++ (g ++ (n ∷ (f ++ (k ∷ gen)))))) rest
    ∙ ap (λ (t : List ℕ). m ++ (s ∷ t)) (append_assoc l (g ++ (n ∷ (f ++ (k ∷ gen)))) rest
    ∙ ap (λ (t : List ℕ). l ++ t) (append_assoc g (n ∷ (f ++ (k ∷ gen))) rest
    ∙ ap (λ (t : List ℕ). g ++ (n ∷ t)) (append_assoc f (k ∷ gen) rest)))

behind_group : (m l g rest : List ℕ) (s : ℕ) → (m ++ (s ∷ (l ++ g))) ++ rest ≡ m ++ (s ∷ (l ++ (g ++ rest)))
behind_group m l g rest s = append_assoc m (s ∷ (l ++ g)) rest ∙ ap (λ (t : List ℕ). m ++ (s ∷ t)) (append_assoc l g rest)

pub header_takes : (bytes : List ℕ) (x : Header × List ℕ) → IsBytes bytes → header_at bytes ≡ Ok x
    → Takes bytes (header_bytes x.0) x.1 × IsHeader x.0
unfolding header_at
header_takes bytes x fits e =
    let a = bind_ok (setting_at bytes) _ x e in
    let b = bind_ok (processes_at a.0.0.0 a.0.1) _ x a.2 in
    let c = bind_ok (genesis_at (is_listed b.0.0) b.0.1) _ x b.2 in
    let t0 = setting_takes bytes a.0 fits a.1 in
    let t1 = processes_take a.0.0.0 a.0.1 b.0 t0.0.rest_fits b.1 in
    let t2 = genesis_takes (is_listed b.0.0) b.0.1 c.0 t1.0.rest_fits c.1 in
    let h : Header = record { scheme = a.0.0.0; batch_limit = a.0.0.1; group = a.0.0.2; processes = b.0.0; genesis = c.0.0 } in
    let made : Header × List ℕ = (h, c.0.1) in
    let more = Takes-then a.0.1 (length b.0.0 ∷ flat_map listed_bytes b.0.0) b.0.1 (length c.0.0 ∷ c.0.0) c.0.1 t1.0 t2.0 in
    let all = Takes-then bytes (setting_bytes a.0.0) a.0.1
    (length b.0.0 ∷ (flat_map listed_bytes b.0.0 ++ (length c.0.0 ∷ c.0.0))) c.0.1 t0.0 more in
    let whole : Takes bytes (header_bytes h) c.0.1 = subst (λ (t : List ℕ). Takes bytes t c.0.1)
    (behind_group (magic (version_of a.0.0.0 a.0.0.1))
    (limit_bytes a.0.0.1) a.0.0.2 (length b.0.0 ∷ (flat_map listed_bytes b.0.0 ++ (length c.0.0 ∷ c.0.0))) (scheme_byte a.0.0.0)) all in
    let fine : IsHeader h = record {
      limit = t0.1.0;
      group = t0.1.1;
      some = t1.1;
      processes = t1.2;
      members = t2.1;
      listed = are_listed (is_listed b.0.0) [] c.0.0 t2.2;
      distinct = are_distinct (is_listed b.0.0) [] c.0.0 no_pairs t2.2;
    } in
    subst (λ (y : Header × List ℕ). Takes bytes (header_bytes y.0) y.1 × IsHeader y.0) {x = made} {y = x} (ok_is made x c.2) (whole, fine)

pub header_again : (h : Header) (rest : List ℕ) → IsHeader h → header_at (header_bytes h ++ rest) ≡ Ok (h, rest)
unfolding header_at
header_again h rest fits =
    let genesis : List ℕ = length h.genesis ∷ (h.genesis ++ rest) in
    let processes : List ℕ = length h.processes ∷ (flat_map listed_bytes h.processes ++ genesis) in
    let members : AreMembers (is_listed h.processes) [] h.genesis = are_members (is_listed h.processes)
    (λ m is. is_listed_below h.scheme 0 h.processes m fits.processes is) [] h.genesis fits.distinct fits.listed in
    ap header_at (joined (magic (version_of h.scheme h.batch_limit))
    (limit_bytes h.batch_limit) h.group (flat_map listed_bytes h.processes) h.genesis rest (scheme_byte h.scheme) (length h.processes)
    (length h.genesis))
    ∙ rw (
      setting_again h.scheme h.batch_limit h.group processes (fits.limit, fits.group),
      processes_again h.scheme h.processes genesis fits.some fits.processes,
      genesis_again (is_listed h.processes) h.genesis rest fits.members members,
    ) refl
