-- One claim more in the bytes of a frame: they are then the frame of the groups that the rule of packing gives.
use Rattle.std.proofs.Common.{◌≡◌, ℕ, ◌+◌, ◌-◌, ◌<◌, ◌≤◌, Bool, true, false, ◌&&◌, eqb, List, [], ◌∷◌, ◌++◌, length, get_or, map, Option, Some, None, Ok, refl, sym, ap, subst, ◌∙◌, append_assoc, arith}
use Rattle.std.specs.Prelude.{if◌then◌else◌, slice_index, slice_range, slice_set, nat_lt}
use Rattle.std.specs.List.{flat_map, AllByRecursion, last_or}
use Rattle.std.proofs.Math.Bool.{and-false}
use Rattle.std.proofs.Math.Seq.{set-append_seam, get_or-append_seam}
use Rattle.std.proofs.lemmas.Bool.{ltb-true, le-leb, lt-leb, eqb-true, eqb-false}
use Rattle.std.proofs.lemmas.List.{append-nil, take_at, drop_at, length-append, length-set, map-append, flat_map_more}
use Rattle.byte_defs.specs.Fields.{two_bytes, text}
use Rattle.byte_defs.specs.Choices.{is_some_and}
use Rattle.byte_defs.specs.Equality.{same_bytes}
use Rattle.message_defs.specs.Frames.{Group, FrameView, Bundle, Proof, signature_bytes, group_bytes, groups_bytes, frame_bytes, AreSignatures, IsGroup, AreGroups, HasParts, IsFrame, groups_at, frame_of}
use Rattle.message_defs.specs.Packing.{Signed, joins, with_signature, group_of, add, fits}
use Rattle.frame_codec.specs.declared.writer.Last.{Last}
use Rattle.frame_codec.specs.Views.{items_of}
use Rattle.frame_codec.specs.Drafts.{drafted, groups_in, IsLast, Holds}
use Rattle.frame_codec.proofs.Grammar.{groups_again, frame_again}

-- ---- the rule, at the end of a list

add-joins : (before : List Group) (g : Group) (c : Signed) → joins g c ≡ true → add (before ++ g ∷ []) c ≡ before ++ with_signature g c ∷ []
add-joins [] g c e = rw e refl
add-joins (x ∷ []) g c e = ap (λ (gs : List Group). x ∷ gs) (add-joins [] g c e)
add-joins (x ∷ y ∷ before) g c e = ap (λ (gs : List Group). x ∷ gs) (add-joins (y ∷ before) g c e)

add-begins : (before : List Group) (g : Group) (c : Signed) → joins g c ≡ false
    → add (before ++ g ∷ []) c ≡ (before ++ g ∷ []) ++ group_of c ∷ []
add-begins [] g c e = rw e refl
add-begins (x ∷ []) g c e = ap (λ (gs : List Group). x ∷ gs) (add-begins [] g c e)
add-begins (x ∷ y ∷ before) g c e = ap (λ (gs : List Group). x ∷ gs) (add-begins (y ∷ before) g c e)

last_or-last : {A : Type 0} (o : Option A) (xs : List A) (x : A) → last_or o (xs ++ x ∷ []) ≡ Some x
last_or-last o [] x = refl
last_or-last o (y ∷ xs) x = last_or-last (Some y) xs x

-- ---- lists that grow at their end

all-more : {X : Type 0} (P : X → Type 0) (xs : List X) (x : X) → AllByRecursion P xs → P x → AllByRecursion P (xs ++ x ∷ [])
all-more P [] x all p = (p, tt)
all-more P (y ∷ xs) x all p = (all.0, all-more P xs x all.1 p)

all-front : {X : Type 0} (P : X → Type 0) (xs : List X) (x : X) → AllByRecursion P (xs ++ x ∷ []) → AllByRecursion P xs × P x
all-front P [] x all = (tt, all.0)
all-front P (y ∷ xs) x all = let more = all-front P xs x all.1 in ((all.0, more.0), more.1)

signatures-more : (least : ℕ) (ss : List (ℕ × List ℕ)) (s t : ℕ × List ℕ) → AreSignatures least (ss ++ s ∷ []) → s.0 < t.0 → t.0 < 256
    → length t.1 ≤ 16384 → AreSignatures least ((ss ++ s ∷ []) ++ t ∷ [])
signatures-more least [] s t fits above byte short = (fits.0, fits.1, fits.2, (omega arith, byte, short, tt))
signatures-more least (x ∷ ss) s t fits above byte short = (
  fits.0,
  fits.1,
  fits.2,
  signatures-more (x.0 + 1) ss s t fits.3 above byte short,
)

flat_map-last : {X A : Type 0} (f : X → List A) (xs : List X) (x : X) → flat_map f (xs ++ x ∷ []) ≡ flat_map f xs ++ f x
flat_map-last f xs x = sym (flat_map_more f [] xs x)

length-last : {X : Type 0} (xs : List X) (x : X) → length (xs ++ x ∷ []) ≡ length xs + 1
length-last xs x = length-append xs (x ∷ [])

-- the groups that are read in the bytes of these groups
pub groups_in-spelled : (bytes : List ℕ) (kind : ℕ) (gs : List Group) → bytes ≡ 1 ∷ kind ∷ groups_bytes gs → AllByRecursion IsGroup gs
    → groups_in bytes ≡ gs
groups_in-spelled bytes kind gs e each =
    ap groups_in e ∙ ap (λ (t : List ℕ). items_of (groups_at (length gs) t))
    (sym (append-nil (flat_map group_bytes gs))) ∙ ap items_of (groups_again gs [] each)

-- ---- the last group in the bytes

-- the bytes up to the count of the last group
abbrev front : ℕ → ℕ → List Group → List ℕ → List ℕ
front kind count before statement = 1 ∷ kind ∷ count ∷ (flat_map group_bytes before ++ text statement)

abbrev whole : ℕ → List Group → List ℕ
whole kind gs = 1 ∷ kind ∷ groups_bytes gs

whole-last : (kind : ℕ) (before : List Group) (g : Group)
    → whole kind (before ++ g ∷ []) ≡ front kind (length before + 1) before g.statement
    ++ (length g.signatures ∷ flat_map signature_bytes g.signatures)
whole-last kind before g =
    ap (λ (n : ℕ). 1 ∷ kind ∷ n ∷ flat_map group_bytes (before ++ g ∷ [])) (length-last before g)
    ∙ ap (λ (t : List ℕ). 1 ∷ kind ∷ (length before + 1) ∷ t)
    (flat_map-last group_bytes before g ∙ sym
    (append_assoc (flat_map group_bytes before) (text g.statement) (length g.signatures ∷ flat_map signature_bytes g.signatures)))

length-front : (kind count : ℕ) (before : List Group) (statement : List ℕ)
    → length (front kind count before statement) ≡ 5 + length (flat_map group_bytes before) + length statement
length-front kind count before statement = omega
    (arith, length-append (flat_map group_bytes before) (text statement), length-append (two_bytes (length statement)) statement)

-- what the bytes show of the last group
record Shows (bytes : List ℕ) (last : Last) (g : Group) : Type 0 where
  statement : slice_range bytes last.statement_at last.count_at ≡ g.statement
  count : slice_index bytes last.count_at ≡ length g.signatures

shows : (first statement after : List ℕ) (count : ℕ) (last : Last) (g : Group) → last.statement_at ≡ length first
    → last.count_at ≡ last.statement_at + length statement → statement ≡ g.statement → count ≡ length g.signatures
    → Shows (first ++ (statement ++ count ∷ after)) last g
shows first statement after count last g place past same counted =
    let long : last.count_at - last.statement_at ≡ length statement = omega arith in
    let end : last.count_at ≡ length (first ++ statement) = omega (arith, length-append first statement) in
    let read : get_or ((first ++ statement) ++ count ∷ after) (length (first ++ statement)) 0
    ≡ count = get_or-append_seam (first ++ statement) count after 0 in
    record {
      statement = rw (
        long,
        drop_at first (statement ++ count ∷ after) last.statement_at (sym place),
        take_at statement (count ∷ after) (length statement) refl,
      ) same;
      count = ap (λ (t : List ℕ). get_or t last.count_at 0)
          (sym (append_assoc first statement (count ∷ after))) ∙ ap
          (λ (n : ℕ). get_or ((first ++ statement) ++ count ∷ after) n 0) end ∙ read ∙ counted;
    }

-- the code's test of the last group is the rule's
test-joins : (bytes : List ℕ) (last : Last) (g : Group) (c : Signed) → Shows bytes last g
    → last_or None (map (λ (s : ℕ × List ℕ). s.0) g.signatures) ≡ Some last.signer
    → joins g c ≡ (same_bytes (slice_range bytes last.statement_at last.count_at) c.statement && nat_lt (slice_index bytes last.count_at) 16
    && nat_lt last.signer c.signer)
test-joins bytes last g c sh signer = rw (sh.statement, sh.count, signer) refl

-- ---- the bytes with one claim more

joins-spelled : (kind : ℕ) (before : List Group) (g : Group) (c : Signed) (n : ℕ)
    → n ≡ length (front kind (length before + 1) before g.statement)
    → slice_set (whole kind (before ++ g ∷ [])) n (slice_index (whole kind (before ++ g ∷ [])) n + 1)
    ++ signature_bytes (c.signer, c.signature) ≡ whole kind (before ++ with_signature g c ∷ [])
joins-spelled kind before g c n e =
    let f : List ℕ = front kind (length before + 1) before g.statement in
    let k : ℕ = length g.signatures in
    let tail : List ℕ = flat_map signature_bytes g.signatures in
    let one : List ℕ = signature_bytes (c.signer, c.signature) in
    ap (λ (t : List ℕ). slice_set t n (slice_index t n + 1) ++ one) (whole-last kind before g)
    ∙ ap (λ (m : ℕ). slice_set (f ++ k ∷ tail) m (slice_index (f ++ k ∷ tail) m + 1) ++ one) e
    ∙ ap (λ (m : ℕ). slice_set (f ++ k ∷ tail) (length f) (m + 1) ++ one) (get_or-append_seam f k tail 0)
    ∙ ap (λ (t : List ℕ). t ++ one) (set-append_seam f k tail (k + 1))
    ∙ append_assoc f ((k + 1) ∷ tail) one
    ∙ ap (λ (m : ℕ). f ++ (m ∷ (tail ++ one))) (sym (length-last g.signatures (c.signer, c.signature)))
    ∙ ap (λ (t : List ℕ). f ++ (length (g.signatures ++ (c.signer, c.signature) ∷ []) ∷ t))
    (sym (flat_map-last signature_bytes g.signatures (c.signer, c.signature)))
    ∙ sym (whole-last kind before (with_signature g c))

begins-spelled : (kind : ℕ) (gs : List Group) (g : Group)
    → slice_set (whole kind gs) 2 (slice_index (whole kind gs) 2 + 1) ++ group_bytes g ≡ whole kind (gs ++ g ∷ [])
begins-spelled kind gs g =
    ap (λ (m : ℕ). 1 ∷ kind ∷ m ∷ (flat_map group_bytes gs ++ group_bytes g)) (sym (length-last gs g))
    ∙ ap (λ (t : List ℕ). 1 ∷ kind ∷ length (gs ++ g ∷ []) ∷ t) (sym (flat_map-last group_bytes gs g))

-- bytes that hold one claim more, whether or not there is room for it
pub record Grows (kind : ℕ) (bytes : List ℕ) (last : Last) (gs : List Group) : Type 0 where
  pub spelled : bytes ≡ whole kind gs
  pub each : AllByRecursion IsGroup gs
  pub ends : IsLast gs last

-- the test of the code, at the last group
abbrev pub test : List ℕ → Signed → Last → Bool
test bytes c last = same_bytes (slice_range bytes last.statement_at last.count_at) c.statement
    && nat_lt (slice_index bytes last.count_at) 16 && nat_lt last.signer c.signer

abbrev last_group : (gs : List Group) (last : Last) → IsLast gs last → Group
last_group gs last l = record { statement = l.statement; signatures = l.earlier ++ (last.signer, l.signature) ∷ [] }

length-head : (kind count : ℕ) (before : List Group) (statement : List ℕ)
    → length (1 ∷ kind ∷ count ∷ (flat_map group_bytes before ++ two_bytes (length statement))) ≡ 5 + length (flat_map group_bytes before)
length-head kind count before statement = omega (arith, length-append (flat_map group_bytes before) (two_bytes (length statement)))

-- where the last group stands, the bytes show it
holds-shows : (kind room capacity : ℕ) (bytes : List ℕ) (last : Last) (gs : List Group) (h : Holds kind room capacity bytes (Some last) gs)
    → Shows bytes last (last_group gs last h.ends)
holds-shows kind room capacity bytes last gs h =
    let l : IsLast gs last = h.ends in
    let g : Group = last_group gs last l in
    let first : List ℕ = 1 ∷ kind ∷ (length l.before + 1) ∷ (flat_map group_bytes l.before ++ two_bytes (length l.statement)) in
    let after : List ℕ = flat_map signature_bytes g.signatures in
    let split : bytes ≡ first ++ (l.statement ++ length g.signatures ∷ after) =
    h.spelled ∙ ap (whole kind) l.parts ∙ whole-last kind l.before g
    ∙ ap (λ (t : List ℕ). 1 ∷ kind ∷ (length l.before + 1) ∷ (t ++ length g.signatures ∷ after))
    (sym (append_assoc (flat_map group_bytes l.before) (two_bytes (length l.statement)) l.statement))
    ∙ append_assoc first l.statement (length g.signatures ∷ after) in
    let place : last.statement_at ≡ length first = l.statement_at ∙ sym (length-head kind (length l.before + 1) l.before l.statement) in
    subst (λ (t : List ℕ). Shows t last g) (sym split)
    (shows first l.statement after (length g.signatures) last g place l.count_at refl refl)

holds-test : (kind room capacity : ℕ) (bytes : List ℕ) (last : Last) (gs : List Group) (c : Signed)
    (h : Holds kind room capacity bytes (Some last) gs) → joins (last_group gs last h.ends) c ≡ test bytes c last
holds-test kind room capacity bytes last gs c h =
    let l : IsLast gs last = h.ends in
    let signers : map (λ (s : ℕ × List ℕ). s.0) (l.earlier ++ (last.signer, l.signature) ∷ []) ≡ map (λ (s : ℕ × List ℕ). s.0) l.earlier
    ++ last.signer ∷ [] = map-append (λ (s : ℕ × List ℕ). s.0) l.earlier ((last.signer, l.signature) ∷ []) in
    test-joins bytes last (last_group gs last l) c (holds-shows kind room capacity bytes last gs h)
    (ap (last_or None) signers ∙ last_or-last None (map (λ (s : ℕ × List ℕ). s.0) l.earlier) last.signer)

three_true : (a b c : Bool) → (a && b && c) ≡ true → (b ≡ true) × (c ≡ true)
three_true true true true e = (refl, refl)
three_true true true false e = absurd cc
three_true true false c e = absurd cc
three_true false b c e = absurd cc

-- the last group takes one signature more
pub grows-joins : (kind room capacity : ℕ) (bytes : List ℕ) (last : Last) (gs : List Group) (c : Signed)
    → Holds kind room capacity bytes (Some last) gs → test bytes c last ≡ true → c.signer < 256 → length c.signature ≤ 16384
    → Grows kind (slice_set bytes last.count_at (slice_index bytes last.count_at + 1) ++ signature_bytes (c.signer, c.signature))
    (record { statement_at = last.statement_at; count_at = last.count_at; signer = c.signer }) (add gs c)
    × (length (add gs c) ≡ length gs)
grows-joins kind room capacity bytes last gs c h t byte short =
    let l : IsLast gs last = h.ends in
    let g : Group = last_group gs last l in
    let j : joins g c ≡ true = holds-test kind room capacity bytes last gs c h ∙ t in
    let added : add gs c ≡ l.before ++ with_signature g c ∷ [] = ap (λ (x : List Group). add x c) l.parts ∙ add-joins l.before g c j in
    let spelled : bytes ≡ whole kind (l.before ++ g ∷ []) = h.spelled ∙ ap (whole kind) l.parts in
    let place : last.count_at ≡ length (front kind (length l.before + 1) l.before l.statement) = omega
    (arith, length-front kind (length l.before + 1) l.before l.statement, l.statement_at, l.count_at) in
    let each : AllByRecursion IsGroup (l.before ++ g ∷ []) = subst (AllByRecursion IsGroup) l.parts h.each in
    let parts = all-front IsGroup l.before g each in
    let tests = three_true (same_bytes (slice_range bytes last.statement_at last.count_at) c.statement)
    (nat_lt (slice_index bytes last.count_at) 16) (nat_lt last.signer c.signer) t in
    let sh = holds-shows kind room capacity bytes last gs h in
    let few : length g.signatures < 16 = subst (λ (n : ℕ). n < 16) sh.count (ltb-true _ 16 tests.0) in
    let above : last.signer < c.signer = ltb-true _ _ tests.1 in
    let fine : IsGroup (with_signature g c) = record {
      statement = parts.1.statement;
      some = omega (arith, length-last g.signatures (c.signer, c.signature));
      few = omega (arith, length-last g.signatures (c.signer, c.signature));
      signatures = signatures-more 0 l.earlier (last.signer, l.signature) (c.signer, c.signature) parts.1.signatures above byte short;
    } in (
      record {
        spelled = ap (λ (x : List ℕ). slice_set x last.count_at (slice_index x last.count_at + 1)
            ++ signature_bytes (c.signer, c.signature)) spelled ∙ joins-spelled kind l.before g c last.count_at place ∙ ap (whole kind)
            (sym added);
        each = subst (AllByRecursion IsGroup) (sym added) (all-more IsGroup l.before (with_signature g c) parts.0 fine);
        ends = record {
          before = l.before;
          statement = l.statement;
          earlier = g.signatures;
          signature = c.signature;
          parts = added;
          statement_at = l.statement_at;
          count_at = l.count_at;
        };
      },
      ap length added ∙ length-last l.before (with_signature g c) ∙ sym (length-last l.before g) ∙ sym (ap length l.parts),
    )

-- where no group takes it, the claim begins one
added-begins : (kind room capacity : ℕ) (bytes : List ℕ) (last : Option Last) (gs : List Group) (c : Signed)
    → Holds kind room capacity bytes last gs → is_some_and last (test bytes c) ≡ false → add gs c ≡ gs ++ group_of c ∷ []
added-begins kind room capacity bytes None gs c h none =
    let empty : gs ≡ [] = h.ends in
    ap (λ (x : List Group). add x c) empty ∙ ap (λ (x : List Group). x ++ group_of c ∷ []) (sym empty)
added-begins kind room capacity bytes (Some last) gs c h none =
    let l : IsLast gs last = h.ends in
    ap (λ (x : List Group). add x c) l.parts ∙ add-begins l.before (last_group gs last l) c
    (holds-test kind room capacity bytes last gs c h ∙ none) ∙ ap (λ (x : List Group). x ++ group_of c ∷ []) (sym l.parts)

pub grows-begins : (kind room capacity : ℕ) (bytes : List ℕ) (last : Option Last) (gs : List Group) (c : Signed)
    → Holds kind room capacity bytes last gs → is_some_and last (test bytes c) ≡ false → length c.statement < 65536 → c.signer < 256
    → length c.signature ≤ 16384
    → Grows kind (slice_set bytes 2 (slice_index bytes 2 + 1) ++ group_bytes (group_of c))
    (record { statement_at = length bytes + 2; count_at = length bytes + 2 + length c.statement; signer = c.signer }) (add gs c)
    × (length (add gs c) ≡ length gs + 1)
grows-begins kind room capacity bytes last gs c h none long byte short =
    let added : add gs c ≡ gs ++ group_of c ∷ [] = added-begins kind room capacity bytes last gs c h none in
    let fine : IsGroup (group_of c) = record {
      statement = long;
      some = omega arith;
      few = omega arith;
      signatures = (omega arith, byte, short, tt);
    } in
    let size : length bytes ≡ 3 + length (flat_map group_bytes gs) = ap length h.spelled ∙ omega arith in (
      record {
        spelled = ap (λ (x : List ℕ). slice_set x 2 (slice_index x 2 + 1) ++ group_bytes (group_of c)) h.spelled ∙ begins-spelled kind gs
            (group_of c) ∙ ap (whole kind) (sym added);
        each = subst (AllByRecursion IsGroup) (sym added) (all-more IsGroup gs (group_of c) h.each fine);
        ends = record {
          before = gs;
          statement = c.statement;
          earlier = [];
          signature = c.signature;
          parts = added;
          statement_at = omega (arith, size);
          count_at = refl;
        };
      },
      ap length added ∙ length-last gs (group_of c),
    )

-- the number of groups, as the bytes say it
pub holds-count : (kind room capacity : ℕ) (bytes : List ℕ) (last : Option Last) (gs : List Group) → Holds kind room capacity bytes last gs
    → slice_index bytes 2 ≡ length gs
holds-count kind room capacity bytes last gs h = ap (λ (x : List ℕ). slice_index x 2) h.spelled

-- ---- within the room

size-frame : (kind : ℕ) (bytes : List ℕ) (gs : List Group) → bytes ≡ whole kind gs → length (frame_bytes (Bundle gs)) ≡ length bytes
size-frame kind bytes gs e = sym (ap length e)

pub fits-false-size : (kind room : ℕ) (bytes : List ℕ) (last : Last) (gs : List Group) → Grows kind bytes last gs → room < length bytes
    → fits room gs ≡ false
fits-false-size kind room bytes last gs g size =
    let past = lt-leb (length (frame_bytes (Bundle gs))) room (omega (arith, size-frame kind bytes gs g.spelled)) in
    rw past (and-false _)

pub fits-false-count : (room : ℕ) (gs : List Group) → 255 < length gs → fits room gs ≡ false
fits-false-count room gs many = let count = lt-leb (length gs) 255 many in rw count refl

-- the bytes hold these groups within the room, and the rule says that they fit
pub record Taken (kind room capacity : ℕ) (bytes : List ℕ) (last : Last) (gs : List Group) : Type 0 where
  pub holds : Holds kind room capacity bytes (Some last) (groups_in bytes)
  pub groups : groups_in bytes ≡ gs
  pub fits : fits room gs ≡ true

pub taken : (kind room capacity capacity' : ℕ) (bytes bytes' : List ℕ) (last : Option Last) (last' : Last) (gs gs' : List Group)
    → Holds kind room capacity bytes last gs → Grows kind bytes' last' gs' → length gs' < 256 → length bytes' ≤ room → capacity ≤ capacity'
    → Taken kind room capacity' bytes' last' gs'
taken kind room capacity capacity' bytes bytes' last last' gs gs' h g few size kept =
    let same : groups_in bytes' ≡ gs' = groups_in-spelled bytes' kind gs' g.spelled g.each in
    let count = le-leb (length gs') 255 (omega arith) in
    let within = le-leb (length (frame_bytes (Bundle gs'))) room (omega (arith, size-frame kind bytes' gs' g.spelled)) in
    record {
      holds = subst (Holds kind room capacity' bytes' (Some last')) (sym same)
          (record {
            kinds = h.kinds;
            rooms = h.rooms;
            reserved = omega (arith, h.reserved);
            size = size;
            spelled = g.spelled;
            each = g.each;
            few = few;
            ends = g.ends;
          });
      groups = same;
      fits = rw (count, within) refl;
    }

-- ---- the steps of the code

-- what was chosen passes the test
chosen : (last : Option Last) (p : Last → Bool) (l : Last) → Some l ≡ (if is_some_and last p then last else None)
    → (last ≡ Some l) × (p l ≡ true)
chosen None p l e = absurd cc
chosen (Some m) p l e = chosen_of m (p m) refl e
  where
    chosen_of : (m : Last) (b : Bool) → p m ≡ b → Some l ≡ (if b then Some m else None) → (Some m ≡ Some l) × (p l ≡ true)
    chosen_of m true t e = let same : m ≡ l = cc in (sym e, ap p (sym same) ∙ t)
    chosen_of m false t e = absurd cc

not_chosen : (last : Option Last) (p : Last → Bool) → None ≡ (if is_some_and last p then last else None) → is_some_and last p ≡ false
not_chosen None p e = refl
not_chosen (Some m) p e = stays (p m) e
  where
    stays : (b : Bool) → None ≡ (if b then Some m else None) → b ≡ false
    stays true e = absurd cc
    stays false e = refl

length-text : (t : List ℕ) → length (text t) ≡ 2 + length t
length-text t = length-append (two_bytes (length t)) t

length-single : (c : Signed) → length (group_bytes (group_of c)) ≡ 6 + length c.statement + length c.signature
length-single c = length-append (text c.statement)
    (1 ∷ signature_bytes (c.signer, c.signature) ++ []) ∙ omega
    (arith, length-text c.statement, length-append (signature_bytes (c.signer, c.signature)) [], length-text c.signature)

pub record JoinsStep (kind : ℕ) (bytes : List ℕ) (last : Last) (gs : List Group) (c : Signed) : Type 0 where
  pub grows : Grows kind (slice_set bytes last.count_at (slice_index bytes last.count_at + 1) ++ signature_bytes (c.signer, c.signature))
      (record { statement_at = last.statement_at; count_at = last.count_at; signer = c.signer }) (add gs c)
  pub count : length (add gs c) ≡ length gs
  pub size : length (slice_set bytes last.count_at (slice_index bytes last.count_at + 1) ++ signature_bytes (c.signer, c.signature))
      ≡ length bytes + (3 + length c.signature)

pub joins_step : (kind room capacity : ℕ) (bytes seen : List ℕ) (o : Option Last) (last : Last) (gs : List Group) (c : Signed)
    → Holds kind room capacity bytes o gs → seen ≡ bytes → Some last ≡ (if is_some_and o (test seen c) then o else None) → c.signer < 256
    → length c.signature ≤ 16384 → JoinsStep kind bytes last gs c
joins_step kind room capacity bytes seen o last gs c h same e byte short =
    let p = chosen o (test seen c) last e in
    let step = grows-joins kind room capacity bytes last gs c (subst (λ (x : Option Last). Holds kind room capacity bytes x gs) p.0 h)
    (subst (λ (x : List ℕ). test x c last ≡ true) same p.1) byte short in
    record {
      grows = step.0;
      count = step.1;
      size = omega (
        arith,
        length-append (slice_set bytes last.count_at (slice_index bytes last.count_at + 1))
            (signature_bytes (c.signer, c.signature)),
        length-set bytes last.count_at (slice_index bytes last.count_at + 1),
        length-text c.signature,
      );
    }

pub record BeginsStep (kind : ℕ) (bytes : List ℕ) (gs : List Group) (c : Signed) : Type 0 where
  pub grows : Grows kind (slice_set bytes 2 (slice_index bytes 2 + 1) ++ group_bytes (group_of c))
      (record { statement_at = length bytes + 2; count_at = length bytes + 2 + length c.statement; signer = c.signer }) (add gs c)
  pub counted : 2 < length bytes
  pub count : length (add gs c) ≡ slice_index bytes 2 + 1
  pub size : length (slice_set bytes 2 (slice_index bytes 2 + 1) ++ group_bytes (group_of c))
      ≡ length bytes + (6 + length c.statement + length c.signature)

pub begins_step : (kind room capacity : ℕ) (bytes seen : List ℕ) (o : Option Last) (gs : List Group) (c : Signed)
    → Holds kind room capacity bytes o gs → seen ≡ bytes → None ≡ (if is_some_and o (test seen c) then o else None)
    → length c.statement < 65536 → c.signer < 256 → length c.signature ≤ 16384 → BeginsStep kind bytes gs c
begins_step kind room capacity bytes seen o gs c h same e long byte short =
    let none : is_some_and o (test bytes c)
    ≡ false = subst (λ (x : List ℕ). is_some_and o (test x c) ≡ false) same (not_chosen o (test seen c) e) in
    let step = grows-begins kind room capacity bytes o gs c h none long byte short in
    record {
      grows = step.0;
      counted = omega (arith, ap length h.spelled);
      count = step.1 ∙ ap (λ (n : ℕ). n + 1) (sym (holds-count kind room capacity bytes o gs h));
      size = length-append (slice_set bytes 2 (slice_index bytes 2 + 1))
          (group_bytes (group_of c)) ∙ omega (arith, length-set bytes 2 (slice_index bytes 2 + 1), length-single c);
    }

-- ---- the frame that was written

pub record Makes (bytes : List ℕ) (f : FrameView) : Type 0 where
  pub frame : IsFrame f
  pub spelled : bytes ≡ frame_bytes f
  pub again : frame_of bytes ≡ Ok f

makes : (bytes : List ℕ) (f : FrameView) → HasParts f → bytes ≡ frame_bytes f → length bytes ≤ 61000 → Makes bytes f
makes bytes f parts spelled size =
    let fine : IsFrame f = record { parts = parts; size = subst (λ (t : List ℕ). length t ≤ 61000) spelled size } in
    record { frame = fine; spelled = spelled; again = ap frame_of spelled ∙ frame_again f fine }

some-groups : (gs : List Group) → (gs ≡ [] → ⊥) → 0 < length gs
some-groups [] some = absurd (some refl)
some-groups (g ∷ gs) some = omega arith

pub holds-makes : (kind room capacity : ℕ) (bytes : List ℕ) (last : Option Last) (gs : List Group) → Holds kind room capacity bytes last gs
    → (gs ≡ [] → ⊥) → Makes bytes (drafted (record { kind = kind; room = room; groups = gs }))
holds-makes kind room capacity bytes last gs h some = of_kind (eqb kind 1) refl
  where
    size : length bytes ≤ 61000
    size = omega (arith, h.size, h.rooms)

    parts : AreGroups gs
    parts = record { some = some-groups gs some; few = h.few; each = h.each }

    of_kind : (b : Bool) → eqb kind 1 ≡ b → Makes bytes (if b then Bundle gs else Proof gs)
    of_kind true e = makes bytes (Bundle gs) parts (h.spelled ∙ ap (λ (k : ℕ). 1 ∷ k ∷ groups_bytes gs) (eqb-true kind 1 e)) size
    of_kind false e = let k : kind
        ≡ 2 = omega (arith, h.kinds, eqb-false kind 1 e) in makes bytes (Proof gs) parts
        (h.spelled ∙ ap (λ (n : ℕ). 1 ∷ n ∷ groups_bytes gs) k) size

-- a frame without groups
pub holds-empty : (kind room capacity : ℕ) (bytes : List ℕ) → (1 ≤ kind) × (kind ≤ 2) → (3 ≤ room) × (room ≤ 61000) → room ≤ capacity
    → bytes ≡ 1 ∷ kind ∷ 0 ∷ [] → Holds kind room capacity bytes None (groups_in bytes) × (groups_in bytes ≡ [])
holds-empty kind room capacity bytes kinds rooms reserved e =
    let same : groups_in bytes ≡ [] = groups_in-spelled bytes kind [] e tt in (
      subst (Holds kind room capacity bytes None) (sym same)
          (record {
            kinds = kinds;
            rooms = rooms;
            reserved = reserved;
            size = omega (arith, ap length e);
            spelled = e;
            each = tt;
            few = omega arith;
            ends = refl;
          }),
      same,
    )
