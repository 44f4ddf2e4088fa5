-- How long a header and an event are at most: where the bytes end within one, they are fewer.
use Rattle.std.proofs.Common.{◌≡◌, ℕ, zero, suc, ◌+◌, ◌*◌, ◌<◌, ◌≤◌, Bool, true, false, ltb, leb, eqb, List, [], ◌∷◌, ◌++◌, length, drop, Ok, Err, refl, arith, inl, inr}
use Rattle.std.specs.Prelude.{if◌then◌else◌, ◌&&◌, not, is_ok, Option, Some, None}
use Rattle.std.specs.Option.{ok_or}
use Rattle.std.specs.Int.{Width, w8, w16, w32, w64, byte_len}
use Rattle.std.proofs.lemmas.Bool.{cases_lt, lt-ltb, le-ltb, leb-true, and_parts}
use Rattle.std.proofs.lemmas.List.{length-drop}
use Rattle.byte_defs.specs.Fields.{◌>>=◌}
use Rattle.byte_defs.specs.Members.{has}
use Rattle.byte_defs.proofs.Fields.{IsBytes, IsBytes-drop, short_takes}
use Rattle.signature_defs.specs.Hss.{levels_in_range, height_in_range}
use Rattle.signature_defs.specs.declared.OtsType.{OtsType}
use Rattle.message_defs.specs.Limits.{most_members, most_messages}
use Rattle.message_defs.specs.Reading.{statement_of}
use Rattle.replay_defs.specs.declared.FaultKind.{FaultKind}
use Rattle.replay_defs.specs.declared.FaultKind.TheVariants as faults
use Rattle.replay_defs.specs.declared.Scheme.{Scheme}
use Rattle.replay_defs.specs.declared.Scheme.TheVariants as schemes
use Rattle.replay_defs.specs.Keys.{Plain, Lms, Hss, is_from, ots_for}
use Rattle.replay_defs.specs.Schedules.{Listed, Header, ScheduleEvent, Submit, Raw, Pass, Drain, Lie, Suspect, Join, Renew, Tick, is_listed, most_processes, most_raw_bytes}
use Rattle.replay_defs.specs.Reading.{Step, Roles, fault_at, byte_at, wide_at, field_at, known, passing, tested, byte_that, process_that, text_at, ots_at, tree_at, plain_at, lms_at, hss_at, key_at, version_by, scheme_by, limit_at, listed_at, all_listed_at, processes_at, members_at, genesis_at, setting_at, header_at, other_at, correct_at, submit_at, raw_at, pass_at, drain_at, lie_at, about_at, alone_at, fields_at, steps_at, tag_at, event_at}
use Rattle.replay_defs.specs.Pieces.{IsShort}
use Rattle.schedule_laws.proofs.Steps.{tested_ok, byte_that_takes}

-- A step reads so many bytes at most, and where they end within it, there are fewer.
abbrev pub Spans : {A : Type 0} → ℕ → List ℕ → Step A → Type 0
Spans n bytes (Ok x) = (length bytes ≤ length x.1 + n) × IsBytes x.1
Spans n bytes (Err found) = found.kind ≡ faults.Short → length bytes < n

abbrev pub IsWithin : {A : Type 0} → ℕ → (List ℕ → Step A) → Type 0
IsWithin n step = (bytes : List ℕ) → IsBytes bytes → Spans n bytes (step bytes)

pub fewer_where_short : {A : Type 0} (n : ℕ) (bytes : List ℕ) (read : Step A) → Spans n bytes read → IsShort read → length bytes < n
fewer_where_short n bytes (Ok x) spans short = absurd short
fewer_where_short n bytes (Err found) spans short = spans short

-- ---- one step after another

wider : {A : Type 0} (n m : ℕ) (bytes : List ℕ) (read : Step A) → n ≤ m → Spans n bytes read → Spans m bytes read
wider n m bytes (Ok x) le spans = (omega (arith, spans.0), spans.1)
wider n m bytes (Err found) le spans = λ short. omega (arith, spans short)

wider_within : {A : Type 0} (n m : ℕ) (step : List ℕ → Step A) → n ≤ m → IsWithin n step → IsWithin m step
wider_within n m step le within bytes fits = wider n m bytes (step bytes) le (within bytes fits)

behind : {B : Type 0} (n m : ℕ) (bytes rest : List ℕ) (read : Step B) → length bytes ≤ length rest + n → Spans m rest read
    → Spans (n + m) bytes read
behind n m bytes rest (Ok y) le spans = (omega (arith, spans.0), spans.1)
behind n m bytes rest (Err found) le spans = λ short. omega (arith, spans short)

then_spans : {A B : Type 0} (n m : ℕ) (bytes : List ℕ) (first : Step A) (k : A → List ℕ → Step B) → Spans n bytes first
    → ((a : A) (rest : List ℕ) → first ≡ Ok (a, rest) → IsBytes rest → Spans m rest (k a rest))
    → Spans (n + m) bytes (first >>= λ x. k x.0 x.1)
then_spans n m bytes (Ok x) k spans next = behind n m bytes x.1 (k x.0 x.1) spans.0 (next x.0 x.1 refl spans.1)
then_spans n m bytes (Err found) k spans next = λ short. omega (arith, spans short)

then_within : {A B : Type 0} (n m : ℕ) (step : List ℕ → Step A) (k : A → List ℕ → Step B) → IsWithin n step → ((a : A) → IsWithin m (k a))
    → IsWithin (n + m) (λ bytes. step bytes >>= λ x. k x.0 x.1)
then_within n m step k first next bytes fits = then_spans n m bytes (step bytes) k (first bytes fits) (λ a rest e. next a rest)

done_within : {A : Type 0} (a : A) → IsWithin 0 (λ bytes. Ok (a, bytes))
done_within a bytes fits = (omega arith, fits)

either_within : {A : Type 0} (n : ℕ) (b : Bool) (one other : List ℕ → Step A) → IsWithin n one → IsWithin n other
    → IsWithin n (λ bytes. if b then one bytes else other bytes)
either_within n true one other s t = s
either_within n false one other s t = t

-- ---- tables and tests

-- no field was cut off
abbrev IsOther : FaultKind → Type 0
IsOther kind = kind ≡ faults.Short → ⊥

answer_spans : {B : Type 0} (kind : FaultKind) (n : ℕ) (bytes rest : List ℕ) (o : Option B) → IsOther kind → length bytes ≤ length rest + n
    → IsBytes rest
    → Spans n bytes (ok_or o (fault_at kind bytes) >>= λ is. Ok (is, rest))
answer_spans kind n bytes rest None other le fits = λ short. absurd (other short)
answer_spans kind n bytes rest (Some b) other le fits = (le, fits)

known_spans : {A B : Type 0} (table : A → Option B) (kind : FaultKind) (n : ℕ) (bytes : List ℕ) (read : Step A) → IsOther kind
    → Spans n bytes read
    → Spans n bytes (read >>= λ r. ok_or (table r.0) (fault_at kind bytes) >>= λ is. Ok (is, r.1))
known_spans table kind n bytes (Ok x) other spans = answer_spans kind n bytes x.1 (table x.0) other spans.0 spans.1
known_spans table kind n bytes (Err found) other spans = spans

known_within : {A B : Type 0} (table : A → Option B) (kind : FaultKind) (n : ℕ) (step : List ℕ → Step A) → IsOther kind → IsWithin n step
    → IsWithin n (known table kind step)
known_within table kind n step other within bytes fits = known_spans table kind n bytes (step bytes) other (within bytes fits)

-- ---- fields

wide_within : (w : Width) → IsWithin (byte_len w) (wide_at w)
wide_within w bytes fits =
    elim (cases_lt (length bytes) (byte_len w)) [
      | inl lt ↦ let ends : ltb (length bytes) (byte_len w) ≡ true = lt-ltb _ _ lt in rw ends (λ short. lt)
      | inr le ↦ let here : ltb (length bytes) (byte_len w)
          ≡ false = le-ltb _ _ le in rw here (omega (arith, length-drop (byte_len w) bytes), IsBytes-drop (byte_len w) bytes fits)
    ]

field_within : (n : ℕ) → IsWithin n (field_at n)
field_within n bytes fits =
    elim (cases_lt (length bytes) n) [
      | inl lt ↦ let ends : ltb (length bytes) n ≡ true = lt-ltb _ _ lt in rw ends (λ short. lt)
      | inr le ↦ let here : ltb (length bytes) n
          ≡ false = le-ltb _ _ le in rw here (omega (arith, length-drop n bytes), IsBytes-drop n bytes fits)
    ]

byte_within : (test : ℕ → Bool) (kind : FaultKind) → IsOther kind → IsWithin 1 (byte_that test kind)
unfolding byte_that
byte_within test kind other = known_within (passing test) kind 1 byte_at other (wide_within w8)

process_within : (test : ℕ → Bool) (kind : FaultKind) → IsOther kind → IsWithin 1 (process_that test kind)
unfolding process_that
process_within test kind other = byte_within (λ p. leb p 63 && test p) kind other

-- so many bytes, of which a field before tells how many
text_within : (most : ℕ) → IsWithin (2 + most) (text_at most)
unfolding text_at
text_within most bytes fits =
    let len : Step ℕ = tested (λ n. leb n most) faults.Field (wide_at w16) bytes in
    then_spans 2 most bytes len (λ n r. field_at n r)
    (known_within (passing (λ n. leb n most)) faults.Field 2 (wide_at w16) (λ e. absurd cc) (wide_within w16) bytes fits)
    (λ n rest e rest_fits.
    wider n most rest (field_at n rest) (leb-true n most (tested_ok (λ n. leb n most) faults.Field (wide_at w16) bytes (n, rest) e).1)
    (field_within n rest rest_fits))

-- ---- keys

ots_within : (levels : ℕ) → IsWithin 1 (ots_at levels)
unfolding ots_at
ots_within levels = known_within (ots_for levels) faults.Key 1 byte_at (λ e. absurd cc) (wide_within w8)

tree_within : (levels : ℕ) → IsWithin 50 (tree_at levels)
unfolding tree_at
tree_within levels =
    then_within 1 49 (byte_that (height_in_range levels) faults.Key)
    (λ code r. ots_at levels r >>= λ kind. field_at 16 kind.1 >>= λ id. field_at 32 id.1 >>= λ seed. Ok
    ((code, kind.0, id.0, seed.0), seed.1)) (byte_within (height_in_range levels) faults.Key (λ e. absurd cc)) (λ code.
    then_within 1 48 (ots_at levels)
    (λ kind r. field_at 16 r >>= λ id. field_at 32 id.1 >>= λ seed. Ok ((code, kind, id.0, seed.0), seed.1)) (ots_within levels) (λ kind.
    then_within 16 32 (field_at 16) (λ id r. field_at 32 r >>= λ seed. Ok ((code, kind, id, seed.0), seed.1)) (field_within 16) (λ id.
    then_within 32 0 (field_at 32) (λ seed r. Ok ((code, kind, id, seed), r)) (field_within 32)
    (λ seed. done_within {A = ℕ × OtsType × List ℕ × List ℕ} (code, kind, id, seed)))))

plain_within : IsWithin 36 plain_at
unfolding plain_at
plain_within =
    then_within 32 4 (field_at 32) (λ key r. wide_at w32 r >>= λ total. Ok (Plain key total.0, total.1)) (field_within 32) (λ key.
    then_within 4 0 (wide_at w32) (λ total r. Ok (Plain key total, r)) (wide_within w32) (λ total. done_within (Plain key total)))

lms_within : IsWithin 50 lms_at
unfolding lms_at
lms_within = then_within 50 0 (tree_at 1) (λ t r. Ok (Lms t.0 t.1 t.2 t.3, r)) (tree_within 1) (λ t. done_within (Lms t.0 t.1 t.2 t.3))

hss_within : IsWithin 51 hss_at
unfolding hss_at
hss_within =
    then_within 1 50 (byte_that levels_in_range faults.Key)
    (λ levels r. tree_at levels r >>= λ t. Ok (Hss levels t.0.0 t.0.1 t.0.2 t.0.3, t.1))
    (byte_within levels_in_range faults.Key (λ e. absurd cc)) (λ levels.
    then_within 50 0 (tree_at levels) (λ t r. Ok (Hss levels t.0 t.1 t.2 t.3, r)) (tree_within levels)
    (λ t. done_within (Hss levels t.0 t.1 t.2 t.3)))

key_within : (scheme : Scheme) → IsWithin 51 (key_at scheme)
unfolding key_at
key_within schemes.Plain = wider_within 36 51 plain_at (omega arith) plain_within
key_within schemes.Lms = wider_within 50 51 lms_at (omega arith) lms_within
key_within schemes.Hss = hss_within

-- ---- the header

limit_within : (version : ℕ) → IsWithin 1 (limit_at version)
unfolding limit_at
limit_within version =
    either_within 1 (eqb version 3) (byte_that (is_from 2 most_messages) faults.Field) (λ bytes. Ok (1, bytes))
    (byte_within (is_from 2 most_messages) faults.Field (λ e. absurd cc))
    (wider_within {A = ℕ} 0 1 (λ bytes. Ok (1, bytes)) (omega arith) (done_within {A = ℕ} 1))

abbrev is_role : ℕ → Bool
is_role n = is_from 0 1 n

listed_within : (scheme : Scheme) (least : ℕ) → IsWithin 53 (listed_at scheme least)
unfolding listed_at
listed_within scheme least =
    then_within 1 52 (process_that (leb least) faults.Roster)
    (λ p r. byte_that is_role faults.Roster r >>= λ role. key_at scheme role.1 >>= λ key. Ok
    (record { process = p; corrupt = eqb role.0 1; key = key.0 }, key.1)) (process_within (leb least) faults.Roster (λ e. absurd cc))
    (λ p.
    then_within 1 51 (byte_that is_role faults.Roster)
    (λ role r. key_at scheme r >>= λ key. Ok (record { process = p; corrupt = eqb role 1; key = key.0 }, key.1))
    (byte_within is_role faults.Roster (λ e. absurd cc)) (λ role.
    then_within 51 0 (key_at scheme) (λ key r. Ok (record { process = p; corrupt = eqb role 1; key = key }, r)) (key_within scheme)
    (λ key. done_within {A = Listed} (record { process = p; corrupt = eqb role 1; key = key }))))

all_listed_within : (n : ℕ) (scheme : Scheme) (least : ℕ) → IsWithin (n * 53) (all_listed_at n scheme least)
unfolding all_listed_at
all_listed_within zero scheme least = done_within {A = List Listed} []
all_listed_within (suc n) scheme least =
    wider_within (53 + (n * 53 + 0)) (suc n * 53)
    (λ bytes. listed_at scheme least bytes >>= λ first. all_listed_at n scheme (first.0.process + 1) first.1 >>= λ others. Ok
    (first.0 ∷ others.0, others.1)) (omega arith)
    (then_within 53 (n * 53 + 0) (listed_at scheme least)
    (λ first r. all_listed_at n scheme (first.process + 1) r >>= λ others. Ok (first ∷ others.0, others.1)) (listed_within scheme least)
    (λ first.
    then_within (n * 53) 0 (all_listed_at n scheme (first.process + 1)) (λ others r. Ok (first ∷ others, r))
    (all_listed_within n scheme (first.process + 1)) (λ others. done_within {A = List Listed} (first ∷ others))))

processes_within : (scheme : Scheme) → IsWithin 3393 (processes_at scheme)
unfolding processes_at
processes_within scheme bytes fits =
    then_spans 1 3392 bytes (byte_that (is_from 1 most_processes) faults.Roster bytes) (λ count r. all_listed_at count scheme 0 r)
    (byte_within (is_from 1 most_processes) faults.Roster (λ e. absurd cc) bytes fits) (λ count rest e rest_fits.
    let range = and_parts (leb 1 count) (leb count 64)
    (byte_that_takes (is_from 1 most_processes) faults.Roster bytes (count, rest) fits e).2 in
    let few : count ≤ 64 = leb-true count 64 range.1 in
    wider (count * 53) 3392 rest (all_listed_at count scheme 0 rest) (omega arith) (all_listed_within count scheme 0 rest rest_fits))

members_within : (n : ℕ) (listed : ℕ → Bool) (before : List ℕ) → IsWithin n (members_at n listed before)
unfolding members_at
members_within zero listed before = done_within before
members_within (suc n) listed before =
    wider_within (1 + n) (suc n) (λ bytes. process_that
    (λ m. listed m && not (has before m)) faults.Roster bytes >>= λ first. members_at n listed (before ++ first.0 ∷ []) first.1)
    (omega arith)
    (then_within 1 n (process_that (λ m. listed m && not (has before m)) faults.Roster)
    (λ first r. members_at n listed (before ++ first ∷ []) r)
    (process_within (λ m. listed m && not (has before m)) faults.Roster (λ e. absurd cc)) (λ first.
    members_within n listed (before ++ first ∷ [])))

genesis_within : (listed : ℕ → Bool) → IsWithin 17 (genesis_at listed)
unfolding genesis_at
genesis_within listed bytes fits =
    then_spans 1 16 bytes (byte_that (is_from 1 most_members) faults.Roster bytes) (λ count r. members_at count listed [] r)
    (byte_within (is_from 1 most_members) faults.Roster (λ e. absurd cc) bytes fits) (λ count rest e rest_fits.
    let range = and_parts (leb 1 count) (leb count 16)
    (byte_that_takes (is_from 1 most_members) faults.Roster bytes (count, rest) fits e).2 in
    wider count 16 rest (members_at count listed [] rest) (leb-true count 16 range.1) (members_within count listed [] rest rest_fits))

setting_within : IsWithin 22 setting_at
unfolding setting_at
setting_within =
    then_within 4 18 (known version_by faults.Magic (field_at 4))
    (λ v r. known (scheme_by v) faults.Scheme byte_at r >>= λ s. limit_at v s.1 >>= λ limit. field_at 16 limit.1 >>= λ group. Ok
    ((s.0, limit.0, group.0), group.1)) (known_within version_by faults.Magic 4 (field_at 4) (λ e. absurd cc) (field_within 4)) (λ v.
    then_within 1 17 (known (scheme_by v) faults.Scheme byte_at)
    (λ s r. limit_at v r >>= λ limit. field_at 16 limit.1 >>= λ group. Ok ((s, limit.0, group.0), group.1))
    (known_within (scheme_by v) faults.Scheme 1 byte_at (λ e. absurd cc) (wide_within w8)) (λ s.
    then_within 1 16 (limit_at v) (λ limit r. field_at 16 r >>= λ group. Ok ((s, limit, group.0), group.1)) (limit_within v) (λ limit.
    then_within 16 0 (field_at 16) (λ group r. Ok ((s, limit, group), r)) (field_within 16)
    (λ group. done_within {A = Scheme × ℕ × List ℕ} (s, limit, group)))))

pub header_within : IsWithin 3432 header_at
unfolding header_at
header_within =
    then_within 22 3410 setting_at
    (λ s r. processes_at s.0 r >>= λ ls. genesis_at (is_listed ls.0) ls.1 >>= λ genesis. Ok
    (record { scheme = s.0; batch_limit = s.1; group = s.2; processes = ls.0; genesis = genesis.0 }, genesis.1)) setting_within (λ s.
    then_within 3393 17 (processes_at s.0)
    (λ ls r. genesis_at (is_listed ls) r >>= λ genesis. Ok
    (record { scheme = s.0; batch_limit = s.1; group = s.2; processes = ls; genesis = genesis.0 }, genesis.1)) (processes_within s.0)
    (λ ls.
    then_within 17 0 (genesis_at (is_listed ls))
    (λ genesis r. Ok (record { scheme = s.0; batch_limit = s.1; group = s.2; processes = ls; genesis = genesis }, r))
    (genesis_within (is_listed ls)) (λ genesis.
    done_within {A = Header} (record { scheme = s.0; batch_limit = s.1; group = s.2; processes = ls; genesis = genesis }))))

-- ---- events

other_within : IsWithin 1 other_at
unfolding other_at
other_within = byte_within (λ p. leb p 63) faults.Field (λ e. absurd cc)

abbrev is_statement : List ℕ → Bool
is_statement bytes = is_ok (statement_of bytes)

-- the longest fields are those of a Lie
abbrev most_fields : ℕ
most_fields = 65546

module _ (roles : Roles) where
  correct_within : IsWithin 1 (correct_at roles)
  correct_within = process_within roles.correct faults.Field (λ e. absurd cc)

  submit_within : IsWithin most_fields (submit_at roles)
  unfolding submit_at
  submit_within =
      wider_within 65538 65546 (λ bytes. correct_at roles bytes >>= λ p. text_at 65535 p.1 >>= λ t. Ok (Submit p.0 t.0, t.1)) (omega arith)
      (then_within 1 65537 (correct_at roles) (λ p r. text_at 65535 r >>= λ t. Ok (Submit p t.0, t.1)) correct_within (λ p.
      then_within 65537 0 (text_at 65535) (λ t r. Ok (Submit p t, r)) (text_within 65535) (λ t. done_within (Submit p t))))

  raw_within : IsWithin most_fields (raw_at roles)
  unfolding raw_at
  raw_within =
      wider_within 61444 65546 (λ bytes. correct_at roles bytes >>= λ p. other_at p.1 >>= λ q. text_at most_raw_bytes q.1 >>= λ t. Ok
      (Raw p.0 q.0 t.0, t.1)) (omega arith)
      (then_within 1 61443 (correct_at roles)
      (λ p r. other_at r >>= λ q. text_at most_raw_bytes q.1 >>= λ t. Ok (Raw p q.0 t.0, t.1)) correct_within (λ p.
      then_within 1 61442 other_at (λ q r. text_at most_raw_bytes r >>= λ t. Ok (Raw p q t.0, t.1)) other_within (λ q.
      then_within 61442 0 (text_at most_raw_bytes) (λ t r. Ok (Raw p q t, r)) (text_within most_raw_bytes) (λ t. done_within (Raw p q t)))))

  pass_within : IsWithin most_fields (pass_at roles)
  unfolding pass_at
  pass_within =
      wider_within 5 65546 (λ bytes. wide_at w32 bytes >>= λ k. correct_at roles k.1 >>= λ p. Ok (Pass k.0 p.0, p.1)) (omega arith)
      (then_within 4 1 (wide_at w32) (λ k r. correct_at roles r >>= λ p. Ok (Pass k p.0, p.1)) (wide_within w32) (λ k.
      then_within 1 0 (correct_at roles) (λ p r. Ok (Pass k p, r)) correct_within (λ p. done_within (Pass k p))))

  drain_within : IsWithin most_fields (drain_at roles)
  unfolding drain_at
  drain_within =
      wider_within 12 65546 (λ bytes. wide_at w32 bytes >>= λ n. wide_at w64 n.1 >>= λ mask. Ok (Drain n.0 mask.0, mask.1)) (omega arith)
      (then_within 4 8 (wide_at w32) (λ n r. wide_at w64 r >>= λ mask. Ok (Drain n mask.0, mask.1)) (wide_within w32) (λ n.
      then_within 8 0 (wide_at w64) (λ mask r. Ok (Drain n mask, r)) (wide_within w64) (λ mask. done_within (Drain n mask))))

  -- a statement and its length
  lied_within : (p mask : ℕ) → IsWithin 65537
      (λ r. wide_at w16 r >>= λ len. tested is_statement faults.Field (field_at len.0) len.1 >>= λ st. Ok (Lie p mask st.0, st.1))
  lied_within p mask bytes fits =
      then_spans 2 65535 bytes (wide_at w16 bytes)
      (λ len r. tested is_statement faults.Field (field_at len) r >>= λ st. Ok (Lie p mask st.0, st.1)) (wide_within w16 bytes fits)
      (λ len rest e rest_fits.
      let range = short_takes (fault_at faults.Short bytes) bytes len rest fits e in
      wider (len + 0) 65535 rest (tested is_statement faults.Field (field_at len) rest >>= λ st. Ok (Lie p mask st.0, st.1))
      (omega (arith, range.1))
      (then_within len 0 (tested is_statement faults.Field (field_at len)) (λ st r. Ok (Lie p mask st, r))
      (known_within (passing is_statement) faults.Field len (field_at len) (λ e. absurd cc) (field_within len))
      (λ st. done_within (Lie p mask st)) rest rest_fits))

  lie_within : IsWithin most_fields (lie_at roles)
  unfolding lie_at
  lie_within =
      then_within 1 65545 (process_that roles.corrupt faults.Field)
      (λ p r. wide_at w64 r >>= λ mask. wide_at w16 mask.1 >>= λ len. tested is_statement faults.Field (field_at len.0) len.1 >>= λ st. Ok
      (Lie p mask.0 st.0, st.1)) (process_within roles.corrupt faults.Field (λ e. absurd cc)) (λ p.
      then_within 8 65537 (wide_at w64)
      (λ mask r. wide_at w16 r >>= λ len. tested is_statement faults.Field (field_at len.0) len.1 >>= λ st. Ok (Lie p mask st.0, st.1))
      (wide_within w64) (λ mask. lied_within p mask))

  about_within : (kind : ℕ → ℕ → ScheduleEvent) → IsWithin most_fields (about_at roles kind)
  unfolding about_at
  about_within kind =
      wider_within 2 65546 (λ bytes. correct_at roles bytes >>= λ p. other_at p.1 >>= λ q. Ok (kind p.0 q.0, q.1)) (omega arith)
      (then_within 1 1 (correct_at roles) (λ p r. other_at r >>= λ q. Ok (kind p q.0, q.1)) correct_within (λ p.
      then_within 1 0 other_at (λ q r. Ok (kind p q, r)) other_within (λ q. done_within (kind p q))))

  alone_within : (kind : ℕ → ScheduleEvent) → IsWithin most_fields (alone_at roles kind)
  unfolding alone_at
  alone_within kind =
      wider_within 1 65546 (λ bytes. correct_at roles bytes >>= λ p. Ok (kind p.0, p.1)) (omega arith)
      (then_within 1 0 (correct_at roles) (λ p r. Ok (kind p, r)) correct_within (λ p. done_within (kind p)))

  -- the fields by the tag, from the last kinds on
  abbrev from_8 : ℕ → List ℕ → Step ScheduleEvent
  from_8 tag r = if eqb tag 8 then alone_at roles Renew r else alone_at roles Tick r

  abbrev from_7 : ℕ → List ℕ → Step ScheduleEvent
  from_7 tag r = if eqb tag 7 then about_at roles Join r else from_8 tag r

  abbrev from_6 : ℕ → List ℕ → Step ScheduleEvent
  from_6 tag r = if eqb tag 6 then about_at roles Suspect r else from_7 tag r

  abbrev from_5 : ℕ → List ℕ → Step ScheduleEvent
  from_5 tag r = if eqb tag 5 then lie_at roles r else from_6 tag r

  abbrev from_4 : ℕ → List ℕ → Step ScheduleEvent
  from_4 tag r = if eqb tag 4 then drain_at roles r else from_5 tag r

  abbrev from_3 : ℕ → List ℕ → Step ScheduleEvent
  from_3 tag r = if eqb tag 3 then pass_at roles r else from_4 tag r

  abbrev from_2 : ℕ → List ℕ → Step ScheduleEvent
  from_2 tag r = if eqb tag 2 then raw_at roles r else from_3 tag r

  fields_within : (tag : ℕ) → IsWithin most_fields (fields_at roles tag)
  unfolding fields_at
  fields_within tag =
      let within_8 = either_within most_fields (eqb tag 8) (alone_at roles Renew) (alone_at roles Tick) (alone_within Renew)
      (alone_within Tick) in
      let within_7 = either_within most_fields (eqb tag 7) (about_at roles Join) (from_8 tag) (about_within Join) within_8 in
      let within_6 = either_within most_fields (eqb tag 6) (about_at roles Suspect) (from_7 tag) (about_within Suspect) within_7 in
      let within_5 = either_within most_fields (eqb tag 5) (lie_at roles) (from_6 tag) lie_within within_6 in
      let within_4 = either_within most_fields (eqb tag 4) (drain_at roles) (from_5 tag) drain_within within_5 in
      let within_3 = either_within most_fields (eqb tag 3) (pass_at roles) (from_4 tag) pass_within within_4 in
      let within_2 = either_within most_fields (eqb tag 2) (raw_at roles) (from_3 tag) raw_within within_3 in
      either_within most_fields (eqb tag 1) (submit_at roles) (from_2 tag) submit_within within_2

  steps_within : (tag : ℕ) → IsWithin 4 (steps_at tag)
  unfolding steps_at
  steps_within tag = either_within 4 (eqb tag 4) (wide_at w32) (λ bytes. Ok (1, bytes)) (wide_within w32)
      (wider_within {A = ℕ} 0 4 (λ bytes. Ok (1, bytes)) (omega arith) (done_within {A = ℕ} 1))

  -- the number of steps is read and left where it stands
  counted_spans : (bytes : List ℕ) (tag : ℕ) (rest : List ℕ) (steps : Step ℕ) → length bytes ≤ length rest + 1 → IsBytes rest
      → Spans 4 rest steps → Spans {A = ℕ × ℕ} 5 bytes (steps >>= λ n. Ok ((tag, n.0), rest))
  counted_spans bytes tag rest (Ok n) le fits spans = (omega arith, fits)
  counted_spans bytes tag rest (Err found) le fits spans = λ short. omega (arith, spans short)

  tag_spans : (bytes : List ℕ) (read : Step ℕ) → Spans 1 bytes read
      → Spans {A = ℕ × ℕ} 5 bytes (read >>= λ tag. steps_at tag.0 tag.1 >>= λ steps. Ok ((tag.0, steps.0), tag.1))
  tag_spans bytes (Ok tag) spans = counted_spans bytes tag.0 tag.1 (steps_at tag.0 tag.1) spans.0 spans.1 (steps_within tag.0 tag.1 spans.1)
  tag_spans bytes (Err found) spans = λ short. omega (arith, spans short)

  abbrev is_tag : ℕ → Bool
  is_tag tag = is_from 1 9 tag

  tag_within : IsWithin 5 tag_at
  unfolding tag_at
  tag_within bytes fits = tag_spans bytes (byte_that is_tag faults.Tag bytes) (byte_within is_tag faults.Tag (λ e. absurd cc) bytes fits)

  pub event_within : (left : ℕ) → IsWithin 65551 (event_at roles left)
  unfolding event_at
  event_within left =
      then_within 5 most_fields (tested (λ tag. leb tag.1 left) faults.TooMany tag_at) (λ tag r. fields_at roles tag.0 r)
      (known_within (passing (λ tag. leb tag.1 left)) faults.TooMany 5 tag_at (λ e. absurd cc) tag_within) (λ tag. fields_within tag.0)
