-- Bytes behind a header or an event change nothing of it.
use Rattle.std.proofs.Common.{◌≡◌, ℕ, zero, suc, ◌+◌, Bool, true, false, eqb, leb, List, [], ◌∷◌, ◌++◌, length, take, drop, ◌<◌, ◌≤◌, ltb, Ok, Err, refl, ap, subst, arith, inl, inr}
use Rattle.std.proofs.lemmas.Bool.{ltb-false}
use Rattle.std.proofs.lemmas.List.{length-drop}
use Rattle.std.specs.Prelude.{if◌then◌else◌, ◌&&◌, not, is_ok}
use Rattle.std.specs.Int.{from_be_bytes, w8, w16, w32, w64}
use Rattle.byte_defs.specs.Fields.{◌>>=◌}
use Rattle.byte_defs.proofs.Fields.{bind_ok, guard_ok, ok_is}
use Rattle.byte_defs.specs.Members.{has}
use Rattle.signature_defs.specs.Hss.{levels_in_range, height_in_range}
use Rattle.message_defs.specs.Limits.{most_members, most_messages}
use Rattle.message_defs.specs.Reading.{statement_of}
use Rattle.replay_defs.specs.declared.FaultKind.TheVariants as faults
use Rattle.replay_defs.specs.declared.Scheme.{Scheme}
use Rattle.replay_defs.specs.declared.Scheme.TheVariants as schemes
use Rattle.replay_defs.specs.Keys.{Plain, Lms, Hss, is_from, ots_for}
use Rattle.replay_defs.specs.Schedules.{ScheduleEvent, Submit, Raw, Pass, Drain, Lie, Suspect, Join, Renew, Tick, is_listed, most_processes, most_raw_bytes}
use Rattle.replay_defs.specs.Reading.{Step, Roles, fault_at, byte_at, wide_at, field_at, known, passing, tested, byte_that, process_that, text_at, ots_at, tree_at, plain_at, lms_at, hss_at, key_at, version_by, scheme_by, limit_at, listed_at, all_listed_at, processes_at, members_at, genesis_at, setting_at, header_at, other_at, correct_at, submit_at, raw_at, pass_at, drain_at, lie_at, about_at, alone_at, fields_at, steps_at, tag_at, event_at}
use Rattle.schedule_laws.proofs.Steps.{tested_ok, Goes, IsStable, done_stable, then_stable, known_stable, wide_stable, field_stable, byte_that_stable, process_that_stable, text_stable}

-- the one or the other
either_stable : {A : Type 0} (b : Bool) (one other : List ℕ → Step A) → IsStable one → IsStable other
    → IsStable (λ bytes. if b then one bytes else other bytes)
either_stable true one other s t = s
either_stable false one other s t = t

-- ---- keys

ots_stable : (levels : ℕ) → IsStable (ots_at levels)
unfolding ots_at
ots_stable levels = known_stable (ots_for levels) faults.Key byte_at (wide_stable w8)

tree_stable : (levels : ℕ) → IsStable (tree_at levels)
unfolding tree_at
tree_stable levels =
    then_stable (byte_that (height_in_range levels) faults.Key)
    (λ code r. ots_at levels r >>= λ kind. field_at 16 kind.1 >>= λ id. field_at 32 id.1 >>= λ seed. Ok
    ((code, kind.0, id.0, seed.0), seed.1)) (byte_that_stable (height_in_range levels) faults.Key) (λ code.
    then_stable (ots_at levels) (λ kind r. field_at 16 r >>= λ id. field_at 32 id.1 >>= λ seed. Ok ((code, kind, id.0, seed.0), seed.1))
    (ots_stable levels) (λ kind.
    then_stable (field_at 16) (λ id r. field_at 32 r >>= λ seed. Ok ((code, kind, id, seed.0), seed.1)) (field_stable 16) (λ id.
    then_stable (field_at 32) (λ seed r. Ok ((code, kind, id, seed), r)) (field_stable 32) (λ seed. done_stable (code, kind, id, seed)))))

plain_stable : IsStable plain_at
unfolding plain_at
plain_stable =
    then_stable (field_at 32) (λ key r. wide_at w32 r >>= λ total. Ok (Plain key total.0, total.1)) (field_stable 32) (λ key.
    then_stable (wide_at w32) (λ total r. Ok (Plain key total, r)) (wide_stable w32) (λ total. done_stable (Plain key total)))

lms_stable : IsStable lms_at
unfolding lms_at
lms_stable = then_stable (tree_at 1) (λ t r. Ok (Lms t.0 t.1 t.2 t.3, r)) (tree_stable 1) (λ t. done_stable (Lms t.0 t.1 t.2 t.3))

hss_stable : IsStable hss_at
unfolding hss_at
hss_stable =
    then_stable (byte_that levels_in_range faults.Key) (λ levels r. tree_at levels r >>= λ t. Ok (Hss levels t.0.0 t.0.1 t.0.2 t.0.3, t.1))
    (byte_that_stable levels_in_range faults.Key) (λ levels.
    then_stable (tree_at levels) (λ t r. Ok (Hss levels t.0 t.1 t.2 t.3, r)) (tree_stable levels)
    (λ t. done_stable (Hss levels t.0 t.1 t.2 t.3)))

key_stable : (scheme : Scheme) → IsStable (key_at scheme)
unfolding key_at
key_stable schemes.Plain = plain_stable
key_stable schemes.Lms = lms_stable
key_stable schemes.Hss = hss_stable

-- ---- the header

limit_stable : (version : ℕ) → IsStable (limit_at version)
unfolding limit_at
limit_stable version = either_stable (eqb version 3) (byte_that (is_from 2 most_messages) faults.Field) (λ bytes. Ok (1, bytes))
    (byte_that_stable (is_from 2 most_messages) faults.Field) (done_stable 1)

abbrev is_role : ℕ → Bool
is_role n = is_from 0 1 n

listed_stable : (scheme : Scheme) (least : ℕ) → IsStable (listed_at scheme least)
unfolding listed_at
listed_stable scheme least =
    then_stable (process_that (leb least) faults.Roster)
    (λ p r. byte_that is_role faults.Roster r >>= λ role. key_at scheme role.1 >>= λ key. Ok
    (record { process = p; corrupt = eqb role.0 1; key = key.0 }, key.1)) (process_that_stable (leb least) faults.Roster) (λ p.
    then_stable (byte_that is_role faults.Roster)
    (λ role r. key_at scheme r >>= λ key. Ok (record { process = p; corrupt = eqb role 1; key = key.0 }, key.1))
    (byte_that_stable is_role faults.Roster) (λ role.
    then_stable (key_at scheme) (λ key r. Ok (record { process = p; corrupt = eqb role 1; key = key }, r)) (key_stable scheme)
    (λ key. done_stable (record { process = p; corrupt = eqb role 1; key = key }))))

all_listed_stable : (n : ℕ) (scheme : Scheme) (least : ℕ) → IsStable (all_listed_at n scheme least)
unfolding all_listed_at
all_listed_stable zero scheme least = done_stable []
all_listed_stable (suc n) scheme least =
    then_stable (listed_at scheme least)
    (λ first r. all_listed_at n scheme (first.process + 1) r >>= λ others. Ok (first ∷ others.0, others.1)) (listed_stable scheme least)
    (λ first.
    then_stable (all_listed_at n scheme (first.process + 1)) (λ others r. Ok (first ∷ others, r))
    (all_listed_stable n scheme (first.process + 1)) (λ others. done_stable (first ∷ others)))

processes_stable : (scheme : Scheme) → IsStable (processes_at scheme)
unfolding processes_at
processes_stable scheme =
    then_stable (byte_that (is_from 1 most_processes) faults.Roster) (λ count r. all_listed_at count scheme 0 r)
    (byte_that_stable (is_from 1 most_processes) faults.Roster) (λ count. all_listed_stable count scheme 0)

members_stable : (n : ℕ) (listed : ℕ → Bool) (before : List ℕ) → IsStable (members_at n listed before)
unfolding members_at
members_stable zero listed before = done_stable before
members_stable (suc n) listed before =
    then_stable (process_that (λ m. listed m && not (has before m)) faults.Roster) (λ first r. members_at n listed (before ++ first ∷ []) r)
    (process_that_stable (λ m. listed m && not (has before m)) faults.Roster) (λ first.
    members_stable n listed (before ++ first ∷ []))

genesis_stable : (listed : ℕ → Bool) → IsStable (genesis_at listed)
unfolding genesis_at
genesis_stable listed =
    then_stable (byte_that (is_from 1 most_members) faults.Roster) (λ count r. members_at count listed [] r)
    (byte_that_stable (is_from 1 most_members) faults.Roster) (λ count. members_stable count listed [])

setting_stable : IsStable setting_at
unfolding setting_at
setting_stable =
    then_stable (known version_by faults.Magic (field_at 4))
    (λ v r. known (scheme_by v) faults.Scheme byte_at r >>= λ s. limit_at v s.1 >>= λ limit. field_at 16 limit.1 >>= λ group. Ok
    ((s.0, limit.0, group.0), group.1)) (known_stable version_by faults.Magic (field_at 4) (field_stable 4)) (λ v.
    then_stable (known (scheme_by v) faults.Scheme byte_at)
    (λ s r. limit_at v r >>= λ limit. field_at 16 limit.1 >>= λ group. Ok ((s, limit.0, group.0), group.1))
    (known_stable (scheme_by v) faults.Scheme byte_at (wide_stable w8)) (λ s.
    then_stable (limit_at v) (λ limit r. field_at 16 r >>= λ group. Ok ((s, limit, group.0), group.1)) (limit_stable v) (λ limit.
    then_stable (field_at 16) (λ group r. Ok ((s, limit, group), r)) (field_stable 16) (λ group. done_stable (s, limit, group)))))

pub header_stable : IsStable header_at
unfolding header_at
header_stable =
    then_stable setting_at (λ s r. processes_at s.0 r >>= λ ls. genesis_at (is_listed ls.0) ls.1 >>= λ genesis. Ok
    (record { scheme = s.0; batch_limit = s.1; group = s.2; processes = ls.0; genesis = genesis.0 }, genesis.1)) setting_stable (λ s.
    then_stable (processes_at s.0)
    (λ ls r. genesis_at (is_listed ls) r >>= λ genesis. Ok
    (record { scheme = s.0; batch_limit = s.1; group = s.2; processes = ls; genesis = genesis.0 }, genesis.1)) (processes_stable s.0)
    (λ ls.
    then_stable (genesis_at (is_listed ls))
    (λ genesis r. Ok (record { scheme = s.0; batch_limit = s.1; group = s.2; processes = ls; genesis = genesis }, r))
    (genesis_stable (is_listed ls)) (λ genesis.
    done_stable (record { scheme = s.0; batch_limit = s.1; group = s.2; processes = ls; genesis = genesis }))))

-- ---- events

other_stable : IsStable other_at
unfolding other_at
other_stable = byte_that_stable (λ p. leb p 63) faults.Field

abbrev is_statement : List ℕ → Bool
is_statement bytes = is_ok (statement_of bytes)

module _ (roles : Roles) where
  correct_stable : IsStable (correct_at roles)
  correct_stable = process_that_stable roles.correct faults.Field

  submit_stable : IsStable (submit_at roles)
  unfolding submit_at
  submit_stable =
      then_stable (correct_at roles) (λ p r. text_at 65535 r >>= λ t. Ok (Submit p t.0, t.1)) correct_stable (λ p.
      then_stable (text_at 65535) (λ t r. Ok (Submit p t, r)) (text_stable 65535) (λ t. done_stable (Submit p t)))

  raw_stable : IsStable (raw_at roles)
  unfolding raw_at
  raw_stable =
      then_stable (correct_at roles)
      (λ p r. other_at r >>= λ q. text_at most_raw_bytes q.1 >>= λ t. Ok (Raw p q.0 t.0, t.1)) correct_stable (λ p.
      then_stable other_at (λ q r. text_at most_raw_bytes r >>= λ t. Ok (Raw p q t.0, t.1)) other_stable (λ q.
      then_stable (text_at most_raw_bytes) (λ t r. Ok (Raw p q t, r)) (text_stable most_raw_bytes) (λ t. done_stable (Raw p q t))))

  pass_stable : IsStable (pass_at roles)
  unfolding pass_at
  pass_stable =
      then_stable (wide_at w32) (λ k r. correct_at roles r >>= λ p. Ok (Pass k p.0, p.1)) (wide_stable w32) (λ k.
      then_stable (correct_at roles) (λ p r. Ok (Pass k p, r)) correct_stable (λ p. done_stable (Pass k p)))

  drain_stable : IsStable (drain_at roles)
  unfolding drain_at
  drain_stable =
      then_stable (wide_at w32) (λ n r. wide_at w64 r >>= λ mask. Ok (Drain n mask.0, mask.1)) (wide_stable w32) (λ n.
      then_stable (wide_at w64) (λ mask r. Ok (Drain n mask, r)) (wide_stable w64) (λ mask. done_stable (Drain n mask)))

  lie_stable : IsStable (lie_at roles)
  unfolding lie_at
  lie_stable =
      then_stable (process_that roles.corrupt faults.Field)
      (λ p r. wide_at w64 r >>= λ mask. wide_at w16 mask.1 >>= λ len. tested is_statement faults.Field (field_at len.0) len.1 >>= λ st. Ok
      (Lie p mask.0 st.0, st.1)) (process_that_stable roles.corrupt faults.Field) (λ p.
      then_stable (wide_at w64) (λ mask r. wide_at w16 r >>= λ len. tested is_statement faults.Field (field_at len.0) len.1 >>= λ st. Ok
      (Lie p mask st.0, st.1)) (wide_stable w64) (λ mask.
      then_stable (wide_at w16) (λ len r. tested is_statement faults.Field (field_at len) r >>= λ st. Ok (Lie p mask st.0, st.1))
      (wide_stable w16) (λ len.
      then_stable (tested is_statement faults.Field (field_at len)) (λ st r. Ok (Lie p mask st, r))
      (known_stable (passing is_statement) faults.Field (field_at len) (field_stable len)) (λ st. done_stable (Lie p mask st)))))

  about_stable : (kind : ℕ → ℕ → ScheduleEvent) → IsStable (about_at roles kind)
  unfolding about_at
  about_stable kind =
      then_stable (correct_at roles) (λ p r. other_at r >>= λ q. Ok (kind p q.0, q.1)) correct_stable (λ p.
      then_stable other_at (λ q r. Ok (kind p q, r)) other_stable (λ q. done_stable (kind p q)))

  alone_stable : (kind : ℕ → ScheduleEvent) → IsStable (alone_at roles kind)
  unfolding alone_at
  alone_stable kind = then_stable (correct_at roles) (λ p r. Ok (kind p, r)) correct_stable (λ p. done_stable (kind p))

  -- the fields by the tag, from the last kinds on
  abbrev from_8 : ℕ → List ℕ → Step ScheduleEvent
  from_8 tag r = if eqb tag 8 then alone_at roles Renew r else alone_at roles Tick r

  abbrev from_7 : ℕ → List ℕ → Step ScheduleEvent
  from_7 tag r = if eqb tag 7 then about_at roles Join r else from_8 tag r

  abbrev from_6 : ℕ → List ℕ → Step ScheduleEvent
  from_6 tag r = if eqb tag 6 then about_at roles Suspect r else from_7 tag r

  abbrev from_5 : ℕ → List ℕ → Step ScheduleEvent
  from_5 tag r = if eqb tag 5 then lie_at roles r else from_6 tag r

  abbrev from_4 : ℕ → List ℕ → Step ScheduleEvent
  from_4 tag r = if eqb tag 4 then drain_at roles r else from_5 tag r

  abbrev from_3 : ℕ → List ℕ → Step ScheduleEvent
  from_3 tag r = if eqb tag 3 then pass_at roles r else from_4 tag r

  abbrev from_2 : ℕ → List ℕ → Step ScheduleEvent
  from_2 tag r = if eqb tag 2 then raw_at roles r else from_3 tag r

  abbrev from_1 : ℕ → List ℕ → Step ScheduleEvent
  from_1 tag r = if eqb tag 1 then submit_at roles r else from_2 tag r

  stable_8 : (tag : ℕ) → IsStable (from_8 tag)
  stable_8 tag = either_stable (eqb tag 8) (alone_at roles Renew) (alone_at roles Tick) (alone_stable Renew) (alone_stable Tick)

  stable_7 : (tag : ℕ) → IsStable (from_7 tag)
  stable_7 tag = either_stable (eqb tag 7) (about_at roles Join) (from_8 tag) (about_stable Join) (stable_8 tag)

  stable_6 : (tag : ℕ) → IsStable (from_6 tag)
  stable_6 tag = either_stable (eqb tag 6) (about_at roles Suspect) (from_7 tag) (about_stable Suspect) (stable_7 tag)

  stable_5 : (tag : ℕ) → IsStable (from_5 tag)
  stable_5 tag = either_stable (eqb tag 5) (lie_at roles) (from_6 tag) lie_stable (stable_6 tag)

  stable_4 : (tag : ℕ) → IsStable (from_4 tag)
  stable_4 tag = either_stable (eqb tag 4) (drain_at roles) (from_5 tag) drain_stable (stable_5 tag)

  stable_3 : (tag : ℕ) → IsStable (from_3 tag)
  stable_3 tag = either_stable (eqb tag 3) (pass_at roles) (from_4 tag) pass_stable (stable_4 tag)

  stable_2 : (tag : ℕ) → IsStable (from_2 tag)
  stable_2 tag = either_stable (eqb tag 2) (raw_at roles) (from_3 tag) raw_stable (stable_3 tag)

  stable_1 : (tag : ℕ) → IsStable (from_1 tag)
  stable_1 tag = either_stable (eqb tag 1) (submit_at roles) (from_2 tag) submit_stable (stable_2 tag)

  fields_stable : (tag : ℕ) → IsStable (fields_at roles tag)
  unfolding fields_at
  fields_stable tag = stable_1 tag

  steps_stable : (tag : ℕ) → IsStable (steps_at tag)
  unfolding steps_at
  steps_stable tag = either_stable (eqb tag 4) (wide_at w32) (λ bytes. Ok (1, bytes)) (wide_stable w32) (done_stable 1)

  byte_left : (bytes : List ℕ) (x : ℕ × List ℕ) → byte_at bytes ≡ Ok x → length x.1 < length bytes
  byte_left bytes x e =
      let g = guard_ok (ltb (length bytes) 1) (fault_at faults.Short bytes) (from_be_bytes w8 (take 1 bytes), drop 1 bytes) x e in
      let rest : drop 1 bytes ≡ x.1 = ap (λ (y : ℕ × List ℕ). y.1) g.1 in
      omega (arith, ltb-false (length bytes) 1 g.0, length-drop 1 bytes, ap (λ (r : List ℕ). length r) rest)

  abbrev is_tag : ℕ → Bool
  is_tag tag = is_from 1 9 tag

  -- the number of steps, which is read and left where it stands
  counted : (all more : List ℕ) (tag : ℕ) (bytes : List ℕ) (short longer : Step ℕ) → length bytes ≤ length all
      → Goes bytes more short longer
      → Goes {A = ℕ × ℕ} all more (short >>= λ steps. Ok ((tag, steps.0), bytes)) (longer >>= λ steps. Ok ((tag, steps.0), bytes ++ more))
  counted all more tag bytes (Ok x) longer le goes = rw goes.0 (refl, le)
  counted all more tag bytes (Err found) longer le (inl short) = inl short
  counted all more tag bytes (Err found) longer le (inr same) = inr (rw same refl)

  with_steps : (all more : List ℕ) (short longer : Step ℕ) → Goes all more short longer
      → Goes {A = ℕ × ℕ} all more (short >>= λ tag. steps_at tag.0 tag.1 >>= λ steps. Ok ((tag.0, steps.0), tag.1))
      (longer >>= λ tag. steps_at tag.0 tag.1 >>= λ steps. Ok ((tag.0, steps.0), tag.1))
  with_steps all more (Ok x) longer goes = rw goes.0
      (counted all more x.0 x.1 (steps_at x.0 x.1) (steps_at x.0 (x.1 ++ more)) goes.1 (steps_stable x.0 x.1 more))
  with_steps all more (Err found) longer (inl short) = inl short
  with_steps all more (Err found) longer (inr same) = inr (rw same refl)

  tag_stable : IsStable tag_at
  unfolding tag_at
  tag_stable bytes more = with_steps bytes more (byte_that is_tag faults.Tag bytes) (byte_that is_tag faults.Tag (bytes ++ more))
      (byte_that_stable is_tag faults.Tag bytes more)

  pub event_stable : (left : ℕ) → IsStable (event_at roles left)
  unfolding event_at
  event_stable left =
      then_stable (tested (λ tag. leb tag.1 left) faults.TooMany tag_at) (λ tag r. fields_at roles tag.0 r)
      (known_stable (passing (λ tag. leb tag.1 left)) faults.TooMany tag_at tag_stable) (λ tag. fields_stable tag.0)

  -- an event takes its tag at least
  pub event_shrinks : (left : ℕ) (bytes : List ℕ) (x : ScheduleEvent × List ℕ) → event_at roles left bytes ≡ Ok x
      → length x.1 < length bytes
  unfolding event_at tag_at byte_that
  event_shrinks left bytes x e =
      let a = bind_ok (tested (λ tag. leb tag.1 left) faults.TooMany tag_at bytes) _ x e in
      let g = tested_ok (λ tag. leb tag.1 left) faults.TooMany tag_at bytes a.0 a.1 in
      let t = bind_ok (byte_that is_tag faults.Tag bytes) _ a.0 g.0 in
      let s = bind_ok (steps_at t.0.0 t.0.1) _ a.0 t.2 in
      let b = tested_ok is_tag faults.Tag byte_at bytes t.0 t.1 in
      let made : (ℕ × ℕ) × List ℕ = ((t.0.0, s.0.0), t.0.1) in
      let same : made ≡ a.0 = ok_is made a.0 s.2 in
      let rest : t.0.1 ≡ a.0.1 = ap (λ (y : (ℕ × ℕ) × List ℕ). y.1) same in
      let fields = subst (λ (read : Step ScheduleEvent). Goes a.0.1 [] read (fields_at roles a.0.0.0 (a.0.1 ++ []))) a.2
      (fields_stable a.0.0.0 a.0.1 []) in
      let one = byte_left bytes t.0 b.0 in
      omega (arith, fields.1, one, ap (λ (r : List ℕ). length r) rest)
