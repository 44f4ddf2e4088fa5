-- A corrupt process signs a lie.
use Rattle.std.proofs.Common.{◌≡◌, ◌≢◌, ℕ, zero, suc, ◌+◌, ◌<◌, ◌≤◌, ◌==◌, nat_lt, Bool, true, false, cond, ◌&&◌, ◌||◌, not, List, [], ◌∷◌, ◌++◌, length, map, Option, Some, None, Ok, Err, refl, sym, ap, subst, ◌∙◌, inl, inr, arith}
use Rattle.std.specs.Prelude.{find, filter, MatchOption, Result, slice_get, slice_set}
use Rattle.std.specs.List.{AllByRecursion, position_from}
use Rattle.std.proofs.lemmas.Bool.{cases_eq, eqb-true, eq-eqb, ne_eqb, lt-ltb, le-ltb}
use Rattle.std.proofs.lemmas.List.Sums.{sum_by-append}
use Rattle.byte_defs.specs.Members.{has}
use Rattle.message_defs.specs.Statements.{Statement}
use Rattle.message_defs.specs.Spelling.{spelling, body}
use Rattle.message_defs.specs.Packing.{signed, signed_of}
use Rattle.rp_base.specs.Pids.{members}
use Rattle.rp_base.proofs.Members.{has_member}
use Rattle.replay_defs.specs.declared.Scheme.{Scheme}
use Rattle.replay_defs.specs.Signers.{key_total}
use Rattle.replay_defs.specs.Schedules.{IsEvent, Header, Listed, AreListed, is_corrupt}
use Rattle.replay_defs.specs.Worlds as plain
use Rattle.replay_defs.specs.Worlds.{Sent, lies_of, lie_claim, sends_lie, is_in}
use Rattle.sig_scheme.specs.Signers.{used, total, signature}
use Rattle.replay_cast.specs.declared.liar.Liar.{Liar}
use Rattle.replay_cast.specs.Liars.{Lies, AreLiars, Reported, bundle_of, lie_of}
use Rattle.trace_defs.specs.Happenings as defs
use Rattle.reported_defs.specs.Reported.{lie_tells, liar_tells}
use Rattle.replay_world.specs.Lying.{SameLiar, LiesAt}
use Rattle.replay_world.proofs.Seats.{Rises, listed_rise}
use Rattle.signature_defs.specs.Schemes.{is_valid}
use Rattle.sig_scheme.specs.Views.{scheme as scheme_of}
use Rattle.std.specs.List.{flat_map, list_all}
use Rattle.replay_defs.specs.Worlds.{setting_of}
use Rattle.replay_cast.specs.declared.player.Player.{Player}
use Rattle.replay_cast.specs.Players.{ArePlayers}
use Rattle.replay_world.specs.declared.world.World.{World}
use Rattle.replay_world.specs.Traffic.{numbers, Carries}
use Rattle.replay_world.specs.Handing.{handed_frames, claims_of}
use Rattle.replay_world.specs.Stepping.{refused}
use Rattle.replay_world.specs.Worlds.{Shows, HappensYet}
use Rattle.message_defs.specs.Reading.{statement_of}
use Rattle.message_defs.specs.declared.FrameFault.{FrameFault}
use Rattle.replay_defs.specs.Schedules.{Lie}
use Rattle.replay_world.proofs.Happenings.{goes_on}
use Rattle.replay_world.proofs.Seats.{numbers_listed}
use Rattle.replay_world.proofs.Sends.{sent_by}
use Rattle.replay_world.proofs.Apart.{corrupt_of, sent_count, not_below, count_other, liars_keep}

-- ---- the liar at a place

abbrev pub is_listed_as : ℕ → Listed → Bool
is_listed_as p l = l.process == p

-- counted from n, the place i is that of the liar whose process is found
pub record LiarAt (p : ℕ) (fs : List Sent) (xs : List Liar) (ls : List Listed) (n i : ℕ) : Type 0 where
  pub liar : Liar
  pub listed : Listed
  pub place : ℕ
  pub counted : i ≡ n + place
  pub get : slice_get xs place ≡ Some liar
  pub get_listed : slice_get ls place ≡ Some listed
  pub is : listed.process ≡ p
  pub found : find (is_listed_as p) ls ≡ Some listed
  pub lies : Lies fs liar listed

abbrev pub FindsLiar : ℕ → List Sent → List Liar → List Listed → ℕ → Option ℕ → Type 0
FindsLiar p fs xs ls n r = MatchOption r (find (is_listed_as p) ls ≡ None) (LiarAt p fs xs ls n)

liar_first : (p n : ℕ) (fs : List Sent) (x : Liar) (l : Listed) (xs : List Liar) (ls : List Listed) (b : Bool) → is_listed_as p l ≡ b
    → Lies fs x l → (r : Option ℕ) → FindsLiar p fs xs ls (n + 1) r
    → FindsLiar p fs (x ∷ xs) (l ∷ ls) n (cond b (Some n) r)
liar_first p n fs x l xs ls true e lies r h = record {
  liar = x;
  listed = l;
  place = 0;
  counted = omega arith;
  get = refl;
  get_listed = refl;
  is = eqb-true l.process p e;
  found = ap (λ b. cond b (Some l) (find (is_listed_as p) ls)) e;
  lies = lies;
}
liar_first p n fs x l xs ls false e lies None h = ap (λ b. cond b (Some l) (find (is_listed_as p) ls)) e ∙ h
liar_first p n fs x l xs ls false e lies (Some i) h = record {
  liar = h.liar;
  listed = h.listed;
  place = suc h.place;
  counted = omega (arith, h.counted);
  get = h.get;
  get_listed = h.get_listed;
  is = h.is;
  found = ap (λ b. cond b (Some l) (find (is_listed_as p) ls)) e ∙ h.found;
  lies = h.lies;
}

pub finds_liar : (p n : ℕ) (fs : List Sent) (xs : List Liar) (ls : List Listed) → AreLiars fs xs ls
    → FindsLiar p fs xs ls n (position_from (λ x. x.process == p) n xs)
finds_liar p n fs [] [] all = refl
finds_liar p n fs (x ∷ xs) (l ∷ ls) all =
    let P : Bool → Type 0 = λ b. FindsLiar p fs (x ∷ xs) (l ∷ ls) n (cond b (Some n) (position_from (λ y. y.process == p) (n + 1) xs)) in
    let first = liar_first p n fs x l xs ls (l.process == p) refl all.0 (position_from (λ y. y.process == p) (n + 1) xs)
    (finds_liar p (n + 1) fs xs ls all.1) in
    subst P (sym (ap (λ y. y == p) all.0.process)) first
finds_liar p n fs [] (l ∷ ls) all = absurd all
finds_liar p n fs (x ∷ xs) [] all = absurd all

-- ---- found among the corrupt, found among all

found_from : (p least : ℕ) (ls : List Listed) (l : Listed) → Rises least (map (λ x. x.process) ls) → find (is_listed_as p) ls ≡ Some l
    → least ≤ p
found_from p least [] l h found = absurd cc
found_from p least (x ∷ xs) l h found = elim (cases_eq x.process p) [
  | inl same ↦ omega (arith, h.0)
  | inr other ↦
      let rest : find (is_listed_as p) xs ≡ Some l = rw (ne_eqb x.process p other) at found in
      omega (arith, h.0, found_from p (x.process + 1) xs l h.1 rest)
]

corrupt_first : (sch : Scheme) (p : ℕ) (x l : Listed) (xs : List Listed) → AreListed sch (x.process + 1) xs
    → (find (is_listed_as p) (corrupt_of xs) ≡ Some l → find (is_listed_as p) xs ≡ Some l)
    → (b : Bool) → find (is_listed_as p) (cond b (x ∷ corrupt_of xs) (corrupt_of xs)) ≡ Some l → find (is_listed_as p) (x ∷ xs) ≡ Some l
corrupt_first sch p x l xs listed rest true found = by_test (x.process == p) found
  where
    by_test : (t : Bool) → cond t (Some x) (find (is_listed_as p) (corrupt_of xs)) ≡ Some l
        → cond t (Some x) (find (is_listed_as p) xs) ≡ Some l
    by_test true e = e
    by_test false e = rest e
corrupt_first sch p x l xs listed rest false found =
    let above : x.process + 1 ≤ p = found_from p (x.process + 1)
    (corrupt_of xs) l (listed_rise sch (x.process + 1) (λ y. y.corrupt) xs listed) found in
    let other : x.process ≢ p = omega arith in
    ap (λ b. cond b (Some x) (find (is_listed_as p) xs)) (ne_eqb x.process p other) ∙ rest found

-- a corrupt process is found among all
pub found_in_all : (sch : Scheme) (least p : ℕ) (ls : List Listed) (l : Listed) → AreListed sch least ls
    → find (is_listed_as p) (corrupt_of ls) ≡ Some l → find (is_listed_as p) ls ≡ Some l
found_in_all sch least p [] l listed found = absurd cc
found_in_all sch least p (x ∷ xs) l listed found = corrupt_first sch p x l xs listed.3
    (found_in_all sch (x.process + 1) p xs l listed.3) x.corrupt found

-- a corrupt process is found among the corrupt
pub corrupt_found : (p : ℕ) (ls : List Listed) → is_corrupt ls p ≡ true → find (is_listed_as p) (corrupt_of ls) ≡ None → ⊥
corrupt_found p [] among none = cc
corrupt_found p (x ∷ xs) among none = by_corrupt x.corrupt (x.process == p) refl (corrupt_found p xs) among none
  where
    by_corrupt : (b t : Bool) → (x.process == p) ≡ t → (is_corrupt xs p ≡ true → find (is_listed_as p) (corrupt_of xs) ≡ None → ⊥)
        → ((t && b) || is_corrupt xs p) ≡ true
        → find (is_listed_as p) (cond b (x ∷ corrupt_of xs) (corrupt_of xs)) ≡ None → ⊥
    by_corrupt true true e rest or found =
        let some : find (is_listed_as p) (x ∷ corrupt_of xs)
        ≡ Some x = ap (λ b. cond b (Some x) (find (is_listed_as p) (corrupt_of xs))) e in absurd cc
    by_corrupt true false e rest or found = rest or (sym (ap (λ b. cond b (Some x) (find (is_listed_as p) (corrupt_of xs))) e) ∙ found)
    by_corrupt false true e rest or found = rest or found
    by_corrupt false false e rest or found = rest or found

-- ---- the liars, after one of them lied

-- a process at a place is not below the least
listed_at : (least : ℕ) (ls : List Listed) (i : ℕ) (l : Listed) → Rises least (map (λ m. m.process) ls) → slice_get ls i ≡ Some l
    → least ≤ l.process
listed_at least [] i l h get = absurd cc
listed_at least (m ∷ ls) zero l h get = let same : m ≡ l = cc in omega (arith, h.0, ap (λ (z : Listed). z.process) same)
listed_at least (m ∷ ls) (suc i) l h get = omega (arith, h.0, listed_at (m.process + 1) ls i l h.1 get)

count_one : (p q : ℕ) (fs : List Sent) (d : List ℕ × List ℕ) → (p == q) ≡ true → sent_count q (fs ++ sent_by p d ∷ []) ≡ sent_count q fs + 1
count_one p q fs d same =
    let parts : sent_count q (fs ++ sent_by p d ∷ [])
    ≡ sent_count q fs + (0 + cond (p == q) 1 0) = sum_by-append (λ (f : Sent). cond (f.sender == q) 1 0) fs (sent_by p d ∷ []) in
    let one : cond (p == q) 1 0 ≡ 1 = ap (λ b. cond b 1 0) same in
    parts ∙ ap (λ n. sent_count q fs + (0 + n)) one

pub liars_lied : (p i : ℕ) (fs : List Sent) (d : List ℕ × List ℕ) (xs : List Liar) (ls : List Listed) (x now : Liar) (l : Listed)
    (least : ℕ) → AreLiars fs xs ls → slice_get xs i ≡ Some x → slice_get ls i ≡ Some l
    → l.process ≡ p → Rises least (map (λ m. m.process) ls) → SameLiar x now → used now.signer ≡ used x.signer + 1
    → AreLiars (fs ++ sent_by p d ∷ []) (slice_set xs i now) ls
liars_lied p i fs d [] [] x now l least all get at is rises same once = absurd cc
liars_lied p zero fs d (y ∷ xs) (m ∷ ls) x now l least all get at is rises same once =
    let first : y ≡ x = cc in
    let listed : m ≡ l = cc in
    let number : m.process ≡ p = ap (λ (z : Listed). z.process) listed ∙ is in (
      record {
        process = same.process ∙ (ap (λ (z : Liar). z.process) (sym first) ∙ all.0.process);
        used = once ∙ (ap (λ (z : Liar). used z.signer + 1)
            (sym first) ∙ (ap (λ n. n + 1) all.0.used ∙ sym (count_one p m.process fs d (eq-eqb p m.process (sym number)))));
        total = same.total ∙ (ap (λ (z : Liar). total z.signer) (sym first) ∙ all.0.total);
        signs = same.secret ∙ (ap (λ (z : Liar). signature z.signer) (sym first) ∙ all.0.signs);
      },
      liars_keep p fs (d ∷ []) xs ls (not_below p (m.process + 1) ls (omega (arith, number)) rises.1) all.1,
    )
liars_lied p (suc i) fs d (y ∷ xs) (m ∷ ls) x now l least all get at is rises same once =
    let above : m.process + 1 ≤ l.process = listed_at (m.process + 1) ls i l rises.1 at in
    let other : p ≢ m.process = omega (arith, is) in (
      record {
        process = all.0.process;
        used = all.0.used ∙ sym (count_other p m.process (ne_eqb p m.process other) fs (d ∷ []));
        total = all.0.total;
        signs = all.0.signs;
      },
      liars_lied p i fs d xs ls x now l (m.process + 1) all.1 get at is rises.1 same once,
    )
liars_lied p i fs d [] (m ∷ ls) x now l least all get at is rises same once = absurd all
liars_lied p i fs d (y ∷ xs) [] x now l least all get at is rises same once = absurd all

-- ---- the frame of a lie

-- the code's claim is that of the definitions
pub lie_same : (h : Header) (v : plain.World) (group : List ℕ) (st : Statement) (x : Liar) (l : Listed) → group ≡ h.group
    → Lies v.frames x l → lie_of group st x ≡ signed_of (lie_claim h v l st)
lie_same h v group st x l same lies = λ i. signed (spelling st) (lies.process i)
    (lies.signs i (lies.used i) (body (same i) (lies.process i) st))

-- a key that is not spent sends it
pub lie_sent : (h : Header) (v : plain.World) (mask : ℕ) (st : Statement) (x : Liar) (l : Listed) → Lies v.frames x l
    → used x.signer < total x.signer
    → sends_lie h v mask l st ≡ plain.send l.process (is_in mask) v (bundle_of (signed_of (lie_claim h v l st)))
lie_sent h v mask st x l lies able =
    let left : nat_lt (lies_of v l.process) (key_total l.key)
    ≡ true = lt-ltb (lies_of v l.process) (key_total l.key) (omega (arith, able, lies.used, lies.total)) in
    ap (λ b. cond b (plain.send l.process (is_in mask) v (bundle_of (signed_of (lie_claim h v l st)))) v) left

-- a spent one nothing
pub lie_unsent : (h : Header) (v : plain.World) (mask : ℕ) (st : Statement) (x : Liar) (l : Listed) → Lies v.frames x l
    → used x.signer ≡ total x.signer → sends_lie h v mask l st ≡ v
lie_unsent h v mask st x l lies spent =
    let none : nat_lt (lies_of v l.process) (key_total l.key)
    ≡ false = le-ltb (lies_of v l.process) (key_total l.key) (omega (arith, spent, lies.used, lies.total)) in
    ap (λ b. cond b (plain.send l.process (is_in mask) v (bundle_of (signed_of (lie_claim h v l st)))) v) none

-- ---- those to whom it goes

pub same_filter : (m : ℕ) (ps : List ℕ) → AllByRecursion (λ p. p < 64) ps → filter (has (members m)) ps ≡ filter (is_in m) ps
same_filter m [] low = refl
same_filter m (p ∷ ps) low =
    ap (λ b. cond b (p ∷ filter (has (members m)) ps) (filter (has (members m)) ps)) (has_member m p low.0)
    ∙ ap (λ qs. cond (is_in m p) (p ∷ qs) qs) (same_filter m ps low.1)

pub listed_low : (sch : Scheme) (least : ℕ) (test : Listed → Bool) (ls : List Listed) → AreListed sch least ls
    → AllByRecursion (λ p. p < 64) (map (λ l. l.process) (filter test ls))
listed_low sch least test [] h = tt
listed_low sch least test (l ∷ ls) h = by_test (test l) (listed_low sch (l.process + 1) test ls h.3)
  where
    by_test : (b : Bool) → AllByRecursion (λ p. p < 64) (map (λ x. x.process) (filter test ls))
        → AllByRecursion (λ p. p < 64) (map (λ x. x.process) (cond b (l ∷ filter test ls) (filter test ls)))
    by_test true rest = (omega (arith, h.1), rest)
    by_test false rest = rest

abbrev send_to : ℕ → plain.World → List ℕ → List ℕ → plain.World
send_to p v bytes ps = record v {
  frames = v.frames ++ record { sender = p; bytes = bytes } ∷ [];
  pending = v.pending ++ map (λ q. (length v.frames, q)) ps;
}

-- sending depends on the test of the players alone
pub send_same : (p : ℕ) (one other : ℕ → Bool) (v : plain.World) (bytes : List ℕ) → filter one (numbers v) ≡ filter other (numbers v)
    → plain.send p one v bytes ≡ plain.send p other v bytes
send_same p one other v bytes same = ap (send_to p v bytes) same

-- ---- the world after a lie

-- what a lie changes of a world: the liar and the traffic
pub record LiedIn (old new : World) : Type 0 where
  pub group : new.group ≡ old.group
  pub scheme : new.scheme ≡ old.scheme
  pub roster : new.roster ≡ old.roster
  pub players : new.players.items ≡ old.players.items
  pub raws : new.raws.items ≡ old.raws.items
  pub refused : new.refused.items ≡ old.refused.items
  pub spent : new.spent.items ≡ old.spent.items
  pub frames : handed_frames new.traffic.frames.items ≡ handed_frames old.traffic.frames.items
  pub count : new.count ≡ old.count

lied_shows : (h : Header) (old new : World) (v : plain.World) (p i : ℕ) (to bytes : List ℕ) (x now : Liar) (l : Listed) → Shows h old v
    → LiedIn old new
    → slice_get old.liars.items i ≡ Some x → slice_get (corrupt_of h.processes) i ≡ Some l → l.process ≡ p → SameLiar x now
    → used now.signer ≡ used x.signer + 1
    → new.liars.items ≡ slice_set old.liars.items i now → Carries new.traffic (plain.send p (has to) v bytes)
    → Shows h new (plain.send p (has to) v bytes)
lied_shows h old new v p i to bytes x now l s same get at is kept once liars carried = record {
  rising = s.rising;
  group = same.group ∙ s.group;
  roster = same.roster ∙ s.roster;
  scheme = s.scheme ∙ ap (λ y. is_valid (scheme_of y)) (sym same.scheme);
  players = let P : List Player → Type 0 = λ ps. ArePlayers (setting_of h) ps v.players in subst P (sym same.players) s.players;
  listed = s.listed;
  ran = s.ran;
  liars = let P : List Liar → Type 0 = λ xs. AreLiars (v.frames ++ sent_by p (to, bytes) ∷ []) xs (corrupt_of h.processes) in
      subst P (sym liars) (liars_lied p i v.frames (to, bytes) old.liars.items (corrupt_of h.processes) x now l 0 s.liars get at is
      (listed_rise h.scheme 0 (λ y. y.corrupt) h.processes s.rising) kept once);
  traffic = carried;
  handed = λ test. s.handed test ∙ ap (λ kept. list_all test (flat_map claims_of kept))
      (ap (λ fs. fs ++ old.raws.items) (sym same.frames) ∙ ap (λ rs. handed_frames new.traffic.frames.items ++ rs) (sym same.raws));
  refused = ap (map refused) same.refused ∙ s.refused;
  spent = same.spent ∙ s.spent;
  count = same.count ∙ s.count;
}

-- a lie that is told, in the definitions' words
pub record LieIsSent (h : Header) (v : plain.World) (p m : ℕ) (to bytes : List ℕ) (st : Statement) : Type 0 where
  pub listed : Listed
  pub found : find (is_listed_as p) h.processes ≡ Some listed
  pub sent : plain.send p (has to) v bytes ≡ sends_lie h v m listed st

-- where the code told it, so do the definitions
pub reported : (h : Header) (old : World) (v : plain.World) (p i m : ℕ) (to bytes : List ℕ) (st : Statement) (now : Liar) (x : Liar)
    (l : Listed) → Shows h old v → Lies v.frames x l → l.process ≡ p
    → find (is_listed_as p) (corrupt_of h.processes) ≡ Some l → Reported old.group st x now bytes → to ≡ members m → LieIsSent h v p m to bytes st
reported h old v p i m to bytes st now x l s lies is found lie those = record {
  listed = l;
  found = found_in_all h.scheme 0 p h.processes l s.rising found;
  sent =
      send_same p (has to) (is_in m) v bytes (ap (λ ps. filter (has ps) (numbers v)) those ∙ same_filter m (numbers v) low)
      ∙ (ap (λ q. plain.send q (is_in m) v bytes) (sym is)
      ∙ (ap (plain.send l.process (is_in m) v) (lie.frame ∙ ap bundle_of (lie_same h v old.group st x l s.group lies))
      ∙ sym (lie_sent h v m st x l lies lie.able)));
}
  where
    listed : numbers v ≡ map (λ y. y.process) (filter (λ y. not y.corrupt) h.processes)
    listed = numbers_listed v.players ∙ ap (map (λ (y : Listed). y.process)) s.listed

    low : AllByRecursion (λ q. q < 64) (numbers v)
    low = let P : List ℕ → Type 0 = λ ps. AllByRecursion (λ q. q < 64) ps in subst P (sym listed)
        (listed_low h.scheme 0 (λ y. not y.corrupt) h.processes s.rising)

-- ---- an event of a lie

-- where the liar is listed and the statement is one
lie_is : (h : Header) (v : plain.World) (p m : ℕ) (bytes : List ℕ) (st : Statement) (l : Listed)
    → find (is_listed_as p) h.processes ≡ Some l → statement_of bytes ≡ Ok st
    → plain.happens h v (Lie p m bytes) ≡ Ok (sends_lie h v m l st)
lie_is h v p m bytes st l found read =
    ap (λ r. goes_on (elim r as (λ (x : Option Listed). plain.World) [
      | None ↦ v
      | Some k ↦ elim (statement_of bytes) as
          (λ (x : Result Statement FrameFault). plain.World) [ Ok s ↦ sends_lie h v m k s | Err fault ↦ v ]
    ])) found
    ∙ ap (λ r. goes_on (elim r as (λ (x : Result Statement FrameFault). plain.World) [ Ok s ↦ sends_lie h v m l s | Err fault ↦ v ])) read

-- the liar whose place the code found
liar_found : (h : Header) (old : World) (v : plain.World) (p i : ℕ) → Shows h old v
    → position_from (λ x. x.process == p) 0 old.liars.items ≡ Some i
    → LiarAt p v.frames old.liars.items (corrupt_of h.processes) 0 i
liar_found h old v p i s place =
    let P : Option ℕ → Type 0 = λ r. FindsLiar p v.frames old.liars.items (corrupt_of h.processes) 0 r in
    subst P place (finds_liar p 0 v.frames old.liars.items (corrupt_of h.processes) s.liars)

-- there always is one
pub lie_by_nobody : (old : World) (p m : ℕ) (bytes : List ℕ) (r : Option ℕ) (xs : List Liar) → r ≡ None
    → r ≡ position_from (λ x. x.process == p) 0 xs → xs ≡ old.liars.items
    → HappensYet old old (Lie p m bytes)
lie_by_nobody old p m bytes r xs none is same = λ h v s event.
    let P : Option ℕ → Type 0 = λ q. FindsLiar p v.frames old.liars.items (corrupt_of h.processes) 0 q in
    let place : position_from (λ (x : Liar). x.process == p) 0 old.liars.items
    ≡ None = sym (ap (position_from (λ (x : Liar). x.process == p) 0) same) ∙ (sym is ∙ none) in
    absurd (corrupt_found p h.processes event.0 (subst P place (finds_liar p 0 v.frames old.liars.items (corrupt_of h.processes) s.liars)))

-- a lie that is told
pub lie_reported : (h : Header) (old new : World) (v : plain.World) (p i m : ℕ) (to bytes frame : List ℕ) (st : Statement) → Shows h old v
    → position_from (λ x. x.process == p) 0 old.liars.items ≡ Some i
    → LiesAt old.group st old.liars.items new.liars.items i (Some frame) → statement_of bytes ≡ Ok st → to ≡ members m
    → plain.happens h v (Lie p m bytes) ≡ Ok (plain.send p (has to) v frame)
lie_reported h old new v p i m to bytes frame st s place lie read those =
    let found = liar_found h old v p i s place in
    let same : found.place ≡ i = omega (arith, found.counted) in
    let get : slice_get old.liars.items i ≡ Some found.liar = ap (slice_get old.liars.items) (sym same) ∙ found.get in
    let lied = lie found.liar get in
    let tells = reported h old v p i m to frame st lied.now found.liar found.listed s found.lies found.is found.found lied.lied those in
    lie_is h v p m bytes st tells.listed tells.found read ∙ ap goes_on (sym tells.sent)

pub lie_shows : (h : Header) (old new : World) (v : plain.World) (p i : ℕ) (to frame : List ℕ) (st : Statement) → Shows h old v
    → position_from (λ x. x.process == p) 0 old.liars.items ≡ Some i
    → LiesAt old.group st old.liars.items new.liars.items i (Some frame) → LiedIn old new
    → Carries new.traffic (plain.send p (has to) v frame)
    → Shows h new (plain.send p (has to) v frame)
lie_shows h old new v p i to frame st s place lie same carried =
    let found = liar_found h old v p i s place in
    let here : found.place ≡ i = omega (arith, found.counted) in
    let get : slice_get old.liars.items i ≡ Some found.liar = ap (slice_get old.liars.items) (sym here) ∙ found.get in
    let at : slice_get (corrupt_of h.processes) i
    ≡ Some found.listed = ap (slice_get (corrupt_of h.processes)) (sym here) ∙ found.get_listed in
    let lied = lie found.liar get in
    lied_shows h old new v p i to frame found.liar lied.now found.listed s same get at found.is lied.same lied.lied.used lied.all carried

set_same : {X : Type 0} (xs : List X) (i : ℕ) (x : X) → slice_get xs i ≡ Some x → slice_set xs i x ≡ xs
set_same [] i x get = refl
set_same (y ∷ xs) zero x get = let same : y ≡ x = cc in ap (λ z. z ∷ xs) (sym same)
set_same (y ∷ xs) (suc i) x get = ap (λ zs. y ∷ zs) (set_same xs i x get)

-- a spent key tells nothing
pub lie_spent : (old new : World) (p i m : ℕ) (bytes : List ℕ) (st : Statement)
    → position_from (λ x. x.process == p) 0 old.liars.items ≡ Some i
    → LiesAt old.group st old.liars.items new.liars.items i None → statement_of bytes ≡ Ok st → new ≡ record old { liars = new.liars }
    → HappensYet old new (Lie p m bytes)
lie_spent old new p i m bytes st place lie read is = λ h v s event.
    let found = liar_found h old v p i s place in
    let here : found.place ≡ i = omega (arith, found.counted) in
    let get : slice_get old.liars.items i ≡ Some found.liar = ap (slice_get old.liars.items) (sym here) ∙ found.get in
    let lied = lie found.liar get in
    let liars : new.liars.items ≡ old.liars.items = lied.all ∙
    (ap (slice_set old.liars.items i) lied.lied.same ∙ set_same old.liars.items i found.liar get) in
    let P : World → Type 0 = λ w. Shows h w v in
    let Q : List Liar → Type 0 = λ xs. AreLiars v.frames xs (corrupt_of h.processes) in (
      v,
      lie_is h v p m bytes st found.listed (found_in_all h.scheme 0 p h.processes found.listed s.rising found.found) read
          ∙ ap goes_on (lie_unsent h v m st found.liar found.listed found.lies lied.lied.spent),
      subst P (sym is) (record {
        rising = s.rising;
        group = s.group;
        roster = s.roster;
        scheme = s.scheme;
        players = s.players;
        listed = s.listed;
        ran = s.ran;
        liars = subst Q (sym liars) s.liars;
        traffic = s.traffic;
        handed = s.handed;
        refused = s.refused;
        spent = s.spent;
        count = s.count;
      }),
    )

-- ---- what is told of a lie

-- there always is a corrupt process of that number
pub no_liar : (old : World) (p m : ℕ) (bytes : List ℕ) (r : Option ℕ) (xs : List Liar) → r ≡ None
    → r ≡ position_from (λ x. x.process == p) 0 xs → xs ≡ old.liars.items
    → (h : Header) (v : plain.World) → Shows h old v → IsEvent h.processes (Lie p m bytes) → ⊥
no_liar old p m bytes r xs none is same h v s event =
    let P : Option ℕ → Type 0 = λ q. FindsLiar p v.frames old.liars.items (corrupt_of h.processes) 0 q in
    let place : position_from (λ (x : Liar). x.process == p) 0 old.liars.items
    ≡ None = sym (ap (position_from (λ (x : Liar). x.process == p) 0) same) ∙ (sym is ∙ none) in
    corrupt_found p h.processes event.0 (subst P place (finds_liar p 0 v.frames old.liars.items (corrupt_of h.processes) s.liars))

-- where the liar is listed and the statement is one
liar_is : (h : Header) (v : plain.World) (p m : ℕ) (bytes : List ℕ) (st : Statement) (l : Listed)
    → find (is_listed_as p) h.processes ≡ Some l → statement_of bytes ≡ Ok st
    → liar_tells h v p m bytes ≡ lie_tells v m l bytes
liar_is h v p m bytes st l found read =
    ap (λ r. elim r as (λ (x : Option Listed). List defs.Happening) [
      | None ↦ []
      | Some k ↦ elim (statement_of bytes) as
          (λ (x : Result Statement FrameFault). List defs.Happening) [ Ok s ↦ lie_tells v m k bytes | Err fault ↦ [] ]
    ]) found
    ∙ ap (λ r. elim r as (λ (x : Result Statement FrameFault). List defs.Happening) [ Ok s ↦ lie_tells v m l bytes | Err fault ↦ [] ]) read

able_tells : (v : plain.World) (m : ℕ) (bytes : List ℕ) (x : Liar) (l : Listed) → Lies v.frames x l → used x.signer < total x.signer
    → lie_tells v m l bytes ≡ defs.Lies l.process bytes (length v.frames) (members m) ∷ []
able_tells v m bytes x l lies able =
    let left : nat_lt (lies_of v l.process) (key_total l.key)
    ≡ true = lt-ltb (lies_of v l.process) (key_total l.key) (omega (arith, able, lies.used, lies.total)) in
    ap (λ b. cond b (defs.Lies l.process bytes (length v.frames) (members m) ∷ []) (defs.Silent l.process ∷ [])) left

spent_tells : (v : plain.World) (m : ℕ) (bytes : List ℕ) (x : Liar) (l : Listed) → Lies v.frames x l → used x.signer ≡ total x.signer
    → lie_tells v m l bytes ≡ defs.Silent l.process ∷ []
spent_tells v m bytes x l lies spent =
    let none : nat_lt (lies_of v l.process) (key_total l.key)
    ≡ false = le-ltb (lies_of v l.process) (key_total l.key) (omega (arith, spent, lies.used, lies.total)) in
    ap (λ b. cond b (defs.Lies l.process bytes (length v.frames) (members m) ∷ []) (defs.Silent l.process ∷ [])) none

pub tells_of_lie : (h : Header) (old new : World) (v : plain.World) (p i m : ℕ) (bytes frame : List ℕ) (st : Statement) → Shows h old v
    → position_from (λ x. x.process == p) 0 old.liars.items ≡ Some i
    → LiesAt old.group st old.liars.items new.liars.items i (Some frame) → statement_of bytes ≡ Ok st
    → liar_tells h v p m bytes ≡ defs.Lies p bytes (length v.frames) (members m) ∷ []
tells_of_lie h old new v p i m bytes frame st s place lie read =
    let found = liar_found h old v p i s place in
    let here : found.place ≡ i = omega (arith, found.counted) in
    let get : slice_get old.liars.items i ≡ Some found.liar = ap (slice_get old.liars.items) (sym here) ∙ found.get in
    let lied = lie found.liar get in
    liar_is h v p m bytes st found.listed (found_in_all h.scheme 0 p h.processes found.listed s.rising found.found) read
    ∙ able_tells v m bytes found.liar found.listed found.lies lied.lied.able
    ∙ ap (λ (q : ℕ). defs.Lies q bytes (length v.frames) (members m) ∷ []) found.is

pub tells_of_silence : (h : Header) (old new : World) (v : plain.World) (p i m : ℕ) (bytes : List ℕ) (st : Statement) → Shows h old v
    → position_from (λ x. x.process == p) 0 old.liars.items ≡ Some i
    → LiesAt old.group st old.liars.items new.liars.items i None → statement_of bytes ≡ Ok st
    → liar_tells h v p m bytes ≡ defs.Silent p ∷ []
tells_of_silence h old new v p i m bytes st s place lie read =
    let found = liar_found h old v p i s place in
    let here : found.place ≡ i = omega (arith, found.counted) in
    let get : slice_get old.liars.items i ≡ Some found.liar = ap (slice_get old.liars.items) (sym here) ∙ found.get in
    let lied = lie found.liar get in
    liar_is h v p m bytes st found.listed (found_in_all h.scheme 0 p h.processes found.listed s.rising found.found) read
    ∙ spent_tells v m bytes found.liar found.listed found.lies lied.lied.spent
    ∙ ap (λ (q : ℕ). defs.Silent q ∷ []) found.is
