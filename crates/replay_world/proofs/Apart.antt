-- Frames of correct processes count as no lies.
use Rattle.std.proofs.Common.{◌≡◌, ◌≢◌, ℕ, ◌+◌, ◌<◌, ◌≤◌, ◌==◌, Bool, true, false, cond, not, List, [], ◌∷◌, ◌++◌, map, refl, sym, ap, ◌∙◌, inl, inr, arith}
use Rattle.std.specs.Prelude.{filter, count_by}
use Rattle.std.specs.List.{AllByRecursion}
use Rattle.std.proofs.lemmas.Bool.{cases_eq, ne_eqb}
use Rattle.std.proofs.lemmas.List.Sums.{sum_by-append}
use Rattle.byte_defs.specs.Members.{has}
use Rattle.replay_defs.specs.declared.Scheme.{Scheme}
use Rattle.replay_defs.specs.Schedules.{Listed, AreListed}
use Rattle.replay_defs.specs.Worlds.{Sent}
use Rattle.replay_cast.specs.declared.liar.Liar.{Liar}
use Rattle.replay_cast.specs.Liars.{AreLiars}
use Rattle.replay_world.proofs.Seats.{Rises, listed_rise}
use Rattle.replay_world.proofs.Sends.{Outgoing, sent_by}

-- none of them has this number
abbrev pub NotOf : ℕ → List Listed → Type 0
NotOf p ls = AllByRecursion (λ l. (p == l.process) ≡ false) ls

pub not_below : (p least : ℕ) (ls : List Listed) → p < least → Rises least (map (λ l. l.process) ls) → NotOf p ls
not_below p least [] low h = tt
not_below p least (l ∷ ls) low h =
    let other : p ≢ l.process = omega (arith, h.0) in
    (ne_eqb p l.process other, not_below p (l.process + 1) ls (omega (arith, h.0)) h.1)

-- a number among rising ones is not below the least
has_from : (p least : ℕ) (ps : List ℕ) → Rises least ps → has ps p ≡ true → least ≤ p
has_from p least [] h among = absurd cc
has_from p least (q ∷ qs) h among = elim (cases_eq q p) [
  | inl same ↦ omega (arith, h.0)
  | inr other ↦
      let rest : has qs p ≡ true = rw (ne_eqb q p other) at among in
      omega (arith, h.0, has_from p (q + 1) qs h.1 rest)
]

abbrev pub correct_of : List Listed → List Listed
correct_of ls = filter (λ l. not l.corrupt) ls

abbrev pub corrupt_of : List Listed → List Listed
corrupt_of ls = filter (λ l. l.corrupt) ls

apart_first : (sch : Scheme) (p : ℕ) (l : Listed) (ls : List Listed) → AreListed sch (l.process + 1) ls
    → (has (map (λ x. x.process) (correct_of ls)) p ≡ true → NotOf p (corrupt_of ls))
    → (b : Bool) → has (map (λ x. x.process) (cond (not b) (l ∷ correct_of ls) (correct_of ls))) p ≡ true
    → NotOf p (cond b (l ∷ corrupt_of ls) (corrupt_of ls))
apart_first sch p l ls listed rest true among =
    let above : l.process + 1 ≤ p = has_from p (l.process + 1) (map (λ x. x.process) (correct_of ls))
    (listed_rise sch (l.process + 1) (λ x. not x.corrupt) ls listed) among in
    let other : p ≢ l.process = omega arith in
    (ne_eqb p l.process other, rest among)
apart_first sch p l ls listed rest false among = elim (cases_eq l.process p) [
  | inl same ↦ not_below p (l.process + 1) (corrupt_of ls) (omega arith) (listed_rise sch (l.process + 1) (λ x. x.corrupt) ls listed)
  | inr other ↦ rest (rw (ne_eqb l.process p other) at among)
]

-- a correct process has the number of no corrupt one
pub correct_apart : (sch : Scheme) (least p : ℕ) (ls : List Listed) → AreListed sch least ls
    → has (map (λ l. l.process) (correct_of ls)) p ≡ true → NotOf p (corrupt_of ls)
correct_apart sch least p [] h among = tt
correct_apart sch least p (l ∷ ls) h among = apart_first sch p l ls h.3 (correct_apart sch (l.process + 1) p ls h.3) l.corrupt among

-- ---- frames of others

-- how many frames have this sender
abbrev pub sent_count : ℕ → List Sent → ℕ
sent_count q fs = count_by (λ f. f.sender == q) fs

count_none : (p q : ℕ) → (p == q) ≡ false → (ds : Outgoing) → sent_count q (map (sent_by p) ds) ≡ 0
count_none p q other [] = refl
count_none p q other (d ∷ ds) =
    let parts : sent_count q (map (sent_by p) (d ∷ ds)) ≡ (0 + cond (p == q) 1 0) + sent_count q (map (sent_by p) ds) =
    sum_by-append (λ (f : Sent). cond (f.sender == q) 1 0) (sent_by p d ∷ []) (map (sent_by p) ds) in
    let none : cond (p == q) 1 0 ≡ 0 = ap (λ b. cond b 1 0) other in
    parts ∙ (ap (λ n. (0 + n) + sent_count q (map (sent_by p) ds)) none ∙ ap (λ n. (0 + 0) + n) (count_none p q other ds))

pub count_other : (p q : ℕ) → (p == q) ≡ false → (fs : List Sent) (ds : Outgoing)
    → sent_count q (fs ++ map (sent_by p) ds) ≡ sent_count q fs
count_other p q other fs ds =
    let parts : sent_count q (fs ++ map (sent_by p) ds) ≡ sent_count q fs + sent_count q (map (sent_by p) ds) =
    sum_by-append (λ (f : Sent). cond (f.sender == q) 1 0) fs (map (sent_by p) ds) in
    let none = count_none p q other ds in
    parts ∙ omega arith

-- the liars lied as often, whatever a correct process sends
pub liars_keep : (p : ℕ) (fs : List Sent) (ds : Outgoing) (xs : List Liar) (ls : List Listed) → NotOf p ls → AreLiars fs xs ls
    → AreLiars (fs ++ map (sent_by p) ds) xs ls
liars_keep p fs ds [] [] other h = tt
liars_keep p fs ds (x ∷ xs) (l ∷ ls) other h = (
  record { process = h.0.process; used = h.0.used ∙ sym (count_other p l.process other.0 fs ds); total = h.0.total; signs = h.0.signs },
  liars_keep p fs ds xs ls other.1 h.1,
)
liars_keep p fs ds [] (l ∷ ls) other h = absurd h
liars_keep p fs ds (x ∷ xs) [] other h = absurd h
