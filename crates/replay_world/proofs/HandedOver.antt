-- What was handed over, and what of it is kept.
use Rattle.std.proofs.Common.{◌≡◌, ℕ, zero, suc, Bool, true, false, cond, ◌&&◌, List, [], ◌∷◌, ◌++◌, map, Some, refl, sym, ap, ◌∙◌, append-nil}
use Rattle.std.specs.Prelude.{filter, slice_get, slice_set}
use Rattle.std.specs.List.{flat_map, list_all}
use Rattle.std.proofs.lemmas.List.Folds.{list_all-append}
use Rattle.std.proofs.lemmas.List.Concat.{flat_map-append}
use Rattle.message_defs.specs.Statements.{Claim}
use Rattle.group_defs.specs.Events.{Turn}
use Rattle.group_defs.specs.Family.{claims_in, handed_to}
use Rattle.replay_defs.specs.Schedules.{Header}
use Rattle.replay_defs.specs.Worlds as plain
use Rattle.replay_defs.specs.Worlds.{family_of, setting_of, correct_of}
use Rattle.member_events.specs.declared.events.Event.{Event}
use Rattle.member_events.specs.declared.events.Event.TheVariants as events
use Rattle.happenings.specs.Events.{event}
use Rattle.replay_world.specs.Handing.{handed_frames, bytes_in, claims_of}
use Rattle.replay_world.specs.declared.traffic.Sent.{Sent}

-- a test of claims
abbrev pub Test : Type 0
Test = Claim → Bool

-- ---- two truths

and_assoc : (a b c : Bool) → ((a && b) && c) ≡ (a && (b && c))
and_assoc true b c = refl
and_assoc false b c = refl

and_true : (a : Bool) → (a && true) ≡ a
and_true true = refl
and_true false = refl

pub and_swap : (a b c : Bool) → ((a && b) && c) ≡ ((a && c) && b)
and_swap true true true = refl
and_swap true true false = refl
and_swap true false true = refl
and_swap true false false = refl
and_swap false b c = refl

and_comm : (a b : Bool) → (a && b) ≡ (b && a)
and_comm true true = refl
and_comm true false = refl
and_comm false true = refl
and_comm false false = refl

and_again : (a r : Bool) → ((a && r) && a) ≡ (a && r)
and_again true true = refl
and_again true false = refl
and_again false r = refl

-- ---- turns

turns_more : (test : Test) (ts : List Turn) (t : Turn)
    → list_all test (handed_to (ts ++ t ∷ [])) ≡ (list_all test (handed_to ts) && list_all test (claims_in t.event))
turns_more test [] t = ap (list_all test) (append-nil (claims_in t.event))
turns_more test (u ∷ us) t =
    list_all-append test (claims_in u.event) (handed_to (us ++ t ∷ []))
    ∙ (ap (λ b. list_all test (claims_in u.event) && b) (turns_more test us t)
    ∙ (sym (and_assoc (list_all test (claims_in u.event)) (list_all test (handed_to us)) (list_all test (claims_in t.event)))
    ∙ ap (λ b. b && list_all test (claims_in t.event)) (sym (list_all-append test (claims_in u.event) (handed_to us)))))

-- all claims that players were handed
abbrev pub handed_in : List plain.Player → List Claim
handed_in cs = flat_map (λ c. handed_to c.turns) cs

-- a player's turn adds the claims of its event
pub turn_adds : (test : Test) (cs : List plain.Player) (i : ℕ) (c d : plain.Player) (t : Turn) → slice_get cs i ≡ Some c
    → d.turns ≡ c.turns ++ t ∷ []
    → list_all test (handed_in (slice_set cs i d)) ≡ (list_all test (handed_in cs) && list_all test (claims_in t.event))
turn_adds test [] i c d t get turned = absurd cc
turn_adds test (x ∷ xs) zero c d t get turned =
    let same : x ≡ c = cc in
    let turns : d.turns ≡ x.turns ++ t ∷ [] = turned ∙ ap (λ (y : plain.Player). y.turns ++ t ∷ []) (sym same) in
    let more : list_all test (handed_to d.turns) ≡ (list_all test (handed_to x.turns) && list_all test (claims_in t.event)) =
    ap (λ ts. list_all test (handed_to ts)) turns ∙ turns_more test x.turns t in
    list_all-append test (handed_to d.turns) (handed_in xs)
    ∙ (ap (λ b. b && list_all test (handed_in xs)) more
    ∙ (and_swap (list_all test (handed_to x.turns)) (list_all test (claims_in t.event)) (list_all test (handed_in xs))
    ∙ ap (λ b. b && list_all test (claims_in t.event)) (sym (list_all-append test (handed_to x.turns) (handed_in xs)))))
turn_adds test (x ∷ xs) (suc i) c d t get turned =
    list_all-append test (handed_to x.turns) (handed_in (slice_set xs i d))
    ∙ (ap (λ b. list_all test (handed_to x.turns) && b) (turn_adds test xs i c d t get turned)
    ∙ (sym (and_assoc (list_all test (handed_to x.turns)) (list_all test (handed_in xs)) (list_all test (claims_in t.event)))
    ∙ ap (λ b. b && list_all test (claims_in t.event)) (sym (list_all-append test (handed_to x.turns) (handed_in xs)))))

-- the family's are the players'
pub family_handed : (h : Header) (cs : List plain.Player) → flat_map (λ c. handed_to c.turns) (map (correct_of h) cs) ≡ handed_in cs
family_handed h [] = refl
family_handed h (c ∷ cs) = ap (λ claims. handed_to c.turns ++ claims) (family_handed h cs)

-- ---- kept bytes

-- what all claims of these bytes pass
abbrev pub passes : Test → List (List ℕ) → Bool
passes test kept = list_all test (flat_map claims_of kept)

pub passes_parts : (test : Test) (a b : List (List ℕ)) → passes test (a ++ b) ≡ (passes test a && passes test b)
passes_parts test a b = ap (list_all test) (flat_map-append claims_of a b) ∙ list_all-append test (flat_map claims_of a)
    (flat_map claims_of b)

-- the bytes that an event hands over are those of its claims
pub event_passes : (test : Test) (e : Event) → passes test (bytes_in e) ≡ list_all test (claims_in (event e))
event_passes test (events.Frame from bytes) = ap (list_all test) (append-nil (claims_of bytes.now))
event_passes test (events.Submit payload) = refl
event_passes test (events.Suspect p) = refl
event_passes test (events.Join p) = refl
event_passes test events.Renew = refl
event_passes test events.Tick = refl

mark_first : (test : Test) (f : Sent) (fs : List Sent) (b : Bool) → passes test (f.bytes ∷ handed_frames fs)
    ≡ (passes test (map (λ g. g.bytes) (cond b (f ∷ filter (λ g. g.handed) fs) (filter (λ g. g.handed) fs)))
    && list_all test (claims_of f.bytes))
mark_first test f fs true =
    let parts = list_all-append test (claims_of f.bytes) (flat_map claims_of (handed_frames fs)) in
    parts ∙ (sym (and_again (list_all test (claims_of f.bytes)) (passes test (handed_frames fs))) ∙ ap
    (λ b. b && list_all test (claims_of f.bytes)) (sym parts))
mark_first test f fs false =
    list_all-append test (claims_of f.bytes) (flat_map claims_of (handed_frames fs)) ∙ and_comm (list_all test (claims_of f.bytes))
    (passes test (handed_frames fs))

mark_behind : (test : Test) (g : Sent) (fs gs : List Sent) (extra : Bool) (b : Bool)
    → passes test (handed_frames gs) ≡ (passes test (handed_frames fs) && extra)
    → passes test (map (λ f. f.bytes) (cond b (g ∷ filter (λ f. f.handed) gs) (filter (λ f. f.handed) gs)))
    ≡ (passes test (map (λ f. f.bytes) (cond b (g ∷ filter (λ f. f.handed) fs) (filter (λ f. f.handed) fs))) && extra)
mark_behind test g fs gs extra true h =
    list_all-append test (claims_of g.bytes) (flat_map claims_of (handed_frames gs))
    ∙ (ap (λ b. list_all test (claims_of g.bytes) && b) h
    ∙ (sym (and_assoc (list_all test (claims_of g.bytes)) (passes test (handed_frames fs)) extra)
    ∙ ap (λ b. b && extra) (sym (list_all-append test (claims_of g.bytes) (flat_map claims_of (handed_frames fs))))))
mark_behind test g fs gs extra false h = h

-- a frame that is marked adds its claims
pub mark_adds : (test : Test) (fs : List Sent) (i : ℕ) (f : Sent) → slice_get fs i ≡ Some f
    → passes test (handed_frames (slice_set fs i (record f { handed = true })))
    ≡ (passes test (handed_frames fs) && list_all test (claims_of f.bytes))
mark_adds test [] i f get = absurd cc
mark_adds test (g ∷ gs) zero f get =
    let same : g ≡ f = cc in
    let shown : passes test (g.bytes ∷ handed_frames gs)
    ≡ (passes test (handed_frames (g ∷ gs)) && list_all test (claims_of g.bytes)) = mark_first test g gs g.handed in
    ap (λ (x : Sent). passes test (x.bytes ∷ handed_frames gs))
    (sym same) ∙ (shown ∙ ap (λ (x : Sent). passes test (handed_frames (g ∷ gs)) && list_all test (claims_of x.bytes)) same)
mark_adds test (g ∷ gs) (suc i) f get =
    mark_behind test g gs (slice_set gs i (record f { handed = true }))
    (list_all test (claims_of f.bytes)) g.handed (mark_adds test gs i f get)
