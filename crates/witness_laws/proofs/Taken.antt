-- What is taken convicts its process, and so none that is correct.
use Rattle.std.proofs.Common.{◌≡◌, inl, inr, ℕ, ◌+◌, ◌==◌, Bool, true, false, not, List, [], ◌∷◌, length, Result, Ok, Err, refl, sym, subst}
use Rattle.std.specs.Prelude.{if◌then◌else◌, All, Contains}
use Rattle.std.specs.Option.{ok_or}
use Rattle.byte_defs.proofs.Fields.{bind_ok, not_false, ok_is, refuse_ok}
use Rattle.text_defs.specs.Words.{parts_of}
use Rattle.message_defs.specs.declared.FrameFault.{FrameFault}
use Rattle.message_defs.specs.Statements.{Claim}
use Rattle.message_defs.specs.Frames.{FrameView, Bundle, Proof, Want, frame_of}
use Rattle.message_defs.specs.Claims.{Claims, Frame, claims_of, frame_said, said, said_by}
use Rattle.group_defs.specs.Process.{Process, Setting}
use Rattle.group_defs.specs.Family.{Family, IsOwned, ends, numbers, statements_of}
use Rattle.pool_laws.proofs.Members.{All-mem, Contains-mem, Mem, mem-All}
use Rattle.kit_defs.specs.KitReading.{KitFault, Line}
use Rattle.input_defs.specs.Fronts.{Front, front_of}
use Rattle.conviction_defs.specs.Convictions.{Convicts}
use Rattle.conviction_laws.proofs.Convicted.{convicted_is_convicts, conviction_is_tested}
use Rattle.audit_defs.specs.Players.{setting_of}
use Rattle.audit_defs.specs.Evidence as audit
use Rattle.audit_laws.proofs.Spared as audit_laws
use Rattle.witness_defs.specs.Lines.{Evidence, evidence_in}
use Rattle.witness_defs.specs.Judging.{Judged, NoInput, NotTaken, Refusal, claims_by, claims_in, if_read, is_taken, judged, judged_at, judged_behind}
use Rattle.witness_defs.specs.Laws.{EvidenceSparesCorrect, TakenConvicts}

-- what is read of lines
abbrev Read : Type 0
Read = Result (List Evidence) Refusal

-- ---- each line was taken

none-of : (es : List Evidence) (e : Evidence) → [] ≡ es → Mem e es → ⊥
none-of es e none m = subst (λ (xs : List Evidence). Mem e xs) (sym none) m

first-or-later : (s : Setting) (first : Evidence) (rest es : List Evidence) (e : Evidence) → first ∷ rest ≡ es → is_taken s first ≡ true
    → (Mem e rest → is_taken s e ≡ true) → Mem e es → is_taken s e ≡ true
first-or-later s first rest es e all taken later m = elim (subst (λ (xs : List Evidence). Mem e xs) (sym all) m) [
  | inl same ↦ subst (λ (x : Evidence). is_taken s x ≡ true) same taken
  | inr behind ↦ later behind
]

pub all-taken : (s : Setting) (n : ℕ) (parts : List (List ℕ)) (es : List Evidence) → judged_at s n parts ≡ Ok es → (e : Evidence) → Mem e es
    → is_taken s e ≡ true
unfolding judged_at
all-taken s n [] es h e m = absurd (none-of es e (ok_is [] es h) m)
all-taken s n (rest ∷ []) es h e m = of (length rest == 0) h
  where
    of : (b : Bool) → (let r : Read = if b then Ok [] else Err (NoInput (Line n)) in r) ≡ Ok es → is_taken s e ≡ true
    of true h = absurd (none-of es e (ok_is [] es h) m)
    of false h = absurd cc
all-taken s n (line ∷ next ∷ more) es h e m =
    let seen = bind_ok (ok_or (evidence_in line) (NoInput (Line n))) _ es h in
    let tested = refuse_ok (not (is_taken s seen.0)) (NotTaken n) _ es seen.2 in
    let others = bind_ok (judged_at s (n + 1) (next ∷ more)) _ es tested.1 in
    first-or-later s seen.0 others.0 es e (ok_is (seen.0 ∷ others.0) es others.2) (not_false (is_taken s seen.0) tested.0)
    (all-taken s (n + 1) (next ∷ more) others.0 others.1 e) m

-- what was judged was read behind a kit
record IsJudged (j : Judged) : Type 0 where
  pub number : ℕ
  pub parts : List (List ℕ)
  pub read : judged_at (setting_of j.kit) number parts ≡ Ok j.evidence

judged-so : (f : Front) (j : Judged) → judged_behind f ≡ Ok j → IsJudged j
judged-so f j h =
    let es = bind_ok (judged_at (setting_of f.kit) f.line (parts_of f.rest)) _ j h in
    subst IsJudged (ok_is (record { kit = f.kit; evidence = es.0 }) j es.2)
    (record { number = f.line; parts = parts_of f.rest; read = es.1 })

judged-is : (bytes : List ℕ) (j : Judged) → judged bytes ≡ Ok j → IsJudged j
unfolding judged
judged-is bytes j h = of (front_of bytes) h
  where
    of : (r : Result Front KitFault)
        → (let x : Result Judged Refusal = elim r [ Err fault ↦ Err (NoInput fault) | Ok f ↦ judged_behind f ] in x) ≡ Ok j → IsJudged j
    of (Err fault) h = absurd cc
    of (Ok f) h = judged-so f j h

convicts : (bytes : List ℕ) (j : Judged) → judged bytes ≡ Ok j → (e : Evidence) → Mem e j.evidence
    → Convicts (setting_of j.kit) (claims_in e) e.process
convicts bytes j h e m =
    let is = judged-is bytes j h in
    (conviction_is_tested (setting_of j.kit) (claims_in e) e.process).0
    (all-taken (setting_of j.kit) is.number is.parts j.evidence is.read e m)

pub taken_convicts : TakenConvicts
taken_convicts bytes j h =
    mem-All (λ (e : Evidence). Convicts (setting_of j.kit) (claims_in e) e.process) j.evidence (convicts bytes j h)

-- ---- and none that is correct

-- claims of evidence are those that its frame says
said-by : (r : Result FrameView FrameFault) (c : Claim) → Mem c (claims_by r) → said_by r ≡ Claims (claims_by r)
said-by (Err fault) c m = absurd m
said-by (Ok (Proof gs)) c m = absurd m
said-by (Ok (Want x k)) c m = absurd m
said-by (Ok (Bundle gs)) c m = of (claims_of (Bundle gs)) m
  where
    of : (q : Result (List Claim) FrameFault) → Mem c (if_read q) → said (Bundle gs) q ≡ Claims (if_read q)
    of (Err fault) m = absurd m
    of (Ok cs) m = refl

bundle-said : (e : Evidence) (c : Claim) → Mem c (claims_in e) → frame_said e.frame ≡ Claims (claims_in e)
unfolding frame_said
bundle-said e c m = said-by (frame_of e.frame) c m

spared : (f : Family) (e : Evidence) → All (IsOwned f) (claims_in e) → Convicts f.setting (claims_in e) e.process → ¬ Contains (numbers f) e.process
spared f e owned c =
    let said = bundle-said e c.one (Contains-mem (claims_in e) c.one c.one_of) in
    λ there. audit_laws.evidence_spares_correct f e.frame (claims_in e) said
    (λ d in' valid p at is. All-mem (λ (q : Process). q.me ≡ d.signer → Contains (statements_of q) d.statement) (ends f) p
    (All-mem (IsOwned f) (claims_in e) d owned (Contains-mem (claims_in e) d in') valid) (Contains-mem (ends f) p at) is)
    e.process there
    (subst (λ (frame : Frame). Contains (audit.convicted_by f.setting frame) e.process) (sym said)
    ((convicted_is_convicts f.setting (claims_in e) e.process).1 c))

pub evidence_spares_correct : EvidenceSparesCorrect
evidence_spares_correct f bytes j h same owned =
    mem-All (λ (e : Evidence). ¬ Contains (numbers f) e.process) j.evidence (λ e m.
    spared f e (All-mem (λ (x : Evidence). All (IsOwned f) (claims_in x)) j.evidence e owned m)
    (subst (λ (s : Setting). Convicts s (claims_in e) e.process) same (convicts bytes j h e m)))
