-- The lines of those whom an audit convicts, as they are written.
use Rattle.std.proofs.Common.{◌≡◌, ℕ, ◌<◌, ◌≤◌, Bool, true, List, [], ◌∷◌, ◌++◌, length, map, codes, inl, inr, Option, Result, Ok, Err, arith, refl, sym, ap, subst, ◌∙◌, append_assoc, Vec, Global}
use Rattle.std.specs.Prelude.{flat_map, IfOk, IsOkAnd, IsTrue, OnOk}
use Rattle.std.specs.List.{AllByRecursion}
use Rattle.std.specs.Fmt.{decimal}
use Rattle.std.specs.Io.KnownBytes.{Appends}
use Rattle.hex.specs.Hex.{IsBytes, encode_lower}
use Rattle.rp_base.specs.Streams.{AppendsPrefix}
use Rattle.text_defs.specs.Words.{line_text}
use Rattle.line_input.specs.Places.{Ends}
use Rattle.message_defs.specs.Frames.{Bundle, IsFrame, frame_bytes, groups_bytes}
use Rattle.frame_codec.specs.Drafts.{Draft, drafted}
use Rattle.stmt_codec.specs.Views.{signed}
use Rattle.message_defs.specs.Packing.{group_of}
use Rattle.pool_laws.proofs.Members.{All-mem, Mem, mem-All}
use Rattle.conviction_defs.specs.Convictions as defs
use Rattle.conviction_defs.specs.Convictions.{convictions}
use Rattle.conviction_laws.proofs.Convicted.{pair_is_first}
use Rattle.conviction_defs.specs.Laws.{IsFirstPair}
use Rattle.group_defs.specs.Process.{Setting}
use Rattle.message_defs.specs.Statements.{Claim}
use Rattle.audit_defs.specs.Audits.{Audited, audited}
use Rattle.audit_defs.specs.Evidence.{evidence_line, pair_frame}
use Rattle.audit_defs.specs.Findings as plain
use Rattle.audit_defs.specs.Findings.{reported_of}
use Rattle.audit_defs.specs.Inputs.{Input, input_of}
use Rattle.findings_json.specs.declared.findings.Conviction.{Conviction}
use Rattle.findings_json.specs.Views.{reported}
use Rattle.proof_lines.specs.Audits as core
use Rattle.proof_lines.specs.Audits.{Evidence, evidence, evidence_of}
use Rattle.witness_defs.specs.Lines as lines
use Rattle.witness_defs.specs.Lines.{convicted_by, line_with_feed}
use Rattle.witness_defs.specs.Judging.{is_taken, judged}
use Rattle.witness_defs.specs.Laws.{IsSpelled}
use Rattle.witness_laws.proofs.Spelled.{lines_are_taken}
use Rattle.proof_lines.proofs.OfListed.{audit_is_of_listed}
use Rattle.audit_defs.specs.Players.{setting_of}
use Rattle.witness_words.specs.Seen.{CanTravel, HasOneSigner, bundle_of, conviction_line, draft_of, evidence_with, line_with, travels}
use Rattle.witness_words.specs.Running.{Audits, Convicted, ConvictedInPart, JudgeTakes, text_of}
use Rattle.audit_input.proofs.Reasons.{all_audited}
use Rattle.audit_input.specs.declared.stops.Stop.{Stop}
use Rattle.audit_input.proofs.Statuses.{made_and_written}

head-is : {A : Type 0} (x y : A) (xs ys : List A) → x ∷ xs ≡ y ∷ ys → (x ≡ y) × (xs ≡ ys)
head-is x y xs ys e = (cc, cc)

-- ---- both claims have one signer

one-signer : (cs : List Conviction) (ds : List defs.Conviction) → map evidence cs ≡ map evidence_of ds
    → ((d : defs.Conviction) → Mem d ds → d.first.signer ≡ d.second.signer) → AllByRecursion HasOneSigner cs
one-signer [] ds e same = tt
one-signer (c ∷ cs) [] e same = absurd cc
one-signer (c ∷ cs) (d ∷ ds) e same =
    let both = head-is (evidence c) (evidence_of d) (map evidence cs) (map evidence_of ds) e in (
      ap (λ (x : Evidence). x.first.signer) both.0 ∙ same d (inl refl) ∙ sym (ap (λ (x : Evidence). x.second.signer) both.0),
      one-signer cs ds both.1 (λ x m. same x (inr m)),
    )

conflicting : (s : Setting) (claims : List Claim) (d : defs.Conviction) → Mem d (convictions s claims) → d.first.signer ≡ d.second.signer
conflicting s claims d m = (All-mem (IsFirstPair s claims) (convictions s claims) d (pair_is_first s claims) m).conflict.0

pub convicted-alone : (a : Audited) (f : core.Found) (cs : List Conviction) → core.IsFound a f → map evidence cs ≡ f.evidence
    → AllByRecursion HasOneSigner cs
convicted-alone a f cs found e =
    one-signer cs (convictions a.family.setting a.claims) (e ∙ found.evidence) (conflicting a.family.setting a.claims)

-- ---- their lines

line-is : (p : ℕ) (frame : List ℕ) → line_with p frame ≡ line_text (codes "evidence" ∷ decimal p ∷ encode_lower frame ∷ [])
line-is p frame = simp append_assoc

-- the line of a process whom these two claims convict
abbrev line-of : ℕ → Evidence → List ℕ
line-of p e = line_with p (frame_bytes (Bundle (group_of e.first ∷ group_of e.second ∷ [])))

same-lines : (cs : List Conviction) (ds : List defs.Conviction) → map evidence cs ≡ map evidence_of ds → map reported cs ≡ map reported_of ds
    → flat_map conviction_line cs ≡ flat_map evidence_line ds
same-lines [] [] e t = refl
same-lines [] (d ∷ ds) e t = absurd cc
same-lines (c ∷ cs) [] e t = absurd cc
same-lines (c ∷ cs) (d ∷ ds) e t =
    let both = head-is (evidence c) (evidence_of d) (map evidence cs) (map evidence_of ds) e in
    let says = head-is (reported c) (reported_of d) (map reported cs) (map reported_of ds) t in
    let one : conviction_line c ≡ evidence_line d =
    (λ i. line-of (says.0 i).process (both.0 i)) ∙ line-is d.process (pair_frame d.first d.second) in
    (λ i. one i ++ same-lines cs ds both.1 says.1 i)

-- ---- and they are taken

-- a line can spell a conviction whose Bundle was judged
pub can-travel : {A E : Type 0} (r : Result A E) (s : Setting) (c : Conviction) (w : Draft) (frame : List ℕ) (b : Bool)
    → w ≡ draft_of (group_of (signed c.first) ∷ group_of (signed c.second) ∷ []) → IsFrame (drafted w) → frame ≡ frame_bytes (drafted w)
    → IsBytes frame → b ≡ is_taken s (evidence_with c.process frame) → b ≡ true → OnOk r (c.process < 64) → OnOk r (CanTravel s c)
can-travel (Err e) s c w frame b draft is spelled bytes test holds small = tt
can-travel (Ok x) s c w frame b draft is spelled bytes test holds small =
    let same : frame ≡ bundle_of c = spelled ∙ ap (λ (d : Draft). frame_bytes (drafted d)) draft in
    let size : length (bundle_of c) ≤ 61000 = subst (λ (d : Draft). length (frame_bytes (drafted d)) ≤ 61000) draft is.size in (
      record {
        process = omega (arith, small);
        some = some-bytes (groups_bytes (group_of (signed c.first) ∷ group_of (signed c.second) ∷ []));
        few = size;
        bytes = subst IsBytes same bytes;
      },
      ap (λ (t : List ℕ). is_taken s (evidence_with c.process t)) (sym same) ∙ sym test ∙ holds,
    )
  where
    some-bytes : (rest : List ℕ) → 0 < length (1 ∷ 1 ∷ rest)
    some-bytes rest = omega arith

-- the same evidence
same-evidence : (cs : List Conviction) (ds : List defs.Conviction) → map evidence cs ≡ map evidence_of ds → map reported cs ≡ map reported_of ds
    → map travels cs ≡ map lines.evidence_of ds
same-evidence [] [] e t = refl
same-evidence [] (d ∷ ds) e t = absurd cc
same-evidence (c ∷ cs) [] e t = absurd cc
same-evidence (c ∷ cs) (d ∷ ds) e t =
    let both = head-is (evidence c) (evidence_of d) (map evidence cs) (map evidence_of ds) e in
    let says = head-is (reported c) (reported_of d) (map reported cs) (map reported_of ds) t in
    (λ i. evidence_with (says.0 i).process (frame_bytes (Bundle (group_of (both.0 i).first ∷ group_of (both.0 i).second ∷ [])))
    ∷ same-evidence cs ds both.1 says.1 i)

each-spelled : (s : Setting) (cs : List Conviction) → AllByRecursion (CanTravel s) cs → (e : lines.Evidence) → Mem e (map travels cs) → IsSpelled e
each-spelled s [] can e m = absurd m
each-spelled s (c ∷ cs) can e (inl same) = subst IsSpelled same can.0.0
each-spelled s (c ∷ cs) can e (inr m) = each-spelled s cs can.1 e m

each-taken : (s : Setting) (cs : List Conviction) → AllByRecursion (CanTravel s) cs → (e : lines.Evidence) → Mem e (map travels cs)
    → IsTrue (is_taken s e)
each-taken s [] can e m = absurd m
each-taken s (c ∷ cs) can e (inl same) = subst (λ (x : lines.Evidence). IsTrue (is_taken s x)) same can.0.1
each-taken s (c ∷ cs) can e (inr m) = each-taken s cs can.1 e m

same-text : (ds : List defs.Conviction) → flat_map evidence_line ds ≡ flat_map line_with_feed (map lines.evidence_of ds)
same-text [] = refl
same-text (d ∷ ds) = ap (λ (t : List ℕ). evidence_line d ++ t) (same-text ds)

judge-takes : (a : Audited) (s : Setting) (cs : List Conviction) → a.family.setting ≡ s → map travels cs ≡ map lines.evidence_of (convicted_by a)
    → AllByRecursion (CanTravel s) cs → JudgeTakes a
judge-takes a s cs same e can front f read none setting =
    let is : setting_of f.kit ≡ s = setting ∙ same in
    let at : AllByRecursion (CanTravel (setting_of f.kit)) cs = subst (λ (x : Setting). AllByRecursion (CanTravel x) cs) (sym is) can in
    let es : List lines.Evidence = map lines.evidence_of (convicted_by a) in
    ap (λ (t : List ℕ). judged (front ++ t)) (same-text (convicted_by a))
    ∙ lines_are_taken front f es read none
    (mem-All IsSpelled es (λ x m. each-spelled (setting_of f.kit) cs at x (subst (λ (xs : List lines.Evidence). Mem x xs) (sym e) m)))
    (mem-All (λ (x : lines.Evidence). IsTrue (is_taken (setting_of f.kit) x)) es
    (λ x m. each-taken (setting_of f.kit) cs at x (subst (λ (xs : List lines.Evidence). Mem x xs) (sym e) m)))

-- ---- of an audit

-- the lines of those whom it convicts
abbrev pub Lines : List ℕ → Option (List ℕ) → Option (List ℕ) → List ℕ → Type 0
Lines listed before now text = (a : Audits listed before now) × (text ≡ text_of a) × JudgeTakes a.audited

pub lines-are : (listed : List ℕ) (before now : Option (List ℕ)) (input : Input) (f : core.Found) (cs : List Conviction) (text : List ℕ)
    → Ends input_of before now (Ok input)
    → (a : Audited) × (audited input.kit listed input.journals ≡ Ok a) × core.IsFound a f
    → map reported cs ≡ f.reported.convicted → map evidence cs ≡ f.evidence → text ≡ flat_map conviction_line cs
    → AllByRecursion (CanTravel (setting_of input.kit)) cs → Lines listed before now text
lines-are listed before now input f cs text read found says shows written can =
    let a : Audits listed before now = record { audited = found.0; all = all_audited listed before now input read found.0 found.1 } in
    let evidence' = shows ∙ found.2.evidence in
    let reported' = says ∙ ap (λ (t : plain.Findings). t.convicted) found.2.reported in (
      a,
      written ∙ same-lines cs (convicted_by found.0) evidence' reported',
      judge-takes found.0 (setting_of input.kit) cs (audit_is_of_listed input.kit listed input.journals found.0 found.1).setting
          (same-evidence cs (convicted_by found.0) evidence' reported') can,
    )

module _ (listed : List ℕ) (before now old new : Option (List ℕ)) (made : Result (Vec ℕ Global) Stop)
    (is : IfOk made (λ text. Lines listed before now text.items)) where
  pub convicted : IsOkAnd made (λ text. Appends old new text.items) → Convicted listed before now old new
  convicted wrote =
      let m = made_and_written (λ (text : Vec ℕ Global). Lines listed before now text.items) (λ text. Appends old new text.items) made is wrote in
      record { audits = m.1.0; wrote = subst (Appends old new) m.1.1 m.2; taken = m.1.2 }

  pub convicted-in-part : IsOkAnd made (λ text. AppendsPrefix old new text.items) → ConvictedInPart listed before now old new
  convicted-in-part wrote =
      let m = made_and_written (λ (text : Vec ℕ Global). Lines listed before now text.items) (λ text. AppendsPrefix old new text.items) made is wrote in
      record { audits = m.1.0; wrote = subst (AppendsPrefix old new) m.1.1 m.2 }
