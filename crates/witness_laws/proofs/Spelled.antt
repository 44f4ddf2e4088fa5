-- What is written of convictions is read and taken.
use Rattle.std.proofs.Common.{◌≡◌, inl, inr, ℕ, ◌+◌, ◌*◌, ◌/◌, ◌<◌, ◌≤◌, ◌==◌, Bool, true, false, not, List, [], ◌∷◌, ◌++◌, length, map, codes, Option, None, Some, Result, Ok, Err, refl, sym, ap, subst, ◌∙◌, arith, length-append}
use Rattle.std.specs.Prelude.{if◌then◌else◌, nat_lt, ◌&&◌, filter, flat_map, All, IsTrue, option_map}
use Rattle.std.specs.List.{join_with_byte, list_any}
use Rattle.std.specs.Option.{ok_or}
use Rattle.std.specs.Int.{w8}
use Rattle.std.specs.Fmt.{decimal}
use Rattle.std.proofs.lemmas.Bool.{eqb-true, le-ltb, ltb-false, ne_eqb, or_from}
use Rattle.std.proofs.lemmas.Fmt.{length-decimal-le}
use Rattle.hex.specs.Hex.{encode_lower, lower_digits}
use Rattle.hex.proofs.HexLemmas.{length-encode_with}
use Rattle.byte_defs.specs.Choices.{and_then}
use Rattle.byte_defs.specs.Fields.{◌>>=◌, number_at, refuse_if}
use Rattle.byte_defs.proofs.Fields.{bind_ok, byte_again, ok_is, refuse_ok}
use Rattle.text_defs.specs.Words.{bytes_of, line_feed, parts_of, space, words_of}
use Rattle.text_defs.proofs.Bytes.{bytes_spelled}
use Rattle.text_defs.proofs.Lines.{decimal_has_no, has_byte, hex_has_no, join_has_no, lines_text, parts_of_lines, words_of_join}
use Rattle.text_defs.proofs.Numbers.{number_within_spelled}
use Rattle.text_defs.proofs.Tests.{and_true}
use Rattle.message_defs.specs.Limits.{most_frame_bytes}
use Rattle.message_defs.specs.declared.FrameFault.{FrameFault}
use Rattle.message_defs.specs.declared.FrameFault.TheVariants as faults
use Rattle.message_defs.specs.Statements.{Claim}
use Rattle.message_defs.specs.Frames.{FrameView, Bundle, Proof, Want, all_groups, frame_of, groups_as, groups_bytes, want_at}
use Rattle.message_defs.specs.Packing.{group_of, signed_of}
use Rattle.message_defs.specs.Claims.{Claims, claims_of, frame_said, said, said_by}
use Rattle.group_defs.specs.Process.{Setting}
use Rattle.group_defs.specs.Hearing.{is_valid}
use Rattle.pool_laws.proofs.Members.{All-mem, Mem, filter-mem, map-mem, mem-All, mem-Contains, mem-behind}
use Rattle.kit_defs.specs.KitReading.{KitFault, Line}
use Rattle.input_defs.specs.Fronts.{Front, front_of}
use Rattle.front_laws.specs.Fronts.{with_more}
use Rattle.front_laws.proofs.Fronts.{fronts_go_on}
use Rattle.conviction_defs.specs.Convictions.{Conviction, Convicts, convictions}
use Rattle.conviction_defs.specs.Laws.{IsFirstPair}
use Rattle.conviction_laws.proofs.Convicted.{conviction_is_tested, pair_is_first}
use Rattle.evidence_laws.proofs.Evidence.{pair-said}
use Rattle.chain_text_defs.specs.Chains.{frame_in}
use Rattle.audit_defs.specs.Players.{setting_of}
use Rattle.audit_defs.specs.Evidence.{evidence_line, pair_frame}
use Rattle.witness_defs.specs.Lines.{Evidence, evidence_by, evidence_in, evidence_of, line_with_feed, most_evidence_line}
use Rattle.witness_defs.specs.Judging.{Judged, NoInput, NotTaken, Refusal, claims_by, claims_in, if_read, is_taken, judged, judged_at, judged_behind}
use Rattle.witness_defs.specs.Laws.{CanBeCarried, EvidenceConvicts, IsSpelled, LinesAreTaken}

-- ---- the frame

-- the frame that was read is a Bundle
abbrev IsBundle : FrameView → Type 0
IsBundle (Bundle gs) = Unit {0}
IsBundle (Proof gs) = ⊥
IsBundle (Want x k) = ⊥

-- a frame that was read of bytes has few of them
few-bytes : (bytes : List ℕ) (f : FrameView) → frame_of bytes ≡ Ok f → length bytes ≤ 61000
unfolding frame_of
few-bytes bytes f e = ltb-false most_frame_bytes (length bytes) (refuse_ok (nat_lt most_frame_bytes (length bytes)) faults.Length _ f e).0

by-kind : (kind : ℕ) (bytes : List ℕ) (f : FrameView) → kind ≡ 1 → (if kind == 1 then groups_as Bundle (all_groups bytes) else
    (if kind == 2 then groups_as Proof (all_groups bytes) else (if kind == 3 then want_at bytes else Err faults.Kind))) ≡ Ok f → IsBundle f
by-kind kind bytes f one e =
    let is : groups_as Bundle (all_groups bytes) ≡ Ok f = rw one at e in
    let gs = bind_ok (all_groups bytes) _ f is in
    subst IsBundle (ok_is (Bundle gs.0) f gs.2) tt

-- bytes that begin as a Bundle does are no other frame
is-bundle : (rest : List ℕ) (f : FrameView) → frame_of (1 ∷ 1 ∷ rest) ≡ Ok f → IsBundle f
unfolding frame_of
is-bundle rest f e =
    let few = refuse_ok (nat_lt most_frame_bytes (length (1 ∷ 1 ∷ rest))) faults.Length _ f e in
    let version = bind_ok (number_at faults.Short w8 (1 ∷ 1 ∷ rest)) _ f few.1 in
    let at_version = ok_is (1, 1 ∷ rest) version.0 (sym (byte_again faults.Short 1 (1 ∷ rest)) ∙ version.1) in
    let one = refuse_ok (not (version.0.0 == 1)) faults.Version _ f version.2 in
    let kind = bind_ok (number_at faults.Short w8 version.0.1) _ f one.1 in
    let at_kind = ok_is (1, rest) kind.0
    (sym (ap (λ (p : ℕ × List ℕ). number_at faults.Short w8 p.1) (sym at_version) ∙ byte_again faults.Short 1 rest) ∙ kind.1) in
    by-kind kind.0.0 kind.0.1 f (sym (ap (λ (p : ℕ × List ℕ). p.0) at_kind)) kind.2

-- what is said by a frame that was read
record IsSaid (bytes : List ℕ) (cs : List Claim) : Type 0 where
  frame : FrameView
  read : frame_of bytes ≡ Ok frame
  claims : said frame (claims_of frame) ≡ Claims cs

said-is : (bytes : List ℕ) (cs : List Claim) → frame_said bytes ≡ Claims cs → IsSaid bytes cs
unfolding frame_said
said-is bytes cs h = of (frame_of bytes) refl h
  where
    of : (r : Result FrameView FrameFault) → frame_of bytes ≡ r → said_by r ≡ Claims cs → IsSaid bytes cs
    of (Err fault) e h = absurd cc
    of (Ok f) e h = record { frame = f; read = e; claims = h }

claims-by : (f : FrameView) (cs : List Claim) → IsBundle f → said f (claims_of f) ≡ Claims cs → claims_by (Ok f) ≡ cs
claims-by (Proof gs) cs is h = absurd is
claims-by (Want x k) cs is h = absurd is
claims-by (Bundle gs) cs is h = of (claims_of (Bundle gs)) h
  where
    of : (q : Result (List Claim) FrameFault) → said (Bundle gs) q ≡ Claims cs → if_read q ≡ cs
    of (Err fault) h = absurd cc
    of (Ok ds) h = cc

module _ (c : Conviction) (can : CanBeCarried c) where
  abbrev frame : List ℕ
  frame = pair_frame c.first c.second

  pair-read : IsSaid frame (c.first ∷ c.second ∷ [])
  pair-read = said-is frame (c.first ∷ c.second ∷ []) (pair-said c.first c.second can.first can.second)

  pair-short : length frame ≤ 61000
  pair-short = few-bytes frame pair-read.frame pair-read.read

  pair-claims : claims_in (evidence_of c) ≡ c.first ∷ c.second ∷ []
  pair-claims =
      ap claims_by pair-read.read
      ∙ claims-by pair-read.frame (c.first ∷ c.second ∷ [])
      (is-bundle (groups_bytes (group_of (signed_of c.first) ∷ group_of (signed_of c.second) ∷ [])) pair-read.frame pair-read.read)
      pair-read.claims

-- ---- the conviction

module _ (s : Setting) (claims : List Claim) (c : Conviction) (m : Mem c (convictions s claims)) where
  pair : IsFirstPair s claims c
  pair = All-mem (IsFirstPair s claims) (convictions s claims) c (pair_is_first s claims) m

  abbrev own : Claim → Bool
  own d = (d.signer == c.process) && is_valid s d

  own-tested : (d : Claim) → Mem d (filter own claims) → (d.signer ≡ c.process) × (is_valid s d ≡ true)
  own-tested d there =
      let test = and_true (d.signer == c.process) (is_valid s d) (filter-mem own claims d there).1 in
      (eqb-true d.signer c.process test.0, test.1)

  first-tested : (c.first.signer ≡ c.process) × (is_valid s c.first ≡ true)
  first-tested = own-tested c.first (subst (λ (ds : List Claim). Mem c.first ds) (sym pair.parts)
      (mem-behind pair.before (c.first ∷ (pair.between ++ c.second ∷ pair.behind)) c.first (inl refl)))

  second-tested : (c.second.signer ≡ c.process) × (is_valid s c.second ≡ true)
  second-tested = own-tested c.second (subst (λ (ds : List Claim). Mem c.second ds) (sym pair.parts)
      (mem-behind pair.before (c.first ∷ (pair.between ++ c.second ∷ pair.behind)) c.second
      (inr (mem-behind pair.between (c.second ∷ pair.behind) c.second (inl refl)))))

  pair-convicts : Convicts s (c.first ∷ c.second ∷ []) c.process
  pair-convicts = record {
    one = c.first;
    other = c.second;
    one_of = mem-Contains (c.first ∷ c.second ∷ []) c.first (inl refl);
    other_of = mem-Contains (c.first ∷ c.second ∷ []) c.second (inr (inl refl));
    signer = first-tested.0;
    one_valid = first-tested.1;
    other_valid = second-tested.1;
    conflict = pair.conflict;
  }

  pair-taken : CanBeCarried c → is_taken s (evidence_of c) ≡ true
  pair-taken can = (conviction_is_tested s (claims_in (evidence_of c)) c.process).1
      (subst (λ (cs : List Claim). Convicts s cs c.process) (sym (pair-claims c can)) pair-convicts)

  pair-spelled : CanBeCarried c → IsSpelled (evidence_of c)
  pair-spelled can = record {
    process = subst (λ p. p ≤ 63) first-tested.0 can.first.0;
    some = omega arith;
    few = pair-short c can;
    bytes = can.bytes;
  }

-- ---- the line

-- without its line feed
abbrev line_of : Evidence → List ℕ
line_of e = join_with_byte space (codes "evidence" ∷ decimal e.process ∷ encode_lower e.frame ∷ [])

module _ (e : Evidence) (is : IsSpelled e) where
  abbrev hex : List ℕ
  hex = encode_lower e.frame

  abbrev words : List (List ℕ)
  words = codes "evidence" ∷ decimal e.process ∷ hex ∷ []

  marks : (m : ℕ) → 0 < m → m < 48 → has_byte m (codes "evidence") ≡ false → list_any (has_byte m) words ≡ false
  marks m some low name =
      or_from (has_byte m (codes "evidence")) (list_any (has_byte m) (decimal e.process ∷ hex ∷ [])) name
      (or_from (has_byte m (decimal e.process)) (list_any (has_byte m) (hex ∷ [])) (decimal_has_no m e.process low (omega (arith, is.process)))
      (or_from (has_byte m hex) false (hex_has_no m e.frame some low) refl))

  line-words : words_of (line_of e) ≡ words
  line-words = words_of_join (codes "evidence") (decimal e.process ∷ hex ∷ []) (marks space (omega arith) (omega arith) refl)

  pub no-feed : has_byte line_feed (line_of e) ≡ false
  no-feed = join_has_no line_feed words refl (marks line_feed (omega arith) (omega arith) refl)

  hex-length : length hex ≡ 2 * length e.frame
  hex-length = length-encode_with lower_digits e.frame

  line-short : nat_lt most_evidence_line (length (line_of e)) ≡ false
  line-short =
      let number = length-decimal-le 2 e.process (omega arith) (omega (arith, is.process)) (omega (arith, is.process)) in
      let behind = length-append (decimal e.process) (space ∷ hex) in
      let all = length-append (codes "evidence") (space ∷ (decimal e.process ++ space ∷ hex)) in
      le-ltb most_evidence_line (length (line_of e)) (omega (arith, number, behind, all, hex-length, is.few))

  frame-read : frame_in hex ≡ Some e.frame
  frame-read =
      let half : length hex / 2 ≡ length e.frame = omega (arith, hex-length) in
      let some : (length hex == 0) ≡ false = ne_eqb (length hex) 0 (λ none. omega (arith, none, hex-length, is.some)) in
      (λ i. if some i then None else bytes_of (half i) hex) ∙ bytes_spelled (length e.frame) e.frame (refl, is.bytes)

  pub line-read : evidence_in (line_of e) ≡ Some e
  unfolding evidence_in
  line-read =
      (λ i. if line-short i then None else evidence_by (line-words i))
      ∙ ap (λ o. and_then o (λ p. option_map (λ (bytes : List ℕ). record { process = p; frame = bytes }) (frame_in hex)))
      (number_within_spelled 0 63 e.process (omega arith) is.process (omega (arith, is.process)))
      ∙ ap (option_map (λ (bytes : List ℕ). record { process = e.process; frame = bytes })) frame-read

-- ---- all lines

text-is : (es : List Evidence) → flat_map line_with_feed es ≡ lines_text (map line_of es)
text-is [] = refl
text-is (e ∷ es) = ap (λ (t : List ℕ). (line_of e ++ line_feed ∷ []) ++ t) (text-is es)

-- each can be spelled, and is taken
abbrev AreGood : Setting → List Evidence → Type 0
AreGood s es = (e : Evidence) → Mem e es → IsSpelled e × (is_taken s e ≡ true)

feeds : (s : Setting) (es : List Evidence) → AreGood s es → list_any (has_byte line_feed) (map line_of es) ≡ false
feeds s [] good = refl
feeds s (e ∷ es) good = or_from (has_byte line_feed (line_of e)) (list_any (has_byte line_feed) (map line_of es))
    (no-feed e (good e (inl refl)).0) (feeds s es (λ d m. good d (inr m)))

-- a further part comes
one-line : (s : Setting) (n : ℕ) (e : Evidence) (next : List ℕ) (more : List (List ℕ)) (es : List Evidence) → IsSpelled e → is_taken s e ≡ true
    → judged_at s (n + 1) (next ∷ more) ≡ Ok es → judged_at s n (line_of e ∷ next ∷ more) ≡ Ok (e ∷ es)
unfolding judged_at
one-line s n e next more es is taken rest =
    ap (λ (o : Option Evidence). ok_or o (NoInput (Line n)) >>= λ x. refuse_if (not (is_taken s x)) (NotTaken n)
    >>= λ u. judged_at s (n + 1) (next ∷ more) >>= λ others. Ok (x ∷ others)) (line-read e is)
    ∙ ap (λ (b : Bool). refuse_if (not b) (NotTaken n)
    >>= λ u. judged_at s (n + 1) (next ∷ more) >>= λ others. Ok (e ∷ others)) taken
    ∙ ap (λ (r : Result (List Evidence) Refusal). r >>= λ others. Ok (e ∷ others)) rest

all-lines : (s : Setting) (n : ℕ) (es : List Evidence) → AreGood s es → judged_at s n (map line_of es ++ [] ∷ []) ≡ Ok es
unfolding judged_at
all-lines s n [] good = refl
all-lines s n (e ∷ []) good =
    one-line s n e [] [] [] (good e (inl refl)).0 (good e (inl refl)).1 (all-lines s (n + 1) [] (λ d m. good d (inr m)))
all-lines s n (e ∷ d ∷ es) good =
    one-line s n e (line_of d) (map line_of es ++ [] ∷ []) (d ∷ es) (good e (inl refl)).0 (good e (inl refl)).1
    (all-lines s (n + 1) (d ∷ es) (λ x m. good x (inr m)))

lines-taken : (s : Setting) (n : ℕ) (es : List Evidence) → AreGood s es → judged_at s n (parts_of (flat_map line_with_feed es)) ≡ Ok es
lines-taken s n es good =
    ap (λ (t : List ℕ). judged_at s n (parts_of t)) (text-is es)
    ∙ ap (judged_at s n) (parts_of_lines (map line_of es) (feeds s es good))
    ∙ all-lines s n es good

pub lines_are_taken : LinesAreTaken
unfolding judged
lines_are_taken front f es read none spelled taken =
    let text : List ℕ = flat_map line_with_feed es in
    let more : front_of (front ++ text) ≡ Ok (with_more text f) = fronts_go_on front text f read in
    ap (λ (r : Result Front KitFault). let x : Result Judged Refusal = elim r [ Err fault ↦ Err (NoInput fault) | Ok g ↦ judged_behind g ] in x) more
    ∙ ap (λ (rest : List ℕ). judged_at (setting_of f.kit) f.line (parts_of (rest ++ text)) >>= λ es. Ok (record { kit = f.kit; evidence = es })) none
    ∙ ap (λ (r : Result (List Evidence) Refusal). r >>= λ es. Ok (record { kit = f.kit; evidence = es }))
    (lines-taken (setting_of f.kit) f.line es (λ e m. (
      All-mem IsSpelled es e spelled m,
      All-mem (λ (x : Evidence). IsTrue (is_taken (setting_of f.kit) x)) es e taken m,
    )))

-- ---- of convictions

same-text : (cs : List Conviction) → flat_map evidence_line cs ≡ flat_map line_with_feed (map evidence_of cs)
same-text [] = refl
same-text (c ∷ cs) = ap (λ (t : List ℕ). evidence_line c ++ t) (same-text cs)

mapped : {A B : Type 0} (P : B → Type 0) (f : A → B) (xs : List A) → ((x : A) → Mem x xs → P (f x)) → All P (map f xs)
mapped P f xs each = mem-All P (map f xs) (λ y m. let x = map-mem f xs y m in subst P x.2 (each x.0 x.1))

pub evidence_convicts : EvidenceConvicts
evidence_convicts front f claims read none can =
    let s : Setting = setting_of f.kit in
    let cs : List Conviction = convictions s claims in
    ap (λ (t : List ℕ). judged (front ++ t)) (same-text cs)
    ∙ lines_are_taken front f (map evidence_of cs) read none
    (mapped IsSpelled evidence_of cs (λ c m. pair-spelled s claims c m (All-mem CanBeCarried cs c can m)))
    (mapped (λ (e : Evidence). IsTrue (is_taken s e)) evidence_of cs (λ c m. pair-taken s claims c m (All-mem CanBeCarried cs c can m)))
