-- What is written of a process's views is read as a chain of them.
use Rattle.std.proofs.Common.{◌≡◌, inl, inr, ℕ, zero, suc, ◌+◌, ◌*◌, ◌/◌, ◌<◌, ◌≤◌, ◌==◌, Bool, true, false, List, [], ◌∷◌, ◌++◌, length, map, take, codes, Option, None, Some, Result, Ok, Err, refl, sym, ap, subst, ◌∙◌, arith, slice_get, length-append}
use Rattle.std.specs.Prelude.{if◌then◌else◌, nat_lt, flat_map, All}
use Rattle.std.specs.List.{join_with_byte, list_any}
use Rattle.std.specs.Fmt.{decimal}
use Rattle.std.proofs.lemmas.Bool.{le-ltb, ne_eqb, or_from}
use Rattle.std.proofs.lemmas.List.Elements.{All-head, All-tail}
use Rattle.hex.specs.Hex.{IsBytes, encode_lower, lower_digits}
use Rattle.hex.proofs.HexLemmas.{length-encode_with}
use Rattle.text_defs.specs.Words.{bytes_of, line_feed, line_text, parts_of, space, words_of}
use Rattle.text_defs.proofs.Bytes.{bytes_spelled}
use Rattle.text_defs.proofs.Lines.{has_byte, hex_has_no, join_has_no, lines_text, parts_of_lines, words_of_join}
use Rattle.message_defs.specs.Limits.{most_frame_bytes}
use Rattle.message_defs.specs.Spelling.{IsClaim}
use Rattle.kit_defs.specs.KitReading.{KitFault}
use Rattle.input_defs.specs.Fronts.{Front, front_of}
use Rattle.front_laws.specs.Fronts.{with_more}
use Rattle.front_laws.proofs.Fronts.{fronts_go_on}
use Rattle.group_defs.specs.Views.{View}
use Rattle.group_defs.specs.Process.{Left, Process, Setting, start, views_of}
use Rattle.group_defs.specs.Events.{run}
use Rattle.pool_laws.proofs.Members.{All-mem, Mem}
use Rattle.safety_laws.proofs.ViewsInARow.{views_in_a_row}
use Rattle.letter_laws.proofs.Frames.{proof-fits}
use Rattle.chain_defs.specs.declared.ChainFault.{ChainFault}
use Rattle.chain_defs.specs.Advance.{advance}
use Rattle.chain_text_defs.specs.Chains.{Answer, behind, chain_at, chain_from, chain_of, done, frame_in, kit_words, most_proof_line, proof_by, proof_in, proof_words, setting_of, stopped, view_line}
use Rattle.proof_defs.specs.Lines.{proof_frames, proof_line, words_by}
use Rattle.proof_defs.specs.Laws.{Began, HasFrame, LinesAreAChain}
use Rattle.proof_laws.proofs.Frames.{frame-some, frame_shows}

-- ---- a line

-- a frame that a line can carry
pub record IsCarried (frame : List ℕ) : Type 0 where
  pub some : 0 < length frame
  pub few : length frame ≤ most_frame_bytes
  pub bytes : IsBytes frame

-- its line, without the line feed
abbrev pub line_of : List ℕ → List ℕ
line_of frame = join_with_byte space (codes "proof" ∷ encode_lower frame ∷ [])

module _ (frame : List ℕ) (is : IsCarried frame) where
  abbrev hex : List ℕ
  hex = encode_lower frame

  abbrev words : List (List ℕ)
  words = codes "proof" ∷ hex ∷ []

  marks : (m : ℕ) → 0 < m → m < 48 → has_byte m (codes "proof") ≡ false → list_any (has_byte m) words ≡ false
  marks m some low name =
      or_from (has_byte m (codes "proof")) (list_any (has_byte m) (hex ∷ [])) name
      (or_from (has_byte m hex) false (hex_has_no m frame some low) refl)

  line-words : words_of (line_of frame) ≡ words
  line-words = words_of_join (codes "proof") (hex ∷ []) (marks space (omega arith) (omega arith) refl)

  no-feed : has_byte line_feed (line_of frame) ≡ false
  no-feed = join_has_no line_feed words refl (marks line_feed (omega arith) (omega arith) refl)

  hex-length : length hex ≡ 2 * length frame
  hex-length = length-encode_with lower_digits frame

  line-short : nat_lt most_proof_line (length (line_of frame)) ≡ false
  line-short =
      let all = length-append (codes "proof") (space ∷ hex) in
      le-ltb most_proof_line (length (line_of frame)) (omega (arith, all, hex-length, is.few))

  frame-read : frame_in hex ≡ Some frame
  frame-read =
      let half : length hex / 2 ≡ length frame = omega (arith, hex-length) in
      let some : (length hex == 0) ≡ false = ne_eqb (length hex) 0 (λ none. omega (arith, none, hex-length, is.some)) in
      (λ i. if some i then None else bytes_of (half i) hex) ∙ bytes_spelled (length frame) frame (refl, is.bytes)

  line-read : proof_in (line_of frame) ≡ Some frame
  unfolding proof_in
  line-read = (λ i. if line-short i then None else proof_by (line-words i)) ∙ frame-read

-- ---- lines of frames that show views

module _ (s : Setting) where
  -- the frames show these views, one after another, from a view on
  abbrev pub Show : View → List (List ℕ) → List View → Type 0
  Show v [] ws = ws ≡ []
  Show v (frame ∷ frames) ws = (w : View) × (more : List View) × (ws ≡ w ∷ more) × (advance s v frame ≡ Ok w) × Show w frames more

  abbrev pub said : List View → Answer
  said ws = record { written = flat_map view_line ws; status = 0 }

  -- a further part comes
  one-line : (n : ℕ) (v w : View) (frame next : List ℕ) (parts : List (List ℕ)) (ws : List View) → IsCarried frame → advance s v frame ≡ Ok w
      → chain_at s (n + 1) w (next ∷ parts) ≡ said ws → chain_at s n v (line_of frame ∷ next ∷ parts) ≡ said (w ∷ ws)
  unfolding chain_at
  one-line n v w frame next parts ws is shows rest =
      ap (λ (o : Option (List ℕ)). let a : Answer = elim o [
        | None ↦ stopped (codes "line" ∷ decimal n ∷ [])
        | Some bytes ↦ elim (advance s v bytes) [
          | Err fault ↦ stopped (proof_words n fault)
          | Ok u ↦ behind (view_line u) (chain_at s (n + 1) u (next ∷ parts))
        ]
      ] in a) (line-read frame is)
      ∙ ap (λ (r : Result View ChainFault). let a : Answer = elim r [
        | Err fault ↦ stopped (proof_words n fault)
        | Ok u ↦ behind (view_line u) (chain_at s (n + 1) u (next ∷ parts))
      ] in a) shows
      ∙ ap (behind (view_line w)) rest

  pub all-lines : (n : ℕ) (v : View) (frames : List (List ℕ)) (ws : List View) → ((frame : List ℕ) → Mem frame frames → IsCarried frame)
      → Show v frames ws → chain_at s n v (map line_of frames ++ [] ∷ []) ≡ said ws
  unfolding chain_at
  all-lines n v [] ws each show = ap said (sym show)
  all-lines n v (frame ∷ []) ws each show =
      one-line n v show.0 frame [] [] show.1 (each frame (inl refl)) show.3 (all-lines (n + 1) show.0 [] show.1 (λ f m. each f (inr m)) show.4)
      ∙ ap said (sym show.2)
  all-lines n v (frame ∷ next ∷ frames) ws each show =
      one-line n v show.0 frame (line_of next) (map line_of frames ++ [] ∷ []) show.1 (each frame (inl refl)) show.3
      (all-lines (n + 1) show.0 (next ∷ frames) show.1 (λ f m. each f (inr m)) show.4)
      ∙ ap said (sym show.2)

  pub feeds : (frames : List (List ℕ)) → ((frame : List ℕ) → Mem frame frames → IsCarried frame) → list_any (has_byte line_feed) (map line_of frames) ≡ false
  feeds [] each = refl
  feeds (frame ∷ frames) each = or_from (has_byte line_feed (line_of frame)) (list_any (has_byte line_feed) (map line_of frames))
      (no-feed frame (each frame (inl refl))) (feeds frames (λ f m. each f (inr m)))

  -- their lines are answered by the lines of the views
  pub lines-show : (n : ℕ) (v : View) (frames : List (List ℕ)) (ws : List View) → ((frame : List ℕ) → Mem frame frames → IsCarried frame)
      → Show v frames ws → chain_at s n v (parts_of (lines_text (map line_of frames))) ≡ said ws
  lines-show n v frames ws each show = ap (chain_at s n v) (parts_of_lines (map line_of frames) (feeds frames each)) ∙ all-lines n v frames ws each show

-- ---- the lines of a process

-- the view of the first of these, or else the last one
abbrev pub first-view : List Left → View → View
first-view [] last = last
first-view (l ∷ ls) last = l.view

-- the views of these, and the last one
abbrev pub all-views : List Left → View → List View
all-views ls last = map (λ (l : Left). l.view) ls ++ last ∷ []

-- the views but the first one
abbrev pub later-views : List Left → View → List View
later-views [] last = []
later-views (l ∷ ls) last = all-views ls last

pub first-is : (ls : List Left) (last : View) → all-views ls last ≡ first-view ls last ∷ later-views ls last
first-is [] last = refl
first-is (l ∷ ls) last = refl

module _ (s : Setting) (me : ℕ) where
  -- the frame that is said of each view shows the next one
  abbrev pub Steps : List Left → View → Type 0
  Steps ls last = (j : ℕ) (l : Left) (w : View) → slice_get ls j ≡ Some l → slice_get (all-views ls last) (j + 1) ≡ Some w → (has : HasFrame l)
      → advance s l.view has.frame ≡ Ok w

  -- frames that the lines of so many views carry, and the views that they show
  pub record Carried (n : ℕ) (ls : List Left) (last : View) : Type 0 where
    pub frames : List (List ℕ)
    pub text : flat_map (proof_line me) (take n ls) ≡ lines_text (map line_of frames)
    pub each : (frame : List ℕ) → Mem frame frames → IsCarried frame
    pub show : Show s (first-view ls last) frames (take n (later-views ls last))

  pub carried : (n : ℕ) (ls : List Left) (last : View) → Steps ls last → n ≤ length ls → All HasFrame (take n ls) → Carried n ls last
  carried zero ls last steps few has = record { frames = []; text = refl; each = λ f none. absurd none; show = refl }
  carried (suc n) [] last steps few has = absurd (omega (arith, few))
  carried (suc n) (l ∷ ls) last steps few has =
      let rest = carried n ls last (λ j k w at next. steps (suc j) k w at (later j w next)) (omega (arith, few)) (All-tail HasFrame l (take n ls) has) in
      let here : HasFrame l = All-head HasFrame l (take n ls) has in
      let next : slice_get (all-views (l ∷ ls) last) 1 ≡ Some (first-view ls last) = ap (λ (vs : List View). slice_get vs 0) (first-is ls last) in
      record {
        frames = here.frame ∷ rest.frames;
        text = (λ i. line_text (codes "proof" ∷ words_by me (here.one i)) ++ rest.text i);
        each = λ f m. elim m [ inl same ↦ subst IsCarried same (frame-carried l here) | inr there ↦ rest.each f there ];
        show = (first-view ls last, take n (later-views ls last), ap (take (suc n)) (first-is ls last), steps 0 l (first-view ls last) refl next here, rest.show);
      }
    where
      later : (j : ℕ) (w : View) → slice_get (all-views ls last) (j + 1) ≡ Some w → slice_get (all-views (l ∷ ls) last) (suc j + 1) ≡ Some w
      later j w next =
          let same : suc (j + 1) ≡ suc j + 1 = omega arith in
          subst (λ k. slice_get (all-views (l ∷ ls) last) k ≡ Some w) same next

      frame-carried : (l : Left) (here : HasFrame l) → IsCarried here.frame
      frame-carried l here = record {
        some = frame-some l.commit here.frame here.one;
        few = proof-fits l.commit (λ c m. All-mem IsClaim l.commit c here.claims m) here.frame
            (subst (λ (fs : List (List ℕ)). Mem here.frame fs) (sym here.one) (inl refl));
        bytes = here.bytes;
      }

first-process : (s : Setting) (p : Process) → Began s p → first-view p.left p.pool.view ≡ s.genesis
first-process s p b =
    let q : Process = run s (start s b.me b.batch_limit) b.turns in
    let row = (views_in_a_row s b.me b.batch_limit b.turns).first in
    some-view (first-view p.left p.pool.view) s.genesis
    (ap (λ (vs : List View). slice_get vs 0) (sym (first-is p.left p.pool.view)) ∙ ap (λ (r : Process). slice_get (views_of r) 0) (sym b.is) ∙ row)
  where
    some-view : (v w : View) → (let o : Option View = Some v in o) ≡ Some w → v ≡ w
    some-view v w e = cc

-- behind the kit
opened : (bytes : List ℕ) (f : Front) → front_of bytes ≡ Ok f → chain_of bytes ≡ chain_from f
unfolding chain_of
opened bytes f e = ap (λ (r : Result Front KitFault). let a : Answer = elim r [
  | Err fault ↦ stopped (kit_words fault)
  | Ok g ↦ chain_from g
] in a) e

pub lines_are_a_chain : LinesAreAChain
lines_are_a_chain front f p n read none b few has =
    let s : Setting = setting_of f.kit in
    let text : List ℕ = flat_map (proof_line p.me) (take n p.left) in
    let all = carried s p.me n p.left p.pool.view (λ j l w at next here. frame_shows s p j l w b at next here) few has in
    let first : first-view p.left p.pool.view ≡ s.genesis = first-process s p b in
    let more : front_of (front ++ text) ≡ Ok (with_more text f) = fronts_go_on front text f read in
    let shown = lines-show s f.line s.genesis all.frames (take n (later-views p.left p.pool.view)) all.each
    (subst (λ (v : View). Show s v all.frames (take n (later-views p.left p.pool.view))) first all.show) in
    let one : n + 1 ≡ suc n = omega arith in
    opened (front ++ text) (with_more text f) more
    ∙ ap (λ (rest : List ℕ). behind (view_line s.genesis) (chain_at s f.line s.genesis (parts_of (rest ++ text)))) none
    ∙ ap (λ (t : List ℕ). behind (view_line s.genesis) (chain_at s f.line s.genesis (parts_of t))) all.text
    ∙ ap (behind (view_line s.genesis)) shown
    ∙ ap (λ (v : View). let a : Answer = record { written = flat_map view_line (v ∷ take n (later-views p.left p.pool.view)); status = 0 } in a) (sym first)
    ∙ ap (λ (vs : List View). let a : Answer = record { written = flat_map view_line vs; status = 0 } in a)
    (ap (take (suc n)) (sym (first-is p.left p.pool.view)) ∙ ap (λ k. take k (views_of p)) (sym one))
