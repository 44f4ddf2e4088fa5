-- What is written of a process's views from any of them on is read as a chain that begins there.
use Rattle.std.proofs.Common.{◌≡◌, inl, inr, ℕ, zero, suc, ◌+◌, ◌<◌, ◌≤◌, Bool, true, false, List, [], ◌∷◌, ◌++◌, length, map, take, drop, codes, Option, None, Some, Result, Ok, Err, refl, sym, ap, subst, ◌∙◌, arith, slice_get, append_assoc}
use Rattle.std.specs.Prelude.{flat_map, All, if◌then◌else◌}
use Rattle.std.specs.List.{AllByRecursion, join_with_byte, list_any}
use Rattle.std.specs.Fmt.{decimal}
use Rattle.std.proofs.lemmas.Bool.{or_from}
use Rattle.text_defs.specs.Words.{line_feed, parts_of, space}
use Rattle.text_defs.proofs.Lines.{decimal_has_no, has_byte, join_has_no, lines_text, parts_of_lines}
use Rattle.kit_defs.specs.KitReading.{KitFault}
use Rattle.input_defs.specs.Fronts.{Front, front_of}
use Rattle.front_laws.specs.Fronts.{with_more}
use Rattle.front_laws.proofs.Fronts.{fronts_go_on}
use Rattle.group_defs.specs.Views.{View}
use Rattle.group_defs.specs.Process.{Left, Process, Setting, views_of}
use Rattle.pool_laws.proofs.Members.{Mem}
use Rattle.pool_laws.proofs.Places.{get-drop}
use Rattle.chain_text_defs.specs.Chains.{Answer, behind, chain_at, setting_of, view_line}
use Rattle.proof_defs.specs.Lines.{proof_line}
use Rattle.proof_defs.specs.Starts.{start_in, started_at, started_chain_of, started_from, reported_from}
use Rattle.proof_defs.specs.Laws.{Began, HasFrame}
use Rattle.proof_laws.specs.Starts.{HasViewLine, LinesGoOn, without_feed}
use Rattle.proof_laws.proofs.Frames.{frame_shows}
use Rattle.proof_laws.proofs.Chains.{IsCarried, Show, all-lines, all-views, carried, feeds, first-is, first-view, later-views, line_of, said}
use Rattle.proof_laws.proofs.Starts.{opened}

-- ---- from a place on

drop-views : (i : ℕ) (ls : List Left) (last : View) → i ≤ length ls → drop i (all-views ls last) ≡ all-views (drop i ls) last
drop-views zero ls last few = refl
drop-views (suc i) [] last few = absurd (omega (arith, few))
drop-views (suc i) (l ∷ ls) last few = drop-views i ls last (omega (arith, few))

drop-length : {A : Type 0} (i : ℕ) (xs : List A) → i ≤ length xs → length (drop i xs) + i ≡ length xs
drop-length zero xs few = omega arith
drop-length (suc i) [] few = absurd (omega (arith, few))
drop-length (suc i) (x ∷ xs) few = let rest = drop-length i xs (omega (arith, few)) in omega (arith, rest)

-- the view at the place is the first from there on
first-at : (i : ℕ) (ls : List Left) (last v : View) → i ≤ length ls → slice_get (all-views ls last) i ≡ Some v → first-view (drop i ls) last ≡ v
first-at zero ls last v few at = some-view (first-view ls last) v (ap (λ (vs : List View). slice_get vs 0) (sym (first-is ls last)) ∙ at)
  where
    some-view : (u w : View) → (let o : Option View = Some u in o) ≡ Some w → u ≡ w
    some-view u w e = cc
first-at (suc i) [] last v few at = absurd (omega (arith, few))
first-at (suc i) (l ∷ ls) last v few at = first-at i ls last v (omega (arith, few)) at

-- ---- the line of the first view

module _ (s : Setting) (v : View) (is : HasViewLine s v) where
  members-none : (ms : List ℕ) → AllByRecursion (λ m. m ≤ 63) ms → list_any (has_byte line_feed) (map decimal ms) ≡ false
  members-none [] small = refl
  members-none (m ∷ ms) small = or_from (has_byte line_feed (decimal m)) (list_any (has_byte line_feed) (map decimal ms))
      (decimal_has_no line_feed m (omega arith) (let few = small.0 in omega (arith, few))) (members-none ms small.1)

  no-feed : has_byte line_feed (without_feed v) ≡ false
  no-feed = join_has_no line_feed (codes "view" ∷ decimal v.number ∷ codes ":" ∷ map decimal v.members) refl
      (or_from (has_byte line_feed (decimal v.number)) (list_any (has_byte line_feed) (codes ":" ∷ map decimal v.members))
      (decimal_has_no line_feed v.number (omega arith) (let few = is.number in omega (arith, few))) (members-none v.members is.members))

  -- the answer to it, and to lines of frames after it
  started : (n : ℕ) (parts : List (List ℕ)) → started_at s n (without_feed v ∷ (parts ++ [] ∷ [])) ≡ reported_from s (n + 1) v (parts ++ [] ∷ [])
  unfolding started_at
  started n [] = by-start n [] []
    where
      by-start : (n : ℕ) (next : List ℕ) (more : List (List ℕ))
          → (let a : Answer = elim (start_in s (without_feed v)) [
            | None ↦ reported_from s n s.genesis (without_feed v ∷ next ∷ more)
            | Some u ↦ reported_from s (n + 1) u (next ∷ more)
          ] in a) ≡ reported_from s (n + 1) v (next ∷ more)
      by-start n next more = ap (λ (o : Option View). let a : Answer = elim o [
        | None ↦ reported_from s n s.genesis (without_feed v ∷ next ∷ more)
        | Some u ↦ reported_from s (n + 1) u (next ∷ more)
      ] in a) is.read
  started n (part ∷ parts) = ap (λ (o : Option View). let a : Answer = elim o [
    | None ↦ reported_from s n s.genesis (without_feed v ∷ part ∷ (parts ++ [] ∷ []))
    | Some u ↦ reported_from s (n + 1) u (part ∷ (parts ++ [] ∷ []))
  ] in a) is.read

  lines-started : (n : ℕ) (frames : List (List ℕ)) (ws : List View) → ((frame : List ℕ) → Mem frame frames → IsCarried frame) → Show s v frames ws
      → started_at s n (parts_of (lines_text (without_feed v ∷ map line_of frames))) ≡ behind (view_line v) (said s ws)
  lines-started n frames ws each show =
      ap (started_at s n) (parts_of_lines (without_feed v ∷ map line_of frames)
      (or_from (has_byte line_feed (without_feed v)) (list_any (has_byte line_feed) (map line_of frames)) no-feed (feeds s frames each)))
      ∙ started n (map line_of frames)
      ∙ ap (behind (view_line v)) (all-lines s (n + 1) v frames ws each show)

pub lines_go_on : LinesGoOn
lines_go_on front f p i n v read none b at is few has =
    let s : Setting = setting_of f.kit in
    let last : View = p.pool.view in
    let ls : List Left = drop i p.left in
    let text : List ℕ = flat_map (proof_line p.me) (take n ls) in
    let long = drop-length i p.left (omega (arith, few)) in
    let all = carried s p.me n ls last (λ j l w here next. frame_shows s p (i + j) l w b (get-drop i p.left j (i + j) l refl here)
    (later p i j w (omega (arith, few)) next)) (omega (arith, few, long)) has in
    let first : first-view ls last ≡ v = first-at i p.left last v (omega (arith, few)) at in
    let more : front_of (front ++ (view_line v ++ text)) ≡ Ok (with_more (view_line v ++ text) f) = fronts_go_on front (view_line v ++ text) f read in
    let one : n + 1 ≡ suc n = omega arith in
    opened (front ++ (view_line v ++ text)) (with_more (view_line v ++ text) f) more
    ∙ ap (λ (rest : List ℕ). started_at s f.line (parts_of (rest ++ (view_line v ++ text)))) none
    ∙ ap (λ (t : List ℕ). started_at s f.line (parts_of (view_line v ++ t))) all.text
    ∙ lines-started s v is f.line all.frames (take n (later-views ls last)) all.each
    (subst (λ (u : View). Show s u all.frames (take n (later-views ls last))) first all.show)
    ∙ ap (λ (u : View). let a : Answer = record { written = flat_map view_line (u ∷ take n (later-views ls last)); status = 0 } in a) (sym first)
    ∙ ap (λ (vs : List View). let a : Answer = record { written = flat_map view_line vs; status = 0 } in a)
    (ap (take (suc n)) (sym (first-is ls last) ∙ sym (drop-views i p.left last (omega (arith, few)))) ∙ ap (λ k. take k (drop i (views_of p))) (sym one))
  where
    later : (p : Process) (i j : ℕ) (w : View) → i ≤ length p.left → slice_get (all-views (drop i p.left) p.pool.view) (j + 1) ≡ Some w
        → slice_get (views_of p) ((i + j) + 1) ≡ Some w
    later p i j w few next =
        get-drop i (views_of p) (j + 1) ((i + j) + 1) w (omega arith)
        (ap (λ (vs : List View). slice_get vs (j + 1)) (drop-views i p.left p.pool.view few) ∙ next)
