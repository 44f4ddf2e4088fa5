-- The answer to bytes that begin with a kit is the lines of a chain's views.
use Rattle.std.proofs.Common.{◌≡◌, inl, inr, ℕ, ◌+◌, ◌≤◌, List, [], ◌∷◌, length, Option, Some, None, Result, Ok, Err, refl, sym, ap, ◌∙◌, subst, append_assoc, slice_get, Bool, true, false}
use Rattle.std.specs.Prelude.{◌==◌, if◌then◌else◌, All, flat_map, codes}
use Rattle.std.specs.Fmt.{decimal}
use Rattle.text_defs.specs.Words.{parts_of}
use Rattle.kit_defs.specs.KitReading.{KitFault}
use Rattle.input_defs.specs.Fronts.{Front, front_of}
use Rattle.group_defs.specs.Views.{View}
use Rattle.group_defs.specs.Process.{Setting}
use Rattle.group_defs.specs.Family.{Family}
use Rattle.group_defs.specs.Laws.{IsViewOfAll}
use Rattle.chain_defs.specs.declared.ChainFault.{ChainFault}
use Rattle.chain_defs.specs.Advance.{advance, views_shown}
use Rattle.chain_text_defs.specs.Chains.{Answer, behind, chain_at, chain_from, chain_of, done, kit_words, proof_in, proof_words, setting_of, stopped, view_line}
use Rattle.chain_laws.specs.Chains.{IsInstalled}
use Rattle.chain_laws.specs.Reported.{AnswersReportViews, IsEnd, IsQuoted, proofs_behind, proofs_in, views_behind}
use Rattle.chain_laws.proofs.Agreeing.{chain_is_installed, chain_is_of_all, genesis_is_installed, genesis_is_of_all}

-- the lines of these views, and an end
pub record ShowsViews (a : Answer) (views : List View) : Type 0 where
  pub end : Answer
  pub ends : IsEnd end
  pub is : a ≡ behind (flat_map view_line views) end

stops : (words : List (List ℕ)) → ShowsViews (stopped words) []
stops words = record { end = stopped words; ends = inr (words, refl); is = refl }

pub one-more : (v : View) (a : Answer) (views : List View) → ShowsViews a views → ShowsViews (behind (view_line v) a) (v ∷ views)
one-more v a views t = record {
  end = t.end;
  ends = t.ends;
  is = ap (behind (view_line v)) t.is ∙ ap (λ (w : List ℕ). let b : Answer = record t.end { written = w } in b)
      (sym (append_assoc (view_line v) (flat_map view_line views) t.end.written));
}

module _ (s : Setting) where
  pub tells-at : (n : ℕ) (v : View) (parts : List (List ℕ)) → ShowsViews (chain_at s n v parts) (views_shown s v (proofs_in parts))
  unfolding chain_at views_shown proofs_in
  tells-at n v [] = record { end = done; ends = inl refl; is = refl }
  tells-at n v (rest ∷ []) = of (length rest == 0)
    where
      of : (b : Bool) → ShowsViews (if b then done else stopped (codes "line" ∷ decimal n ∷ [])) []
      of true = record { end = done; ends = inl refl; is = refl }
      of false = stops (codes "line" ∷ decimal n ∷ [])
  tells-at n v (line ∷ next ∷ more) = of_line (λ w. tells-at (n + 1) w (next ∷ more)) (proof_in line)
    where
      of_frame : ((w : View) → ShowsViews (chain_at s (n + 1) w (next ∷ more)) (views_shown s w (proofs_in (next ∷ more))))
          → (r : Result View ChainFault)
          → let a : Answer = elim r [
            | Err fault ↦ stopped (proof_words n fault)
            | Ok w ↦ behind (view_line w) (chain_at s (n + 1) w (next ∷ more))
          ] in let views : List View = elim r [
            | Err fault ↦ []
            | Ok w ↦ w ∷ views_shown s w (proofs_in (next ∷ more))
          ] in ShowsViews a views
      of_frame again (Err fault) = stops (proof_words n fault)
      of_frame again (Ok w) = one-more w (chain_at s (n + 1) w (next ∷ more)) (views_shown s w (proofs_in (next ∷ more))) (again w)

      of_line : ((w : View) → ShowsViews (chain_at s (n + 1) w (next ∷ more)) (views_shown s w (proofs_in (next ∷ more))))
          → (o : Option (List ℕ))
          → let a : Answer = elim o [
            | None ↦ stopped (codes "line" ∷ decimal n ∷ [])
            | Some bytes ↦ elim (advance s v bytes) [
              | Err fault ↦ stopped (proof_words n fault)
              | Ok w ↦ behind (view_line w) (chain_at s (n + 1) w (next ∷ more))
            ]
          ] in let proofs : List (List ℕ) = elim o [
            | None ↦ []
            | Some frame ↦ frame ∷ proofs_in (next ∷ more)
          ] in ShowsViews a (views_shown s v proofs)
      of_line again None = stops (codes "line" ∷ decimal n ∷ [])
      of_line again (Some bytes) = of_frame again (advance s v bytes)

-- the answer is that behind the kit
opened : (bytes : List ℕ) (front : Front) → front_of bytes ≡ Ok front → chain_of bytes ≡ chain_from front
unfolding chain_of
opened bytes front e = ap (λ (r : Result Front KitFault). let a : Answer = elim r [
  | Err fault ↦ stopped (kit_words fault)
  | Ok f ↦ chain_from f
] in a) e

module _ (front : Front) (f : Family) (quoted : IsQuoted front f) where
  abbrev proofs : List (List ℕ)
  proofs = proofs_behind front

  of-all : All (IsViewOfAll f) (views_behind front)
  of-all = subst (λ (s : Setting). All (IsViewOfAll f) (s.genesis ∷ views_shown s s.genesis proofs)) quoted.of_kit
      (chain_is_of_all f f.setting.genesis proofs quoted.premises (genesis_is_of_all f quoted.premises) quoted.own)

  installed : 1 ≤ length f.correct → (i : ℕ) (a b : View) → slice_get (views_behind front) i ≡ Some a
      → slice_get (views_behind front) (i + 1) ≡ Some b → IsInstalled f a
  installed some = subst
      (λ (s : Setting). (i : ℕ) (a b : View) → slice_get (s.genesis ∷ views_shown s s.genesis proofs) i ≡ Some a
      → slice_get (s.genesis ∷ views_shown s s.genesis proofs) (i + 1) ≡ Some b → IsInstalled f a) quoted.of_kit
      (λ i a b at next. chain_is_installed f f.setting.genesis proofs i a b quoted.premises (genesis_is_installed f some) quoted.own at next)

pub answers_report_views : AnswersReportViews
answers_report_views bytes front e =
    let s = setting_of front.kit in
    let reported = one-more s.genesis (chain_at s front.line s.genesis (parts_of front.rest)) (views_shown s s.genesis (proofs_behind front))
    (tells-at s front.line s.genesis (parts_of front.rest)) in
    record {
      end = reported.end;
      ends = reported.ends;
      lines = opened bytes front e ∙ reported.is;
      of_all = λ f quoted. of-all front f quoted;
      installed = λ f i a b quoted some at next. installed front f quoted some i a b at next;
    }
