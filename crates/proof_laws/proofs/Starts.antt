-- The answer to a chain that may begin at any view is the lines of its views.
use Rattle.std.proofs.Common.{◌≡◌, inl, inr, ℕ, ◌+◌, List, [], ◌∷◌, Option, Some, None, Result, Ok, Err, refl, sym, ap, ◌∙◌, subst, slice_get}
use Rattle.std.specs.Prelude.{All}
use Rattle.text_defs.specs.Words.{parts_of}
use Rattle.kit_defs.specs.KitReading.{KitFault}
use Rattle.input_defs.specs.Fronts.{Front, front_of}
use Rattle.group_defs.specs.Views.{View}
use Rattle.group_defs.specs.Process.{Setting}
use Rattle.group_defs.specs.Family.{Family}
use Rattle.group_defs.specs.Laws.{IsViewOfAll}
use Rattle.chain_defs.specs.Advance.{views_shown}
use Rattle.chain_text_defs.specs.Chains.{Answer, kit_words, setting_of, stopped}
use Rattle.chain_laws.specs.Chains.{IsInstalled}
use Rattle.chain_laws.specs.Reported.{proofs_in}
use Rattle.chain_laws.proofs.Agreeing.{chain_is_installed, chain_is_of_all}
use Rattle.chain_laws.proofs.Reported.{ShowsViews, one-more, tells-at}
use Rattle.proof_defs.specs.Starts.{start_in, started_at, started_chain_of, started_from, reported_from}
use Rattle.proof_laws.specs.Starts.{IsQuotedFrom, Start, StartsReportViews, start_behind, start_of, views_from}

module _ (s : Setting) where
  reported-so : (n : ℕ) (v : View) (parts : List (List ℕ)) → ShowsViews (reported_from s n v parts) (v ∷ views_shown s v (proofs_in parts))
  reported-so n v parts = one-more v _ (views_shown s v (proofs_in parts)) (tells-at s n v parts)

  started-tells : (n : ℕ) (parts : List (List ℕ)) → ShowsViews (started_at s n parts) (views_from s (start_of s parts))
  unfolding started_at start_of
  started-tells n [] = reported-so n s.genesis []
  started-tells n (rest ∷ []) = reported-so n s.genesis (rest ∷ [])
  started-tells n (line ∷ next ∷ more) = of (start_in s line)
    where
      of : (o : Option View)
          → let a : Answer = elim o [
            | None ↦ reported_from s n s.genesis (line ∷ next ∷ more)
            | Some v ↦ reported_from s (n + 1) v (next ∷ more)
          ] in let b : Start = elim o [
            | None ↦ record { view = s.genesis; lines = line ∷ next ∷ more }
            | Some v ↦ record { view = v; lines = next ∷ more }
          ] in ShowsViews a (views_from s b)
      of None = reported-so n s.genesis (line ∷ next ∷ more)
      of (Some v) = reported-so (n + 1) v (next ∷ more)

-- behind the kit
pub opened : (bytes : List ℕ) (front : Front) → front_of bytes ≡ Ok front → started_chain_of bytes ≡ started_from front
unfolding started_chain_of
opened bytes front e = ap (λ (r : Result Front KitFault). let a : Answer = elim r [
  | Err fault ↦ stopped (kit_words fault)
  | Ok f ↦ started_from f
] in a) e

module _ (front : Front) (f : Family) (quoted : IsQuotedFrom front f) where
  abbrev start : Start
  start = start_behind front

  of-all : IsViewOfAll f start.view → All (IsViewOfAll f) (views_from (setting_of front.kit) start)
  of-all first = subst (λ (s : Setting). All (IsViewOfAll f) (views_from s start)) quoted.of_kit
      (chain_is_of_all f start.view (proofs_in start.lines) quoted.premises first quoted.own)

  installed : IsInstalled f start.view → (i : ℕ) (a b : View) → slice_get (views_from (setting_of front.kit) start) i ≡ Some a
      → slice_get (views_from (setting_of front.kit) start) (i + 1) ≡ Some b → IsInstalled f a
  installed first = subst (λ (s : Setting). (i : ℕ) (a b : View) → slice_get (views_from s start) i ≡ Some a
      → slice_get (views_from s start) (i + 1) ≡ Some b → IsInstalled f a) quoted.of_kit
      (λ i a b at next. chain_is_installed f start.view (proofs_in start.lines) i a b quoted.premises first quoted.own at next)

pub starts_report_views : StartsReportViews
starts_report_views bytes front e =
    let reported = started-tells (setting_of front.kit) front.line (parts_of front.rest) in
    record {
      end = reported.end;
      ends = reported.ends;
      lines = opened bytes front e ∙ reported.is;
      of_all = λ f quoted first. of-all front f quoted first;
      installed = λ f i a b quoted first at next. installed front f quoted first i a b at next;
    }
