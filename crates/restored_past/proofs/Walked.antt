-- The views that were left, walked one after the other.
use Rattle.std.proofs.Common.{◌≡◌, ℕ, suc, ◌+◌, ◌<◌, List, [], ◌∷◌, ◌++◌, length, map, drop, refl, sym, ap, ◌∙◌, subst, arith, drop-cons, add-one}
use Rattle.std.specs.Prelude.{slice_index_or}
use Rattle.std.proofs.lemmas.List.{append_assoc}
use Rattle.message_defs.specs.Packing.{Signed}
use Rattle.group_defs.specs.Views.{View, next_view}
use Rattle.group_defs.specs.Process.{Setting}
use Rattle.image_defs.specs.Images.{LeftView, view_behind}
use Rattle.image_defs.specs.Kept.{AreLeft, IsLeft}
use Rattle.reliable_mcast.specs.Certificates.{all_signed}
use Rattle.restored_past.specs.Installed.{installed_from}

module _ {X : Type 0} (view : X → LeftView) (xs : List X) (i : ℕ) (x : X) (lt : i < length xs) (is : x ≡ slice_index_or xs i x) where
  -- what is left begins with this one
  pub begins : map view (drop i xs) ≡ view x ∷ map view (drop (i + 1) xs)
  begins = ap (map view) (drop-cons xs i x lt ∙ ap (λ y. y ∷ drop (suc i) xs) (sym is) ∙ ap (λ n. x ∷ drop n xs) (sym (add-one i)))

  pub behind-so : (v w : View) (end : View) → w ≡ next_view v (view x).value.update → view_behind v (map view (drop i xs)) ≡ end
      → view_behind w (map view (drop (i + 1) xs)) ≡ end
  behind-so v w end follows so = ap (λ y. view_behind y (map view (drop (i + 1) xs))) follows ∙ sym (ap (view_behind v) begins) ∙ so

  pub left-so : (s : Setting) (v w : View) → w ≡ next_view v (view x).value.update → AreLeft s v (map view (drop i xs))
      → IsLeft s v (view x) × AreLeft s w (map view (drop (i + 1) xs))
  left-so s v w follows all =
      let parts = subst (AreLeft s v) begins all in
      (parts.0, subst (λ y. AreLeft s y (map view (drop (i + 1) xs))) (sym follows) parts.1)

  pub commits-so : (commits commits' end : List (List Signed)) → commits' ≡ commits ++ all_signed (view x).commit ∷ []
      → commits ++ map (λ (l : LeftView). all_signed l.commit) (map view (drop i xs)) ≡ end
      → commits' ++ map (λ (l : LeftView). all_signed l.commit) (map view (drop (i + 1) xs)) ≡ end
  commits-so commits commits' end grown so =
      ap (λ cs. cs ++ map (λ (l : LeftView). all_signed l.commit) (map view (drop (i + 1) xs))) grown
      ∙ append_assoc commits (all_signed (view x).commit ∷ []) (map (λ (l : LeftView). all_signed l.commit) (map view (drop (i + 1) xs)))
      ∙ sym (ap (λ ls. commits ++ map (λ (l : LeftView). all_signed l.commit) ls) begins) ∙ so

  pub views-so : (vs vs' : List View) (v w : View) (end : List View) → vs' ≡ vs ++ v ∷ [] → w ≡ next_view v (view x).value.update
      → vs ++ installed_from v (map view (drop i xs)) ≡ end → vs' ++ installed_from w (map view (drop (i + 1) xs)) ≡ end
  views-so vs vs' v w end grown follows so =
      (λ j. grown j ++ installed_from (follows j) (map view (drop (i + 1) xs)))
      ∙ append_assoc vs (v ∷ []) (installed_from (next_view v (view x).value.update) (map view (drop (i + 1) xs)))
      ∙ sym (ap (λ ls. vs ++ installed_from v ls) begins) ∙ so
