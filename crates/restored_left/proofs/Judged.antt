-- What is judged in one setting is judged in all that share its rule, its group, its keys and its genesis view.
use Rattle.std.proofs.Common.{◌≡◌, ℕ, List, Bool, sym, subst}
use Rattle.std.specs.Prelude.{◌↔◌}
use Rattle.group_defs.specs.Views.{View}
use Rattle.group_defs.specs.Process.{Setting}
use Rattle.image_defs.specs.Images.{LeftView}
use Rattle.image_defs.specs.Kept.{AreLeft}
use Rattle.kept_images.specs.Settings.{setting}
use Rattle.restored_left.specs.Judged.{Judges}

-- what is judged in one setting is judged in all: there is only one of this rule, group, roster and genesis view
pub setting-is : (s : Setting) (valid : List ℕ → List ℕ → List ℕ → Bool) (group : List ℕ) (roster : List (ℕ × List ℕ)) (genesis : View)
    → Judges s valid group roster genesis → s ≡ setting valid group roster genesis
setting-is s valid group roster genesis judges = λ i. record {
  group = judges.shares.bound i;
  roster = judges.shares.keys i;
  genesis = judges.genesis_is i;
  valid = judges.shares.rule i;
  signs = judges.kinds i;
}

-- how the views were left, too
pub left-are : (s : Setting) (valid : List ℕ → List ℕ → List ℕ → Bool) (group : List ℕ) (roster : List (ℕ × List ℕ)) (genesis : View)
    → Judges s valid group roster genesis → (g : View) → g ≡ genesis → (ls ks : List LeftView) → ls ≡ ks
    → AreLeft (setting valid group roster g) g ls ↔ AreLeft s genesis ks
left-are s valid group roster genesis judges g at ls ks lists =
    let same = setting-is s valid group roster genesis judges in (
      λ all. subst (λ (u : Setting). AreLeft u genesis ks) (sym same)
          (subst (λ (v : View). AreLeft (setting valid group roster v) v ks) at (subst (λ (es : List LeftView). AreLeft (setting valid group roster g) g es) lists all)),
      λ all. subst (λ (es : List LeftView). AreLeft (setting valid group roster g) g es) (sym lists)
          (subst (λ (v : View). AreLeft (setting valid group roster v) v ks) (sym at) (subst (λ (u : Setting). AreLeft u genesis ks) same all)),
    )
