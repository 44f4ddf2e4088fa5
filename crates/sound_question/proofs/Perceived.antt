-- The causes that the accounts tell of, one account after the other.
use Rattle.std.proofs.Common.{◌≡◌, ℕ, List, [], ◌∷◌, map, Bool, true, false, refl, sym, ◌∙◌}
use Rattle.std.specs.Prelude.{◌==◌, ◌&&◌, ◌||◌, filter, flat_map, if◌then◌else◌}
use Rattle.std.specs.List.{list_any}
use Rattle.std.proofs.lemmas.List.Folds.{list_any-append}
use Rattle.message_defs.specs.Updates as plain
use Rattle.group_defs.specs.Views.{View, is_member}
use Rattle.group_defs.specs.Accounts as reported
use Rattle.group_defs.specs.Accounts.{has_cause}
use Rattle.rp_base.specs.declared.updates.Update.{Update}
use Rattle.rp_base.specs.Views.{update}
use Rattle.accounts.specs.declared.account.Account.{Account}
use Rattle.accounts.specs.Views.{account, perceived}
use Rattle.sound_question.specs.Parts.{gives}

module _ (keyed : List ℕ) (v w : View) where
  abbrev led : ℕ × Update → Bool
  led e = (e.0 == v.number) && gives keyed v w (update e.1)

  led-by : (es : List (ℕ × Update))
      → list_any (gives keyed v w) (map (λ e. e.1) (filter (λ e. e.0 == v.number) (map perceived es))) ≡ list_any led es
  led-by [] = refl
  led-by (e ∷ es) = go (e.0 == v.number) (led-by es)
    where
      go : (b : Bool) → list_any (gives keyed v w) (map (λ e. e.1) (filter (λ e. e.0 == v.number) (map perceived es))) ≡ list_any led es
          → list_any (gives keyed v w) (map (λ e. e.1)
          (if b then perceived e ∷ filter (λ e. e.0 == v.number) (map perceived es)
          else filter (λ e. e.0 == v.number) (map perceived es))) ≡ ((b && gives keyed v w (update e.1)) || list_any led es)
      go true same = λ i. gives keyed v w (update e.1) || same i
      go false same = same

  abbrev pub leads : Account → Bool
  leads a = is_member v a.me && list_any led a.perceived.items

  abbrev perceived_by : reported.Account → List plain.Update
  perceived_by a = if is_member v a.me then map (λ e. e.1) (filter (λ e. e.0 == v.number) a.perceived) else []

  one : (a : Account) → list_any (gives keyed v w)
      (if is_member v a.me then map (λ e. e.1) (filter (λ e. e.0 == v.number) (map perceived a.perceived.items)) else []) ≡ leads a
  one a = go (is_member v a.me)
    where
      go : (b : Bool) → list_any (gives keyed v w)
          (if b then map (λ e. e.1) (filter (λ e. e.0 == v.number) (map perceived a.perceived.items)) else [])
          ≡ (b && list_any led a.perceived.items)
      go true = led-by a.perceived.items
      go false = refl

  pub cause-by : (accounts : List Account) → list_any leads accounts ≡ has_cause (map account accounts) keyed (v, w)
  cause-by [] = refl
  cause-by (a ∷ more) = sym (list_any-append (gives keyed v w) (perceived_by (account a))
      (flat_map perceived_by (map account more)) ∙ (λ i. one a i || sym (cause-by more) i))
