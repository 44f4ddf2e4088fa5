use Rattle.std.proofs.Common.{◌≡◌, ◌∙◌, ◌++◌, ◌∷◌, List, [], map, refl, sym, ap, subst, true, false}
use Rattle.std.specs.Prelude.{is_some, IfSome, IsTrue}
use Rattle.group_defs.specs.Views.{View}
use Rattle.group_defs.specs.Process.{Setting}
use Rattle.image_defs.specs.Images.{LeftView, view_behind}
use Rattle.image_defs.specs.Kept.{AreLeft, IsLeft}
use Rattle.member_state.specs.Parts.{all_signed}
use Rattle.snapshot_rp.specs.Views.{left_view}
use Rattle.restored_left.proofs.Last.{parts-left}
use Rattle.restored_left.proofs.past.archive_of.Goals as goal

-- those before the last, and the last
apart : (s : Setting) (v : View) (left xs : List LeftView) (l : LeftView) → left ≡ xs ++ l ∷ [] → AreLeft s v left
    → AreLeft s v xs × IsLeft s (view_behind v xs) l
apart s v left xs l is all = parts-left s v xs l (subst (AreLeft s v) is all)

pub returns-in-Some-clause-exact : goal.returns-in-Some-clause-exact
returns-in-Some-clause-exact g c s judges lefts =
    let xs = map left_view c.args.earlier.now in
    let l = left_view c.args.last.now in
    let at : c.in-Some.past.view ≡ view_behind c.args.genesis xs
    = subst (λ o. IfSome o (λ past. past.view ≡ view_behind c.args.genesis xs)) c.in-Some.is c.in_ok-past.ensures.view in
    let two = apart s c.args.genesis _ xs l c.requires.parts lefts in
    c.archive_after.ensures.exact s xs judges.shares c.requires.parts (at ∙ ap (λ (v : View). view_behind v xs) (sym judges.genesis_is))
    (subst (λ (v : View). IsLeft s v l) (sym at) two.1)

pub returns-in-Some-clause-past : goal.returns-in-Some-clause-past
returns-in-Some-clause-past g c s judges lefts =
    let xs = map left_view c.args.earlier.now in
    let l = left_view c.args.last.now in
    let at : c.in-Some.past.view ≡ view_behind c.args.genesis xs
    = subst (λ o. IfSome o (λ past. past.view ≡ view_behind c.args.genesis xs)) c.in-Some.is c.in_ok-past.ensures.view in
    let two = apart s c.args.genesis _ xs l c.requires.parts lefts in
    c.archive_after.ensures.past s xs c.requires.parts (at ∙ ap (λ (v : View). view_behind v xs) (sym judges.genesis_is))
    (subst (λ (v : View). IsLeft s v l) (sym at) two.1)
    (subst (λ o. IfSome o (λ past. past.archive.commits ≡ map (λ (k : LeftView). all_signed k.commit) xs)) c.in-Some.is
    (c.in_ok-past.ensures.commits s two.0))

pub returns-in-None-clause-exact : goal.returns-in-None-clause-exact
returns-in-None-clause-exact g c s judges lefts =
    let xs = map left_view c.args.earlier.now in
    let l = left_view c.args.last.now in
    let two = apart s c.args.genesis _ xs l c.requires.parts lefts in
    absurd (clash (subst (λ o. IsTrue (is_some o)) c.in-None.is (c.in_ok-past.ensures.some s two.0)) refl)
  where
    clash : {b : _} → b ≡ true → b ≡ false → ⊥
    clash e f = cc
