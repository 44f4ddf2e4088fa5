-- How many of the messages delivered are the process's.
use Rattle.std.proofs.Common.{◌≡◌, ℕ, ◌+◌, List, [], ◌∷◌, map, cond, refl}
use Rattle.std.specs.Prelude.{◌==◌, count_by, fold}
use Rattle.group_defs.specs.Process as defs
use Rattle.group_defs.specs.Process.{delivered_from}
use Rattle.member_events.specs.declared.events.Delivered.{Delivered}
use Rattle.accounts.specs.Views.{delivery}

alike : (me n : ℕ) (ds : List Delivered)
    → fold (λ a (d : Delivered). a + cond (d.sender == me) 1 0) n ds
    ≡ fold (λ a (d : defs.Delivered). a + cond (d.message.sender == me) 1 0) n (map delivery ds)
alike me n [] = refl
alike me n (d ∷ ds) = alike me (n + cond (d.sender == me) 1 0) ds

pub count-own : (me : ℕ) (ds : List Delivered) → count_by (λ (d : Delivered). d.sender == me) ds ≡ delivered_from me (map delivery ds)
count-own me ds = alike me 0 ds
