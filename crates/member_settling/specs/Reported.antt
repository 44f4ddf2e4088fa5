-- What is delivered and reported, after what was before.
use Rattle.std.specs.Prelude.{◌≡◌, ℕ, List, [], ◌∷◌, ◌++◌, length, map, nat_lt}
use Rattle.group_defs.specs.Process as defs
use Rattle.group_defs.specs.Process.{Process}
use Rattle.group_defs.specs.Events.{Delivers, Installs, note_if}
use Rattle.member_events.specs.declared.events.Note.{Note}
use Rattle.member_events.specs.declared.events.Delivered.{Delivered}
use Rattle.accounts.specs.Views.{delivery}
use Rattle.member_state.specs.Events.{note}

-- these deliveries come after the others, and each is reported as delivered in the view of this number
pub record ArePut (view : ℕ) (ds : List defs.Delivered) (was now : List Delivered) (notes_was notes_now : List Note) : Type 0 where
  pub delivered : map delivery now ≡ map delivery was ++ ds
  pub reported : map note notes_now ≡ map note notes_was ++ map (Delivers view) ds

-- the same, where what was delivered in the current view is the last of the lists by views, after these
pub record ArePutLast (view : ℕ) (ds : List defs.Delivered) (before : List (List defs.Delivered)) (last : List defs.Delivered)
    (now : List (List defs.Delivered)) (notes_was notes_now : List Note) : Type 0 where
  pub delivered : now ≡ before ++ (last ++ ds) ∷ []
  pub reported : map note notes_now ≡ map note notes_was ++ map (Delivers view) ds

-- more may be delivered after what was
pub record HasMore (was now : List Delivered) : Type 0 where
  pub more : List defs.Delivered
  pub delivered : map delivery now ≡ map delivery was ++ more

-- the same, where what was delivered in the current view is the last of the lists by views, after these
pub record HasMoreLast (before : List (List defs.Delivered)) (last : List defs.Delivered) (now : List (List defs.Delivered)) : Type 0 where
  pub more : List defs.Delivered
  pub delivered : now ≡ before ++ (last ++ more) ∷ []

-- q delivered more than p in the same view, and each of these is reported
pub record ReportsDelivered (p q : Process) (was now : List Note) : Type 0 where
  pub more : List defs.Delivered
  pub delivered : q.delivered ≡ p.delivered ++ more
  pub reported : map note now ≡ map note was ++ map (Delivers p.pool.view.number) more

-- where q left a view more than p, the view that it installed is reported
abbrev pub ReportsInstalled : Process → Process → List Note → List Note → Type 0
ReportsInstalled p q was now = map note now ≡ map note was ++ note_if (nat_lt (length p.left) (length q.left)) (Installs q.pool.view)
