-- Settling signs nothing, and finds no conflict.
use Rattle.std.proofs.Common.{◌≡◌, ℕ, zero, suc, ◌-◌, List, ◌++◌, Option, None, Some, Bool, true, false, refl, ◌∙◌}
use Rattle.std.specs.Prelude.{if◌then◌else◌, nat_lt, ◌==◌}
use Rattle.message_defs.specs.Updates.{Value}
use Rattle.group_defs.specs.Views.{is_member}
use Rattle.group_defs.specs.Process.{Setting, Process, Delivered, places_in}
use Rattle.group_defs.specs.Settle.{decide, limit, deliverable, deliver_more, deliver, install, leave_by, leave, settle}
use Rattle.event_laws.specs.Parts.{HasSettled, SettlingLeaves}

as-it-is : (p : Process) → HasSettled p p
as-it-is p = record { me = refl; limit = refl; signed = refl; conflicts = refl; accepted = refl; perceived = refl }

both-settled : (p q r : Process) → HasSettled p q → HasSettled q r → HasSettled p r
both-settled p q r a b = record {
  me = b.me ∙ a.me;
  limit = b.limit ∙ a.limit;
  signed = b.signed ∙ a.signed;
  conflicts = b.conflicts ∙ a.conflicts;
  accepted = b.accepted ∙ a.accepted;
  perceived = b.perceived ∙ a.perceived;
}

places-more : (more : ℕ) (p : Process) → HasSettled p (deliver_more more p)
unfolding deliver_more
places-more zero p = as-it-is p
places-more (suc more) p = go (deliverable p) (places-more more)
  where
    go : (o : Option (List Delivered)) → ((q : Process) → HasSettled q (deliver_more more q))
        → HasSettled p (elim o [ None ↦ p | Some ds ↦ deliver_more more (record p { delivered = p.delivered ++ ds }) ])
    go None next = as-it-is p
    go (Some ds) next = both-settled p (record p { delivered = p.delivered ++ ds }) _
        (record { me = refl; limit = refl; signed = refl; conflicts = refl; accepted = refl; perceived = refl })
        (next (record p { delivered = p.delivered ++ ds }))

delivered-so : (p : Process) → HasSettled p (deliver p)
delivered-so p = go (is_member p.pool.view p.me)
  where
    go : (b : Bool) → HasSettled p (if b then deliver_more (limit p - places_in p.delivered) p else p)
    go true = places-more (limit p - places_in p.delivered) p
    go false = as-it-is p

installs-so : (d : ℕ × Value) (p : Process) → HasSettled p (install d p)
installs-so d p = record { me = refl; limit = refl; signed = refl; conflicts = refl; accepted = refl; perceived = refl }

left-by : (d : ℕ × Value) (p : Process) → HasSettled p (leave_by d p)
left-by d p = go (is_member p.pool.view p.me) (places_in p.delivered == d.1.cut)
  where
    go : (b whole : Bool) → HasSettled p
        (if b then (if whole then install d p else record p { halted = nat_lt d.1.cut (places_in p.delivered) }) else install d p)
    go true true = installs-so d p
    go true false = record { me = refl; limit = refl; signed = refl; conflicts = refl; accepted = refl; perceived = refl }
    go false whole = installs-so d p

left-so : (p : Process) → HasSettled p (leave p)
left-so p = go p.decision
  where
    go : (o : Option (ℕ × Value)) → HasSettled p (elim o [ None ↦ p | Some d ↦ leave_by d p ])
    go None = as-it-is p
    go (Some d) = left-by d p

pub settling_leaves : SettlingLeaves
unfolding settle
settling_leaves s p =
    both-settled p (decide s p) _ (record { me = refl; limit = refl; signed = refl; conflicts = refl; accepted = refl; perceived = refl })
    (both-settled (decide s p) (deliver (decide s p)) _ (delivered-so (decide s p)) (left-so (deliver (decide s p))))
