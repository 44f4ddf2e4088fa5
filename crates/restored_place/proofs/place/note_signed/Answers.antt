use Rattle.std.proofs.Common.{◌≡◌, ◌∙◌, List, None, [], refl, sym, ap, length, map}
use Rattle.std.specs.Prelude.{min}
use Rattle.std.specs.List.{sum_by}
use Rattle.message_defs.specs.Statements.{Batch}
use Rattle.group_defs.specs.Views.{View}
use Rattle.group_defs.specs.Certified.{named}
use Rattle.restored_place.specs.Walks.{greatest, readies, with_orders, with_slots}
use Rattle.restored_place.proofs.Standing.{tells-so}
use Rattle.restored_place.proofs.place.note_signed.Goals as goal

pub returns : goal.returns
returns c s p stands view signed once ended =
    let number : c.number-number.result ≡ p.pool.view.number = c.number-number.ensures.value ∙ ap (λ (v : View). v.number) (sym view) in
    let members : c.args.view.now.members ≡ p.pool.view.members = ap (λ (v : View). v.members) (sym view) in
    tells-so p once c.in_ok-orders.orders.items _ (record {
      orders_are = c.in_ok-orders.ensures ∙ (λ i. with_orders (number i) [] (sym signed i));
      slots = c.in_ok-own.ensures ∙ (λ i. with_slots (number i) [] (sym signed i));
      greatest_is = c.greatest_rank-own.ensures ∙ (λ i. greatest (number i) 0 (sym signed i));
      ready_is = c.highest_ready-own.ensures ∙ (λ i. readies (number i) None (sym signed i));
      count = c.count_orders-own.ensures ∙ ap (λ (bs : List Batch). min (length bs) 65535) c.deref.ensures.value;
      names = c.names_in-own.ensures
          ∙ (λ i. map (λ m. min (sum_by (λ b. named m b) (c.deref-2.ensures.value i)) 65535) (members i));
    }) s c.args.own.now (record { number = refl; position = refl; keys = refl; places = refl; counts = refl; earlier_is = refl }) stands ended
