use Rattle.std.proofs.Common.{◌≡◌, ℕ, List, [], ◌∷◌, ◌++◌, map, length, Option, refl, sym, ap, ◌∙◌}
use Rattle.std.specs.Prelude.{min, option_map, slice_index_or}
use Rattle.accounts.specs.Views.{account, delivery}
use Rattle.group_defs.specs.Views.{View}
use Rattle.sig_scheme.specs.Views.{secret as secret_in}
use Rattle.member_events.specs.declared.events.Delivered.{Delivered}
use Rattle.store_defs.specs.Holding.{delivered_below, payloads_of, stayed, store_over}
use Rattle.store_defs.specs.Serving.{held, server_of}
use Rattle.store_defs.specs.Stores.{Store, store_after}
use Rattle.store_defs.specs.Transfers.{new_transfer}
use Rattle.store_replies.specs.Words.{most_counted}
use Rattle.store_server.specs.Beginning.{lists_of}
use Rattle.store_server.specs.Serving.{place_with}
use Rattle.store_server.proofs.Begun.{count-so, gives-so, keys-of, last-of, stored-so, transfer-of, view-of}
use Rattle.store_server.proofs.Parts.{lists-length, lists-so}
use Rattle.store_server.proofs.server.Server.begin.Goals as goal

pub returns : goal.returns
returns c = λ p reported numbered.
    let a = account c.args.reported.now in
    let q = place_with c.args.reported.now.me c.args.group (secret_in c.args.secret.now) in
    let below = lists_of c.in-Some.below.now in
    let here = map delivery c.in-Some.here.now.items in
    let before = c.in-Some-split_last.field-0-1.now in
    let view = c.in-Some-split_last.view.now in
    let lists : a.delivered ≡ below ++ here ∷ [] = ap lists_of (sym c.deref.ensures.value)
    ∙ lists-so c.deref.result.now c.in-Some.below.now c.in-Some.here.now c.in-Some.ensures.cases.0 in
    let views : a.views ≡ before ++ view ∷ [] = sym c.deref-2.ensures.value ∙ c.in-Some-split_last.ensures.cases.0 in
    let started : c.in_ok-store.store
    ≡ held (stayed a 0 (length a.views)) (store_over (λ z. payloads_of (slice_index_or below z [])) [] 0 (length below)) =
    c.in_ok-store.ensures
    ∙ ap (λ (n : ℕ). held (stayed a 0 (length a.views)) (store_over (λ z. payloads_of (slice_index_or below z [])) [] 0 n))
    (sym (lists-length c.in-Some.below.now)) in
    let cloned : c.in_ok-clone.field-0 ≡ view = c.in_ok-clone.ensures.cases in
    record {
      replies = c.new-replies.ensures q (server_of p) refl refl (sym c.in_ok-key.ensures.signs)
          (c.count.ensures ∙ ap (λ (n : ℕ). min n most_counted)
          (ap (delivered_below a) (sym (lists-length c.args.reported.now.delivered.items))
          ∙ count-so p a reported numbered below here lists before view views))
          (last-of p a reported numbered below here lists before view views)
          (sym (c.in_ok-store-2.ensures
          ∙ ap (λ (ds : List Delivered). option_map (λ (t : Store). store_after t (payloads_of (map delivery ds))) c.in_ok-store.store)
          c.deref-3.ensures.value
          ∙ ap (λ (o : Option Store). option_map (λ (t : Store). store_after t (payloads_of here)) o) started
          ∙ stored-so p a reported numbered below here lists before view views));
      gives = c.in_ok-giving.ensures q (server_of p) refl refl (sym c.in_ok-states.ensures.signs)
          (view-of p a reported numbered below here lists before view views ∙ sym cloned)
          (sym (c.as_ref.ensures.value ∙ started ∙ gives-so p a reported numbered below here lists before view views))
          (keys-of p a reported numbered below here lists before view views)
          (transfer-of p a reported numbered below here lists before view views ∙ ap new_transfer (sym cloned));
    }
