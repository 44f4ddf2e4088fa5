use Rattle.std.proofs.Common.{◌≡◌, ◌∙◌, ◌<◌, ◌≤◌, List, length, Some, None, sym, ap, subst, slice_get}
use Rattle.std.specs.Prelude.{slice_index_or}
use Rattle.std.specs.Option.{option_map}
use Rattle.std.proofs.lemmas.Option.{slice_get-map, slice_get-get_or, slice_get_past}
use Rattle.claim_index.specs.declared.key.Key.{Key}
use Rattle.claim_index.specs.declared.index.Kept.{Kept}
use Rattle.claim_index.specs.Kept.{claim_at, claim_with}
use Rattle.claim_lists.specs.Lists.{Listing}
use Rattle.claim_lists.proofs.list.ClaimList.get.Goals as goal

pub returns-in-Some : goal.returns-in-Some
returns-in-Some c =
    let e = c.in-Some.ensures.lookup in
    let x = c.in-Some.field-0.now in
    let lt : c.args.place < length c.self.inside.kept.items = subst (λ (es : List (Key × Kept)). c.args.place < length es)
    c.deref.ensures.value e.3.0 in
    let at : slice_get c.self.inside.kept.items c.args.place ≡ Some x = slice_get-get_or c.self.inside.kept.items c.args.place x lt
    ∙ ap Some (sym (e.1 ∙ ap (λ (es : List (Key × Kept)). slice_index_or es c.args.place x) c.deref.ensures.value)) in
    ap Some (c.lent.ensures.value ∙ (λ i. claim_with (c.deref-in-Some.ensures.value i) (c.signer.ensures i) x.1))
    ∙ sym (slice_get-map (claim_at c.self.inside.bytes.items) c.self.inside.kept.items c.args.place
    ∙ ap (option_map (claim_at c.self.inside.bytes.items)) at)
    ∙ ap (λ (r : Listing). slice_get r.claims c.args.place) c.self.view_is

pub returns-in-None : goal.returns-in-None
returns-in-None c =
    let e = c.in-None.ensures.lookup in
    let le : length c.self.inside.kept.items ≤ c.args.place = subst (λ (es : List (Key × Kept)). length es ≤ c.args.place)
    c.deref.ensures.value e.3 in
    sym (slice_get-map (claim_at c.self.inside.bytes.items) c.self.inside.kept.items c.args.place
    ∙ ap (option_map (claim_at c.self.inside.bytes.items)) (slice_get_past c.self.inside.kept.items c.args.place le))
    ∙ ap (λ (r : Listing). slice_get r.claims c.args.place) c.self.view_is
