-- What both versions have in common.
use Rattle.std.proofs.Common.{◌≡◌, ℕ, ◌+◌, List, [], ◌∷◌, ◌++◌, length, sym, ap, ◌∙◌, append_assoc}
use Rattle.std.specs.List.{flat_map}
use Rattle.byte_defs.specs.Fields.{text, two_bytes}
use Rattle.group_defs.specs.Process.{Delivered}
use Rattle.image_defs.specs.Spelling.{list_bytes, claim_bytes, left_bytes, perceived_bytes, image_bytes}
use Rattle.snapshot_defs.specs.declared.Version.TheVariants.{One, Two}
use Rattle.snapshot_defs.specs.Spelling.{claimed_bytes, settled_bytes, spelled}
use Rattle.snapshot_defs.specs.Ranges.{EachFrom, IsDeliveredAt}
use Rattle.snapshot_defs.specs.Laws.{WrittenIsSecond, OldIsWritten}
use Rattle.snapshot_laws.proofs.Values.{all_conflicts}
use Rattle.snapshot_laws.proofs.Parts.{IsView}

four_before : (a b c d more : List ℕ) → (a ++ (b ++ (c ++ d))) ++ more ≡ a ++ (b ++ (c ++ (d ++ more)))
four_before a b c d more = append_assoc a (b ++ (c ++ d)) more
    ∙ ap (λ (l : List ℕ). a ++ l) (append_assoc b (c ++ d) more ∙ ap (λ (l : List ℕ). b ++ l) (append_assoc c d more))

pub written_is_second : WrittenIsSecond
unfolding image_bytes spelled
written_is_second i =
    let views = two_bytes (length i.left) in
    let left = flat_map left_bytes i.left in
    let perceived = list_bytes perceived_bytes i.perceived in
    let accepted = list_bytes text i.accepted in
    sym (ap (λ (l : List ℕ). i.me ∷ l)
    (four_before views left perceived accepted (claimed_bytes i ++ settled_bytes Two i)
    ∙ ap (λ (l : List ℕ). views ++ (left ++ (perceived ++ (accepted ++ l))))
    (four_before (list_bytes claim_bytes i.signed) (list_bytes claim_bytes i.previous) (list_bytes claim_bytes i.heard)
    (all_conflicts i.conflicts) (settled_bytes Two i))))

each_new : (k : ℕ) (ds : List Delivered) → EachFrom (IsDeliveredAt One) k ds → EachFrom (IsDeliveredAt Two) k ds
each_new k [] each = tt
each_new k (d ∷ ds) each = ((each.0.0.0, each.0.1, each.0.2, each.0.3), each_new (k + 1) ds each.1)

views_new : (k : ℕ) (views : List (List Delivered)) → EachFrom (IsView One) k views → EachFrom (IsView Two) k views
views_new k [] each = tt
views_new k (ds ∷ more) each = ((each.0.0, each_new 0 ds each.0.1), views_new (k + 1) more each.1)

pub old_is_written : OldIsWritten
old_is_written i is = record {
  me = is.me;
  views = is.views;
  left = is.left;
  perceived = is.perceived;
  perceived_rise = is.perceived_rise;
  accepted = is.accepted;
  signed = is.signed;
  previous = is.previous;
  heard = is.heard;
  few = is.few;
  conflicts = is.conflicts;
  conflicts_rise = is.conflicts_rise;
  lists = is.lists;
  delivered = views_new 0 i.delivered is.delivered;
  decision = is.decision;
}
