-- The parts of an image that are asked for one by one make it kept, and a kept image has them.
use Rattle.std.proofs.Common.{◌≡◌, ◌+◌, List, [], ◌∷◌, length, refl, arith}
use Rattle.std.specs.List.{sum_by}
use Rattle.group_defs.specs.Views.{View}
use Rattle.group_defs.specs.Process.{Setting, Process, Delivered, earlier, delivered_from}
use Rattle.image_defs.specs.Images.{Image, LeftView, lefts_from, process_of, view_behind}
use Rattle.image_defs.specs.Kept.{IsKept}
use Rattle.restored_present.specs.Left.{IsLeftSo, AreByPlace}
use Rattle.restored_present.specs.Parts.{IsReportedSo, IsPresentSo}
use Rattle.member_restoring.proofs.Lists.{own-are}

module _ (s : Setting) (i : Image) (lists : length i.delivered ≡ length i.left + 1) where
  abbrev p : Process
  p = process_of s 1 i

  abbrev v : View
  v = view_behind s.genesis i.left

  none-left : (w : View) (ls : List LeftView) (ds : List (List Delivered)) → lefts_from w ls ds ≡ [] → ls ≡ []
  none-left w [] ds e = refl
  none-left w (l ∷ ls) ds e = absurd cc

  left-none : (w : View) (ls : List LeftView) (ds : List (List Delivered)) → ls ≡ [] → lefts_from w ls ds ≡ []
  left-none w [] ds e = refl
  left-none w (l ∷ ls) ds e = absurd cc

  own-all : earlier p + delivered_from p.me p.delivered ≡ sum_by (λ ds. delivered_from i.me ds) i.delivered
  own-all = own-are i.me s.genesis i.left i.delivered lists

  pub kept-is : AreByPlace i.delivered → IsLeftSo s i → IsReportedSo s v i → IsPresentSo s p → IsKept s i
  kept-is placed left reported present = record {
    left = left.left;
    last = left.last;
    none_before = λ none. left.none_before (none-left s.genesis i.left i.delivered none);
    heard = present.heard;
    was_heard = left.was_heard;
    conflicts = reported.conflicts.each;
    one_each = reported.conflicts.one_each;
    own = reported.own;
    signed_once = present.said.once;
    heard_own = present.said.heard_own;
    by_place = placed.by_place;
    few_places = placed.few;
    outside = present.shown.outside;
    placed = present.shown.placed;
    paid = present.shown.paid;
    decided = λ d is. (let so = present.decided d is in (so.0, so.1.0, so.1.1, so.1.2));
    halted = present.halted;
    short = reported.accepted.short;
    backlog = (let le = reported.accepted.backlog in omega (arith, le, own-all));
    perceived = reported.perceived;
  }

  module _ (kept : IsKept s i) where
    pub stand-so : AreByPlace i.delivered
    stand-so = record { by_place = kept.by_place; few = kept.few_places }

    pub left-so : IsLeftSo s i
    left-so = record {
      left = kept.left;
      last = kept.last;
      none_before = λ none. kept.none_before (left-none s.genesis i.left i.delivered none);
      was_heard = kept.was_heard;
    }

    pub reported-so : IsReportedSo s v i
    reported-so = record {
      accepted = record { short = kept.short; backlog = (let le = kept.backlog in omega (arith, le, own-all)) };
      perceived = kept.perceived;
      conflicts = record { each = kept.conflicts; one_each = kept.one_each };
      own = kept.own;
    }

    pub present-so : IsPresentSo s p
    present-so = record {
      heard = kept.heard;
      shown = record { outside = kept.outside; placed = kept.placed; paid = kept.paid };
      said = record { once = kept.signed_once; heard_own = kept.heard_own };
      decided = λ d is. (let so = kept.decided d is in (so.0, (so.1, so.2, so.3)));
      halted = kept.halted;
    }
