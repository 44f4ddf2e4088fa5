-- The roster has keys of the members of each process that begins again.
use Rattle.std.proofs.Common.{◌≡◌, ℕ, List, [], ◌∷◌, refl}
use Rattle.std.specs.Prelude.{All, IsTrue, is_none}
use Rattle.std.proofs.lemmas.List.Elements.{All-from_recursion}
use Rattle.byte_defs.specs.Members.{has}
use Rattle.group_defs.specs.Views.{View, has_keys, next_fault, next_view}
use Rattle.group_defs.specs.Process.{Setting, keyed}
use Rattle.image_defs.specs.Images.{Image, LeftView, process_of, view_behind}
use Rattle.image_defs.specs.Kept.{AreLeft, IsKept}
use Rattle.kit_defs.specs.Kits.{IsKit, Kit, roster_of}
use Rattle.node_defs.specs.Casts.{setting_of}
use Rattle.pool_laws.proofs.Members.{All-mem, mem-All}
use Rattle.pool_laws.proofs.Tests.{and-second}
use Rattle.letter_laws.specs.Letters.{IsKeyed}
use Rattle.letter_laws.proofs.Addressees.{next-members}
use Rattle.node_images.specs.Said.{no_image}

abbrev HasKeyOf : Setting → ℕ → Type 0
HasKeyOf s m = IsTrue (has (keyed s) m)

-- of the view after those that were left
members-so : (s : Setting) (v : View) (ls : List LeftView) → AreLeft s v ls → All (HasKeyOf s) v.members → All (HasKeyOf s) (view_behind v ls).members
members-so s v [] are all = all
members-so s v (l ∷ ls) are all =
    let u = l.value.update in
    members-so s (next_view v u) ls are.1 (mem-All (HasKeyOf s) (next_view v u).members (next-members (keyed s) v u
    (λ m there. All-mem (HasKeyOf s) v.members m all there) (and-second (is_none (next_fault v u)) (has_keys (keyed s) u) are.0.possible)))

pub kept-keyed : (kit : Kit) (p limit : ℕ) (i : Image) → IsKit kit → i.me ≡ p → IsKept (setting_of kit) i
    → IsKeyed (setting_of kit) p (process_of (setting_of kit) limit i)
kept-keyed kit p limit i is own kept = record {
  number = own;
  members = members-so (setting_of kit) (setting_of kit).genesis i.left kept.left
      (All-from_recursion (λ m. IsTrue (has (roster_of kit.keys) m)) kit.genesis is.listed);
  possible = λ d decided. (kept.decided d decided).1;
}

-- and of one that no part is of
pub none-keyed : (kit : Kit) (p limit : ℕ) → IsKit kit → IsKeyed (setting_of kit) p (process_of (setting_of kit) limit (no_image p))
none-keyed kit p limit is = record {
  number = refl;
  members = All-from_recursion (λ m. IsTrue (has (roster_of kit.keys) m)) kit.genesis is.listed;
  possible = λ d none. absurd cc;
}
