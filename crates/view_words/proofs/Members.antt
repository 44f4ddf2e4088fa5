-- The members of a view's line, taken one after another.
use Rattle.std.proofs.Common.{◌≡◌, ◌≢◌, ℕ, ◌<◌, ◌≤◌, ◌&&◌, Bool, true, false, List, [], ◌∷◌, ◌++◌, length, Option, Some, None, option_map, refl, sym, ap, ◌∙◌}
use Rattle.std.specs.Prelude.{AllPairs, IfSome, IsSome, if◌then◌else◌, nat_le}
use Rattle.std.proofs.lemmas.Bool.{le-leb, lt-leb}
use Rattle.byte_defs.specs.Choices.{and_then}
use Rattle.byte_defs.specs.Members.{has}
use Rattle.message_defs.specs.Limits.{last_number}
use Rattle.group_defs.specs.Views.{View}
use Rattle.text_defs.specs.Words.{number_within, process_of}
use Rattle.kit_defs.specs.KitReading.{members_by}
use Rattle.view_table.specs.Views.{as_view, IsNumberedView}
use Rattle.store_defs.specs.Asking.{view_of_words}
use Rattle.view_words.specs.Members.{members_within}

pub one_more : (before : List ℕ) (left : List (List ℕ)) (word : List ℕ) (words : List (List ℕ)) (p : ℕ) (all : Option (List ℕ))
    → left ≡ word ∷ words → process_of word ≡ Some p → has before p ≡ false → members_by before left ≡ all
    → members_by (before ++ p ∷ []) words ≡ all
unfolding members_by
one_more before left word words p all parts names new so_far = sym (ap (members_by before) parts ∙ rw (names, new) refl) ∙ so_far

none_if : (b : Bool) (o : Option (List ℕ)) → o ≡ None → (if b then o else None) ≡ None
none_if true o e = e
none_if false o e = refl

-- where the members are none, the words name none
no_members : (all : List (List ℕ)) → members_by [] all ≡ None → members_within all ≡ None
no_members all e = none_if (nat_le 1 (length all) && nat_le (length all) 16) (members_by [] all) e

pub names_none : (before : List ℕ) (left : List (List ℕ)) (word : List ℕ) (words : List (List ℕ)) (all : List (List ℕ))
    → left ≡ word ∷ words → process_of word ≡ None → members_by before left ≡ members_by [] all → members_within all ≡ None
unfolding members_by
names_none before left word words all parts names so_far = no_members all (sym so_far ∙ ap (members_by before) parts ∙ rw names refl)

pub names_again : (before : List ℕ) (left : List (List ℕ)) (word : List ℕ) (words : List (List ℕ)) (p : ℕ) (all : List (List ℕ))
    → left ≡ word ∷ words → process_of word ≡ Some p → has before p ≡ true → members_by before left ≡ members_by [] all
    → members_within all ≡ None
unfolding members_by
names_again before left word words p all parts names again so_far = no_members all
    (sym so_far ∙ ap (members_by before) parts ∙ rw (names, again) refl)

too_many : (a : Bool) (n : ℕ) (o : Option (List ℕ)) → 16 < n → (if a && nat_le n 16 then o else None) ≡ None
too_many true n o more = rw (lt-leb n 16 more) refl
too_many false n o more = refl

pub names_too_many : (all : List (List ℕ)) → 16 < length all → members_within all ≡ None
names_too_many all more = too_many (nat_le 1 (length all)) (length all) (members_by [] all) more

few : (n : ℕ) (o : Option (List ℕ)) → 1 ≤ n → n ≤ 16 → (if nat_le 1 n && nat_le n 16 then o else None) ≡ o
few n o some most = rw (le-leb 1 n some, le-leb n 16 most) refl

pub names_all : (members : List ℕ) (left : List (List ℕ)) (all : List (List ℕ)) → left ≡ [] → 1 ≤ length all → length all ≤ 16
    → members_by members left ≡ members_by [] all → members_within all ≡ Some members
unfolding members_by
names_all members left all none some most so_far =
    few (length all) (members_by [] all) some most ∙ (sym so_far ∙ ap (members_by members) none)

-- without a word there are no members
pub no_words : (all : List (List ℕ)) → all ≡ [] → members_within all ≡ None
no_words all e = ap members_within e

-- ---- the view

-- a view of this number with members, where there are some
abbrev view_with : ℕ → Option (List ℕ) → Option View
view_with x members = option_map (as_view x) members

mapped_if : (x : ℕ) (b : Bool) (o : Option (List ℕ)) → (if b then option_map (as_view x) o else None) ≡ view_with x (if b then o else None)
mapped_if x true o = refl
mapped_if x false o = refl

pub numbered : (word : List ℕ) (words : List (List ℕ)) (x : ℕ) → number_within 0 last_number word ≡ Some x
    → view_of_words word words ≡ view_with x (members_within words)
numbered word words x e = rw e (mapped_if x (nat_le 1 (length words) && nat_le (length words) 16) (members_by [] words))

pub unnumbered : (word : List ℕ) (words : List (List ℕ)) → number_within 0 last_number word ≡ None → view_of_words word words ≡ None
unnumbered word words e = rw e refl

-- the one that is made is the one that the words say
pub view_is : (o : Option View) (v : View) → IfSome o (λ w. w ≡ v) → IsSome o → o ≡ Some v
view_is (Some w) v is some = ap (λ (u : View). Some u) is
view_is None v is some = absurd cc
