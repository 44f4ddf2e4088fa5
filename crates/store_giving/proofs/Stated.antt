-- The state that is given, from what is kept for it.
use Rattle.std.proofs.Common.{◌≡◌, ℕ, ◌<◌, ◌≤◌, List, [], Option, Some, None, Bool, refl, ap, ◌∙◌}
use Rattle.std.specs.Prelude.{if◌then◌else◌, nat_le, option_map}
use Rattle.std.proofs.lemmas.Bool.{le-leb, lt-leb}
use Rattle.store_defs.specs.Keys.{Signs}
use Rattle.store_defs.specs.Records.{StateRecord, state_body}
use Rattle.store_defs.specs.Serving.{Given, NoState, NoStateLeaf, Place, Server, StateWord, state_given}
use Rattle.store_defs.specs.Stores.{Store, store_bytes}
use Rattle.group_defs.specs.Views.{View}
use Rattle.store_giving.specs.Signatures.{record_with}

-- the state record, signed with the leaf whose number is the view's
abbrev pub signed_with : ℕ → List ℕ → Signs → ℕ → List ℕ → StateRecord
signed_with me group key number state =
    record_with me number state (key.signature number (state_body group (record_with me number state [])))

-- the word of the state that is given, of these parts
abbrev pub state_in_parts : ℕ → List ℕ → Signs → ℕ → Option (List ℕ) → StateWord
state_in_parts me group key number None = NoState
state_in_parts me group key number (Some state) =
    if nat_le key.total number then NoStateLeaf else Given (signed_with me group key number state)

of_store : (q : Place) (s : Server) (o : Option Store)
    → state_given q (record s { gives = o }) ≡ state_in_parts q.me q.group q.states s.view.number (option_map store_bytes o)
unfolding state_given
of_store q s None = refl
of_store q s (Some t) = refl

module _ (q : Place) (s : Server) (me : ℕ) (group : List ℕ) (key : Signs) (view : View) (state : Option (List ℕ))
    (is_me : q.me ≡ me) (is_group : q.group ≡ group) (is_key : q.states ≡ key) (is_view : s.view ≡ view)
    (is_state : option_map store_bytes s.gives ≡ state) where
  of-parts : state_given q s ≡ state_in_parts me group key view.number state
  of-parts =
      of_store q s s.gives
      ∙ (λ i. state_in_parts (is_me i) (is_group i) (is_key i) ((is_view i).number) (is_state i))

  pub no-state : state ≡ None → state_given q s ≡ NoState
  no-state none = of-parts ∙ ap (λ (o : Option (List ℕ)). state_in_parts me group key view.number o) none

  pub no-leaf : (bytes : List ℕ) → state ≡ Some bytes → key.total ≤ view.number → state_given q s ≡ NoStateLeaf
  no-leaf bytes some spent =
      of-parts
      ∙ ap (λ (o : Option (List ℕ)). state_in_parts me group key view.number o) some
      ∙ ap (λ (b : Bool). if b then NoStateLeaf else Given (signed_with me group key view.number bytes))
      (le-leb key.total view.number spent)

  pub given : (bytes : List ℕ) → state ≡ Some bytes → view.number < key.total
      → state_given q s ≡ Given (signed_with me group key view.number bytes)
  given bytes some left =
      of-parts
      ∙ ap (λ (o : Option (List ℕ)). state_in_parts me group key view.number o) some
      ∙ ap (λ (b : Bool). if b then NoStateLeaf else Given (signed_with me group key view.number bytes))
      (lt-leb key.total view.number left)
