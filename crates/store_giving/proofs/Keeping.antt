-- What a process keeps of its view.
use Rattle.std.proofs.Common.{◌≡◌, ℕ, ◌<◌, List, [], ◌++◌, Option, Some, None, false, refl, sym, ap, ◌∙◌, subst}
use Rattle.std.specs.Prelude.{◌==◌, if◌then◌else◌, IsSome, is_some, find, option_map}
use Rattle.group_defs.specs.Views.{View}
use Rattle.sig_scheme.specs.Keys.{key_bytes}
use Rattle.sig_scheme.specs.declared.public_key.PublicKey.{PublicKey}
use Rattle.store_defs.specs.Keys.{Signs}
use Rattle.store_defs.specs.Serving.{Given, Place, Server, handed_key, state_given, with_key}
use Rattle.store_defs.specs.Stores.{Store, store_bytes}
use Rattle.store_defs.specs.Words.{given_text}
use Rattle.store_keys.specs.Keys.{signs}
use Rattle.store_giving.specs.Given.{IsGiving, IsSameBut, signed_record}
use Rattle.store_giving.specs.Handed.{key_of}
use Rattle.store_giving.specs.Signatures.{state_in}
use Rattle.store_giving.specs.Spellings.{bytes_in}
use Rattle.store_giving.specs.declared.giving.Giving.{Giving}
use Rattle.store_giving.specs.declared.handed.StateKeys.{StateKeys}
use Rattle.store_giving.specs.declared.spelling.Spelling.{Spelling}
use Rattle.store_giving.proofs.Handing.{handed-key}
use Rattle.store_giving.proofs.Stated.{given}
use Rattle.store_giving.proofs.Telling.{record-reported}

-- ---- the store that is given

map-map : {A B C : Type 0} (f : A → B) (g : B → C) (o : Option A) → option_map g (option_map f o) ≡ option_map (λ a. g (f a)) o
map-map f g None = refl
map-map f g (Some a) = refl

-- its spelling
pub spelled-so : {A : Type 0} (store_in : A → Store) (lent : Option A) (gives : Option Store) (state : Option Spelling)
    → gives ≡ option_map store_in lent → option_map bytes_in state ≡ option_map (λ a. store_bytes (store_in a)) lent
    → option_map store_bytes gives ≡ option_map bytes_in state
spelled-so store_in lent gives state is spelled =
    ap (option_map store_bytes) is ∙ map-map store_in store_bytes lent ∙ sym spelled

-- ---- the keys that are handed

pub none-handed : (s : Server) (p : ℕ) → s.keys ≡ [] → handed_key s p ≡ None
none-handed s p e = ap (λ (ks : List (ℕ × List ℕ)). option_map (λ k. k.1) (find (λ k. k.0 == p) ks)) e

pub handed-so : (s : Server) (t u : StateKeys) (p : ℕ) (key : PublicKey) → ((m : ℕ) → handed_key s m ≡ key_of t m)
    → ((m : ℕ) → key_of u m ≡ (if p == m then Some (key_bytes key) else key_of t m))
    → (m : ℕ) → handed_key (with_key p (key_bytes key) s) m ≡ key_of u m
handed-so s t u p key is handed m =
    handed-key s p (key_bytes key) m ∙ ap (λ (o : Option (List ℕ)). if p == m then Some (key_bytes key) else o) (is m) ∙ sym (handed m)

-- ---- a state that is given

pub no-bytes : (o : Option Spelling) → is_some o ≡ false → option_map bytes_in o ≡ None
no-bytes None none = refl
no-bytes (Some b) none = absurd cc

pub some-state : (o : Option Spelling) → IsSome o → option_map bytes_in o ≡ Some (state_in o)
some-state None some = absurd cc
some-state (Some b) some = refl

module _ (q : Place) (s : Server) (g h : Giving) (is : IsGiving q s g) (same : IsSameBut g h) where
  pub same-giving : IsGiving q s h
  same-giving = record {
    me = is.me ∙ sym same.me;
    group = is.group ∙ sym same.group;
    key = is.key ∙ sym same.key;
    view = is.view ∙ sym same.view;
    gives = is.gives ∙ ap (option_map bytes_in) (sym same.state);
    keys = λ p. is.keys p ∙ (λ i. key_of (sym same.keys i) p);
    transfer = is.transfer ∙ sym same.transfer;
  }

  gave : IsSome h.state → h.view.number < (signs h.key).total → state_given q s ≡ Given (signed_record h)
  gave some left = given q s h.me h.group (signs h.key) h.view (option_map bytes_in h.state) same-giving.me same-giving.group
      same-giving.key same-giving.view same-giving.gives (state_in h.state) (some-state h.state some) left

  pub gave-reported : (before after : List ℕ) → IsSome g.state → g.view.number < (signs g.key).total
      → after ≡ before ++ given_text h.me (Given (signed_record h)) → after ≡ before ++ given_text q.me (state_given q s)
  gave-reported before after some left said =
      let some_so : IsSome h.state = subst (λ (o : Option Spelling). IsSome o) (sym same.state) some in
      let left_so : h.view.number < (signs h.key).total = subst (λ (v : View). v.number < (signs h.key).total) (sym same.view)
      (subst (λ (k : Signs). g.view.number < k.total) (sym same.key) left) in
      record-reported q s h.me same-giving.me before after (signed_record h) (gave some_so left_so) said
