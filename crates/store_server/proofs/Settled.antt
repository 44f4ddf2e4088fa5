-- What a word leaves.
use Rattle.std.proofs.Common.{◌≡◌, ◌⊎◌, inl, inr, ℕ, List, Option, Result, Ok, Err, refl, sym, ap, ◌∙◌, subst}
use Rattle.std.specs.Prelude.{OnErr, OnOk}
use Rattle.store_defs.specs.declared.Taken.{Taken}
use Rattle.store_defs.specs.declared.Taken.TheVariants as taken
use Rattle.store_defs.specs.Serving as plain
use Rattle.store_defs.specs.Serving.{Place, after_offer, with_key}
use Rattle.store_defs.specs.Services.{worded}
use Rattle.store_defs.specs.Stores.{Store}
use Rattle.store_defs.specs.Transfers.{Transfer}
use Rattle.store_defs.specs.Votes.{Valid}
use Rattle.store_defs.specs.Words as words
use Rattle.store_giving.specs.Given.{IsGiving}
use Rattle.store_giving.specs.Offers.{ready_store, store_by}
use Rattle.store_giving.specs.declared.giving.Giving.{Giving}
use Rattle.store_giving.specs.declared.offered.Offered.{Offered}
use Rattle.store_giving.specs.declared.offered.Offered.TheVariants.{Offered as Made}
use Rattle.store_replies.specs.Replying.{IsReplying}
use Rattle.store_server.specs.Serving.{IsCutOff, IsServer}
use Rattle.store_server.specs.declared.server.Server.{Server}
use Rattle.store_server.proofs.Parts.{giving-any, giving-store}

-- what holds anyway holds after an Ok, and after an Err
pub any-ok : {A E P : Type 0} (r : Result A E) → P → OnOk r P
any-ok (Ok x) p = p
any-ok (Err e) p = tt

pub any-err : {A E P : Type 0} (r : Result A E) → P → OnErr r P
any-err (Ok x) p = tt
any-err (Err e) p = p

pub on-err : {A E P Q : Type 0} (r : Result A E) → (P → Q) → OnErr r P → OnErr r Q
on-err (Ok x) f p = tt
on-err (Err e) f p = f p

-- ---- a store that is taken over

pub taken-over : (q : Place) (s : plain.Server) (here : List (List ℕ)) (offered : Offered) (f : Taken) (t : Transfer) (o : Option Store)
    (x : Server) → offered ≡ Made f → f ≡ taken.Ready → o ≡ ready_store here t → IsReplying q (record s { store = o }) x.replies
    → IsGiving q s x.giving → IsServer q (record s { store = store_by here s.store offered t }) x
taken-over q s here offered f t o x made ready is replies gives =
    let store : o ≡ store_by here s.store offered t =
    is ∙ sym (ap (λ (u : Offered). store_by here s.store u t) (made ∙ ap (λ (v : Taken). Made v) ready)) in
    subst (λ (u : Option Store). IsServer q (record s { store = u }) x) store
    (record { replies = replies; gives = giving-store q s o x.giving gives })

-- ---- a state that is offered

module _ (q : Place) (s after : plain.Server) (here : List (List ℕ)) (o : Offered) (t : Transfer)
    (is_after : after ≡ record s { store = store_by here s.store o t; transfer = t }) where
  pub offered-giving : (g : Giving) → IsGiving q after g → IsGiving q (record s { transfer = t }) g
  offered-giving g is =
      giving-any q s (store_by here s.store o t) t g (subst (λ (x : plain.Server). IsGiving q x g) is_after is)

  -- where it is cut off then, only the transfer has changed
  pub cut-off : (x : Server) → IsServer q (record s { transfer = t }) x → IsCutOff q s after x
  cut-off x is = inr (subst (λ (u : Transfer). IsServer q (record s { transfer = u }) x)
      (sym (ap (λ (y : plain.Server). y.transfer) is_after)) is)

  pub settled-so : (x : Server) → IsServer q (record s { store = store_by here s.store o t; transfer = t }) x → IsServer q after x
  settled-so x is = subst (λ (y : plain.Server). IsServer q y x) (sym is_after) is

-- ---- words

module _ (valid : Valid) (q : Place) (here : List (List ℕ)) (s : plain.Server) (w : words.Word) where
  pub worded-give : w ≡ words.Give → s ≡ (worded valid q here s w).1
  unfolding worded
  worded-give is = sym (ap (λ (v : words.Word). (worded valid q here s v).1) is)

  pub worded-state : (bytes read : List ℕ) → w ≡ words.State bytes → read ≡ bytes
      → after_offer valid q here s read ≡ (worded valid q here s w).1
  unfolding worded
  worded-state bytes read is same =
      ap (after_offer valid q here s) same ∙ sym (ap (λ (v : words.Word). (worded valid q here s v).1) is)

  pub worded-key : (p : ℕ) (key : List ℕ) → w ≡ words.StateKey p key → with_key p key s ≡ (worded valid q here s w).1
  unfolding worded
  worded-key p key is = sym (ap (λ (v : words.Word). (worded valid q here s v).1) is)
