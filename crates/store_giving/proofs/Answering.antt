-- A state that is offered, from what the process keeps of its view.
use Rattle.std.proofs.Common.{◌≡◌, ℕ, List, [], Option, Some, None, Bool, true, false, refl, sym, ap, ◌∙◌, subst, Ok, Err}
use Rattle.std.specs.Prelude.{is_some, option_map}
use Rattle.group_defs.specs.Views.{is_member}
use Rattle.store_defs.specs.declared.Taken.{Taken}
use Rattle.store_defs.specs.declared.Taken.TheVariants as taken
use Rattle.store_defs.specs.Records.{StateRecord, state_record_of}
use Rattle.store_defs.specs.Serving.{Place, Server, after_offer, after_taken, offer_word, taken_by, word_of_taken}
use Rattle.store_defs.specs.Stores.{Store}
use Rattle.store_defs.specs.Transfers.{Transfer, offer, with_record}
use Rattle.store_defs.specs.Votes.{Valid}
use Rattle.store_keys.specs.Keys.{signs}
use Rattle.store_records.specs.Finds.{Finds}
use Rattle.store_records.specs.Views.{state_record as record_of}
use Rattle.store_records.specs.declared.state.StateRecord.{StateRecord as Read}
use Rattle.store_giving.specs.Given.{IsGiving, IsSameBut, transfer_in}
use Rattle.store_giving.specs.Spellings.{bytes_in}
use Rattle.store_giving.specs.Handed.{key_of}
use Rattle.store_giving.specs.Offers.{store_by, word}
use Rattle.store_giving.specs.declared.giving.Giving.{Giving}
use Rattle.store_giving.specs.declared.offered.Offered.TheVariants.{Offered as Made}
use Rattle.store_giving.proofs.Keeping.{same-giving}
use Rattle.store_giving.proofs.Offering.{store_taken, taken-after, taken-parts, taken-word}

-- the store after what became of the state
made-so : (here : List (List ℕ)) (o : Option Store) (t : Taken) (r : Transfer) → store_by here o (Made t) r ≡ store_taken here o t r
made-so here o taken.OtherView r = refl
made-so here o taken.Stranger r = refl
made-so here o taken.Unsigned r = refl
made-so here o taken.Known r = refl
made-so here o taken.Ready r = refl
made-so here o (taken.Counted n) r = refl

-- ---- what the bytes were read as

pub read-none : (o : Option Read) (bytes : List ℕ) → o ≡ None → Finds record_of o (state_record_of bytes) → state_record_of bytes ≡ Err tt
read-none o bytes none found = subst (λ (x : Option Read). Finds record_of x (state_record_of bytes)) none found

pub read-some : (o : Option Read) (given : Read) (bytes : List ℕ) → o ≡ Some given → Finds record_of o (state_record_of bytes)
    → state_record_of bytes ≡ Ok (record_of given)
read-some o given bytes some found = subst (λ (x : Option Read). Finds record_of x (state_record_of bytes)) some found

-- ---- the server

module _ (q : Place) (s : Server) (g : Giving) (is : IsGiving q s g) where
  -- where nothing was taken, the server stays
  pub stays : s ≡ record s { store = s.store; transfer = transfer_in g }
  stays = λ i. record s { transfer = is.transfer i }

  -- and it is kept
  pub unmoved : (h : Giving) (t : Server) → t ≡ s → IsSameBut g h → IsGiving q t h
  unmoved h t same kept = subst (λ (x : Server). IsGiving q x h) (sym same) (same-giving q s g h is kept)

  -- the server with another store, and with the transfer that is kept now
  pub gives-with : (h : Giving) (o : Option Store) → h.me ≡ g.me → h.group ≡ g.group → signs h.key ≡ signs g.key → h.view ≡ g.view
      → h.state ≡ g.state → h.keys ≡ g.keys → IsGiving q (record s { store = o; transfer = transfer_in h }) h
  gives-with h o me group key view state keys = record {
    me = is.me ∙ sym me;
    group = is.group ∙ sym group;
    key = is.key ∙ sym key;
    view = is.view ∙ sym view;
    gives = is.gives ∙ ap (option_map bytes_in) (sym state);
    keys = λ p. is.keys p ∙ (λ i. key_of (sym keys i) p);
    transfer = refl;
  }

  -- who is a member of the view that is kept
  pub member-so : (b : Bool) → b ≡ is_member g.view g.me → is_member s.view q.me ≡ b
  member-so b here = (λ i. is_member (is.view i) (is.me i)) ∙ sym here

  module _ (valid : Valid) (r : StateRecord) (key : Option (List ℕ)) (t : Taken)
      (is_key : key ≡ key_of g.keys r.signer) (is_taken : t ≡ offer valid g.group key g.transfer r) where
    pub taken-so : t ≡ taken_by valid q s r
    taken-so = is_taken ∙ (λ i. offer valid (sym is.group i) ((is_key ∙ sym (is.keys r.signer)) i) (sym is.transfer i) r)

    pub word-so : (bytes : List ℕ) → state_record_of bytes ≡ Ok r → is_some s.store ≡ false → is_member s.view q.me ≡ true
        → word (Made t) ≡ offer_word valid q s bytes
    word-so bytes read holds member =
        ap word_of_taken taken-so ∙ sym (taken-word valid q [] s bytes r read holds member)

    pub server-so : (here : List (List ℕ)) (bytes : List ℕ) (after : Transfer) → state_record_of bytes ≡ Ok r → is_some s.store ≡ false
        → is_member s.view q.me ≡ true → after ≡ with_record g.transfer r t
        → after_offer valid q here s bytes ≡ record s { store = store_by here s.store (Made t) after; transfer = after }
    server-so here bytes after read holds member is_after =
        let same : with_record s.transfer r t ≡ after = (λ i. with_record (is.transfer i) r t) ∙ sym is_after in
        taken-after valid q here s bytes r read holds member
        ∙ (λ i. after_taken here s r (sym taken-so i))
        ∙ taken-parts here s r t
        ∙ (λ i. record s { store = store_taken here s.store t (same i); transfer = same i })
        ∙ (λ i. record s { store = sym (made-so here s.store t after) i; transfer = after })

    pub after-so : (here : List (List ℕ)) (bytes : List ℕ) (h : Giving) → state_record_of bytes ≡ Ok r → is_some s.store ≡ false
        → is_member s.view q.me ≡ true → h.transfer ≡ with_record g.transfer r t → h.me ≡ g.me → h.group ≡ g.group
        → signs h.key ≡ signs g.key → h.view ≡ g.view → h.state ≡ g.state → h.keys ≡ g.keys
        → IsGiving q (after_offer valid q here s bytes) h
    after-so here bytes h read holds member is_after me group key view state keys =
        subst (λ (x : Server). IsGiving q x h) (sym (server-so here bytes (transfer_in h) read holds member is_after))
        (gives-with h (store_by here s.store (Made t) (transfer_in h)) me group key view state keys)
