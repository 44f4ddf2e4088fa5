-- What a server keeps, where a part changes that the other half does not have.
use Rattle.std.proofs.Common.{◌≡◌, inl, inr, ℕ, List, [], ◌∷◌, ◌++◌, map, length, Option, Vec, Global, refl, sym, ap, ◌∙◌, subst}
use Rattle.std.proofs.lemmas.List.{map-append, length-map}
use Rattle.accounts.specs.Views.{delivery}
use Rattle.group_defs.specs.Process as process
use Rattle.member_events.specs.declared.events.Delivered.{Delivered}
use Rattle.store_defs.specs.Serving as plain
use Rattle.store_defs.specs.Serving.{Place, after_message, with_key}
use Rattle.store_defs.specs.Stores.{Store}
use Rattle.store_defs.specs.Transfers.{Transfer}
use Rattle.store_giving.specs.Given.{IsGiving, transfer_in}
use Rattle.store_giving.specs.declared.giving.Giving.{Giving}
use Rattle.store_replies.specs.Replying.{IsReplying}
use Rattle.store_replies.specs.declared.replies.Replies.{Replies}
use Rattle.store_server.specs.Beginning.{lists_of}
use Rattle.store_server.proofs.Lasts.{same-last}

module _ (q : Place) (s : plain.Server) where
  pub giving-store : (o : Option Store) (g : Giving) → IsGiving q s g → IsGiving q (record s { store = o }) g
  giving-store o g is = record {
    me = is.me;
    group = is.group;
    key = is.key;
    view = is.view;
    gives = is.gives;
    keys = is.keys;
    transfer = is.transfer;
  }

  pub giving-any : (o : Option Store) (t : Transfer) (g : Giving) → IsGiving q (record s { store = o; transfer = t }) g
      → IsGiving q (record s { transfer = t }) g
  giving-any o t g is = record {
    me = is.me;
    group = is.group;
    key = is.key;
    view = is.view;
    gives = is.gives;
    keys = is.keys;
    transfer = is.transfer;
  }

  pub giving-message : (d : process.Delivered) (g : Giving) → IsGiving q s g → IsGiving q (after_message s d) g
  giving-message d g is = record {
    me = is.me;
    group = is.group;
    key = is.key;
    view = is.view;
    gives = is.gives;
    keys = is.keys;
    transfer = is.transfer;
  }

  pub replying-transfer : (t : Transfer) (r : Replies) → IsReplying q s r → IsReplying q (record s { transfer = t }) r
  replying-transfer t r is = record {
    me = is.me;
    group = is.group;
    key = is.key;
    delivered = is.delivered;
    last = is.last;
    store = is.store;
  }

  pub replying-key : (p : ℕ) (k : List ℕ) (r : Replies) → IsReplying q s r → IsReplying q (with_key p k s) r
  replying-key p k r is = record {
    me = is.me;
    group = is.group;
    key = is.key;
    delivered = is.delivered;
    last = is.last;
    store = is.store;
  }

-- ---- lists of what was delivered

pub lists-so : (ds below : List (Vec Delivered Global)) (here : Vec Delivered Global) → ds ≡ below ++ here ∷ []
    → lists_of ds ≡ lists_of below ++ map delivery here.items ∷ []
lists-so ds below here e = ap lists_of e ∙ map-append (λ (es : Vec Delivered Global). map delivery es.items) below (here ∷ [])

pub lists-length : (ds : List (Vec Delivered Global)) → length (lists_of ds) ≡ length ds
lists-length ds = length-map ds (λ (es : Vec Delivered Global). map delivery es.items)
