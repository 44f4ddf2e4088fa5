-- The reply to a message, from what is kept for it.
use Rattle.std.proofs.Common.{◌≡◌, ℕ, ◌+◌, ◌<◌, ◌≤◌, List, [], Option, Some, None, Bool, true, false, refl, sym, ap, ◌∙◌, arith}
use Rattle.std.specs.Prelude.{if◌then◌else◌, nat_le, min, option_map}
use Rattle.std.proofs.lemmas.Bool.{le-leb, leb-true, leb-false}
use Rattle.message_defs.specs.Statements.{Message}
use Rattle.store_defs.specs.Keys.{Signs}
use Rattle.store_defs.specs.Records.{Reply, reply_body}
use Rattle.store_defs.specs.Serving.{NoLeaf, NoStore, Place, ReplyWord, Server, Signed, position_at, reply_to}
use Rattle.store_defs.specs.Stores.{Store, answer_to}
use Rattle.store_replies.specs.Words.{message_at, most_counted, word_of, word_with}

-- all of a reply but answer and signature
abbrev pub asked : ℕ → ℕ → ℕ → ℕ → List ℕ → Reply
asked me view place position payload =
    record { signer = me; view = view; place = place; position = position; payload = payload; answer = []; signature = [] }

-- the word of the reply to a message, of these parts
abbrev pub word_in : ℕ → ℕ → List ℕ → ℕ → List ℕ → Signs → Option (ℕ × ℕ) → ℕ → Option Store → ReplyWord
word_in view place payload me group key last count store =
    word_of key group count (asked me view place (position_at last place) payload) (option_map (λ t. answer_to t payload) store)

-- the definitions' word has these parts
of_store : (q : Place) (s : Server) (view place : ℕ) (payload : List ℕ) (m : Message) (o : Option Store)
    → reply_to q (record s { store = o }) view (message_at place payload m)
    ≡ word_in view place payload q.me q.group q.replies s.last s.delivered o
unfolding reply_to
of_store q s view place payload m None = refl
of_store q s view place payload m (Some t) = refl

-- no key has more leaves than messages are counted, so the count tells whether one is left, and which
counted-so-far : (key : Signs) (group : List ℕ) (n : ℕ) (r : Reply) → key.total ≤ most_counted
    → word_with key group n r ≡ word_with key group (min n most_counted) r
counted-so-far key group n r few = go (nat_le key.total n) refl
  where
    go : (b : Bool) → b ≡ nat_le key.total n → word_with key group n r ≡ word_with key group (min n most_counted) r
    go true left =
        let le = leb-true key.total n (sym left) in
        let here : nat_le key.total (min n most_counted) ≡ true = le-leb key.total (min n most_counted) (omega (arith, le, few)) in
        ap (λ (b : Bool). if b then NoLeaf else Signed (record r { signature = key.signature n (reply_body group r) })) (sym left)
        ∙ sym (ap (λ (b : Bool). if b then NoLeaf else
        Signed (record r { signature = key.signature (min n most_counted) (reply_body group r) })) here)
    go false left =
        let lt = leb-false key.total n (sym left) in
        let same : n ≡ min n most_counted = omega (arith, lt, few) in
        ap (λ (k : ℕ). word_with key group k r) same

counted-where-held : (view place : ℕ) (payload : List ℕ) (me : ℕ) (group : List ℕ) (key : Signs) (n : ℕ) (last : Option (ℕ × ℕ))
    (o : Option Store) → key.total ≤ most_counted
    → word_in view place payload me group key last n o ≡ word_in view place payload me group key last (min n most_counted) o
counted-where-held view place payload me group key n last None few = refl
counted-where-held view place payload me group key n last (Some t) few = counted-so-far key group n
    (record (asked me view place (position_at last place) payload) { answer = answer_to t payload }) few

pub reply-is : (q : Place) (s : Server) (view place : ℕ) (payload : List ℕ) (m : Message) (me : ℕ) (group : List ℕ) (key : Signs)
    (count : ℕ) (last : Option (ℕ × ℕ)) (store : Option Store)
    → q.me ≡ me → q.group ≡ group → q.replies ≡ key → count ≡ min s.delivered most_counted
    → s.last ≡ last → s.store ≡ store → key.total ≤ most_counted
    → reply_to q s view (message_at place payload m) ≡ word_in view place payload me group key last count store
reply-is q s view place payload m me group key count last store is_me is_group is_key is_count is_last is_store few =
    of_store q s view place payload m s.store
    ∙ (λ i. word_in view place payload (is_me i) (is_group i) (is_key i) (is_last i) s.delivered (is_store i))
    ∙ counted-where-held view place payload me group key s.delivered last store few
    ∙ ap (λ (n : ℕ). word_in view place payload me group key last n store) (sym is_count)
