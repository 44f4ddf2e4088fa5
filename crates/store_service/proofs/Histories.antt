-- Histories: one call more.
use Rattle.std.proofs.Common.{◌≡◌, ℕ, List, [], ◌∷◌, ◌++◌, true, false, true≢false, Option, Some, None, refl, sym, ap, subst, ◌∙◌, append-nil, Vec, Global}
use Rattle.std.specs.Prelude.{option_map, IfSome}
use Rattle.std.specs.Option.{option_map_or}
use Rattle.std.proofs.lemmas.List.Elements.{All-nil}
use Rattle.node_service.specs.Answers.{CanBeSent, HasNone, SaysTo}
use Rattle.node_service.specs.Histories as defs
use Rattle.node_service.specs.Histories.{Answer, Asked, Asks, Call, Cast, Done, Process, Said, Sending, Serves, NotesOf, Words, one_asked}
use Rattle.store_server.specs.Places as plain
use Rattle.store_server.specs.Places.{payloads_of}
use Rattle.store_server.specs.declared.server.Server.{Server}
use Rattle.store_service.specs.Service.{AreServed, IsServed, Serving, after_all, after_noted, after_one, after_worded, begun, keys_of, noted, worded}
use Rattle.store_service.specs.Served.{AreThese, HasServed}
use Rattle.store_service.specs.declared.servers.Servers.{Servers}

-- ---- lists of calls

served-more : (o : Option (List Serving)) (h : List Asked) (i : Asked) → AreServed o h → IsServed (after_all o h) i → AreServed o (h ++ i ∷ [])
served-more o [] i are is = (is, tt)
served-more o (j ∷ h) i are is = (are.0, served-more (after_one o j) h i are.1 is)

after-more : (o : Option (List Serving)) (h : List Asked) (i : Asked) → after_all o (h ++ i ∷ []) ≡ after_one (after_all o h) i
after-more o [] i = refl
after-more o (j ∷ h) i = after-more (after_one o j) h i

-- ---- of a value

-- the servers are these, unless memory ran out
abbrev Has : Servers → Option (List Serving) → Type 0
Has v o = v.lost ≡ false → IfSome o (λ xs. AreThese xs v.servers.items)

-- the answer to a line: a text, where there is a word for it
abbrev pub said-by : Option (List ℕ) → Answer
said-by None = Done
said-by (Some text) = Said text []

said-worded : (o : Option (List ℕ × plain.Server)) → said-by (option_map (λ w. w.0) o) ≡ option_map_or (λ w. Said w.0 []) o Done
said-worded None = refl
said-worded (Some w) = refl

module _ (h : List Asked) (v : Servers) (has : HasServed v h) where
  one-more : (w : Servers) (i : Asked) → ((o : Option (List Serving)) → Has v o → IsServed o i × Has w (after_one o i)) → HasServed w (h ++ i ∷ [])
  one-more w i step =
      let so = step (after_all None h) has.servers in
      record {
        answered = served-more None h i has.answered so.0;
        servers = subst (λ (o : Option (List Serving)). Has w o) (sym (after-more None h i)) so.1;
      }

  -- memory ran out
  pub lost-so : (w : Servers) → w.lost ≡ true → HasServed w h
  lost-so w lost = record { answered = has.answered; servers = λ e. absurd (true≢false (sym lost ∙ e)) }

  module _ (c : Cast) (w : Servers) where
    -- it begins
    pub begins : (shown : List Process) (text : List ℕ) → text ≡ keys_of (begun c shown) → AreThese (begun c shown) w.servers.items
        → HasServed w (h ++ one_asked c shown Serves (Said text []))
    begins shown text reported are =
        one-more w (record { cast = c; shown = shown; call = Serves; answer = Said text [] }) step
      where
        step : (o : Option (List Serving)) → Has v o
            → IsServed o (record { cast = c; shown = shown; call = Serves; answer = Said text [] })
            × Has w (after_one o (record { cast = c; shown = shown; call = Serves; answer = Said text [] }))
        step None f = (ap (λ (t : List ℕ). Said t []) reported, λ e. are)
        step (Some xs) f = (ap (λ (t : List ℕ). Said t []) reported, λ e. are)

    -- it names nobody
    pub nobody : (shown : List Process) (p : ℕ) (event : defs.Event) (notes : List defs.Note) (above : Option ℕ) → w.lost ≡ v.lost
        → w.servers ≡ v.servers → HasServed w (h ++ one_asked c shown (Asks p event notes above) Done)
    nobody shown p event notes above lost same =
        one-more w (record { cast = c; shown = shown; call = Asks p event notes above; answer = Done }) step
      where
        step : (o : Option (List Serving)) → Has v o
            → IsServed o (record { cast = c; shown = shown; call = Asks p event notes above; answer = Done })
            × Has w (after_one o (record { cast = c; shown = shown; call = Asks p event notes above; answer = Done }))
        step None f = (refl, λ e. tt)
        step (Some xs) f = (refl, λ e. subst (λ (servers : Vec Server Global). AreThese xs servers.items) (sym same) (f (sym lost ∙ e)))

    module _ (kept : v.lost ≡ false) where
      -- a note was given
      pub tells : (shown : List Process) (p : ℕ) (note : defs.Note) (text : List ℕ)
          → ((xs : List Serving) → AreThese xs v.servers.items → (text ≡ noted p note xs) × AreThese (after_noted p note xs) w.servers.items)
          → HasServed w (h ++ one_asked c shown (NotesOf p note) (Said text []))
      tells shown p note text reported =
          one-more w (record { cast = c; shown = shown; call = NotesOf p note; answer = Said text [] }) step
        where
          step : (o : Option (List Serving)) → Has v o
              → IsServed o (record { cast = c; shown = shown; call = NotesOf p note; answer = Said text [] })
              × Has w (after_one o (record { cast = c; shown = shown; call = NotesOf p note; answer = Said text [] }))
          step None f = (tt, λ e. tt)
          step (Some xs) f = let t = reported xs (f kept) in (ap (λ (u : List ℕ). Said u []) t.0, λ e. t.1)

      -- a line was answered
      pub answers : (now : Process) (p : ℕ) (line : List ℕ) (text : Option (List ℕ))
          → ((xs : List Serving) → AreThese xs v.servers.items
          → (text ≡ option_map (λ w. w.0) (worded c (payloads_of now.delivered) p line xs))
          × AreThese (after_worded c (payloads_of now.delivered) p line xs) w.servers.items)
          → HasServed w (h ++ one_asked c (now ∷ []) (Words p line) (said-by text))
      answers now p line text reported =
          one-more w (record { cast = c; shown = now ∷ []; call = Words p line; answer = said-by text }) step
        where
          step : (o : Option (List Serving)) → Has v o
              → IsServed o (record { cast = c; shown = now ∷ []; call = Words p line; answer = said-by text })
              × Has w (after_one o (record { cast = c; shown = now ∷ []; call = Words p line; answer = said-by text }))
          step None f = (tt, λ e. tt)
          step (Some xs) f =
              let t = reported xs (f kept) in
              (ap said-by t.0 ∙ said-worded (worded c (payloads_of now.delivered) p line xs), λ e. t.1)

  -- ---- as the node asks

  module _ (c : Cast) (w : Servers) (p : ℕ) (now : Process) (line : List ℕ) (old new : List ℕ) (sends : List Sending) where
    -- a text was said, and nothing is to be sent
    pub says-to : (text : List ℕ) → new ≡ old ++ text → HasServed w (h ++ one_asked c (now ∷ []) (Words p line) (Said text []))
        → SaysTo HasServed w h c p now line old new sends sends
    says-to text reported so = record {
      text = text;
      more = [];
      reported = reported;
      sent = sym (append-nil sends);
      can = All-nil (CanBeSent c p);
      has = so;
    }

    -- it has no such line
    pub says-nothing : new ≡ old → HasServed w (h ++ one_asked c (now ∷ []) (Words p line) Done)
        → HasNone HasServed w h c p now line old new sends sends
    says-nothing same so = record { lines = same; silent = refl; has = so }
