-- The claims that a process sends are those that it signed and keeps.
use Rattle.std.proofs.Common.{◌≡◌, ◌⊎◌, inl, inr, ℕ, zero, suc, ◌-◌, ◌≤◌, List, [], ◌∷◌, ◌++◌, Option, Some, None, Bool, true, false, refl, sym, ap, subst, ◌∙◌}
use Rattle.std.specs.Prelude.{if◌then◌else◌, ◌==◌, nat_lt, ◌&&◌, not, filter, flat_map, filter_map, fold, length, map, take, All, option_to_list}
use Rattle.std.specs.List.{list_any, range_with_len}
use Rattle.byte_defs.specs.Members.{has}
use Rattle.byte_defs.specs.Orders.{sorted}
use Rattle.message_defs.specs.Limits.{most_frame_bytes}
use Rattle.message_defs.specs.Updates.{Value}
use Rattle.message_defs.specs.Statements.{Batch, Statement, Order, Suggest, Ready, EchoAt, PlaceAt, KeepAt, Slot, Claim, slot_of, view_of, same_slot}
use Rattle.message_defs.specs.Spelling.{IsClaim}
use Rattle.message_defs.specs.Claims.{Claims, Wants, Faulty}
use Rattle.group_defs.specs.Views.{is_member, quorum}
use Rattle.group_defs.specs.Process.{Setting, Pool, Left, Delivered, Process, keyed, places_in}
use Rattle.group_defs.specs.Certified.{backers, certificate, certificate_on, certified_on, claim_on, is_certified, number_of_members, place_at}
use Rattle.group_defs.specs.Settle.{decide, limit, deliverable, deliver_more, deliver, install, leave_by, leave, settle}
use Rattle.group_defs.specs.Sending.{Sending, Parcel, Bundle, Proof, Want, frames_of, answer, beside_order, beside_suggest, bundle, claim_numbers, commits_of, is_beside, joined, message_certificates, newly_signed, others, place_certificates, pools_of, repeated, same_claim, sends_to, unless_empty, was_delivered, with_what_goes_beside}
use Rattle.group_defs.specs.Events.{Event, Submit, Hand, Suspect, Join, RenewView, Tick, EventFault, Turn, Outcome, refusal, signing, is_tick, answers, answered, after, outcome}
use Rattle.pool_laws.proofs.Members.{Mem, All-mem, mem-All, append-mem, filter-mem, filter_map-mem, find-is, mem-drop, snoc-mem}
use Rattle.pool_laws.proofs.Sorting.{mem-sorted}
use Rattle.event_laws.proofs.Settled.{settling_leaves}
use Rattle.letter_laws.specs.Letters.{AreInRange, FramesAreShort}
use Rattle.letter_laws.proofs.Frames.{FramesFit, bundle-fits, proof-fits, want-fits}

-- ---- each of a list

abbrev Each : {A : Type 0} → (A → Type 0) → List A → Type 0
Each {A} P xs = (x : A) → Mem x xs → P x

each-both : {A : Type 0} (P : A → Type 0) (xs ys : List A) → Each P xs → Each P ys → Each P (xs ++ ys)
each-both P xs ys first more x m = elim (append-mem xs ys x m) [ inl here ↦ first x here | inr there ↦ more x there ]

each-flat : {A B : Type 0} (P : B → Type 0) (g : A → List B) (xs : List A) → ((x : A) → Mem x xs → Each P (g x)) → Each P (flat_map g xs)
each-flat P g [] each = λ y none. absurd none
each-flat P g (x ∷ xs) each = each-both P (g x) (flat_map g xs) (each x (inl refl)) (each-flat P g xs (λ z m. each z (inr m)))

each-if : {A : Type 0} (P : A → Type 0) (b : Bool) (xs ys : List A) → Each P xs → Each P ys → Each P (if b then xs else ys)
each-if P true xs ys first other = first
each-if P false xs ys first other = other

each-none : {A : Type 0} (P : A → Type 0) → Each P []
each-none P x none = absurd none

-- ---- what a pool certifies was heard

pub certificate-heard : (h : Pool) (st : Statement) (c : Claim) → Mem c (certificate h st) → Mem c h.heard
certificate-heard h st c = go (is_certified h st)
  where
    go : (b : Bool) → Mem c (if b then filter_map (λ m. claim_on h.heard m (slot_of st))
        (take (quorum (number_of_members h)) (sorted (λ m. m ∷ []) (backers h st))) else []) → Mem c h.heard
    go true m =
        let from = filter_map-mem (λ m. claim_on h.heard m (slot_of st))
        (take (quorum (number_of_members h)) (sorted (λ m. m ∷ []) (backers h st))) c m in
        (find-is (λ c. (c.signer == from.0) && same_slot (slot_of c.statement) (slot_of st)) h.heard c from.2).0
    go false none = absurd none

certificate-each : (h : Pool) → Each IsClaim h.heard → (st : Statement) → Each IsClaim (certificate h st)
certificate-each h heard st c m = heard c (certificate-heard h st c m)

certificate_on-each : (h : Pool) → Each IsClaim h.heard → (slot : Slot) → Each IsClaim (certificate_on h slot)
certificate_on-each h heard slot = go (certified_on h slot)
  where
    go : (o : Option Statement) → Each IsClaim (elim o [ None ↦ [] | Some st ↦ certificate h st ])
    go None = λ c none. absurd none
    go (Some st) = certificate-each h heard st

messages-each : (h : Pool) → Each IsClaim h.heard → (b : Batch) → Each IsClaim (message_certificates h b)
messages-each h heard b = each-flat IsClaim (λ m. certificate_on h (EchoAt h.view.number m)) b
    (λ m there. certificate_on-each h heard (EchoAt h.view.number m))

places-each : (h : Pool) → Each IsClaim h.heard → (k : ℕ) → Each IsClaim (place_certificates h k)
places-each h heard k = each-both IsClaim (certificate_on h (PlaceAt h.view.number k) ++ elim (place_at h k) [
  | None ↦ []
  | Some b ↦ message_certificates h b
]) (certificate_on h (KeepAt h.view.number k))
    (each-both IsClaim (certificate_on h (PlaceAt h.view.number k)) _ (certificate_on-each h heard (PlaceAt h.view.number k)) (go (place_at h k)))
    (certificate_on-each h heard (KeepAt h.view.number k))
  where
    go : (o : Option Batch) → Each IsClaim (elim o [ None ↦ [] | Some b ↦ message_certificates h b ])
    go None = λ c none. absurd none
    go (Some b) = messages-each h heard b

-- ---- a Bundle

order-each : (began : Process) (h : Pool) → Each IsClaim h.heard → (st : Statement) → Each IsClaim (beside_order began h st)
order-each began h heard (Order x k b) = each-if IsClaim (nat_lt k (places_in began.delivered)) [] (message_certificates h b)
    (each-none IsClaim) (messages-each h heard b)
order-each began h heard _ = each-none IsClaim

suggest-each : (h : Pool) → Each IsClaim h.heard → (st : Statement) → Each IsClaim (beside_suggest h st)
suggest-each h heard (Suggest x r v) = λ c m.
    heard c (filter-mem (λ c. is_beside v.cut c.statement) h.heard c
    (mem-sorted claim_numbers (filter (λ c. is_beside v.cut c.statement) h.heard) c m)).0
suggest-each h heard _ = each-none IsClaim

joined-each : (cs : List Claim) (c : Claim) → Each IsClaim cs → IsClaim c → Each IsClaim (joined cs c)
joined-each cs c each is = each-if IsClaim (list_any (same_claim c) cs) cs (cs ++ c ∷ []) each last
  where
    last : Each IsClaim (cs ++ c ∷ [])
    last d m = elim (snoc-mem cs c d m) [ inl before ↦ each d before | inr same ↦ subst IsClaim same is ]

fold-each : (cs more : List Claim) → Each IsClaim cs → Each IsClaim more → Each IsClaim (fold joined cs more)
fold-each cs [] first rest = first
fold-each cs (c ∷ more) first rest =
    fold-each (joined cs c) more (joined-each cs c first (rest c (inl refl))) (λ d m. rest d (inr m))

beside-each : (began : Process) (h : Pool) (base : List Claim) → Each IsClaim h.heard → Each IsClaim base
    → Each IsClaim (with_what_goes_beside began h base)
beside-each began h base heard own =
    let statements : List Statement = map (λ c. c.statement) base in
    fold-each base (flat_map (beside_order began h) statements ++ flat_map (beside_suggest h) statements) own
    (each-both IsClaim (flat_map (beside_order began h) statements) (flat_map (beside_suggest h) statements)
    (each-flat IsClaim (beside_order began h) statements (λ st m. order-each began h heard st))
    (each-flat IsClaim (beside_suggest h) statements (λ st m. suggest-each h heard st)))

bundle-each : (tick : Bool) (began p : Process) → Each IsClaim p.signed → Each IsClaim p.pool.heard → Each IsClaim (bundle tick began p)
bundle-each true began p own heard = beside-each began p.pool (repeated began p) heard
    (λ c m. own c (filter-mem (λ c. (view_of c.statement == p.pool.view.number) && not (was_delivered began c.statement)) p.signed c m).0)
bundle-each false began p own heard = beside-each began p.pool (newly_signed began p) heard
    (λ c m. own c (mem-drop (length began.signed) p.signed c m))

-- ---- an answer

pools-each : (p : Process) → AreInRange p → (h : Pool) → Mem h (p.pool ∷ option_to_list p.previous) → Each IsClaim h.heard
pools-each p range h (inl same) = subst (λ (g : Pool). Each IsClaim g.heard) same (λ c m. All-mem IsClaim p.pool.heard c range.heard m)
pools-each p range h (inr m) = go p.previous refl m
  where
    go : (o : Option Pool) → p.previous ≡ o → Mem h (option_to_list o) → Each IsClaim h.heard
    go None e none = absurd none
    go (Some g) e (inl same) = subst (λ (g : Pool). Each IsClaim g.heard) same (λ c m. All-mem IsClaim g.heard c (range.previous g e) m)
    go (Some g) e (inr none) = absurd none

answer-each : (p : Process) → AreInRange p → (x k : ℕ) → Each IsClaim (answer p x k)
answer-each p range x k = each-both IsClaim (commits_of p x) _
    (each-flat IsClaim (λ v. v.commit) (filter (λ v. v.view.number == x) p.left)
    (λ v m c there. All-mem IsClaim v.commit c (All-mem (λ (l : Left). All IsClaim l.commit) p.left v range.commits
    (filter-mem (λ (v : Left). v.view.number == x) p.left v m).0) there))
    (each-flat IsClaim (λ h. flat_map (place_certificates h) (range_with_len k 8)) (pools_of p x)
    (λ h m. each-flat IsClaim (place_certificates h) (range_with_len k 8) (λ j there. places-each h
    (pools-each p range h (filter-mem (λ (g : Pool). g.view.number == x) (p.pool ∷ option_to_list p.previous) h m).0) j)))

-- ---- settling

-- the view stays, with what was heard in it
record Stays (p q : Process) : Type 0 where
  pub pool : q.pool ≡ p.pool
  pub left : q.left ≡ p.left

-- the view is left, and its pool and its commit certificate are kept
record Leaves (p q : Process) : Type 0 where
  pub previous : q.previous ≡ Some p.pool
  pub last : Left
  pub of_pool : Statement
  pub commit : last.commit ≡ certificate p.pool of_pool
  pub left : q.left ≡ p.left ++ last ∷ []

more-stays : (more : ℕ) (p : Process) → Stays p (deliver_more more p)
unfolding deliver_more
more-stays zero p = record { pool = refl; left = refl }
more-stays (suc more) p = go (deliverable p) (more-stays more)
  where
    go : (o : Option (List Delivered)) → ((q : Process) → Stays q (deliver_more more q))
        → Stays p (elim o [ None ↦ p | Some ds ↦ deliver_more more (record p { delivered = p.delivered ++ ds }) ])
    go None next = record { pool = refl; left = refl }
    go (Some ds) next =
        let on = next (record p { delivered = p.delivered ++ ds }) in record { pool = on.pool; left = on.left }

delivered-stays : (p : Process) → Stays p (deliver p)
delivered-stays p = go (is_member p.pool.view p.me)
  where
    go : (b : Bool) → Stays p (if b then deliver_more (limit p - places_in p.delivered) p else p)
    go true = more-stays (limit p - places_in p.delivered) p
    go false = record { pool = refl; left = refl }

installs-so : (d : ℕ × Value) (p : Process) → Leaves p (install d p)
installs-so d p = record { previous = refl; last = _; of_pool = Ready p.pool.view.number d.0 d.1; commit = refl; left = refl }

left-by : (d : ℕ × Value) (p : Process) → Stays p (leave_by d p) ⊎ Leaves p (leave_by d p)
left-by d p = go (is_member p.pool.view p.me) (places_in p.delivered == d.1.cut)
  where
    go : (b whole : Bool) → let q : Process = (if b
        then (if whole then install d p else record p { halted = nat_lt d.1.cut (places_in p.delivered) }) else install d p) in
        Stays p q ⊎ Leaves p q
    go true true = inr (installs-so d p)
    go true false = inl (record { pool = refl; left = refl })
    go false whole = inr (installs-so d p)

left-so : (p : Process) → Stays p (leave p) ⊎ Leaves p (leave p)
left-so p = go p.decision
  where
    go : (o : Option (ℕ × Value)) → let q : Process = elim o [ None ↦ p | Some d ↦ leave_by d p ] in Stays p q ⊎ Leaves p q
    go None = inl (record { pool = refl; left = refl })
    go (Some d) = left-by d p

settled-so : (s : Setting) (p : Process) → let q : Process = leave (deliver (decide s p)) in Stays p q ⊎ Leaves p q
settled-so s p = go (left-so (deliver (decide s p)))
  where
    go : Stays (deliver (decide s p)) (leave (deliver (decide s p))) ⊎ Leaves (deliver (decide s p)) (leave (deliver (decide s p)))
        → Stays p (leave (deliver (decide s p))) ⊎ Leaves p (leave (deliver (decide s p)))
    go (inl stays) =
        let before = delivered-stays (decide s p) in inl (record { pool = stays.pool ∙ before.pool; left = stays.left ∙ before.left })
    go (inr leaves) =
        let before = delivered-stays (decide s p) in
        inr (record {
          previous = leaves.previous ∙ ap Some before.pool;
          last = leaves.last;
          of_pool = leaves.of_pool;
          commit = leaves.commit ∙ ap (λ h. certificate h leaves.of_pool) before.pool;
          left = leaves.left ∙ ap (λ ls. ls ++ leaves.last ∷ []) before.left;
        })

-- what was heard as the process had signed is kept after it settled
heard-before : (p q : Process) → Stays p q ⊎ Leaves p q → AreInRange q → Each IsClaim p.pool.heard
heard-before p q (inl stays) range c m =
    All-mem IsClaim q.pool.heard c range.heard (subst (λ (h : Pool). Mem c h.heard) (sym stays.pool) m)
heard-before p q (inr leaves) range c m = All-mem IsClaim p.pool.heard c (range.previous p.pool leaves.previous) m

-- ---- the laws

abbrev EachFits : List Sending → Type 0
EachFits sends = (out : Sending) → Mem out sends → FramesFit out.parcel

sent-fits : (to : List ℕ) (parcel : Parcel) → FramesFit parcel → EachFits (sends_to to parcel)
sent-fits [] parcel fits out none = absurd none
sent-fits (p ∷ ps) parcel fits out (inl same) = subst (λ (o : Sending). FramesFit o.parcel) same fits
sent-fits (p ∷ ps) parcel fits out (inr none) = absurd none

unless-fits : (claims : List Claim) (parcel : List Claim → Parcel) (to : List ℕ) → FramesFit (parcel claims)
    → EachFits (unless_empty claims parcel to)
unless-fits [] parcel to fits = λ out none. absurd none
unless-fits (c ∷ cs) parcel to fits = sent-fits to (parcel (c ∷ cs)) fits

answers-fit : (s : Setting) (q : Process) (e : Event) → AreInRange q → EachFits (answers s q e)
answers-fit s q (Hand from (Wants x k)) range = go (has (keyed s) from)
  where
    go : (b : Bool) → EachFits (if b then unless_empty (answer q x k) Proof (from ∷ []) else [])
    go true = unless-fits (answer q x k) Proof (from ∷ []) (proof-fits (answer q x k) (answer-each q range x k))
    go false = λ out none. absurd none
answers-fit s q (Hand from (Claims cs)) range = λ out none. absurd none
answers-fit s q (Hand from (Faulty fault)) range = λ out none. absurd none
answers-fit s q (Submit payload) range = λ out none. absurd none
answers-fit s q (Suspect r) range = λ out none. absurd none
answers-fit s q (Join r) range = λ out none. absurd none
answers-fit s q RenewView range = λ out none. absurd none
answers-fit s q Tick range =
    sent-fits (others q q.pool.view) (Want q.pool.view.number (places_in q.delivered)) (want-fits q.pool.view.number (places_in q.delivered))

bundle-sent : (p : Process) (t : Turn) (one q : Process) (to : List ℕ) → Stays one q ⊎ Leaves one q → q.signed ≡ one.signed → AreInRange q
    → EachFits (unless_empty (bundle (is_tick t.event) p one) Bundle to)
bundle-sent p t one q to how signed range = unless-fits (bundle (is_tick t.event) p one) Bundle to
    (bundle-fits (bundle (is_tick t.event) p one) (bundle-each (is_tick t.event) p one
    (λ c m. All-mem IsClaim q.signed c range.signed (subst (λ cs. Mem c cs) (sym signed) m)) (heard-before one q how range)))

sends-fit : (s : Setting) (p : Process) (t : Turn) → AreInRange (after s p t) → EachFits (outcome s p t).sends
unfolding after settle
sends-fit s p t = go (refusal s p t.event)
  where
    go : (o : Option EventFault) → AreInRange (elim o [ None ↦ settle s (signing s p t).now | Some fault ↦ p ])
        → EachFits (let it : Outcome = elim o [
          | None ↦ answered s p t (signing s p t)
          | Some fault ↦ record { verdict = Some fault; heard = 0; signed = []; spent = false; sends = []; notes = [] }
        ] in it.sends)
    go None range out m = elim (append-mem (unless_empty (bundle (is_tick t.event) p (signing s p t).now) Bundle (others p p.pool.view))
        (answers s (leave (deliver (decide s (signing s p t).now))) t.event) out m) [
          | inl here ↦ bundle-sent p t (signing s p t).now (leave (deliver (decide s (signing s p t).now))) (others p p.pool.view)
              (settled-so s (signing s p t).now) (settling_leaves s (signing s p t).now).signed range out here
          | inr there ↦ answers-fit s (leave (deliver (decide s (signing s p t).now))) t.event range out there
        ]
    go (Some fault) range out none = absurd none

pub frames_are_short : FramesAreShort
frames_are_short s p t range = mem-All (λ out. All (λ frame. length frame ≤ most_frame_bytes) (frames_of out.parcel)) (outcome s p t).sends
    (λ out m. mem-All (λ frame. length frame ≤ most_frame_bytes) (frames_of out.parcel) (sends-fit s p t range out m))
