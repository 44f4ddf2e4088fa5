-- What a process does without its conflicts: whichever it holds, it does the same.
use Rattle.std.proofs.Common.{◌≡◌, ℕ, zero, suc, ◌-◌, List, [], ◌∷◌, ◌++◌, Bool, true, false, Option, Some, None, refl, ap, ◌∙◌}
use Rattle.std.specs.Prelude.{if◌then◌else◌, ◌==◌, ◌&&◌, not, nat_lt, is_some, filter, flat_map, fold, map, unwrap_or}
use Rattle.byte_defs.specs.Choices.{first_that_holds}
use Rattle.byte_defs.specs.Orders.{least, put}
use Rattle.message_defs.specs.Updates.{Update, Value}
use Rattle.message_defs.specs.Claims.{Claims, Wants, Faulty}
use Rattle.message_defs.specs.Statements.{Statement, Init, Echo, Order, Place, Keep, Notify, End, Last, Suggest, Ack, Ready, Claim, slot_of, view_of}
use Rattle.group_defs.specs.Views.{is_member}
use Rattle.group_defs.specs.Process.{Kind, Inits, Echoes, Orders, Places, Keeps, Notifies, Ends, Readies, Lasts, Suggests, Acks, Setting, Pool, Delivered, Process, places_in}
use Rattle.group_defs.specs.Certified.{heard_on, says, is_signed}
use Rattle.group_defs.specs.Hearing.{Old, Early, Stranger, OutOfWindow, Known, Unsigned, Conflict, Heard, is_valid, is_strange, is_beyond, verdict}
use Rattle.group_defs.specs.Due.{is_due, may_sign, offers, due_numbers, least_due, is_perceived}
use Rattle.group_defs.specs.Signing.{Signer, Signing, signs, sign_kind, sign_kinds, sign_all}
use Rattle.group_defs.specs.Settle.{decide, limit, deliverable, deliver_more, deliver, install, leave_by, leave, settle}
use Rattle.group_defs.specs.Sending.{was_delivered, repeated, newly_signed, beside_order, beside_suggest, joined, with_what_goes_beside, bundle}
use Rattle.group_defs.specs.Events.{Event, Submit, Hand, Suspect, Join, RenewView, Tick, refusal, perceived_numbers, perceives, answers}

abbrev pub holding : List (Claim × Claim) → Process → Process
holding cs p = record p { conflicts = cs }

module _ (s : Setting) (cs : List (Claim × Claim)) where
  -- ---- refusing and hearing

  pub refuses-same : (p : Process) (e : Event) → refusal s (holding cs p) e ≡ refusal s p e
  refuses-same p (Submit payload) = refl
  refuses-same p (Hand from (Claims claims)) = refl
  refuses-same p (Hand from (Wants x k)) = refl
  refuses-same p (Hand from (Faulty fault)) = refl
  refuses-same p (Suspect q) = refl
  refuses-same p (Join q) = refl
  refuses-same p RenewView = refl
  refuses-same p Tick = refl

  beyond-same : (p : Process) (m : ℕ) (st : Statement) → is_beyond (holding cs p) m st ≡ is_beyond p m st
  beyond-same p m (Init x l payload) = refl
  beyond-same p m (Echo x n payload) = refl
  beyond-same p m (Order x k b) = refl
  beyond-same p m (Place x k b) = refl
  beyond-same p m (Keep x k b) = refl
  beyond-same p m (Notify x u) = refl
  beyond-same p m (End x k) = refl
  beyond-same p m (Last x r ready) = refl
  beyond-same p m (Suggest x r v) = refl
  beyond-same p m (Ack x r v) = refl
  beyond-same p m (Ready x r v) = refl

  pub verdict-same : (p : Process) (c : Claim) → verdict s (holding cs p) c ≡ verdict s p c
  verdict-same p c = ap (λ beyond. unwrap_or (first_that_holds (
      (nat_lt (view_of c.statement) p.pool.view.number, Old)
      ∷ (nat_lt p.pool.view.number (view_of c.statement), Early)
      ∷ (is_strange p c, Stranger)
      ∷ (beyond, OutOfWindow)
      ∷ (says p.pool c.statement c.signer, Known)
      ∷ (not (is_valid s c), Unsigned)
      ∷ (is_some (heard_on p.pool c.signer (slot_of c.statement)), Conflict)
      ∷ [])) Heard) (beyond-same p c.signer c.statement)

  pub perceives-same : (p : Process) (u : Update) → perceives (holding cs p) u ≡ holding cs (perceives p u)
  perceives-same p u = go (is_perceived p (p.pool.view.number, u))
    where
      more : Process
      more = record p { perceived = put perceived_numbers (p.pool.view.number, u) p.perceived }

      go : (b : Bool) → (if b then holding cs p else holding cs more) ≡ holding cs (if b then p else more)
      go true = refl
      go false = refl

  -- ---- signing

  due-same : (p : Process) (st : Statement) → is_due s (holding cs p) st ≡ is_due s p st
  due-same p (Init x l payload) = refl
  due-same p (Echo x n payload) = refl
  due-same p (Order x k b) = refl
  due-same p (Place x k b) = refl
  due-same p (Keep x k b) = refl
  due-same p (Notify x u) = refl
  due-same p (End x k) = refl
  due-same p (Last x r ready) = refl
  due-same p (Suggest x r v) = refl
  due-same p (Ack x r v) = refl
  due-same p (Ready x r v) = refl

  may-same : (p : Process) (st : Statement) → may_sign s (holding cs p) st ≡ may_sign s p st
  may-same p st = ap (λ due. is_member p.pool.view p.me && (view_of st == p.pool.view.number) && not (is_signed p (slot_of st)) && due)
      (due-same p st)

  offers-same : (p : Process) (kind : Kind) → offers kind s (holding cs p) ≡ offers kind s p
  offers-same p Inits = refl
  offers-same p Echoes = refl
  offers-same p Orders = refl
  offers-same p Places = refl
  offers-same p Keeps = refl
  offers-same p Notifies = refl
  offers-same p Ends = refl
  offers-same p Readies = refl
  offers-same p Lasts = refl
  offers-same p Suggests = refl
  offers-same p Acks = refl

  least-same : (p : Process) (kind : Kind) → least_due s (holding cs p) kind ≡ least_due s p kind
  unfolding least_due
  least-same p kind = λ i. least (due_numbers p.pool.view) (filter (λ st. may-same p st i) (offers-same p kind i))

  -- the signing of the process that holds them
  abbrev pub held : Signing → Signing
  held one = record one { now = holding cs one.now }

  kind-same : (signer : Signer) (kind : Kind) (left : ℕ) (p : Process)
      → sign_kind s signer kind left (holding cs p) ≡ held (sign_kind s signer kind left p)
  unfolding sign_kind
  kind-same signer kind zero p = ap (λ o. record { now = holding cs p; left = zero; spent = is_some o }) (least-same p kind)
  kind-same signer kind (suc left) p = ap (by (holding cs p)) (least-same p kind) ∙ go (least_due s p kind)
      (λ st. kind-same signer kind left (signs s signer p st))
    where
      by : Process → Option Statement → Signing
      by x o = elim o [ None ↦ record { now = x; left = suc left; spent = false } | Some st ↦ sign_kind s signer kind left (signs s signer x st) ]

      go : (o : Option Statement)
          → ((st : Statement) → sign_kind s signer kind left (signs s signer (holding cs p) st) ≡ held (sign_kind s signer kind left (signs s signer p st)))
          → by (holding cs p) o ≡ held (by p o)
      go None rest = refl
      go (Some st) rest = rest st

  kinds-same : (signer : Signer) (kinds : List Kind) (left : ℕ) (p : Process)
      → sign_kinds s signer kinds left (holding cs p) ≡ held (sign_kinds s signer kinds left p)
  unfolding sign_kinds
  kinds-same signer [] left p = refl
  kinds-same signer (kind ∷ more) left p =
      ap next (kind-same signer kind left p)
      ∙ go (sign_kind s signer kind left p) (sign_kind s signer kind left p).spent
      (kinds-same signer more (sign_kind s signer kind left p).left (sign_kind s signer kind left p).now)
    where
      by : Signing → Bool → Signing
      by one b = elim b [ true ↦ one | false ↦ sign_kinds s signer more one.left one.now ]

      next : Signing → Signing
      next one = by one one.spent

      go : (one : Signing) (b : Bool) → sign_kinds s signer more one.left (holding cs one.now) ≡ held (sign_kinds s signer more one.left one.now)
          → by (held one) b ≡ held (by one b)
      go one true rest = refl
      go one false rest = rest

  pub signing-same : (signer : Signer) (left : ℕ) (p : Process) → sign_all s signer left (holding cs p) ≡ held (sign_all s signer left p)
  unfolding sign_all
  signing-same signer left p = go p.decision
    where
      by : Process → Option (ℕ × Value) → Signing
      by x o = elim o [ None ↦ sign_kinds s signer s.signs left x | Some d ↦ record { now = x; left = left; spent = false } ]

      go : (o : Option (ℕ × Value)) → by (holding cs p) o ≡ held (by p o)
      go None = kinds-same signer s.signs left p
      go (Some d) = refl

  -- ---- settling

  more-same : (more : ℕ) (p : Process) → deliver_more more (holding cs p) ≡ holding cs (deliver_more more p)
  unfolding deliver_more
  more-same zero p = refl
  more-same (suc more) p = go (deliverable p) (λ ds. more-same more (record p { delivered = p.delivered ++ ds }))
    where
      by : Process → Option (List Delivered) → Process
      by x o = elim o [ None ↦ x | Some ds ↦ deliver_more more (record x { delivered = x.delivered ++ ds }) ]

      go : (o : Option (List Delivered))
          → ((ds : List Delivered) → deliver_more more (holding cs (record p { delivered = p.delivered ++ ds }))
          ≡ holding cs (deliver_more more (record p { delivered = p.delivered ++ ds })))
          → by (holding cs p) o ≡ holding cs (by p o)
      go None rest = refl
      go (Some ds) rest = rest ds

  pub delivering-same : (p : Process) → deliver (holding cs p) ≡ holding cs (deliver p)
  delivering-same p = go (is_member p.pool.view p.me) (more-same (limit p - places_in p.delivered) p)
    where
      go : (b : Bool) → deliver_more (limit p - places_in p.delivered) (holding cs p) ≡ holding cs (deliver_more (limit p - places_in p.delivered) p)
          → (if b then deliver_more (limit p - places_in p.delivered) (holding cs p) else holding cs p)
          ≡ holding cs (if b then deliver_more (limit p - places_in p.delivered) p else p)
      go true rest = rest
      go false rest = refl

  pub leaving-same : (p : Process) → leave (holding cs p) ≡ holding cs (leave p)
  leaving-same p = go p.decision
    where
      halted : ℕ × Value → Process → Process
      halted d x = record x { halted = nat_lt d.1.cut (places_in x.delivered) }

      by : (d : ℕ × Value) (a b : Bool)
          → (if a then (if b then install d (holding cs p) else halted d (holding cs p)) else install d (holding cs p))
          ≡ holding cs (if a then (if b then install d p else halted d p) else install d p)
      by d true true = refl
      by d true false = refl
      by d false b = refl

      go : (o : Option (ℕ × Value)) → (elim o as (λ _. Process) [ None ↦ holding cs p | Some d ↦ leave_by d (holding cs p) ])
          ≡ holding cs (elim o as (λ _. Process) [ None ↦ p | Some d ↦ leave_by d p ])
      go None = refl
      go (Some d) = by d (is_member p.pool.view p.me) (places_in p.delivered == d.1.cut)

  pub settling-same : (p : Process) → settle s (holding cs p) ≡ holding cs (settle s p)
  unfolding settle
  settling-same p = ap leave (delivering-same (decide s p)) ∙ leaving-same (deliver (decide s p))

  -- ---- sending

  delivered-same : (p : Process) (st : Statement) → was_delivered (holding cs p) st ≡ was_delivered p st
  delivered-same p (Init x l payload) = refl
  delivered-same p (Echo x n payload) = refl
  delivered-same p (Order x k b) = refl
  delivered-same p (Place x k b) = refl
  delivered-same p (Keep x k b) = refl
  delivered-same p (Notify x u) = refl
  delivered-same p (End x k) = refl
  delivered-same p (Last x r ready) = refl
  delivered-same p (Suggest x r v) = refl
  delivered-same p (Ack x r v) = refl
  delivered-same p (Ready x r v) = refl

  beside-same : (p : Process) (h : Pool) (st : Statement) → beside_order (holding cs p) h st ≡ beside_order p h st
  beside-same p h (Init x l payload) = refl
  beside-same p h (Echo x n payload) = refl
  beside-same p h (Order x k b) = refl
  beside-same p h (Place x k b) = refl
  beside-same p h (Keep x k b) = refl
  beside-same p h (Notify x u) = refl
  beside-same p h (End x k) = refl
  beside-same p h (Last x r ready) = refl
  beside-same p h (Suggest x r v) = refl
  beside-same p h (Ack x r v) = refl
  beside-same p h (Ready x r v) = refl

  with-same : (p : Process) (h : Pool) (base : List Claim)
      → with_what_goes_beside (holding cs p) h base ≡ with_what_goes_beside p h base
  with-same p h base =
      let statements : List Statement = map (λ c. c.statement) base in
      λ i. fold joined base (flat_map (λ st. beside-same p h st i) statements ++ flat_map (beside_suggest h) statements)

  repeated-same : (p q : Process) → repeated (holding cs p) q ≡ repeated p q
  repeated-same p q = λ i. filter (λ c. (view_of c.statement == q.pool.view.number) && not (delivered-same p c.statement i)) q.signed

  pub bundle-same : (tick : Bool) (p q : Process) → bundle tick (holding cs p) q ≡ bundle tick p q
  bundle-same true p q = with-same p q.pool (repeated (holding cs p) q) ∙ ap (with_what_goes_beside p q.pool) (repeated-same p q)
  bundle-same false p q = with-same p q.pool (newly_signed p q)

  pub answers-same : (q : Process) (e : Event) → answers s (holding cs q) e ≡ answers s q e
  answers-same q (Submit payload) = refl
  answers-same q (Hand from (Claims claims)) = refl
  answers-same q (Hand from (Wants x k)) = refl
  answers-same q (Hand from (Faulty fault)) = refl
  answers-same q (Suspect r) = refl
  answers-same q (Join r) = refl
  answers-same q RenewView = refl
  answers-same q Tick = refl
