-- Nothing is due but what is offered.
use Rattle.std.proofs.Common.{◌≡◌, inl, inr, ℕ, zero, suc, ◌+◌, List, [], ◌∷◌, length, drop, map, Option, Some, None, true, refl, sym, ap, ◌∙◌, subst, arith, slice_get}
use Rattle.std.specs.Prelude.{◌==◌, option_map, option_and_then, option_to_list, ◌&&◌, nat_lt, nat_le}
use Rattle.std.specs.List.{enumerate_from}
use Rattle.std.proofs.lemmas.Bool.{eqb-true}
use native.Mathlib.Decide.{ℕ_discrete}
use Rattle.group_defs.specs.Below.{is_yes, bytes_discrete, option_discrete, pair_discrete, is_some_and, Update, Update-discrete, Value-discrete, Batch, Batch-discrete, Statement, Init, Echo, Order, Place, Keep, Notify, End, Last, Suggest, Ack, Ready, Claim, view_of}
use Rattle.group_defs.specs.Views.{is_member, rank_of}
use Rattle.group_defs.specs.Process.{Kind, Inits, Echoes, Orders, Places, Keeps, Notifies, Ends, Readies, Lasts, Suggests, Acks, Setting, Process, earlier, delivered_from}
use Rattle.group_defs.specs.Certified.{placed, own_orders, own_ready, removed_rank}
use Rattle.group_defs.specs.Values.{choose}
use Rattle.group_defs.specs.Due.{may_sign, is_due, same_batch, same_value, next_batch, Answer, answers, echo_of, place_of, ready_of, ack_of, kind_of, offers, inits, keeps, notifies, EachDueIsOffered, window}
use Rattle.pool_laws.proofs.Heard.{certified-heard, heard-says, rank-says}
use Rattle.pool_laws.proofs.Members.{Mem, filter_map-mem, map-mem, list_any-mem, mem-Contains, mem-filter_map, mem-map}
use Rattle.pool_laws.proofs.Tests.{and-first, and-second, some-and, yes-is, map-some, then-some}

-- ---- lists

enumerate-mem : {A : Type 0} (n : ℕ) (xs : List A) (l : ℕ) (x : A) → slice_get xs l ≡ Some x → Mem (n + l, x) (enumerate_from n xs)
enumerate-mem n [] l x e = absurd cc
enumerate-mem n (y ∷ ys) zero x e = let is : y ≡ x = cc in inl (λ i. (let m : n ≡ n + 0 = omega arith in m i, is i))
enumerate-mem n (y ∷ ys) (suc l) x e = inr
    (let shift : (n + 1) + l ≡ n + suc l = omega arith in subst (λ k. Mem (k, x) (enumerate_from (n + 1) ys)) shift
    (enumerate-mem (n + 1) ys l x e))

pub drop-slice_get : {A : Type 0} (n : ℕ) (xs : List A) (l : ℕ) (x : A) → slice_get xs (n + l) ≡ Some x → slice_get (drop n xs) l ≡ Some x
drop-slice_get zero xs l x e = let z : zero + l ≡ l = omega arith in subst (λ k. slice_get xs k ≡ Some x) z e
drop-slice_get (suc n) [] l x e = absurd cc
drop-slice_get (suc n) (y ∷ ys) l x e = let z : suc n + l
    ≡ suc (n + l) = omega arith in drop-slice_get n ys l x (subst (λ k. slice_get (y ∷ ys) k ≡ Some x) z e)

-- ---- what was heard

-- what answers a heard claim is offered
answered : (p : Process) (answer : Answer) (a : ℕ) (heard st : Statement) → answer a heard ≡ Some st
    → (c : Claim) × Mem c p.pool.heard × (c.signer ≡ a) × (c.statement ≡ heard) → Mem st (answers p answer)
answered p answer a heard st e c = mem-filter_map (λ c. answer c.signer c.statement) p.pool.heard c.0 st c.1
    ((λ i. answer (c.2 i) (c.3 i)) ∙ e)

-- an Init's payload is the accepted one
pub init-accepted : (s : Setting) (q : Process) (x l : ℕ) (b : List ℕ) → may_sign s q (Init x l b) ≡ true
    → slice_get q.accepted (earlier q + l) ≡ Some b
init-accepted s q x l b may =
    let due : is_due s q (Init x l b) ≡ true = and-second _ (is_due s q (Init x l b)) may in
    let last = and-second (nat_lt l (delivered_from q.me q.delivered + window) && nat_le l 1023)
    (is_some_and (slice_get q.accepted (earlier q + l)) (λ accepted. is_yes (bytes_discrete b accepted))) due in
    let at = some-and (slice_get q.accepted (earlier q + l)) (λ accepted. is_yes (bytes_discrete b accepted)) last in
    at.1 ∙ ap Some (sym (yes-is (bytes_discrete b at.0) at.2))

zero-plus : (n : ℕ) → 0 + n ≡ n
zero-plus n = omega arith

module _ (s : Setting) (p : Process) where
  abbrev x : ℕ
  x = p.pool.view.number

  due : (st : Statement) → may_sign s p st ≡ true → is_due s p st ≡ true
  due st may = and-second _ _ may

  member : (st : Statement) → may_sign s p st ≡ true → is_member p.pool.view p.me ≡ true
  member st may = and-first _ _ (and-first _ _ (and-first _ _ may))

  current : (st : Statement) → may_sign s p st ≡ true → x ≡ view_of st
  current st may = sym (eqb-true _ _ (and-second _ _ (and-first _ _ (and-first _ _ may))))

  offered : (st : Statement) → may_sign s p st ≡ true → Mem st (offers (kind_of st) s p)
  offered (Init y l payload) may =
      let listed = enumerate-mem 0 (drop (earlier p) p.accepted) l payload
      (drop-slice_get (earlier p) p.accepted l payload (init-accepted s p y l payload may)) in
      let here : Mem (Init x (0 + l) payload) (inits s p) = mem-map (λ (e : ℕ × List ℕ). Init x e.0 e.1)
      (enumerate_from 0 (drop (earlier p) p.accepted)) (0 + l, payload) listed in
      subst (λ st. Mem st (inits s p)) (λ i. Init (current (Init y l payload) may i) (zero-plus l i) payload) here
  offered (Echo y m payload) may = answered p echo_of m.sender (Init y m.number payload)
      (Echo y m payload) refl (heard-says p.pool (Init y m.number payload) m.sender (and-first _ _ (due (Echo y m payload) may)))
  offered (Order y k b) may =
      let e = due (Order y k b) may in
      let k_is : k ≡ length (own_orders p) = eqb-true _ _
      (and-second _ _ (and-first _ _ (and-first _ _ (and-first _ _ (and-first _ _ e))))) in
      let b_is : b ≡ next_batch p = yes-is (Batch-discrete b (next_batch p)) (and-second _ _ e) in
      inl (λ i. Order (current (Order y k b) may i) (sym k_is i) (sym b_is i))
  offered (Place y k b) may =
      let said = rank-says p 0 (Order y k b)
      (and-first _ _ (and-first _ _ (and-first _ _ (and-first _ _ (and-first _ _ (due (Place y k b) may)))))) in
      answered p place_of said.0 (Order y k b) (Place y k b) refl said.1
  offered (Keep y k b) may =
      let at = some-and (slice_get (placed p.pool) k) (same_batch b) (and-first _ _ (due (Keep y k b) may)) in
      let is = yes-is (Batch-discrete b at.0) at.2 in
      let here : Mem (Keep x (0 + k) at.0) (keeps s p) = mem-map (λ (e : ℕ × Batch). Keep x e.0 e.1) (enumerate_from 0 (placed p.pool))
      (0 + k, at.0) (enumerate-mem 0 (placed p.pool) k at.0 at.1) in
      subst (λ st. Mem st (keeps s p)) (λ i. Keep (current (Keep y k b) may i) (zero-plus k i) (sym is i)) here
  offered (Notify y u) may =
      let found = list_any-mem _ p.perceived (and-first _ _ (due (Notify y u) may)) in
      let is = yes-is (pair_discrete ℕ_discrete (Update-discrete ℕ_discrete) found.0 (y, u)) found.2 in
      subst (λ (e : ℕ × Update). Mem (Notify e.0 e.1) (notifies s p)) is
      (mem-map (λ (e : ℕ × Update). Notify e.0 e.1) p.perceived found.0 found.1)
  offered (End y k) may =
      let k_is : k ≡ length (placed p.pool) = eqb-true k (length (placed p.pool)) (and-second _ _ (due (End y k) may)) in
      inl (λ i. End (current (End y k) may i) (sym k_is i))
  offered (Last y r ready) may =
      let e = due (Last y r ready) may in
      let is = yes-is (option_discrete (pair_discrete ℕ_discrete Value-discrete) ready (own_ready p)) (and-second _ _ e) in
      let r_is : r ≡ removed_rank p.pool = eqb-true r (removed_rank p.pool) (and-first _ _ (and-first _ _ e)) in
      inl (λ i. Last (current (Last y r ready) may i) (sym r_is i) (sym is i))
  offered (Suggest y r v) may =
      let e = due (Suggest y r v) may in
      let rank = some-and (rank_of p.pool.view p.me) (λ rank. rank == r) (and-first _ _ (and-first _ _ e)) in
      let chosen = some-and (choose s p.pool r) (same_value v) (and-second _ _ e) in
      let is = yes-is (Value-discrete v chosen.0) chosen.2 in
      let rank_is : rank_of p.pool.view p.me ≡ Some r = rank.1 ∙ ap Some (eqb-true _ _ rank.2) in
      let all : option_and_then (λ r. option_map (Suggest x r) (choose s p.pool r)) (rank_of p.pool.view p.me) ≡ Some (Suggest y r v) =
      ap (option_and_then (λ r. option_map (Suggest x r) (choose s p.pool r))) rank_is ∙ ap (option_map (Suggest x r)) chosen.1 ∙
      (λ i. Some (Suggest (current (Suggest y r v) may i) r (sym is i))) in
      subst (λ o. Mem (Suggest y r v) (option_to_list o)) (sym all) (inl refl)
  offered (Ack y r v) may =
      let said = rank-says p r (Suggest y r v) (and-first _ _ (and-first _ _ (due (Ack y r v) may))) in
      answered p ack_of said.0 (Suggest y r v) (Ack y r v) refl said.1
  offered (Ready y r v) may =
      let c = certified-heard p.pool (Ack y r v) p.me (member (Ready y r v) may) (and-first _ _ (due (Ready y r v) may)) in
      answered p ready_of c.0 (Ack y r v) (Ready y r v) refl c.1

pub each_due_is_offered : EachDueIsOffered
each_due_is_offered s p st may = mem-Contains (offers (kind_of st) s p) st (offered s p st may)

-- ---- what a kind offers is of that kind

answer-kind : (p : Process) (answer : Answer) (kind : Kind)
    → ((signer : ℕ) (heard st : Statement) → answer signer heard ≡ Some st → kind_of st ≡ kind) → (st : Statement)
    → Mem st (answers p answer)
    → kind_of st ≡ kind
answer-kind p answer kind each st m = let c = filter_map-mem
    (λ (c : Claim). answer c.signer c.statement) p.pool.heard st m in each c.0.signer c.0.statement st c.2

map-kind : {A : Type 0} (f : A → Statement) (kind : Kind) → ((x : A) → kind_of (f x) ≡ kind) → (xs : List A) (st : Statement)
    → Mem st (map f xs) → kind_of st ≡ kind
map-kind f kind each xs st m = let x = map-mem f xs st m in ap kind_of (sym x.2) ∙ each x.0

is-echo : (signer : ℕ) (heard st : Statement) → echo_of signer heard ≡ Some st → kind_of st ≡ Echoes
is-echo signer (Init x l payload) st e = let is : Echo x (record { sender = signer; number = l }) payload ≡ st = cc in ap kind_of (sym is)
is-echo signer _ st e = absurd cc

is-place : (signer : ℕ) (heard st : Statement) → place_of signer heard ≡ Some st → kind_of st ≡ Places
is-place signer (Order x k m) st e = let is : Place x k m ≡ st = cc in ap kind_of (sym is)
is-place signer _ st e = absurd cc

is-ready : (signer : ℕ) (heard st : Statement) → ready_of signer heard ≡ Some st → kind_of st ≡ Readies
is-ready signer (Ack x r v) st e = let is : Ready x r v ≡ st = cc in ap kind_of (sym is)
is-ready signer _ st e = absurd cc

is-ack : (signer : ℕ) (heard st : Statement) → ack_of signer heard ≡ Some st → kind_of st ≡ Acks
is-ack signer (Suggest x r v) st e = let is : Ack x r v ≡ st = cc in ap kind_of (sym is)
is-ack signer _ st e = absurd cc

pub offers-kind : (kind : Kind) (s : Setting) (p : Process) (st : Statement) → Mem st (offers kind s p) → kind_of st ≡ kind
offers-kind Inits s p st m = map-kind (λ (e : ℕ × List ℕ). Init p.pool.view.number e.0 e.1) Inits (λ e. refl) _ st m
offers-kind Echoes s p st m = answer-kind p echo_of Echoes is-echo st m
offers-kind Orders s p st (inl e) = ap kind_of (sym e)
offers-kind Orders s p st (inr m) = absurd m
offers-kind Places s p st m = answer-kind p place_of Places is-place st m
offers-kind Keeps s p st m = map-kind (λ (e : ℕ × Batch). Keep p.pool.view.number e.0 e.1) Keeps (λ e. refl) _ st m
offers-kind Notifies s p st m = map-kind (λ (e : ℕ × Update). Notify e.0 e.1) Notifies (λ e. refl) p.perceived st m
offers-kind Ends s p st (inl e) = ap kind_of (sym e)
offers-kind Ends s p st (inr m) = absurd m
offers-kind Readies s p st m = answer-kind p ready_of Readies is-ready st m
offers-kind Lasts s p st (inl e) = ap kind_of (sym e)
offers-kind Lasts s p st (inr m) = absurd m
offers-kind Suggests s p st m = suggested
    (option_and_then (λ r. option_map (Suggest p.pool.view.number r) (choose s p.pool r)) (rank_of p.pool.view p.me)) refl m
  where
    suggested : (o : Option Statement)
        → option_and_then (λ r. option_map (Suggest p.pool.view.number r) (choose s p.pool r)) (rank_of p.pool.view p.me) ≡ o
        → Mem st (option_to_list o) → kind_of st ≡ Suggests
    suggested None e m = absurd m
    suggested (Some other) e (inr m) = absurd m
    suggested (Some other) e (inl is) =
        let r = then-some (λ r. option_map (Suggest p.pool.view.number r) (choose s p.pool r)) (rank_of p.pool.view p.me) other e in
        let v = map-some (Suggest p.pool.view.number r.0) (choose s p.pool r.0) other r.2 in
        ap kind_of (sym is) ∙ ap kind_of (sym v.2)
offers-kind Acks s p st m = answer-kind p ack_of Acks is-ack st m
