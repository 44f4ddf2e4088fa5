-- What a process with this state signed and delivered in its view.
use Rattle.std.proofs.Common.{◌≡◌, ℕ, ◌-◌, List, [], ◌∷◌, ◌++◌, length, map, drop, Some, slice_get, Bool, true, false, refl, sym, ap, ◌∙◌, subst, arith, length-append}
use Rattle.std.specs.Prelude.{if◌then◌else◌, ◌&&◌, ◌==◌, not, filter, All, flat_map}
use Rattle.std.specs.List.{AllByRecursion}
use Rattle.std.proofs.lemmas.List.{length-map}
use Rattle.std.proofs.Math.Logic.{∥∥₁_elim}
use Rattle.message_defs.specs.Statements.{Claim, view_of}
use Rattle.message_defs.specs.Spelling.{IsClaim}
use Rattle.byte_defs.specs.Orders.{sorted}
use Rattle.group_defs.specs.Views.{View}
use Rattle.group_defs.specs.Process.{Setting, Left, Delivered, Process, keyed, places_in}
use Rattle.message_defs.specs.Claims.{Wants}
use Rattle.byte_defs.specs.Members.{has}
use Rattle.group_defs.specs.Events.{Hand, answers}
use Rattle.group_defs.specs.Accounts.{Account}
use Rattle.group_defs.specs.Sending.{Bundle, was_delivered, repeated, newly_signed, with_what_goes_beside, bundle, others, answer, Proof, unless_empty}
use Rattle.accounts.specs.Views.{delivery}
use Rattle.pool_laws.proofs.Members.{All-mem, filter-mem}
use Rattle.sent_claims.specs.Certificates.{IsRanged}
use Rattle.sent_claims.proofs.Listed.{mem-all}
use Rattle.member_taking.specs.States.{ProcessState, IsStateOf, IsReal, signed_here, frames_to}
use Rattle.member_taking.proofs.States.{claims-once}
use Rattle.member_sending.specs.Began.{Began, HasDone}

by-recursion : {A : Type 0} (P : A → Type 0) (xs : List A) → All P xs → AllByRecursion P xs
by-recursion P xs all = mem-all P xs (λ x m. All-mem P xs x all m)

-- and so is what was signed
pub real-said : (st : ProcessState) → IsReal st → AllByRecursion IsClaim st.said.claims
real-said st real = ∥∥₁_elim real (claims-once st.said.claims) (λ real.
    let here : Claim → Bool = λ c. view_of c.statement == real.process.pool.view.number in
    subst (AllByRecursion IsClaim) real.state.said
    (mem-all IsClaim (filter here real.process.signed)
    (λ c m. All-mem IsClaim real.process.signed c real.state.lawful.said (filter-mem here real.process.signed c m).0)))

-- what was heard is in its ranges
pub real-ranged : (st : ProcessState) → IsReal st → IsRanged st.pool.pool
real-ranged st real = ∥∥₁_elim real (claims-once st.pool.pool.heard)
    (λ real. subst IsRanged real.state.place.pool (by-recursion IsClaim real.process.pool.heard real.state.lawful.pool.in_range))

last-get : {A : Type 0} (xs : List A) (x : A) → slice_get (xs ++ x ∷ []) (length xs) ≡ Some x
last-get [] x = refl
last-get (y ∷ ys) x = last-get ys x

-- the last of them is what was delivered in the view
pub has-done : (s : Setting) (p began : Process) (st : ProcessState) → began.me ≡ p.me → began.delivered ≡ p.delivered → IsStateOf s p st
    → HasDone st began
has-done s p began st me delivered is =
    let before : List (List Delivered) = map (λ (v : Left). v.delivered) p.left in
    let lists : List (List Delivered) = map (λ ds. map delivery ds.items) st.account.delivered.items in
    let same : before ++ p.delivered ∷ [] ≡ lists = ap (λ (a : Account). a.delivered) is.account in
    let count = length-map st.account.delivered.items (λ ds. map delivery ds.items) in
    let long : length (before ++ p.delivered ∷ []) ≡ length lists = ap length same in
    let more = length-append before (p.delivered ∷ []) in
    let last : length st.account.delivered.items - 1 ≡ length before = omega (arith, count, long, more) in
    record {
      number = me ∙ is.place.number;
      places = ap places_in delivered ∙ is.place.delivered.places;
      delivered = ap (λ (ls : List (List Delivered)). slice_get ls (length st.account.delivered.items - 1))
          (sym same) ∙ ap (slice_get (before ++ p.delivered ∷ [])) last ∙ last-get before p.delivered ∙ ap Some (sym delivered);
    }

filter-both : {A : Type 0} (t u : A → Bool) (xs : List A) → filter (λ x. t x && u x) xs ≡ filter u (filter t xs)
filter-both t u [] = refl
filter-both t u (x ∷ xs) = go (t x) (filter-both t u xs)
  where
    go : (a : Bool) → filter (λ x. t x && u x) xs ≡ filter u (filter t xs)
        → (if (a && u x) then x ∷ filter (λ x. t x && u x) xs else filter (λ x. t x && u x) xs)
        ≡ filter u (if a then x ∷ filter t xs else filter t xs)
    go true more = ap (λ zs. if u x then x ∷ zs else zs) more
    go false more = more

-- the claims of a Bundle, among those that were signed in the view
pub base-is : (tick : Bool) (newly : ℕ) (s : Setting) (p began : Process) (st : ProcessState) (base : List Claim) → Began newly began p
    → IsStateOf s p st
    → base ≡ (if tick then filter (λ c. not (was_delivered began c.statement)) st.said.claims
    else drop (length st.said.claims - newly) st.said.claims) → base ≡ (if tick then repeated began p else newly_signed began p)
base-is true newly s p began st base begin is e =
    e ∙ ap (filter (λ (c : Claim). not (was_delivered began c.statement))) (sym is.said)
    ∙ sym (filter-both (λ (c : Claim). view_of c.statement == p.pool.view.number)
    (λ (c : Claim). not (was_delivered began c.statement)) p.signed)
base-is false newly s p began st base begin is e = e ∙ ap (λ (cs : List Claim). drop (length cs - newly) cs)
    (sym is.said) ∙ sym begin.signed

-- the other members
pub others-are : (began : Process) (v w : View) (me : ℕ) → began.me ≡ me → v ≡ w
    → sorted (λ m. m ∷ []) (filter (λ m. not (m == me)) w.members) ≡ others began v
others-are began v w me number view = λ i. sorted (λ m. m ∷ []) (filter (λ m. not (m == sym number i)) (sym view i).members)

pub bundle-is : (tick : Bool) (newly : ℕ) (s : Setting) (p began : Process) (st : ProcessState) (base : List Claim) → Began newly began p
    → IsStateOf s p st
    → base ≡ (if tick then filter (λ c. not (was_delivered began c.statement)) st.said.claims
    else drop (length st.said.claims - newly) st.said.claims) → with_what_goes_beside began st.pool.pool base ≡ bundle tick began p
bundle-is tick newly s p began st base begin is e = λ i. with_what_goes_beside began (sym is.place.pool i)
    (base-is tick newly s p began st base begin is e i)

drop-length : {A : Type 0} (xs : List A) → drop (length xs) xs ≡ []
drop-length [] = refl
drop-length (x ∷ xs) = drop-length xs

-- where nothing is repeated and nothing is new, there is no frame
pub bundle-silent : (tick : Bool) (newly : ℕ) (began p : Process) (to : List ℕ) → tick ≡ false → newly ≡ 0 → Began newly began p
    → flat_map frames_to (unless_empty (bundle tick began p) Bundle to) ≡ []
bundle-silent tick newly began p to once none begin =
    let all : length (signed_here p) - 0 ≡ length (signed_here p) = omega arith in
    let nothing : newly_signed began p
    ≡ [] = begin.signed ∙ ap (λ n. drop (length (signed_here p) - n) (signed_here p)) none ∙ ap
    (λ n. drop n (signed_here p)) all ∙ drop-length (signed_here p) in
    ap (λ b. flat_map frames_to (unless_empty (bundle b began p) Bundle to)) once ∙ ap
    (λ cs. flat_map frames_to (unless_empty (with_what_goes_beside began p.pool cs) Bundle to)) nothing

-- the answer to a Want, by whether who asks has a key
pub wanted : (s : Setting) (q : Process) (from x k : ℕ) (keyed' : List ℕ) (t : Bool) → has (keyed s) from ≡ has keyed' from
    → has keyed' from ≡ t → answers s q (Hand from (Wants x k)) ≡ (if t then unless_empty (answer q x k) Proof (from ∷ []) else [])
wanted s q from x k keyed' t same e = ap (λ (b : Bool). if b then unless_empty (answer q x k) Proof (from ∷ []) else []) (same ∙ e)
