-- The list of a Bundle, claim by claim as it stands in a frame.
use Rattle.std.proofs.Common.{◌≡◌, List, [], ◌∷◌, ◌++◌, map, Bool, true, false, Option, Some, None, refl, sym, ap, ◌∙◌}
use Rattle.std.specs.Prelude.{if◌then◌else◌, ◌&&◌, ◌||◌, ◌==◌, nat_lt, fold, filter, flat_map}
use Rattle.std.specs.List.{AllByRecursion, list_any}
use Rattle.std.proofs.lemmas.List.{map-append}
use Rattle.std.proofs.lemmas.Slice.Eq.{bytes_eq-Decides}
use Rattle.byte_defs.specs.Orders.{sorted}
use Rattle.byte_defs.specs.Equality.{same_bytes, is_yes, bytes_discrete}
use Rattle.message_defs.specs.Statements.{Statement, Order, Suggest, EchoAt, Slot, Claim, same_statement}
use Rattle.message_defs.specs.Spelling.{IsStatement, IsClaim, spelling}
use Rattle.message_defs.specs.Packing.{Signed, signed_of}
use Rattle.group_defs.specs.Process.{Pool, Process, places_in}
use Rattle.group_defs.specs.Certified.{certified_on, certificate, certificate_on}
use Rattle.group_defs.specs.Sending as sending
use Rattle.group_defs.specs.Sending.{same_claim, beside_order, beside_suggest, is_beside, claim_numbers, message_certificates, with_what_goes_beside}
use Rattle.pool_laws.proofs.Slots.{same_statement-is, is-same_statement}
use Rattle.pool_laws.proofs.Tests.{yes-is, is-yes}
use Rattle.pool_laws.proofs.Members.{filter-mem}
use Rattle.pool_laws.proofs.Sorting.{mem-sorted}
use Rattle.statements.proofs.Bodies as bodies
use Rattle.sent_claims.specs.Lists.{same_signed, added, extended}
use Rattle.sent_claims.specs.Certificates.{IsRanged, all_signed}
use Rattle.sent_claims.proofs.Extended.{extended-append, extended-all}
use Rattle.sent_claims.proofs.Certified.{all-mem, certificate-ranged}
use Rattle.sent_claims.proofs.Listed.{mem-all, all-append, all-flat}

-- ---- claims are equal where they are as they stand in frames

same-tests : (a b : Bool) → (a ≡ true → b ≡ true) → (b ≡ true → a ≡ true) → a ≡ b
same-tests true b there back = sym (there refl)
same-tests false true there back = back refl
same-tests false false there back = refl

same-said : (a b : Statement) → IsStatement a → IsStatement b → same_statement a b ≡ same_bytes (spelling a) (spelling b)
same-said a b p q = same-tests (same_statement a b) (same_bytes (spelling a) (spelling b))
    (λ e. (bytes_eq-Decides (spelling a) (spelling b)).1 (ap spelling (same_statement-is a b e)))
    (λ e. is-same_statement a b (bodies.same_statement a b p q ((bytes_eq-Decides (spelling a) (spelling b)).0 e)))

same-signature : (xs ys : List _) → is_yes (bytes_discrete xs ys) ≡ same_bytes xs ys
same-signature xs ys = same-tests (is_yes (bytes_discrete xs ys)) (same_bytes xs ys)
    (λ e. (bytes_eq-Decides xs ys).1 (yes-is (bytes_discrete xs ys) e))
    (λ e. is-yes (bytes_discrete xs ys) ((bytes_eq-Decides xs ys).0 e))

regrouped : (a b c : Bool) → ((a && b) && c) ≡ (a && (b && c))
regrouped true b c = refl
regrouped false b c = refl

same-claims : (c d : Claim) → IsClaim c → IsClaim d → same_claim c d ≡ same_signed (signed_of c) (signed_of d)
same-claims c d p q =
    (λ i. ((c.signer == d.signer) && same-said c.statement d.statement p.1 q.1 i) && same-signature c.signature d.signature i)
    ∙ regrouped (c.signer == d.signer) (same_bytes (spelling c.statement) (spelling d.statement)) (same_bytes c.signature d.signature)

is-among : (c : Claim) (cs : List Claim) → IsClaim c → AllByRecursion IsClaim cs
    → list_any (same_claim c) cs ≡ list_any (same_signed (signed_of c)) (all_signed cs)
is-among c [] p all = refl
is-among c (d ∷ cs) p all = λ i. same-claims c d p all.0 i || is-among c cs p all.1 i

-- ---- a claim is joined, and then others

joined-signed : (cs : List Claim) (c : Claim) → IsClaim c → AllByRecursion IsClaim cs
    → all_signed (sending.joined cs c) ≡ added true (all_signed cs) (signed_of c)
joined-signed cs c p all = go (list_any (same_claim c) cs) ∙ ap
    (λ (b : Bool). if b then all_signed cs else all_signed cs ++ signed_of c ∷ []) (is-among c cs p all)
  where
    go : (b : Bool) → all_signed (if b then cs else cs ++ c ∷ []) ≡ (if b then all_signed cs else all_signed cs ++ signed_of c ∷ [])
    go true = refl
    go false = map-append signed_of cs (c ∷ [])

joined-ranged : (cs : List Claim) (c : Claim) → IsClaim c → AllByRecursion IsClaim cs → AllByRecursion IsClaim (sending.joined cs c)
joined-ranged cs c p all = go (list_any (same_claim c) cs)
  where
    go : (b : Bool) → AllByRecursion IsClaim (if b then cs else cs ++ c ∷ [])
    go true = all
    go false = all-append IsClaim cs (c ∷ []) all (p, tt)

all-joined : (cs ds : List Claim) → AllByRecursion IsClaim cs → AllByRecursion IsClaim ds
    → all_signed (fold sending.joined cs ds) ≡ extended true (all_signed cs) (all_signed ds)
all-joined cs [] p q = refl
all-joined cs (d ∷ ds) p q = all-joined (sending.joined cs d) ds (joined-ranged cs d q.0 p) q.1 ∙ ap
    (λ es. extended true es (all_signed ds)) (joined-signed cs d q.0 p)

-- ---- what goes beside is in range

certificate_on-ranged : (h : Pool) (s : Slot) → IsRanged h → AllByRecursion IsClaim (certificate_on h s)
certificate_on-ranged h s ranged = go (certified_on h s)
  where
    go : (o : Option Statement) → AllByRecursion IsClaim (elim o as (λ _. List Claim) [ None ↦ [] | Some st ↦ certificate h st ])
    go None = tt
    go (Some st) = certificate-ranged h st ranged

orders-ranged : (began : Process) (h : Pool) (st : Statement) → IsRanged h → AllByRecursion IsClaim (beside_order began h st)
orders-ranged began h (Order x k b) ranged = go (nat_lt k (places_in began.delivered))
  where
    go : (t : Bool) → AllByRecursion IsClaim (if t then [] else message_certificates h b)
    go true = tt
    go false = all-flat IsClaim (λ m. certificate_on h (EchoAt h.view.number m)) b
        (λ m. certificate_on-ranged h (EchoAt h.view.number m) ranged)
orders-ranged began h _ ranged = tt

suggests-ranged : (h : Pool) (st : Statement) → IsRanged h → AllByRecursion IsClaim (beside_suggest h st)
suggests-ranged h (Suggest x r v) ranged =
    mem-all IsClaim (sorted claim_numbers (filter (λ (c : Claim). is_beside v.cut c.statement) h.heard))
    (λ c m. all-mem IsClaim h.heard c ranged
    (filter-mem (λ (c : Claim). is_beside v.cut c.statement) h.heard c
    (mem-sorted claim_numbers (filter (λ (c : Claim). is_beside v.cut c.statement) h.heard) c m)).0)
suggests-ranged h _ ranged = tt

-- ---- the list

pub bundle-is : (began : Process) (h : Pool) (base : List Claim) (l0 l1 l2 l3 : List Signed) → IsRanged h → AllByRecursion IsClaim base
    → l0 ≡ [] → l1 ≡ extended false l0 (all_signed base)
    → l2 ≡ extended true l1 (all_signed (flat_map (beside_order began h) (map (λ (c : Claim). c.statement) base)))
    → l3 ≡ extended true l2 (all_signed (flat_map (beside_suggest h) (map (λ (c : Claim). c.statement) base)))
    → l3 ≡ all_signed (with_what_goes_beside began h base)
bundle-is began h base l0 l1 l2 l3 ranged said empty one two three =
    let statements : List Statement = map (λ (c : Claim). c.statement) base in
    let orders : List Claim = flat_map (beside_order began h) statements in
    let suggests : List Claim = flat_map (beside_suggest h) statements in
    let first : l1 ≡ all_signed base = one ∙ ap (λ cs. extended false cs (all_signed base)) empty ∙ extended-all [] (all_signed base) in
    let ranges = all-append IsClaim orders suggests
    (all-flat IsClaim (beside_order began h) statements (λ st. orders-ranged began h st ranged))
    (all-flat IsClaim (beside_suggest h) statements (λ st. suggests-ranged h st ranged)) in
    three ∙ ap (λ cs. extended true cs (all_signed suggests)) (two ∙ ap (λ cs. extended true cs (all_signed orders)) first)
    ∙ sym (extended-append true (all_signed base) (all_signed orders) (all_signed suggests))
    ∙ ap (extended true (all_signed base)) (sym (map-append signed_of orders suggests))
    ∙ sym (all-joined base (orders ++ suggests) said ranges)
