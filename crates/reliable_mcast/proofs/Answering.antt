-- The answer of a process, by what is kept.
use Rattle.std.proofs.Common.{◌≡◌, ℕ, suc, zero, ◌+◌, ◌<◌, List, [], ◌∷◌, ◌++◌, length, map, Bool, true, false, refl, sym, ap, ◌∙◌, arith, append_assoc, slice_get}
use Rattle.std.specs.Prelude.{if◌then◌else◌, ◌==◌, filter, flat_map, unwrap_or, option_to_list}
use Rattle.std.specs.List.{range_with_len}
use Rattle.std.proofs.lemmas.Bool.{eqb-true, eqb-false}
use Rattle.std.proofs.lemmas.List.{map-append, append-nil}
use Rattle.message_defs.specs.Statements.{Claim}
use Rattle.message_defs.specs.Packing.{Signed, signed_of}
use Rattle.group_defs.specs.Process.{Pool, Left, Process}
use Rattle.group_defs.specs.Sending as sending
use Rattle.group_defs.specs.Sending.{commits_of, pools_of, place_certificates, answer, frames_of}
use Rattle.reliable_mcast.specs.declared.sheet.FrameKind.TheVariants as kinds
use Rattle.sent_claims.specs.Lists.{extended}
use Rattle.reliable_mcast.specs.Packed.{Packing, frames_as, Fills}
use Rattle.sent_claims.specs.Certificates.{all_signed}
use Rattle.reliable_mcast.specs.Archives.{Archived, Keeps}
use Rattle.reliable_mcast.specs.Answers.{commit_kept, pools_kept, places_kept, answer_kept}
use Rattle.sent_claims.proofs.Extended.{extended-all}
use Rattle.sent_claims.proofs.Ways.{none-first, none-others}

-- ---- the commit certificate of a view, by the numbers of those that were left

abbrev commits_in : ℕ → List Left → List Claim
commits_in x vs = flat_map (λ (v : Left). v.commit) (filter (λ (v : Left). v.view.number == x) vs)

abbrev AreNumbered : ℕ → List Left → Type 0
AreNumbered n vs = map (λ (v : Left). v.view.number) vs ≡ range_with_len n (length vs)

head-is : (m n : ℕ) (ms ns : List ℕ) → m ∷ ms ≡ n ∷ ns → m ≡ n
head-is m n ms ns e = cc

tail-is : (m n : ℕ) (ms ns : List ℕ) → m ∷ ms ≡ n ∷ ns → ms ≡ ns
tail-is m n ms ns e = cc

-- a view below the first of them is none of them
none-below : (vs : List Left) (n x : ℕ) → AreNumbered n vs → x < n → commits_in x vs ≡ []
none-below [] n x e lt = refl
none-below (v ∷ vs) n x e lt = go (v.view.number == x) refl (none-below vs (n + 1) x (tail-is v.view.number n _ _ e) (omega (arith, lt)))
  where
    go : (b : Bool) → (v.view.number == x) ≡ b → commits_in x vs ≡ []
        → flat_map (λ (v : Left). v.commit)
        (if b then v ∷ filter (λ (v : Left). v.view.number == x) vs else filter (λ (v : Left). v.view.number == x) vs) ≡ []
    go true f rest = absurd (let same = eqb-true v.view.number x f in let first = head-is v.view.number n _ _ e in omega
        (arith, same, first, lt))
    go false f rest = rest

commits-at : (vs : List Left) (n i x : ℕ) → AreNumbered n vs → x ≡ n + i
    → all_signed (commits_in x vs) ≡ unwrap_or (slice_get (map (λ (v : Left). all_signed v.commit) vs) i) []
commits-at [] n i x e at = refl
commits-at (v ∷ vs) n zero x e at = go (v.view.number == x) refl
    (none-below vs (n + 1) x (tail-is v.view.number n _ _ e) (omega (arith, at)))
  where
    go : (b : Bool) → (v.view.number == x) ≡ b → commits_in x vs ≡ []
        → all_signed (flat_map (λ (v : Left). v.commit)
        (if b then v ∷ filter (λ (v : Left). v.view.number == x) vs else filter (λ (v : Left). v.view.number == x) vs))
        ≡ all_signed v.commit
    go true f none = ap (λ cs. all_signed (v.commit ++ cs)) none ∙ ap all_signed (append-nil v.commit)
    go false f none = absurd (eqb-false v.view.number x f (let first = head-is v.view.number n _ _ e in omega (arith, first, at)))
commits-at (v ∷ vs) n (suc i) x e at = go (v.view.number == x) refl
    (commits-at vs (n + 1) i x (tail-is v.view.number n _ _ e) (omega (arith, at)))
  where
    go : (b : Bool) → (v.view.number == x) ≡ b
        → all_signed (commits_in x vs) ≡ unwrap_or (slice_get (map (λ (v : Left). all_signed v.commit) vs) i) []
        → all_signed (flat_map (λ (v : Left). v.commit)
        (if b then v ∷ filter (λ (v : Left). v.view.number == x) vs else filter (λ (v : Left). v.view.number == x) vs))
        ≡ unwrap_or (slice_get (map (λ (v : Left). all_signed v.commit) vs) i) []
    go true f rest = absurd (let same = eqb-true v.view.number x f in let first = head-is v.view.number n _ _ e in omega
        (arith, same, first, at))
    go false f rest = rest

-- ---- the answer

pub answer-is : (a : Archived) (h : Pool) (p : Process) (x k : ℕ) → Keeps a p → p.pool ≡ h → all_signed (answer p x k) ≡ answer_kept a h x k
answer-is a h p x k keeps same =
    let at : x ≡ 0 + x = omega arith in
    map-append signed_of (commits_of p x) (places_kept (pools_of p x) k)
    ∙ (λ i. (commits-at p.left 0 x x keeps.numbers at ∙ ap (λ cs. unwrap_or (slice_get cs x) []) keeps.commits) i
    ++ all_signed (places_kept (filter (λ (g : Pool). g.view.number == x) (same i ∷ option_to_list (keeps.previous i))) k))

-- its pools, the current one and the previous one
abbrev pub pools_in : List Pool → ℕ → List Pool
pools_in hs x = filter (λ (g : Pool). g.view.number == x) hs

pub pools-parts : (h : Pool) (hs : List Pool) (x k : ℕ)
    → all_signed (places_kept (filter (λ (g : Pool). g.view.number == x) (h ∷ hs)) k)
    ≡ all_signed (places_kept (filter (λ (g : Pool). g.view.number == x) (h ∷ [])) k)
    ++ all_signed (places_kept (filter (λ (g : Pool). g.view.number == x) hs) k)
pools-parts h hs x k = go (h.view.number == x)
  where
    rest : List Pool
    rest = filter (λ (g : Pool). g.view.number == x) hs

    here : List Claim
    here = flat_map (place_certificates h) (range_with_len k 8)

    go : (b : Bool) → all_signed (places_kept (if b then h ∷ rest else rest) k) ≡ all_signed (places_kept (if b then h ∷ [] else []) k)
        ++ all_signed (places_kept rest k)
    go true = map-append signed_of here (places_kept rest k) ∙ ap (λ cs. all_signed cs ++ all_signed (places_kept rest k))
        (sym (append-nil here))
    go false = refl

-- its frames
pub bundles-are : (cs : List Claim) → frames_as kinds.Bundle (all_signed cs) ≡ frames_of (sending.Bundle cs)
bundles-are [] = refl
bundles-are (c ∷ cs) = refl

pub proofs-are : (cs : List Claim) → frames_as kinds.Proof (all_signed cs) ≡ frames_of (sending.Proof cs)
proofs-are [] = refl
proofs-are (c ∷ cs) = refl

-- ---- the three parts of an answer, one behind the other

-- where nothing was in the list, the three parts are the answer
pub parts-are : (a : Archived) (h : Pool) (x k : ℕ) (commits : List (List Signed)) (f f1 f2 f3 : Packing) → commits ≡ a.commits
    → f.claims ≡ [] → Fills f f1 (extended false f.claims (unwrap_or (slice_get commits x) []))
    → Fills f1 f2 (extended false f1.claims (all_signed (places_kept (pools_in (h ∷ []) x) k)))
    → Fills f2 f3 (extended false f2.claims (all_signed (places_kept (pools_in (option_to_list a.previous) x) k)))
    → f3.claims ≡ answer_kept a h x k
parts-are a h x k commits f f1 f2 f3 same empty one two three =
    let commit : List Signed = unwrap_or (slice_get commits x) [] in
    let current : List Signed = all_signed (places_kept (pools_in (h ∷ []) x) k) in
    let before : List Signed = all_signed (places_kept (pools_in (option_to_list a.previous) x) k) in
    three.claims ∙ ap (λ cs. extended false cs before)
    (two.claims ∙ ap (λ cs. extended false cs current) (one.claims ∙ ap (λ cs. extended false cs commit) empty))
    ∙ extended-all (extended false (extended false [] commit) current) before
    ∙ ap (λ cs. cs ++ before) (extended-all (extended false [] commit) current ∙ ap (λ cs. cs ++ current) (extended-all [] commit))
    ∙ append_assoc commit current before
    ∙ (λ i. unwrap_or (slice_get (same i) x) [] ++ sym (pools-parts h (option_to_list a.previous) x k) i)

-- none of the three parts has a claim
pub record HasNone (a : Archived) (h : Pool) (x k : ℕ) : Type 0 where
  pub commit : unwrap_or (slice_get a.commits x) [] ≡ []
  pub current : all_signed (places_kept (pools_in (h ∷ []) x) k) ≡ []
  pub before : all_signed (places_kept (pools_in (option_to_list a.previous) x) k) ≡ []
  pub all : answer_kept a h x k ≡ []

pub has-none : (a : Archived) (h : Pool) (p : Process) (x k : ℕ) → Keeps a p → p.pool ≡ h → answer p x k ≡ [] → HasNone a h x k
has-none a h p x k keeps same e =
    let places : List Signed = all_signed (places_kept (pools_kept a h x) k) in
    let current : List Signed = all_signed (places_kept (pools_in (h ∷ []) x) k) in
    let before : List Signed = all_signed (places_kept (pools_in (option_to_list a.previous) x) k) in
    let all : answer_kept a h x k ≡ [] = sym (answer-is a h p x k keeps same) ∙ ap all_signed e in
    let both : current ++ before ≡ [] = sym (pools-parts h (option_to_list a.previous) x k) ∙ none-others (commit_kept a x) places all in
    record {
      commit = none-first (commit_kept a x) places all;
      current = none-first current before both;
      before = none-others current before both;
      all = all;
    }

-- and nothing was packed
pub frames-same : (f f1 f2 f3 : Packing) (cs ds es : List Signed) → Fills f f1 cs → Fills f1 f2 ds → Fills f2 f3 es → f3.frames ≡ f.frames
frames-same f f1 f2 f3 cs ds es one two three = three.frames ∙ two.frames ∙ one.frames
