-- Which statement is the least of its kind that is due.
use Rattle.std.proofs.Common.{◌≡◌, ◌⊎◌, inl, inr, zero, suc, List, [], ◌∷◌, Option, Some, None, Bool, true, false, refl, sym, ap, ◌∙◌, subst, arith}
use Rattle.std.specs.Prelude.{Contains, AllPairs, is_some, if◌then◌else◌}
use Rattle.std.proofs.lemmas.Bool.{both_ways}
use Rattle.group_defs.specs.Below.{numbers_below, Statement}
use Rattle.group_defs.specs.Process.{Kind, Setting, Process}
use Rattle.group_defs.specs.Due.{may_sign, due_numbers, kind_of, least_due, offers}
use Rattle.rule_laws.specs.Least.{signable, first_signable, StandBefore, FirstIsLeast, LeastOfAll, NoneOfAll}
use Rattle.pool_laws.proofs.Members.{Mem, mem-Contains, Contains-mem}
use Rattle.pool_laws.proofs.Places.{Pairs, all-pairs, mem-slice_get}
use Rattle.rule_laws.proofs.Offered.{each_due_is_offered, offers-kind}
use Rattle.rule_laws.proofs.LeastIsDue.{least_due-passes, some_is_least, least_is_due}
use Rattle.pool_laws.proofs.Members.{filter-mem}

-- ---- what is given next

-- what a kind gives next may be signed and is of the kind
pub given : (s : Setting) (p : Process) (kind : Kind) (st : Statement) → least_due s p kind ≡ Some st
    → (may_sign s p st ≡ true) × (kind_of st ≡ kind) × Mem st (offers kind s p)
given s p kind st e =
    let at = filter-mem (may_sign s p) (offers kind s p) st (least_due-passes s p kind st e) in
    (at.1, offers-kind kind s p st at.0, at.0)

-- where it gives none, none may be signed
pub nothing : (s : Setting) (p : Process) (st : Statement) → may_sign s p st ≡ true → least_due s p (kind_of st) ≡ None → ⊥
nothing s p st may none = let some = some_is_least s p st may in let clash : is_some (least_due s p (kind_of st))
    ≡ false = ap is_some none in cc

pub none_of_all : NoneOfAll
none_of_all s p kind not = go (least_due s p kind) refl
  where
    go : (o : Option Statement) → least_due s p kind ≡ o → o ≡ None
    go None e = refl
    go (Some st) e = absurd (let g = given s p kind st e in let never = not st g.1 in let may = g.0 in cc)

pub least_of_all : LeastOfAll
least_of_all s p st may each = go (least_due s p (kind_of st)) refl
  where
    same : (y : Statement) → least_due s p (kind_of st) ≡ Some y
        → (y ≡ st) ⊎ (numbers_below (due_numbers p.pool.view st) (due_numbers p.pool.view y) ≡ true) → Some y ≡ Some st
    same y e (inl is) = ap Some is
    same y e (inr below) =
        let g = given s p (kind_of st) y e in
        let least = least_is_due s p y (ap (least_due s p) g.1 ∙ e) in
        let never = least.1 st (subst (λ k. Contains (offers k s p) st) (sym g.1) (each_due_is_offered s p st may)) may in
        absurd (both_ways _ never below)

    go : (o : Option Statement) → least_due s p (kind_of st) ≡ o → o ≡ Some st
    go None e = absurd (nothing s p st may e)
    go (Some y) e = let g = given s p (kind_of st) y e in same y e (each y g.0 g.1)

-- ---- a walk

walk-least : (s : Setting) (p : Process) (kind : Kind) (walk : List (Option Statement)) → (y : Statement) → least_due s p kind ≡ Some y
    → AllPairs (StandBefore p.pool.view) walk
    → ((st : Statement) → Mem (Some st) walk → kind_of st ≡ kind) → Mem (Some y) walk → first_signable s p walk ≡ Some y
walk-least s p kind walk y e rising kinds m = go walk (all-pairs (StandBefore p.pool.view) walk rising) kinds m
  where
    g : (may_sign s p y ≡ true) × (kind_of y ≡ kind) × Mem y (offers kind s p)
    g = given s p kind y e

    -- none that may be signed stands before the least
    not-before : (st : Statement) → kind_of st ≡ kind → may_sign s p st ≡ true
        → numbers_below (due_numbers p.pool.view st) (due_numbers p.pool.view y) ≡ true → ⊥
    not-before st k may below =
        let least = least_is_due s p y (ap (least_due s p) g.1 ∙ e) in
        let offered : Contains (offers (kind_of y) s p) st = subst (λ k. Contains (offers k s p) st) (k ∙ sym g.1)
        (each_due_is_offered s p st may) in
        both_ways _ (least.1 st offered may) below

    here : (o : Option Statement) → o ≡ Some y → (rest : Option Statement)
        → (let it : Option Statement = elim (signable s p o) [ None ↦ rest | Some z ↦ Some z ] in it ≡ Some y)
    here None is rest = absurd cc
    here (Some st) is rest = let same : st ≡ y = cc in pick (may_sign s p st) (ap (may_sign s p) same ∙ g.0) same
      where
        pick : (b : Bool) → b ≡ true → st ≡ y
            → (let it : Option Statement = elim (if b then Some st else None) [ None ↦ rest | Some z ↦ Some z ] in it ≡ Some y)
        pick true f same = ap Some same
        pick false f same = absurd cc

    go : (walk : List (Option Statement)) → Pairs (StandBefore p.pool.view) walk
        → ((st : Statement) → Mem (Some st) walk → kind_of st ≡ kind) → Mem (Some y) walk → first_signable s p walk ≡ Some y
    go [] pairs kinds m = absurd m
    go (o ∷ os) pairs kinds (inl is) = here o is (first_signable s p os)
    go (None ∷ os) pairs kinds (inr m) = go os (λ i j a b lt at at'. pairs (suc i) (suc j) a b (omega (arith, lt)) at at')
        (λ st m. kinds st (inr m)) m
    go (Some st ∷ os) pairs kinds (inr m) = pick (may_sign s p st) refl
        (go os (λ i j a b lt at at'. pairs (suc i) (suc j) a b (omega (arith, lt)) at at') (λ st m. kinds st (inr m)) m)
      where
        before : numbers_below (due_numbers p.pool.view st) (due_numbers p.pool.view y) ≡ true
        before = let j = mem-slice_get os (Some y) m in pairs zero (suc j.0) (Some st) (Some y) (omega arith) refl j.1 st y refl refl

        pick : (b : Bool) → may_sign s p st ≡ b → first_signable s p os ≡ Some y
            → (let it : Option Statement = elim (if b then Some st else None) [ None ↦ first_signable s p os | Some z ↦ Some z ] in it
            ≡ Some y)
        pick true may rest = absurd (not-before st (kinds st (inl refl)) may before)
        pick false not rest = rest

walk-none : (s : Setting) (p : Process) (walk : List (Option Statement)) → ((st : Statement) → Mem (Some st) walk → may_sign s p st ≡ false)
    → first_signable s p walk ≡ None
walk-none s p [] not = refl
walk-none s p (None ∷ os) not = walk-none s p os (λ st m. not st (inr m))
walk-none s p (Some st ∷ os) not = pick (may_sign s p st) (not st (inl refl)) (walk-none s p os (λ st m. not st (inr m)))
  where
    pick : (b : Bool) → b ≡ false → first_signable s p os ≡ None
        → (let it : Option Statement = elim (if b then Some st else None) [ None ↦ first_signable s p os | Some z ↦ Some z ] in it ≡ None)
    pick true f rest = absurd cc
    pick false f rest = rest

pub first_is_least : FirstIsLeast
first_is_least s p kind walk w = go (least_due s p kind) refl
  where
    kinds : (st : Statement) → Mem (Some st) walk → kind_of st ≡ kind
    kinds st m = w.kinds st (mem-Contains walk (Some st) m)

    never : least_due s p kind ≡ None → (st : Statement) → Mem (Some st) walk → (b : Bool) → may_sign s p st ≡ b → b ≡ false
    never none st m true may = absurd (nothing s p st may (ap (least_due s p) (kinds st m) ∙ none))
    never none st m false may = refl

    go : (o : Option Statement) → least_due s p kind ≡ o → o ≡ first_signable s p walk
    go None e = sym (walk-none s p walk (λ st m. never e st m (may_sign s p st) refl))
    go (Some y) e = let g = given s p kind y e in sym
        (walk-least s p kind walk y e w.rising kinds (Contains-mem walk (Some y) (w.whole y g.0 g.1)))
