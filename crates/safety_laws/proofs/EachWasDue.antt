-- Each statement was due at its moment.
use Rattle.std.proofs.Common.{◌≡◌, ◌⊎◌, inl, inr, ℕ, List, [], ◌∷◌, ◌++◌, map, length, Some, Bool, true, false, refl, sym, ap, ◌∙◌, subst, arith, slice_get}
use Rattle.std.specs.Prelude.{if◌then◌else◌, is_some, All, Contains, slice_index_or}
use Rattle.group_defs.specs.Below.{put, Update, Value, Statement, Claim, slot_of}
use Rattle.group_defs.specs.Hearing.{Heard, verdict, is_valid}
use Rattle.group_defs.specs.Process.{Setting, Left, Process, start, views_of}
use Rattle.group_defs.specs.Certified.{heard_on}
use Rattle.group_defs.specs.Due.{may_sign}
use Rattle.group_defs.specs.Signing.{Signer, own_claim, signs}
use Rattle.group_defs.specs.Settle.{install}
use Rattle.group_defs.specs.Events.{Turn, perceived_numbers}
use Rattle.group_defs.specs.Accounts.{IsPrefixOf}
use Rattle.group_defs.specs.Family.{statements_of, handed_to}
use Rattle.group_defs.specs.Laws.{SignsAt, HasGrown, IsFrom, WasDue, EachWasDue}
use Rattle.std.proofs.lemmas.List.{map-append, length-map}
use Rattle.pool_laws.proofs.Heard.{verdict-valid}
use Rattle.safety_laws.proofs.Induction.{Keeps, run-keeps}
use Rattle.pool_laws.proofs.Members.{Contains-mem, Mem, mem-Contains, mem-snoc, put-mem, snoc-mem}
use Rattle.pool_laws.proofs.Places.{prefix-more, prefix-self, slice_get-index, slice_get-mem, slice_get-snoc}

-- ---- prefixes

each-contained : {A : Type 0} (xs : List A) → All (Contains xs) xs
each-contained xs = λ k d lt. mem-Contains xs (slice_index_or xs k d)
    (slice_get-mem xs k (slice_index_or xs k d) (slice_get-index xs k d lt))

-- ---- growing

pub grown-self : (p : Process) → HasGrown p p
grown-self p = record {
  me = refl;
  left = prefix-self p.left;
  views = prefix-self (views_of p);
  signed = prefix-self p.signed;
  accepted = prefix-self p.accepted;
  perceived = each-contained p.perceived;
}

module _ (old p : Process) (g : HasGrown old p) where
  pub accepting : (payload : List ℕ) → HasGrown old (record p { accepted = p.accepted ++ payload ∷ [] })
  accepting payload = record {
    me = g.me;
    left = g.left;
    views = g.views;
    signed = g.signed;
    accepted = prefix-more old.accepted p.accepted (payload ∷ []) g.accepted;
    perceived = g.perceived;
  }

  pub perceiving : (e : ℕ × Update) → HasGrown old (record p { perceived = put perceived_numbers e p.perceived })
  perceiving e = record {
    me = g.me;
    left = g.left;
    views = g.views;
    signed = g.signed;
    accepted = g.accepted;
    perceived = λ k d lt. mem-Contains _ _ (put-mem perceived_numbers e p.perceived _ (Contains-mem p.perceived _ (g.perceived k d lt)));
  }

  pub signing : (s : Setting) (signer : Signer) (st : Statement) → HasGrown old (signs s signer p st)
  signing s signer st = record {
    me = g.me;
    left = g.left;
    views = g.views;
    signed = prefix-more old.signed p.signed (own_claim s signer p st ∷ []) g.signed;
    accepted = g.accepted;
    perceived = g.perceived;
  }

  pub installing : (d : ℕ × Value) → HasGrown old (install d p)
  installing d = record {
    me = g.me;
    left = prefix-more old.left p.left _ g.left;
    views = subst (IsPrefixOf (views_of old))
        (ap (λ vs. vs ++ (install d p).pool.view ∷ []) (sym (map-append (λ (v : Left). v.view) p.left _)))
        (prefix-more (views_of old) (views_of p) ((install d p).pool.view ∷ []) g.views);
    signed = g.signed;
    accepted = g.accepted;
    perceived = g.perceived;
  }

  -- what HasGrown does not read
  pub otherwise : (q : Process) → q.me ≡ p.me → p.left ≡ q.left → p.pool.view ≡ q.pool.view → p.signed ≡ q.signed → p.accepted ≡ q.accepted
      → p.perceived ≡ q.perceived → HasGrown old q
  otherwise q me left view signed accepted perceived = record {
    me = me ∙ g.me;
    left = subst (IsPrefixOf old.left) left g.left;
    views = subst (IsPrefixOf (views_of old)) (λ i. map (λ (v : Left). v.view) (left i) ++ view i ∷ []) g.views;
    signed = subst (IsPrefixOf old.signed) signed g.signed;
    accepted = subst (IsPrefixOf old.accepted) accepted g.accepted;
    perceived = subst (λ es. All (Contains es) old.perceived) perceived g.perceived;
  }

-- ---- each run keeps it

-- handed over and valid, or own
abbrev pub From : Setting → List Claim → List Claim → Claim → Type 0
From s handed signed c = (Mem c handed × (is_valid s c ≡ true)) ⊎ Mem c signed

pub record EachDue (s : Setting) (turns : List Turn) (p : Process) : Type 0 where
  pub heard : (c : Claim) → Mem c p.pool.heard → From s (handed_to turns) p.signed c
  pub dues : (i : ℕ) (st : Statement) → SignsAt p i st → WasDue s turns p i st

module _ (s : Setting) (turns : List Turn) where
  goes-on : (p q : Process) → ((old : Process) → HasGrown old p → HasGrown old q) → (i : ℕ) (st : Statement) → WasDue s turns p i st
      → WasDue s turns q i st
  goes-on p q grow i st was = record {
    moment = was.moment;
    grown = grow was.moment was.grown;
    next = was.next;
    due = was.due;
    heard = was.heard;
  }

  signing-keeps : (p : Process) (signer : Signer) (st : Statement) → may_sign s p st ≡ true → EachDue s turns p
      → EachDue s turns (signs s signer p st)
  signing-keeps p signer st may ok = record {
    heard = λ c m. go c (is_some (heard_on p.pool p.me (slot_of st))) m;
    dues = λ i st' at. now i st' (slice_get-snoc (statements_of p) st i st'
        (subst (λ sts. slice_get sts i ≡ Some st') (map-append (λ c. c.statement) p.signed (own_claim s signer p st ∷ [])) at));
  }
    where
      own : Claim
      own = own_claim s signer p st

      later : (c : Claim) → From s (handed_to turns) p.signed c → From s (handed_to turns) (p.signed ++ own ∷ []) c
      later c (inl handed) = inl handed
      later c (inr signed) = inr (mem-snoc p.signed own c signed)

      last : (cs : List Claim) → Mem own (cs ++ own ∷ [])
      last [] = inl refl
      last (c ∷ cs) = inr (last cs)

      one : (c : Claim) → Mem c p.pool.heard ⊎ (own ≡ c) → From s (handed_to turns) (p.signed ++ own ∷ []) c
      one c (inl m) = later c (ok.heard c m)
      one c (inr e) = inr (subst (λ c. Mem c (p.signed ++ own ∷ [])) e (last p.signed))

      go : (c : Claim) (b : Bool) → Mem c (if b then p.pool.heard else p.pool.heard ++ own ∷ [])
          → From s (handed_to turns) (p.signed ++ own ∷ []) c
      go c true m = later c (ok.heard c m)
      go c false m = one c (snoc-mem p.pool.heard own c m)

      heard-now : (c : Claim) → From s (handed_to turns) p.signed c → IsFrom s (handed_to turns) p.signed c
      heard-now c (inl m) = inl (mem-Contains (handed_to turns) c m.0, m.1)
      heard-now c (inr m) = inr (mem-Contains p.signed c m)

      now : (i : ℕ) (st' : Statement) → (slice_get (statements_of p) i ≡ Some st') ⊎ ((i ≡ length (statements_of p)) × (st ≡ st'))
          → WasDue s turns (signs s signer p st) i st'
      now i st' (inl before) = goes-on p (signs s signer p st) (λ old g. signing old p g s signer st) i st' (ok.dues i st' before)
      now i st' (inr end) = record {
        moment = p;
        grown = signing p p (grown-self p) s signer st;
        next = let same = length-map p.signed (λ (c : Claim). c.statement) in let at = end.0 in omega (arith, same, at);
        due = subst (λ st. may_sign s p st ≡ true) end.1 may;
        heard = λ k d lt. heard-now _ (ok.heard _ (slice_get-mem p.pool.heard k _ (slice_get-index p.pool.heard k d lt)));
      }

  pub keeps : Keeps s (handed_to turns) (EachDue s turns)
  keeps = record {
    accepts = λ p payload ok. record {
      heard = ok.heard;
      dues = λ i st at. goes-on p _ (λ old g. accepting old p g payload) i st (ok.dues i st at);
    };
    perceives = λ p e ok. record { heard = ok.heard; dues = λ i st at. goes-on p _ (λ old g. perceiving old p g e) i st (ok.dues i st at) };
    hears = λ p c m e ok. record {
      heard = λ d there. either p c m e ok d (snoc-mem p.pool.heard c d there);
      dues = λ i st at. goes-on p _ (λ old g. otherwise old p g _ refl refl refl refl refl refl) i st (ok.dues i st at);
    };
    doubts = λ p conflicts ok. record {
      heard = ok.heard;
      dues = λ i st at. goes-on p _ (λ old g. otherwise old p g _ refl refl refl refl refl refl) i st (ok.dues i st at);
    };
    signs = λ p signer st next none ok. signing-keeps p signer st next.may ok;
    decides = λ p ok. record {
      heard = ok.heard;
      dues = λ i st at. goes-on p _ (λ old g. otherwise old p g _ refl refl refl refl refl refl) i st (ok.dues i st at);
    };
    delivers = λ p ds member room e ok. record {
      heard = ok.heard;
      dues = λ i st at. goes-on p _ (λ old g. otherwise old p g _ refl refl refl refl refl refl) i st (ok.dues i st at);
    };
    installs = λ p d decided whole ok. record {
      heard = λ c m. absurd m;
      dues = λ i st at. goes-on p _ (λ old g. installing old p g d) i st (ok.dues i st at);
    };
    halts = λ p d decided member ok. record {
      heard = ok.heard;
      dues = λ i st at. goes-on p _ (λ old g. otherwise old p g _ refl refl refl refl refl refl) i st (ok.dues i st at);
    };
  }
    where
      either : (p : Process) (c : Claim) → Mem c (handed_to turns) → verdict s p c ≡ Heard → EachDue s turns p → (d : Claim)
          → Mem d p.pool.heard ⊎ (c ≡ d) → From s (handed_to turns) p.signed d
      either p c m e ok d (inl before) = ok.heard d before
      either p c m e ok d (inr is) = inl (subst (λ c. Mem c (handed_to turns) × (is_valid s c ≡ true)) is (m, verdict-valid s p c e))

pub each_was_due : EachWasDue
each_was_due s me limit turns = (run-keeps s (EachDue s turns) turns (keeps s turns) (start s me limit)
    (record { heard = λ c m. absurd m; dues = λ i st at. absurd cc })).dues
