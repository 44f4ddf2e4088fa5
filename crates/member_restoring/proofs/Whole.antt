-- The state of a process whose image is kept.
use Rattle.std.proofs.Common.{◌≡◌, ◌≢◌, ℕ, zero, suc, ◌<◌, ◌≤◌, List, [], ◌∷◌, ◌++◌, length, drop, Bool, true, false, Some, refl, sym, ap, ◌∙◌, subst, inl, inr, arith}
use Rattle.std.specs.Prelude.{◌||◌, not, is_none, All, IsTrue, IsFalse}
use Rattle.std.specs.List.{list_any, range_with_len}
use Rattle.std.proofs.lemmas.Bool.{both_ways}
use Rattle.std.proofs.lemmas.List.{append-nil}
use Rattle.message_defs.specs.Limits.{most_members, most_messages, most_places}
use Rattle.message_defs.specs.Updates.{Update, Value}
use Rattle.message_defs.specs.Statements.{Message, Claim, Conflicts, view_of, messages_of}
use Rattle.message_defs.specs.Spelling.{IsClaim, IsUpdate, IsViewNumber}
use Rattle.group_defs.specs.Views.{View, IsView, is_member, is_possible, quorum, has_keys, next_fault, next_view}
use Rattle.group_defs.proofs.FollowingViews.{next_is_view}
use Rattle.group_defs.specs.Process.{Setting, Pool, Process, Left, Delivered, keyed, places_in}
use Rattle.group_defs.specs.Accounts.{IsByPlace}
use Rattle.group_defs.specs.Hearing.{is_strange, is_valid}
use Rattle.group_defs.specs.Laws.{IsOfView}
use Rattle.image_defs.specs.Images.{Image, LeftView, lefts_from, other_lists, previous_from, process_of}
use Rattle.image_defs.specs.Kept.{AreLeft, IsLeft, IsKept}
use Rattle.restored_present.specs.Members.{AreFew, IsBounded, Keeps, IsOwnOf}
use Rattle.pool_laws.proofs.Members.{Mem, mem-All, All-mem, mem-list_any}
use Rattle.pool_laws.proofs.Places.{all-pairs, pairs-all, slice_get-mem}
use Rattle.pool_laws.proofs.Tests.{and-first, none-is, some-same}
use Rattle.restored_present.specs.Members.{ArePairs, AreRanged, IsStateOf, ProcessState, claims_of}
use Rattle.restored_present.proofs.Below.{each-all, few-of, value_certain}
use Rattle.snapshot_defs.specs.Ranges.{IsConflict, IsImage, IsLeftView, IsPerceived}
use Rattle.snapshot_defs.specs.declared.Version.TheVariants.{Two}
use Rattle.restored_present.specs.Left.{HasPast}
use Rattle.member_restoring.specs.Parts.{HasParts}
use Rattle.member_restoring.proofs.Lists.{number-behind, how-many-left, numbers-are, commits-are, all-left}

-- the view that follows is one
follows : {s : Setting} (v : View) (l : LeftView) → IsView v → IsLeft s v l → IsView (next_view v l.value.update)
follows {s} v l view is = next_is_view v l.value.update (none-is (next_fault v l.value.update)
    (and-first (is_none (next_fault v l.value.update)) (has_keys (keyed s) l.value.update) is.possible)) view

-- a claim that is not strange, of the view
of-view : (p : Process) (c : Claim) → view_of c.statement ≡ p.pool.view.number → IsFalse (is_strange p c) → IsOfView p.pool.view c
of-view p c number known = record {
  number = number;
  signer = one (is_member p.pool.view c.signer) others known;
  senders = mem-All (λ (m : Message). IsTrue (is_member p.pool.view m.sender)) (messages_of c.statement)
      (λ m there. sender m.sender (is_member p.pool.view m.sender) refl (mem-list_any (λ (m : Message). not (is_member p.pool.view m.sender)) (messages_of c.statement) m there));
}
  where
    others : Bool
    others = list_any (λ (m : Message). not (is_member p.pool.view m.sender)) (messages_of c.statement)

    one : (b o : Bool) → (not b || o) ≡ false → b ≡ true
    one true o e = refl
    one false o e = absurd cc

    none : (b o : Bool) → (not b || o) ≡ false → o ≡ false
    none true o e = e
    none false o e = absurd cc

    sender : (m : ℕ) (b : Bool) → is_member p.pool.view m ≡ b → (not (is_member p.pool.view m) ≡ true → others ≡ true)
        → is_member p.pool.view m ≡ true
    sender m true is found = is
    sender m false is found = absurd (both_ways _ (none (is_member p.pool.view c.signer) others known) (found (ap not is)))

module _ (s : Setting) (batch_limit : ℕ) (i : Image) (spelled : IsImage Two i) (kept : IsKept s i) where
  abbrev p : Process
  p = process_of s batch_limit i

  all-of-view : All (IsOfView p.pool.view) p.pool.heard
  all-of-view = mem-All (IsOfView p.pool.view) p.pool.heard (λ c m. of-view p c
      (All-mem (λ (c : Claim). view_of c.statement ≡ p.pool.view.number) p.pool.heard c kept.heard.view m)
      (All-mem (λ (c : Claim). IsFalse (is_strange p c)) p.pool.heard c kept.heard.known m))

  abbrev IsOwn : Claim → Type 0
  IsOwn c = (c.signer ≡ p.me) × (view_of c.statement ≤ p.pool.view.number) × IsTrue (is_valid s c)

  own-of : (c : Claim) → Mem c p.signed → IsOwn c
  own-of c m = All-mem IsOwn p.signed c kept.own m

  abbrev IsPair : Claim × Claim → Type 0
  IsPair e = (e.0.signer ≡ e.1.signer) × Conflicts e.0 e.1 × IsTrue (is_valid s e.0) × IsTrue (is_valid s e.1)

  pair-of : (e : Claim × Claim) → Mem e p.conflicts → e.0.signer ≡ e.1.signer
  pair-of e m = (let is : IsPair e = All-mem IsPair p.conflicts e kept.conflicts m in is.0)

  asked-in : All (λ (e : ℕ × Update). IsUpdate e.1) p.perceived
  asked-in = mem-All (λ (e : ℕ × Update). IsUpdate e.1) p.perceived
      (λ e m. (All-mem IsPerceived p.perceived e (each-all IsPerceived 0 i.perceived spelled.perceived.1) m).1)

  few-each : All AreFew i.delivered
  few-each = mem-All AreFew i.delivered (λ ds m. few-of ds (All-mem IsByPlace i.delivered ds kept.by_place m)
      (All-mem (λ (ds : List Delivered). places_in ds ≤ most_places) i.delivered ds kept.few_places m))

  bounded : IsBounded p
  bounded =
      let all = all-left AreFew s.genesis i.left i.delivered spelled.lists few-each in
      record { now = all.1; before = all.0; backlog = (let le = kept.backlog in omega (arith, le)) }

  -- each commit certificate is in range, and of a quorum
  commits-in : (v : View) (ls : List LeftView) (ds : List (List Delivered)) → ((l : LeftView) → Mem l ls → All IsClaim l.commit)
      → ((l : LeftView) → Mem l ls → length l.commit ≤ most_members)
      → All (λ (l : Left). All IsClaim l.commit × (length l.commit ≤ most_members)) (lefts_from v ls ds)
  commits-in v [] ds ranged few = λ k x far. absurd (omega (arith, far))
  commits-in v (l ∷ ls) ds ranged few =
      mem-All (λ (y : Left). All IsClaim y.commit × (length y.commit ≤ most_members)) (lefts_from v (l ∷ ls) ds) (λ x m. elim m [
        | inl is ↦ subst (λ (y : Left). All IsClaim y.commit × (length y.commit ≤ most_members)) is (ranged l (inl refl), few l (inl refl))
        | inr later ↦ All-mem (λ (y : Left). All IsClaim y.commit × (length y.commit ≤ most_members))
            (lefts_from (next_view v l.value.update) ls (other_lists ds)) x
            (commits-in (next_view v l.value.update) ls (other_lists ds) (λ k m. ranged k (inr m)) (λ k m. few k (inr m))) later
      ])

  -- a quorum is no more than there are members
  quorum-few : (n : ℕ) → quorum n ≤ n
  quorum-few n = omega arith

  few-commits : (v : View) (ls : List LeftView) → IsView v → AreLeft s v ls → ((l : LeftView) → Mem l ls → length l.commit ≤ most_members)
  few-commits v [] view left l m = absurd m
  few-commits v (l ∷ ls) view left k (inl is) =
      let many = left.0.many in
      let few = view.few in
      let le = quorum-few (length v.members) in
      subst (λ (x : LeftView). length x.commit ≤ most_members) is (omega (arith, many, few, le))
  few-commits v (l ∷ ls) view left k (inr m) = few-commits (next_view v l.value.update) ls (follows v l view left.0) left.1 k m

  ranged : IsView s.genesis → AreRanged p.conflicts p.left p.previous
  ranged genesis =
      let claims : (l : LeftView) → Mem l i.left → All IsClaim l.commit
      = λ l m. (let is : IsLeftView l = All-mem IsLeftView i.left l (each-all IsLeftView 0 i.left spelled.left) m in
      each-all IsClaim 0 l.commit is.2.1) in
      let all = commits-in s.genesis i.left i.delivered claims (few-commits s.genesis i.left genesis kept.left) in
      let commit-of : (l : Left) → Mem l p.left → All IsClaim l.commit × (length l.commit ≤ most_members)
      = λ l m. All-mem (λ (y : Left). All IsClaim y.commit × (length y.commit ≤ most_members)) p.left l all m in
      record {
        pairs_ranged = each-all IsConflict 0 i.conflicts spelled.conflicts;
        commits_ranged = mem-All (λ (l : Left). All IsClaim l.commit) p.left (λ l m. (commit-of l m).0);
        commits_few = mem-All (λ (l : Left). length l.commit ≤ most_members) p.left (λ l m. (commit-of l m).1);
        previous_ranged = λ h is. previous-in s.genesis i.left h is;
      }
    where
      previous-in : (v : View) (ls : List LeftView) (h : Pool) → previous_from v i.previous ls ≡ Some h → All IsClaim h.heard
      previous-in v [] h is = absurd cc
      previous-in v (l ∷ []) h is =
          let same : record { view = v; heard = i.previous } ≡ h = cc in
          subst (λ (g : Pool). All IsClaim g.heard) same (each-all IsClaim 0 i.previous spelled.previous.1)
      previous-in v (l ∷ m ∷ ls) h is = previous-in (next_view v l.value.update) (m ∷ ls) h is

  pub pairs-are : ArePairs p.conflicts
  pairs-are = record {
    same = mem-All (λ (e : Claim × Claim). e.0.signer ≡ e.1.signer) p.conflicts pair-of;
    once = pairs-all (λ a b. a.1.signer ≢ b.1.signer) p.conflicts (λ j k a b lt at_j at_k same.
        all-pairs (λ (e d : Claim × Claim). e.0.signer ≢ d.0.signer) p.conflicts kept.one_each j k a b lt at_j at_k
        (pair-of a (slice_get-mem p.conflicts j a at_j) ∙ same
        ∙ sym (pair-of b (slice_get-mem p.conflicts k b at_k))));
  }

  halted-member : p.halted ≡ true → is_member p.pool.view p.me ≡ true
  halted-member halted = (let d = kept.halted.0 halted in (kept.decided d.0 d.1).2)

  halted-beyond : p.halted ≡ true → (d : ℕ × Value) → p.decision ≡ Some d → d.1.cut < places_in p.delivered
  halted-beyond halted d is =
      let e = kept.halted.0 halted in
      subst (λ (x : ℕ × Value). x.1.cut < places_in p.delivered) (some-same e.0 d (sym e.1 ∙ is)) e.2

  abbrev IsAsked : ℕ × Update → Type 0
  IsAsked e = (e.0 ≤ p.pool.view.number) × (e.0 ≡ p.pool.view.number → IsTrue (is_possible (keyed s) p.pool.view e.1))

  asked-of : (e : ℕ × Update) → Mem e p.perceived → e.0 ≤ p.pool.view.number
  asked-of e m = (let is : IsAsked e = All-mem IsAsked p.perceived e kept.perceived m in is.0)

  keeps : (st : ProcessState) → s.genesis.number ≡ 0 → HasPast s i st.archive → Keeps st.archive p
  keeps st at_0 past = record {
    numbers = numbers-are s.genesis i.left i.delivered
        ∙ (λ j. range_with_len (at_0 j) (sym (how-many-left s.genesis i.left i.delivered) j));
    previous = past.previous;
    commits = commits-are s.genesis i.left i.delivered ∙ past.commits;
  }

  pub state-is : (st : ProcessState) → s.genesis.number ≡ 0 → IsView s.genesis → IsViewNumber p.pool.view.number → IsView p.pool.view
      → 1 ≤ batch_limit → batch_limit ≤ most_messages → HasParts s i p st → IsStateOf s p st
  state-is st at_0 genesis number view some few has = record {
    lawful = record {
      number = number;
      pool = record { view = view; of_view = all-of-view; in_range = each-all IsClaim 0 i.heard spelled.heard.1 };
      own = mem-All (λ (c : Claim). c.signer ≡ p.me) p.signed (λ c m. (own-of c m).0);
      past = mem-All (λ (c : Claim). view_of c.statement ≤ p.pool.view.number) p.signed (λ c m. (own-of c m).1);
      said = each-all IsClaim 0 i.signed spelled.signed.1;
      short = kept.short;
      batches = few;
      asked = asked-in;
    };
    bounded = bounded;
    number = (let behind = number-behind s.genesis i.left in let many = how-many-left s.genesis i.left i.delivered in omega (arith, behind, at_0, many));
    some = some;
    decided = λ d is. (let so = kept.decided d is in record { certified = value_certain p.pool view d.0 d.1 so.0; possible = so.1 });
    each = pairs-are;
    asked_for = mem-All (λ (e : ℕ × Update). e.0 ≤ p.pool.view.number) p.perceived (λ e m. asked-of e m);
    halted_member = halted-member;
    halted_beyond = halted-beyond;
    ranged = ranged genesis;
    limit = has.limit;
    place = subst (λ h. IsOwnOf s p h st.own) has.pool has.place;
    phase = has.phase;
    asked = has.asked;
    said = sym has.said;
    signed = record {
      few = (let from = has.said_from in omega (arith, from));
      whole = sym has.said_before ∙ sym (append-nil (claims_of st.said_before.items))
          ∙ ap (λ (cs : List Claim). claims_of st.said_before.items ++ cs) (sym (none-left st.said_from st.said.claims has.said_from));
    };
    pairs = sym has.pairs;
    kept = keeps st at_0 has.past;
    account = has.account_is;
  }
    where
      none-left : (n : ℕ) (cs : List Claim) → n ≡ length cs → drop n cs ≡ []
      none-left zero [] e = refl
      none-left (suc n) [] e = absurd (omega (arith, e))
      none-left zero (c ∷ cs) e = absurd (omega (arith, e))
      none-left (suc n) (c ∷ cs) e = none-left n cs (omega (arith, e))
