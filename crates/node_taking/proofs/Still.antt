-- A part of a run in which the disk stays as it is.
use Rattle.std.proofs.Common.{◌≡◌, inl, ℕ, false, true≢false, List, [], Option, None, Some, refl, sym, subst, arith}
use Rattle.std.specs.Prelude.{IfSome, IsSome}
use Rattle.journal_defs.specs.Entries.{Entry}
use Rattle.journal_defs.specs.Crashes.{IsAtRest, IsImageOf, Survives}
use Rattle.journal_defs.proofs.Crashing.{at_rest_is_image}
use Rattle.journal_disk.specs.Disks.{HasRest, LeavesOnly}
use Rattle.node_defs.specs.Casts.{Cast}
use Rattle.node_defs.specs.Lines.{Stop}
use Rattle.node_defs.specs.Lives.{leaves, leaves_by, with_or_without}
use Rattle.node_defs.specs.Nodes.{Node, Opening, Answer, Snapper, run}
use Rattle.node_traces.specs.Stops.{Outset, LeftFrom}
use Rattle.node_traces.specs.Goes.{Outside, Goes}
use Rattle.node_traces.specs.Went.{Went}
use Rattle.node_traces.proofs.Went.{went_on}
use Rattle.node_taking.specs.Taking.{StopsSo}

-- ---- where the disk tells

pub reported : {A P : Type 0} (o : Option A) → IfSome o (λ x. P) → IsSome o → P
reported None if some = absurd (true≢false (sym some))
reported (Some x) if some = if

pub if-reported : {A P : Type 0} (o : Option A) → (IsSome o → P) → IfSome o (λ x. P)
if-reported None p = tt
if-reported (Some x) p = p refl

-- ---- a disk that is at rest

-- the journal is at rest with these bytes and then the node's entries, where the disk tells
abbrev pub Rests : Option (List ℕ) → (List ℕ → Type 0) → List ℕ → Node → Type 0
Rests seen may_leave head n = IfSome seen (λ file. HasRest seen may_leave head n.kept n.gate)

pub at-rest : (seen : Option (List ℕ)) (may_leave : List ℕ → Type 0) (head : List ℕ) (es : List Entry) (gate : ℕ)
    → HasRest seen may_leave head es gate → (image : List ℕ) → may_leave image → IsImageOf head image es
at-rest seen may_leave head es gate is image left =
    subst (λ (b : List ℕ). IsImageOf head b es) (sym (is.only image left)) (at_rest_is_image head es is.file is.each is.rest)

pub rest-stands : (seen : Option (List ℕ)) (may_leave : List ℕ → Type 0) (head : List ℕ) (es : List Entry) (gate : ℕ)
    → HasRest seen may_leave head es gate → Survives head es may_leave
rest-stands seen may_leave head es gate is = record {
  each = is.each;
  all = inl (λ image left. subst (λ b. IsAtRest head es b) (sym (is.only image left)) is.rest);
}

-- before any answer it leaves what is kept
pub left-at-first : (c : Cast) (snap : Snapper) (f : Outset) (n : Node) (answers : List Answer) (image : List ℕ) → n.opening ≡ []
    → IsImageOf f.head image n.kept → LeftFrom c snap f n answers [] image
unfolding run leaves
left-at-first c snap f n answers image opened is = record {
  front = [];
  fronts = (answers, refl);
  with_more = false;
  reads = subst (λ (os : List Opening). IsImageOf f.head image (with_or_without (leaves_by c f.found n os) false)) (sym opened) is;
}

module _ {D : Type 0} (seen : D → Option (List ℕ)) (may_leave : D → List ℕ → Type 0) (moment : D → ℕ)
    (left_since : D → ℕ → List ℕ → Type 0) (only_now : (d : D) (image : List ℕ) → left_since d (moment d) image → may_leave d image) (c : Cast)
    (snap : Snapper) (most : ℕ) (f : Outset) where
  -- at no moment anything else is left
  pub nothing-new : (n : Node) (d : D) (answers : List Answer) → n.opening ≡ [] → Rests (seen d) (may_leave d) f.head n → IsSome (seen d)
      → LeavesOnly moment left_since d d (LeftFrom c snap f n answers [])
  nothing-new n d answers opened rests some = record {
    later = omega arith;
    each = λ image left. left-at-first c snap f n answers image opened
        (at-rest (seen d) (may_leave d) f.head n.kept n.gate (reported (seen d) rests some) image (only_now d image left));
    before = λ t image le left. inl left;
  }

  pub still : (n m : Node) (x y : Outside) (d : D) → n.opening ≡ [] → Rests (seen d) (may_leave d) f.head n → Goes c snap most n x m y
      → Went seen moment left_since c snap most f n x d m y d
  still n m x y d opened rests goes = record {
    goes = goes;
    tells = λ some. some;
    leaves = nothing-new n d goes.answers opened rests;
  }

  -- the same, where the node stops
  pub stops-still : (n last : Node) (x y : Outside) (d : D) (why : Stop) → n.opening ≡ [] → Rests (seen d) (may_leave d) f.head n
      → Goes c snap most n x last y → last.stopped ≡ Some why → last.kept ≡ n.kept
      → StopsSo seen may_leave moment left_since c snap most f n x d why y d
  stops-still n last x y d why opened rests goes stopped kept = record {
    stop = record {
      last = last;
      stops = stopped;
      goes = goes;
      leaves = nothing-new n d goes.answers opened rests;
    };
    stands = if-reported (seen d) (λ some. subst (λ (es : List Entry). Survives f.head es (may_leave d)) (sym kept)
        (rest-stands (seen d) (may_leave d) f.head n.kept n.gate (reported (seen d) rests some)));
  }

  -- A stop after another part. (That the disk tells is asked of its beginning alone: `first` says that it tells at the stop's beginning too.)
  pub stops-after : (n m : Node) (x y z : Outside) (old mid new : D) (why : Stop)
      → Went seen moment left_since c snap most f n x old m y mid → StopsSo seen may_leave moment left_since c snap most f m y mid why z new
      → StopsSo seen may_leave moment left_since c snap most f n x old why z new
  stops-after n m x y z old mid new why first stops =
      let reported-at-first : D → Option (List ℕ) = λ d. seen old in
      let last : Node = stops.stop.last in
      let before : Went reported-at-first moment left_since c snap most f n x old m y mid
      = record { goes = first.goes; tells = λ some. some; leaves = first.leaves } in
      let behind : Went reported-at-first moment left_since c snap most f m y mid last z new
      = record { goes = stops.stop.goes; tells = λ some. some; leaves = λ some. stops.stop.leaves (first.tells some) } in
      let whole = went_on reported-at-first moment left_since c snap most f n m last x y z old mid new before behind in
      record {
        stop = record { last = last; stops = stops.stop.stops; goes = whole.goes; leaves = whole.leaves };
        stands = if-reported (seen old) (λ some. reported (seen mid) stops.stands (first.tells some));
      }
