-- Letters that were sealed and sent.
use Rattle.std.proofs.Common.{◌≡◌, inl, ℕ, ◌+◌, ◌<◌, ◌≤◌, List, [], ◌∷◌, ◌++◌, length, map, get_or, take, drop, Option, None, Some, refl, sym, ap, subst, ◌∙◌}
use Rattle.std.specs.Prelude.{Result, Ok, Err, OnOk, OnErr, IsSome, IfSome, All, slice_index_or}
use Rattle.std.specs.Option.{option_map_or}
use Rattle.std.proofs.lemmas.Grind.{flat_map-append}
use Rattle.std.proofs.lemmas.List.{append-nil, append_assoc, map-append, take_all, take_more, take-append-drop}
use Rattle.group_defs.specs.Process.{Process}
use Rattle.pool_laws.proofs.Members.{Mem, All-mem, mem-All, mem-map, mem-behind, mem-flat_map, index-mem}
use Rattle.member_events.specs.declared.events.Sending.{Sending}
use Rattle.node_service.specs.Lines.{frame_to}
use Rattle.rp_base.specs.Causes.{HasCause}
use Rattle.rp_base.specs.Links.{Sends as LinkSends}
use Rattle.link_defs.specs.Datagrams.{Known, sealed}
use Rattle.auth_link.specs.declared.keys.LinkKeys.{LinkKeys}
use Rattle.auth_link.specs.Keys.{known, pair_key}
use Rattle.auth_link.specs.Opening.{sent_by}
use Rattle.kit_defs.specs.Kits.{Kit}
use Rattle.journal_defs.specs.declared.Version.{Version}
use Rattle.node_defs.specs.Casts.{Cast, cast_of, datagram, known_of, pair_of}
use Rattle.node_defs.specs.Nodes.{Sends, SendsTo}
use Rattle.node_traces.specs.Outside.{LinkSeen, LinkStep}
use Rattle.node_traces.specs.Service.{Asked}
use Rattle.letting_laws.specs.Letting.{Edge, LetOut, HasBegun}
use Rattle.node_turns.specs.Letters.{letters_to, letters_in, sends_of, IsSealable, answer_of}
use Rattle.letting_laws.proofs.Joined.{let-nothing, let-both, begun-after, begun-front}

-- ---- one letter

-- the link did what its call answered
pub sent-so : {T E : Type 0} (result : Result T E) (k l : LinkSeen) (port : ℕ) (bytes : List ℕ)
    → OnOk result (LinkSends k.sent l.sent k.coming l.coming port bytes) → OnErr result ((l.sent ≡ k.sent) × (l.coming ≡ k.coming))
    → HasCause k.faults l.faults result → LinkStep k (SendsTo port bytes, answer_of result) l
sent-so (Ok x) k l port bytes ok err cause = record { sends = ok; steady = cause.steady }
sent-so (Err e) k l port bytes ok err cause = record { sent = err.0; coming = err.1; rose = cause.failed }

-- the datagram that is sealed with the key that this process shares with that one
abbrev IsSealed : Known → ℕ → List ℕ → List ℕ → Type 0
IsSealed k to frame bytes = IfSome (k.pair to)
    (λ key. bytes ≡ sealed key (record { group = k.group; from = k.me; to = to; frame = frame }))

pub sealed-so : (kit : Kit) (me to : ℕ) (frame bytes : List ℕ) (keys : LinkKeys) → known keys ≡ known_of kit me → IsSome (pair_of kit me to)
    → IfSome (pair_key keys to) (λ key. bytes ≡ sealed key (sent_by keys to frame))
    → bytes ≡ option_map_or (λ key. sealed key (datagram kit me to frame)) (pair_of kit me to) []
sealed-so kit me to frame bytes keys same shared is =
    go (pair_of kit me to) shared (subst (λ (k : Known). IsSealed k to frame bytes) same is)
  where
    go : (o : Option (List ℕ)) → IsSome o → IfSome o (λ key. bytes ≡ sealed key (datagram kit me to frame))
        → bytes ≡ option_map_or (λ key. sealed key (datagram kit me to frame)) o []
    go None none is = absurd cc
    go (Some key) some is = is

pub shares-key : (kit : Kit) (me to : ℕ) (keys : LinkKeys) → known keys ≡ known_of kit me → IsSome (pair_of kit me to)
    → IsSome (pair_key keys to)
shares-key kit me to keys same shared = subst (λ (k : Known). IsSome (k.pair to)) (sym same) shared

-- the letter's datagram went to its port, or the send failed
pub letter-sent : {T E : Type 0} (kit : Kit) (version : Version) (me to : ℕ) (frame bytes : List ℕ) (port : ℕ) (result : Result T E)
    (k l : LinkSeen) → port ≡ (cast_of kit version).port to → bytes ≡ (cast_of kit version).seal me to frame
    → LinkStep k (SendsTo port bytes, answer_of result) l
    → LinkStep k (SendsTo ((cast_of kit version).port to) ((cast_of kit version).seal me to frame), answer_of result) l
letter-sent kit version me to frame bytes port result k l port_is sealed_is step =
    subst (λ (p : ℕ). LinkStep k (SendsTo p ((cast_of kit version).seal me to frame), answer_of result) l) port_is
    (subst (λ (b : List ℕ). LinkStep k (SendsTo port b, answer_of result) l) sealed_is step)

pub on-err : {T E Q : Type 0} (r : Result T E) → Q → OnErr r Q
on-err (Ok x) q = tt
on-err (Err e) q = q

-- ---- the letters of a frame

abbrev to_each : List ℕ → List ℕ → List (ℕ × List ℕ)
to_each frame ps = map (λ q. (q, frame)) ps

sends-append : (me : ℕ) (xs ys : List (ℕ × List ℕ)) → sends_of me (xs ++ ys) ≡ sends_of me xs ++ sends_of me ys
sends-append me xs ys = map-append (λ (l : ℕ × List ℕ). Sends me l.0 l.1) xs ys

-- the letters to the first of these processes went out, and those to others are left
pub record Along (c : Cast) (at : ℕ → Process) (me : ℕ) (frame : List ℕ) (all left : List ℕ) (e f : Edge) : Type 0 where
  pub done : List ℕ
  pub splits : all ≡ done ++ left
  pub out : LetOut c at (sends_of me (to_each frame done)) e f

pub along-begins : (c : Cast) (at : ℕ → Process) (me : ℕ) (frame all left : List ℕ) (e : Edge) → left ≡ all
    → Along c at me frame all left e e
along-begins c at me frame all left e same = record { done = []; splits = sym same; out = let-nothing c at e }

one-more : (me : ℕ) (frame done : List ℕ) (q : ℕ)
    → sends_of me (to_each frame done) ++ sends_of me ((q, frame) ∷ []) ≡ sends_of me (to_each frame (done ++ q ∷ []))
one-more me frame done q = sym (sends-append me (to_each frame done) ((q, frame) ∷ []))
    ∙ ap (sends_of me) (sym (map-append (λ (q : ℕ). (q, frame)) done (q ∷ [])))

pub along-more : (c : Cast) (at : ℕ → Process) (me : ℕ) (frame all : List ℕ) (q : ℕ) (left : List ℕ) (e f g : Edge)
    → Along c at me frame all (q ∷ left) e f
    → LetOut c at (sends_of me ((q, frame) ∷ [])) f g → Along c at me frame all left e g
along-more c at me frame all q left e f g before one = record {
  done = before.done ++ q ∷ [];
  splits = before.splits ∙ sym (append_assoc before.done (q ∷ []) left);
  out = subst (λ ls. LetOut c at ls e g) (one-more me frame before.done q)
      (let-both c at (sends_of me (to_each frame before.done)) (sends_of me ((q, frame) ∷ [])) e f g before.out one);
}

pub along-ended : (c : Cast) (at : ℕ → Process) (me : ℕ) (frame all left : List ℕ) (e f : Edge) → left ≡ []
    → Along c at me frame all left e f
    → LetOut c at (sends_of me (to_each frame all)) e f
along-ended c at me frame all left e f none before =
    subst (λ ps. LetOut c at (sends_of me (to_each frame ps)) e f)
    (sym (append-nil before.done) ∙ ap (λ ps. before.done ++ ps) (sym none) ∙ sym before.splits) before.out

with-rest : (me : ℕ) (frame all done : List ℕ) (q : ℕ) (left : List ℕ) → all ≡ done ++ q ∷ left
    → (sends_of me (to_each frame done) ++ sends_of me ((q, frame) ∷ [])) ++ sends_of me (to_each frame left) ≡ sends_of me
    (to_each frame all)
with-rest me frame all done q left splits =
    ap (λ ls. ls ++ sends_of me (to_each frame left)) (one-more me frame done q)
    ∙ sym (sends-append me (to_each frame (done ++ q ∷ [])) (to_each frame left))
    ∙ ap (sends_of me) (sym (map-append (λ (q : ℕ). (q, frame)) (done ++ q ∷ []) left))
    ∙ ap (λ ps. sends_of me (to_each frame ps)) (append_assoc done (q ∷ []) left ∙ sym splits)

pub along-begun : (c : Cast) (at : ℕ → Process) (me : ℕ) (frame all : List ℕ) (q : ℕ) (left : List ℕ) (e f : Edge) (l : LinkSeen)
    (i : List Asked)
    → Along c at me frame all (q ∷ left) e f → HasBegun c at (sends_of me ((q, frame) ∷ [])) f.link f.service l i
    → HasBegun c at (sends_of me (to_each frame all)) e.link e.service l i
along-begun c at me frame all q left e f l i before some =
    subst (λ ls. HasBegun c at ls e.link e.service l i) (with-rest me frame all before.done q left before.splits)
    (begun-front c at (sends_of me (to_each frame before.done) ++ sends_of me ((q, frame) ∷ [])) (sends_of me (to_each frame left)) e.link l
    e.service i
    (begun-after c at (sends_of me (to_each frame before.done)) (sends_of me ((q, frame) ∷ [])) e f l i before.out some))

pub next-sealable : (c : Cast) (at : ℕ → Process) (kit : Kit) (me : ℕ) (frame all : List ℕ) (q : ℕ) (left : List ℕ) (e f : Edge)
    → Along c at me frame all (q ∷ left) e f → All (IsSealable kit me) (to_each frame all) → IsSealable kit me (q, frame)
next-sealable c at kit me frame all q left e f before each = All-mem (IsSealable kit me) (to_each frame all) (q, frame) each
    (mem-map (λ (q : ℕ). (q, frame)) all q
    (subst (λ ps. Mem q ps) (sym before.splits) (mem-behind before.done (q ∷ left) q (inl refl))))

-- as the loop has it: the processes that were left before this one, and the bytes of the frame as they are lent
pub along-step : (c : Cast) (at : ℕ → Process) (me : ℕ) (frame all : List ℕ) (q : ℕ) (left old bytes : List ℕ) (e f g : Edge)
    → old ≡ q ∷ left → bytes ≡ frame
    → Along c at me frame all old e f → LetOut c at (sends_of me ((q, bytes) ∷ [])) f g → Along c at me frame all left e g
along-step c at me frame all q left old bytes e f g steps lent before one =
    along-more c at me frame all q left e f g (subst (λ ps. Along c at me frame all ps e f) steps before)
    (subst (λ b. LetOut c at (sends_of me ((q, b) ∷ [])) f g) lent one)

pub along-stop : (c : Cast) (at : ℕ → Process) (me : ℕ) (frame all : List ℕ) (q : ℕ) (left old bytes : List ℕ) (e f : Edge) (l : LinkSeen)
    (i : List Asked) → old ≡ q ∷ left
    → bytes ≡ frame → Along c at me frame all old e f → HasBegun c at (sends_of me ((q, bytes) ∷ [])) f.link f.service l i
    → HasBegun c at (sends_of me (to_each frame all)) e.link e.service l i
along-stop c at me frame all q left old bytes e f l i steps lent before some =
    along-begun c at me frame all q left e f l i (subst (λ ps. Along c at me frame all ps e f) steps before)
    (subst (λ b. HasBegun c at (sends_of me ((q, b) ∷ [])) f.link f.service l i) lent some)

pub along-sealable : (c : Cast) (at : ℕ → Process) (kit : Kit) (me : ℕ) (frame all : List ℕ) (q : ℕ) (left old bytes : List ℕ) (e f : Edge)
    → old ≡ q ∷ left
    → bytes ≡ frame → Along c at me frame all old e f → All (IsSealable kit me) (to_each frame all) → IsSealable kit me (q, bytes)
along-sealable c at kit me frame all q left old bytes e f steps lent before each =
    subst (λ b. IsSealable kit me (q, b)) (sym lent)
    (next-sealable c at kit me frame all q left e f (subst (λ ps. Along c at me frame all ps e f) steps before) each)

-- ---- the frames

letters-snoc : (xs : List Sending) (x : Sending) → letters_in (xs ++ x ∷ []) ≡ letters_in xs ++ letters_to (frame_to x)
letters-snoc xs x = flat_map-append (λ (out : Sending). letters_to (frame_to out)) xs (x ∷ [])
    ∙ ap (λ ls. letters_in xs ++ ls) (append-nil (letters_to (frame_to x)))

pub frames-more : (c : Cast) (at : ℕ → Process) (me : ℕ) (xs ys : List Sending) (x : Sending) (e f g : Edge) → ys ≡ xs ++ x ∷ []
    → LetOut c at (sends_of me (letters_in xs)) e f → LetOut c at (sends_of me (letters_to (frame_to x))) f g
    → LetOut c at (sends_of me (letters_in ys)) e g
frames-more c at me xs ys x e f g is before one =
    subst (λ ls. LetOut c at ls e g) (sym (sends-append me (letters_in xs) (letters_to (frame_to x)))
    ∙ ap (sends_of me) (sym (letters-snoc xs x) ∙ ap letters_in (sym is)))
    (let-both c at (sends_of me (letters_in xs)) (sends_of me (letters_to (frame_to x))) e f g before one)

pub frames-begun : (c : Cast) (at : ℕ → Process) (me : ℕ) (all xs : List Sending) (x : Sending) (rest : List Sending) (e f : Edge)
    (l : LinkSeen) (i : List Asked)
    → all ≡ (xs ++ x ∷ []) ++ rest → LetOut c at (sends_of me (letters_in xs)) e f
    → HasBegun c at (sends_of me (letters_to (frame_to x))) f.link f.service l i
    → HasBegun c at (sends_of me (letters_in all)) e.link e.service l i
frames-begun c at me all xs x rest e f l i is before some =
    subst (λ ls. HasBegun c at ls e.link e.service l i) whole
    (begun-front c at (sends_of me (letters_in xs) ++ sends_of me (letters_to (frame_to x))) (sends_of me (letters_in rest)) e.link l
    e.service i
    (begun-after c at (sends_of me (letters_in xs)) (sends_of me (letters_to (frame_to x))) e f l i before some))
  where
    whole : (sends_of me (letters_in xs) ++ sends_of me (letters_to (frame_to x))) ++ sends_of me (letters_in rest)
        ≡ sends_of me (letters_in all)
    whole = ap (λ ls. ls ++ sends_of me (letters_in rest)) (sym (sends-append me (letters_in xs) (letters_to (frame_to x)))
        ∙ ap (sends_of me) (sym (letters-snoc xs x)))
        ∙ sym (sends-append me (letters_in (xs ++ x ∷ [])) (letters_in rest))
        ∙ ap (sends_of me) (sym (flat_map-append (λ (out : Sending). letters_to (frame_to out)) (xs ++ x ∷ []) rest) ∙ ap letters_in (sym is))

pub frame-sealable : (kit : Kit) (me : ℕ) (sends : List Sending) (i : ℕ) (d : Sending) → i < length sends
    → All (IsSealable kit me) (letters_in sends) → All (IsSealable kit me) (letters_to (frame_to (slice_index_or sends i d)))
frame-sealable kit me sends i d lt each = mem-All (IsSealable kit me) (letters_to (frame_to (slice_index_or sends i d)))
    (λ letter m. All-mem (IsSealable kit me) (letters_in sends) letter each
    (mem-flat_map (λ (out : Sending). letters_to (frame_to out)) sends (slice_index_or sends i d) letter (index-mem sends i d lt) m))

-- as the loop has it: this is the frame at the place
pub frames-step : (c : Cast) (at : ℕ → Process) (me : ℕ) (sends : List Sending) (i : ℕ) (x : Sending) (e f g : Edge) → i < length sends
    → x ≡ get_or sends i x → LetOut c at (sends_of me (letters_in (take i sends))) e f
    → LetOut c at (sends_of me (letters_to (frame_to x))) f g
    → LetOut c at (sends_of me (letters_in (take (i + 1) sends))) e g
frames-step c at me sends i x e f g lt is before one = frames-more c at me (take i sends) (take (i + 1) sends) x e f g
    (take_more sends i x lt ∙ ap (λ (y : Sending). take i sends ++ y ∷ []) (sym is)) before one

pub frames-stop : (c : Cast) (at : ℕ → Process) (me : ℕ) (sends : List Sending) (i : ℕ) (x : Sending) (e f : Edge) (l : LinkSeen)
    (j : List Asked) → i < length sends → x ≡ get_or sends i x → LetOut c at (sends_of me (letters_in (take i sends))) e f
    → HasBegun c at (sends_of me (letters_to (frame_to x))) f.link f.service l j
    → HasBegun c at (sends_of me (letters_in sends)) e.link e.service l j
frames-stop c at me sends i x e f l j lt is before some = frames-begun c at me sends (take i sends) x (drop (i + 1) sends) e f l j
    (sym (take-append-drop (i + 1) sends) ∙ ap (λ (ys : List Sending). ys ++ drop (i + 1) sends)
    (take_more sends i x lt ∙ ap (λ (y : Sending). take i sends ++ y ∷ []) (sym is))) before some

pub item-sealable : (kit : Kit) (me : ℕ) (sends : List Sending) (i : ℕ) (x : Sending) → i < length sends → x ≡ get_or sends i x
    → All (IsSealable kit me) (letters_in sends) → All (IsSealable kit me) (letters_to (frame_to x))
item-sealable kit me sends i x lt is each =
    subst (λ (y : Sending). All (IsSealable kit me) (letters_to (frame_to y))) (sym is) (frame-sealable kit me sends i x lt each)

pub frames-ended : (c : Cast) (at : ℕ → Process) (me : ℕ) (sends : List Sending) (i : ℕ) (e f : Edge) → length sends ≤ i
    → LetOut c at (sends_of me (letters_in (take i sends))) e f → LetOut c at (sends_of me (letters_in sends)) e f
frames-ended c at me sends i e f past before =
    subst (λ (ys : List Sending). LetOut c at (sends_of me (letters_in ys)) e f) (take_all i sends past) before
