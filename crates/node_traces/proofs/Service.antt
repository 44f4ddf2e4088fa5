-- What the service was asked, joined.
use Rattle.std.proofs.Common.{◌≡◌, ℕ, List, [], ◌∷◌, ◌++◌, refl, sym, ap, append_assoc, ◌∙◌}
use Rattle.std.specs.Prelude.{Option, None}
use Rattle.std.specs.Option.{option_map_or}
use Rattle.std.proofs.lemmas.List.{append-nil}
use Rattle.std.proofs.lemmas.Grind.{flat_map-append}
use Rattle.group_defs.specs.Process.{Process}
use Rattle.node_defs.specs.Casts.{Cast}
use Rattle.node_defs.specs.Nodes.{Node, Call, Answer, Done, Failed, Unremembered, Came, Broken, Said, Named, Digest, Snapper, call_of, answered, run}
use Rattle.node_traces.specs.Service.{Asked, one_asked, shows, asking, hears, asked_by}

-- what was asked by some answers, and then by others
pub asked-in-a-row : (c : Cast) (snap : Snapper) (n : Node) (first more : List Answer)
    → asked_by c snap n (first ++ more) ≡ asked_by c snap n first ++ asked_by c snap (run c snap n first) more
unfolding run asked_by
asked-in-a-row c snap n [] more = refl
asked-in-a-row c snap n (a ∷ first) more =
    let one = asking c n.now (call_of c n) a in
    let next = answered c snap n a in
    ap (λ (h : List Asked). one ++ h) (asked-in-a-row c snap next first more)
    ∙ sym (append_assoc one (asked_by c snap next first) (asked_by c snap (run c snap next first) more))

-- one answer
pub asked-once : (c : Cast) (snap : Snapper) (n : Node) (a : Answer) → asked_by c snap n (a ∷ []) ≡ asking c n.now (call_of c n) a
unfolding asked_by
asked-once c snap n a = append-nil (asking c n.now (call_of c n) a)

-- no answer
pub asked-never : (c : Cast) (snap : Snapper) (n : Node) → asked_by c snap n [] ≡ []
unfolding asked_by
asked-never c snap n = refl

-- a history that grew, and then grew more
pub heard-on : (old mid new one more : List Asked) → mid ≡ old ++ one → new ≡ mid ++ more → new ≡ old ++ (one ++ more)
heard-on old mid new one more first then = then ∙ ap (λ (h : List Asked). h ++ more) first ∙ append_assoc old one more

-- one that stays
pub heard-none : (old new more : List Asked) → new ≡ old → more ≡ [] → new ≡ old ++ more
heard-none old new more same none = same ∙ sym (append-nil old) ∙ ap (λ (h : List Asked). old ++ h) (sym none)

-- a call that is none of the service's
pub asks-nothing : (c : Cast) (now : ℕ → Process) (call : Call) (a : Answer) → shows c now call ≡ None → asking c now call a ≡ []
asks-nothing c now call Unremembered none = refl
asks-nothing c now call Done none = ap (λ (o : Option (List Process)). option_map_or (λ shown. one_asked c shown call Done) o []) none
asks-nothing c now call Failed none = ap (λ (o : Option (List Process)). option_map_or (λ shown. one_asked c shown call Failed) o []) none
asks-nothing c now call (Came bytes) none = ap (λ (o : Option (List Process)). option_map_or (λ shown. one_asked c shown call (Came bytes)) o []) none
asks-nothing c now call Broken none = ap (λ (o : Option (List Process)). option_map_or (λ shown. one_asked c shown call Broken) o []) none
asks-nothing c now call (Said text sends) none =
    ap (λ (o : Option (List Process)). option_map_or (λ shown. one_asked c shown call (Said text sends)) o []) none
asks-nothing c now call (Named p) none = ap (λ (o : Option (List Process)). option_map_or (λ shown. one_asked c shown call (Named p)) o []) none
asks-nothing c now call (Digest digest) none =
    ap (λ (o : Option (List Process)). option_map_or (λ shown. one_asked c shown call (Digest digest)) o []) none

-- nor is it asked where its history stays
pub asks-none : (c : Cast) (now : ℕ → Process) (call : Call) (a : Answer) (h : List Asked) → shows c now call ≡ None → h ≡ h ++ asking c now call a
asks-none c now call a h none = heard-none h h (asking c now call a) refl (asks-nothing c now call a none)

-- what two lists of calls add, one after the other
pub hears-in-a-row : (c : Cast) (now : ℕ → Process) (cs ds : List (Call × Answer)) → hears c now (cs ++ ds) ≡ hears c now cs ++ hears c now ds
hears-in-a-row c now cs ds = flat_map-append (λ i. asking c now i.0 i.1) cs ds
