-- The datagrams of a port.
use Rattle.std.proofs.Common.{◌≡◌, ◌≢◌, ℕ, ◌+◌, ◌<◌, Bool, true, false, List, [], ◌∷◌, ◌++◌, length, map, get_or, take, drop, refl, sym, ap, subst, ◌∙◌, suc, add-one}
use Rattle.std.specs.Prelude.{if◌then◌else◌, filter, ◌==◌}
use Rattle.std.proofs.lemmas.Bool.{eq-eqb, ne_eqb}
use Rattle.std.proofs.lemmas.List.{drop_more, take-append-drop, map-append, get_or_default}
use Rattle.rp_devices.specs.declared.mem_link.Datagram.{Datagram}
use Rattle.rp_devices.specs.Links.{ported, on_port, TakesFirst}

pub on_port-append : (ds es : List (ℕ × List ℕ)) (q : ℕ) → on_port (ds ++ es) q ≡ on_port ds q ++ on_port es q
on_port-append [] es q = refl
on_port-append (a ∷ ds) es q = by (a.0 == q) (on_port-append ds es q)
  where
    by : (b : Bool) → on_port (ds ++ es) q ≡ on_port ds q ++ on_port es q
        → map (λ (d : ℕ × List ℕ). d.1) (if b then a ∷ filter (λ d. d.0 == q) (ds ++ es) else filter (λ d. d.0 == q) (ds ++ es))
        ≡ map (λ (d : ℕ × List ℕ). d.1) (if b then a ∷ filter (λ d. d.0 == q) ds else filter (λ d. d.0 == q) ds) ++ on_port es q
    by true so_far = ap (λ l. a.1 ∷ l) so_far
    by false so_far = so_far

of_other : (a : ℕ × List ℕ) (ds : List (ℕ × List ℕ)) (q : ℕ) → a.0 ≢ q → on_port (a ∷ ds) q ≡ on_port ds q
of_other a ds q ne = rw (ne_eqb a.0 q ne) refl

of_port : (a : ℕ × List ℕ) (ds : List (ℕ × List ℕ)) (q : ℕ) → a.0 ≡ q → on_port (a ∷ ds) q ≡ a.1 ∷ on_port ds q
of_port a ds q is = rw (eq-eqb a.0 q is) refl

-- a part of which none is of the port adds nothing
none_before : (ds es : List (ℕ × List ℕ)) (port : ℕ) → on_port ds port ≡ [] → on_port (ds ++ es) port ≡ on_port es port
none_before ds es port none = on_port-append ds es port ∙ ap (λ (l : List (List ℕ)). l ++ on_port es port) none

taken : (ds es : List (ℕ × List ℕ)) (x : ℕ × List ℕ) (port : ℕ) → x.0 ≡ port → on_port ds port ≡ []
    → TakesFirst (ds ++ x ∷ es) (ds ++ es) port x.1
taken ds es x port is none = record {
  first = none_before ds (x ∷ es) port none ∙ of_port x es port is ∙ ap (λ (l : List (List ℕ)). x.1 ∷ l)
      (sym (none_before ds es port none));
  others = λ q ne. on_port-append ds es q ∙ sym
      (on_port-append ds (x ∷ es) q ∙ ap (λ (l : List (List ℕ)). on_port ds q ++ l) (of_other x es q (λ e. ne (sym e ∙ is))));
}

-- the first of the port, taken out of its place
pub taken_at : (xs later : List Datagram) (i : ℕ) (x : Datagram) (port : ℕ) → i < length xs → x ≡ get_or xs i x
    → later ≡ take i xs ++ drop (suc i) xs → x.port ≡ port → on_port (map ported (take i xs)) port ≡ []
    → TakesFirst (map ported xs) (map ported later) port x.bytes.items
taken_at xs later i x port lt is removed of none =
    let parts : xs ≡ take i xs ++ x
    ∷ drop (i + 1) xs = sym (take-append-drop i xs) ∙ ap (λ (l : List Datagram). take i xs ++ l)
    (drop_more xs i x lt) ∙ ap (λ (y : Datagram). take i xs ++ y ∷ drop (i + 1) xs) (sym is) in
    let rest : later ≡ take i xs ++ drop (i + 1) xs = removed ∙ rw (← add-one) refl in
    let whole : map ported xs ≡ map ported (take i xs)
    ++ ported x ∷ map ported (drop (i + 1) xs) = ap (λ (l : List Datagram). map ported l) parts ∙ map-append ported (take i xs)
    (x ∷ drop (i + 1) xs) in
    let left : map ported later ≡ map ported (take i xs)
    ++ map ported (drop (i + 1) xs) = ap (λ (l : List Datagram). map ported l) rest ∙ map-append ported (take i xs) (drop (i + 1) xs) in
    subst (λ (l : List (ℕ × List ℕ)). TakesFirst l (map ported later) port x.bytes.items) (sym whole)
    (subst (λ (l : List (ℕ × List ℕ)). TakesFirst (map ported (take i xs) ++ ported x ∷ map ported (drop (i + 1) xs)) l port x.bytes.items)
    (sym left)
    (taken (map ported (take i xs)) (map ported (drop (i + 1) xs)) (ported x) port of none))

-- an item is read once or twice, and is the same
pub same_port : (xs : List Datagram) (i : ℕ) (x y : Datagram) (port : ℕ) → i < length xs → x ≡ get_or xs i x → y ≡ get_or xs i y
    → y.port ≡ port → x.port ≡ port
same_port xs i x y port lt xis yis of = ap (λ (d : Datagram). d.port) (xis ∙ get_or_default xs i x y lt ∙ sym yis) ∙ of
