-- A kit at the front of bytes to which more come.
use Rattle.std.proofs.Common.{◌≡◌, ℕ, ◌+◌, ◌==◌, Bool, true, false, List, [], ◌∷◌, ◌++◌, Result, Ok, Err, ap}
use Rattle.std.specs.Prelude.{if◌then◌else◌}
use Rattle.byte_defs.specs.Equality.{same_bytes}
use Rattle.byte_defs.specs.Fields.{◌>>=◌}
use Rattle.text_defs.specs.Words.{line_feed}
use Rattle.kit_defs.specs.Kits.{Kit}
use Rattle.kit_defs.specs.KitReading.{Draft, KitFault, finish, nothing, take_line}
use Rattle.input_defs.specs.Fronts.{Front, ends_at, front_at, go}
use Rattle.front_laws.specs.Fronts.{with_more, FrontsGoOn}

ok_is : (x y : Front) → (let r : Result Front KitFault = Ok x in r) ≡ Ok y → x ≡ y
ok_is x y e = cc

ended_more : (n : ℕ) (d : Draft) (rest more : List ℕ) (f : Front) → ends_at n d rest ≡ Ok f → ends_at n d (rest ++ more) ≡ Ok (with_more more f)
ended_more n d rest more f e = of (finish n d) e
  where
    of : (r : Result Kit KitFault) → (r >>= λ kit. Ok (record { kit = kit; line = n + 1; rest = rest })) ≡ Ok f
        → (r >>= λ kit. Ok (record { kit = kit; line = n + 1; rest = rest ++ more })) ≡ Ok (with_more more f)
    of (Ok kit) e =
        let same = ok_is (record { kit = kit; line = n + 1; rest = rest }) f e in
        ap (λ (g : Front). let r : Result Front KitFault = Ok (with_more more g) in r) same
    of (Err fault) e = absurd cc

-- whatever is before
front_more : (bytes more line : List ℕ) (n : ℕ) (d : Draft) (f : Front) → front_at line n d bytes ≡ Ok f
    → front_at line n d (bytes ++ more) ≡ Ok (with_more more f)
unfolding front_at
front_more [] more line n d f e = absurd cc
front_more (c ∷ bytes) more line n d f e = of (λ l m t h. front_more bytes more l m t f h) (c == line_feed) e
  where
    taken : ((l : List ℕ) (m : ℕ) (t : Draft) → front_at l m t bytes ≡ Ok f → front_at l m t (bytes ++ more) ≡ Ok (with_more more f))
        → (r : Result Draft KitFault) → (r >>= λ t. front_at [] (n + 1) t bytes) ≡ Ok f
        → (r >>= λ t. front_at [] (n + 1) t (bytes ++ more)) ≡ Ok (with_more more f)
    taken again (Ok t) e = again [] (n + 1) t e
    taken again (Err fault) e = absurd cc

    at_feed : ((l : List ℕ) (m : ℕ) (t : Draft) → front_at l m t bytes ≡ Ok f → front_at l m t (bytes ++ more) ≡ Ok (with_more more f))
        → (b : Bool) → (if b then ends_at n d bytes else take_line n d line >>= λ t. front_at [] (n + 1) t bytes) ≡ Ok f
        → (if b then ends_at n d (bytes ++ more) else take_line n d line >>= λ t. front_at [] (n + 1) t (bytes ++ more)) ≡ Ok (with_more more f)
    at_feed again true e = ended_more n d bytes more f e
    at_feed again false e = taken again (take_line n d line) e

    of : ((l : List ℕ) (m : ℕ) (t : Draft) → front_at l m t bytes ≡ Ok f → front_at l m t (bytes ++ more) ≡ Ok (with_more more f))
        → (b : Bool)
        → (if b then (if same_bytes line go then ends_at n d bytes else take_line n d line >>= λ t. front_at [] (n + 1) t bytes)
        else front_at (line ++ c ∷ []) n d bytes) ≡ Ok f
        → (if b then (if same_bytes line go then ends_at n d (bytes ++ more) else take_line n d line >>= λ t. front_at [] (n + 1) t (bytes ++ more))
        else front_at (line ++ c ∷ []) n d (bytes ++ more)) ≡ Ok (with_more more f)
    of again true e = at_feed again (same_bytes line go) e
    of again false e = again (line ++ c ∷ []) n d e

pub fronts_go_on : FrontsGoOn
fronts_go_on bytes more f e = front_more bytes more [] 1 nothing f e
