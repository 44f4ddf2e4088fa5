-- Processes with their signers, one after another.
use Rattle.std.proofs.Common.{◌≡◌, ℕ, zero, suc, ◌+◌, ◌<◌, List, [], ◌∷◌, ◌++◌, map, length, get_or, take, sym, ap, subst, ◌∙◌, arith}
use Rattle.std.proofs.lemmas.List.{map_more, get_or_default, get_or-take, length-take-le}
use Rattle.std.specs.Prelude.{All}
use Rattle.rp_base.specs.Rosters.{IsRising}
use Rattle.replay_defs.specs.declared.Scheme.{Scheme}
use Rattle.replay_defs.specs.Keys.{Key, Plain, Lms, Hss, IsKey}
use Rattle.sig_scheme.specs.declared.any_signer.AnySigner.{AnySigner}
use Rattle.sig_scheme.specs.Signers.{IsSignerOf}
use Rattle.replay_defs.specs.Schedules.{Listed, AreListed}
use Rattle.schedule_file.specs.declared.schedule.Listed.{Listed as CodeListed}
use Rattle.schedule_file.specs.Views as views
use Rattle.replay_cast.specs.declared.keyed.Keyed.{Keyed}
use Rattle.replay_cast.specs.Keyed.{IsKeyed, AreKeyed, IsSignerOfKey, secret_in}

-- the signer of a key's secret is the key's
pub signer_of_key : (k : Key) (s : AnySigner) → IsSignerOf (secret_in k) s → IsSignerOfKey k s
signer_of_key (Plain key total) s made = record { unused = made.unused; total = made.has_total; public = made.has_key; signs = made.signs }
signer_of_key (Lms code kind id seed) s made = record {
  unused = made.unused;
  total = made.has_total;
  public = made.has_key;
  signs = made.signs;
}
signer_of_key (Hss levels code kind id seed) s made = record {
  unused = made.unused;
  total = made.has_total;
  public = made.has_key;
  signs = made.signs;
}

-- one more
pub keyed_push : (ls : List Listed) (ks : List Keyed) (l : Listed) (k : Keyed) → AreKeyed ls ks → IsKeyed l k
    → AreKeyed (ls ++ l ∷ []) (ks ++ k ∷ [])
keyed_push [] [] l k all one = (one, tt)
keyed_push (x ∷ ls) (y ∷ ks) l k all one = (all.0, keyed_push ls ks l k all.1 one)
keyed_push [] (y ∷ ks) l k all one = absurd all
keyed_push (x ∷ ls) [] l k all one = absurd all

-- the one at a place, behind those before it
pub keyed_more : (ps : List CodeListed) (ks : List Keyed) (i : ℕ) (p : CodeListed) (k : Keyed) → i < length ps → p ≡ get_or ps i p
    → AreKeyed (map views.listed (take i ps)) ks → IsKeyed (views.listed p) k
    → AreKeyed (map views.listed (take (i + 1) ps)) (ks ++ k ∷ [])
keyed_more ps ks i p k low at all one =
    let P : List Listed → Type 0 = λ ls. AreKeyed ls (ks ++ k ∷ []) in
    let more : map views.listed (take (i + 1) ps) ≡ map views.listed (take i ps) ++ views.listed p ∷ [] =
    map_more views.listed ps i p low ∙ ap (λ (x : CodeListed). map views.listed (take i ps) ++ views.listed x ∷ []) (sym at) in
    subst P (sym more) (keyed_push (map views.listed (take i ps)) ks (views.listed p) k all one)

-- its key is of the scheme
pub key_at : (sch : Scheme) (least : ℕ) (ps : List CodeListed) (i : ℕ) (p : CodeListed) → AreListed sch least (map views.listed ps)
    → i < length ps → p ≡ get_or ps i p → IsKey sch (views.key p.key)
key_at sch least [] i p listed low at = absurd (omega arith)
key_at sch least (x ∷ ps) zero p listed low at =
    let P : CodeListed → Type 0 = λ y. IsKey sch (views.key y.key) in subst P (sym at) listed.2
key_at sch least (x ∷ ps) (suc i) p listed low at = key_at sch (x.process + 1) ps i p listed.3 (omega arith) at

-- those before a place are below it
pub rising_before : (keys : List (ℕ × List ℕ)) (i : ℕ) (key : ℕ × List ℕ) → IsRising keys → i < length keys → key ≡ get_or keys i key
    → All (λ k. k.0 < key.0) (take i keys)
rising_before keys i key rising low at = λ j d below.
    let few : j < i = omega (arith, below, length-take-le i keys (omega arith)) in
    let less : (get_or keys j key).0 < (get_or keys i key).0 = rising j i key few low in
    let same : get_or (take i keys) j d ≡ get_or keys j key = get_or-take i keys j d few ∙ get_or_default keys j d key (omega arith) in
    omega (arith, less, ap (λ (k : ℕ × List ℕ). k.0) same, ap (λ (k : ℕ × List ℕ). k.0) at)
