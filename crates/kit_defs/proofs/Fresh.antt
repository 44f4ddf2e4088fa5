-- Words that do not begin as a line that stands.
use Rattle.std.proofs.Common.{◌≡◌, ℕ, ◌&&◌, ◌||◌, Bool, false, List, [], ◌∷◌, is_some, codes}
use Rattle.std.specs.List.{list_any}
use Rattle.std.specs.Fmt.{decimal}
use Rattle.std.proofs.lemmas.Bool.{or_from, or_parts}
use Rattle.text_defs.specs.Words.{begin_with}
use Rattle.kit_defs.specs.KitReading.{Draft, has_genesis, host_stands, is_repeated}

pub record IsFresh (d : Draft) (words : List (List ℕ)) : Type 0 where
  pub version : (is_some d.version && begin_with (codes "rampart" ∷ []) words) ≡ false
  pub scheme : (is_some d.scheme && begin_with (codes "scheme" ∷ []) words) ≡ false
  pub group : (is_some d.group && begin_with (codes "group" ∷ []) words) ≡ false
  pub keys : list_any (λ k. begin_with (codes "key" ∷ decimal k.0 ∷ []) words) d.keys ≡ false
  pub genesis : (has_genesis d && begin_with (codes "genesis" ∷ []) words) ≡ false
  pub ports : list_any (λ p. begin_with (codes "port" ∷ decimal p.0 ∷ []) words) d.ports ≡ false
  pub hosts : list_any (host_stands words) d.hosts ≡ false

module _ (d : Draft) (words : List (List ℕ)) where
  abbrev v : Bool
  v = is_some d.version && begin_with (codes "rampart" ∷ []) words

  abbrev s : Bool
  s = is_some d.scheme && begin_with (codes "scheme" ∷ []) words

  abbrev g : Bool
  g = is_some d.group && begin_with (codes "group" ∷ []) words

  abbrev k : Bool
  k = list_any (λ k. begin_with (codes "key" ∷ decimal k.0 ∷ []) words) d.keys

  abbrev m : Bool
  m = has_genesis d && begin_with (codes "genesis" ∷ []) words

  abbrev p : Bool
  p = list_any (λ p. begin_with (codes "port" ∷ decimal p.0 ∷ []) words) d.ports

  abbrev h : Bool
  h = list_any (host_stands words) d.hosts

  pub fresh_found : is_repeated d words ≡ false → IsFresh d words
  unfolding is_repeated
  fresh_found e =
      let a = or_parts v (s || (g || (k || (m || (p || h))))) e in
      let b = or_parts s (g || (k || (m || (p || h)))) a.1 in
      let c = or_parts g (k || (m || (p || h))) b.1 in
      let i = or_parts k (m || (p || h)) c.1 in
      let j = or_parts m (p || h) i.1 in
      let l = or_parts p h j.1 in
      record { version = a.0; scheme = b.0; group = c.0; keys = i.0; genesis = j.0; ports = l.0; hosts = l.1 }

  pub fresh : IsFresh d words → is_repeated d words ≡ false
  unfolding is_repeated
  fresh f = or_from v _ f.version
      (or_from s _ f.scheme (or_from g _ f.group (or_from k _ f.keys (or_from m _ f.genesis (or_from p h f.ports f.hosts)))))
