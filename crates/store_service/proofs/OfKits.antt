-- Each host of a kit is found by its number, so the servers begin as those of its hosts; and a line is read as in the kit.
use Rattle.std.proofs.Common.{◌≡◌, inl, inr, ℕ, ◌+◌, ◌≤◌, List, [], ◌∷◌, ◌++◌, map, Bool, true, false, cond, Option, Some, refl, sym, ap, subst, ◌∙◌, arith}
use Rattle.std.specs.Prelude.{◌==◌, find, option_map, IsTrue}
use Rattle.byte_defs.specs.Members.{has}
use Rattle.std.specs.Option.{option_map_or}
use Rattle.std.proofs.lemmas.Bool.{eq-eqb}
use Rattle.signature_defs.specs.Schemes.{Scheme, is_valid}
use Rattle.signature_defs.specs.Secrets.{Secret, scheme_of}
use Rattle.text_defs.specs.Words.{words_of}
use Rattle.kit_defs.specs.Kits.{AreHosts, Host, IsKit, IsSecret, Kit, roster_of}
use Rattle.pool_laws.proofs.Members.{Mem, mem-list_any, mem-map}
use Rattle.node_defs.specs.Casts.{cast_of, host_of, hosted_by}
use Rattle.node_keys.proofs.InKits.{host_is, hosted, secret-is}
use Rattle.node_service.specs.Histories.{Process, Version}
use Rattle.store_defs.specs.Serving.{server_of}
use Rattle.store_defs.specs.Services.{behind_first, line_worded, worded}
use Rattle.store_defs.specs.Words.{word_by}
use Rattle.store_server.specs.Serving.{place_with}
use Rattle.store_service.specs.Service.{Serving, begun, begun_by, begun_of, serving}
use Rattle.store_service.specs.Laws.{LinesAreTheKits, ServersAreTheKits, begun_at}
use Rattle.store_service.proofs.Changes.{differs}

-- the secret that is found of a hosted process is in its ranges
pub secret-in-range : (kit : Kit) (p : ℕ) → IsKit kit → IsTrue (has (hosted_by kit) p) → (s : Secret)
    → (let o : Option Secret = Some s in o) ≡ option_map (λ g. g.secret) (host_of kit p) → IsSecret s
secret-in-range kit p is among s found =
    let h = hosted kit p is among in subst IsSecret (sym (secret-is kit p h s found)) h.is.secret

-- each of the hosts is found by its number
each-found : (scheme : Scheme) (keys : List (ℕ × List ℕ)) (least : ℕ) (hosts : List Host) → AreHosts scheme keys least hosts
    → (h : Host) → Mem h hosts → (least ≤ h.process) × (find (λ g. g.process == h.process) hosts ≡ Some h)
each-found scheme keys least [] are h m = absurd m
each-found scheme keys least (g ∷ hosts) are h (inl e) = (
  subst (λ (x : Host). least ≤ x.process) e are.0,
  subst (λ (x : Host). find (λ f. f.process == x.process) (g ∷ hosts) ≡ Some x) e
      (ap (λ (b : Bool). cond b (Some g) (find (λ f. f.process == g.process) hosts)) (eq-eqb g.process g.process refl)),
)
each-found scheme keys least (g ∷ hosts) are h (inr m) =
    let rest = each-found scheme keys (g.process + 1) hosts are.2 h m in
    let first : least ≤ g.process = are.0 in
    let above : g.process + 1 ≤ h.process = rest.0 in (
      omega (arith, first, above),
      ap (λ (b : Bool). cond b (Some g) (find (λ f. f.process == h.process) hosts))
          (differs g.process h.process (λ e. absurd (omega (arith, above, e)))) ∙ rest.1,
    )

module _ (kit : Kit) (version : Version) (now : ℕ → Process) where
  -- it begins with its secret
  begun-so : (h : Host) → host_of kit h.process ≡ Some h → (now h.process).me ≡ h.process
      → begun_of (cast_of kit version) (now h.process) ≡ begun_by (cast_of kit version) (now h.process) h.secret ∷ []
  begun-so h found me =
      ap (λ (o : Option Host). option_map_or (λ secret. begun_by (cast_of kit version) (now h.process) secret ∷ [])
      (option_map (λ g. g.secret) o) []) (ap (host_of kit) me ∙ found)

  -- of a host, under this number
  abbrev with-number : ℕ → Host → Serving
  with-number me h = record { place = place_with me kit.group h.secret; server = server_of (now h.process) }

  servers-so : (hs : List Host)
      → ((h : Host) → Mem h hs → (host_of kit h.process ≡ Some h) × ((now h.process).me ≡ h.process))
      → begun (cast_of kit version) (map now (map (λ h. h.process) hs)) ≡ map (begun_at kit now) hs
  servers-so [] each = refl
  servers-so (h ∷ hs) each =
      let here = each h (inl refl) in
      ap (λ (xs : List Serving). xs ++ begun (cast_of kit version) (map now (map (λ g. g.process) hs))) (begun-so h here.0 here.1)
      ∙ (λ i. with-number (here.1 i) h ∷ servers-so hs (λ g m. each g (inr m)) i)

  -- what is found of a number
  found-in : (p : ℕ) (hs : List Host) → serving p (map (begun_at kit now) hs) ≡ option_map (begun_at kit now) (find (λ h. h.process == p) hs)
  found-in p [] = refl
  found-in p (h ∷ hs) = go (h.process == p) (found-in p hs)
    where
      go : (b : Bool) → serving p (map (begun_at kit now) hs) ≡ option_map (begun_at kit now) (find (λ g. g.process == p) hs)
          → cond b (Some (begun_at kit now h)) (serving p (map (begun_at kit now) hs))
          ≡ option_map (begun_at kit now) (cond b (Some h) (find (λ g. g.process == p) hs))
      go true rest = refl
      go false rest = rest

pub servers_are_the_kits : ServersAreTheKits
servers_are_the_kits kit version now is named =
    let all = servers-so kit version now kit.hosts (λ h m. (
      (each-found kit.scheme kit.keys 0 kit.hosts is.hosts h m).1,
      named h.process (mem-list_any (λ q. q == h.process) (hosted_by kit) h.process (mem-map (λ (g : Host). g.process) kit.hosts h m)
          (eq-eqb h.process h.process refl)),
    )) in
    record { all = all; each = λ p. ap (serving p) all ∙ found-in kit version now p kit.hosts }

pub lines_are_the_kits : LinesAreTheKits
unfolding line_worded
lines_are_the_kits kit version h q here s line is found =
    let same : scheme_of h.secret ≡ kit.scheme = (host_is kit h.process h is found).0.scheme_is in
    λ i. option_map (worded (is_valid (same i)) q here s) (word_by (same i) (roster_of kit.keys) (behind_first (words_of line)))
