-- A host of a kit, as it starts.
use Rattle.std.proofs.Common.{◌≡◌, ℕ, List, [], Option, None, Some, refl, sym, ap, subst, ◌∙◌}
use Rattle.std.specs.Prelude.{◌==◌, find, option_map, IsSomeAnd, IsTrue}
use Rattle.std.specs.Option.{option_map_or, unwrap_or}
use Rattle.byte_defs.specs.Members.{has}
use Rattle.signature_defs.specs.Secrets.{total_of, signature_of}
use Rattle.kit_defs.specs.Kits.{Host, Kit}
use Rattle.journal_defs.specs.declared.Version.{Version}
use Rattle.group_defs.specs.Process.{start}
use Rattle.sig_scheme.specs.declared.any_signer.AnySigner.{AnySigner}
use Rattle.sig_scheme.specs.Signers.{IsSignerOf, used, total, signature}
use Rattle.hosted_core.specs.Cores.{IsCore, me_of, signer_of}
use Rattle.hosted_core.proofs.Cores.{me-so}
use Rattle.hosted_core.specs.declared.hosted.Hosted.{Hosted}
use Rattle.hosted_core.specs.Hosts.{core_of}
use Rattle.node_defs.specs.Casts.{cast_of, host_of, hosted_by, setting_of}
use Rattle.node_hosts.specs.declared.host.Host.{Host as One}
use Rattle.node_hosts.specs.Places.{IsHost, IsHosted, IsPlace}

-- ---- its port

pub port-is : (kit : Kit) (version : Version) (p port : ℕ)
    → option_map (λ (x : ℕ × ℕ). x.1) (find (λ (x : ℕ × ℕ). x.0 == p) kit.ports) ≡ Some port → (cast_of kit version).port p ≡ port
port-is kit version p port e = ap (λ (o : Option ℕ). unwrap_or o 0) e

-- ---- its signer

abbrev signature_by : Option Host → ℕ → List ℕ → List ℕ
signature_by o used body = option_map_or (λ h. signature_of h.secret used body) o []

-- a signer of the cast, before it signs
pub record IsNew (kit : Kit) (version : Version) (p : ℕ) (s : AnySigner) : Type 0 where
  pub unused : used s ≡ 0
  pub total : total s ≡ (cast_of kit version).total p
  pub signs : signature s ≡ (cast_of kit version).signer p

pub new-signer : (kit : Kit) (version : Version) (p : ℕ) (s : AnySigner) → IsSomeAnd (host_of kit p) (λ host. IsSignerOf host.secret s)
    → IsNew kit version p s
new-signer kit version p s is = go (host_of kit p) refl is
  where
    go : (o : Option Host) → host_of kit p ≡ o → IsSomeAnd o (λ host. IsSignerOf host.secret s) → IsNew kit version p s
    go None e made = absurd made
    go (Some h) e made = record {
      unused = made.unused;
      total = made.has_total ∙ sym (ap (λ (o : Option Host). option_map_or (λ g. total_of g.secret) o 0) e);
      signs = made.signs ∙ sym (ap signature_by e);
    }

-- ---- it

pub hosted-so : (kit : Kit) (version : Version) (p limit : ℕ) (s : AnySigner) (h : Hosted AnySigner) → IsNew kit version p s
    → IsCore used (setting_of kit) (start (setting_of kit) p limit) (core_of h) → signer_of (core_of h) ≡ s
    → IsHosted (cast_of kit version) p (start (setting_of kit) p limit) h
hosted-so kit version p limit s h new core same = record {
  core = core;
  number = refl;
  total = ap total same ∙ new.total;
  signs = ap signature same ∙ new.signs;
}

-- and its number is the core's
pub numbered : (kit : Kit) (p limit : ℕ) (h : Hosted AnySigner)
    → IsCore used (setting_of kit) (start (setting_of kit) p limit) (core_of h) → me_of (core_of h) ≡ p
numbered kit p limit h core = sym (me-so used (setting_of kit) (start (setting_of kit) p limit) (core_of h) core)

-- it stands in its place
pub placed : (kit : Kit) (version : Version) (p me limit : ℕ) (h : One) → me ≡ p → IsTrue (has (hosted_by kit) me)
    → IsHost (cast_of kit version) kit me (start (setting_of kit) me limit) h
    → IsPlace (cast_of kit version) kit p (start (setting_of kit) p limit) (Some h)
placed kit version p me limit h same among is =
    subst (λ n. IsPlace (cast_of kit version) kit n (start (setting_of kit) n limit) (Some h)) same (among, is)
