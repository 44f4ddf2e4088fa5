-- A kit in its ranges is read of its spelling.
use Rattle.std.proofs.Common.{◌≡◌, ℕ, ◌+◌, ◌||◌, false, List, [], ◌∷◌, ◌++◌, map, flat_map, is_some, Ok, refl, ap, ◌∙◌, arith}
use Rattle.std.proofs.lemmas.Bool.{or_from}
use Rattle.signature_defs.specs.Schemes.{Scheme}
use Rattle.kit_defs.specs.Kits.{AreHosts, Genesis, Host, IsKit, Kit, host_lines, key_length, key_line, kit_lines, kit_text, port_line, public_lines, version_of}
use Rattle.kit_defs.specs.KitReading.{Draft, Missing, finish, kit_of, lacks_port, lines_at, next_pair}
use Rattle.kit_defs.specs.KitLaws.{SpelledIsRead}
use Rattle.kit_defs.proofs.HostRuns.{hosts_run, no_port}
use Rattle.kit_defs.proofs.Hosts.{next_of_last, none_behind}
use Rattle.kit_defs.proofs.PublicRuns.{genesis_goes, group_goes, keys_run, ports_run, scheme_goes, version_goes}
use Rattle.kit_defs.proofs.Rising.{roster_rises}
use Rattle.kit_defs.proofs.Runs.{Run, parts_spelled, passes, run_append, run_reads}
use Rattle.kit_defs.proofs.Stages.{Start, Versioned, Schemed, Keyed, Listed, draft_of}

-- where all pair lines of the last host stand, none comes next
none_left : (scheme : Scheme) (keys : List (ℕ × List ℕ)) (least : ℕ) (hosts : List Host) → AreHosts scheme keys least hosts
    → is_some (next_of_last keys hosts) ≡ false
none_left scheme keys least [] are = refl
none_left scheme keys least (h ∷ []) are = none_behind keys h are.1.shared_with
none_left scheme keys least (h ∷ g ∷ hosts) are = none_left scheme keys (h.process + 1) (g ∷ hosts) are.2

module _ (scheme : Scheme) (group : List ℕ) (keys : List (ℕ × List ℕ)) (first : ℕ) (others : List ℕ) (ports : List (ℕ × ℕ))
    (hosts : List Host) where
  abbrev kit : Kit
  kit = record { scheme = scheme; group = group; keys = keys; genesis = first ∷ others; ports = ports; hosts = hosts }

  abbrev end : Draft
  end = draft_of (Listed scheme group keys first others ports hosts)

  kit_run : IsKit kit → Run (draft_of Start) (kit_lines kit) end
  kit_run h =
      let listed : Draft = draft_of (Listed scheme group keys first others [] []) in
      let ported : Draft = draft_of (Listed scheme group keys first others ports []) in
      let last : Run listed (map port_line ports) ported = ports_run scheme group keys first others h.keys [] ports h.ported
      (roster_rises (key_length scheme) 0 keys h.keys) h.ports in
      let from_genesis : Run (draft_of (Keyed scheme group keys))
      (Genesis (first ∷ others) ∷ map port_line ports) ported = (
        listed,
        genesis_goes scheme group keys first others h.keys h.most h.listed h.distinct,
        last,
      ) in
      let from_keys : Run (draft_of (Keyed scheme group [])) (map key_line keys ++ Genesis (first ∷ others) ∷ map port_line ports) ported =
      run_append (draft_of (Keyed scheme group [])) (draft_of (Keyed scheme group keys)) ported (map key_line keys)
      (Genesis (first ∷ others) ∷ map port_line ports) (keys_run scheme group [] 0 keys h.keys tt) from_genesis in
      let public : Run (draft_of Start) (public_lines kit) ported = (
        draft_of (Versioned (version_of scheme)),
        version_goes scheme group,
        (
          draft_of (Schemed scheme),
          scheme_goes scheme group,
          (draft_of (Keyed scheme group []), group_goes scheme group h.group, from_keys),
        ),
      ) in
      run_append (draft_of Start) ported end (public_lines kit)
      (flat_map host_lines hosts) public (hosts_run scheme group keys first others ports h.keys h.ported [] 0 hosts h.hosts tt refl)

  ends : IsKit kit → (n : ℕ) → finish n end ≡ Ok kit
  unfolding finish
  ends h n = passes (lacks_port end || is_some (next_pair end))
      (Missing n) _ (or_from (lacks_port end) (is_some (next_pair end)) (no_port scheme group keys first others ports h.keys h.ported hosts)
      (none_left scheme keys 0 hosts h.hosts))

  kit_spelled : IsKit kit → kit_of (kit_text kit) ≡ Ok kit
  unfolding kit_of
  kit_spelled h = ap (lines_at 1 (draft_of Start))
      (parts_spelled (draft_of Start) end (kit_lines kit) (kit_run h)) ∙ run_reads 1 (draft_of Start) end (kit_lines kit) kit (kit_run h)
      (ends h)

-- by its genesis, which is not empty
by_genesis : (scheme : Scheme) (group : List ℕ) (keys : List (ℕ × List ℕ)) (genesis : List ℕ) (ports : List (ℕ × ℕ)) (hosts : List Host)
    → (let whole : Kit = record {
      scheme = scheme;
      group = group;
      keys = keys;
      genesis = genesis;
      ports = ports;
      hosts = hosts;
    } in IsKit whole → kit_of (kit_text whole) ≡ Ok whole)
by_genesis scheme group keys [] ports hosts h = absurd (omega (arith, h.some))
by_genesis scheme group keys (first ∷ others) ports hosts h = kit_spelled scheme group keys first others ports hosts h

pub spelled_is_read : SpelledIsRead
spelled_is_read kit h = by_genesis kit.scheme kit.group kit.keys kit.genesis kit.ports kit.hosts h
