-- Where all that was handed over of the listed processes is their own word, none of them is reported as convicted.
use Rattle.std.proofs.Common.{◌≡◌, ℕ, List, map, true, ap, subst}
use Rattle.std.specs.Prelude.{All, Contains, Ok}
use Rattle.std.specs.List.Sorted.{IsStrictlyIncreasing}
use Rattle.group_defs.specs.Family.{honest}
use Rattle.kit_defs.specs.Kits.{Kit}
use Rattle.pool_laws.proofs.Members.{Mem, map-mem, mem-All, mem-Contains, mem-map}
use Rattle.safety_laws.proofs.Tested.{honest_is_tested}
use Rattle.conviction_defs.specs.Convictions.{Conviction, convicted, convictions}
use Rattle.conviction_laws.proofs.Convicted.{each_has_conviction}
use Rattle.audit_defs.specs.Audits.{Audited, audited}
use Rattle.audit_defs.specs.Findings.{Reported, findings_of, reported_of}
use Rattle.audit_laws.proofs.Spared.{none_listed_is_convicted}

pub none-reported : (kit : Kit) (listed : List ℕ) (journals : List (List ℕ)) (a : Audited) → IsStrictlyIncreasing listed
    → audited kit listed journals ≡ Ok a → honest a.family ≡ true
    → All (λ (t : Reported). ¬ Contains listed t.process) (findings_of a).convicted
none-reported kit listed journals a rising is honest' =
    let all = convictions a.family.setting a.claims in
    mem-All (λ (t : Reported). ¬ Contains listed t.process) (map reported_of all) (λ t m there.
    let c = map-mem reported_of all t m in
    none_listed_is_convicted kit listed journals a rising is ((honest_is_tested a.family).0 honest') t.process there
    (mem-Contains (convicted a.family.setting a.claims) t.process
    (subst (Mem t.process) (each_has_conviction a.family.setting a.claims)
    (subst (λ n. Mem n (map (λ (d : Conviction). d.process) all)) (ap (λ (t : Reported). t.process) c.2)
    (mem-map (λ (d : Conviction). d.process) all c.0 c.1)))))
