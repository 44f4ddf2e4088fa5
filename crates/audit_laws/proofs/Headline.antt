-- Findings that are honest and bounded agree and are sound.
use Rattle.std.proofs.Common.{◌≡◌, ℕ, List, true, refl, sym, subst}
use Rattle.std.specs.List.Sorted.{IsStrictlyIncreasing}
use Rattle.group_defs.specs.Process.{Setting, keyed}
use Rattle.group_defs.specs.Views.{IsView}
use Rattle.group_defs.specs.Accounts.{bounded}
use Rattle.group_defs.specs.Family.{ends, accounts, numbers, honest}
use Rattle.group_defs.specs.Laws.{Premises}
use Rattle.kit_defs.specs.Kits.{Kit, IsKit}
use Rattle.safety_laws.proofs.Tested.{bounded_is_tested, honest_is_tested}
use Rattle.safety_laws.proofs.AgreeTested.{accounts_have_lists, agree_is_tested}
use Rattle.safety_laws.proofs.SoundTested.{sound_is_tested}
use Rattle.safety_laws.proofs.AllAgree.{agreement}
use Rattle.safety_laws.proofs.OwnPayloads.{cause_and_order}
use Rattle.audit_defs.specs.Players.{setting_of}
use Rattle.audit_defs.specs.Audits.{Audited}
use Rattle.audit_defs.specs.Laws.{IsOfListed, FindingsHeadline}
use Rattle.audit_laws.proofs.OfListed.{audit_is_of_listed}

genesis-is : (kit : Kit) → IsKit kit → IsView (setting_of kit).genesis
genesis-is kit k = record { some = k.some; few = k.most; distinct = k.distinct }

pub premises : (kit : Kit) (listed : List ℕ) (a : Audited) → IsKit kit → IsStrictlyIncreasing listed → IsOfListed kit listed a
    → honest a.family ≡ true → bounded (accounts a.family) (numbers a.family) ≡ true → Premises a.family
premises kit listed a k rising o is_honest is_bounded = record {
  genesis = subst (λ (s : Setting). IsView s.genesis) (sym o.setting) (genesis-is kit k);
  first = subst (λ (s : Setting). s.genesis.number ≡ 0) (sym o.setting) refl;
  rising = subst IsStrictlyIncreasing (sym o.listed_are) rising;
  honest = (honest_is_tested a.family).0 is_honest;
  bounded = (bounded_is_tested (accounts a.family) (numbers a.family)).0 is_bounded;
}

pub findings_headline : FindingsHeadline
findings_headline kit listed journals a k rising e =
    let o = audit_is_of_listed kit listed journals a e in
    record {
      agree = λ h b. (agree_is_tested (accounts a.family) (accounts_have_lists (ends a.family))).1
          (agreement a.family (premises kit listed a k rising o h b));
      sound = λ h b. (sound_is_tested (accounts a.family) (keyed a.family.setting) (accounts_have_lists (ends a.family))).1
          (cause_and_order a.family (premises kit listed a k rising o h b));
    }
