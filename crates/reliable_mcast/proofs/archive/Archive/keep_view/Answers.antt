use Rattle.std.proofs.Common.{◌≡◌, ℕ, false, List, [], ◌∷◌, ◌++◌, Some, ap, ◌∙◌, subst, sym}
use Rattle.std.specs.Option.{option_map}
use Rattle.message_defs.specs.Statements.{Statement, Ready, ReadyAt}
use Rattle.message_defs.specs.Packing.{Signed}
use Rattle.group_defs.specs.Views as views
use Rattle.group_defs.specs.Process.{Pool}
use Rattle.group_defs.specs.Certified.{certificate, certificate_on, value_at}
use Rattle.rp_base.specs.declared.updates.Value.{Value}
use Rattle.rp_base.specs.Views.{value}
use Rattle.pool_laws.proofs.Tests.{some-same}
use Rattle.sent_claims.specs.Kept.{Holding}
use Rattle.sent_claims.specs.Lists.{extended}
use Rattle.sent_claims.specs.Certificates.{all_signed, IsRanged}
use Rattle.reliable_mcast.specs.Archives.{Archived}
use Rattle.sent_claims.proofs.Certified.{commit-is}
use Rattle.sent_claims.proofs.Extended.{extended-all}
use Rattle.reliable_mcast.proofs.Kept.{kept-more}
use Rattle.reliable_mcast.proofs.archive.Archive.keep_view.Goals as goal

abbrev said : (h : Pool) (r : ℕ) (v : Value) → Statement
said h r v = Ready h.view.number r (value v)

-- the list is the commit certificate
whole : (h : Pool) (r x : ℕ) (v : Value) (begun kept : List Signed) → x ≡ h.view.number → begun ≡ []
    → value_at h (ReadyAt h.view.number r) ≡ Some (value v)
    → kept ≡ extended false begun (all_signed (certificate_on h (ReadyAt x r))) → kept ≡ all_signed (certificate h (said h r v))
whole h r x v begun kept number empty certified made =
    made ∙ (λ i. extended false (empty i)
    (all_signed ((ap (λ y. certificate_on h (ReadyAt y r)) number ∙ commit-is h r (value v) certified) i))) ∙ extended-all []
    (all_signed (certificate h (said h r v)))

-- the commit certificates, with this one behind the others
more : (h : Pool) (r x : ℕ) (v : Value) (begun kept : List Signed) (commits commits' : List (List Signed)) → x ≡ h.view.number → begun ≡ []
    → value_at h (ReadyAt h.view.number r) ≡ Some (value v)
    → kept ≡ extended false begun (all_signed (certificate_on h (ReadyAt x r))) → commits' ≡ commits ++ kept ∷ []
    → commits' ≡ commits ++ all_signed (certificate h (said h r v)) ∷ []
more h r x v begun kept commits commits' number empty certified made pushed = pushed ∙ ap (λ (cs : List Signed). commits ++ cs ∷ [])
    (whole h r x v begun kept number empty certified made)

pub returns-clause-commits : goal.returns-clause-commits
returns-clause-commits c =
    let h : Pool = c.args.pool.now.pool in
    let number : c.number-view.result ≡ h.view.number = c.number-view.ensures.value ∙ ap (λ (v : views.View). v.number) c.view.ensures in
    more h c.args.commit.0 c.number-view.result c.args.commit.1 c.new-kept.result c.put_certificate.new.list c.self.inside.commits.items
    c.push.new.self.items number c.new-kept.ensures c.requires.certified c.in_ok-put_certificate.ensures.list c.in_ok-push.ensures.items
    ∙ ap (λ (a : Archived). a.commits ++ all_signed (certificate h (said h c.args.commit.0 c.args.commit.1)) ∷ []) c.self.view_is

pub invariant_of-self-2 : goal.invariant_of-self-2
invariant_of-self-2 c =
    let h : Pool = c.args.pool.now.pool in
    let number : c.number-view.result ≡ h.view.number = c.number-view.ensures.value ∙ ap (λ (v : views.View). v.number) c.view.ensures in
    record {
      ranged = λ g e.
          let left : Some h ≡ Some c.replace-left.result.pool = ap (λ (r : Holding). Some r.pool) (sym c.replace-left.ensures.value) in
          let there = left ∙ ap (option_map (λ (r : Holding). r.pool)) (sym c.replace-pool.ensures.after) ∙ e in
          subst IsRanged (some-same h g there) c.requires.range;
      readable = kept-more c.self.inside.commits.items c.push.new.self.items h
          (said h c.args.commit.0 c.args.commit.1) c.requires.range c.self.invariant.readable
          (more h c.args.commit.0 c.number-view.result c.args.commit.1 c.new-kept.result c.put_certificate.new.list
          c.self.inside.commits.items c.push.new.self.items number c.new-kept.ensures c.requires.certified
          c.in_ok-put_certificate.ensures.list c.in_ok-push.ensures.items);
    }
