use Rattle.std.proofs.Common.{◌≡◌, refl, sym, ◌∙◌, None, rules}
use Rattle.std.specs.Prelude.{if◌then◌else◌}
use Rattle.store_replies.proofs.replies.Replies.begin_view.Goals as goal

pub returns : goal.returns
returns c = λ q s v is stays.
    let taken : c.args.self.now.store ≡ c.take.result = search rules in
    record {
      me = is.me;
      group = is.group;
      key = is.key;
      delivered = is.delivered;
      last = refl;
      store = (λ i. if stays i then is.store i else None) ∙ (λ i. if c.args.stays then taken i else None) ∙ sym c.kept_if.ensures;
    }
