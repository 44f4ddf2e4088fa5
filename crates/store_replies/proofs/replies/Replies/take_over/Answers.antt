use Rattle.std.proofs.Common.{refl}
use Rattle.store_replies.proofs.replies.Replies.take_over.Goals as goal

pub returns : goal.returns
returns c = λ q s is. record { me = is.me; group = is.group; key = is.key; delivered = is.delivered; last = is.last; store = refl }
