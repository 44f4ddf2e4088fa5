use Rattle.store_replies.proofs.replies.Replies.new.Goals as goal

pub returns : goal.returns
returns c = λ q s is_me is_group is_key is_count is_last is_store.
    record { me = is_me; group = is_group; key = is_key; delivered = is_count; last = is_last; store = is_store }
