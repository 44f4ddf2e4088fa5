use Rattle.std.proofs.Common.{◌≡◌, ℕ, ◌+◌, ◌<◌, List, [], ◌∷◌, ◌++◌, take, drop, get_or, set, sym, ap, ◌∙◌, subst, arith}
use Rattle.std.proofs.lemmas.List.{get_or-replicate, length-replicate, take_all}
use Rattle.group_defs.specs.Process.{Letter, letter_of}
use Rattle.safety_laws.proofs.SoundTested.{InOrder, there-order}
use Rattle.accounts.specs.Views.{delivery}
use Rattle.group_questions.specs.Letters.{letters}
use Rattle.sound_question.proofs.Counted.{IsCounted, counts-on, none-counted, out-of-order}
use Rattle.sound_question.proofs.Lists.{letters-append, one-more, split-at}
use Rattle.sound_question.proofs.order.is_in_order.Goals as goal

pub loop-d-init : goal.loop-d-init
loop-d-init c = none-counted _ (length-replicate {A = ℕ} 64 0) (λ sender lt. get_or-replicate {A = ℕ} 64 sender 0 0 lt)

pub returns-then-counts-sender : goal.returns-then-counts-sender
returns-then-counts-sender c =
    let ds = c.args.sequence.now in
    let i = c.loop-d.d-index in
    let d = c.d-item.result in
    let sender : c.from-sender.result ≡ d.sender = c.from-sender.ensures ∙ c.get.ensures.value in
    let below : d.sender < 64 = (let lt = c.get.ensures.below in let is = c.get.ensures.value in omega (arith, lt, is)) in
    out-of-order (letters ds) (letters (take i ds)) (letter_of (delivery d)) (letters (drop (i + 1) ds))
    (ap letters (split-at ds i d c.loop-d-test.true c.d-item.is) ∙ letters-append (take i ds) (d ∷ drop (i + 1) ds))
    (λ e. c.if-counts-sender.true (ap
    (λ (s : ℕ). get_or c.loop-d.counts s 0) sender ∙ c.loop-d.invariant.counts_are d.sender below ∙ sym e ∙ sym
    c.number_of.ensures.value))

pub overflow_add-counts : goal.overflow_add-counts
overflow_add-counts c = let is = c.if-counts-sender.false in let lt = c.number_of.ensures.below in omega (arith, is, lt)

pub loop-d-preserved : goal.loop-d-preserved
loop-d-preserved c =
    let ds = c.args.sequence.now in
    let i = c.loop-d.d-index in
    let d = c.d-item.result in
    let counts = c.loop-d.counts in
    let sender : c.from-sender.result ≡ d.sender = c.from-sender.ensures ∙ c.get.ensures.value in
    let below : d.sender < 64 = (let lt = c.get.ensures.below in let is = c.get.ensures.value in omega (arith, lt, is)) in
    let number : get_or counts d.sender 0
    ≡ d.number = ap (λ (s : ℕ). get_or counts s 0) (sym sender) ∙ c.if-counts-sender.false ∙ c.number_of.ensures.value in
    let seen : letters (take (i + 1) ds) ≡ letters (take i ds)
    ++ letter_of (delivery d) ∷ [] = ap letters (one-more ds i d c.loop-d-test.true c.d-item.is) ∙ letters-append (take i ds) (d ∷ []) in
    subst (λ (s : ℕ). IsCounted (set counts s (get_or counts s 0 + 1)) (letters (take (i + 1) ds))) (sym sender)
    (subst (λ (ls : List Letter). IsCounted (set counts d.sender (get_or counts d.sender 0 + 1)) ls) (sym seen)
    (counts-on counts (letters (take i ds)) (letter_of (delivery d))
    (get_or counts d.sender 0 + 1) below c.loop-d.invariant number (ap (λ (k : ℕ). k + 1) number)))

pub returns : goal.returns
returns c =
    let ds = c.args.sequence.now in
    sym (there-order (letters ds) (subst (λ (es : List _). InOrder (letters es))
    (take_all c.loop-d.d-index ds (omega arith)) c.loop-d.invariant.order))
