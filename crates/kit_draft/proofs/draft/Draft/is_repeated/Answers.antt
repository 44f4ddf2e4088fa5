use Rattle.std.proofs.Common.{◌≡◌, Option, Some, is_some, sym, ap, subst, ◌∙◌}
use Rattle.sig_scheme.specs.Views.{scheme}
use Rattle.kit_lines.specs.LineViews.{version}
use Rattle.text_codec.specs.Views.{parts_left}
use Rattle.kit_defs.specs.KitReading.{Draft, is_repeated}
use Rattle.kit_lines.specs.declared.first_words.FirstWord.{FirstWord}
use Rattle.kit_lines.specs.declared.first_words.FirstWord.TheVariants as firsts
use Rattle.kit_lines.specs.FirstWords.{first_word_of}
use Rattle.kit_draft.specs.Drafts.{IsDraft}
use Rattle.kit_draft.proofs.Repeats.{no_words, not_again, again, key_stands, port_stands, host_stands_there, pair_stands, is_reported}
use Rattle.kit_draft.proofs.draft.Draft.is_repeated.Goals as goal

abbrev reported_word : FirstWord → Option FirstWord
reported_word first = Some first

pub returns-in_default : goal.returns-in_default
returns-in_default c = sym (ap (is_repeated c.args.self.now) c.in_default.ensures.steps.0 ∙ no_words c.args.self.now)

pub returns-in-None : goal.returns-in-None
returns-in-None c = sym (not_again c.args.self.now (parts_left c.args.words) c.in-Some.word.now
    (parts_left c.next.new.self) c.in-Some.ensures.steps (sym c.first_word.ensures ∙ c.in-None.is))

pub returns-in-Some-Rampart : goal.returns-in-Some-Rampart
returns-in-Some-Rampart c =
    let first : first_word_of c.in-Some.word.now
    ≡ Some firsts.Rampart = sym c.first_word.ensures ∙ c.in-Some-Rampart.is ∙ ap reported_word c.in-Some-Rampart.field-0-is in
    c.is_some.ensures ∙ sym (is_reported version c.self.inside.version) ∙ ap (λ (d : Draft). is_some d.version) c.self.view_is
    ∙ sym (again c.args.self.now (parts_left c.args.words) c.in-Some.word.now
    (parts_left c.next.new.self) c.in-Some.ensures.steps firsts.Rampart first)

pub returns-in-Some-Scheme : goal.returns-in-Some-Scheme
returns-in-Some-Scheme c =
    let first : first_word_of c.in-Some.word.now
    ≡ Some firsts.Scheme = sym c.first_word.ensures ∙ c.in-Some-Scheme.is ∙ ap reported_word c.in-Some-Scheme.field-0-is in
    c.is_some-in-Some-Scheme.ensures ∙ sym (is_reported scheme c.self.inside.scheme) ∙ ap (λ (d : Draft). is_some d.scheme) c.self.view_is
    ∙ sym (again c.args.self.now (parts_left c.args.words) c.in-Some.word.now
    (parts_left c.next.new.self) c.in-Some.ensures.steps firsts.Scheme first)

pub returns-in-Some-Group : goal.returns-in-Some-Group
returns-in-Some-Group c =
    let first : first_word_of c.in-Some.word.now
    ≡ Some firsts.Group = sym c.first_word.ensures ∙ c.in-Some-Group.is ∙ ap reported_word c.in-Some-Group.field-0-is in
    c.is_some-in-Some-Group.ensures ∙ ap (λ (d : Draft). is_some d.group) c.self.view_is
    ∙ sym (again c.args.self.now (parts_left c.args.words) c.in-Some.word.now
    (parts_left c.next.new.self) c.in-Some.ensures.steps firsts.Group first)

pub returns-in-Some-Key : goal.returns-in-Some-Key
returns-in-Some-Key c =
    let first : first_word_of c.in-Some.word.now
    ≡ Some firsts.Key = sym c.first_word.ensures ∙ c.in-Some-Key.is ∙ ap reported_word c.in-Some-Key.field-0-is in
    c.is_key_again.ensures ∙ sym (key_stands c.args.self.now (subst IsDraft c.self.view_is c.self.invariant) (parts_left c.next.new.self))
    ∙ sym (again c.args.self.now (parts_left c.args.words) c.in-Some.word.now
    (parts_left c.next.new.self) c.in-Some.ensures.steps firsts.Key first)

pub returns-in-Some-Genesis : goal.returns-in-Some-Genesis
returns-in-Some-Genesis c =
    let first : first_word_of c.in-Some.word.now
    ≡ Some firsts.Genesis = sym c.first_word.ensures ∙ c.in-Some-Genesis.is ∙ ap reported_word c.in-Some-Genesis.field-0-is in
    c.has_genesis.ensures
    ∙ sym (again c.args.self.now (parts_left c.args.words) c.in-Some.word.now
    (parts_left c.next.new.self) c.in-Some.ensures.steps firsts.Genesis first)

pub returns-in-Some-Port : goal.returns-in-Some-Port
returns-in-Some-Port c =
    let first : first_word_of c.in-Some.word.now
    ≡ Some firsts.Port = sym c.first_word.ensures ∙ c.in-Some-Port.is ∙ ap reported_word c.in-Some-Port.field-0-is in
    c.is_port_again.ensures ∙ sym (port_stands c.args.self.now (subst IsDraft c.self.view_is c.self.invariant) (parts_left c.next.new.self))
    ∙ sym (again c.args.self.now (parts_left c.args.words) c.in-Some.word.now
    (parts_left c.next.new.self) c.in-Some.ensures.steps firsts.Port first)

pub returns-in-Some-Host : goal.returns-in-Some-Host
returns-in-Some-Host c =
    let first : first_word_of c.in-Some.word.now
    ≡ Some firsts.Host = sym c.first_word.ensures ∙ c.in-Some-Host.is ∙ ap reported_word c.in-Some-Host.field-0-is in
    c.is_host_again.ensures ∙ sym (host_stands_there c.args.self.now (subst IsDraft c.self.view_is c.self.invariant)
    (parts_left c.next.new.self))
    ∙ sym (again c.args.self.now (parts_left c.args.words) c.in-Some.word.now
    (parts_left c.next.new.self) c.in-Some.ensures.steps firsts.Host first)

pub returns-in-Some-Pair : goal.returns-in-Some-Pair
returns-in-Some-Pair c =
    let first : first_word_of c.in-Some.word.now
    ≡ Some firsts.Pair = sym c.first_word.ensures ∙ c.in-Some-Pair.is ∙ ap reported_word c.in-Some-Pair.field-0-is in
    c.is_pair_again.ensures ∙ sym (pair_stands c.args.self.now (subst IsDraft c.self.view_is c.self.invariant) (parts_left c.next.new.self))
    ∙ sym (again c.args.self.now (parts_left c.args.words) c.in-Some.word.now
    (parts_left c.next.new.self) c.in-Some.ensures.steps firsts.Pair first)
