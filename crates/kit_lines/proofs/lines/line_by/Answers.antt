use Rattle.std.proofs.Common.{sym, ap, ◌∙◌, Option, Some, option_map}
use Rattle.kit_lines.specs.declared.first_words.FirstWord.{FirstWord}
use Rattle.kit_lines.specs.declared.first_words.FirstWord.TheVariants as firsts
use Rattle.kit_lines.specs.LineViews.{line, may}
use Rattle.kit_lines.proofs.FirstWords.{no_words, line_is, no_line}
use Rattle.kit_lines.proofs.lines.line_by.Goals as goal

abbrev reported_word : FirstWord → Option FirstWord
reported_word first = Some first

pub returns-in_err-next : goal.returns-in_err-next
returns-in_err-next c = no_words (may c.args.reported) _ _ c.in_err-next.ensures.steps.0 (ap (option_map line) c.from_residual.ensures)

pub returns-in_err-first_word : goal.returns-in_err-first_word
returns-in_err-first_word c = no_line (may c.args.reported) _ _ _ _ c.in_ok-next.ensures.steps
    (sym c.first_word.ensures ∙ c.in_err-first_word.was) (ap (option_map line) c.from_residual-in_err-first_word.ensures)

pub returns-in-Rampart : goal.returns-in-Rampart
returns-in-Rampart c = line_is (may c.args.reported) _ _ _ firsts.Rampart _ c.in_ok-next.ensures.steps
    (sym c.first_word.ensures ∙ c.in_ok-first_word.was ∙ ap reported_word c.in-Rampart.is) c.version_by.ensures

pub returns-in-Scheme : goal.returns-in-Scheme
returns-in-Scheme c = line_is (may c.args.reported) _ _ _ firsts.Scheme _ c.in_ok-next.ensures.steps
    (sym c.first_word.ensures ∙ c.in_ok-first_word.was ∙ ap reported_word c.in-Scheme.is) c.scheme_by.ensures

pub returns-in-Group : goal.returns-in-Group
returns-in-Group c = line_is (may c.args.reported) _ _ _ firsts.Group _ c.in_ok-next.ensures.steps
    (sym c.first_word.ensures ∙ c.in_ok-first_word.was ∙ ap reported_word c.in-Group.is) c.group_by.ensures

pub returns-in-Key : goal.returns-in-Key
returns-in-Key c = line_is (may c.args.reported) _ _ _ firsts.Key _ c.in_ok-next.ensures.steps
    (sym c.first_word.ensures ∙ c.in_ok-first_word.was ∙ ap reported_word c.in-Key.is) c.key_by.ensures

pub returns-in-Genesis : goal.returns-in-Genesis
returns-in-Genesis c = line_is (may c.args.reported) _ _ _ firsts.Genesis _ c.in_ok-next.ensures.steps
    (sym c.first_word.ensures ∙ c.in_ok-first_word.was ∙ ap reported_word c.in-Genesis.is) c.genesis_by.ensures

pub returns-in-Port : goal.returns-in-Port
returns-in-Port c = line_is (may c.args.reported) _ _ _ firsts.Port _ c.in_ok-next.ensures.steps
    (sym c.first_word.ensures ∙ c.in_ok-first_word.was ∙ ap reported_word c.in-Port.is) c.port_by.ensures

pub returns-in-Host : goal.returns-in-Host
returns-in-Host c = line_is (may c.args.reported) _ _ _ firsts.Host _ c.in_ok-next.ensures.steps
    (sym c.first_word.ensures ∙ c.in_ok-first_word.was ∙ ap reported_word c.in-Host.is) c.host_by.ensures

pub returns-in-Pair : goal.returns-in-Pair
returns-in-Pair c = line_is (may c.args.reported) _ _ _ firsts.Pair _ c.in_ok-next.ensures.steps
    (sym c.first_word.ensures ∙ c.in_ok-first_word.was ∙ ap reported_word c.in-Pair.is) c.pair_by.ensures
