use Rattle.std.proofs.Common.{◌++◌, map, ap, ◌∙◌}
use Rattle.std.proofs.lemmas.Result.{on_ok_weaker}
use Rattle.text_defs.specs.Words.{line_text}
use Rattle.kit_defs.specs.Kits.{Genesis, Kit, line_words, port_line, public_lines, text_of_lines}
use Rattle.kit_file.specs.Views.{kit}
use Rattle.kit_file.proofs.Texts.{public_text}
use Rattle.kit_file.proofs.writing.push_public.Goals as goal

pub returns : goal.returns
returns c =
    let inside = c.parts.inside in
    let whole : Kit = kit inside.scheme inside.group inside.roster inside.genesis.items inside.ports.items inside.hosts.items in
    on_ok_weaker c.push_ports.result
    (λ e. public_text whole c.args.out.now.items c.push_head.new.out.items c.push_keys.new.out.items c.push_genesis.new.out.items
    c.push_ports.new.out.items
    c.in_ok-push_head.ensures c.in_ok-push_keys.ensures
    (c.in_ok-push_genesis.ensures ∙ ap (λ ms. c.push_keys.new.out.items ++ line_text (line_words (Genesis ms))) c.deref.ensures.0)
    (e ∙ ap (λ ps. c.push_genesis.new.out.items ++ text_of_lines (map port_line ps)) c.deref-2.ensures.value)
    ∙ ap (λ k. c.args.out.now.items ++ text_of_lines (public_lines k)) c.parts.view_is)
    c.push_ports.ensures
