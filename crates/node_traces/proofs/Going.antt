-- Parts of a run, joined.
use Rattle.std.proofs.Common.{◌≡◌, List, [], ◌∷◌, ◌++◌, refl, sym, ap, subst, ◌∙◌}
use Rattle.std.proofs.lemmas.List.{append-nil}
use Rattle.node_defs.specs.Nodes.{Node, call_of, run, calls}
use Rattle.node_traces.specs.Ways.{Through}
use Rattle.node_traces.specs.Outside.{LinkAnswered, SinkAnswered, SourceAnswered}
use Rattle.node_traces.specs.Service.{Asked, asking, asked_by}
use Rattle.node_traces.specs.Goes.{PartsGoOn, NothingGoes, OneAnswerGoes}
use Rattle.node_traces.proofs.Joined.{each_goes_on, done_in_a_row}
use Rattle.node_traces.proofs.Service.{asked-in-a-row, heard-on}

unfoldable pub parts_go_on : PartsGoOn
parts_go_on c snap most n m k x y z first more =
    let whole = each_goes_on c snap n first.answers more.answers in
    let ran : m ≡ run c snap n first.answers = first.becomes in
    let cs = calls c snap n first.answers in
    let are : cs ++ calls c snap m more.answers ≡ calls c snap n (first.answers ++ more.answers)
    = ap (λ (w : Node). cs ++ calls c snap w more.answers) ran ∙ sym whole.calls_are in
    record {
      answers = first.answers ++ more.answers;
      becomes = more.becomes ∙ ap (λ (w : Node). run c snap w more.answers) ran ∙ sym whole.run_is;
      link = subst (λ ds. LinkAnswered x.link ds z.link) are (done_in_a_row.link x.link y.link z.link cs _ first.link more.link);
      sink = subst (λ ds. SinkAnswered x.sink ds z.sink) are (done_in_a_row.sink x.sink y.sink z.sink cs _ first.sink more.sink);
      source = subst (λ ds. SourceAnswered most x.source ds z.source) are
          (done_in_a_row.source most x.source y.source z.source cs _ first.source more.source);
      service = heard-on x.service y.service z.service (asked_by c snap n first.answers) (asked_by c snap m more.answers) first.service more.service
          ∙ ap (λ (w : Node). x.service ++ (asked_by c snap n first.answers ++ asked_by c snap w more.answers)) ran
          ∙ ap (λ (h : List Asked). x.service ++ h) (sym (asked-in-a-row c snap n first.answers more.answers));
    }

pub nothing_goes : NothingGoes
unfolding run calls Through asked_by
nothing_goes c snap most n x = record {
  answers = [];
  becomes = refl;
  link = refl;
  sink = refl;
  source = refl;
  service = sym (append-nil x.service);
}

pub one_answer_goes : OneAnswerGoes
unfolding run calls Through asked_by
one_answer_goes c snap most n a x y does = record {
  answers = a ∷ [];
  becomes = refl;
  link = (y.link, does.link, refl);
  sink = (y.sink, does.sink, refl);
  source = (y.source, does.source, refl);
  service = does.service ∙ ap (λ (h : List Asked). x.service ++ h) (sym (append-nil (asking c n.now (call_of c n) a)));
}
