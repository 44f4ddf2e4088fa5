-- What a node that begins by a snapshot did to the outside, and what a stop of it leaves.
use Rattle.std.proofs.Common.{◌≡◌, ℕ, ◌+◌, List, [], ◌++◌, Bool, true, false, refl, sym, ap, ◌∙◌, subst, append_assoc}
use Rattle.journal_defs.specs.Entries.{Entry}
use Rattle.journal_defs.specs.Crashes.{IsImageOf}
use Rattle.node_defs.specs.Casts.{Cast, from_start}
use Rattle.node_defs.specs.Nodes.{Node, Answer, Call, Snapper, run}
use Rattle.node_defs.specs.Lives.{Found, with_or_without, leaves}
use Rattle.std.specs.Option.{option_to_list}
use Rattle.node_defs.specs.Snapshots.{snap_line, from_snapshot}
use Rattle.node_traces.specs.Outside.{LinkAnswered, SinkAnswered, SourceAnswered}
use Rattle.node_traces.specs.Service.{Asked, asked_by}
use Rattle.node_traces.specs.Goes.{Outside, Goes}
use Rattle.node_traces.specs.Stops.{LeftBy}
use Rattle.resume_laws.specs.Resuming.{GoesAlikeBy, IsResumed, after_these, begun}
use Rattle.resume_laws.specs.Traces.{DidTheSameBy, ResumesTraceAlike, ResumesTraceAlikeBy, TracesAlikeBy, answers_in}
use Rattle.resume_laws.proofs.Heard.{answers-append, heard-same}
use Rattle.resume_laws.proofs.Resuming.{resumes_as_node, resumes_as_node_by}

module _ (c : Cast) (snap snap' : Snapper) (es : List Entry) (node resumed : Node)
    (alike : (answers : List Answer) → GoesAlikeBy c snap snap' es node resumed answers) where
  same-heard : (most : ℕ) (x y : Outside) (m : Node) (g : Goes c snap' most resumed x m y)
      → answers_in (x.service ++ asked_by c snap node g.answers) ≡ answers_in y.service
  same-heard most x y m g =
      answers-append x.service (asked_by c snap node g.answers)
      ∙ ap (λ (cs : List (Call × Answer)). answers_in x.service ++ cs)
      (sym (heard-same c snap snap' node resumed g.answers (alike g.answers).calls_are))
      ∙ sym (answers-append x.service (asked_by c snap' resumed g.answers))
      ∙ ap (λ (h : List Asked). answers_in h) (sym g.service)

  did-same : (most : ℕ) (x y : Outside) (m : Node) → Goes c snap' most resumed x m y
      → DidTheSameBy c snap es most node x m y
  did-same most x y m g =
      let both = alike g.answers in
      record {
        other = run c snap node g.answers;
        service = x.service ++ asked_by c snap node g.answers;
        same = same-heard most x y m g;
        goes = record {
          answers = g.answers;
          becomes = refl;
          link = subst (λ (cs : List (Call × Answer)). LinkAnswered x.link cs y.link) both.calls_are g.link;
          sink = subst (λ (cs : List (Call × Answer)). SinkAnswered x.sink cs y.sink) both.calls_are g.sink;
          source = subst (λ (cs : List (Call × Answer)). SourceAnswered most x.source cs y.source) both.calls_are g.source;
          service = refl;
        };
        is_resumed = subst (IsResumed c es (run c snap node g.answers)) (sym g.becomes) both.is_resumed;
      }

  -- with the one more, or without it
  read-after : (f : Found) (b : Bool) → with_or_without (after_these es f) b ≡ es ++ with_or_without f b
  read-after f true = append_assoc es f.sure (option_to_list f.more)
  read-after f false = refl

  left-same : (f : Found) (answers : List Answer) (image : List ℕ) → LeftBy c snap' f resumed answers es image
      → LeftBy c snap (after_these es f) node answers [] image
  left-same f answers image l = record {
    front = l.front;
    fronts = l.fronts;
    with_more = l.with_more;
    reads = subst (IsImageOf c.header image) (
        sym (read-after (leaves c f (run c snap' resumed l.front)) l.with_more)
        ∙ ap (λ g. with_or_without g l.with_more) (sym ((alike l.front).leaves_are f))
        ) l.reads;
  }

traces-by : (c : Cast) (snap snap' : Snapper) (es : List Entry) (node resumed : Node)
    → ((answers : List Answer) → GoesAlikeBy c snap snap' es node resumed answers) → TracesAlikeBy c snap snap' es node resumed
traces-by c snap snap' es node resumed alike = record {
  did = did-same c snap snap' es node resumed alike;
  left = left-same c snap snap' es node resumed alike;
}

pub resumes_trace_alike : ResumesTraceAlike
resumes_trace_alike c s lines es fs breaks view fits is = traces-by c (snap_line c (from_start c)) (snap_line c (from_snapshot c s)) es
    (begun c (from_start c) lines (es ++ fs) breaks) (begun c (from_snapshot c s) (lines + 1) fs breaks)
    (λ answers. resumes_as_node c s lines es fs breaks answers view fits is)

pub resumes_trace_alike_by : ResumesTraceAlikeBy
resumes_trace_alike_by c s snap snap' lines es fs breaks snaps view fits is = traces-by c snap snap' es
    (begun c (from_start c) lines (es ++ fs) breaks) (begun c (from_snapshot c s) (lines + 1) fs breaks)
    (λ answers. resumes_as_node_by c s snap snap' lines es fs breaks answers snaps view fits is)
