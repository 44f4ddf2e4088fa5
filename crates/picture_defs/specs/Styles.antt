-- The colours of a picture, on white and on dark, and the heads of its arrows.
use Rattle.std.specs.Prelude.{ℕ, List, [], ◌∷◌, codes}
use Rattle.picture_defs.specs.Elements.{text_of}

-- the colours; where the reader has a dark screen, those after `dark` hold instead. A text has the paper's colour around its letters, so that
-- an arrow breaks where it meets one.
unfoldable pub style : List ℕ
style =
    text_of (
    codes "<style>\n" ∷
    codes ".paper { fill: #ffffff; }\n" ∷
    codes "text { font: 11px 'DejaVu Sans', Verdana, sans-serif; fill: #1f2328; }\n" ∷
    codes "text { paint-order: stroke; stroke: #ffffff; stroke-width: 6px; stroke-linejoin: round; }\n" ∷
    codes ".title { font-size: 14px; font-weight: bold; }\n" ∷
    codes ".bad { fill: #b04a4a; }\n" ∷
    codes ".said, .event { fill: #59636e; }\n" ∷
    codes ".got { fill: #1f6f38; font-weight: bold; }\n" ∷
    codes ".view { fill: #2f5f94; font-weight: bold; }\n" ∷
    codes ".sent { stroke: #8c959f; marker-end: url(#head); }\n" ∷
    codes ".lie { stroke: #b04a4a; stroke-width: 1.3; stroke-dasharray: 5 3; marker-end: url(#lying); }\n" ∷
    codes ".lost { stroke: #b07a1e; stroke-dasharray: 2 3; }\n" ∷
    codes ".gone { fill: none; stroke: #b07a1e; stroke-width: 1.2; }\n" ∷
    codes ".liar { stroke: #b04a4a; stroke-dasharray: 2 4; }\n" ∷
    codes ".rule { stroke: #d8dee4; }\n" ∷
    codes ".step { fill: #59636e; }\n" ∷
    codes ".asked { fill: #4a78a8; }\n" ∷
    codes ".delivered { fill: #3f8a55; }\n" ∷
    codes ".wrong, .lying { fill: #b04a4a; }\n" ∷
    codes ".head { fill: #8c959f; }\n" ∷
    codes ".view0 { fill: #b6cde6; }\n" ∷
    codes ".view1 { fill: #bfe0c6; }\n" ∷
    codes ".view2 { fill: #f0d9ab; }\n" ∷
    codes ".view3 { fill: #d9c7ec; }\n" ∷
    codes "@media (prefers-color-scheme: dark) {\n" ∷
    codes ".paper { fill: #0d1117; }\n" ∷
    codes "text { fill: #e6edf3; stroke: #0d1117; }\n" ∷
    codes ".bad { fill: #ff8f8f; }\n" ∷
    codes ".said, .event { fill: #9198a1; }\n" ∷
    codes ".got { fill: #7ad396; }\n" ∷
    codes ".view { fill: #8fbdf0; }\n" ∷
    codes ".sent { stroke: #6e7681; }\n" ∷
    codes ".lie, .liar { stroke: #e07a7a; }\n" ∷
    codes ".rule { stroke: #30363d; }\n" ∷
    codes ".step { fill: #9198a1; }\n" ∷
    codes ".view0 { fill: #24415f; }\n" ∷
    codes ".view1 { fill: #1f4a2c; }\n" ∷
    codes ".view2 { fill: #55411a; }\n" ∷
    codes ".view3 { fill: #43305a; }\n" ∷
    codes "}\n" ∷
    codes "</style>\n" ∷
    [])

-- the heads of the arrows of frames and of lies, and the paper under all
unfoldable pub heads : List ℕ
heads =
    text_of (
    codes "<defs>\n" ∷
    codes "<marker id='head' viewBox='0 0 10 10' refX='10' refY='5' markerWidth='7' markerHeight='7' orient='auto'>\n" ∷
    codes "<path class='head' d='M0 1 L10 5 L0 9 z'/></marker>\n" ∷
    codes "<marker id='lying' viewBox='0 0 10 10' refX='10' refY='5' markerWidth='7' markerHeight='7' orient='auto'>\n" ∷
    codes "<path class='lying' d='M0 1 L10 5 L0 9 z'/></marker>\n" ∷
    codes "</defs>\n" ∷
    codes "<rect class='paper' width='100%' height='100%'/>\n" ∷
    [])
