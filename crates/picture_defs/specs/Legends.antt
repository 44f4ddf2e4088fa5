-- What each thing that is drawn means.
use Rattle.std.specs.Prelude.{ℕ, ◌+◌, List, [], ◌∷◌, ◌++◌, codes}
use Rattle.std.specs.Fmt.{decimal}
use Rattle.picture_defs.specs.Elements.{text_of}
use Rattle.picture_defs.specs.Layout.{row}

-- of each thing a sample, and words beside it
unfoldable pub samples : List ℕ
samples =
    text_of (
    codes "<rect class='view0' x='11' y='1' width='8' height='14'/>\n" ∷
    codes "<text class='said' x='36' y='12'>correct, in a view</text>\n" ∷
    codes "<line class='liar' x1='15' y1='16' x2='15' y2='30'/>\n" ∷
    codes "<text class='said' x='36' y='27'>corrupt</text>\n" ∷
    codes "<line class='sent' x1='0' y1='38' x2='30' y2='38'/>\n" ∷
    codes "<text class='said' x='36' y='42'>a frame that arrives</text>\n" ∷
    codes "<line class='lie' x1='0' y1='53' x2='30' y2='53'/>\n" ∷
    codes "<text class='said' x='36' y='57'>a liar's frame</text>\n" ∷
    codes "<line class='lost' x1='0' y1='68' x2='27' y2='68'/>\n" ∷
    codes "<circle class='gone' cx='27' cy='68' r='3'/>\n" ∷
    codes "<text class='said' x='36' y='72'>a frame that is lost</text>\n" ∷
    codes "<circle class='step' cx='15' cy='83' r='2'/>\n" ∷
    codes "<text class='said' x='36' y='87'>a frame is taken</text>\n" ∷
    codes "<circle class='delivered' cx='15' cy='98' r='5'/>\n" ∷
    codes "<text class='said' x='36' y='102'>a delivery, at its place</text>\n" ∷
    codes "<circle class='asked' cx='15' cy='113' r='4'/>\n" ∷
    codes "<text class='said' x='36' y='117'>asked for something</text>\n" ∷
    codes "<circle class='wrong' cx='15' cy='128' r='4'/>\n" ∷
    codes "<text class='said' x='36' y='132'>a refusal, or a lie</text>\n" ∷
    codes "<circle class='gone' cx='15' cy='143' r='4'/>\n" ∷
    codes "<text class='said' x='36' y='147'>no signature left</text>\n" ∷
    [])

-- the beginning of what is drawn from this height on
unfoldable pub legend_begin : ℕ → List ℕ
legend_begin y = text_of (codes "<svg x='90' y='" ∷ decimal y ∷ codes "'>\n" ∷ [])

-- the legend, from this height on
abbrev pub legend_at : ℕ → List ℕ
legend_at y = legend_begin y ++ (samples ++ codes "</svg>\n")

-- the legend of a picture of n rows, after the two lines of text that may be below them
abbrev pub legend : ℕ → List ℕ
legend n = legend_at (row n + 50)
