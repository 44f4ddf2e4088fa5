-- Points of the code, as those of the definitions.
use Rattle.picture_defs.specs.Elements as elements
use Rattle.picture_labels.specs.declared.elements.Point.{Point}

abbrev pub point : Point → elements.Point
point p = record { x = p.x; y = p.y }
