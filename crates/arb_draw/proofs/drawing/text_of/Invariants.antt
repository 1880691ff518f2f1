use Rattle.std.proofs.Common.{◌≡◌, take}
use Rattle.std.specs.String.{string_bytes}
use Rattle.arb_draw.specs.ShapeText.{text_of}
use Rattle.arb_draw.proofs.drawing.text_of.Given as goal

-- the texts of the shapes before this one are there
abbrev pub invariant-loop-shape : goal.invariant-loop-shape
invariant-loop-shape l = string_bytes l.text ≡ text_of (take l.shape-index l.shapes)
