-- The text of each shape.
use Rattle.std.specs.Prelude.{ℕ, ◌-◌, List, [], ◌∷◌, ◌++◌, codes, decimal}
use Rattle.std.specs.List.{concat, flat_map}
use Rattle.arb_model.specs.Standing.{app_of}
use Rattle.arb_model.specs.Texts.{thread_word}
use Rattle.arb_draw.specs.declared.style.TheConstants.{STYLE}
use Rattle.arb_draw.specs.declared.bar.Bar.{Bar}
use Rattle.arb_draw.specs.declared.measure.Measure.{Measure}
use Rattle.arb_draw.specs.declared.measure.Measure.TheVariants.{Waits, Wants, Due, Owns}
use Rattle.arb_draw.specs.declared.part.Part.{Part}
use Rattle.arb_draw.specs.declared.part.Part.TheVariants.{Held, Asked}
use Rattle.arb_draw.specs.declared.scale.Scale.{Scale}
use Rattle.arb_draw.specs.declared.scale.Scale.TheVariants.{Orders, Time}
use Rattle.arb_draw.specs.declared.shape.Shape.{Shape}
use Rattle.arb_draw.specs.declared.shape.Shape.TheVariants.{Begin, Swatch, Key, Axis, Tick, Socket, Row, Bar as placed_bar, Name, Panel, Line, Step, LineEnd, AreaEnd, End}

-- the class of a bar
abbrev pub part_class : Part → List ℕ
part_class Held = codes "bar"
part_class Asked = codes "asked"

-- what a bar's title says of its part
abbrev pub part_words : Part → List ℕ
part_words Held = []
part_words Asked = codes " asked back"

-- what a bar says of itself to other programs: the core, the thread, and the orders
abbrev pub span_text : Bar → List ℕ
span_text bar =
    concat (
    codes "<rect class=\"" ∷ part_class bar.part ∷
    codes "\" data-core=\"" ∷ decimal bar.core.number ∷
    codes "\" data-thread=\"" ∷ thread_word bar.thread ∷
    codes "\" data-from=\"" ∷ decimal bar.from ∷
    codes "\" data-to=\"" ∷ decimal bar.to ∷
    codes "\"" ∷ [])

-- what a bar says where the mouse rests on it: the thread, the core, the first and the last order
abbrev pub title_text : Bar → List ℕ
title_text bar =
    concat (
    codes "<title>" ∷ thread_word bar.thread ∷
    codes " on core " ∷ decimal bar.core.number ∷ part_words bar.part ∷
    codes ", orders " ∷ decimal bar.from ∷
    codes " to " ∷ decimal (bar.to - 1) ∷
    codes "</title>" ∷ [])

-- a bar, with where it stands
abbrev pub bar_text : Bar → (x y width : ℕ) → List ℕ
bar_text bar x y width =
    concat (
    span_text bar ∷
    codes " data-app=\"" ∷ decimal (app_of bar.thread) ∷
    codes "\" x=\"" ∷ decimal x ∷
    codes "\" y=\"" ∷ decimal y ∷
    codes "\" width=\"" ∷ decimal width ∷
    codes "\" height=\"200\">" ∷ title_text bar ∷
    codes "</rect>\n" ∷ [])

-- what runs to the right
abbrev pub scale_word : Scale → List ℕ
scale_word Orders = codes "order"
scale_word Time = codes "microsecond"

-- the class of a line
abbrev pub measure_class : Measure → List ℕ
measure_class Waits = codes "waits"
measure_class Wants = codes "wants"
measure_class Due = codes "due"
measure_class Owns = codes "owns"

-- the beginning of a picture: its size, what every picture has, and its heading
abbrev pub begin_text : (first last height : ℕ) → List ℕ
begin_text first last height =
    concat (
    codes "<svg xmlns=\"http://www.w3.org/2000/svg\" viewBox=\"0 0 12000 " ∷ decimal height ∷
    codes "\">\n" ∷ STYLE.now ∷
    codes "<text class=\"head\" x=\"200\" y=\"330\">Who had which core, orders " ∷ decimal first ∷
    codes " to " ∷ decimal last ∷
    codes "</text>\n" ∷ [])

-- an entry of the legend
abbrev pub swatch_text : (app threads x y : ℕ) → List ℕ
swatch_text app threads x y =
    concat (
    codes "<g transform=\"translate(" ∷ decimal x ∷
    codes " " ∷ decimal y ∷
    codes ")\"><rect class=\"swatch\" data-app=\"" ∷ decimal app ∷
    codes "\" width=\"160\" height=\"160\"/><text x=\"220\" y=\"125\">application " ∷ decimal app ∷
    codes ", threads: " ∷ decimal threads ∷
    codes "</text></g>\n" ∷ [])

-- an order or a moment, with its line
abbrev pub tick_text : (label x top bottom : ℕ) → List ℕ
tick_text label x top bottom =
    concat (
    codes "<path class=\"grid\" d=\"M" ∷ decimal x ∷
    codes " " ∷ decimal top ∷
    codes "V" ∷ decimal bottom ∷
    codes "\"/><text class=\"tick\" x=\"" ∷ decimal x ∷
    codes "\" y=\"" ∷ decimal top ∷
    codes "\" dy=\"-50\">" ∷ decimal label ∷
    codes "</text>\n" ∷ [])

-- the row of a core
abbrev pub row_text : (core y : ℕ) → List ℕ
row_text core y =
    concat (
    codes "<rect class=\"row\" x=\"1500\" y=\"" ∷ decimal y ∷
    codes "\" width=\"10300\" height=\"200\"/><text class=\"core\" x=\"1420\" y=\"" ∷ decimal y ∷
    codes "\" dy=\"142\">core " ∷ decimal core ∷
    codes "</text>\n" ∷ [])

-- the panel of an application
abbrev pub panel_text : (app peak y : ℕ) → List ℕ
panel_text app peak y =
    concat (
    codes "<g transform=\"translate(0 " ∷ decimal y ∷
    codes ")\"><rect class=\"swatch\" data-app=\"" ∷ decimal app ∷
    codes "\" x=\"200\" width=\"160\" height=\"160\"/><text x=\"420\" y=\"125\">application " ∷ decimal app ∷
    codes "</text><text class=\"core\" x=\"1420\" y=\"235\">" ∷ decimal peak ∷
    codes "</text><use href=\"#panel\"/></g>\n" ∷ [])

-- the name of a socket
abbrev pub socket_text : (number y : ℕ) → List ℕ
socket_text number y =
    concat (
    codes "<text class=\"socket\" x=\"200\" y=\"" ∷ decimal y ∷
    codes "\" dy=\"-60\">socket " ∷ decimal number ∷
    codes "</text>\n" ∷ [])

-- the name of a thread
abbrev pub name_text : (thread x y : ℕ) → List ℕ
name_text thread x y =
    concat (
    codes "<text class=\"name\" x=\"" ∷ decimal x ∷
    codes "\" y=\"" ∷ decimal y ∷
    codes "\" dx=\"40\" dy=\"142\">" ∷ thread_word thread ∷
    codes "</text>\n" ∷ [])

-- the text of a shape
abbrev pub shape_text : Shape → List ℕ
shape_text (Begin first last height) = begin_text first last height
shape_text (Swatch app threads x y) = swatch_text app threads x y
shape_text (Key y) = codes "<use href=\"#key\" y=\"" ++ decimal y ++ codes "\"/>\n"
shape_text (Axis scale y) = codes "<text class=\"core\" x=\"1420\" y=\"" ++ decimal y ++ codes "\">" ++ scale_word scale ++ codes "</text>\n"
shape_text (Tick label x top bottom) = tick_text label x top bottom
shape_text (Socket number y) = socket_text number y
shape_text (Row core y) = row_text core y
shape_text (placed_bar bar x y width) = bar_text bar x y width
shape_text (Name thread x y) = name_text thread x y
shape_text (Panel app peak y) = panel_text app peak y
shape_text (Line measure base) = codes "<path class=\"" ++ measure_class measure ++ codes "\" d=\"M1500 " ++ decimal base
shape_text (Step x y) = codes "H" ++ decimal x ++ codes "V" ++ decimal y
shape_text (LineEnd x) = codes "H" ++ decimal x ++ codes "\"/>\n"
shape_text (AreaEnd x base) = codes "H" ++ decimal x ++ codes "V" ++ decimal base ++ codes "Z\"/>\n"
shape_text End = codes "</svg>\n"

-- the text of shapes, one after another
abbrev pub text_of : List Shape → List ℕ
text_of shapes = flat_map shape_text shapes
