-- The statements of a LEF library, token by token: what may be at each place, and what it gives.
use Rattle.std.specs.Prelude.{ℕ, ◌&&◌, ◌==◌, Bool, ℤ, int_lt, unsigned_abs, List, [], ◌∷◌, ◌++◌, codes}
use Rattle.std.specs.Prelude.{Option, Some, None, Result, Ok, Err, bytes_eq, if◌then◌else◌}
use Rattle.box_geom.specs.Rectangle.{Rectangle}
use Rattle.box_geom.specs.declared.layer.Layer.{Layer}
use Rattle.box_geom.specs.declared.layer.Layer.TheVariants.{Metal1, Metal2}
use Rattle.lef_read.specs.Tokens.{Token, Word, Quoted, Semicolon, Torn}
use Rattle.lef_read.specs.Numbers.{nanometres_of}
use Rattle.lef_read.specs.Keywords.{is, keyword_of}
use Rattle.lef_read.specs.declared.block_kind.Current.{Current}
use Rattle.lef_read.specs.declared.block_kind.Current.TheVariants.{NoLayer, OtherLayer, Wires}
use Rattle.lef_read.specs.declared.keyword.Keyword.{Keyword}
use Rattle.lef_read.specs.declared.keyword.Keyword.TheVariants as keyword
use Rattle.lef_read.specs.declared.fault.LefFault.{LefFault}
use Rattle.lef_read.specs.declared.fault.LefFault.TheVariants.{Statement, Number, Cut}

-- a rectangle with the line of its word RECT, sides in nanometres
pub record Box : Type 0 where
  pub line : ℕ
  pub layer : Layer
  pub sides : Rectangle

-- what a library says of its macros, in order
pub data Item : Type 0 where
  Begins : (name : List ℕ) → Item
  Pin : (name : List ℕ) → Item
  Port : (box : Box) → Item
  Obstruction : (box : Box) → Item

-- a block of rectangles: a port of a pin, or the obstructions of a macro
pub data Block : Type 0 where
  OfPin : (cell pin : List ℕ) → Block
  OfMacro : (cell : List ℕ) → Block

-- between two statements
pub data Between : Type 0 where
  InLibrary : Between
  InMacro : (cell : List ℕ) → Between
  InPin : (cell pin : List ℕ) → Between
  InBlock : (block : Block) (layer : Current) → Between

pub data Place : Type 0 where
  At : (between : Between) → Place
  -- up to and with `;`
  Passing : (between : Between) → Place
  -- `;` alone
  Closing : (between : Between) → Place
  -- UNITS up to END UNITS, and after an END in it
  Units : Place
  UnitsEnd : Place
  -- after END in a library
  LibraryEnd : Place
  MacroName : Place
  MacroEnd : (cell : List ℕ) → Place
  -- SIZE width BY height
  Width : (cell : List ℕ) → Place
  By : (cell : List ℕ) → Place
  Height : (cell : List ℕ) → Place
  OriginX : (cell : List ℕ) (line : ℕ) → Place
  OriginY : (cell : List ℕ) (line : ℕ) (x : ℤ) → Place
  PinName : (cell : List ℕ) → Place
  PinEnd : (cell pin : List ℕ) → Place
  LayerName : (block : Block) → Place
  -- the four numbers of a RECT
  X1 : (block : Block) (layer : Current) (line : ℕ) → Place
  Y1 : (block : Block) (layer : Current) (line : ℕ) (x1 : ℤ) → Place
  X2 : (block : Block) (layer : Current) (line : ℕ) (x1 y1 : ℤ) → Place
  Y2 : (block : Block) (layer : Current) (line : ℕ) (x1 y1 x2 : ℤ) → Place
  -- after END LIBRARY, where nothing is looked at
  Ended : Place

-- what a token gives, and the place after it
pub record Told : Type 0 where
  pub items : List Item
  pub next : Place

abbrev pub goes : Place → Result Told LefFault
goes p = Ok (record { items = []; next = p })

abbrev pub tells : Item → Place → Result Told LefFault
tells i p = Ok (record { items = i ∷ []; next = p })

-- ---- a word that begins a statement

abbrev pub in_library : ℕ → Keyword → Result Told LefFault
in_library n keyword.Header = goes (Passing InLibrary)
in_library n keyword.Units = goes Units
in_library n keyword.Macro = goes MacroName
in_library n keyword.End = goes LibraryEnd
in_library n _ = Err (Statement n)

abbrev pub in_macro : List ℕ → ℕ → Keyword → Result Told LefFault
in_macro cell n keyword.End = goes (MacroEnd cell)
in_macro cell n keyword.Size = goes (Width cell)
in_macro cell n keyword.Origin = goes (OriginX cell n)
in_macro cell n keyword.Pin = goes (PinName cell)
in_macro cell n keyword.Obs = goes (At (InBlock (OfMacro cell) NoLayer))
in_macro cell n keyword.Density = Err (Statement n)
in_macro cell n _ = goes (Passing (InMacro cell))

abbrev pub in_pin : List ℕ → List ℕ → Keyword → Result Told LefFault
in_pin cell pin keyword.End = goes (PinEnd cell pin)
in_pin cell pin keyword.Port = goes (At (InBlock (OfPin cell pin) NoLayer))
in_pin cell pin _ = goes (Passing (InPin cell pin))

abbrev pub behind_block : Block → Place
behind_block (OfPin cell pin) = At (InPin cell pin)
behind_block (OfMacro cell) = At (InMacro cell)

-- a rectangle needs a layer
abbrev pub rect_begins : Block → Current → ℕ → Result Told LefFault
rect_begins block NoLayer n = Err (Statement n)
rect_begins block layer n = goes (X1 block layer n)

abbrev pub in_block : Block → Current → ℕ → Keyword → Result Told LefFault
in_block block layer n keyword.End = goes (behind_block block)
in_block block layer n keyword.Layer = goes (LayerName block)
in_block block layer n keyword.Rect = rect_begins block layer n
in_block block layer n keyword.Class = goes (Passing (InBlock block layer))
in_block block layer n _ = Err (Statement n)

abbrev pub begins : Between → ℕ → Keyword → Result Told LefFault
begins InLibrary n k = in_library n k
begins (InMacro cell) n k = in_macro cell n k
begins (InPin cell pin) n k = in_pin cell pin k
begins (InBlock block layer) n k = in_block block layer n k

-- ---- numbers and layers

abbrev pub then_number : Option ℤ → ℕ → (ℤ → Result Told LefFault) → Result Told LefFault
then_number (Some z) n next = next z
then_number None n next = Err (Number n)

-- only the origin (0, 0) is allowed
abbrev pub origin_told : List ℕ → ℕ → ℤ → ℤ → Result Told LefFault
origin_told cell line x y =
    if (unsigned_abs x == 0) && (unsigned_abs y == 0) then goes (Closing (InMacro cell)) else Err (Statement line)

-- the layers of wires by their names, in either case
abbrev pub layer_named : List ℕ → Current
layer_named w =
    if is w (codes "METAL1") then Wires Metal1 else
    if is w (codes "METAL2") then Wires Metal2 else
    OtherLayer

abbrev pub item_of : Block → Box → Item
item_of (OfPin cell pin) box = Port box
item_of (OfMacro cell) box = Obstruction box

abbrev pub rect_told : Block → Current → ℕ → Rectangle → Result Told LefFault
rect_told block (Wires layer) line sides =
    tells (item_of block (record { line = line; layer = layer; sides = sides })) (Closing (InBlock block (Wires layer)))
rect_told block layer line sides = goes (Closing (InBlock block layer))

-- the sides ascend
abbrev pub ascending : Rectangle → Bool
ascending r = int_lt r.x1 r.x2 && int_lt r.y1 r.y2

abbrev pub sides_told : Block → Current → ℕ → Rectangle → Result Told LefFault
sides_told block layer line sides = if ascending sides then rect_told block layer line sides else Err (Number line)

-- ---- what may be at a place

abbrev pub at_word : Place → ℕ → List ℕ → Result Told LefFault
at_word (At between) n w = begins between n (keyword_of w)
at_word (Passing between) n w = goes (Passing between)
at_word (Closing between) n w = Err (Statement n)
at_word Units n w = if is w (codes "END") then goes UnitsEnd else goes Units
at_word UnitsEnd n w =
    if is w (codes "UNITS") then goes (At InLibrary) else
    if is w (codes "END") then goes UnitsEnd else goes Units
at_word LibraryEnd n w = if is w (codes "LIBRARY") then goes Ended else Err (Statement n)
at_word MacroName n w = tells (Begins w) (At (InMacro w))
at_word (MacroEnd cell) n w = if bytes_eq w cell then goes (At InLibrary) else Err (Statement n)
at_word (Width cell) n w = then_number (nanometres_of w) n (λ z. goes (By cell))
at_word (By cell) n w = if is w (codes "BY") then goes (Height cell) else Err (Statement n)
at_word (Height cell) n w = then_number (nanometres_of w) n (λ z. goes (Closing (InMacro cell)))
at_word (OriginX cell line) n w = then_number (nanometres_of w) n (λ z. goes (OriginY cell line z))
at_word (OriginY cell line x) n w = then_number (nanometres_of w) n (λ z. origin_told cell line x z)
at_word (PinName cell) n w = tells (Pin w) (At (InPin cell w))
at_word (PinEnd cell pin) n w = if bytes_eq w pin then goes (At (InMacro cell)) else Err (Statement n)
at_word (LayerName block) n w = goes (Closing (InBlock block (layer_named w)))
at_word (X1 block layer line) n w = then_number (nanometres_of w) n (λ z. goes (Y1 block layer line z))
at_word (Y1 block layer line x1) n w = then_number (nanometres_of w) n (λ z. goes (X2 block layer line x1 z))
at_word (X2 block layer line x1 y1) n w = then_number (nanometres_of w) n (λ z. goes (Y2 block layer line x1 y1 z))
at_word (Y2 block layer line x1 y1 x2) n w =
    then_number (nanometres_of w) n (λ z. sides_told block layer line (record { x1 = x1; y1 = y1; x2 = x2; y2 = z }))
at_word Ended n w = goes Ended

abbrev pub at_semicolon : Place → ℕ → Result Told LefFault
at_semicolon (Passing between) n = goes (At between)
at_semicolon (Closing between) n = goes (At between)
at_semicolon Units n = goes Units
at_semicolon UnitsEnd n = goes Units
at_semicolon Ended n = goes Ended
at_semicolon _ n = Err (Statement n)

-- a text between quotes; in place of a number it is a fault of the number
abbrev pub at_text : Place → ℕ → Result Told LefFault
at_text (Passing between) n = goes (Passing between)
at_text Units n = goes Units
at_text UnitsEnd n = goes Units
at_text Ended n = goes Ended
at_text (Width cell) n = Err (Number n)
at_text (Height cell) n = Err (Number n)
at_text (OriginX cell line) n = Err (Number n)
at_text (OriginY cell line x) n = Err (Number n)
at_text (X1 block layer line) n = Err (Number n)
at_text (Y1 block layer line x1) n = Err (Number n)
at_text (X2 block layer line x1 y1) n = Err (Number n)
at_text (Y2 block layer line x1 y1 x2) n = Err (Number n)
at_text _ n = Err (Statement n)

abbrev pub step_of : Place → Token → Result Told LefFault
step_of Ended t = goes Ended
step_of p (Word n w) = at_word p n w
step_of p (Semicolon n) = at_semicolon p n
step_of p (Quoted n) = at_text p n
step_of p Torn = Err Cut

-- a library may end between two macros
abbrev pub ended_at : Place → Result (List Item) LefFault
ended_at (At InLibrary) = Ok []
ended_at Ended = Ok []
ended_at _ = Err Cut

abbrev pub with_items : List Item → Result (List Item) LefFault → Result (List Item) LefFault
with_items [] more = more
with_items (i ∷ is) (Ok more) = Ok (i ∷ (is ++ more))
with_items (i ∷ is) (Err f) = Err f

abbrev pub then_read : Result Told LefFault → (Place → Result (List Item) LefFault) → Result (List Item) LefFault
then_read (Ok told) rest = with_items told.items (rest told.next)
then_read (Err f) rest = Err f

-- what tokens give from a place on, or the first fault: a token that may not be where it is, or an end too early
unfoldable pub read : Place → List Token → Result (List Item) LefFault
read p [] = ended_at p
read p (t ∷ ts) = then_read (step_of p t) (λ next. read next ts)
