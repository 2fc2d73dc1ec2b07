-- The definition never tells of memory.
use Rattle.std.proofs.Common.{ℕ, ℤ, Bool, true, false, List, [], ◌∷◌, subst}
use Rattle.std.specs.Prelude.{Option, Some, None, Result, Ok, Err, ◌≢◌, if◌then◌else◌, bytes_eq, codes, ◌&&◌, ◌==◌, unsigned_abs}
use Rattle.std.specs.List.{find}
use Rattle.cell_num.specs.Steps.{◌>>=◌, or_fault}
use Rattle.box_geom.specs.Rectangle.{Rectangle}
use Rattle.lef_read.specs.Tokens.{Token, Word, Quoted, Semicolon, Torn, tokens_from}
use Rattle.lef_read.specs.Numbers.{nanometres_of}
use Rattle.lef_read.specs.Keywords.{is, keyword_of}
use Rattle.lef_read.specs.Reading.{Item, Box, Block, Between, InLibrary, InMacro, InPin, InBlock, Place, At, Passing, Closing, Units, UnitsEnd, LibraryEnd, MacroName, MacroEnd, Width, By, Height, OriginX, OriginY, PinName, PinEnd, LayerName, X1, Y1, X2, Y2, Ended, Told, goes, begins, rect_begins, rect_told, ascending, then_number, at_word, step_of, ended_at, with_items, then_read, read}
use Rattle.lef_read.specs.Macros.{items_of, is_off_grid, boxes_in, on_grid, macro_of, macro_named, macro_in}
use Rattle.lef_read.specs.declared.block_kind.Current.{Current}
use Rattle.lef_read.specs.declared.block_kind.Current.TheVariants.{NoLayer, OtherLayer, Wires}
use Rattle.lef_read.specs.declared.keyword.Keyword.{Keyword}
use Rattle.lef_read.specs.declared.keyword.Keyword.TheVariants as keyword
use Rattle.lef_read.specs.declared.fault.LefFault.{LefFault}
use Rattle.lef_read.specs.declared.fault.LefFault.TheVariants as fault
use Rattle.lef_read.specs.declared.cell.Macro.{Macro}

-- an answer for another cause than memory
abbrev IsCalm : {A : Type 0} → Result A LefFault → Type 0
IsCalm (Ok x) = Unit {0}
IsCalm (Err fault.NoMemory) = ⊥
IsCalm (Err f) = Unit {0}

asked : (b : Bool) (p : Place) (n : ℕ) → IsCalm (if b then goes p else Err (fault.Statement n))
asked true p n = tt
asked false p n = tt

either : (b : Bool) (p q : Place) → IsCalm (if b then goes p else goes q)
either true p q = tt
either false p q = tt

rect_calm : (b : Block) (l : Current) (n : ℕ) → IsCalm (rect_begins b l n)
rect_calm b NoLayer n = tt
rect_calm b OtherLayer n = tt
rect_calm b (Wires layer) n = tt

begins_calm : (b : Between) (n : ℕ) (k : Keyword) → IsCalm (begins b n k)
begins_calm InLibrary n keyword.By = tt
begins_calm InLibrary n keyword.Class = tt
begins_calm InLibrary n keyword.Density = tt
begins_calm InLibrary n keyword.End = tt
begins_calm InLibrary n keyword.Header = tt
begins_calm InLibrary n keyword.Layer = tt
begins_calm InLibrary n keyword.Library = tt
begins_calm InLibrary n keyword.Macro = tt
begins_calm InLibrary n keyword.Obs = tt
begins_calm InLibrary n keyword.Origin = tt
begins_calm InLibrary n keyword.Pin = tt
begins_calm InLibrary n keyword.Port = tt
begins_calm InLibrary n keyword.Rect = tt
begins_calm InLibrary n keyword.Size = tt
begins_calm InLibrary n keyword.Units = tt
begins_calm InLibrary n keyword.Other = tt
begins_calm (InMacro cell) n keyword.By = tt
begins_calm (InMacro cell) n keyword.Class = tt
begins_calm (InMacro cell) n keyword.Density = tt
begins_calm (InMacro cell) n keyword.End = tt
begins_calm (InMacro cell) n keyword.Header = tt
begins_calm (InMacro cell) n keyword.Layer = tt
begins_calm (InMacro cell) n keyword.Library = tt
begins_calm (InMacro cell) n keyword.Macro = tt
begins_calm (InMacro cell) n keyword.Obs = tt
begins_calm (InMacro cell) n keyword.Origin = tt
begins_calm (InMacro cell) n keyword.Pin = tt
begins_calm (InMacro cell) n keyword.Port = tt
begins_calm (InMacro cell) n keyword.Rect = tt
begins_calm (InMacro cell) n keyword.Size = tt
begins_calm (InMacro cell) n keyword.Units = tt
begins_calm (InMacro cell) n keyword.Other = tt
begins_calm (InPin cell pin) n keyword.By = tt
begins_calm (InPin cell pin) n keyword.Class = tt
begins_calm (InPin cell pin) n keyword.Density = tt
begins_calm (InPin cell pin) n keyword.End = tt
begins_calm (InPin cell pin) n keyword.Header = tt
begins_calm (InPin cell pin) n keyword.Layer = tt
begins_calm (InPin cell pin) n keyword.Library = tt
begins_calm (InPin cell pin) n keyword.Macro = tt
begins_calm (InPin cell pin) n keyword.Obs = tt
begins_calm (InPin cell pin) n keyword.Origin = tt
begins_calm (InPin cell pin) n keyword.Pin = tt
begins_calm (InPin cell pin) n keyword.Port = tt
begins_calm (InPin cell pin) n keyword.Rect = tt
begins_calm (InPin cell pin) n keyword.Size = tt
begins_calm (InPin cell pin) n keyword.Units = tt
begins_calm (InPin cell pin) n keyword.Other = tt
begins_calm (InBlock block layer) n keyword.By = tt
begins_calm (InBlock block layer) n keyword.Class = tt
begins_calm (InBlock block layer) n keyword.Density = tt
begins_calm (InBlock block layer) n keyword.End = tt
begins_calm (InBlock block layer) n keyword.Header = tt
begins_calm (InBlock block layer) n keyword.Layer = tt
begins_calm (InBlock block layer) n keyword.Library = tt
begins_calm (InBlock block layer) n keyword.Macro = tt
begins_calm (InBlock block layer) n keyword.Obs = tt
begins_calm (InBlock block layer) n keyword.Origin = tt
begins_calm (InBlock block layer) n keyword.Pin = tt
begins_calm (InBlock block layer) n keyword.Port = tt
begins_calm (InBlock block layer) n keyword.Rect = rect_calm block layer n
begins_calm (InBlock block layer) n keyword.Size = tt
begins_calm (InBlock block layer) n keyword.Units = tt
begins_calm (InBlock block layer) n keyword.Other = tt

number_calm : (o : Option ℤ) (n : ℕ) (next : ℤ → Result Told LefFault) → ((z : ℤ) → IsCalm (next z)) → IsCalm (then_number o n next)
number_calm (Some z) n next calm = calm z
number_calm None n next calm = tt

told_calm : (b : Block) (l : Current) (line : ℕ) (r : Rectangle) → IsCalm (rect_told b l line r)
told_calm b NoLayer line r = tt
told_calm b OtherLayer line r = tt
told_calm b (Wires layer) line r = tt

sides_calm : (a : Bool) (b : Block) (l : Current) (line : ℕ) (r : Rectangle) → IsCalm (if a then rect_told b l line r else Err (fault.Number line))
sides_calm true b l line r = told_calm b l line r
sides_calm false b l line r = tt

three : (a b : Bool) (p q r : Place) → IsCalm (if a then goes p else if b then goes q else goes r)
three true b p q r = tt
three false true p q r = tt
three false false p q r = tt

word_calm : (p : Place) (n : ℕ) (w : List ℕ) → IsCalm (at_word p n w)
word_calm (At between) n w = begins_calm between n (keyword_of w)
word_calm (Passing between) n w = tt
word_calm (Closing between) n w = tt
word_calm Units n w = either (is w (codes "END")) UnitsEnd Units
word_calm UnitsEnd n w = three (is w (codes "UNITS")) (is w (codes "END")) (At InLibrary) UnitsEnd Units
word_calm LibraryEnd n w = asked (is w (codes "LIBRARY")) Ended n
word_calm MacroName n w = tt
word_calm (MacroEnd cell) n w = asked (bytes_eq w cell) (At InLibrary) n
word_calm (Width cell) n w = number_calm (nanometres_of w) n (λ z. goes (By cell)) (λ z. tt)
word_calm (By cell) n w = asked (is w (codes "BY")) (Height cell) n
word_calm (Height cell) n w = number_calm (nanometres_of w) n (λ z. goes (Closing (InMacro cell))) (λ z. tt)
word_calm (OriginX cell line) n w = number_calm (nanometres_of w) n (λ z. goes (OriginY cell line z)) (λ z. tt)
word_calm (OriginY cell line x) n w = number_calm (nanometres_of w) n (λ y. if (unsigned_abs x == 0) && (unsigned_abs y == 0) then goes (Closing (InMacro cell)) else Err (fault.Statement line)) (λ y. asked ((unsigned_abs x == 0) && (unsigned_abs y == 0)) (Closing (InMacro cell)) line)
word_calm (PinName cell) n w = tt
word_calm (PinEnd cell pin) n w = asked (bytes_eq w pin) (At (InMacro cell)) n
word_calm (LayerName block) n w = tt
word_calm (X1 block layer line) n w = number_calm (nanometres_of w) n (λ z. goes (Y1 block layer line z)) (λ z. tt)
word_calm (Y1 block layer line x1) n w = number_calm (nanometres_of w) n (λ z. goes (X2 block layer line x1 z)) (λ z. tt)
word_calm (X2 block layer line x1 y1) n w = number_calm (nanometres_of w) n (λ z. goes (Y2 block layer line x1 y1 z)) (λ z. tt)
word_calm (Y2 block layer line x1 y1 x2) n w = number_calm (nanometres_of w) n (λ z. if ascending (record { x1 = x1; y1 = y1; x2 = x2; y2 = z }) then rect_told block layer line (record { x1 = x1; y1 = y1; x2 = x2; y2 = z }) else Err (fault.Number line)) (λ z. sides_calm (ascending (record { x1 = x1; y1 = y1; x2 = x2; y2 = z })) block layer line (record { x1 = x1; y1 = y1; x2 = x2; y2 = z }))
word_calm Ended n w = tt

step_calm : (p : Place) (t : Token) → IsCalm (step_of p t)
step_calm Ended t = tt
step_calm (At between) (Word n w) = word_calm (At between) n w
step_calm (Passing between) (Word n w) = word_calm (Passing between) n w
step_calm (Closing between) (Word n w) = word_calm (Closing between) n w
step_calm Units (Word n w) = word_calm Units n w
step_calm UnitsEnd (Word n w) = word_calm UnitsEnd n w
step_calm LibraryEnd (Word n w) = word_calm LibraryEnd n w
step_calm MacroName (Word n w) = word_calm MacroName n w
step_calm (MacroEnd cell) (Word n w) = word_calm (MacroEnd cell) n w
step_calm (Width cell) (Word n w) = word_calm (Width cell) n w
step_calm (By cell) (Word n w) = word_calm (By cell) n w
step_calm (Height cell) (Word n w) = word_calm (Height cell) n w
step_calm (OriginX cell line) (Word n w) = word_calm (OriginX cell line) n w
step_calm (OriginY cell line x) (Word n w) = word_calm (OriginY cell line x) n w
step_calm (PinName cell) (Word n w) = word_calm (PinName cell) n w
step_calm (PinEnd cell pin) (Word n w) = word_calm (PinEnd cell pin) n w
step_calm (LayerName block) (Word n w) = word_calm (LayerName block) n w
step_calm (X1 block layer line) (Word n w) = word_calm (X1 block layer line) n w
step_calm (Y1 block layer line x1) (Word n w) = word_calm (Y1 block layer line x1) n w
step_calm (X2 block layer line x1 y1) (Word n w) = word_calm (X2 block layer line x1 y1) n w
step_calm (Y2 block layer line x1 y1 x2) (Word n w) = word_calm (Y2 block layer line x1 y1 x2) n w
step_calm (At between) (Semicolon n) = tt
step_calm (At between) (Quoted n) = tt
step_calm (At between) Torn = tt
step_calm (Passing between) (Semicolon n) = tt
step_calm (Passing between) (Quoted n) = tt
step_calm (Passing between) Torn = tt
step_calm (Closing between) (Semicolon n) = tt
step_calm (Closing between) (Quoted n) = tt
step_calm (Closing between) Torn = tt
step_calm Units (Semicolon n) = tt
step_calm Units (Quoted n) = tt
step_calm Units Torn = tt
step_calm UnitsEnd (Semicolon n) = tt
step_calm UnitsEnd (Quoted n) = tt
step_calm UnitsEnd Torn = tt
step_calm LibraryEnd (Semicolon n) = tt
step_calm LibraryEnd (Quoted n) = tt
step_calm LibraryEnd Torn = tt
step_calm MacroName (Semicolon n) = tt
step_calm MacroName (Quoted n) = tt
step_calm MacroName Torn = tt
step_calm (MacroEnd cell) (Semicolon n) = tt
step_calm (MacroEnd cell) (Quoted n) = tt
step_calm (MacroEnd cell) Torn = tt
step_calm (Width cell) (Semicolon n) = tt
step_calm (Width cell) (Quoted n) = tt
step_calm (Width cell) Torn = tt
step_calm (By cell) (Semicolon n) = tt
step_calm (By cell) (Quoted n) = tt
step_calm (By cell) Torn = tt
step_calm (Height cell) (Semicolon n) = tt
step_calm (Height cell) (Quoted n) = tt
step_calm (Height cell) Torn = tt
step_calm (OriginX cell line) (Semicolon n) = tt
step_calm (OriginX cell line) (Quoted n) = tt
step_calm (OriginX cell line) Torn = tt
step_calm (OriginY cell line x) (Semicolon n) = tt
step_calm (OriginY cell line x) (Quoted n) = tt
step_calm (OriginY cell line x) Torn = tt
step_calm (PinName cell) (Semicolon n) = tt
step_calm (PinName cell) (Quoted n) = tt
step_calm (PinName cell) Torn = tt
step_calm (PinEnd cell pin) (Semicolon n) = tt
step_calm (PinEnd cell pin) (Quoted n) = tt
step_calm (PinEnd cell pin) Torn = tt
step_calm (LayerName block) (Semicolon n) = tt
step_calm (LayerName block) (Quoted n) = tt
step_calm (LayerName block) Torn = tt
step_calm (X1 block layer line) (Semicolon n) = tt
step_calm (X1 block layer line) (Quoted n) = tt
step_calm (X1 block layer line) Torn = tt
step_calm (Y1 block layer line x1) (Semicolon n) = tt
step_calm (Y1 block layer line x1) (Quoted n) = tt
step_calm (Y1 block layer line x1) Torn = tt
step_calm (X2 block layer line x1 y1) (Semicolon n) = tt
step_calm (X2 block layer line x1 y1) (Quoted n) = tt
step_calm (X2 block layer line x1 y1) Torn = tt
step_calm (Y2 block layer line x1 y1 x2) (Semicolon n) = tt
step_calm (Y2 block layer line x1 y1 x2) (Quoted n) = tt
step_calm (Y2 block layer line x1 y1 x2) Torn = tt

end_calm : (p : Place) → IsCalm (ended_at p)
end_calm (At InLibrary) = tt
end_calm (At (InMacro cell)) = tt
end_calm (At (InPin cell pin)) = tt
end_calm (At (InBlock block layer)) = tt
end_calm Ended = tt
end_calm (Passing between) = tt
end_calm (Closing between) = tt
end_calm Units = tt
end_calm UnitsEnd = tt
end_calm LibraryEnd = tt
end_calm MacroName = tt
end_calm (MacroEnd cell) = tt
end_calm (Width cell) = tt
end_calm (By cell) = tt
end_calm (Height cell) = tt
end_calm (OriginX cell line) = tt
end_calm (OriginY cell line x) = tt
end_calm (PinName cell) = tt
end_calm (PinEnd cell pin) = tt
end_calm (LayerName block) = tt
end_calm (X1 block layer line) = tt
end_calm (Y1 block layer line x1) = tt
end_calm (X2 block layer line x1 y1) = tt
end_calm (Y2 block layer line x1 y1 x2) = tt

items_calm : (is : List Item) (r : Result (List Item) LefFault) → IsCalm r → IsCalm (with_items is r)
items_calm [] r calm = calm
items_calm (i ∷ is) (Ok more) calm = tt
items_calm (i ∷ is) (Err (fault.Statement n)) calm = tt
items_calm (i ∷ is) (Err (fault.Number n)) calm = tt
items_calm (i ∷ is) (Err fault.Cut) calm = tt
items_calm (i ∷ is) (Err fault.NoMacro) calm = tt
items_calm (i ∷ is) (Err (fault.Grid n)) calm = tt
items_calm (i ∷ is) (Err fault.NoMemory) calm = calm

then_calm : (r : Result Told LefFault) (rest : Place → Result (List Item) LefFault) → IsCalm r → ((p : Place) → IsCalm (rest p)) → IsCalm (then_read r rest)
then_calm (Ok told) rest calm each = items_calm told.items (rest told.next) (each told.next)
then_calm (Err (fault.Statement n)) rest calm each = tt
then_calm (Err (fault.Number n)) rest calm each = tt
then_calm (Err fault.Cut) rest calm each = tt
then_calm (Err fault.NoMacro) rest calm each = tt
then_calm (Err (fault.Grid n)) rest calm each = tt
then_calm (Err fault.NoMemory) rest calm each = calm

read_calm : (ts : List Token) (p : Place) → IsCalm (read p ts)
unfolding read
read_calm [] p = end_calm p
read_calm (t ∷ ts) p = then_calm (step_of p t) (λ next. read next ts) (step_calm p t) (λ next. read_calm ts next)

grid_calm : (o : Option Box) (m : Macro) → IsCalm (on_grid o m)
grid_calm (Some box) m = tt
grid_calm None m = tt

named_calm : (unit : ℕ) (name : List ℕ) (o : Option (List Item)) → IsCalm (or_fault o fault.NoMacro >>= λ own. macro_of unit name own)
named_calm unit name None = tt
named_calm unit name (Some own) = grid_calm (find (is_off_grid unit) (boxes_in own)) _

bound_calm : (r : Result (List Item) LefFault) (k : List Item → Result Macro LefFault) → IsCalm r → ((is : List Item) → IsCalm (k is)) → IsCalm (r >>= k)
bound_calm (Ok is) k calm each = each is
bound_calm (Err (fault.Statement n)) k calm each = tt
bound_calm (Err (fault.Number n)) k calm each = tt
bound_calm (Err fault.Cut) k calm each = tt
bound_calm (Err fault.NoMacro) k calm each = tt
bound_calm (Err (fault.Grid n)) k calm each = tt
bound_calm (Err fault.NoMemory) k calm each = calm

pub never_memory : (bytes name : List ℕ) (unit : ℕ) → macro_in bytes name unit ≢ Err fault.NoMemory
unfolding macro_in
never_memory bytes name unit e =
    subst IsCalm e (bound_calm (read (At InLibrary) (tokens_from 1 bytes)) (λ is. macro_named unit name is) (read_calm (tokens_from 1 bytes) (At InLibrary)) (λ is. named_calm unit name (items_of name is)))
