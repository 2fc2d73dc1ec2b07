-- What counts of a line for the spaces beside it: where trunks begin and end, a gate, a contact. Line by line, from the
-- tracks of nets.
use Rattle.std.specs.Prelude.{ℕ, ◌&&◌, ◌||◌, ◌==◌, not, cond, Bool, true, false, List, [], ◌∷◌, ◌++◌, map, filter}
use Rattle.std.specs.Prelude.{Option, Some, None, option_to_list}
use Rattle.std.specs.List.{list_any}
use Rattle.cell_num.specs.declared.net.NetNo.{NetNo}
use Rattle.cell_num.specs.declared.net.Pins.{Pins}
use Rattle.cell_num.specs.Pins.{is_rail}
use Rattle.row_compact.specs.Measures.{LINE_SPACE, CONTACT_SPACE, STRETCH_SPACE}
use Rattle.track_ways.specs.declared.line.Line.{Line}
use Rattle.track_ways.specs.Lines.{is_ahead, is_held, with_line}

pub record Border : Type 0 where
  -- the tracks of trunks that begin at the line, and of those that end at it
  pub begun : List ℕ
  pub ended : List ℕ
  -- a column has its gate there
  pub gate : Bool
  -- some place there is contacted
  pub contact : Bool

-- the nets with places at a line
abbrev pub nets_at : Line → List NetNo
nets_at line = option_to_list line.p ++ (option_to_list line.n ++ option_to_list line.gate)

abbrev pub has_gate : Option NetNo → Bool
has_gate None = false
has_gate (Some net) = true

-- the net of a node place is a rail or has a trunk
abbrev pub has_contact : Pins → (NetNo → Bool) → Line → (NetNo → Bool) → Option NetNo → Bool
has_contact pins before line after None = false
has_contact pins before line after (Some net) = is_rail pins net || is_held pins before line after net

-- A net's trunk begins at the first line where it has a place, and ends at the last one. `before` and `after` have the
-- nets with a place before the line and after it.
abbrev pub border_of : Pins → (NetNo → ℕ) → (NetNo → Bool) → Line → (NetNo → Bool) → Border
border_of pins track before line after = record {
  begun = map track (filter (λ net. is_held pins before line after net && not (before net)) (nets_at line));
  ended = map track (filter (λ net. is_held pins before line after net && not (after net)) (nets_at line));
  gate = has_gate line.gate;
  contact = has_contact pins before line after line.p || has_contact pins before line after line.n;
}

-- some number is in both lists
abbrev pub have_common : List ℕ → List ℕ → Bool
have_common xs ys = list_any (λ x. list_any (λ y. x == y) ys) xs

-- the space between neighbouring lines
abbrev pub space_between : Border → Border → ℕ
space_between a b =
    cond (have_common a.ended b.begun) STRETCH_SPACE
    (cond ((a.gate && b.contact) || (a.contact && b.gate)) CONTACT_SPACE LINE_SPACE)

-- the spaces from a line through those behind it
abbrev pub spaces_from : Border → List Border → List ℕ
spaces_from a [] = []
spaces_from a (b ∷ rest) = space_between a b ∷ spaces_from b rest

abbrev pub spaces_of : List Border → List ℕ
spaces_of [] = []
spaces_of (a ∷ rest) = spaces_from a rest

-- what counts of some lines; `before` and `after` have the nets with a place before them and after them
abbrev pub borders_of : Pins → (NetNo → ℕ) → (NetNo → Bool) → List Line → (NetNo → Bool) → List Border
borders_of pins track before [] after = []
borders_of pins track before (line ∷ rest) after =
    border_of pins track before line (λ net. is_ahead rest net || after net)
    ∷ borders_of pins track (with_line before line) rest after
