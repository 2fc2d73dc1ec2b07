-- The keywords of the statements that are read, in either case.
use Rattle.std.specs.Prelude.{ℕ, ◌||◌, Bool, List, codes, if◌then◌else◌}
use Rattle.std.specs.Str.{str_eq_ignore_ascii_case}
use Rattle.lef_read.specs.declared.keyword.Keyword.{Keyword}
use Rattle.lef_read.specs.declared.keyword.Keyword.TheVariants as keyword

abbrev pub is : List ℕ → List ℕ → Bool
is word text = str_eq_ignore_ascii_case word text

-- the statements of a library that go to their `;`
abbrev pub is_header : List ℕ → Bool
is_header w =
    is w (codes "VERSION") || is w (codes "BUSBITCHARS") || is w (codes "DIVIDERCHAR")
    || is w (codes "NAMESCASESENSITIVE") || is w (codes "MANUFACTURINGGRID")

-- the words that begin or end a block
abbrev pub block_word : List ℕ → Keyword → Keyword
block_word w other =
    if is w (codes "END") then keyword.End else
    if is w (codes "MACRO") then keyword.Macro else
    if is w (codes "PIN") then keyword.Pin else
    if is w (codes "PORT") then keyword.Port else
    if is w (codes "OBS") then keyword.Obs else
    if is w (codes "UNITS") then keyword.Units else
    if is w (codes "LIBRARY") then keyword.Library else
    other

unfoldable pub keyword_of : List ℕ → Keyword
keyword_of w =
    block_word w (
    if is w (codes "RECT") then keyword.Rect else
    if is w (codes "LAYER") then keyword.Layer else
    if is w (codes "CLASS") then keyword.Class else
    if is w (codes "SIZE") then keyword.Size else
    if is w (codes "BY") then keyword.By else
    if is w (codes "ORIGIN") then keyword.Origin else
    if is w (codes "DENSITY") then keyword.Density else
    if is_header w then keyword.Header else
    keyword.Other)
