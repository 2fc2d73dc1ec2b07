-- The reader's own words: what single steps take from the tokens to come.
use Rattle.std.specs.Prelude.{ℕ, suc, ◌≡◌, ◌==◌, ◌||◌, not, Bool, true, false, ℤ, unsigned_abs}
use Rattle.std.specs.Prelude.{List, [], ◌∷◌, codes, Option, Some, None, Result, Ok, Err, bytes_eq, if◌then◌else◌}
use Rattle.cell_num.specs.Steps.{◌>>=◌, require, or_fault}
use Rattle.box_geom.specs.Rectangle.{Rectangle}
use Rattle.lef_read.specs.Tokens.{Token, Word, Quoted, Semicolon, Torn, Inside}
use Rattle.lef_read.specs.Tokens.{Nothing, AComment, is_white, ends_word, line_behind}
use Rattle.lef_read.specs.Numbers.{nanometres_of}
use Rattle.lef_read.specs.Keywords.{is}
use Rattle.lef_read.specs.Reading.{ascending, layer_named}
use Rattle.lef_read.specs.declared.block_kind.Current.{Current}
use Rattle.lef_read.specs.declared.token.Token.{Token as TokenIn}
use Rattle.lef_read.specs.declared.token.Token.TheVariants as token
use Rattle.lef_read.specs.declared.fault.LefFault.{LefFault}
use Rattle.lef_read.specs.declared.fault.LefFault.TheVariants.{Statement, Number, Cut}

-- the start is no white space and no comment
abbrev pub begins_token : List ℕ → Bool
begins_token [] = true
begins_token (b ∷ bs) = not (is_white b || b == 35)

-- a token is taken from the front, or there is none
abbrev pub Takes : Option TokenIn → List Token → List Token → Type 0
Takes None old new = (old ≡ []) × (new ≡ [])
Takes (Some (token.Word n t)) old new = old ≡ Word n t.now ∷ new
Takes (Some (token.Quoted n)) old new = old ≡ Quoted n ∷ new
Takes (Some (token.Semicolon n)) old new = old ≡ Semicolon n ∷ new
Takes (Some token.Torn) old new = old ≡ Torn ∷ new

pub record LinedWord : Type 0 where
  pub line : ℕ
  pub text : List ℕ

-- what a step takes, and the tokens after it
abbrev pub Taken : Type 0 → Type 0
Taken X = Result (X × List Token) LefFault

-- a step that takes this value, or is refused
abbrev pub Steps : {X : Type 0} → Result X LefFault → Taken X → List Token → Type 0
Steps (Ok x) taken new = taken ≡ Ok (x, new)
Steps (Err f) taken new = taken ≡ Err f

abbrev pub word_in : List Token → Taken LinedWord
word_in [] = Err Cut
word_in (Word n w ∷ ts) = Ok (record { line = n; text = w }, ts)
word_in (Quoted n ∷ ts) = Err (Statement n)
word_in (Semicolon n ∷ ts) = Err (Statement n)
word_in (Torn ∷ ts) = Err Cut

abbrev pub number_in : List Token → Taken ℤ
number_in [] = Err Cut
number_in (Word n w ∷ ts) = or_fault (nanometres_of w) (Number n) >>= λ z. Ok (z, ts)
number_in (Quoted n ∷ ts) = Err (Number n)
number_in (Semicolon n ∷ ts) = Err (Statement n)
number_in (Torn ∷ ts) = Err Cut

abbrev pub semicolon_in : List Token → Taken (Unit {0})
semicolon_in [] = Err Cut
semicolon_in (Word n w ∷ ts) = Err (Statement n)
semicolon_in (Quoted n ∷ ts) = Err (Statement n)
semicolon_in (Semicolon n ∷ ts) = Ok (tt, ts)
semicolon_in (Torn ∷ ts) = Err Cut

-- a word that has to be this one
abbrev pub named_in : List ℕ → List Token → Taken (Unit {0})
named_in name ts = word_in ts >>= λ p. require (bytes_eq p.0.text name) (Statement p.0.line) >>= λ _. Ok (tt, p.1)

-- a keyword
abbrev pub keyword_in : List ℕ → List Token → Taken (Unit {0})
keyword_in text ts = word_in ts >>= λ p. require (is p.0.text text) (Statement p.0.line) >>= λ _. Ok (tt, p.1)

-- up to and with `;`
unfoldable pub passed : List Token → Taken (Unit {0})
passed [] = Err Cut
passed (Word n w ∷ ts) = passed ts
passed (Quoted n ∷ ts) = passed ts
passed (Semicolon n ∷ ts) = Ok (tt, ts)
passed (Torn ∷ ts) = Err Cut

-- up to and with END UNITS; an END may be before it
unfoldable pub units_passed : Bool → List Token → Taken (Unit {0})
units_passed end [] = Err Cut
units_passed true (Word n w ∷ ts) = if is w (codes "UNITS") then Ok (tt, ts) else units_passed (is w (codes "END")) ts
units_passed false (Word n w ∷ ts) = units_passed (is w (codes "END")) ts
units_passed end (Quoted n ∷ ts) = units_passed false ts
units_passed end (Semicolon n ∷ ts) = units_passed false ts
units_passed end (Torn ∷ ts) = Err Cut

-- ---- whole statements after their first word

abbrev pub size_in : List Token → Taken (Unit {0})
size_in ts =
    number_in ts
    >>= λ width. keyword_in (codes "BY") width.1
    >>= λ by. number_in by.1
    >>= λ height. semicolon_in height.1

abbrev pub origin_in : ℕ → List Token → Taken (Unit {0})
origin_in line ts =
    number_in ts
    >>= λ x. number_in x.1
    >>= λ y. require (unsigned_abs x.0 == 0) (Statement line)
    >>= λ _. require (unsigned_abs y.0 == 0) (Statement line)
    >>= λ _. semicolon_in y.1

abbrev pub ascending_sides : ℕ → Rectangle → List Token → Taken Rectangle
ascending_sides line sides ts = require (ascending sides) (Number line) >>= λ _. Ok (sides, ts)

-- the sides of a rectangle whose word RECT is on a line
abbrev pub rect_of : ℕ → List Token → Taken Rectangle
rect_of line ts =
    number_in ts
    >>= λ x1. number_in x1.1
    >>= λ y1. number_in y1.1
    >>= λ x2. number_in x2.1
    >>= λ y2. ascending_sides line (record { x1 = x1.0; y1 = y1.0; x2 = x2.0; y2 = y2.0 }) y2.1

-- the layer that a LAYER statement names
abbrev pub layer_in : List Token → Taken Current
layer_in ts = word_in ts >>= λ w. semicolon_in w.1 >>= λ s. Ok (layer_named w.0.text, s.1)

-- ---- the bytes of single tokens

abbrev pub word_length : List ℕ → ℕ
word_length [] = 0
word_length (b ∷ bs) = if ends_word b then 0 else suc (word_length bs)

abbrev pub until_quote : List ℕ → ℕ
until_quote [] = 0
until_quote (b ∷ bs) = if b == 34 then 0 else suc (until_quote bs)

-- the line after a text
abbrev pub line_at : ℕ → List ℕ → ℕ
line_at n [] = n
line_at n (b ∷ bs) = line_at (line_behind n b) bs

-- what the bytes between two tokens are in
abbrev pub between_tokens : Bool → Inside
between_tokens true = AComment
between_tokens false = Nothing

abbrev pub passes : Bool → ℕ → Option Bool
passes true b = Some (not (b == 10))
passes false b = if b == 35 then Some true else if is_white b then Some false else None
