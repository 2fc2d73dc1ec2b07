-- What the places of a library's text read, by the steps that take their tokens.
use Rattle.std.proofs.Common.{ℕ, ℤ, ◌≡◌, Bool, true, false, List, [], ◌∷◌, refl, ◌∙◌, inl, inr, codes}
use Rattle.std.specs.Prelude.{Option, Some, None, Result, Ok, Err, bytes_eq, if◌then◌else◌, ◌==◌, ◌&&◌, unsigned_abs}
use Rattle.std.proofs.lemmas.Bool.{cases_Bool}
use Rattle.cell_num.specs.Steps.{◌>>=◌, require, or_fault}
use Rattle.box_geom.specs.Rectangle.{Rectangle}
use Rattle.lef_read.specs.Tokens.{Token, Word, Quoted, Semicolon, Torn}
use Rattle.lef_read.specs.Numbers.{nanometres_of}
use Rattle.lef_read.specs.Keywords.{is, keyword_of}
use Rattle.lef_read.specs.Reading.{Item, Begins, Pin, Block, Between, InLibrary, InMacro, InPin, InBlock, Place, At, Passing, Closing, Units, UnitsEnd, LibraryEnd, MacroName, MacroEnd, Width, By, Height, OriginX, OriginY, PinName, PinEnd, LayerName, X1, Y1, X2, Y2, Ended, Told, goes, tells, in_macro, in_pin, in_block, rect_told, sides_told, origin_told, ascending, layer_named, then_number, step_of, ended_at, with_items, then_read, read}
use Rattle.lef_read.specs.Statements.{Taken, word_in, number_in, semicolon_in, named_in, keyword_in, passed, units_passed, size_in, origin_in, ascending_sides, rect_of, layer_in}
use Rattle.lef_read.specs.declared.block_kind.Current.{Current}
use Rattle.lef_read.specs.declared.fault.LefFault.{LefFault}
use Rattle.lef_read.specs.declared.fault.LefFault.TheVariants.{Statement, Number, Cut}

abbrev pub Items : Type 0
Items = Result (List Item) LefFault

-- a step may be taken out of a chain
chained : {A B : Type 0} (r : Taken A) (f : A × List Token → Taken B) (g : A × List Token → Items) (k : B × List Token → Items) → ((a : A × List Token) → g a ≡ (f a >>= k)) → (r >>= g) ≡ ((r >>= f) >>= k)
chained (Ok a) f g k same = same a
chained (Err e) f g k same = refl

-- ---- places of one token

pub closing : (b : Between) (ts : List Token) → read (Closing b) ts ≡ (semicolon_in ts >>= λ s. read (At b) s.1)
unfolding read
closing b [] = refl
closing b (Word n w ∷ ts) = refl
closing b (Quoted n ∷ ts) = refl
closing b (Semicolon n ∷ ts) = refl
closing b (Torn ∷ ts) = refl

pub record IsNumberPlace (p : Place) (next : ℤ → Result Told LefFault) : Type 0 where
  pub ends : ended_at p ≡ Err Cut
  pub word : (n : ℕ) (w : List ℕ) → step_of p (Word n w) ≡ then_number (nanometres_of w) n next
  pub semicolon : (n : ℕ) → step_of p (Semicolon n) ≡ Err (Statement n)
  pub quoted : (n : ℕ) → step_of p (Quoted n) ≡ Err (Number n)
  pub torn : step_of p Torn ≡ Err Cut

abbrev number_then : Option ℤ → ℕ → List Token → Taken ℤ
number_then o n ts = or_fault o (Number n) >>= λ z. Ok (z, ts)

pub at_number : (p : Place) (next : ℤ → Result Told LefFault) → IsNumberPlace p next → (ts : List Token) → read p ts ≡ (number_in ts >>= λ z. then_read (next z.0) (λ q. read q z.1))
unfolding read
at_number p next place [] = place.ends
at_number p next place (Word n w ∷ ts) = rw (place.word n w) (by (nanometres_of w))
  where
    by : (o : Option ℤ) → then_read (then_number o n next) (λ q. read q ts) ≡ (number_then o n ts >>= λ z. then_read (next z.0) (λ q. read q z.1))
    by (Some z) = refl
    by None = refl
at_number p next place (Quoted n ∷ ts) = rw (place.quoted n) refl
at_number p next place (Semicolon n ∷ ts) = rw (place.semicolon n) refl
at_number p next place (Torn ∷ ts) = rw (place.torn) refl

pub record IsWordPlace (p : Place) (next : ℕ → List ℕ → Result Told LefFault) : Type 0 where
  pub ends : ended_at p ≡ Err Cut
  pub word : (n : ℕ) (w : List ℕ) → step_of p (Word n w) ≡ next n w
  pub semicolon : (n : ℕ) → step_of p (Semicolon n) ≡ Err (Statement n)
  pub quoted : (n : ℕ) → step_of p (Quoted n) ≡ Err (Statement n)
  pub torn : step_of p Torn ≡ Err Cut

pub at_word_place : (p : Place) (next : ℕ → List ℕ → Result Told LefFault) → IsWordPlace p next → (ts : List Token) → read p ts ≡ (word_in ts >>= λ w. then_read (next w.0.line w.0.text) (λ q. read q w.1))
unfolding read
at_word_place p next place [] = place.ends
at_word_place p next place (Word n w ∷ ts) = rw (place.word n w) refl
at_word_place p next place (Quoted n ∷ ts) = rw (place.quoted n) refl
at_word_place p next place (Semicolon n ∷ ts) = rw (place.semicolon n) refl
at_word_place p next place (Torn ∷ ts) = rw (place.torn) refl

pub in_macro_word : (cell : List ℕ) (ts : List Token) → read (At (InMacro cell)) ts ≡ (word_in ts >>= λ w. then_read (in_macro cell w.0.line (keyword_of w.0.text)) (λ q. read q w.1))
in_macro_word cell ts = at_word_place (At (InMacro cell)) (λ n w. in_macro cell n (keyword_of w)) (record { ends = refl; word = λ n w. refl; semicolon = λ n. refl; quoted = λ n. refl; torn = refl }) ts

pub in_pin_word : (cell pin : List ℕ) (ts : List Token) → read (At (InPin cell pin)) ts ≡ (word_in ts >>= λ w. then_read (in_pin cell pin (keyword_of w.0.text)) (λ q. read q w.1))
in_pin_word cell pin ts = at_word_place (At (InPin cell pin)) (λ n w. in_pin cell pin (keyword_of w)) (record { ends = refl; word = λ n w. refl; semicolon = λ n. refl; quoted = λ n. refl; torn = refl }) ts

pub in_block_word : (b : Block) (l : Current) (ts : List Token) → read (At (InBlock b l)) ts ≡ (word_in ts >>= λ w. then_read (in_block b l w.0.line (keyword_of w.0.text)) (λ q. read q w.1))
in_block_word b l ts = at_word_place (At (InBlock b l)) (λ n w. in_block b l n (keyword_of w)) (record { ends = refl; word = λ n w. refl; semicolon = λ n. refl; quoted = λ n. refl; torn = refl }) ts

pub macro_name : (ts : List Token) → read MacroName ts ≡ (word_in ts >>= λ w. with_items (Begins w.0.text ∷ []) (read (At (InMacro w.0.text)) w.1))
macro_name ts = at_word_place MacroName (λ n w. tells (Begins w) (At (InMacro w))) (record { ends = refl; word = λ n w. refl; semicolon = λ n. refl; quoted = λ n. refl; torn = refl }) ts

pub pin_name : (cell : List ℕ) (ts : List Token) → read (PinName cell) ts ≡ (word_in ts >>= λ w. with_items (Pin w.0.text ∷ []) (read (At (InPin cell w.0.text)) w.1))
pin_name cell ts = at_word_place (PinName cell) (λ n w. tells (Pin w) (At (InPin cell w))) (record { ends = refl; word = λ n w. refl; semicolon = λ n. refl; quoted = λ n. refl; torn = refl }) ts

-- a word that has to pass a test
pub asked : (b : Bool) (n : ℕ) (p : Place) (ts : List Token) → then_read (if b then goes p else Err (Statement n)) (λ q. read q ts) ≡ ((require b (Statement n) >>= λ _. Ok (tt, ts)) >>= λ (s : Unit {0} × List Token). read p s.1)
asked true n p ts = refl
asked false n p ts = refl

pub macro_end : (cell : List ℕ) (ts : List Token) → read (MacroEnd cell) ts ≡ (named_in cell ts >>= λ s. read (At InLibrary) s.1)
macro_end cell ts =
    at_word_place (MacroEnd cell) (λ n w. if bytes_eq w cell then goes (At InLibrary) else Err (Statement n)) (record { ends = refl; word = λ n w. refl; semicolon = λ n. refl; quoted = λ n. refl; torn = refl }) ts
    ∙ chained (word_in ts) (λ w. require (bytes_eq w.0.text cell) (Statement w.0.line) >>= λ _. Ok (tt, w.1)) (λ w. then_read (if bytes_eq w.0.text cell then goes (At InLibrary) else Err (Statement w.0.line)) (λ q. read q w.1)) (λ s. read (At InLibrary) s.1) (λ w. asked (bytes_eq w.0.text cell) w.0.line (At InLibrary) w.1)

pub pin_end : (cell pin : List ℕ) (ts : List Token) → read (PinEnd cell pin) ts ≡ (named_in pin ts >>= λ s. read (At (InMacro cell)) s.1)
pin_end cell pin ts =
    at_word_place (PinEnd cell pin) (λ n w. if bytes_eq w pin then goes (At (InMacro cell)) else Err (Statement n)) (record { ends = refl; word = λ n w. refl; semicolon = λ n. refl; quoted = λ n. refl; torn = refl }) ts
    ∙ chained (word_in ts) (λ w. require (bytes_eq w.0.text pin) (Statement w.0.line) >>= λ _. Ok (tt, w.1)) (λ w. then_read (if bytes_eq w.0.text pin then goes (At (InMacro cell)) else Err (Statement w.0.line)) (λ q. read q w.1)) (λ s. read (At (InMacro cell)) s.1) (λ w. asked (bytes_eq w.0.text pin) w.0.line (At (InMacro cell)) w.1)

pub keyword_place : (p next : Place) (text : List ℕ) → IsWordPlace p (λ n w. if is w text then goes next else Err (Statement n)) → (ts : List Token) → read p ts ≡ (keyword_in text ts >>= λ s. read next s.1)
keyword_place p next text place ts =
    at_word_place p (λ n w. if is w text then goes next else Err (Statement n)) place ts
    ∙ chained (word_in ts) (λ w. require (is w.0.text text) (Statement w.0.line) >>= λ _. Ok (tt, w.1)) (λ w. then_read (if is w.0.text text then goes next else Err (Statement w.0.line)) (λ q. read q w.1)) (λ s. read next s.1) (λ w. asked (is w.0.text text) w.0.line next w.1)

pub library_end : (ts : List Token) → read LibraryEnd ts ≡ (keyword_in (codes "LIBRARY") ts >>= λ s. read Ended s.1)
library_end ts = keyword_place LibraryEnd Ended (codes "LIBRARY") (record { ends = refl; word = λ n w. refl; semicolon = λ n. refl; quoted = λ n. refl; torn = refl }) ts

-- nothing is looked at behind END LIBRARY
pub ended_reads : (ts : List Token) → read Ended ts ≡ Ok []
unfolding read
ended_reads [] = refl
ended_reads (t ∷ ts) = ended_reads ts

-- ---- statements that tell nothing

pub passing : (b : Between) (ts : List Token) → read (Passing b) ts ≡ (passed ts >>= λ s. read (At b) s.1)
unfolding read passed
passing b [] = refl
passing b (Word n w ∷ ts) = passing b ts
passing b (Quoted n ∷ ts) = passing b ts
passing b (Semicolon n ∷ ts) = refl
passing b (Torn ∷ ts) = refl

abbrev pub units_place : Bool → Place
units_place true = UnitsEnd
units_place false = Units

pub in_units : (end : Bool) (ts : List Token) → read (units_place end) ts ≡ (units_passed end ts >>= λ s. read (At InLibrary) s.1)
unfolding read units_passed
in_units true [] = refl
in_units false [] = refl
in_units true (Word n w ∷ ts) = elim (cases_Bool (is w (codes "UNITS"))) [
  | inl ends ↦ rw ends refl
  | inr goes_on ↦ elim (cases_Bool (is w (codes "END"))) [
    | inl e ↦ rw (goes_on, e) (in_units true ts)
    | inr e ↦ rw (goes_on, e) (in_units false ts)
  ]
]
in_units false (Word n w ∷ ts) = elim (cases_Bool (is w (codes "END"))) [
  | inl e ↦ rw e (in_units true ts)
  | inr e ↦ rw e (in_units false ts)
]
in_units true (Quoted n ∷ ts) = in_units false ts
in_units false (Quoted n ∷ ts) = in_units false ts
in_units true (Semicolon n ∷ ts) = in_units false ts
in_units false (Semicolon n ∷ ts) = in_units false ts
in_units true (Torn ∷ ts) = refl
in_units false (Torn ∷ ts) = refl

pub height : (cell : List ℕ) (ts : List Token) → read (Height cell) ts ≡ ((number_in ts >>= λ h. semicolon_in h.1) >>= λ s. read (At (InMacro cell)) s.1)
height cell ts =
    at_number (Height cell) (λ z. goes (Closing (InMacro cell))) (record { ends = refl; word = λ n w. refl; semicolon = λ n. refl; quoted = λ n. refl; torn = refl }) ts
    ∙ chained (number_in ts) (λ h. semicolon_in h.1) (λ h. read (Closing (InMacro cell)) h.1) (λ s. read (At (InMacro cell)) s.1) (λ h. closing (InMacro cell) h.1)

pub by_height : (cell : List ℕ) (ts : List Token) → read (By cell) ts ≡ ((keyword_in (codes "BY") ts >>= λ b. number_in b.1 >>= λ h. semicolon_in h.1) >>= λ s. read (At (InMacro cell)) s.1)
by_height cell ts =
    keyword_place (By cell) (Height cell) (codes "BY") (record { ends = refl; word = λ n w. refl; semicolon = λ n. refl; quoted = λ n. refl; torn = refl }) ts
    ∙ chained (keyword_in (codes "BY") ts) (λ b. number_in b.1 >>= λ h. semicolon_in h.1) (λ b. read (Height cell) b.1) (λ s. read (At (InMacro cell)) s.1) (λ b. height cell b.1)

pub size_reads : (cell : List ℕ) (ts : List Token) → read (Width cell) ts ≡ (size_in ts >>= λ s. read (At (InMacro cell)) s.1)
size_reads cell ts =
    at_number (Width cell) (λ z. goes (By cell)) (record { ends = refl; word = λ n w. refl; semicolon = λ n. refl; quoted = λ n. refl; torn = refl }) ts
    ∙ chained (number_in ts) (λ w. keyword_in (codes "BY") w.1 >>= λ b. number_in b.1 >>= λ h. semicolon_in h.1) (λ w. read (By cell) w.1) (λ s. read (At (InMacro cell)) s.1) (λ w. by_height cell w.1)

pub origin_ends : (a b : Bool) (line : ℕ) (cell : List ℕ) (ts : List Token) → then_read (if a && b then goes (Closing (InMacro cell)) else Err (Statement line)) (λ q. read q ts) ≡ ((require a (Statement line) >>= λ _. require b (Statement line) >>= λ _. semicolon_in ts) >>= λ s. read (At (InMacro cell)) s.1)
origin_ends true true line cell ts = closing (InMacro cell) ts
origin_ends true false line cell ts = refl
origin_ends false b line cell ts = refl

pub origin_y : (cell : List ℕ) (line : ℕ) (x : ℤ) (ts : List Token) → read (OriginY cell line x) ts ≡ ((number_in ts >>= λ y. require (unsigned_abs x == 0) (Statement line) >>= λ _. require (unsigned_abs y.0 == 0) (Statement line) >>= λ _. semicolon_in y.1) >>= λ s. read (At (InMacro cell)) s.1)
origin_y cell line x ts =
    at_number (OriginY cell line x) (λ z. origin_told cell line x z) (record { ends = refl; word = λ n w. refl; semicolon = λ n. refl; quoted = λ n. refl; torn = refl }) ts
    ∙ chained (number_in ts) (λ y. require (unsigned_abs x == 0) (Statement line) >>= λ _. require (unsigned_abs y.0 == 0) (Statement line) >>= λ _. semicolon_in y.1) (λ y. then_read (origin_told cell line x y.0) (λ q. read q y.1)) (λ s. read (At (InMacro cell)) s.1) (λ y. origin_ends (unsigned_abs x == 0) (unsigned_abs y.0 == 0) line cell y.1)

pub origin_reads : (cell : List ℕ) (line : ℕ) (ts : List Token) → read (OriginX cell line) ts ≡ (origin_in line ts >>= λ s. read (At (InMacro cell)) s.1)
origin_reads cell line ts =
    at_number (OriginX cell line) (λ z. goes (OriginY cell line z)) (record { ends = refl; word = λ n w. refl; semicolon = λ n. refl; quoted = λ n. refl; torn = refl }) ts
    ∙ chained (number_in ts) (λ x. number_in x.1 >>= λ y. require (unsigned_abs x.0 == 0) (Statement line) >>= λ _. require (unsigned_abs y.0 == 0) (Statement line) >>= λ _. semicolon_in y.1) (λ x. read (OriginY cell line x.0) x.1) (λ s. read (At (InMacro cell)) s.1) (λ x. origin_y cell line x.0 x.1)

pub layer_reads : (b : Block) (ts : List Token) → read (LayerName b) ts ≡ (layer_in ts >>= λ s. read (At (InBlock b s.0)) s.1)
layer_reads b ts =
    at_word_place (LayerName b) (λ n w. goes (Closing (InBlock b (layer_named w)))) (record { ends = refl; word = λ n w. refl; semicolon = λ n. refl; quoted = λ n. refl; torn = refl }) ts
    ∙ chained (word_in ts) (λ w. semicolon_in w.1 >>= λ s. Ok (layer_named w.0.text, s.1)) (λ w. read (Closing (InBlock b (layer_named w.0.text))) w.1) (λ s. read (At (InBlock b s.0)) s.1) (λ w. closing (InBlock b (layer_named w.0.text)) w.1 ∙ chained (semicolon_in w.1) (λ s. Ok (layer_named w.0.text, s.1)) (λ s. read (At (InBlock b (layer_named w.0.text))) s.1) (λ s. read (At (InBlock b s.0)) s.1) (λ s. refl))

-- ---- a rectangle

abbrev pub rect_behind : Block → Current → ℕ → Rectangle × List Token → Items
rect_behind b l line s = then_read (rect_told b l line s.0) (λ q. read q s.1)

pub sides_end : (a : Bool) (b : Block) (l : Current) (line : ℕ) (r : Rectangle) (ts : List Token) → then_read (if a then rect_told b l line r else Err (Number line)) (λ q. read q ts) ≡ ((require a (Number line) >>= λ _. Ok (r, ts)) >>= rect_behind b l line)
sides_end true b l line r ts = refl
sides_end false b l line r ts = refl

pub at_y2 : (b : Block) (l : Current) (line : ℕ) (x1 y1 x2 : ℤ) (ts : List Token) → read (Y2 b l line x1 y1 x2) ts ≡ ((number_in ts >>= λ y2. ascending_sides line (record { x1 = x1; y1 = y1; x2 = x2; y2 = y2.0 }) y2.1) >>= rect_behind b l line)
at_y2 b l line x1 y1 x2 ts =
    at_number (Y2 b l line x1 y1 x2) (λ z. sides_told b l line (record { x1 = x1; y1 = y1; x2 = x2; y2 = z })) (record { ends = refl; word = λ n w. refl; semicolon = λ n. refl; quoted = λ n. refl; torn = refl }) ts
    ∙ chained (number_in ts) (λ y2. ascending_sides line (record { x1 = x1; y1 = y1; x2 = x2; y2 = y2.0 }) y2.1) (λ y2. then_read (sides_told b l line (record { x1 = x1; y1 = y1; x2 = x2; y2 = y2.0 })) (λ q. read q y2.1)) (rect_behind b l line) (λ y2. sides_end (ascending (record { x1 = x1; y1 = y1; x2 = x2; y2 = y2.0 })) b l line (record { x1 = x1; y1 = y1; x2 = x2; y2 = y2.0 }) y2.1)

pub at_x2 : (b : Block) (l : Current) (line : ℕ) (x1 y1 : ℤ) (ts : List Token) → read (X2 b l line x1 y1) ts ≡ ((number_in ts >>= λ x2. number_in x2.1 >>= λ y2. ascending_sides line (record { x1 = x1; y1 = y1; x2 = x2.0; y2 = y2.0 }) y2.1) >>= rect_behind b l line)
at_x2 b l line x1 y1 ts =
    at_number (X2 b l line x1 y1) (λ z. goes (Y2 b l line x1 y1 z)) (record { ends = refl; word = λ n w. refl; semicolon = λ n. refl; quoted = λ n. refl; torn = refl }) ts
    ∙ chained (number_in ts) (λ x2. number_in x2.1 >>= λ y2. ascending_sides line (record { x1 = x1; y1 = y1; x2 = x2.0; y2 = y2.0 }) y2.1) (λ x2. read (Y2 b l line x1 y1 x2.0) x2.1) (rect_behind b l line) (λ x2. at_y2 b l line x1 y1 x2.0 x2.1)

pub at_y1 : (b : Block) (l : Current) (line : ℕ) (x1 : ℤ) (ts : List Token) → read (Y1 b l line x1) ts ≡ ((number_in ts >>= λ y1. number_in y1.1 >>= λ x2. number_in x2.1 >>= λ y2. ascending_sides line (record { x1 = x1; y1 = y1.0; x2 = x2.0; y2 = y2.0 }) y2.1) >>= rect_behind b l line)
at_y1 b l line x1 ts =
    at_number (Y1 b l line x1) (λ z. goes (X2 b l line x1 z)) (record { ends = refl; word = λ n w. refl; semicolon = λ n. refl; quoted = λ n. refl; torn = refl }) ts
    ∙ chained (number_in ts) (λ y1. number_in y1.1 >>= λ x2. number_in x2.1 >>= λ y2. ascending_sides line (record { x1 = x1; y1 = y1.0; x2 = x2.0; y2 = y2.0 }) y2.1) (λ y1. read (X2 b l line x1 y1.0) y1.1) (rect_behind b l line) (λ y1. at_x2 b l line x1 y1.0 y1.1)

pub rect_reads : (b : Block) (l : Current) (line : ℕ) (ts : List Token) → read (X1 b l line) ts ≡ (rect_of line ts >>= rect_behind b l line)
rect_reads b l line ts =
    at_number (X1 b l line) (λ z. goes (Y1 b l line z)) (record { ends = refl; word = λ n w. refl; semicolon = λ n. refl; quoted = λ n. refl; torn = refl }) ts
    ∙ chained (number_in ts) (λ x1. number_in x1.1 >>= λ y1. number_in y1.1 >>= λ x2. number_in x2.1 >>= λ y2. ascending_sides line (record { x1 = x1.0; y1 = y1.0; x2 = x2.0; y2 = y2.0 }) y2.1) (λ x1. read (Y1 b l line x1.0) x1.1) (rect_behind b l line) (λ x1. at_y1 b l line x1.0 x1.1)
