-- What a draft and the tokens to come will come to, from statement to statement.
use Rattle.std.proofs.Common.{ℕ, ◌≡◌, false, List, [], ◌∷◌, refl, sym, ap, ◌∙◌, codes}
use Rattle.std.specs.Prelude.{Result, Ok, Err, ◌≢◌}
use Rattle.std.specs.Result.{IsErrAnd}
use Rattle.cell_num.specs.Steps.{◌>>=◌}
use Rattle.box_geom.specs.Rectangle.{Rectangle}
use Rattle.box_geom.specs.declared.layer.Layer.{Layer}
use Rattle.lef_read.specs.Tokens.{Token, Word, Quoted, Semicolon, Torn}
use Rattle.lef_read.specs.Keywords.{keyword_of}
use Rattle.lef_read.specs.Reading.{Item, Begins, Pin, Block, OfPin, OfMacro, Between, InLibrary, InMacro, InPin, InBlock, At, Passing, Closing, Ended, MacroName, PinName, goes, in_library, in_macro, in_pin, in_block, rect_begins, behind_block, item_of, with_items, then_read, read}
use Rattle.lef_read.specs.Statements.{LinedWord, Taken, word_in, semicolon_in, named_in, keyword_in, passed, units_passed, size_in, origin_in, rect_of, layer_in}
use Rattle.lef_read.specs.Drafts.{Draft, completed, outcome, Keeps}
use Rattle.lef_read.specs.declared.block_kind.Current.{Current}
use Rattle.lef_read.specs.declared.block_kind.Current.TheVariants.{NoLayer, OtherLayer, Wires}
use Rattle.lef_read.specs.declared.keyword.Keyword.{Keyword}
use Rattle.lef_read.specs.declared.keyword.Keyword.TheVariants as keyword
use Rattle.lef_read.specs.declared.fault.LefFault.{LefFault}
use Rattle.lef_read.specs.declared.fault.LefFault.TheVariants as fault
use Rattle.lef_read.specs.declared.cell.Macro.{Macro}
use Rattle.lef_read.proofs.Places.{Items, in_macro_word, in_pin_word, in_block_word, macro_name, pin_name, macro_end, pin_end, library_end, ended_reads, passing, in_units, size_reads, origin_reads, layer_reads, rect_reads, closing}

-- a refusal is that of the whole
pub is_refused : (f : LefFault) (before after : Result Macro LefFault) → before ≡ Err f → Keeps (Err f) before after
is_refused (fault.Statement n) before after e = e
is_refused (fault.Number n) before after e = e
is_refused fault.Cut before after e = e
is_refused fault.NoMacro before after e = e
is_refused (fault.Grid n) before after e = e
is_refused fault.NoMemory before after e = tt

-- so is that of a part which keeps what the whole comes to
pub refused_part : (f : LefFault) (whole before after later : Result Macro LefFault) → whole ≡ before → Keeps (Err f) before after → Keeps (Err f) whole later
refused_part (fault.Statement n) whole before after later e k = e ∙ k
refused_part (fault.Number n) whole before after later e k = e ∙ k
refused_part fault.Cut whole before after later e k = e ∙ k
refused_part fault.NoMacro whole before after later e k = e ∙ k
refused_part (fault.Grid n) whole before after later e k = e ∙ k
refused_part fault.NoMemory whole before after later e k = tt

-- memory may run out anywhere
pub no_memory : (before after : Result Macro LefFault) (f : LefFault) → f ≡ fault.NoMemory → Keeps (Err f) before after
no_memory before after f e = rw e tt

-- the exit of a `?`
pub at_exit : (r : Result (Unit {0}) LefFault) (f : LefFault) (before after : Result Macro LefFault) → IsErrAnd r (λ y. y ≡ f) → Keeps (Err f) before after → Keeps r before after
at_exit (Ok x) f before after h k = absurd h
at_exit (Err y) f before after h k = rw h k

-- what comes to a fault is refused so
pub fails : (d : Draft) (items : Items) (f : LefFault) (before after : Result Macro LefFault) → before ≡ outcome d items → items ≡ Err f → Keeps (Err f) before after
unfolding outcome
fails d items f before after e g = is_refused f before after (e ∙ rw g refl)

-- a step of a chain that is refused, or that goes on
pub step_fails : {A : Type 0} (r : Taken A) (k : A × List Token → Items) (f : LefFault) → r ≡ Err f → (r >>= k) ≡ Err f
step_fails r k f e = rw e refl

pub step_goes : {A : Type 0} (r : Taken A) (k : A × List Token → Items) (a : A) (ts : List Token) → r ≡ Ok (a, ts) → (r >>= k) ≡ k (a, ts)
step_goes r k a ts e = rw e refl

-- an item that a draft took
pub told : (d e : Draft) (i : Item) (items : Items) → ((rest : List Item) → completed d (i ∷ rest) ≡ completed e rest) → outcome d (with_items (i ∷ []) items) ≡ outcome e items
unfolding outcome
told d e i (Ok rest) same = same rest
told d e i (Err f) same = refl

-- ---- a block of rectangles

abbrev word_at : ℕ → List ℕ → LinedWord
word_at n w = record { line = n; text = w }

-- the word that begins a statement of a block
block_word : (b : Block) (l : Current) (ts us : List Token) (n : ℕ) (w : List ℕ) (k : Keyword) → word_in ts ≡ Ok (word_at n w, us) → keyword_of w ≡ k → read (At (InBlock b l)) ts ≡ then_read (in_block b l n k) (λ q. read q us)
block_word b l ts us n w k e f = in_block_word b l ts ∙ rw (e, f) refl

pub block_fails : (d : Draft) (b : Block) (l : Current) (ts : List Token) (f : LefFault) (before after : Result Macro LefFault) → before ≡ outcome d (read (At (InBlock b l)) ts) → word_in ts ≡ Err f → Keeps (Err f) before after
block_fails d b l ts f before after e g = fails d _ f before after e (in_block_word b l ts ∙ rw g refl)

pub block_ends : (d : Draft) (b : Block) (l : Current) (ts us : List Token) (n : ℕ) (w : List ℕ) (before : Result Macro LefFault) → before ≡ outcome d (read (At (InBlock b l)) ts) → word_in ts ≡ Ok (word_at n w, us) → keyword_of w ≡ keyword.End → before ≡ outcome d (read (behind_block b) us)
block_ends d b l ts us n w before e f g = e ∙ ap (outcome d) (block_word b l ts us n w keyword.End f g)

pub block_layer : (d : Draft) (b : Block) (l : Current) (ts us : List Token) (n : ℕ) (w : List ℕ) (before : Result Macro LefFault) → before ≡ outcome d (read (At (InBlock b l)) ts) → word_in ts ≡ Ok (word_at n w, us) → keyword_of w ≡ keyword.Layer → before ≡ outcome d (layer_in us >>= λ s. read (At (InBlock b s.0)) s.1)
block_layer d b l ts us n w before e f g = e ∙ ap (outcome d) (block_word b l ts us n w keyword.Layer f g ∙ layer_reads b us)

pub block_class : (d : Draft) (b : Block) (l : Current) (ts us : List Token) (n : ℕ) (w : List ℕ) (before : Result Macro LefFault) → before ≡ outcome d (read (At (InBlock b l)) ts) → word_in ts ≡ Ok (word_at n w, us) → keyword_of w ≡ keyword.Class → before ≡ outcome d (passed us >>= λ s. read (At (InBlock b l)) s.1)
block_class d b l ts us n w before e f g = e ∙ ap (outcome d) (block_word b l ts us n w keyword.Class f g ∙ passing (InBlock b l) us)

pub block_rect : (d : Draft) (b : Block) (l : Current) (ts us : List Token) (n : ℕ) (w : List ℕ) (before : Result Macro LefFault) → before ≡ outcome d (read (At (InBlock b l)) ts) → word_in ts ≡ Ok (word_at n w, us) → keyword_of w ≡ keyword.Rect → before ≡ outcome d (then_read (rect_begins b l n) (λ q. read q us))
block_rect d b l ts us n w before e f g = e ∙ ap (outcome d) (block_word b l ts us n w keyword.Rect f g)

-- the statements of a block are these four
pub other_in_block : (b : Block) (l : Current) (n : ℕ) (k : Keyword) → (k ≡ keyword.End → ⊥) → (k ≡ keyword.Layer → ⊥) → (k ≡ keyword.Rect → ⊥) → (k ≡ keyword.Class → ⊥) → in_block b l n k ≡ Err (fault.Statement n)
other_in_block b l n keyword.End e f g h = absurd (e refl)
other_in_block b l n keyword.Layer e f g h = absurd (f refl)
other_in_block b l n keyword.Rect e f g h = absurd (g refl)
other_in_block b l n keyword.Class e f g h = absurd (h refl)
other_in_block b l n keyword.By e f g h = refl
other_in_block b l n keyword.Density e f g h = refl
other_in_block b l n keyword.Header e f g h = refl
other_in_block b l n keyword.Library e f g h = refl
other_in_block b l n keyword.Macro e f g h = refl
other_in_block b l n keyword.Obs e f g h = refl
other_in_block b l n keyword.Origin e f g h = refl
other_in_block b l n keyword.Pin e f g h = refl
other_in_block b l n keyword.Port e f g h = refl
other_in_block b l n keyword.Size e f g h = refl
other_in_block b l n keyword.Units e f g h = refl
other_in_block b l n keyword.Other e f g h = refl

-- ---- what a chain comes to

pub part_fails : {A : Type 0} (d : Draft) (r : Taken A) (k : A × List Token → Items) (f : LefFault) (before after : Result Macro LefFault) → before ≡ outcome d (r >>= k) → r ≡ Err f → Keeps (Err f) before after
part_fails d r k f before after e g = fails d (r >>= k) f before after e (step_fails r k f g)

pub part_goes : {A : Type 0} (d : Draft) (r : Taken A) (k : A × List Token → Items) (a : A) (ts : List Token) (before : Result Macro LefFault) → before ≡ outcome d (r >>= k) → r ≡ Ok (a, ts) → before ≡ outcome d (k (a, ts))
part_goes d r k a ts before e g = e ∙ ap (outcome d) (step_goes r k a ts g)

-- ---- a pin

pin_word : (cell pin : List ℕ) (ts us : List Token) (n : ℕ) (w : List ℕ) (k : Keyword) → word_in ts ≡ Ok (word_at n w, us) → keyword_of w ≡ k → read (At (InPin cell pin)) ts ≡ then_read (in_pin cell pin k) (λ q. read q us)
pin_word cell pin ts us n w k e f = in_pin_word cell pin ts ∙ rw (e, f) refl

pub pin_fails : (d : Draft) (cell pin : List ℕ) (ts : List Token) (f : LefFault) (before after : Result Macro LefFault) → before ≡ outcome d (read (At (InPin cell pin)) ts) → word_in ts ≡ Err f → Keeps (Err f) before after
pin_fails d cell pin ts f before after e g = fails d _ f before after e (in_pin_word cell pin ts ∙ rw g refl)

pub pin_ends : (d : Draft) (cell pin : List ℕ) (ts us : List Token) (n : ℕ) (w : List ℕ) (before : Result Macro LefFault) → before ≡ outcome d (read (At (InPin cell pin)) ts) → word_in ts ≡ Ok (word_at n w, us) → keyword_of w ≡ keyword.End → before ≡ outcome d (named_in pin us >>= λ s. read (At (InMacro cell)) s.1)
pin_ends d cell pin ts us n w before e f g = e ∙ ap (outcome d) (pin_word cell pin ts us n w keyword.End f g ∙ pin_end cell pin us)

pub pin_port : (d : Draft) (cell pin : List ℕ) (ts us : List Token) (n : ℕ) (w : List ℕ) (before : Result Macro LefFault) → before ≡ outcome d (read (At (InPin cell pin)) ts) → word_in ts ≡ Ok (word_at n w, us) → keyword_of w ≡ keyword.Port → before ≡ outcome d (read (At (InBlock (OfPin cell pin) NoLayer)) us)
pin_port d cell pin ts us n w before e f g = e ∙ ap (outcome d) (pin_word cell pin ts us n w keyword.Port f g)

other_in_pin : (cell pin : List ℕ) (k : Keyword) → (k ≡ keyword.End → ⊥) → (k ≡ keyword.Port → ⊥) → in_pin cell pin k ≡ goes (Passing (InPin cell pin))
other_in_pin cell pin keyword.End e f = absurd (e refl)
other_in_pin cell pin keyword.Port e f = absurd (f refl)
other_in_pin cell pin keyword.By e f = refl
other_in_pin cell pin keyword.Class e f = refl
other_in_pin cell pin keyword.Density e f = refl
other_in_pin cell pin keyword.Header e f = refl
other_in_pin cell pin keyword.Layer e f = refl
other_in_pin cell pin keyword.Library e f = refl
other_in_pin cell pin keyword.Macro e f = refl
other_in_pin cell pin keyword.Obs e f = refl
other_in_pin cell pin keyword.Origin e f = refl
other_in_pin cell pin keyword.Pin e f = refl
other_in_pin cell pin keyword.Rect e f = refl
other_in_pin cell pin keyword.Size e f = refl
other_in_pin cell pin keyword.Units e f = refl
other_in_pin cell pin keyword.Other e f = refl

pub pin_other : (d : Draft) (cell pin : List ℕ) (ts us : List Token) (n : ℕ) (w : List ℕ) (before : Result Macro LefFault) → before ≡ outcome d (read (At (InPin cell pin)) ts) → word_in ts ≡ Ok (word_at n w, us) → (keyword_of w ≡ keyword.End → ⊥) → (keyword_of w ≡ keyword.Port → ⊥) → before ≡ outcome d (passed us >>= λ s. read (At (InPin cell pin)) s.1)
pin_other d cell pin ts us n w before e f g h = e ∙ ap (outcome d) (pin_word cell pin ts us n w (keyword_of w) f refl ∙ ap (λ r. then_read r (λ q. read q us)) (other_in_pin cell pin (keyword_of w) g h) ∙ passing (InPin cell pin) us)

-- ---- a macro

macro_word : (cell : List ℕ) (ts us : List Token) (n : ℕ) (w : List ℕ) (k : Keyword) → word_in ts ≡ Ok (word_at n w, us) → keyword_of w ≡ k → read (At (InMacro cell)) ts ≡ then_read (in_macro cell n k) (λ q. read q us)
macro_word cell ts us n w k e f = in_macro_word cell ts ∙ rw (e, f) refl

pub macro_fails : (d : Draft) (cell : List ℕ) (ts : List Token) (f : LefFault) (before after : Result Macro LefFault) → before ≡ outcome d (read (At (InMacro cell)) ts) → word_in ts ≡ Err f → Keeps (Err f) before after
macro_fails d cell ts f before after e g = fails d _ f before after e (in_macro_word cell ts ∙ rw g refl)

pub macro_ends : (d : Draft) (cell : List ℕ) (ts us : List Token) (n : ℕ) (w : List ℕ) (before : Result Macro LefFault) → before ≡ outcome d (read (At (InMacro cell)) ts) → word_in ts ≡ Ok (word_at n w, us) → keyword_of w ≡ keyword.End → before ≡ outcome d (named_in cell us >>= λ s. read (At InLibrary) s.1)
macro_ends d cell ts us n w before e f g = e ∙ ap (outcome d) (macro_word cell ts us n w keyword.End f g ∙ macro_end cell us)

pub macro_size : (d : Draft) (cell : List ℕ) (ts us : List Token) (n : ℕ) (w : List ℕ) (before : Result Macro LefFault) → before ≡ outcome d (read (At (InMacro cell)) ts) → word_in ts ≡ Ok (word_at n w, us) → keyword_of w ≡ keyword.Size → before ≡ outcome d (size_in us >>= λ s. read (At (InMacro cell)) s.1)
macro_size d cell ts us n w before e f g = e ∙ ap (outcome d) (macro_word cell ts us n w keyword.Size f g ∙ size_reads cell us)

pub macro_origin : (d : Draft) (cell : List ℕ) (ts us : List Token) (n : ℕ) (w : List ℕ) (before : Result Macro LefFault) → before ≡ outcome d (read (At (InMacro cell)) ts) → word_in ts ≡ Ok (word_at n w, us) → keyword_of w ≡ keyword.Origin → before ≡ outcome d (origin_in n us >>= λ s. read (At (InMacro cell)) s.1)
macro_origin d cell ts us n w before e f g = e ∙ ap (outcome d) (macro_word cell ts us n w keyword.Origin f g ∙ origin_reads cell n us)

pub macro_pin : (d : Draft) (cell : List ℕ) (ts us : List Token) (n : ℕ) (w : List ℕ) (before : Result Macro LefFault) → before ≡ outcome d (read (At (InMacro cell)) ts) → word_in ts ≡ Ok (word_at n w, us) → keyword_of w ≡ keyword.Pin → before ≡ outcome d (read (PinName cell) us)
macro_pin d cell ts us n w before e f g = e ∙ ap (outcome d) (macro_word cell ts us n w keyword.Pin f g)

pub macro_obs : (d : Draft) (cell : List ℕ) (ts us : List Token) (n : ℕ) (w : List ℕ) (before : Result Macro LefFault) → before ≡ outcome d (read (At (InMacro cell)) ts) → word_in ts ≡ Ok (word_at n w, us) → keyword_of w ≡ keyword.Obs → before ≡ outcome d (read (At (InBlock (OfMacro cell) NoLayer)) us)
macro_obs d cell ts us n w before e f g = e ∙ ap (outcome d) (macro_word cell ts us n w keyword.Obs f g)

pub macro_density : (d : Draft) (cell : List ℕ) (ts us : List Token) (n : ℕ) (w : List ℕ) (before : Result Macro LefFault) → before ≡ outcome d (read (At (InMacro cell)) ts) → word_in ts ≡ Ok (word_at n w, us) → keyword_of w ≡ keyword.Density → before ≡ Err (fault.Statement n)
macro_density d cell ts us n w before e f g = fails d _ (fault.Statement n) before before e (macro_word cell ts us n w keyword.Density f g)

other_in_macro : (cell : List ℕ) (n : ℕ) (k : Keyword) → (k ≡ keyword.End → ⊥) → (k ≡ keyword.Size → ⊥) → (k ≡ keyword.Origin → ⊥) → (k ≡ keyword.Pin → ⊥) → (k ≡ keyword.Obs → ⊥) → (k ≡ keyword.Density → ⊥) → in_macro cell n k ≡ goes (Passing (InMacro cell))
other_in_macro cell n keyword.End a b c e f g = absurd (a refl)
other_in_macro cell n keyword.Size a b c e f g = absurd (b refl)
other_in_macro cell n keyword.Origin a b c e f g = absurd (c refl)
other_in_macro cell n keyword.Pin a b c e f g = absurd (e refl)
other_in_macro cell n keyword.Obs a b c e f g = absurd (f refl)
other_in_macro cell n keyword.Density a b c e f g = absurd (g refl)
other_in_macro cell n keyword.By a b c e f g = refl
other_in_macro cell n keyword.Class a b c e f g = refl
other_in_macro cell n keyword.Header a b c e f g = refl
other_in_macro cell n keyword.Layer a b c e f g = refl
other_in_macro cell n keyword.Library a b c e f g = refl
other_in_macro cell n keyword.Macro a b c e f g = refl
other_in_macro cell n keyword.Port a b c e f g = refl
other_in_macro cell n keyword.Rect a b c e f g = refl
other_in_macro cell n keyword.Units a b c e f g = refl
other_in_macro cell n keyword.Other a b c e f g = refl

pub macro_other : (d : Draft) (cell : List ℕ) (ts us : List Token) (n : ℕ) (w : List ℕ) (before : Result Macro LefFault) → before ≡ outcome d (read (At (InMacro cell)) ts) → word_in ts ≡ Ok (word_at n w, us) → (keyword_of w ≡ keyword.End → ⊥) → (keyword_of w ≡ keyword.Size → ⊥) → (keyword_of w ≡ keyword.Origin → ⊥) → (keyword_of w ≡ keyword.Pin → ⊥) → (keyword_of w ≡ keyword.Obs → ⊥) → (keyword_of w ≡ keyword.Density → ⊥) → before ≡ outcome d (passed us >>= λ s. read (At (InMacro cell)) s.1)
macro_other d cell ts us n w before e f a b c g h i = e ∙ ap (outcome d) (macro_word cell ts us n w (keyword_of w) f refl ∙ ap (λ r. then_read r (λ q. read q us)) (other_in_macro cell n (keyword_of w) a b c g h i) ∙ passing (InMacro cell) us)

-- ---- the library

abbrev line_of : Taken LinedWord → ℕ
line_of (Ok p) = p.0.line
line_of (Err f) = 0

abbrev text_of : Taken LinedWord → List ℕ
text_of (Ok p) = p.0.text
text_of (Err f) = []

abbrev rest_of : Taken LinedWord → List Token
rest_of (Ok p) = p.1
rest_of (Err f) = []

same_fault : (f g : LefFault) → ◌≡◌ {A = Taken LinedWord} (Err f) (Err g) → f ≡ g
same_fault f g e = cc

no_word : {X : Type 0} (f : LefFault) (p : LinedWord × List Token) → ◌≡◌ {A = Taken LinedWord} (Err f) (Ok p) → X
no_word f p e = absurd cc

library_word : (ts us : List Token) (n : ℕ) (w : List ℕ) (k : Keyword) → word_in ts ≡ Ok (word_at n w, us) → keyword_of w ≡ k → read (At InLibrary) ts ≡ then_read (in_library n k) (λ q. read q us)
unfolding read
library_word [] us n w k e f = no_word fault.Cut (word_at n w, us) e
library_word (Word m v ∷ ts) us n w k e f = rw (ap line_of e, ap text_of e, ap rest_of e, f) refl
library_word (Quoted m ∷ ts) us n w k e f = no_word (fault.Statement m) (word_at n w, us) e
library_word (Semicolon m ∷ ts) us n w k e f = no_word (fault.Statement m) (word_at n w, us) e
library_word (Torn ∷ ts) us n w k e f = no_word fault.Cut (word_at n w, us) e

library_err : (ts : List Token) (f : LefFault) → word_in ts ≡ Err f → ts ≢ [] → read (At InLibrary) ts ≡ Err f
unfolding read
library_err [] f e more = absurd (more refl)
library_err (Word n w ∷ ts) f e more = no_word f (word_at n w, ts) (sym e)
library_err (Quoted n ∷ ts) f e more = rw (same_fault (fault.Statement n) f e) refl
library_err (Semicolon n ∷ ts) f e more = rw (same_fault (fault.Statement n) f e) refl
library_err (Torn ∷ ts) f e more = rw (same_fault fault.Cut f e) refl

pub library_fails : (d : Draft) (ts : List Token) (f : LefFault) (before after : Result Macro LefFault) → before ≡ outcome d (read (At InLibrary) ts) → word_in ts ≡ Err f → ts ≢ [] → Keeps (Err f) before after
library_fails d ts f before after e g more = fails d _ f before after e (library_err ts f g more)

pub library_stops : (d : Draft) (ts : List Token) (before : Result Macro LefFault) → before ≡ outcome d (read (At InLibrary) ts) → ts ≡ [] → before ≡ outcome d (Ok [])
unfolding read
library_stops d ts before e f = e ∙ rw f refl

pub library_ends : (d : Draft) (ts us : List Token) (n : ℕ) (w : List ℕ) (before : Result Macro LefFault) → before ≡ outcome d (read (At InLibrary) ts) → word_in ts ≡ Ok (word_at n w, us) → keyword_of w ≡ keyword.End → before ≡ outcome d (keyword_in (codes "LIBRARY") us >>= λ s. read Ended s.1)
library_ends d ts us n w before e f g = e ∙ ap (outcome d) (library_word ts us n w keyword.End f g ∙ library_end us)

pub ended_there : (d : Draft) (ts : List Token) (before : Result Macro LefFault) → before ≡ outcome d (read Ended ts) → before ≡ outcome d (Ok [])
ended_there d ts before e = e ∙ ap (outcome d) (ended_reads ts)

pub library_header : (d : Draft) (ts us : List Token) (n : ℕ) (w : List ℕ) (before : Result Macro LefFault) → before ≡ outcome d (read (At InLibrary) ts) → word_in ts ≡ Ok (word_at n w, us) → keyword_of w ≡ keyword.Header → before ≡ outcome d (passed us >>= λ s. read (At InLibrary) s.1)
library_header d ts us n w before e f g = e ∙ ap (outcome d) (library_word ts us n w keyword.Header f g ∙ passing InLibrary us)

pub library_units : (d : Draft) (ts us : List Token) (n : ℕ) (w : List ℕ) (before : Result Macro LefFault) → before ≡ outcome d (read (At InLibrary) ts) → word_in ts ≡ Ok (word_at n w, us) → keyword_of w ≡ keyword.Units → before ≡ outcome d (units_passed false us >>= λ s. read (At InLibrary) s.1)
library_units d ts us n w before e f g = e ∙ ap (outcome d) (library_word ts us n w keyword.Units f g ∙ in_units false us)

pub library_macro : (d : Draft) (ts us : List Token) (n : ℕ) (w : List ℕ) (before : Result Macro LefFault) → before ≡ outcome d (read (At InLibrary) ts) → word_in ts ≡ Ok (word_at n w, us) → keyword_of w ≡ keyword.Macro → before ≡ outcome d (read MacroName us)
library_macro d ts us n w before e f g = e ∙ ap (outcome d) (library_word ts us n w keyword.Macro f g)

other_in_library : (n : ℕ) (k : Keyword) → (k ≡ keyword.End → ⊥) → (k ≡ keyword.Header → ⊥) → (k ≡ keyword.Units → ⊥) → (k ≡ keyword.Macro → ⊥) → in_library n k ≡ Err (fault.Statement n)
other_in_library n keyword.End a b c e = absurd (a refl)
other_in_library n keyword.Header a b c e = absurd (b refl)
other_in_library n keyword.Units a b c e = absurd (c refl)
other_in_library n keyword.Macro a b c e = absurd (e refl)
other_in_library n keyword.By a b c e = refl
other_in_library n keyword.Class a b c e = refl
other_in_library n keyword.Density a b c e = refl
other_in_library n keyword.Layer a b c e = refl
other_in_library n keyword.Library a b c e = refl
other_in_library n keyword.Obs a b c e = refl
other_in_library n keyword.Origin a b c e = refl
other_in_library n keyword.Pin a b c e = refl
other_in_library n keyword.Port a b c e = refl
other_in_library n keyword.Rect a b c e = refl
other_in_library n keyword.Size a b c e = refl
other_in_library n keyword.Other a b c e = refl

pub library_other : (d : Draft) (ts us : List Token) (n : ℕ) (w : List ℕ) (before : Result Macro LefFault) → before ≡ outcome d (read (At InLibrary) ts) → word_in ts ≡ Ok (word_at n w, us) → (keyword_of w ≡ keyword.End → ⊥) → (keyword_of w ≡ keyword.Header → ⊥) → (keyword_of w ≡ keyword.Units → ⊥) → (keyword_of w ≡ keyword.Macro → ⊥) → before ≡ Err (fault.Statement n)
library_other d ts us n w before e f a b c g = fails d _ (fault.Statement n) before before e (library_word ts us n w (keyword_of w) f refl ∙ ap (λ r. then_read r (λ q. read q us)) (other_in_library n (keyword_of w) a b c g))

-- ---- names

pub macro_named : (d : Draft) (ts : List Token) (f : LefFault) (before after : Result Macro LefFault) → before ≡ outcome d (read MacroName ts) → word_in ts ≡ Err f → Keeps (Err f) before after
macro_named d ts f before after e g = fails d _ f before after e (macro_name ts ∙ rw g refl)

pub macro_begun : (d e : Draft) (ts us : List Token) (n : ℕ) (w : List ℕ) → word_in ts ≡ Ok (word_at n w, us) → ((items : List Item) → completed d (Begins w ∷ items) ≡ completed e items) → outcome d (read MacroName ts) ≡ outcome e (read (At (InMacro w)) us)
macro_begun d e ts us n w g same = ap (outcome d) (macro_name ts ∙ rw g refl) ∙ told d e (Begins w) (read (At (InMacro w)) us) same

pub pin_named : (d : Draft) (cell : List ℕ) (ts : List Token) (f : LefFault) (before after : Result Macro LefFault) → before ≡ outcome d (read (PinName cell) ts) → word_in ts ≡ Err f → Keeps (Err f) before after
pin_named d cell ts f before after e g = fails d _ f before after e (pin_name cell ts ∙ rw g refl)

pub pin_begun : (d e : Draft) (cell : List ℕ) (ts us : List Token) (n : ℕ) (w : List ℕ) → word_in ts ≡ Ok (word_at n w, us) → ((items : List Item) → completed d (Pin w ∷ items) ≡ completed e items) → outcome d (read (PinName cell) ts) ≡ outcome e (read (At (InPin cell w)) us)
pin_begun d e cell ts us n w g same = ap (outcome d) (pin_name cell ts ∙ rw g refl) ∙ told d e (Pin w) (read (At (InPin cell w)) us) same

-- ---- statements that are refused, and statements behind which it goes on

pub block_layer_fails : (d : Draft) (b : Block) (l : Current) (ts us : List Token) (n : ℕ) (w : List ℕ) (f : LefFault) (before after : Result Macro LefFault) → before ≡ outcome d (read (At (InBlock b l)) ts) → word_in ts ≡ Ok (word_at n w, us) → keyword_of w ≡ keyword.Layer → layer_in us ≡ Err f → Keeps (Err f) before after
block_layer_fails d b l ts us n w f before after e g h bad = part_fails d (layer_in us) (λ s. read (At (InBlock b s.0)) s.1) f before after (block_layer d b l ts us n w before e g h) bad

pub block_layer_goes : (d : Draft) (b : Block) (l : Current) (ts us : List Token) (n : ℕ) (w : List ℕ) (a : Current) (vs : List Token) (before : Result Macro LefFault) → before ≡ outcome d (read (At (InBlock b l)) ts) → word_in ts ≡ Ok (word_at n w, us) → keyword_of w ≡ keyword.Layer → layer_in us ≡ Ok (a, vs) → before ≡ outcome d (read (At (InBlock b a)) vs)
block_layer_goes d b l ts us n w a vs before e g h good = part_goes d (layer_in us) (λ s. read (At (InBlock b s.0)) s.1) a vs before (block_layer d b l ts us n w before e g h) good

pub block_class_fails : (d : Draft) (b : Block) (l : Current) (ts us : List Token) (n : ℕ) (w : List ℕ) (f : LefFault) (before after : Result Macro LefFault) → before ≡ outcome d (read (At (InBlock b l)) ts) → word_in ts ≡ Ok (word_at n w, us) → keyword_of w ≡ keyword.Class → passed us ≡ Err f → Keeps (Err f) before after
block_class_fails d b l ts us n w f before after e g h bad = part_fails d (passed us) (λ s. read (At (InBlock b l)) s.1) f before after (block_class d b l ts us n w before e g h) bad

pub block_class_goes : (d : Draft) (b : Block) (l : Current) (ts us : List Token) (n : ℕ) (w : List ℕ) (a : Unit {0}) (vs : List Token) (before : Result Macro LefFault) → before ≡ outcome d (read (At (InBlock b l)) ts) → word_in ts ≡ Ok (word_at n w, us) → keyword_of w ≡ keyword.Class → passed us ≡ Ok (a, vs) → before ≡ outcome d (read (At (InBlock b l)) vs)
block_class_goes d b l ts us n w a vs before e g h good = part_goes d (passed us) (λ s. read (At (InBlock b l)) s.1) a vs before (block_class d b l ts us n w before e g h) good

pub block_rect_fails : (d : Draft) (b : Block) (l : Current) (ts us : List Token) (n : ℕ) (w : List ℕ) (f : LefFault) (before after later : Result Macro LefFault) → before ≡ outcome d (read (At (InBlock b l)) ts) → word_in ts ≡ Ok (word_at n w, us) → keyword_of w ≡ keyword.Rect → Keeps (Err f) (outcome d (then_read (rect_begins b l n) (λ q. read q us))) later → Keeps (Err f) before after
block_rect_fails d b l ts us n w f before after later e g h bad = refused_part f before (outcome d (then_read (rect_begins b l n) (λ q. read q us))) later after (block_rect d b l ts us n w before e g h) bad

pub block_rect_goes : (d : Draft) (b : Block) (l : Current) (ts us : List Token) (n : ℕ) (w : List ℕ) (before later : Result Macro LefFault) → before ≡ outcome d (read (At (InBlock b l)) ts) → word_in ts ≡ Ok (word_at n w, us) → keyword_of w ≡ keyword.Rect → outcome d (then_read (rect_begins b l n) (λ q. read q us)) ≡ later → before ≡ later
block_rect_goes d b l ts us n w before later e g h good = block_rect d b l ts us n w before e g h ∙ good

pub pin_ends_fails : (d : Draft) (cell pin : List ℕ) (ts us : List Token) (n : ℕ) (w : List ℕ) (f : LefFault) (before after : Result Macro LefFault) → before ≡ outcome d (read (At (InPin cell pin)) ts) → word_in ts ≡ Ok (word_at n w, us) → keyword_of w ≡ keyword.End → named_in pin us ≡ Err f → Keeps (Err f) before after
pin_ends_fails d cell pin ts us n w f before after e g h bad = part_fails d (named_in pin us) (λ s. read (At (InMacro cell)) s.1) f before after (pin_ends d cell pin ts us n w before e g h) bad

pub pin_ends_goes : (d : Draft) (cell pin : List ℕ) (ts us : List Token) (n : ℕ) (w : List ℕ) (a : Unit {0}) (vs : List Token) (before : Result Macro LefFault) → before ≡ outcome d (read (At (InPin cell pin)) ts) → word_in ts ≡ Ok (word_at n w, us) → keyword_of w ≡ keyword.End → named_in pin us ≡ Ok (a, vs) → before ≡ outcome d (read (At (InMacro cell)) vs)
pin_ends_goes d cell pin ts us n w a vs before e g h good = part_goes d (named_in pin us) (λ s. read (At (InMacro cell)) s.1) a vs before (pin_ends d cell pin ts us n w before e g h) good

pub pin_port_fails : (d : Draft) (cell pin : List ℕ) (ts us : List Token) (n : ℕ) (w : List ℕ) (f : LefFault) (before after later : Result Macro LefFault) → before ≡ outcome d (read (At (InPin cell pin)) ts) → word_in ts ≡ Ok (word_at n w, us) → keyword_of w ≡ keyword.Port → Keeps (Err f) (outcome d (read (At (InBlock (OfPin cell pin) NoLayer)) us)) later → Keeps (Err f) before after
pin_port_fails d cell pin ts us n w f before after later e g h bad = refused_part f before (outcome d (read (At (InBlock (OfPin cell pin) NoLayer)) us)) later after (pin_port d cell pin ts us n w before e g h) bad

pub pin_port_goes : (d : Draft) (cell pin : List ℕ) (ts us : List Token) (n : ℕ) (w : List ℕ) (before later : Result Macro LefFault) → before ≡ outcome d (read (At (InPin cell pin)) ts) → word_in ts ≡ Ok (word_at n w, us) → keyword_of w ≡ keyword.Port → outcome d (read (At (InBlock (OfPin cell pin) NoLayer)) us) ≡ later → before ≡ later
pin_port_goes d cell pin ts us n w before later e g h good = pin_port d cell pin ts us n w before e g h ∙ good

pub pin_other_fails : (d : Draft) (cell pin : List ℕ) (ts us : List Token) (n : ℕ) (w : List ℕ) (f : LefFault) (before after : Result Macro LefFault) → before ≡ outcome d (read (At (InPin cell pin)) ts) → word_in ts ≡ Ok (word_at n w, us) → (keyword_of w ≡ keyword.End → ⊥) → (keyword_of w ≡ keyword.Port → ⊥) → passed us ≡ Err f → Keeps (Err f) before after
pin_other_fails d cell pin ts us n w f before after e g h0 h1 bad = part_fails d (passed us) (λ s. read (At (InPin cell pin)) s.1) f before after (pin_other d cell pin ts us n w before e g h0 h1) bad

pub pin_other_goes : (d : Draft) (cell pin : List ℕ) (ts us : List Token) (n : ℕ) (w : List ℕ) (a : Unit {0}) (vs : List Token) (before : Result Macro LefFault) → before ≡ outcome d (read (At (InPin cell pin)) ts) → word_in ts ≡ Ok (word_at n w, us) → (keyword_of w ≡ keyword.End → ⊥) → (keyword_of w ≡ keyword.Port → ⊥) → passed us ≡ Ok (a, vs) → before ≡ outcome d (read (At (InPin cell pin)) vs)
pin_other_goes d cell pin ts us n w a vs before e g h0 h1 good = part_goes d (passed us) (λ s. read (At (InPin cell pin)) s.1) a vs before (pin_other d cell pin ts us n w before e g h0 h1) good

pub macro_ends_fails : (d : Draft) (cell : List ℕ) (ts us : List Token) (n : ℕ) (w : List ℕ) (f : LefFault) (before after : Result Macro LefFault) → before ≡ outcome d (read (At (InMacro cell)) ts) → word_in ts ≡ Ok (word_at n w, us) → keyword_of w ≡ keyword.End → named_in cell us ≡ Err f → Keeps (Err f) before after
macro_ends_fails d cell ts us n w f before after e g h bad = part_fails d (named_in cell us) (λ s. read (At InLibrary) s.1) f before after (macro_ends d cell ts us n w before e g h) bad

pub macro_ends_goes : (d : Draft) (cell : List ℕ) (ts us : List Token) (n : ℕ) (w : List ℕ) (a : Unit {0}) (vs : List Token) (before : Result Macro LefFault) → before ≡ outcome d (read (At (InMacro cell)) ts) → word_in ts ≡ Ok (word_at n w, us) → keyword_of w ≡ keyword.End → named_in cell us ≡ Ok (a, vs) → before ≡ outcome d (read (At InLibrary) vs)
macro_ends_goes d cell ts us n w a vs before e g h good = part_goes d (named_in cell us) (λ s. read (At InLibrary) s.1) a vs before (macro_ends d cell ts us n w before e g h) good

pub macro_size_fails : (d : Draft) (cell : List ℕ) (ts us : List Token) (n : ℕ) (w : List ℕ) (f : LefFault) (before after : Result Macro LefFault) → before ≡ outcome d (read (At (InMacro cell)) ts) → word_in ts ≡ Ok (word_at n w, us) → keyword_of w ≡ keyword.Size → size_in us ≡ Err f → Keeps (Err f) before after
macro_size_fails d cell ts us n w f before after e g h bad = part_fails d (size_in us) (λ s. read (At (InMacro cell)) s.1) f before after (macro_size d cell ts us n w before e g h) bad

pub macro_size_goes : (d : Draft) (cell : List ℕ) (ts us : List Token) (n : ℕ) (w : List ℕ) (a : Unit {0}) (vs : List Token) (before : Result Macro LefFault) → before ≡ outcome d (read (At (InMacro cell)) ts) → word_in ts ≡ Ok (word_at n w, us) → keyword_of w ≡ keyword.Size → size_in us ≡ Ok (a, vs) → before ≡ outcome d (read (At (InMacro cell)) vs)
macro_size_goes d cell ts us n w a vs before e g h good = part_goes d (size_in us) (λ s. read (At (InMacro cell)) s.1) a vs before (macro_size d cell ts us n w before e g h) good

pub macro_origin_fails : (d : Draft) (cell : List ℕ) (ts us : List Token) (n : ℕ) (w : List ℕ) (f : LefFault) (before after : Result Macro LefFault) → before ≡ outcome d (read (At (InMacro cell)) ts) → word_in ts ≡ Ok (word_at n w, us) → keyword_of w ≡ keyword.Origin → origin_in n us ≡ Err f → Keeps (Err f) before after
macro_origin_fails d cell ts us n w f before after e g h bad = part_fails d (origin_in n us) (λ s. read (At (InMacro cell)) s.1) f before after (macro_origin d cell ts us n w before e g h) bad

pub macro_origin_goes : (d : Draft) (cell : List ℕ) (ts us : List Token) (n : ℕ) (w : List ℕ) (a : Unit {0}) (vs : List Token) (before : Result Macro LefFault) → before ≡ outcome d (read (At (InMacro cell)) ts) → word_in ts ≡ Ok (word_at n w, us) → keyword_of w ≡ keyword.Origin → origin_in n us ≡ Ok (a, vs) → before ≡ outcome d (read (At (InMacro cell)) vs)
macro_origin_goes d cell ts us n w a vs before e g h good = part_goes d (origin_in n us) (λ s. read (At (InMacro cell)) s.1) a vs before (macro_origin d cell ts us n w before e g h) good

pub macro_pin_fails : (d : Draft) (cell : List ℕ) (ts us : List Token) (n : ℕ) (w : List ℕ) (f : LefFault) (before after later : Result Macro LefFault) → before ≡ outcome d (read (At (InMacro cell)) ts) → word_in ts ≡ Ok (word_at n w, us) → keyword_of w ≡ keyword.Pin → Keeps (Err f) (outcome d (read (PinName cell) us)) later → Keeps (Err f) before after
macro_pin_fails d cell ts us n w f before after later e g h bad = refused_part f before (outcome d (read (PinName cell) us)) later after (macro_pin d cell ts us n w before e g h) bad

pub macro_pin_goes : (d : Draft) (cell : List ℕ) (ts us : List Token) (n : ℕ) (w : List ℕ) (before later : Result Macro LefFault) → before ≡ outcome d (read (At (InMacro cell)) ts) → word_in ts ≡ Ok (word_at n w, us) → keyword_of w ≡ keyword.Pin → outcome d (read (PinName cell) us) ≡ later → before ≡ later
macro_pin_goes d cell ts us n w before later e g h good = macro_pin d cell ts us n w before e g h ∙ good

pub macro_obs_fails : (d : Draft) (cell : List ℕ) (ts us : List Token) (n : ℕ) (w : List ℕ) (f : LefFault) (before after later : Result Macro LefFault) → before ≡ outcome d (read (At (InMacro cell)) ts) → word_in ts ≡ Ok (word_at n w, us) → keyword_of w ≡ keyword.Obs → Keeps (Err f) (outcome d (read (At (InBlock (OfMacro cell) NoLayer)) us)) later → Keeps (Err f) before after
macro_obs_fails d cell ts us n w f before after later e g h bad = refused_part f before (outcome d (read (At (InBlock (OfMacro cell) NoLayer)) us)) later after (macro_obs d cell ts us n w before e g h) bad

pub macro_obs_goes : (d : Draft) (cell : List ℕ) (ts us : List Token) (n : ℕ) (w : List ℕ) (before later : Result Macro LefFault) → before ≡ outcome d (read (At (InMacro cell)) ts) → word_in ts ≡ Ok (word_at n w, us) → keyword_of w ≡ keyword.Obs → outcome d (read (At (InBlock (OfMacro cell) NoLayer)) us) ≡ later → before ≡ later
macro_obs_goes d cell ts us n w before later e g h good = macro_obs d cell ts us n w before e g h ∙ good

pub macro_other_fails : (d : Draft) (cell : List ℕ) (ts us : List Token) (n : ℕ) (w : List ℕ) (f : LefFault) (before after : Result Macro LefFault) → before ≡ outcome d (read (At (InMacro cell)) ts) → word_in ts ≡ Ok (word_at n w, us) → (keyword_of w ≡ keyword.End → ⊥) → (keyword_of w ≡ keyword.Size → ⊥) → (keyword_of w ≡ keyword.Origin → ⊥) → (keyword_of w ≡ keyword.Pin → ⊥) → (keyword_of w ≡ keyword.Obs → ⊥) → (keyword_of w ≡ keyword.Density → ⊥) → passed us ≡ Err f → Keeps (Err f) before after
macro_other_fails d cell ts us n w f before after e g h0 h1 h2 h3 h4 h5 bad = part_fails d (passed us) (λ s. read (At (InMacro cell)) s.1) f before after (macro_other d cell ts us n w before e g h0 h1 h2 h3 h4 h5) bad

pub macro_other_goes : (d : Draft) (cell : List ℕ) (ts us : List Token) (n : ℕ) (w : List ℕ) (a : Unit {0}) (vs : List Token) (before : Result Macro LefFault) → before ≡ outcome d (read (At (InMacro cell)) ts) → word_in ts ≡ Ok (word_at n w, us) → (keyword_of w ≡ keyword.End → ⊥) → (keyword_of w ≡ keyword.Size → ⊥) → (keyword_of w ≡ keyword.Origin → ⊥) → (keyword_of w ≡ keyword.Pin → ⊥) → (keyword_of w ≡ keyword.Obs → ⊥) → (keyword_of w ≡ keyword.Density → ⊥) → passed us ≡ Ok (a, vs) → before ≡ outcome d (read (At (InMacro cell)) vs)
macro_other_goes d cell ts us n w a vs before e g h0 h1 h2 h3 h4 h5 good = part_goes d (passed us) (λ s. read (At (InMacro cell)) s.1) a vs before (macro_other d cell ts us n w before e g h0 h1 h2 h3 h4 h5) good

pub library_ends_fails : (d : Draft) (ts us : List Token) (n : ℕ) (w : List ℕ) (f : LefFault) (before after : Result Macro LefFault) → before ≡ outcome d (read (At InLibrary) ts) → word_in ts ≡ Ok (word_at n w, us) → keyword_of w ≡ keyword.End → keyword_in (codes "LIBRARY") us ≡ Err f → Keeps (Err f) before after
library_ends_fails d ts us n w f before after e g h bad = part_fails d (keyword_in (codes "LIBRARY") us) (λ s. read Ended s.1) f before after (library_ends d ts us n w before e g h) bad

pub library_ends_goes : (d : Draft) (ts us : List Token) (n : ℕ) (w : List ℕ) (a : Unit {0}) (vs : List Token) (before : Result Macro LefFault) → before ≡ outcome d (read (At InLibrary) ts) → word_in ts ≡ Ok (word_at n w, us) → keyword_of w ≡ keyword.End → keyword_in (codes "LIBRARY") us ≡ Ok (a, vs) → before ≡ outcome d (read Ended vs)
library_ends_goes d ts us n w a vs before e g h good = part_goes d (keyword_in (codes "LIBRARY") us) (λ s. read Ended s.1) a vs before (library_ends d ts us n w before e g h) good

pub library_header_fails : (d : Draft) (ts us : List Token) (n : ℕ) (w : List ℕ) (f : LefFault) (before after : Result Macro LefFault) → before ≡ outcome d (read (At InLibrary) ts) → word_in ts ≡ Ok (word_at n w, us) → keyword_of w ≡ keyword.Header → passed us ≡ Err f → Keeps (Err f) before after
library_header_fails d ts us n w f before after e g h bad = part_fails d (passed us) (λ s. read (At InLibrary) s.1) f before after (library_header d ts us n w before e g h) bad

pub library_header_goes : (d : Draft) (ts us : List Token) (n : ℕ) (w : List ℕ) (a : Unit {0}) (vs : List Token) (before : Result Macro LefFault) → before ≡ outcome d (read (At InLibrary) ts) → word_in ts ≡ Ok (word_at n w, us) → keyword_of w ≡ keyword.Header → passed us ≡ Ok (a, vs) → before ≡ outcome d (read (At InLibrary) vs)
library_header_goes d ts us n w a vs before e g h good = part_goes d (passed us) (λ s. read (At InLibrary) s.1) a vs before (library_header d ts us n w before e g h) good

pub library_units_fails : (d : Draft) (ts us : List Token) (n : ℕ) (w : List ℕ) (f : LefFault) (before after : Result Macro LefFault) → before ≡ outcome d (read (At InLibrary) ts) → word_in ts ≡ Ok (word_at n w, us) → keyword_of w ≡ keyword.Units → units_passed false us ≡ Err f → Keeps (Err f) before after
library_units_fails d ts us n w f before after e g h bad = part_fails d (units_passed false us) (λ s. read (At InLibrary) s.1) f before after (library_units d ts us n w before e g h) bad

pub library_units_goes : (d : Draft) (ts us : List Token) (n : ℕ) (w : List ℕ) (a : Unit {0}) (vs : List Token) (before : Result Macro LefFault) → before ≡ outcome d (read (At InLibrary) ts) → word_in ts ≡ Ok (word_at n w, us) → keyword_of w ≡ keyword.Units → units_passed false us ≡ Ok (a, vs) → before ≡ outcome d (read (At InLibrary) vs)
library_units_goes d ts us n w a vs before e g h good = part_goes d (units_passed false us) (λ s. read (At InLibrary) s.1) a vs before (library_units d ts us n w before e g h) good

pub library_macro_fails : (d : Draft) (ts us : List Token) (n : ℕ) (w : List ℕ) (f : LefFault) (before after later : Result Macro LefFault) → before ≡ outcome d (read (At InLibrary) ts) → word_in ts ≡ Ok (word_at n w, us) → keyword_of w ≡ keyword.Macro → Keeps (Err f) (outcome d (read MacroName us)) later → Keeps (Err f) before after
library_macro_fails d ts us n w f before after later e g h bad = refused_part f before (outcome d (read MacroName us)) later after (library_macro d ts us n w before e g h) bad

pub library_macro_goes : (d : Draft) (ts us : List Token) (n : ℕ) (w : List ℕ) (before later : Result Macro LefFault) → before ≡ outcome d (read (At InLibrary) ts) → word_in ts ≡ Ok (word_at n w, us) → keyword_of w ≡ keyword.Macro → outcome d (read MacroName us) ≡ later → before ≡ later
library_macro_goes d ts us n w before later e g h good = library_macro d ts us n w before e g h ∙ good

pub block_other : (d : Draft) (b : Block) (l : Current) (ts us : List Token) (n : ℕ) (w : List ℕ) (before : Result Macro LefFault) → before ≡ outcome d (read (At (InBlock b l)) ts) → word_in ts ≡ Ok (word_at n w, us) → (keyword_of w ≡ keyword.End → ⊥) → (keyword_of w ≡ keyword.Layer → ⊥) → (keyword_of w ≡ keyword.Rect → ⊥) → (keyword_of w ≡ keyword.Class → ⊥) → before ≡ Err (fault.Statement n)
block_other d b l ts us n w before e g h0 h1 h2 h3 = fails d _ (fault.Statement n) before before e (block_word b l ts us n w (keyword_of w) g refl ∙ ap (λ r. then_read r (λ q. read q us)) (other_in_block b l n (keyword_of w) h0 h1 h2 h3))

-- ---- a rectangle

closes : (d : Draft) (b : Between) (us : List Token) (f : LefFault) (before after : Result Macro LefFault) → before ≡ outcome d (read (Closing b) us) → semicolon_in us ≡ Err f → Keeps (Err f) before after
closes d b us f before after e g = fails d _ f before after e (closing b us ∙ rw g refl)

closed_by : (d : Draft) (b : Between) (us vs : List Token) (a : Unit {0}) (before : Result Macro LefFault) → before ≡ outcome d (read (Closing b) us) → semicolon_in us ≡ Ok (a, vs) → before ≡ outcome d (read (At b) vs)
closed_by d b us vs a before e g = e ∙ ap (outcome d) (closing b us ∙ rw g refl)

pub rect_layerless : (d : Draft) (b : Block) (n : ℕ) (ts : List Token) → outcome d (then_read (rect_begins b NoLayer n) (λ q. read q ts)) ≡ Err (fault.Statement n)
unfolding outcome
rect_layerless d b n ts = refl

other_none : ◌≡◌ {A = Current} OtherLayer NoLayer → ⊥
other_none e = absurd cc

wires_none : (layer : Layer) → ◌≡◌ {A = Current} (Wires layer) NoLayer → ⊥
wires_none layer e = absurd cc

pub other_is : (l : Current) → l ≡ OtherLayer → l ≢ NoLayer
other_is l e f = other_none (sym e ∙ f)

pub wires_are : (l : Current) (layer : Layer) → l ≡ Wires layer → l ≢ NoLayer
wires_are l layer e f = wires_none layer (sym e ∙ f)

pub rect_fails : (d : Draft) (b : Block) (l : Current) (n : ℕ) (ts : List Token) (f : LefFault) (after : Result Macro LefFault) → l ≢ NoLayer → rect_of n ts ≡ Err f → Keeps (Err f) (outcome d (then_read (rect_begins b l n) (λ q. read q ts))) after
rect_fails d b NoLayer n ts f after some e = absurd (some refl)
rect_fails d b OtherLayer n ts f after some e = fails d _ f _ after refl (rect_reads b OtherLayer n ts ∙ rw e refl)
rect_fails d b (Wires layer) n ts f after some e = fails d _ f _ after refl (rect_reads b (Wires layer) n ts ∙ rw e refl)

other_closes : (d : Draft) (b : Block) (n : ℕ) (ts us : List Token) (r : Rectangle) → rect_of n ts ≡ Ok (r, us) → outcome d (then_read (rect_begins b OtherLayer n) (λ q. read q ts)) ≡ outcome d (read (Closing (InBlock b OtherLayer)) us)
other_closes d b n ts us r e = ap (outcome d) (rect_reads b OtherLayer n ts ∙ rw e refl)

pub other_fails : (d : Draft) (b : Block) (n : ℕ) (ts us : List Token) (r : Rectangle) (f : LefFault) (after : Result Macro LefFault) → rect_of n ts ≡ Ok (r, us) → semicolon_in us ≡ Err f → Keeps (Err f) (outcome d (then_read (rect_begins b OtherLayer n) (λ q. read q ts))) after
other_fails d b n ts us r f after e g = closes d (InBlock b OtherLayer) us f _ after (other_closes d b n ts us r e) g

pub other_goes : (d : Draft) (b : Block) (n : ℕ) (ts us vs : List Token) (r : Rectangle) (a : Unit {0}) → rect_of n ts ≡ Ok (r, us) → semicolon_in us ≡ Ok (a, vs) → outcome d (then_read (rect_begins b OtherLayer n) (λ q. read q ts)) ≡ outcome d (read (At (InBlock b OtherLayer)) vs)
other_goes d b n ts us vs r a e g = closed_by d (InBlock b OtherLayer) us vs a _ (other_closes d b n ts us r e) g

wires_told : (d e : Draft) (b : Block) (layer : Layer) (n : ℕ) (ts us : List Token) (r : Rectangle) → rect_of n ts ≡ Ok (r, us) → ((items : List Item) → completed d (item_of b (record { line = n; layer = layer; sides = r }) ∷ items) ≡ completed e items)
    → outcome d (then_read (rect_begins b (Wires layer) n) (λ q. read q ts)) ≡ outcome e (read (Closing (InBlock b (Wires layer))) us)
wires_told d e b layer n ts us r g same = ap (outcome d) (rect_reads b (Wires layer) n ts ∙ rw g refl) ∙ told d e (item_of b (record { line = n; layer = layer; sides = r })) (read (Closing (InBlock b (Wires layer))) us) same

pub wires_fails : (d e : Draft) (b : Block) (layer : Layer) (n : ℕ) (ts us : List Token) (r : Rectangle) (f : LefFault) (after : Result Macro LefFault) → rect_of n ts ≡ Ok (r, us) → ((items : List Item) → completed d (item_of b (record { line = n; layer = layer; sides = r }) ∷ items) ≡ completed e items) → semicolon_in us ≡ Err f
    → Keeps (Err f) (outcome d (then_read (rect_begins b (Wires layer) n) (λ q. read q ts))) after
wires_fails d e b layer n ts us r f after g same h = closes e (InBlock b (Wires layer)) us f _ after (wires_told d e b layer n ts us r g same) h

pub wires_goes : (d e : Draft) (b : Block) (layer : Layer) (n : ℕ) (ts us vs : List Token) (r : Rectangle) (a : Unit {0}) → rect_of n ts ≡ Ok (r, us) → ((items : List Item) → completed d (item_of b (record { line = n; layer = layer; sides = r }) ∷ items) ≡ completed e items) → semicolon_in us ≡ Ok (a, vs)
    → outcome d (then_read (rect_begins b (Wires layer) n) (λ q. read q ts)) ≡ outcome e (read (At (InBlock b (Wires layer))) vs)
wires_goes d e b layer n ts us vs r a g same h = closed_by e (InBlock b (Wires layer)) us vs a _ (wires_told d e b layer n ts us r g same) h

-- ---- what stands behind a name

pub macro_body_fails : (d e : Draft) (ts us : List Token) (n : ℕ) (w : List ℕ) (f : LefFault) (later after : Result Macro LefFault) → word_in ts ≡ Ok (word_at n w, us) → ((items : List Item) → completed d (Begins w ∷ items) ≡ completed e items) → Keeps (Err f) (outcome e (read (At (InMacro w)) us)) later → Keeps (Err f) (outcome d (read MacroName ts)) after
macro_body_fails d e ts us n w f later after g same bad = refused_part f _ (outcome e (read (At (InMacro w)) us)) later after (macro_begun d e ts us n w g same) bad

pub macro_body_goes : (d e : Draft) (ts us : List Token) (n : ℕ) (w : List ℕ) (later : Result Macro LefFault) → word_in ts ≡ Ok (word_at n w, us) → ((items : List Item) → completed d (Begins w ∷ items) ≡ completed e items) → outcome e (read (At (InMacro w)) us) ≡ later → outcome d (read MacroName ts) ≡ later
macro_body_goes d e ts us n w later g same good = macro_begun d e ts us n w g same ∙ good

pub pin_body_fails : (d e : Draft) (cell : List ℕ) (ts us : List Token) (n : ℕ) (w : List ℕ) (f : LefFault) (later after : Result Macro LefFault) → word_in ts ≡ Ok (word_at n w, us) → ((items : List Item) → completed d (Pin w ∷ items) ≡ completed e items) → Keeps (Err f) (outcome e (read (At (InPin cell w)) us)) later → Keeps (Err f) (outcome d (read (PinName cell) ts)) after
pin_body_fails d e cell ts us n w f later after g same bad = refused_part f _ (outcome e (read (At (InPin cell w)) us)) later after (pin_begun d e cell ts us n w g same) bad

pub pin_body_goes : (d e : Draft) (cell : List ℕ) (ts us : List Token) (n : ℕ) (w : List ℕ) (later : Result Macro LefFault) → word_in ts ≡ Ok (word_at n w, us) → ((items : List Item) → completed d (Pin w ∷ items) ≡ completed e items) → outcome e (read (At (InPin cell w)) us) ≡ later → outcome d (read (PinName cell) ts) ≡ later
pin_body_goes d e cell ts us n w later g same good = pin_begun d e cell ts us n w g same ∙ good

-- ---- what each step of the reader uses

pub ruleset rect_rules = (rect_layerless, rect_fails, other_fails, other_goes, wires_fails, wires_goes, no_memory)

pub ruleset block_rules = (
  block_fails,
  block_ends,
  block_layer_fails,
  block_layer_goes,
  block_class_fails,
  block_class_goes,
  block_rect_fails,
  block_rect_goes,
  block_other,
)

pub ruleset pin_statement_rules =
    (pin_fails, pin_ends_fails, pin_ends_goes, pin_port_fails, pin_port_goes, pin_other_fails, pin_other_goes)

pub ruleset pin_head_rules = (pin_named, pin_body_fails, pin_body_goes, no_memory)

pub ruleset macro_statement_rules = (
  macro_fails,
  macro_ends_fails,
  macro_ends_goes,
  macro_size_fails,
  macro_size_goes,
  macro_origin_fails,
  macro_origin_goes,
  macro_pin_fails,
  macro_pin_goes,
  macro_obs_fails,
  macro_obs_goes,
  macro_density,
  macro_other_fails,
  macro_other_goes,
)

pub ruleset macro_head_rules = (macro_named, macro_body_fails, macro_body_goes)

pub ruleset library_rules = (
  library_fails,
  library_stops,
  library_ends_fails,
  library_ends_goes,
  ended_there,
  library_header_fails,
  library_header_goes,
  library_units_fails,
  library_units_goes,
  library_macro_fails,
  library_macro_goes,
  library_other,
)
