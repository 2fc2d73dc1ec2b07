-- The last value of a key and the last pair for a pin, as words come.
use Rattle.std.proofs.Common.{ℕ, ◌≡◌, ◌<◌, ◌+◌, List, [], ◌∷◌, ◌++◌, get_or, take, length, refl, sym, ap, ◌∙◌}
use Rattle.std.specs.Prelude.{Option, Some, None, filter_map}
use Rattle.std.specs.List.{cons_option}
use Rattle.std.proofs.lemmas.List.{append-nil, take_more}
use Rattle.std.proofs.lemmas.List.Elements.{filter_map-append}
use Rattle.spice_text.specs.declared.logical.Line.{Line}
use Rattle.spice_net.specs.Pairs.{told_by, told_among, told_in, told_of}
use Rattle.spice_net.specs.Parameters.{value_in, last_of, value_of, last_there}

pub next_taken : {X : Type 0} (xs : List X) (i : ℕ) (x : X) → i < length xs → x ≡ get_or xs i x → take (i + 1) xs ≡ take i xs ++ x ∷ []
next_taken {X = X} xs i x lt is = take_more xs i x lt ∙ ap (λ (y : X). take i xs ++ y ∷ []) (sym is)

last_behind : {X : Type 0} (xs : List X) (x : X) → last_of (xs ++ x ∷ []) ≡ Some x
last_behind [] x = refl
last_behind (y ∷ []) x = refl
last_behind (y ∷ z ∷ zs) x = last_behind (z ∷ zs) x

by_value : {Y : Type 0} (before : List Y) (v : Option Y) → last_there v (last_of before) ≡ last_of (before ++ cons_option v [])
by_value before (Some value) = sym (last_behind before value)
by_value {Y} before None = sym (ap (λ (vs : List Y). last_of vs) (append-nil before))

-- what the last of some items gives, with one more item
last_more : {X Y : Type 0} (h : X → Option Y) (xs : List X) (i : ℕ) (x : X) → i < length xs → x ≡ get_or xs i x → last_there (h x) (last_of (filter_map h (take i xs))) ≡ last_of (filter_map h (take (i + 1) xs))
last_more h xs i x lt is = rw (next_taken xs i x lt is, filter_map-append h (take i xs) (x ∷ [])) (by_value (filter_map h (take i xs)) (h x))

pub one_more : (key : List ℕ) (words : List (List ℕ)) (i : ℕ) (word : List ℕ) → i < length words → word ≡ get_or words i word → last_there (value_in key word) (value_of key (take i words)) ≡ value_of key (take (i + 1) words)
one_more key words i word lt is = last_more (value_in key) words i word lt is

pub word_more : (pin : List ℕ) (words : List (List ℕ)) (i : ℕ) (word : List ℕ) → i < length words → word ≡ get_or words i word → last_there (told_by pin word) (told_among pin (take i words)) ≡ told_among pin (take (i + 1) words)
word_more pin words i word lt is = last_more (told_by pin) words i word lt is

pub line_more : (pin : List ℕ) (lines : List Line) (i : ℕ) (line : Line) → i < length lines → line ≡ get_or lines i line → last_there (told_in pin line) (told_of (take i lines) pin) ≡ told_of (take (i + 1) lines) pin
line_more pin lines i line lt is = last_more (told_in pin) lines i line lt is
