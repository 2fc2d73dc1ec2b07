-- What the bytes of a line tell.
use Rattle.std.specs.Prelude.{ℕ, ◌≡◌, ◌≢◌, ◌+◌, ◌<◌, ◌==◌, nat_lt, leb, Bool, true, false, cond, List, [], ◌∷◌, ◌++◌, Option, Some, None, Result, Ok, Err, get_or, length, position, take}
use Rattle.std.proofs.Common.{refl, sym, ap, arith, ◌∙◌, inl, inr}
use Rattle.std.specs.List.{position_or_len}
use Rattle.std.proofs.Math.Seq.{take-length}
use Rattle.std.proofs.lemmas.Bool.{cases_Bool, eqb-true, leb-false, leb-true, le-leb, lt-leb, ltb-false, ltb-true}
use Rattle.std.proofs.lemmas.List.{append-nil, append_assoc, get_or-take, length-append, length-take-le, take_more}
use Rattle.std.proofs.lemmas.List.Elements.{All-from_get_or, All-head, All-tail}
use Rattle.std.proofs.lemmas.List.Sums.{fails_before_first, passes_at_first}
use Rattle.std.proofs.lemmas.Option.{cond_some, none-some}
use Rattle.log_lines.specs.Fronts.{IsShort, longer}
use Rattle.log_lines.proofs.Splits.{Lacks}
use Rattle.bound_log.specs.declared.fault.LogFault.{LogFault}
use Rattle.bound_log.specs.declared.fault.LogFault.TheVariants as fault
use Rattle.bound_log.specs.declared.item.LogItem.{LogItem}
use Rattle.bound_log.specs.declared.item.LogItem.TheVariants as item
use Rattle.bound_log.specs.declared.item.LogPlace.{LogPlace}
use Rattle.bound_log.specs.declared.item.LogPlace.TheVariants as place
use Rattle.bound_log.specs.declared.said.Said.{Said}
use Rattle.bound_log.specs.Pieces.{Reader, Tale, behind_line, byte_tale, line_bytes, line_tale, next_tale, refused, tale_of, then_tale, told, whole_says, with_line}

abbrev pub no_more : Reader → Tale
no_more r = record { items = []; reader = r }

-- ---- bytes one after the other

then_nothing : (t : Tale) → then_tale t no_more ≡ t
then_nothing t = ap (λ (items : List LogItem). record { items = items; reader = t.reader }) (append-nil t.items)

then_again : (t : Tale) (f g : Reader → Tale) → then_tale (then_tale t f) g ≡ then_tale t (λ r. then_tale (f r) g)
then_again t f g = ap (λ (items : List LogItem). record { items = items; reader = (g (f t.reader).reader).reader }) (append_assoc t.items (f t.reader).items (g (f t.reader).reader).items)

-- some bytes and then others tell what they tell in a row
pub tale_append : (r : Reader) (a b : List ℕ) → tale_of r (a ++ b) ≡ then_tale (tale_of r a) (λ s. tale_of s b)
unfolding tale_of
tale_append r [] b = refl
tale_append r (x ∷ xs) b =
    let first = next_tale r.fault r.place r x in
    ap (λ (t : Tale). record { items = first.items ++ t.items; reader = t.reader }) (tale_append first.reader xs b)
    ∙ sym (then_again first (λ s. tale_of s xs) (λ s. tale_of s b))

-- the kinds stay
line_kinds : (r : Reader) (said : Result Said LogFault) → (behind_line r said).kinds ≡ r.kinds
line_kinds r (Ok said) = refl
line_kinds r (Err f) = refl

byte_kinds : (r : Reader) (b : ℕ) → (byte_tale r b).reader.kinds ≡ r.kinds
byte_kinds r b = elim (cases_Bool (b == 10)) [ inl feed ↦ rw feed (line_kinds r (whole_says r r.line)) | inr other ↦ rw other refl ]

next_kinds : (o : Option LogFault) (p : LogPlace) (r : Reader) (b : ℕ) → (next_tale o p r b).reader.kinds ≡ r.kinds
next_kinds (Some f) p r b = refl
next_kinds None place.Behind r b = refl
next_kinds None place.Version r b = byte_kinds r b
next_kinds None (place.Cell version) r b = byte_kinds r b
next_kinds None place.Lemmas r b = byte_kinds r b
next_kinds None place.Columns r b = byte_kinds r b
next_kinds None place.End r b = byte_kinds r b

pub tale_kinds : (r : Reader) (bytes : List ℕ) → (tale_of r bytes).reader.kinds ≡ r.kinds
unfolding tale_of
tale_kinds r [] = refl
tale_kinds r (b ∷ bytes) = tale_kinds (next_tale r.fault r.place r b).reader bytes ∙ next_kinds r.fault r.place r b

-- no byte counts behind a fault
pub stays : (r : Reader) (f : LogFault) (bytes : List ℕ) → r.fault ≡ Some f → tale_of r bytes ≡ no_more r
unfolding tale_of
stays r f [] h = refl
stays r f (b ∷ bs) h = ap (λ (o : Option LogFault). then_tale (next_tale o r.place r b) (λ s. tale_of s bs)) h ∙ stays r f bs h

-- nor may one stand behind the end
pub is_behind : (r : Reader) (bytes : List ℕ) → r.fault ≡ None → r.place ≡ place.Behind → 0 < length bytes → tale_of r bytes ≡ no_more (refused r (fault.Line r.number))
unfolding tale_of
is_behind r [] h p some = absurd (omega (arith, some))
is_behind r (b ∷ bs) h p some =
    ap (λ (o : Option LogFault). then_tale (next_tale o r.place r b) (λ s. tale_of s bs)) h
    ∙ (ap (λ (q : LogPlace). then_tale (next_tale None q r b) (λ s. tale_of s bs)) p ∙ stays (refused r (fault.Line r.number)) (fault.Line r.number) bs refl)

not_behind : (p : LogPlace) (r : Reader) (b : ℕ) → p ≢ place.Behind → next_tale None p r b ≡ byte_tale r b
not_behind place.Version r b h = refl
not_behind (place.Cell v) r b h = refl
not_behind place.Lemmas r b h = refl
not_behind place.Columns r b h = refl
not_behind place.End r b h = refl
not_behind place.Behind r b h = absurd (h refl)

one_byte : (r : Reader) (b : ℕ) (bs : List ℕ) → r.fault ≡ None → r.place ≢ place.Behind → tale_of r (b ∷ bs) ≡ then_tale (byte_tale r b) (λ s. tale_of s bs)
unfolding tale_of
one_byte r b bs h p =
    ap (λ (o : Option LogFault). then_tale (next_tale o r.place r b) (λ s. tale_of s bs)) h
    ∙ ap (λ (t : Tale). then_tale t (λ s. tale_of s bs)) (not_behind r.place r b p)

-- ---- bytes of a line

same_longer : (line : Option (List ℕ)) → IsShort line → longer line [] ≡ line
same_longer None h = refl
same_longer (Some line) h = rw (le-leb (length line + 0) 300 (omega (arith, h))) (ap Some (append-nil line))

longer_short : (line : Option (List ℕ)) (part : List ℕ) → IsShort (longer line part)
longer_short None part = tt
longer_short (Some line) part = by_length (leb (length line + length part) 300) refl
  where
    by_length : (few : Bool) → leb (length line + length part) 300 ≡ few → IsShort (cond few (Some (line ++ part)) None)
    by_length true h = omega (arith, leb-true (length line + length part) 300 h, length-append line part)
    by_length false h = tt

longer_twice : (line : Option (List ℕ)) (b : ℕ) (bs : List ℕ) → longer (longer line (b ∷ [])) bs ≡ longer line (b ∷ bs)
longer_twice None b bs = refl
longer_twice (Some line) b bs = elim (cases_Bool (leb (length line + 1) 300)) [
  | inl few ↦
      let same : length (line ++ b ∷ []) + length bs ≡ length line + length (b ∷ bs) = omega (arith, length-append line (b ∷ [])) in
      ap (λ (t : Bool). longer (cond t (Some (line ++ b ∷ [])) None) bs) few
      ∙ (ap (λ (n : ℕ). cond (leb n 300) (Some ((line ++ b ∷ []) ++ bs)) None) same
      ∙ ap (λ (l : List ℕ). cond (leb (length line + length (b ∷ bs)) 300) (Some l) None) (append_assoc line (b ∷ []) bs))
  | inr many ↦
      let more : 300 < length line + 1 = leb-false (length line + 1) 300 many in
      ap (λ (t : Bool). longer (cond t (Some (line ++ b ∷ [])) None) bs) many
      ∙ sym (ap (λ (t : Bool). cond t (Some (line ++ (b ∷ bs))) None) (lt-leb (length line + length (b ∷ bs)) 300 (omega (arith, more))))
]

pub quiet : (r : Reader) (bytes : List ℕ) → r.fault ≡ None → r.place ≢ place.Behind → IsShort r.line → Lacks 10 bytes → tale_of r bytes ≡ no_more (with_line r (longer r.line bytes))
unfolding tale_of
quiet r [] h p short lack = ap (λ (l : Option (List ℕ)). no_more (with_line r l)) (sym (same_longer r.line short))
quiet r (b ∷ bs) h p short lack =
    let other : (b == 10) ≡ false = All-head (λ c. (c == 10) ≡ false) b bs lack in
    let next = with_line r (longer r.line (b ∷ [])) in
    one_byte r b bs h p
    ∙ (ap (λ (t : Bool). then_tale (cond t (line_tale r (whole_says r r.line)) (no_more next)) (λ s. tale_of s bs)) other
    ∙ (quiet next bs h p (longer_short r.line (b ∷ [])) (All-tail (λ c. (c == 10) ≡ false) b bs lack)
    ∙ ap (λ (l : Option (List ℕ)). no_more (with_line r l)) (longer_twice r.line b bs)))

same_says : (r : Reader) (line whole : Option (List ℕ)) → whole_says (with_line r line) whole ≡ whole_says r whole
same_says r line None = refl
same_says r line (Some whole) = refl

same_tale : (r : Reader) (line : Option (List ℕ)) (said : Result Said LogFault) → line_tale (with_line r line) said ≡ line_tale r said
same_tale r line (Ok i) = refl
same_tale r line (Err f) = refl

-- a line feed behind them
pub feeds : (r : Reader) (bytes : List ℕ) → r.fault ≡ None → r.place ≢ place.Behind → IsShort r.line → Lacks 10 bytes → tale_of r (bytes ++ 10 ∷ []) ≡ line_tale r (whole_says r (longer r.line bytes))
unfolding tale_of
feeds r bytes h p short lack =
    let whole = longer r.line bytes in
    let ahead = with_line r whole in
    tale_append r bytes (10 ∷ [])
    ∙ (ap (λ (t : Tale). then_tale t (λ s. tale_of s (10 ∷ []))) (quiet r bytes h p short lack)
    ∙ (one_byte ahead 10 [] h p
    ∙ (then_nothing (line_tale ahead (whole_says ahead whole))
    ∙ (same_tale r whole (whole_says ahead whole) ∙ ap (line_tale r) (same_says r whole whole)))))

-- ---- one call

pub lacks_all : (bytes : List ℕ) → None ≡ position (λ b. b == 10) bytes → Lacks 10 bytes
lacks_all bytes e = elim (cases_Bool (nat_lt (position_or_len (λ b. b == 10) bytes) (length bytes))) [
  | inl found ↦ let there : position (λ b. b == 10) bytes ≡ Some (position_or_len (λ b. b == 10) bytes) = rw found refl in absurd (none-some _ (e ∙ there))
  | inr none ↦ All-from_get_or (λ b. (b == 10) ≡ false) bytes 0 (λ i l. fails_before_first (λ b. b == 10) bytes i 0 (omega (arith, l, ltb-false _ _ none)))
]

first_is : (bytes : List ℕ) (at : ℕ) → Some at ≡ position (λ b. b == 10) bytes → (position_or_len (λ b. b == 10) bytes < length bytes) × (position_or_len (λ b. b == 10) bytes ≡ at)
first_is bytes at e =
    let found : (nat_lt (position_or_len (λ b. b == 10) bytes) (length bytes) ≡ true) × (position_or_len (λ b. b == 10) bytes ≡ at) = cond_some _ _ _ (sym e) in
    (ltb-true _ _ found.0, found.1)

lacks_before : (bytes : List ℕ) (at : ℕ) → Some at ≡ position (λ b. b == 10) bytes → Lacks 10 (take at bytes)
lacks_before bytes at e =
    let first = first_is bytes at e in
    let few : length (take at bytes) ≡ at = length-take-le at bytes (omega (arith, first.0, first.1)) in
    All-from_get_or (λ b. (b == 10) ≡ false) (take at bytes) 0
    (λ i l. ap (λ (b : ℕ). b == 10) (get_or-take at bytes i 0 (omega (arith, l, few))) ∙ fails_before_first (λ b. b == 10) bytes i 0 (omega (arith, l, few, first.1)))

line_front : (bytes : List ℕ) (at : ℕ) → Some at ≡ position (λ b. b == 10) bytes → take (at + 1) bytes ≡ take at bytes ++ 10 ∷ []
line_front bytes at e =
    let first = first_is bytes at e in
    let feed : get_or bytes at 0 ≡ 10 = eqb-true (get_or bytes at 0) 10 (ap (λ (i : ℕ). get_or bytes i 0 == 10) (sym first.1) ∙ passes_at_first (λ b. b == 10) bytes 0 first.0) in
    take_more bytes at 0 (omega (arith, first.0, first.1)) ∙ ap (λ (b : ℕ). take at bytes ++ b ∷ []) feed

pub some_bytes : (bytes : List ℕ) → 0 < length bytes → 0 < length (take (line_bytes bytes) bytes)
some_bytes bytes some = by_feed (position (λ b. b == 10) bytes) refl
  where
    by_feed : (o : Option ℕ) → position (λ b. b == 10) bytes ≡ o → 0 < length (take (line_bytes bytes) bytes)
    by_feed None e = rw (e, take-length bytes) some
    by_feed (Some at) e = rw (e, line_front bytes at (sym e)) (omega (arith, length-append (take at bytes) (10 ∷ [])))

pub faulted : (r : Reader) (f : LogFault) (bytes : List ℕ) → r.fault ≡ Some f → (tale_of r bytes).reader ≡ r
faulted r f bytes h = ap (λ (t : Tale). t.reader) (stays r f bytes h)

pub behind_end : (r : Reader) (bytes : List ℕ) → r.fault ≡ None → r.place ≡ place.Behind → 0 < length bytes → (tale_of r (take (line_bytes bytes) bytes)).reader ≡ refused r (fault.Line r.number)
behind_end r bytes h p some = ap (λ (t : Tale). t.reader) (is_behind r (take (line_bytes bytes) bytes) h p (some_bytes bytes some))

pub no_feed : (r : Reader) (bytes : List ℕ) → None ≡ position (λ b. b == 10) bytes → r.fault ≡ None → r.place ≢ place.Behind → IsShort r.line → tale_of r (take (length bytes) bytes) ≡ record { items = told item.More; reader = with_line r (longer r.line bytes) }
no_feed r bytes e h p short = rw (take-length bytes) (quiet r bytes h p short (lacks_all bytes e))

pub whole_line : (r : Reader) (bytes : List ℕ) (at : ℕ) (said : Result Said LogFault) → Some at ≡ position (λ b. b == 10) bytes → r.fault ≡ None → r.place ≢ place.Behind → IsShort r.line → whole_says r (longer r.line (take at bytes)) ≡ said → tale_of r (take (at + 1) bytes) ≡ line_tale r said
whole_line r bytes at said e h p short is = ap (tale_of r) (line_front bytes at e) ∙ (feeds r (take at bytes) h p short (lacks_before bytes at e) ∙ ap (line_tale r) is)

pub one_line : (r : Reader) (bytes : List ℕ) (at : ℕ) (said : Said) → Some at ≡ position (λ b. b == 10) bytes → r.fault ≡ None → r.place ≢ place.Behind → IsShort r.line → whole_says r (longer r.line (take at bytes)) ≡ Ok said → tale_of r (take (at + 1) bytes) ≡ record { items = told said.item; reader = behind_line r (Ok said) }
one_line r bytes at said e h p short is = whole_line r bytes at (Ok said) e h p short is

pub one_fault : (r : Reader) (bytes : List ℕ) (at : ℕ) (f : LogFault) → Some at ≡ position (λ b. b == 10) bytes → r.fault ≡ None → r.place ≢ place.Behind → IsShort r.line → whole_says r (longer r.line (take at bytes)) ≡ Err f → (tale_of r (take (line_bytes bytes) bytes)).reader ≡ refused r f
one_fault r bytes at f e h p short is = rw (sym e) (ap (λ (t : Tale). t.reader) (whole_line r bytes at (Err f) e h p short is))
