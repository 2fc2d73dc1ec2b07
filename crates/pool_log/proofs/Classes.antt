-- Classes of places, written and read.
use Rattle.std.specs.Prelude.{ℕ, ◌≡◌, ◌<◌, ◌≤◌, ◌==◌, Bool, false, true, List, [], ◌∷◌, ◌++◌, Some, All, length, map}
use Rattle.std.proofs.Common.{refl, sym, ap, subst, arith, ◌∙◌}
use Rattle.std.specs.List.{join_with_byte}
use Rattle.std.proofs.lemmas.List.{append-nil, length-map}
use Rattle.std.proofs.lemmas.List.Elements.{All-append, All-cons, All-nil}
use Rattle.std.proofs.lemmas.Option.{none-some}
use Rattle.log_lines.specs.Words.{parts_at}
use Rattle.log_lines.proofs.Parts.{some_part}
use Rattle.log_lines.proofs.Splits.{IsAbove, Lacks, joined_lacks, split_joined}
use Rattle.bound_log.proofs.Spelled.{mapped}
use Rattle.trail_log.specs.Listed.{each_in, list_in}
use Rattle.trail_log.specs.Spelling.{flag_text, list_text}
use Rattle.trail_log.proofs.Items.{ReadsAgain, ReadsOnly, Spares, all_of, each_again, each_only, joined_above, joined_parts, list_again, list_only}
use Rattle.pool_log.specs.declared.class.PlaceClass.{PlaceClass}
use Rattle.pool_log.specs.declared.place.ListedPlace.{ListedPlace}
use Rattle.pool_log.specs.Fits.{ClassFits, PlaceFits}
use Rattle.pool_log.specs.Line.{class_in, class_of, class_with, place_in}
use Rattle.pool_log.specs.Text.{class_text, place_text}
use Rattle.pool_log.proofs.Places.{place_above, place_again, place_lacks, place_only}

with_words : (nets : ℕ) (flagged : Bool) (word : List ℕ) (class : PlaceClass) → class_with nets flagged word ≡ Some class → (word ≡ join_with_byte 43 (map place_text class.places)) × (class.flagged ≡ flagged) × ClassFits nets class
with_words nets flagged word class h =
    let places = mapped _ (each_in (place_in nets) (parts_at 43 word)) class h in
    let read = each_only (place_in nets) place_text (PlaceFits nets) (parts_at 43 word) places.0 (place_only nets) places.1 in
    let some : 0 < length (map place_text places.0) = subst (λ (ws : List (List ℕ)). 0 < length ws) read.0 (some_part 43 word) in
    subst (λ (x : PlaceClass). (word ≡ join_with_byte 43 (map place_text x.places)) × (x.flagged ≡ flagged) × ClassFits nets x) places.2
    (joined_parts 43 word (map place_text places.0) read.0, refl, record { some = omega (arith, some, length-map places.0 place_text); places = read.1 })

class_words : (nets : ℕ) (words : List (List ℕ)) (class : PlaceClass) → class_of nets words ≡ Some class → (join_with_byte 33 words ≡ class_text class) × ClassFits nets class
class_words nets [] class h = absurd (none-some class h)
class_words nets (a ∷ (b ∷ bs) ∷ []) class h = absurd (none-some class h)
class_words nets (a ∷ [] ∷ c ∷ rest) class h = absurd (none-some class h)
class_words nets (a ∷ (b ∷ bs) ∷ c ∷ rest) class h = absurd (none-some class h)
class_words nets (a ∷ []) class h =
    let read = with_words nets false a class h in
    (read.0 ∙ (sym (append-nil (join_with_byte 43 (map place_text class.places))) ∙ ap (λ (f : Bool). join_with_byte 43 (map place_text class.places) ++ flag_text f) (sym read.1)), read.2)
class_words nets (a ∷ [] ∷ []) class h =
    let read = with_words nets true a class h in
    (ap (λ (bs : List ℕ). bs ++ (33 ∷ [])) read.0 ∙ ap (λ (f : Bool). join_with_byte 43 (map place_text class.places) ++ flag_text f) (sym read.1), read.2)

class_only : (nets : ℕ) → ReadsOnly (class_in nets) class_text (ClassFits nets)
class_only nets word class h =
    let read = class_words nets (parts_at 33 word) class h in
    (joined_parts 33 word (parts_at 33 word) refl ∙ read.0, read.1)

places_lack : (c : ℕ) (places : List ListedPlace) → c ≤ 45 → (42 == c) ≡ false → (43 == c) ≡ false → Lacks c (join_with_byte 43 (map place_text places))
places_lack c places few star other = joined_lacks 43 c (map place_text places) other (all_of place_text (Lacks c) places (place_lacks c few star))

with_again : (nets : ℕ) (flagged : Bool) (places : List ListedPlace) → nets ≤ 256 → 1 ≤ length places → All (PlaceFits nets) places → class_with nets flagged (join_with_byte 43 (map place_text places)) ≡ Some (record { places = places; flagged = flagged })
with_again nets flagged [] few some fits = absurd (omega (arith, some))
with_again nets flagged (first ∷ places) few some fits =
    rw (
      split_joined 43 (place_text first) (map place_text places) (place_lacks 43 (omega arith) refl first) (all_of place_text (Lacks 43) places (place_lacks 43 (omega arith) refl)),
      each_again (place_in nets) place_text (PlaceFits nets) (first ∷ places) (place_again nets few) fits,
    )
    refl

flagged_again : (nets : ℕ) (flagged : Bool) (places : List ListedPlace) → nets ≤ 256 → 1 ≤ length places → All (PlaceFits nets) places → class_in nets (join_with_byte 43 (map place_text places) ++ flag_text flagged) ≡ Some (record { places = places; flagged = flagged })
flagged_again nets false places few some fits =
    let text = join_with_byte 43 (map place_text places) in
    ap (class_in nets) (append-nil text)
    ∙ (ap (class_of nets) (split_joined 33 text [] (places_lack 33 places (omega arith) refl refl) (All-nil (Lacks 33))) ∙ with_again nets false places few some fits)
flagged_again nets true places few some fits =
    let text = join_with_byte 43 (map place_text places) in
    ap (class_of nets) (split_joined 33 text ([] ∷ []) (places_lack 33 places (omega arith) refl refl) (All-cons (Lacks 33) [] [] (All-nil (λ b. (b == 33) ≡ false)) (All-nil (Lacks 33))))
    ∙ with_again nets true places few some fits

class_again : (nets : ℕ) → nets ≤ 256 → ReadsAgain (class_in nets) class_text (ClassFits nets)
class_again nets few class fits = flagged_again nets class.flagged class.places few fits.some fits.places

flag_lacks : (c : ℕ) (flagged : Bool) → (33 == c) ≡ false → Lacks c (flag_text flagged)
flag_lacks c false other = All-nil (λ b. (b == c) ≡ false)
flag_lacks c true other = All-cons (λ b. (b == c) ≡ false) 33 [] other (All-nil (λ b. (b == c) ≡ false))

class_lacks : (c : ℕ) → c ≤ 45 → (42 == c) ≡ false → (43 == c) ≡ false → (33 == c) ≡ false → Spares c class_text
class_lacks c few star plus mark class =
    All-append (λ b. (b == c) ≡ false) (join_with_byte 43 (map place_text class.places)) (flag_text class.flagged) (places_lack c class.places few star plus) (flag_lacks c class.flagged mark)

flag_above : (flagged : Bool) → IsAbove 32 (flag_text flagged)
flag_above false = All-nil (λ b. 32 < b)
flag_above true = All-cons (λ b. 32 < b) 33 [] (omega arith) (All-nil (λ b. 32 < b))

pub class_above : (class : PlaceClass) → IsAbove 32 (class_text class)
class_above class =
    All-append (λ b. 32 < b) (join_with_byte 43 (map place_text class.places)) (flag_text class.flagged)
    (joined_above 43 32 (map place_text class.places) (omega arith) (all_of place_text (IsAbove 32) class.places (λ p. place_above 32 p (omega arith))))
    (flag_above class.flagged)

-- ---- lists of classes

pub classes_only : (nets : ℕ) (word : List ℕ) (classes : List PlaceClass) → list_in 44 (class_in nets) word ≡ Some classes → (word ≡ list_text 44 (map class_text classes)) × All (ClassFits nets) classes
classes_only nets word classes h = list_only 44 (class_in nets) class_text (ClassFits nets) word classes (class_only nets) h

pub classes_again : (nets : ℕ) (classes : List PlaceClass) → nets ≤ 256 → All (ClassFits nets) classes → list_in 44 (class_in nets) (list_text 44 (map class_text classes)) ≡ Some classes
classes_again nets classes few h =
    list_again 44 (class_in nets) class_text (ClassFits nets) classes refl (class_again nets few) (class_lacks 44 (omega arith) refl refl refl) (class_lacks 45 (omega arith) refl refl refl) h
