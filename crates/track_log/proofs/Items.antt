-- Lists of tracks, and of nets above others, written and read.
use Rattle.std.specs.Prelude.{ℕ, zero, suc, ◌≡◌, ◌-◌, ◌/◌, ◌%◌, ◌<◌, ◌≤◌, ◌==◌, false, true, Bool, cond, List, [], ◌∷◌, ◌++◌, Option, Some, None, All, IsTrue, length, map, take, drop, get_or, flat_map, decimal}
use Rattle.std.proofs.Common.{refl, sym, ap, subst, arith, ◌∙◌}
use Rattle.std.specs.Fmt.{digit_glyph, digits, digits_onto}
use Rattle.std.specs.List.{join_with_byte}
use Rattle.std.proofs.Math.Seq.{take-length}
use Rattle.std.proofs.lemmas.Bool.{lt-ltb, ne_eqb}
use Rattle.std.proofs.lemmas.List.{append-nil, append_assoc}
use Rattle.std.proofs.lemmas.List.Elements.{All-append, All-cons, All-head, All-nil, All-tail}
use Rattle.std.proofs.lemmas.Option.{none-some, same_Some}
use Rattle.log_lines.specs.Words.{number_below, parts_at}
use Rattle.log_lines.proofs.Decimals.{above_decimal}
use Rattle.log_lines.proofs.Numbers.{found_below, is_below}
use Rattle.log_lines.proofs.Splits.{IsAbove, Lacks, above_lacks, above_more, split_joined}
use Rattle.bound_log.proofs.Spelled.{bound, cons_same, is_provided}
use Rattle.trail_log.specs.Listed.{list_in, net_in}
use Rattle.trail_log.specs.Order.{increases}
use Rattle.trail_log.specs.Spelling.{list_text}
use Rattle.trail_log.proofs.Items.{ReadsAgain, ReadsOnly, Spares, joined_parts, list_again, list_only, net_again, net_only}
use Rattle.row_cycles.specs.declared.above.NetAbove.{NetAbove}
use Rattle.row_cycles.specs.Above.{HasNets}
use Rattle.track_ways.specs.declared.track.NetTrack.{NetTrack}
use Rattle.track_log.specs.Fits.{TrackFits}
use Rattle.track_log.specs.Line.{above_in, above_of, ordered_in, track_in, track_of}
use Rattle.track_log.specs.Text.{above_text, track_text}

-- ---- items one after another

more_apart : {A : Type 0} (write : A → List ℕ) (item : A) (items : List A) → join_with_byte 44 (map write (item ∷ items)) ≡ write item ++ flat_map (λ i. 44 ∷ write i) items
more_apart write item [] = sym (append-nil (write item))
more_apart write item (next ∷ items) = ap (λ (bs : List ℕ). write item ++ (44 ∷ bs)) (more_apart write next items)

-- the first item, and the others after their commas
pub items_apart : {A : Type 0} (write : A → List ℕ) (out : List ℕ) (items : List A) (d : A) → 1 ≤ length items → (out ++ write (get_or items 0 d)) ++ flat_map (λ i. 44 ∷ write i) (take (length items - 1) (drop 1 items)) ≡ out ++ list_text 44 (map write items)
items_apart write out [] d some = absurd (omega (arith, some))
items_apart write out (item ∷ items) d some =
    let rest : length (item ∷ items) - 1 ≡ length items = omega arith in
    rw (rest, take-length items)
    (append_assoc out (write item) (flat_map (λ i. 44 ∷ write i) items) ∙ ap (λ (bs : List ℕ). out ++ bs) (sym (more_apart write item items)))

-- ---- digits

-- all bytes are smaller
abbrev IsBelow : ℕ → List ℕ → Type 0
IsBelow c text = All (λ b. b < c) text

glyph_below : (d : ℕ) → d < 10 → digit_glyph false d < 58
glyph_below d few = rw (lt-ltb d 10 few) (omega (arith, few))

either_below : (last : Bool) (xs ys : List ℕ) → IsBelow 58 xs → IsBelow 58 ys → IsBelow 58 (cond last xs ys)
either_below true xs ys h g = h
either_below false xs ys h g = g

onto_below : (k n : ℕ) (behind : List ℕ) → IsBelow 58 behind → IsBelow 58 (digits_onto k 10 false n behind)
onto_below zero n behind h = h
onto_below (suc k) n behind h =
    let digit : n % 10 < 10 = omega arith in
    let more : IsBelow 58 (digit_glyph false (n % 10) ∷ behind) = All-cons (λ b. b < 58) (digit_glyph false (n % 10)) behind (glyph_below (n % 10) digit) h in
    either_below (n / 10 == 0) _ _ more (onto_below k (n / 10) (digit_glyph false (n % 10) ∷ behind) more)

below_decimal : (n : ℕ) → IsBelow 58 (decimal n)
unfolding digits
below_decimal n = onto_below 64 n [] (All-nil (λ b. b < 58))

below_lacks : (c d : ℕ) (text : List ℕ) → c ≤ d → IsBelow c text → Lacks d text
below_lacks c d [] most h = All-nil (λ b. (b == d) ≡ false)
below_lacks c d (b ∷ bs) most h =
    let less : b < c = All-head (λ b. b < c) b bs h in
    All-cons (λ b. (b == d) ≡ false) b bs (ne_eqb b d (λ e. omega (arith, e, less, most))) (below_lacks c d bs most (All-tail (λ b. b < c) b bs h))

no_colon : (n : ℕ) → Lacks 58 (decimal n)
no_colon n = below_lacks 58 58 (decimal n) (omega arith) (below_decimal n)

-- ---- a net and its track

track_words : (nets : ℕ) (words : List (List ℕ)) (t : NetTrack) → track_of nets words ≡ Some t → (words ≡ decimal t.net.0 ∷ decimal t.track ∷ []) × TrackFits nets t
track_words nets [] t h = absurd (none-some t h)
track_words nets (a ∷ []) t h = absurd (none-some t h)
track_words nets (a ∷ b ∷ c ∷ rest) t h = absurd (none-some t h)
track_words nets (a ∷ b ∷ []) t h =
    let net = bound (net_in nets a) _ t h in
    let track = bound (number_below 256 b) _ t net.2 in
    let net_is = net_only nets a net.0 net.1 in
    let track_is : (b ≡ decimal track.0) × (track.0 < 256) = found_below 256 b track.0 track.1 in
    subst (λ (x : NetTrack). ((a ∷ b ∷ []) ≡ decimal x.net.0 ∷ decimal x.track ∷ []) × TrackFits nets x) (same_Some (record { net = net.0; track = track.0 }) t track.2)
    (cons_same _ _ _ _ net_is.0 (cons_same _ _ _ _ track_is.0 refl), record { net = net_is.1; track = track_is.1 })

pub track_only : (nets : ℕ) → ReadsOnly (track_in nets) track_text (TrackFits nets)
track_only nets word t h =
    let read = track_words nets (parts_at 58 word) t h in
    (joined_parts 58 word (decimal t.net.0 ∷ decimal t.track ∷ []) read.0, read.1)

pub track_again : (nets : ℕ) → nets ≤ 256 → ReadsAgain (track_in nets) track_text (TrackFits nets)
track_again nets few t fits =
    ap (track_of nets) (split_joined 58 (decimal t.net.0) (decimal t.track ∷ []) (no_colon t.net.0) (All-cons (Lacks 58) (decimal t.track) [] (no_colon t.track) (All-nil (Lacks 58))))
    ∙ rw (net_again nets few t.net fits.net, is_below 256 (decimal t.track) t.track refl fits.track (omega arith)) refl

-- more words than a net and its track
pub long_track : (nets : ℕ) (words : List (List ℕ)) → 2 < length words → track_of nets words ≡ None
long_track nets [] many = refl
long_track nets (a ∷ []) many = refl
long_track nets (a ∷ b ∷ []) many = absurd (omega (arith, many))
long_track nets (a ∷ b ∷ c ∷ rest) many = refl

-- ---- a net above another

above_words : (nets : ℕ) (words : List (List ℕ)) (a : NetAbove) → above_of nets words ≡ Some a → (words ≡ decimal a.upper.0 ∷ decimal a.lower.0 ∷ []) × HasNets nets a
above_words nets [] a h = absurd (none-some a h)
above_words nets (u ∷ []) a h = absurd (none-some a h)
above_words nets (u ∷ l ∷ m ∷ rest) a h = absurd (none-some a h)
above_words nets (u ∷ l ∷ []) a h =
    let upper = bound (net_in nets u) _ a h in
    let lower = bound (net_in nets l) _ a upper.2 in
    let upper_is = net_only nets u upper.0 upper.1 in
    let lower_is = net_only nets l lower.0 lower.1 in
    subst (λ (x : NetAbove). ((u ∷ l ∷ []) ≡ decimal x.upper.0 ∷ decimal x.lower.0 ∷ []) × HasNets nets x) (same_Some (record { upper = upper.0; lower = lower.0 }) a lower.2)
    (cons_same _ _ _ _ upper_is.0 (cons_same _ _ _ _ lower_is.0 refl), (upper_is.1, lower_is.1))

pub above_only : (nets : ℕ) → ReadsOnly (above_in nets) above_text (HasNets nets)
above_only nets word a h =
    let read = above_words nets (parts_at 62 word) a h in
    (joined_parts 62 word (decimal a.upper.0 ∷ decimal a.lower.0 ∷ []) read.0, read.1)

no_greater : (n : ℕ) → Lacks 62 (decimal n)
no_greater n = below_lacks 58 62 (decimal n) (omega arith) (below_decimal n)

pub above_again : (nets : ℕ) → nets ≤ 256 → ReadsAgain (above_in nets) above_text (HasNets nets)
above_again nets few a fits =
    ap (above_of nets) (split_joined 62 (decimal a.upper.0) (decimal a.lower.0 ∷ []) (no_greater a.upper.0) (All-cons (Lacks 62) (decimal a.lower.0) [] (no_greater a.lower.0) (All-nil (Lacks 62))))
    ∙ rw (net_again nets few a.upper fits.0, net_again nets few a.lower fits.1) refl

-- more words than two nets
pub long_above : (nets : ℕ) (words : List (List ℕ)) → 2 < length words → above_of nets words ≡ None
long_above nets [] many = refl
long_above nets (a ∷ []) many = refl
long_above nets (a ∷ b ∷ []) many = absurd (omega (arith, many))
long_above nets (a ∷ b ∷ c ∷ rest) many = refl

-- ---- written items have digits, and a byte above them

-- two numbers, with a byte between
pub pair_above : (c between m n : ℕ) → c ≤ 47 → 47 < between → IsAbove c (decimal m ++ (between ∷ decimal n))
pair_above c between m n few high =
    All-append (λ b. c < b) (decimal m) (between ∷ decimal n) (above_more 47 c (decimal m) few (above_decimal m))
    (All-cons (λ b. c < b) between (decimal n) (omega (arith, few, high)) (above_more 47 c (decimal n) few (above_decimal n)))

pub track_above : (c : ℕ) (t : NetTrack) → c ≤ 47 → IsAbove c (track_text t)
track_above c t few = pair_above c 58 t.net.0 t.track few (omega arith)

pub above_above : (c : ℕ) (a : NetAbove) → c ≤ 47 → IsAbove c (above_text a)
above_above c a few = pair_above c 62 a.upper.0 a.lower.0 few (omega arith)

pub track_lacks : (c : ℕ) → c ≤ 47 → Spares c track_text
track_lacks c few t = above_lacks 47 c (track_text t) few (track_above 47 t (omega arith))

pub above_spares : (c : ℕ) → c ≤ 47 → Spares c above_text
above_spares c few a = above_lacks 47 c (above_text a) few (above_above 47 a (omega arith))

-- ---- lists in order

pub ordered_only : {A : Type 0} (read : List ℕ → Option A) (rank : A → ℕ) (write : A → List ℕ) (Good : A → Type 0) (word : List ℕ) (items : List A) → ReadsOnly read write Good → ordered_in read rank word ≡ Some items → (word ≡ list_text 44 (map write items)) × All Good items × IsTrue (increases rank items)
unfolding ordered_in
ordered_only {A = A} read rank write Good word items only h =
    let found = bound (list_in 44 read word) _ items h in
    let rising = is_provided (increases rank found.0) _ items found.2 in
    let listed = list_only 44 read write Good word found.0 only found.1 in
    subst (λ (xs : List A). (word ≡ list_text 44 (map write xs)) × All Good xs × IsTrue (increases rank xs)) (same_Some found.0 items rising.1) (listed.0, listed.1, rising.0)

pub ordered_again : {A : Type 0} (read : List ℕ → Option A) (rank : A → ℕ) (write : A → List ℕ) (Good : A → Type 0) (items : List A) → ReadsAgain read write Good → Spares 44 write → Spares 45 write → All Good items → IsTrue (increases rank items) → ordered_in read rank (list_text 44 (map write items)) ≡ Some items
unfolding ordered_in
ordered_again read rank write Good items again commas dashes fits order =
    rw (list_again 44 read write Good items refl again commas dashes fits, order) refl
