-- The lines of a certificate, written and read.
use Rattle.std.specs.Prelude.{ℕ, ◌≡◌, ◌<◌, ◌≤◌, Bool, true, false, cond, leb, List, [], ◌∷◌, ◌++◌, Option, Some, None, All, IsTrue, length, map, option_map, codes, decimal}
use Rattle.std.proofs.Common.{refl, ap, subst, arith, inl, inr}
use Rattle.std.specs.List.{join_with_byte}
use Rattle.std.proofs.lemmas.Bool.{le-leb, leb-true}
use Rattle.std.proofs.lemmas.List.{append_assoc}
use Rattle.std.proofs.lemmas.List.Elements.{All-cons, All-nil}
use Rattle.std.proofs.lemmas.Option.{none-some, same_Some}
use Rattle.row_state.specs.declared.kind.Kinds.{Kinds}
use Rattle.row_state.specs.declared.state.State.{State}
use Rattle.row_state.specs.Start.{AreSomeKinds, IsState}
use Rattle.row_state.proofs.Valid.{state_decides}
use Rattle.log_lines.specs.Words.{is_word, number_below}
use Rattle.log_lines.proofs.Decimals.{above_decimal}
use Rattle.log_lines.proofs.Numbers.{chosen, found_below, is_below, is_same, same_words}
use Rattle.log_lines.proofs.Splits.{IsAbove, above_more, fed}
use Rattle.bound_log.specs.Line.{state_in}
use Rattle.bound_log.specs.Text.{counts_text, end_text, gaps_line}
use Rattle.bound_log.proofs.Again.{by_test, counts_above, end_above, state_again}
use Rattle.bound_log.proofs.Spelled.{StateSpelled, bound, cons_same, is_provided, mapped, state_spelled}
use Rattle.trail_log.specs.Order.{increases}
use Rattle.trail_log.specs.Spelling.{list_text}
use Rattle.trail_log.proofs.Items.{ReadsAgain, ReadsOnly, Spares, list_above}
use Rattle.row_cycles.specs.declared.lemma.CycleLemma.{CycleLemma}
use Rattle.row_cycles.specs.Above.{HasNets}
use Rattle.row_cycles.specs.Fits.{CycleFits, above_rank}
use Rattle.track_ways.specs.declared.lemma.TrackLemma.{TrackLemma}
use Rattle.track_log.specs.Fits.{LemmaFits, TrackFits}
use Rattle.track_log.specs.Line.{above_in, count_in, cycle_in, cycle_with, fields_after, fields_in, gaps_in, lemma_in, lemma_with, number_after, ordered_in, track_in, track_rank}
use Rattle.track_log.specs.Text.{above_text, aboves_text, cycle_line, fields_line, lemma_line, track_text, tracks_line, tracks_text}
use Rattle.track_log.proofs.Items.{above_above, above_again, above_only, above_spares, ordered_again, ordered_only, track_above, track_again, track_lacks, track_only}

-- ---- a number after a word

pub long_number : (front : List ℕ) (limit : ℕ) (words : List (List ℕ)) → 2 < length words → number_after front limit words ≡ None
long_number front limit [] many = refl
long_number front limit (a ∷ []) many = refl
long_number front limit (a ∷ b ∷ []) many = absurd (omega (arith, many))
long_number front limit (a ∷ b ∷ c ∷ rest) many = refl

number_only : (front : List ℕ) (limit : ℕ) (words : List (List ℕ)) (n : ℕ) → number_after front limit words ≡ Some n → (words ≡ front ∷ decimal n ∷ []) × (n < limit)
number_only front limit [] n h = absurd (none-some n h)
number_only front limit (a ∷ []) n h = absurd (none-some n h)
number_only front limit (a ∷ b ∷ c ∷ rest) n h = absurd (none-some n h)
number_only front limit (a ∷ b ∷ []) n h =
    elim (chosen (is_word a front) _ _ _ h) [
      | inl y ↦
          let found : (b ≡ decimal n) × (n < limit) = found_below limit b n y.1 in
          (cons_same _ _ _ _ (same_words a front y.0) (cons_same _ _ _ _ found.0 refl), found.1)
      | inr none ↦ absurd (none-some n none.1)
    ]

number_again : (front : List ℕ) (limit n : ℕ) → n < limit → limit ≤ 4294967296 → number_after front limit (front ∷ decimal n ∷ []) ≡ Some n
number_again front limit n below few = rw (is_same front front refl, is_below limit (decimal n) n refl below few) refl

pub gaps_only : (words : List (List ℕ)) (gaps : ℕ) → gaps_in words ≡ Some gaps → (words ≡ codes "gaps" ∷ decimal gaps ∷ []) × (gaps < 64)
gaps_only words gaps h = number_only (codes "gaps") 64 words gaps h

pub gaps_again : (gaps : ℕ) → gaps ≤ 63 → gaps_in (codes "gaps" ∷ decimal gaps ∷ []) ≡ Some gaps
gaps_again gaps few = number_again (codes "gaps") 64 gaps (omega (arith, few)) (omega arith)

pub count_only : (words : List (List ℕ)) (tracks : ℕ) → count_in words ≡ Some tracks → (words ≡ codes "tracks" ∷ decimal tracks ∷ []) × (1 ≤ tracks) × (tracks < 257)
count_only words tracks h =
    let found = bound (number_after (codes "tracks") 257 words) _ tracks h in
    let some = is_provided (leb 1 found.0) _ tracks found.2 in
    let read = number_only (codes "tracks") 257 words found.0 found.1 in
    subst (λ (n : ℕ). (words ≡ codes "tracks" ∷ decimal n ∷ []) × (1 ≤ n) × (n < 257)) (same_Some found.0 tracks some.1) (read.0, leb-true 1 found.0 some.0, read.1)

pub count_again : (tracks : ℕ) → 1 ≤ tracks → tracks ≤ 256 → count_in (codes "tracks" ∷ decimal tracks ∷ []) ≡ Some tracks
count_again tracks some few = rw (number_again (codes "tracks") 257 tracks (omega (arith, few)) (omega arith), le-leb 1 tracks some) refl

number_above : (n : ℕ) → IsAbove 32 (decimal n)
number_above n = above_more 47 32 (decimal n) (omega arith) (above_decimal n)

two_above : (front : List ℕ) (n : ℕ) → IsAbove 32 front → All (IsAbove 32) (front ∷ decimal n ∷ [])
two_above front n h =
    All-cons (IsAbove 32) front (decimal n ∷ []) h (All-cons (IsAbove 32) (decimal n) [] (number_above n) (All-nil (IsAbove 32)))

pub gaps_above : (gaps : ℕ) → All (IsAbove 32) (codes "gaps" ∷ decimal gaps ∷ [])
gaps_above gaps = two_above (codes "gaps") gaps (by_test 32 (codes "gaps") refl)

pub count_above : (tracks : ℕ) → All (IsAbove 32) (codes "tracks" ∷ decimal tracks ∷ [])
count_above tracks = two_above (codes "tracks") tracks (by_test 32 (codes "tracks") refl)

pub gaps_joined : (gaps : ℕ) → fed (join_with_byte 32 (codes "gaps" ∷ decimal gaps ∷ [])) ≡ gaps_line gaps
gaps_joined gaps = refl

pub count_joined : (tracks : ℕ) → fed (join_with_byte 32 (codes "tracks" ∷ decimal tracks ∷ [])) ≡ tracks_line tracks
count_joined tracks = refl

-- ---- the fields of a lemma

unfoldable pub fields_words : ℕ → State → List ℕ → List (List ℕ)
fields_words gaps state list =
    decimal gaps ∷ counts_text state.p_left ∷ counts_text state.n_left ∷ end_text state.p_end ∷ end_text state.n_end ∷ list ∷ []

long_fields : {A : Type 0} (read : ℕ → List ℕ → Option A) (rank : A → ℕ) (k : Kinds) (words : List (List ℕ)) → 6 < length words → fields_in read rank k words ≡ None
long_fields read rank k [] many = refl
long_fields read rank k (a ∷ []) many = refl
long_fields read rank k (a ∷ b ∷ []) many = refl
long_fields read rank k (a ∷ b ∷ c ∷ []) many = refl
long_fields read rank k (a ∷ b ∷ c ∷ d ∷ []) many = refl
long_fields read rank k (a ∷ b ∷ c ∷ d ∷ e ∷ []) many = refl
long_fields read rank k (a ∷ b ∷ c ∷ d ∷ e ∷ f ∷ []) many = absurd (omega (arith, many))
long_fields read rank k (a ∷ b ∷ c ∷ d ∷ e ∷ f ∷ g ∷ rest) many = refl

either_none : {B : Type 0} (b : Bool) → ◌≡◌ {A = Option B} (cond b None None) None
either_none true = refl
either_none false = refl

-- more words than a lemma has
pub long_line : {A : Type 0} (front : List ℕ) (read : ℕ → List ℕ → Option A) (rank : A → ℕ) (k : Kinds) (words : List (List ℕ)) → 7 < length words → fields_after front read rank k words ≡ None
long_line front read rank k [] many = refl
long_line front read rank k (word ∷ words) many = rw (long_fields read rank k words (omega (arith, many))) (either_none (is_word word front))

-- what the words of a lemma hold
abbrev pub AreFields : {A : Type 0} → (A → ℕ) → (A → List ℕ) → (A → Type 0) → Kinds → List (List ℕ) → ℕ × State × List A → Type 0
AreFields rank write Good k words fields =
    (words ≡ fields_words fields.0 fields.1 (list_text 44 (map write fields.2))) × IsState k fields.1 × (fields.0 < 64) × All Good fields.2 × IsTrue (increases rank fields.2)

fields_only : {A : Type 0} (read : ℕ → List ℕ → Option A) (rank : A → ℕ) (write : A → List ℕ) (Good : A → Type 0) (k : Kinds) (words : List (List ℕ)) (fields : ℕ × State × List A) → AreSomeKinds k → ReadsOnly (read k.nets) write Good → fields_in read rank k words ≡ Some fields → AreFields rank write Good k words fields
unfolding fields_words
fields_only read rank write Good k [] fields some only h = absurd (none-some fields h)
fields_only read rank write Good k (a ∷ []) fields some only h = absurd (none-some fields h)
fields_only read rank write Good k (a ∷ b ∷ []) fields some only h = absurd (none-some fields h)
fields_only read rank write Good k (a ∷ b ∷ c ∷ []) fields some only h = absurd (none-some fields h)
fields_only read rank write Good k (a ∷ b ∷ c ∷ d ∷ []) fields some only h = absurd (none-some fields h)
fields_only read rank write Good k (a ∷ b ∷ c ∷ d ∷ e ∷ []) fields some only h = absurd (none-some fields h)
fields_only read rank write Good k (a ∷ b ∷ c ∷ d ∷ e ∷ f ∷ g ∷ rest) fields some only h = absurd (none-some fields h)
fields_only {A = A} read rank write Good k (gaps_word ∷ p_left ∷ n_left ∷ p_end ∷ n_end ∷ list ∷ []) fields some only h =
    let gaps = bound (number_below 64 gaps_word) _ fields h in
    let state = bound (state_in k p_left n_left p_end n_end) _ fields gaps.2 in
    let items = bound (ordered_in (read k.nets) rank list) _ fields state.2 in
    let gaps_is : (gaps_word ≡ decimal gaps.0) × (gaps.0 < 64) = found_below 64 gaps_word gaps.0 gaps.1 in
    let state_is : StateSpelled k p_left n_left p_end n_end state.0 = state_spelled k p_left n_left p_end n_end state.0 state.1 in
    let items_are = ordered_only (read k.nets) rank write Good list items.0 only items.1 in
    subst (λ (x : ℕ × State × List A). AreFields rank write Good k (gaps_word ∷ p_left ∷ n_left ∷ p_end ∷ n_end ∷ list ∷ []) x)
    (same_Some (gaps.0, state.0, items.0) fields items.2) (
      cons_same _ _ _ _ gaps_is.0 (cons_same _ _ _ _ state_is.p_left_is (cons_same _ _ _ _ state_is.n_left_is (cons_same _ _ _ _ state_is.p_end_is (cons_same _ _ _ _ state_is.n_end_is (cons_same _ _ _ _ items_are.0 refl))))),
      (state_decides k state.0 some).0 state_is.valid,
      gaps_is.1,
      items_are.1,
      items_are.2,
    )

line_only : {A : Type 0} (front : List ℕ) (read : ℕ → List ℕ → Option A) (rank : A → ℕ) (write : A → List ℕ) (Good : A → Type 0) (k : Kinds) (words : List (List ℕ)) (fields : ℕ × State × List A) → AreSomeKinds k → ReadsOnly (read k.nets) write Good → fields_after front read rank k words ≡ Some fields → (words ≡ front ∷ fields_words fields.0 fields.1 (list_text 44 (map write fields.2))) × IsState k fields.1 × (fields.0 < 64) × All Good fields.2 × IsTrue (increases rank fields.2)
line_only front read rank write Good k [] fields some only h = absurd (none-some fields h)
line_only front read rank write Good k (word ∷ words) fields some only h =
    elim (chosen (is_word word front) _ _ _ h) [
      | inl y ↦
          let spelled = fields_only read rank write Good k words fields some only y.1 in
          (cons_same _ _ _ _ (same_words word front y.0) spelled.0, spelled.1, spelled.2, spelled.3, spelled.4)
      | inr none ↦ absurd (none-some fields none.1)
    ]

line_again : {A : Type 0} (front : List ℕ) (read : ℕ → List ℕ → Option A) (rank : A → ℕ) (write : A → List ℕ) (Good : A → Type 0) (k : Kinds) (gaps : ℕ) (state : State) (items : List A) → AreSomeKinds k → ReadsAgain (read k.nets) write Good → Spares 44 write → Spares 45 write → gaps ≤ 63 → IsState k state → All Good items → IsTrue (increases rank items) → fields_after front read rank k (front ∷ fields_words gaps state (list_text 44 (map write items))) ≡ Some (gaps, state, items)
unfolding fields_words
line_again front read rank write Good k gaps state items some again commas dashes few valid fits order =
    rw (
      is_same front front refl,
      is_below 64 (decimal gaps) gaps refl (omega (arith, few)) (omega arith),
      state_again k state some valid,
      ordered_again (read k.nets) rank write Good items again commas dashes fits order,
    )
    refl

line_above : (front : List ℕ) (gaps : ℕ) (state : State) (list : List ℕ) → IsAbove 32 front → IsAbove 32 list → All (IsAbove 32) (front ∷ fields_words gaps state list)
unfolding fields_words
line_above front gaps state list front_is list_is =
    let t = list ∷ [] in
    let f = end_text state.n_end ∷ t in
    let e = end_text state.p_end ∷ f in
    let n = counts_text state.n_left ∷ e in
    let p = counts_text state.p_left ∷ n in
    All-cons (IsAbove 32) front (decimal gaps ∷ p) front_is
    (All-cons (IsAbove 32) (decimal gaps) p (number_above gaps)
    (All-cons (IsAbove 32) (counts_text state.p_left) n (counts_above state.p_left)
    (All-cons (IsAbove 32) (counts_text state.n_left) e (counts_above state.n_left)
    (All-cons (IsAbove 32) (end_text state.p_end) f (end_above state.p_end)
    (All-cons (IsAbove 32) (end_text state.n_end) t (end_above state.n_end)
    (All-cons (IsAbove 32) list [] list_is (All-nil (IsAbove 32))))))))

line_apart : (front g p n e f t : List ℕ) → fed (front ++ (32 ∷ (g ++ (32 ∷ (p ++ (32 ∷ (n ++ (32 ∷ (e ++ (32 ∷ (f ++ (32 ∷ t)))))))))))) ≡ front ++ (32 ∷ []) ++ g ++ (32 ∷ []) ++ (p ++ (32 ∷ []) ++ n ++ (32 ∷ []) ++ e ++ (32 ∷ []) ++ f) ++ (32 ∷ []) ++ t ++ (10 ∷ [])
line_apart front g p n e f t = simp append_assoc

line_joined : (front : List ℕ) (gaps : ℕ) (state : State) (list : List ℕ) → fed (join_with_byte 32 (front ∷ fields_words gaps state list)) ≡ fields_line front gaps state list
unfolding fields_words
line_joined front gaps state list =
    line_apart front (decimal gaps) (counts_text state.p_left) (counts_text state.n_left) (end_text state.p_end) (end_text state.n_end) list

-- ---- a lemma of its fields

-- no fields make no lemma, and some make one
pub no_lemma : {F L : Type 0} (make : F → L) (fields : Option F) → None ≡ fields → ◌≡◌ {A = Option L} None (option_map make fields)
no_lemma make fields none = ap (option_map make) none

pub one_lemma : {F L : Type 0} (make : F → L) (fields : Option F) (some : F) → Some some ≡ fields → Some (make some) ≡ option_map make fields
one_lemma make fields some is = ap (option_map make) is

-- ---- a lemma on cycles

abbrev pub cycle_words : CycleLemma → List (List ℕ)
cycle_words lemma = fields_words lemma.gaps lemma.state (aboves_text lemma.above)

pub cycle_only : (k : Kinds) (words : List (List ℕ)) (lemma : CycleLemma) → AreSomeKinds k → cycle_in k words ≡ Some lemma → (words ≡ codes "cycle" ∷ cycle_words lemma) × CycleFits k lemma
cycle_only k words lemma some h =
    let fields = mapped cycle_with (fields_after (codes "cycle") above_in above_rank k words) lemma h in
    let read = line_only (codes "cycle") above_in above_rank above_text (HasNets k.nets) k words fields.0 some (above_only k.nets) fields.1 in
    subst (λ (l : CycleLemma). (words ≡ codes "cycle" ∷ cycle_words l) × CycleFits k l) fields.2
    (read.0, record { state = read.1; gaps = omega (arith, read.2); nets = read.3; order = read.4 })

pub cycle_again : (k : Kinds) (lemma : CycleLemma) → AreSomeKinds k → CycleFits k lemma → cycle_in k (codes "cycle" ∷ cycle_words lemma) ≡ Some lemma
cycle_again k lemma some h =
    ap (option_map cycle_with) (line_again (codes "cycle") above_in above_rank above_text (HasNets k.nets) k lemma.gaps lemma.state lemma.above some (above_again k.nets some.few_nets) (above_spares 44 (omega arith)) (above_spares 45 (omega arith)) h.gaps h.state h.nets h.order)

pub cycle_above : (lemma : CycleLemma) → All (IsAbove 32) (codes "cycle" ∷ cycle_words lemma)
cycle_above lemma =
    line_above (codes "cycle") lemma.gaps lemma.state (aboves_text lemma.above) (by_test 32 (codes "cycle") refl) (list_above above_text lemma.above (λ a. above_above 32 a (omega arith)))

pub cycle_joined : (lemma : CycleLemma) → fed (join_with_byte 32 (codes "cycle" ∷ cycle_words lemma)) ≡ cycle_line lemma
cycle_joined lemma = line_joined (codes "cycle") lemma.gaps lemma.state (aboves_text lemma.above)

-- ---- a lemma on tracks

abbrev pub lemma_words : TrackLemma → List (List ℕ)
lemma_words lemma = fields_words lemma.gaps lemma.state (tracks_text lemma.tracks)

pub lemma_only : (k : Kinds) (words : List (List ℕ)) (lemma : TrackLemma) → AreSomeKinds k → lemma_in k words ≡ Some lemma → (words ≡ codes "lemma" ∷ lemma_words lemma) × LemmaFits k lemma
lemma_only k words lemma some h =
    let fields = mapped lemma_with (fields_after (codes "lemma") track_in track_rank k words) lemma h in
    let read = line_only (codes "lemma") track_in track_rank track_text (TrackFits k.nets) k words fields.0 some (track_only k.nets) fields.1 in
    subst (λ (l : TrackLemma). (words ≡ codes "lemma" ∷ lemma_words l) × LemmaFits k l) fields.2
    (read.0, record { state = read.1; gaps = omega (arith, read.2); tracks = read.3; order = read.4 })

pub lemma_again : (k : Kinds) (lemma : TrackLemma) → AreSomeKinds k → LemmaFits k lemma → lemma_in k (codes "lemma" ∷ lemma_words lemma) ≡ Some lemma
lemma_again k lemma some h =
    ap (option_map lemma_with) (line_again (codes "lemma") track_in track_rank track_text (TrackFits k.nets) k lemma.gaps lemma.state lemma.tracks some (track_again k.nets some.few_nets) (track_lacks 44 (omega arith)) (track_lacks 45 (omega arith)) h.gaps h.state h.tracks h.order)

pub lemma_above : (lemma : TrackLemma) → All (IsAbove 32) (codes "lemma" ∷ lemma_words lemma)
lemma_above lemma =
    line_above (codes "lemma") lemma.gaps lemma.state (tracks_text lemma.tracks) (by_test 32 (codes "lemma") refl) (list_above track_text lemma.tracks (λ t. track_above 32 t (omega arith)))

pub lemma_joined : (lemma : TrackLemma) → fed (join_with_byte 32 (codes "lemma" ∷ lemma_words lemma)) ≡ lemma_line lemma
lemma_joined lemma = line_joined (codes "lemma") lemma.gaps lemma.state (tracks_text lemma.tracks)

-- the line of a lemma on tracks is none of one on cycles, nor is the last one
pub no_cycle : (k : Kinds) (lemma : TrackLemma) → cycle_in k (codes "lemma" ∷ lemma_words lemma) ≡ None
no_cycle k lemma = refl
