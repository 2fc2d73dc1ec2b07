-- The text of a log that fits is read again.
use Rattle.std.specs.Prelude.{ℕ, zero, suc, ◌≡◌, ◌≢◌, ◌+◌, ◌<◌, ◌≤◌, ◌||◌, Bool, true, false, List, [], ◌∷◌, Option, Some, None, All, IfSome, length, map, codes, decimal, slice_get, slice_index, ltb}
use Rattle.std.proofs.Common.{refl, subst, arith, inl, inr}
use Rattle.std.specs.List.{join_with_byte, list_all, zip}
use Rattle.std.specs.Option.{is_some}
use Rattle.std.proofs.lemmas.Bool.{and_parts, eq-eqb, le-leb, ltb-true}
use Rattle.std.proofs.lemmas.List.Elements.{All-append, All-cons, All-head, All-nil, All-tail}
use Rattle.std.proofs.lemmas.List.Sums.{sum_by-cons}
use Rattle.cell_num.specs.declared.net.NetNo.{NetNo}
use Rattle.row_state.specs.declared.kind.Kind.{Kind}
use Rattle.row_state.specs.declared.kind.Kinds.{Kinds}
use Rattle.row_state.specs.declared.state.State.{State}
use Rattle.row_state.specs.declared.step.Side.{Side}
use Rattle.row_state.specs.Start.{AreSomeKinds, IsState, counts_of}
use Rattle.row_state.specs.Tests.{gate_left, left_of_kind}
use Rattle.row_state.proofs.Valid.{gates_few, kinds_few, state_decides}
use Rattle.log_lines.specs.Words.{is_word, number_below, parts_at, words_in}
use Rattle.log_lines.proofs.Decimals.{above_decimal}
use Rattle.log_lines.proofs.Numbers.{is_below, is_other}
use Rattle.log_lines.proofs.Splits.{IsAbove, Lacks, above_lacks, above_more, joined_lacks, split_joined}
use Rattle.bound_log.specs.declared.log.Rule.{Rule}
use Rattle.bound_log.specs.declared.log.Rule.TheVariants as by
use Rattle.bound_log.specs.declared.log.Lemma.{Lemma}
use Rattle.bound_log.specs.declared.log.LogStep.{LogStep}
use Rattle.bound_log.specs.declared.log.Entry.TheVariants as entry
use Rattle.bound_log.specs.Fits.{IsFilled, LemmaFits, SideFits, StepFits}
use Rattle.bound_log.specs.Line.{counts_each, counts_in, end_in, entry_in, flip_in, column_in, rule_in, side_in, state_in}
use Rattle.bound_log.specs.Text.{counts_text, end_text, flip_text, rule_text}
use Rattle.bound_log.proofs.Spelled.{column_words, lemma_words, side_words}

-- ---- the bytes of words

-- words that are written out
pub by_test : (c : ℕ) (text : List ℕ) → list_all (λ b. ltb c b) text ≡ true → IsAbove c text
by_test c [] h = All-nil (λ b. c < b)
by_test c (b ∷ bs) h =
    let both : (ltb c b ≡ true) × (list_all (λ b. ltb c b) bs ≡ true) = and_parts _ _ h in
    All-cons (λ b. c < b) b bs (ltb-true c b both.0) (by_test c bs both.1)

all_above : (a b c d e : List ℕ) → IsAbove 32 a → IsAbove 32 b → IsAbove 32 c → IsAbove 32 d → IsAbove 32 e → (ws : List (List ℕ)) → All (IsAbove 32) ws → All (IsAbove 32) (a ∷ b ∷ c ∷ d ∷ e ∷ ws)
all_above a b c d e ha hb hc hd he ws h =
    All-cons (IsAbove 32) a (b ∷ c ∷ d ∷ e ∷ ws) ha
    (All-cons (IsAbove 32) b (c ∷ d ∷ e ∷ ws) hb
    (All-cons (IsAbove 32) c (d ∷ e ∷ ws) hc
    (All-cons (IsAbove 32) d (e ∷ ws) hd
    (All-cons (IsAbove 32) e ws he h))))

pub not_dash : (n : ℕ) → decimal n ≢ codes "-"
not_dash n e =
    let above : IsAbove 47 (45 ∷ []) = subst (IsAbove 47) e (above_decimal n) in
    let no : 47 < 45 = All-head (λ b. 47 < b) 45 [] above in
    omega (arith, no)

no_dash : (n : ℕ) → is_word (decimal n) (codes "-") ≡ false
no_dash n = is_other (decimal n) (codes "-") (not_dash n)

joined_above : (c d : ℕ) (ws : List (List ℕ)) → d < c → All (IsAbove d) ws → IsAbove d (join_with_byte c ws)
joined_above c d [] l h = All-nil (λ b. d < b)
joined_above c d (w ∷ []) l h = All-head (IsAbove d) w [] h
joined_above c d (w ∷ v ∷ vs) l h =
    All-append (λ b. d < b) w (c ∷ join_with_byte c (v ∷ vs)) (All-head (IsAbove d) w (v ∷ vs) h)
    (All-cons (λ b. d < b) c (join_with_byte c (v ∷ vs)) l (joined_above c d (v ∷ vs) l (All-tail (IsAbove d) w (v ∷ vs) h)))

all_lack : (c d : ℕ) (ws : List (List ℕ)) → d ≤ c → All (IsAbove c) ws → All (Lacks d) ws
all_lack c d [] l h = All-nil (Lacks d)
all_lack c d (w ∷ ws) l h = All-cons (Lacks d) w ws (above_lacks c d w l (All-head (IsAbove c) w ws h)) (all_lack c d ws l (All-tail (IsAbove c) w ws h))

pub words_again : (w : List ℕ) (ws : List (List ℕ)) → All (IsAbove 32) (w ∷ ws) → words_in (join_with_byte 32 (w ∷ ws)) ≡ w ∷ ws
words_again w ws h = split_joined 32 w ws (above_lacks 32 32 w (omega arith) (All-head (IsAbove 32) w ws h)) (all_lack 32 32 ws (omega arith) (All-tail (IsAbove 32) w ws h))

pub words_lack : (ws : List (List ℕ)) → All (IsAbove 32) ws → Lacks 10 (join_with_byte 32 ws)
words_lack ws h = joined_lacks 32 10 ws refl (all_lack 32 10 ws (omega arith) h)

-- ---- counts

numbers_above : (counts : List ℕ) → All (IsAbove 47) (map decimal counts)
numbers_above [] = All-nil (IsAbove 47)
numbers_above (c ∷ cs) = All-cons (IsAbove 47) (decimal c) (map decimal cs) (above_decimal c) (numbers_above cs)

all_more : (c d : ℕ) (ws : List (List ℕ)) → d ≤ c → All (IsAbove c) ws → All (IsAbove d) ws
all_more c d [] l h = All-nil (IsAbove d)
all_more c d (w ∷ ws) l h = All-cons (IsAbove d) w ws (above_more c d w l (All-head (IsAbove c) w ws h)) (all_more c d ws l (All-tail (IsAbove c) w ws h))

pub counts_above : (counts : List ℕ) → IsAbove 32 (counts_text counts)
counts_above [] = by_test 32 (codes "-") refl
counts_above (c ∷ cs) = joined_above 44 32 (map decimal (c ∷ cs)) (omega arith) (all_more 47 32 (map decimal (c ∷ cs)) (omega arith) (numbers_above (c ∷ cs)))

pub counts_parts : (c : ℕ) (cs : List ℕ) → parts_at 44 (counts_text (c ∷ cs)) ≡ map decimal (c ∷ cs)
counts_parts c cs =
    let lack : All (Lacks 44) (map decimal (c ∷ cs)) = all_lack 47 44 (map decimal (c ∷ cs)) (omega arith) (numbers_above (c ∷ cs)) in
    split_joined 44 (decimal c) (map decimal cs) (All-head (Lacks 44) (decimal c) (map decimal cs) lack) (All-tail (Lacks 44) (decimal c) (map decimal cs) lack)

few_here : (kind : Kind) → left_of_kind kind.gate.0 (kind, kind.count) ≡ kind.count
few_here kind = rw (eq-eqb kind.gate.0 kind.gate.0 refl) refl

pub few_each : (kinds : List Kind) → ((gate : ℕ) → gate_left kinds (counts_of kinds) gate ≤ 64) → All (λ (kind : Kind). kind.count ≤ 64) kinds
few_each [] h = All-nil (λ (kind : Kind). kind.count ≤ 64)
few_each (kind ∷ kinds) h =
    All-cons (λ (kind : Kind). kind.count ≤ 64) kind kinds
    (omega (arith, h kind.gate.0, few_here kind, sum_by-cons (left_of_kind kind.gate.0) (kind, kind.count) (zip kinds (counts_of kinds))))
    (few_each kinds (λ gate. omega (arith, h gate, sum_by-cons (left_of_kind gate) (kind, kind.count) (zip kinds (counts_of kinds)))))

pub few_counts : (kinds : List Kind) (counts : List ℕ) → All (λ (kind : Kind). kind.count ≤ 64) kinds → length counts ≡ length kinds → ((i : ℕ) (kind : Kind) → slice_get kinds i ≡ Some kind → slice_index counts i ≤ kind.count) → All (λ (c : ℕ). c ≤ 64) counts
few_counts kinds [] few same within = All-nil (λ (c : ℕ). c ≤ 64)
few_counts [] (c ∷ cs) few same within = absurd (omega (arith, same))
few_counts (kind ∷ kinds) (c ∷ cs) few same within =
    let here : c ≤ kind.count = within zero kind refl in
    let most : kind.count ≤ 64 = All-head (λ (kind : Kind). kind.count ≤ 64) kind kinds few in
    All-cons (λ (c : ℕ). c ≤ 64) c cs (omega (arith, here, most)) (few_counts kinds cs (All-tail (λ (kind : Kind). kind.count ≤ 64) kind kinds few) (omega (arith, same)) (λ i k is. within (suc i) k is))

counts_each_again : (kinds : List Kind) (counts : List ℕ) → All (λ (kind : Kind). kind.count ≤ 64) kinds → length counts ≡ length kinds → ((i : ℕ) (kind : Kind) → slice_get kinds i ≡ Some kind → slice_index counts i ≤ kind.count) → counts_each kinds (map decimal counts) ≡ Some counts
counts_each_again [] [] few same within = refl
counts_each_again [] (c ∷ cs) few same within = absurd (omega (arith, same))
counts_each_again (kind ∷ kinds) [] few same within = absurd (omega (arith, same))
counts_each_again (kind ∷ kinds) (c ∷ cs) few same within =
    let here : c ≤ kind.count = within zero kind refl in
    let most : kind.count ≤ 64 = All-head (λ (kind : Kind). kind.count ≤ 64) kind kinds few in
    let read : number_below (kind.count + 1) (decimal c) ≡ Some c = is_below (kind.count + 1) (decimal c) c refl (omega (arith, here)) (omega (arith, most)) in
    rw (read, counts_each_again kinds cs (All-tail (λ (kind : Kind). kind.count ≤ 64) kind kinds few) (omega (arith, same)) (λ i k is. within (suc i) k is)) refl

counts_again : (kinds : List Kind) (counts : List ℕ) → All (λ (kind : Kind). kind.count ≤ 64) kinds → length counts ≡ length kinds → ((i : ℕ) (kind : Kind) → slice_get kinds i ≡ Some kind → slice_index counts i ≤ kind.count) → counts_in kinds (counts_text counts) ≡ Some counts
counts_again [] [] few same within = refl
counts_again [] (c ∷ cs) few same within = absurd (omega (arith, same))
counts_again (kind ∷ kinds) [] few same within = absurd (omega (arith, same))
counts_again (kind ∷ kinds) (c ∷ cs) few same within =
    rw (counts_parts c cs) (counts_each_again (kind ∷ kinds) (c ∷ cs) few same within)

-- ---- a lemma

end_again : (nets : ℕ) (end : Option NetNo) → nets ≤ 256 → IfSome end (λ v. v.0 < nets) → end_in nets (end_text end) ≡ Some end
end_again nets None few h = refl
end_again nets (Some v) few h = rw (no_dash v.0, is_below nets (decimal v.0) v.0 refl h (omega (arith, few))) refl

pub end_above : (end : Option NetNo) → IsAbove 32 (end_text end)
end_above None = by_test 32 (codes "-") refl
end_above (Some v) = above_more 47 32 (decimal v.0) (omega arith) (above_decimal v.0)

pub rule_again : (rule : Rule) → rule_in (rule_text rule) ≡ Some rule
rule_again by.P = refl
rule_again by.N = refl
rule_again by.Branch = refl

rule_above : (rule : Rule) → IsAbove 32 (rule_text rule)
rule_above by.P = by_test 32 (codes "P") refl
rule_above by.N = by_test 32 (codes "N") refl
rule_above by.Branch = by_test 32 (codes "B") refl

pub state_again : (k : Kinds) (state : State) → AreSomeKinds k → IsState k state → state_in k (counts_text state.p_left) (counts_text state.n_left) (end_text state.p_end) (end_text state.n_end) ≡ Some state
state_again k state some h =
    rw (
      counts_again k.p state.p_left (few_each k.p (λ gate. (gates_few k gate some).0)) h.p_kinds h.p_counts,
      counts_again k.n state.n_left (few_each k.n (λ gate. (gates_few k gate some).1)) h.n_kinds h.n_counts,
      end_again k.nets state.p_end some.few_nets h.p_end,
      end_again k.nets state.n_end some.few_nets h.n_end,
      (state_decides k state some).1 h,
    )
    refl

pub lemma_again : (k : Kinds) (lemma : Lemma) → AreSomeKinds k → LemmaFits k lemma → entry_in k (codes "lemma" ∷ lemma_words lemma) ≡ Some (entry.Lemma lemma)
unfolding lemma_words
lemma_again k lemma some h =
    rw (
      is_below 64 (decimal lemma.bound) lemma.bound refl (omega (arith, h.few)) (omega arith),
      le-leb 1 lemma.bound h.some,
      rule_again lemma.rule,
      state_again k lemma.state some h.state,
    )
    refl

pub lemma_above : (lemma : Lemma) → All (IsAbove 32) (codes "lemma" ∷ lemma_words lemma)
unfolding lemma_words
lemma_above lemma =
    all_above (codes "lemma") (decimal lemma.bound) (rule_text lemma.rule) (counts_text lemma.state.p_left) (counts_text lemma.state.n_left)
    (by_test 32 (codes "lemma") refl)
    (above_more 47 32 (decimal lemma.bound) (omega arith) (above_decimal lemma.bound))
    (rule_above lemma.rule)
    (counts_above lemma.state.p_left)
    (counts_above lemma.state.n_left)
    (end_text lemma.state.p_end ∷ end_text lemma.state.n_end ∷ [])
    (All-cons (IsAbove 32) (end_text lemma.state.p_end) (end_text lemma.state.n_end ∷ []) (end_above lemma.state.p_end)
    (All-cons (IsAbove 32) (end_text lemma.state.n_end) [] (end_above lemma.state.n_end) (All-nil (IsAbove 32))))

-- ---- a column

pub flip_again : (flipped : Bool) → flip_in (flip_text flipped) ≡ Some flipped
flip_again true = refl
flip_again false = refl

flip_above : (flipped : Bool) → IsAbove 32 (flip_text flipped)
flip_above true = by_test 32 (codes "1") refl
flip_above false = by_test 32 (codes "0") refl

-- the two words of a place
unfoldable pub kind_word : Option Side → List ℕ
kind_word None = codes "-"
kind_word (Some side) = decimal side.kind

unfoldable pub flip_word : Option Side → List ℕ
flip_word None = codes "0"
flip_word (Some side) = flip_text side.flipped

two_words : (side : Option Side) → side_words side ≡ kind_word side ∷ flip_word side ∷ []
unfolding side_words kind_word flip_word
two_words None = refl
two_words (Some side) = refl

side_again : (kinds : List Kind) (side : Option Side) → length kinds ≤ 32 → SideFits kinds side → side_in kinds (kind_word side) (flip_word side) ≡ Some side
unfolding kind_word flip_word
side_again kinds None few h = refl
side_again kinds (Some side) few h =
    rw (flip_again side.flipped, no_dash side.kind, is_below (length kinds) (decimal side.kind) side.kind refl h (omega (arith, few))) refl

kind_above : (side : Option Side) → IsAbove 32 (kind_word side)
unfolding kind_word
kind_above None = by_test 32 (codes "-") refl
kind_above (Some side) = above_more 47 32 (decimal side.kind) (omega arith) (above_decimal side.kind)

flip_word_above : (side : Option Side) → IsAbove 32 (flip_word side)
unfolding flip_word
flip_word_above None = by_test 32 (codes "0") refl
flip_word_above (Some side) = flip_above side.flipped

is_filled : (p n : Option Side) → IsFilled (record { p = p; n = n }) → (is_some p || is_some n) ≡ true
is_filled (Some p) n h = refl
is_filled None (Some n) h = refl
is_filled None None h = elim h [ inl e ↦ absurd (e refl) | inr e ↦ absurd (e refl) ]

pub column_words_are : (listed : LogStep) → column_words listed ≡ decimal listed.gate.0 ∷ kind_word listed.step.p ∷ flip_word listed.step.p ∷ kind_word listed.step.n ∷ flip_word listed.step.n ∷ []
unfolding column_words
column_words_are listed = rw (two_words listed.step.p, two_words listed.step.n) refl

pub column_again : (k : Kinds) (listed : LogStep) → AreSomeKinds k → StepFits k listed → column_in k (codes "column" ∷ column_words listed) ≡ Some listed
column_again k listed some h =
    rw (
      column_words_are listed,
      is_below k.nets (decimal listed.gate.0) listed.gate.0 refl h.gate (omega (arith, some.few_nets)),
      side_again k.p listed.step.p (kinds_few k some).0 h.p,
      side_again k.n listed.step.n (kinds_few k some).1 h.n,
      is_filled listed.step.p listed.step.n h.filled,
    )
    refl

pub column_above : (listed : LogStep) → All (IsAbove 32) (codes "column" ∷ column_words listed)
column_above listed =
    let gate : IsAbove 32 (decimal listed.gate.0) = above_more 47 32 (decimal listed.gate.0) (omega arith) (above_decimal listed.gate.0) in
    rw (column_words_are listed)
    (all_above (codes "column") (decimal listed.gate.0) (kind_word listed.step.p) (flip_word listed.step.p) (kind_word listed.step.n)
    (by_test 32 (codes "column") refl) gate (kind_above listed.step.p) (flip_word_above listed.step.p) (kind_above listed.step.n)
    (flip_word listed.step.n ∷ [])
    (All-cons (IsAbove 32) (flip_word listed.step.n) [] (flip_word_above listed.step.n) (All-nil (IsAbove 32))))
