-- What is read is spelled so.
use Rattle.std.specs.Prelude.{ℕ, ◌≡◌, ◌+◌, ◌<◌, ◌||◌, Bool, true, false, leb, List, [], ◌∷◌, ◌++◌, Option, Some, None, length, map, option_map, codes, decimal}
use Rattle.std.proofs.Common.{refl, sym, ap, subst, arith, ◌∙◌, inl, inr}
use Rattle.std.specs.List.{join_with_byte}
use Rattle.std.specs.Option.{is_some}
use Rattle.std.proofs.lemmas.Bool.{leb-true}
use Rattle.std.proofs.lemmas.List.{append_assoc}
use Rattle.std.proofs.lemmas.List.Splits.{join_with_byte-slice_split}
use Rattle.std.proofs.lemmas.Option.{none-some, same_Some}
use Rattle.cell_num.specs.declared.net.NetNo.{NetNo}
use Rattle.row_state.specs.declared.kind.Kind.{Kind}
use Rattle.row_state.specs.declared.kind.Kinds.{Kinds}
use Rattle.row_state.specs.declared.state.State.{State}
use Rattle.row_state.specs.declared.step.Side.{Side}
use Rattle.row_state.specs.Start.{AreSomeKinds}
use Rattle.row_state.specs.Tests.{state_test}
use Rattle.row_state.proofs.Valid.{state_decides}
use Rattle.log_lines.specs.Words.{is_word, number_below, parts_at}
use Rattle.log_lines.proofs.Numbers.{chosen, found_below, same_words}
use Rattle.log_lines.proofs.Splits.{fed}
use Rattle.bound_log.specs.declared.log.Rule.{Rule}
use Rattle.bound_log.specs.declared.log.Rule.TheVariants as by
use Rattle.bound_log.specs.declared.log.Lemma.{Lemma}
use Rattle.bound_log.specs.declared.log.LogStep.{LogStep}
use Rattle.bound_log.specs.Fits.{IsFilled, LemmaFits, SideFits, StepFits}
use Rattle.bound_log.specs.Line.{◌>>=◌, step_in, counts_each, counts_in, end_in, flip_in, lemma_in, place_in, provided, rule_in, side_in, state_in}
use Rattle.bound_log.specs.Text.{column_line, counts_text, end_text, flip_text, lemma_line, rule_text, side_text}
use Rattle.bound_log.proofs.Texts.{state_apart}

pub bound : {A B : Type 0} (o : Option A) (f : A → Option B) (b : B) → (o >>= f) ≡ Some b → (a : A) × (o ≡ Some a) × (f a ≡ Some b)
bound None f b h = absurd (none-some b h)
bound (Some a) f b h = (a, refl, h)

pub is_provided : {B : Type 0} (t : Bool) (f : Unit {0} → Option B) (b : B) → (provided t >>= f) ≡ Some b → (t ≡ true) × (f tt ≡ Some b)
is_provided true f b h = (refl, h)
is_provided false f b h = absurd (none-some b h)

pub mapped : {A B : Type 0} (f : A → B) (o : Option A) (b : B) → option_map f o ≡ Some b → (a : A) × (o ≡ Some a) × (f a ≡ b)
mapped f None b h = absurd (none-some b h)
mapped f (Some a) b h = (a, refl, same_Some (f a) b h)

pub cons_same : {X : Type 0} (x y : X) (xs ys : List X) → x ≡ y → xs ≡ ys → (x ∷ xs) ≡ (y ∷ ys)
cons_same x y xs ys h t = cc

-- ---- words

rule_spelled : (word : List ℕ) (rule : Rule) → rule_in word ≡ Some rule → word ≡ rule_text rule
rule_spelled word rule h =
    elim (chosen (is_word word (codes "P")) _ _ _ h) [
      | inl p ↦ same_words word (codes "P") p.0 ∙ ap rule_text (same_Some by.P rule p.1)
      | inr not_p ↦ elim (chosen (is_word word (codes "N")) _ _ _ not_p.1) [
        | inl n ↦ same_words word (codes "N") n.0 ∙ ap rule_text (same_Some by.N rule n.1)
        | inr not_n ↦ elim (chosen (is_word word (codes "B")) _ _ _ not_n.1) [
          | inl b ↦ same_words word (codes "B") b.0 ∙ ap rule_text (same_Some by.Branch rule b.1)
          | inr none ↦ absurd (none-some rule none.1)
        ]
      ]
    ]

flip_spelled : (word : List ℕ) (flipped : Bool) → flip_in word ≡ Some flipped → word ≡ flip_text flipped
flip_spelled word flipped h =
    elim (chosen (is_word word (codes "0")) _ _ _ h) [
      | inl p ↦ same_words word (codes "0") p.0 ∙ ap flip_text (same_Some false flipped p.1)
      | inr other ↦ elim (chosen (is_word word (codes "1")) _ _ _ other.1) [
        | inl n ↦ same_words word (codes "1") n.0 ∙ ap flip_text (same_Some true flipped n.1)
        | inr none ↦ absurd (none-some flipped none.1)
      ]
    ]

counts_spelled_each : (kinds : List Kind) (words : List (List ℕ)) (counts : List ℕ) → counts_each kinds words ≡ Some counts → (words ≡ map decimal counts) × (length counts ≡ length kinds)
counts_spelled_each [] [] counts h = let same : [] ≡ counts = same_Some [] counts h in rw (sym same) (refl, refl)
counts_spelled_each [] (word ∷ words) counts h = absurd (none-some counts h)
counts_spelled_each (kind ∷ kinds) [] counts h = absurd (none-some counts h)
counts_spelled_each (kind ∷ kinds) (word ∷ words) counts h =
    let first = bound (number_below (kind.count + 1) word) _ counts h in
    let more = bound (counts_each kinds words) _ counts first.2 in
    let later : (words ≡ map decimal more.0) × (length more.0 ≡ length kinds) = counts_spelled_each kinds words more.0 more.1 in
    let same : first.0 ∷ more.0 ≡ counts = same_Some (first.0 ∷ more.0) counts more.2 in
    let spelled : word ≡ decimal first.0 = (found_below (kind.count + 1) word first.0 first.1).0 in
    subst (λ (cs : List ℕ). ((word ∷ words) ≡ map decimal cs) × (length cs ≡ length (kind ∷ kinds))) same (cons_same _ _ _ _ spelled later.0, omega (arith, later.1))

joined_counts : (counts : List ℕ) → 0 < length counts → join_with_byte 44 (map decimal counts) ≡ counts_text counts
joined_counts [] some = absurd (omega (arith, some))
joined_counts (c ∷ cs) some = refl

counts_spelled : (kinds : List Kind) (word : List ℕ) (counts : List ℕ) → counts_in kinds word ≡ Some counts → word ≡ counts_text counts
counts_spelled [] word counts h =
    elim (chosen (is_word word (codes "-")) _ _ _ h) [
      | inl e ↦ same_words word (codes "-") e.0 ∙ ap counts_text (same_Some [] counts e.1)
      | inr none ↦ absurd (none-some counts none.1)
    ]
counts_spelled (kind ∷ kinds) word counts h =
    let each : (parts_at 44 word ≡ map decimal counts) × (length counts ≡ length (kind ∷ kinds)) = counts_spelled_each (kind ∷ kinds) (parts_at 44 word) counts h in
    sym (join_with_byte-slice_split 44 word) ∙ (ap (join_with_byte 44) each.0 ∙ joined_counts counts (omega (arith, each.1)))

end_spelled : (nets : ℕ) (word : List ℕ) (end : Option NetNo) → end_in nets word ≡ Some end → word ≡ end_text end
end_spelled nets word end h =
    elim (chosen (is_word word (codes "-")) _ _ _ h) [
      | inl e ↦ same_words word (codes "-") e.0 ∙ ap end_text (same_Some None end e.1)
      | inr other ↦
          let net = mapped _ (number_below nets word) end other.1 in
          (found_below nets word net.0 net.1).0 ∙ ap end_text net.2
    ]

-- ---- a lemma

unfoldable pub lemma_words : Lemma → List (List ℕ)
lemma_words lemma =
    decimal lemma.bound ∷ rule_text lemma.rule ∷ counts_text lemma.state.p_left ∷ counts_text lemma.state.n_left ∷ end_text lemma.state.p_end ∷ end_text lemma.state.n_end ∷ []

pub record StateSpelled (k : Kinds) (p_left n_left p_end n_end : List ℕ) (state : State) : Type 0 where
  pub p_left_is : p_left ≡ counts_text state.p_left
  pub n_left_is : n_left ≡ counts_text state.n_left
  pub p_end_is : p_end ≡ end_text state.p_end
  pub n_end_is : n_end ≡ end_text state.n_end
  pub valid : state_test k state ≡ true

pub state_spelled : (k : Kinds) (p_left n_left p_end n_end : List ℕ) (state : State) → state_in k p_left n_left p_end n_end ≡ Some state → StateSpelled k p_left n_left p_end n_end state
state_spelled k p_left n_left p_end n_end state h =
    let p = bound (counts_in k.p p_left) _ state h in
    let n = bound (counts_in k.n n_left) _ state p.2 in
    let e = bound (end_in k.nets p_end) _ state n.2 in
    let f = bound (end_in k.nets n_end) _ state e.2 in
    let tested = is_provided (state_test k (record { p_left = p.0; n_left = n.0; p_end = e.0; n_end = f.0 })) _ state f.2 in
    let same : record { p_left = p.0; n_left = n.0; p_end = e.0; n_end = f.0 } ≡ state = same_Some _ state tested.1 in
    subst (StateSpelled k p_left n_left p_end n_end) same
    (record {
      p_left_is = counts_spelled k.p p_left p.0 p.1;
      n_left_is = counts_spelled k.n n_left n.0 n.1;
      p_end_is = end_spelled k.nets p_end e.0 e.1;
      n_end_is = end_spelled k.nets n_end f.0 f.1;
      valid = tested.0;
    })

pub lemma_spelled : (k : Kinds) (words : List (List ℕ)) (lemma : Lemma) → AreSomeKinds k → lemma_in k words ≡ Some lemma → (words ≡ lemma_words lemma) × LemmaFits k lemma
unfolding lemma_words
lemma_spelled k [] lemma some h = absurd (none-some lemma h)
lemma_spelled k (a ∷ []) lemma some h = absurd (none-some lemma h)
lemma_spelled k (a ∷ b ∷ []) lemma some h = absurd (none-some lemma h)
lemma_spelled k (a ∷ b ∷ c ∷ []) lemma some h = absurd (none-some lemma h)
lemma_spelled k (a ∷ b ∷ c ∷ d ∷ []) lemma some h = absurd (none-some lemma h)
lemma_spelled k (a ∷ b ∷ c ∷ d ∷ e ∷ []) lemma some h = absurd (none-some lemma h)
lemma_spelled k (a ∷ b ∷ c ∷ d ∷ e ∷ f ∷ g ∷ gs) lemma some h = absurd (none-some lemma h)
lemma_spelled k (number ∷ rule ∷ p_left ∷ n_left ∷ p_end ∷ n_end ∷ []) lemma some h =
    let n = bound (number_below 64 number) _ lemma h in
    let positive = is_provided (leb 1 n.0) _ lemma n.2 in
    let r = bound (rule_in rule) _ lemma positive.1 in
    let s = bound (state_in k p_left n_left p_end n_end) _ lemma r.2 in
    let same : record { state = s.0; bound = n.0; rule = r.0 } ≡ lemma = same_Some _ lemma s.2 in
    let found : (number ≡ decimal n.0) × (n.0 < 64) = found_below 64 number n.0 n.1 in
    let state : StateSpelled k p_left n_left p_end n_end s.0 = state_spelled k p_left n_left p_end n_end s.0 s.1 in
    subst (λ (l : Lemma). ((number ∷ rule ∷ p_left ∷ n_left ∷ p_end ∷ n_end ∷ []) ≡ lemma_words l) × LemmaFits k l) same (
      cons_same _ _ _ _ found.0 (cons_same _ _ _ _ (rule_spelled rule r.0 r.1) (cons_same _ _ _ _ state.p_left_is (cons_same _ _ _ _ state.n_left_is (cons_same _ _ _ _ state.p_end_is (cons_same _ _ _ _ state.n_end_is refl))))),
      record { state = (state_decides k s.0 some).0 state.valid; some = leb-true 1 n.0 positive.0; few = omega (arith, found.1) },
    )

-- ---- a column

unfoldable pub side_words : Option Side → List (List ℕ)
side_words None = codes "-" ∷ codes "0" ∷ []
side_words (Some side) = decimal side.kind ∷ flip_text side.flipped ∷ []

unfoldable pub column_words : LogStep → List (List ℕ)
column_words listed = decimal listed.gate.0 ∷ (side_words listed.step.p ++ side_words listed.step.n)

place_filled : (kinds : List Kind) (word : List ℕ) (flipped : Bool) (side : Option Side) → option_map (λ n. Some (record { kind = n; flipped = flipped })) (number_below (length kinds) word) ≡ Some side → ((word ∷ flip_text flipped ∷ []) ≡ side_words side) × SideFits kinds side
unfolding side_words
place_filled kinds word flipped side h =
    let n = mapped (λ n. Some (record { kind = n; flipped = flipped })) (number_below (length kinds) word) side h in
    let found : (word ≡ decimal n.0) × (n.0 < length kinds) = found_below (length kinds) word n.0 n.1 in
    subst (λ (x : Option Side). ((word ∷ flip_text flipped ∷ []) ≡ side_words x) × SideFits kinds x) n.2 (cons_same _ _ _ _ found.0 refl, found.1)

place_spelled : (kinds : List Kind) (word : List ℕ) (flipped : Bool) (side : Option Side) → place_in kinds word flipped ≡ Some side → ((word ∷ flip_text flipped ∷ []) ≡ side_words side) × SideFits kinds side
unfolding side_words
place_spelled kinds word true side h =
    elim (chosen (is_word word (codes "-")) _ _ _ h) [
      | inl e ↦ absurd (none-some side e.1)
      | inr other ↦ place_filled kinds word true side other.1
    ]
place_spelled kinds word false side h =
    elim (chosen (is_word word (codes "-")) _ _ _ h) [
      | inl e ↦ let same : None ≡ side = same_Some None side e.1 in rw (sym same) (rw (same_words word (codes "-") e.0) refl, tt)
      | inr other ↦ place_filled kinds word false side other.1
    ]

side_spelled : (kinds : List Kind) (word flip : List ℕ) (side : Option Side) → side_in kinds word flip ≡ Some side → ((word ∷ flip ∷ []) ≡ side_words side) × SideFits kinds side
side_spelled kinds word flip side h =
    let f = bound (flip_in flip) _ side h in
    let place : ((word ∷ flip_text f.0 ∷ []) ≡ side_words side) × SideFits kinds side = place_spelled kinds word f.0 side f.2 in
    (cons_same _ _ _ _ refl (cons_same _ _ _ _ (flip_spelled flip f.0 f.1) refl) ∙ place.0, place.1)

filled : (p n : Option Side) → (is_some p || is_some n) ≡ true → IsFilled (record { p = p; n = n })
filled (Some p) n h = inl (λ e. none-some p (sym e))
filled None (Some n) h = inr (λ e. none-some n (sym e))
filled None None h = absurd cc

pub step_spelled : (k : Kinds) (words : List (List ℕ)) (listed : LogStep) → step_in k words ≡ Some listed → (words ≡ column_words listed) × StepFits k listed
unfolding column_words
step_spelled k [] listed h = absurd (none-some listed h)
step_spelled k (a ∷ []) listed h = absurd (none-some listed h)
step_spelled k (a ∷ b ∷ []) listed h = absurd (none-some listed h)
step_spelled k (a ∷ b ∷ c ∷ []) listed h = absurd (none-some listed h)
step_spelled k (a ∷ b ∷ c ∷ d ∷ []) listed h = absurd (none-some listed h)
step_spelled k (a ∷ b ∷ c ∷ d ∷ e ∷ f ∷ fs) listed h = absurd (none-some listed h)
step_spelled k (gate ∷ p_kind ∷ p_flip ∷ n_kind ∷ n_flip ∷ []) listed h =
    let g = bound (number_below k.nets gate) _ listed h in
    let p = bound (side_in k.p p_kind p_flip) _ listed g.2 in
    let n = bound (side_in k.n n_kind n_flip) _ listed p.2 in
    let some = is_provided (is_some p.0 || is_some n.0) _ listed n.2 in
    let same : record { gate = record { 0 = g.0 }; step = record { p = p.0; n = n.0 } } ≡ listed = same_Some _ listed some.1 in
    let found : (gate ≡ decimal g.0) × (g.0 < k.nets) = found_below k.nets gate g.0 g.1 in
    let ps : ((p_kind ∷ p_flip ∷ []) ≡ side_words p.0) × SideFits k.p p.0 = side_spelled k.p p_kind p_flip p.0 p.1 in
    let ns : ((n_kind ∷ n_flip ∷ []) ≡ side_words n.0) × SideFits k.n n.0 = side_spelled k.n n_kind n_flip n.0 n.1 in
    subst (λ (l : LogStep). ((gate ∷ p_kind ∷ p_flip ∷ n_kind ∷ n_flip ∷ []) ≡ column_words l) × StepFits k l) same
    (cons_same _ _ _ _ found.0 (ap (λ (ws : List (List ℕ)). ws ++ (n_kind ∷ n_flip ∷ [])) ps.0 ∙ ap (λ (ws : List (List ℕ)). side_words p.0 ++ ws) ns.0), record { gate = found.1; p = ps.1; n = ns.1; filled = filled p.0 n.0 some.0 })

-- ---- lines

fields_joined : (lemma : Lemma) → fed (join_with_byte 32 (codes "lemma" ∷ lemma_words lemma)) ≡ codes "lemma " ++ decimal lemma.bound ++ codes " " ++ rule_text lemma.rule ++ codes " " ++ counts_text lemma.state.p_left ++ codes " " ++ counts_text lemma.state.n_left ++ codes " " ++ end_text lemma.state.p_end ++ codes " " ++ end_text lemma.state.n_end ++ codes "\n"
unfolding lemma_words
fields_joined lemma = simp append_assoc

pub lemma_joined : (lemma : Lemma) → fed (join_with_byte 32 (codes "lemma" ∷ lemma_words lemma)) ≡ lemma_line lemma
lemma_joined lemma =
    fields_joined lemma
    ∙ sym (state_apart (codes "lemma " ++ decimal lemma.bound ++ codes " " ++ rule_text lemma.rule ++ codes " ") (codes " ") (codes "\n") (counts_text lemma.state.p_left) (counts_text lemma.state.n_left) (end_text lemma.state.p_end) (end_text lemma.state.n_end))

-- the text of a column, with the texts of its places apart
column_apart : (gate p n : List ℕ) → codes "column " ++ gate ++ codes " " ++ p ++ codes " " ++ n ++ codes "\n" ≡ codes "column " ++ (gate ++ (32 ∷ (p ++ (32 ∷ (n ++ (10 ∷ []))))))
column_apart gate p n = simp append_assoc

side_apart : (side : Option Side) (rest : List ℕ) → side_text side ++ rest ≡ join_with_byte 32 (side_words side) ++ rest
unfolding side_words
side_apart None rest = refl
side_apart (Some side) rest = ap (λ (bs : List ℕ). bs ++ rest) (append_assoc (decimal side.kind) (32 ∷ []) (flip_text side.flipped))

column_of_words : (gate : ℕ) (p n : Option Side) → fed (join_with_byte 32 (codes "column" ∷ decimal gate ∷ (side_words p ++ side_words n))) ≡ codes "column " ++ (decimal gate ++ (32 ∷ (join_with_byte 32 (side_words p) ++ (32 ∷ (join_with_byte 32 (side_words n) ++ (10 ∷ []))))))
unfolding side_words
column_of_words gate None None = simp append_assoc
column_of_words gate None (Some n) = simp append_assoc
column_of_words gate (Some p) None = simp append_assoc
column_of_words gate (Some p) (Some n) = simp append_assoc

pub column_joined : (listed : LogStep) → fed (join_with_byte 32 (codes "column" ∷ column_words listed)) ≡ column_line listed
unfolding column_words
column_joined listed =
    column_of_words listed.gate.0 listed.step.p listed.step.n
    ∙ (ap (λ (bs : List ℕ). codes "column " ++ (decimal listed.gate.0 ++ (32 ∷ bs)))
    (sym (side_apart listed.step.p (32 ∷ (join_with_byte 32 (side_words listed.step.n) ++ (10 ∷ []))))
    ∙ ap (λ (bs : List ℕ). side_text listed.step.p ++ (32 ∷ bs)) (sym (side_apart listed.step.n (10 ∷ []))))
    ∙ sym (column_apart (decimal listed.gate.0) (side_text listed.step.p) (side_text listed.step.n)))
