-- The columns of a row with their edges, gate by gate: one choice of each gate, and together all edges.
use Rattle.std.proofs.Common.{ℕ, ◌≡◌, ◌≢◌, ◌==◌, Bool, false, not, List, [], ◌∷◌, ◌++◌, map, refl, sym, ap, subst, ◌∙◌, inl, inr, All, AllPairs, Contains, IsPermutation, append_assoc}
use Rattle.std.specs.List.{AllZip, filter}
use Rattle.std.proofs.lemmas.Bool.{both_ways, cases_Bool, eq-eqb, eqb-true, ne_eqb, not-true, not_from_false, not_from_true}
use Rattle.std.proofs.lemmas.List.{map-append}
use Rattle.std.proofs.lemmas.List.Elements.{All-contains, All-head, All-tail}
use Rattle.std.proofs.lemmas.List.Sorted.{IsPermutation-append_comm, IsPermutation-append_left, IsPermutation-append_right, IsPermutation-filter_both, IsPermutation-map, IsPermutation-middle, IsPermutation-refl, IsPermutation-sym, IsPermutation-trans}
use Rattle.cell_num.specs.declared.net.NetNo.{NetNo}
use Rattle.cell_num.specs.declared.finger.Fingers.{Fingers}
use Rattle.cell_num.proofs.Lists.{all_from_contains, contains_cons, contains_none}
use Rattle.cell_num.proofs.Pairs.{pairs_head, pairs_tail}
use Rattle.row_model.specs.declared.column.Column.{Column}
use Rattle.trail_state.specs.declared.edge.Edge.{Edge}
use Rattle.trail_state.proofs.Along.{all_added}
use Rattle.trail_state.specs.Choices.{AreEdgesOf, IsEdgeOf}
use Rattle.trail_state.proofs.Follows.{added}
use Rattle.trail_state.proofs.Grouped.{columns_on, gate_at}
use Rattle.trail_state.proofs.Members.{filter_off, filter_on, passes_from}

abbrev pub Drawn : Type 0
Drawn = Column × Edge

abbrev pub column_at : Drawn → Column
column_at z = z.0

abbrev pub edge_at : Drawn → Edge
edge_at z = z.1

abbrev pub is_part : ℕ → Drawn → Bool
is_part g z = gate_at z.0 == g

abbrev pub part : ℕ → List Drawn → List Drawn
part g zs = filter (is_part g) zs

pub firsts : (g : ℕ) (zs : List Drawn) → map column_at (part g zs) ≡ columns_on g (map column_at zs)
firsts g [] = refl
firsts g (z ∷ zs) =
    elim (cases_Bool (is_part g z)) [
      | inl on ↦ ap (map column_at) (filter_on (is_part g) z zs on) ∙ ap (λ cs. z.0 ∷ cs) (firsts g zs) ∙ sym (filter_on (λ (c : Column). gate_at c == g) z.0 (map column_at zs) on)
      | inr off ↦ ap (map column_at) (filter_off (is_part g) z zs off) ∙ firsts g zs ∙ sym (filter_off (λ (c : Column). gate_at c == g) z.0 (map column_at zs) off)
    ]

abbrev pub IsDrawn : Fingers → Drawn → Type 0
IsDrawn f z = IsEdgeOf f z.0.p z.0.n z.1

pub drawn_zip : (f : Fingers) (zs : List Drawn) → All (IsDrawn f) zs → AreEdgesOf f (map column_at zs) (map edge_at zs)
drawn_zip f [] h = tt
drawn_zip f (z ∷ zs) h = (All-head (IsDrawn f) z zs h, drawn_zip f zs (All-tail (IsDrawn f) z zs h))

pub added_permutes : (c es : List Edge) → IsPermutation (c ++ es) (added es c)
added_permutes [] es = IsPermutation-refl es
added_permutes (e ∷ c) es =
    IsPermutation-trans (e ∷ (c ++ es)) (c ++ e ∷ es) (added (e ∷ es) c)
    (IsPermutation-sym (c ++ e ∷ es) (e ∷ (c ++ es)) (IsPermutation-middle c e es)) (added_permutes c (e ∷ es))

-- a part for each gate leaves none
abbrev pub IsOf : List NetNo → Drawn → Type 0
IsOf order z = (g : NetNo) × Contains order g × (gate_at z.0 ≡ g.0)

abbrev others : ℕ → List Drawn → List Drawn
others g zs = filter (λ z. not (is_part g z)) zs

part_stays : (g h : ℕ) (zs : List Drawn) → g ≢ h → part h (others g zs) ≡ part h zs
part_stays g h [] differ = refl
part_stays g h (z ∷ zs) differ =
    elim (cases_Bool (is_part g z)) [
      | inl on ↦
          let gone : others g (z ∷ zs) ≡ others g zs = filter_off (λ (y : Drawn). not (is_part g y)) z zs (not_from_true (is_part g z) on) in
          let not_h : is_part h z ≡ false = ne_eqb (gate_at z.0) h (λ e. differ (sym (eqb-true (gate_at z.0) g on) ∙ e)) in
          ap (part h) gone ∙ part_stays g h zs differ ∙ sym (filter_off (is_part h) z zs not_h)
      | inr off ↦
          let stays : others g (z ∷ zs) ≡ z ∷ others g zs = filter_on (λ (y : Drawn). not (is_part g y)) z zs (not_from_false (is_part g z) off) in
          elim (cases_Bool (is_part h z)) [
            | inl h_on ↦ ap (part h) stays ∙ filter_on (is_part h) z (others g zs) h_on ∙ ap (λ l. z ∷ l) (part_stays g h zs differ) ∙ sym (filter_on (is_part h) z zs h_on)
            | inr h_off ↦ ap (part h) stays ∙ filter_off (is_part h) z (others g zs) h_off ∙ part_stays g h zs differ ∙ sym (filter_off (is_part h) z zs h_off)
          ]
    ]

-- the edges of the gate's columns, in some order
abbrev pub IsChosen : List Drawn → NetNo → List Edge → Type 0
IsChosen zs g c = IsPermutation (map edge_at (part g.0 zs)) c

same_chosen : (g : ℕ) (gs : List NetNo) (zs : List Drawn) (cs : List (List Edge)) → All (λ (h : NetNo). g ≢ h.0) gs → AllZip (IsChosen zs) gs cs → AllZip (IsChosen (others g zs)) gs cs
same_chosen g [] zs [] differ h = tt
same_chosen g [] zs (c ∷ cs) differ h = h
same_chosen g (k ∷ gs) zs [] differ h = h
same_chosen g (k ∷ gs) zs (c ∷ cs) differ h =
    (subst (λ l. IsPermutation (map edge_at l) c) (sym (part_stays g k.0 zs (All-head (λ (n : NetNo). g ≢ n.0) k gs differ))) h.0, same_chosen g gs zs cs (All-tail (λ (n : NetNo). g ≢ n.0) k gs differ) h.1)

rest_of : (g : NetNo) (gs : List NetNo) (zs : List Drawn) → All (IsOf (g ∷ gs)) zs → All (IsOf gs) (others g.0 zs)
rest_of g gs zs all =
    all_from_contains (IsOf gs) (others g.0 zs) (λ z k. at z (All-contains (IsOf (g ∷ gs)) zs z all (passes_from (λ (y : Drawn). not (is_part g.0 y)) zs z k).there) (not-true (is_part g.0 z) (passes_from (λ (y : Drawn). not (is_part g.0 y)) zs z k).passes))
  where
    at : (z : Drawn) → IsOf (g ∷ gs) z → is_part g.0 z ≡ false → IsOf gs z
    at z (h, listed, is) off = elim (contains_cons g gs h listed) [
      | inl same ↦ absurd (both_ways (is_part g.0 z) off (eq-eqb (gate_at z.0) g.0 (is ∙ ap (λ (n : NetNo). n.0) (sym same))))
      | inr there ↦ (h, there, is)
    ]

-- one choice of each gate has all edges
pub all_chosen : (order : List NetNo) (zs : List Drawn) (es : List Edge) (cs : List (List Edge)) → AllPairs (λ (a b : NetNo). a.0 ≢ b.0) order → All (IsOf order) zs → AllZip (IsChosen zs) order cs → IsPermutation (map edge_at zs ++ es) (all_added es cs)
all_chosen [] [] es [] differ all h = IsPermutation-refl es
all_chosen [] zs es (c ∷ cs) differ all h = absurd h
all_chosen [] (z ∷ zs) es [] differ all h = let (g, listed, is) = All-head (IsOf []) z zs all in absurd (contains_none g listed)
all_chosen (g ∷ gs) zs es [] differ all h = absurd h
all_chosen (g ∷ gs) zs es (c ∷ cs) differ all h =
    let mine : List Edge = map edge_at (part g.0 zs) in
    let rest : List Edge = map edge_at (others g.0 zs) in
    let split : IsPermutation (map edge_at zs) (mine ++ rest) = subst (IsPermutation (map edge_at zs)) (map-append edge_at (part g.0 zs) (others g.0 zs)) (IsPermutation-map edge_at zs (part g.0 zs ++ others g.0 zs) (IsPermutation-filter_both (is_part g.0) (λ z. not (is_part g.0 z)) (λ z. refl) zs)) in
    let turned : IsPermutation (map edge_at zs) (rest ++ mine) = IsPermutation-trans (map edge_at zs) (mine ++ rest) (rest ++ mine) split (IsPermutation-append_comm mine rest) in
    let front : IsPermutation (map edge_at zs ++ es) ((rest ++ mine) ++ es) = IsPermutation-append_left es (map edge_at zs) (rest ++ mine) turned in
    let grouped : IsPermutation (map edge_at zs ++ es) (rest ++ (mine ++ es)) = subst (IsPermutation (map edge_at zs ++ es)) (append_assoc rest mine es) front in
    let one : IsPermutation (mine ++ es) (added es c) = IsPermutation-trans (mine ++ es) (c ++ es) (added es c) (IsPermutation-append_left es mine c h.0) (added_permutes c es) in
    let both : IsPermutation (rest ++ (mine ++ es)) (rest ++ added es c) = IsPermutation-append_right rest (mine ++ es) (added es c) one in
    let more : IsPermutation (rest ++ added es c) (all_added (added es c) cs) =
    all_chosen gs (others g.0 zs) (added es c) cs (pairs_tail (λ (a b : NetNo). a.0 ≢ b.0) g gs differ) (rest_of g gs zs all) (same_chosen g.0 gs zs cs (pairs_head (λ (a b : NetNo). a.0 ≢ b.0) g gs differ) h.1) in
    IsPermutation-trans (map edge_at zs ++ es) (rest ++ (mine ++ es)) (all_added (added es c) cs) grouped (IsPermutation-trans (rest ++ (mine ++ es)) (rest ++ added es c) (all_added (added es c) cs) both more)
