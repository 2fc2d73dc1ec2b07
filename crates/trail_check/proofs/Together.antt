-- The columns of a choice of each gate arrange all fingers.
use Rattle.std.proofs.Common.{ℕ, zero, suc, ◌≡◌, ◌≢◌, ◌+◌, ◌<◌, ◌==◌, if◌then◌else◌, max, List}
use Rattle.std.proofs.Common.{[], ◌∷◌, ◌++◌, option_map, length, length-append, refl, sym, ap}
use Rattle.std.proofs.Common.{subst, arith, ◌∙◌, inl, inr, ◌⊎◌, All, AllPairs, Contains, IsPermutation, sum_by}
use Rattle.std.specs.List.{AllZip, filter, flat_map}
use Rattle.std.proofs.lemmas.Bool.{cases_eq, cases_lt, eq-eqb, ne_eqb}
use Rattle.std.proofs.lemmas.List.Elements.{All-append, All-contains, All-nil, filter_map-append}
use Rattle.std.proofs.lemmas.List.Sorted.{IsPermutation-append, IsPermutation-refl, IsPermutation-trans}
use Rattle.std.proofs.lemmas.List.Sums.{sum_by-cons}
use Rattle.cell_num.specs.declared.net.NetNo.{NetNo}
use Rattle.cell_num.specs.declared.finger.Row.{Row}
use Rattle.cell_num.specs.declared.finger.Row.TheVariants.{P, N}
use Rattle.cell_num.specs.declared.finger.Finger.{Finger}
use Rattle.cell_num.specs.declared.finger.Fingers.{Fingers}
use Rattle.cell_num.specs.Fingers.{columns_of, on_gate, sum_below}
use Rattle.cell_num.proofs.Lists.{contains_cons, contains_here, contains_none, contains_there}
use Rattle.cell_num.proofs.Pairs.{count_there, pairs_head, pairs_tail}
use Rattle.row_model.specs.declared.column.Placed.{Placed}
use Rattle.row_model.specs.declared.column.Column.{Column}
use Rattle.row_model.specs.Arrangement.{IsArrangement, IsColumn, fingers_in, place}
use Rattle.row_state.specs.Gates.{OneDiffers, one_differs}
use Rattle.trail_state.specs.declared.edge.Edge.{Edge}
use Rattle.trail_state.specs.Choices.{AreEdgesOf, IsChoice, IsEdgeOf, fingers_on, is_on}
use Rattle.trail_state.specs.Levels.{IsGate, IsOrder}
use Rattle.trail_state.proofs.Grouped.{columns_of_gate}
use Rattle.trail_check.specs.Rows.{AreChoices}
use Rattle.trail_check.proofs.Lists.{all_keys}

pub zip_append : {X Y : Type 0} (R : X → Y → Type 0) (xs us : List X) (ys vs : List Y) → AllZip R xs ys → AllZip R us vs
    → AllZip R (xs ++ us) (ys ++ vs)
zip_append R [] us [] vs h k = k
zip_append R [] us (y ∷ ys) vs h k = absurd h
zip_append R (x ∷ xs) us [] vs h k = absurd h
zip_append R (x ∷ xs) us (y ∷ ys) vs h k = (h.0, zip_append R xs us ys vs h.1 k)

abbrev gate_key : Finger → ℕ
gate_key x = x.gate.0

abbrev on_all : List Finger → List NetNo → List Finger
on_all fs gs = flat_map (λ (g : NetNo). filter (λ (x : Finger). x.gate.0 == g.0) fs) gs

abbrev columns_at : Fingers → NetNo → ℕ
columns_at f g = columns_of (fingers_on g.0 f)

-- columns with their edges, of these gates
pub record Together (f : Fingers) (gs : List NetNo) (es : List Edge) : Type 0 where
  pub columns : List Column
  pub edges : List Edge
  pub are : All IsColumn columns
  pub p : IsPermutation (on_all f.p gs) (fingers_in P columns)
  pub n : IsPermutation (on_all f.n gs) (fingers_in N columns)
  pub as_many : length columns ≡ sum_by (columns_at f) gs
  pub filled : AreEdgesOf f columns edges
  pub same : IsPermutation edges es

fingers_append : (r : Row) (cs ds : List Column) → fingers_in r (cs ++ ds) ≡ fingers_in r cs ++ fingers_in r ds
fingers_append r cs ds = filter_map-append (λ (c : Column). option_map (λ (x : Placed). x.finger) (place r c)) cs ds

together : (f : Fingers) (gs : List NetNo) (cs : List (List Edge)) → AreChoices f gs cs
    → Together f gs (flat_map (λ (c : List Edge). c) cs)
together f [] [] h = record {
  columns = [];
  edges = [];
  are = All-nil IsColumn;
  p = IsPermutation-refl [];
  n = IsPermutation-refl [];
  as_many = refl;
  filled = tt;
  same = IsPermutation-refl [];
}
together f [] (c ∷ cs) h = absurd h
together f (g ∷ gs) [] h = absurd h
together f (g ∷ gs) (c ∷ cs) h =
    let mine : IsChoice f g.0 c = h.0 in
    let rest : Together f gs (flat_map (λ (d : List Edge). d) cs) = together f gs cs h.1 in
    let all : List Column = mine.columns ++ rest.columns in
    record {
      columns = all;
      edges = mine.edges ++ rest.edges;
      are = All-append IsColumn mine.columns rest.columns mine.arranges.columns rest.are;
      p =
          subst (IsPermutation ((fingers_on g.0 f).p ++ on_all f.p gs))
          (sym (fingers_append P mine.columns rest.columns))
          (IsPermutation-append (fingers_on g.0 f).p (fingers_in P mine.columns) (on_all f.p gs)
          (fingers_in P rest.columns) mine.arranges.p rest.p);
      n =
          subst (IsPermutation ((fingers_on g.0 f).n ++ on_all f.n gs))
          (sym (fingers_append N mine.columns rest.columns))
          (IsPermutation-append (fingers_on g.0 f).n (fingers_in N mine.columns) (on_all f.n gs)
          (fingers_in N rest.columns) mine.arranges.n rest.n);
      as_many =
          omega (
            arith,
            length-append mine.columns rest.columns,
            mine.arranges.fewest,
            rest.as_many,
            sum_by-cons
                (columns_at f) g gs,
          );
      filled =
          zip_append (λ (d : Column) (e : Edge). IsEdgeOf f d.p d.n e) mine.columns rest.columns mine.edges rest.edges
          mine.filled rest.filled;
      same = IsPermutation-append mine.edges c rest.edges (flat_map (λ (d : List Edge). d) cs) mine.listed rest.same;
    }

without : (ℕ → ℕ) → ℕ → ℕ → ℕ
without f at h = if h == at then 0 else f h

without_at : (f : ℕ → ℕ) (at : ℕ) → without f at at ≡ 0
unfolding without
without_at f at = rw (eq-eqb at at refl) refl

without_other : (f : ℕ → ℕ) (at h : ℕ) → (h ≡ at → ⊥) → without f at h ≡ f h
unfolding without
without_other f at h other = rw (ne_eqb h at other) refl

abbrev Listed : (ℕ → ℕ) → List NetNo → Type 0
Listed m gs = (g : NetNo) → (m g.0 ≡ 0) ⊎ Contains gs g

left_listed : (m : ℕ → ℕ) (g : NetNo) (gs : List NetNo) → Listed m (g ∷ gs) → Listed (without m g.0) gs
left_listed m g gs all h = by (all h)
  where
    by : (m h.0 ≡ 0) ⊎ Contains (g ∷ gs) h → (without m g.0 h.0 ≡ 0) ⊎ Contains gs h
    by (inl none) = elim (cases_eq h.0 g.0) [
      | inl e ↦ inl (ap (without m g.0) e ∙ without_at m g.0)
      | inr other ↦ inl (without_other m g.0 h.0 other ∙ none)
    ]
    by (inr there) = elim (contains_cons g gs h there) [
      | inl e ↦ inl (ap (λ (k : NetNo). without m g.0 k.0) (sym e) ∙ without_at m g.0)
      | inr later ↦ inr later
    ]

same_sum : (m : ℕ → ℕ) (g : NetNo) (hs : List NetNo) → ((h : NetNo) → Contains hs h → g.0 ≢ h.0)
    → sum_by (λ (h : NetNo). without m g.0 h.0) hs ≡ sum_by (λ (h : NetNo). m h.0) hs
same_sum m g [] apart = refl
same_sum m g (h ∷ hs) apart = omega (
  arith,
  without_other m g.0 h.0 (λ e. apart h (contains_here h hs) (sym e)),
  same_sum m g hs (λ k l. apart k (contains_there h hs k l)),
  sum_by-cons (λ (k : NetNo). without m g.0 k.0) h hs,
  sum_by-cons (λ (k : NetNo). m k.0) h hs,
)

zeros : (m : ℕ → ℕ) (n : ℕ) → ((h : ℕ) → m h ≡ 0) → sum_below m n ≡ 0
zeros m zero none = refl
zeros m (suc n) none = omega (arith, zeros m n none, none n)

-- a sum over numbers of which each is listed once, where others count nothing
sum_listed : (m : ℕ → ℕ) (n : ℕ) (gs : List NetNo) → AllPairs (λ (a b : NetNo). a.0 ≢ b.0) gs
    → ((g : NetNo) → Contains gs g → g.0 < n) → Listed m gs → sum_by (λ (g : NetNo). m g.0) gs ≡ sum_below m n
sum_listed m n [] differ below all = sym (zeros m n none)
  where
    none : (h : ℕ) → m h ≡ 0
    none h = let g : NetNo = record { 0 = h } in elim (all g) [ inl e ↦ e | inr there ↦ absurd (contains_none g there) ]
sum_listed m n (g ∷ gs) differ below all =
    let apart : All (λ (b : NetNo). g.0 ≢ b.0) gs = pairs_head (λ (a b : NetNo). a.0 ≢ b.0) g gs differ in
    let rest : sum_by (λ (h : NetNo). without m g.0 h.0) gs ≡ sum_below (without m g.0) n =
    sum_listed (without m g.0) n gs (pairs_tail (λ (a b : NetNo). a.0 ≢ b.0) g gs differ)
    (λ h k. below h (contains_there g gs h k)) (left_listed m g gs all) in
    let one : OneDiffers m (without m g.0) n g.0 =
    one_differs m (without m g.0) n g.0 (λ h other. sym (without_other m g.0 h other)) in
    omega (
      arith,
      rest,
      one.within (below g (contains_here g gs)),
      without_at m g.0,
      same_sum m g gs
          (λ h k. All-contains (λ (b : NetNo). g.0 ≢ b.0) gs h apart k),
      sum_by-cons (λ (h : NetNo). m h.0) g gs,
    )

-- all fingers and columns
pub record Whole (f : Fingers) (es : List Edge) : Type 0 where
  pub columns : List Column
  pub edges : List Edge
  pub arranges : IsArrangement columns f
  pub filled : AreEdgesOf f columns edges
  pub same : IsPermutation edges es

module _ (f : Fingers) (order : List NetNo) (is_order : IsOrder f order)
    (below : (g : NetNo) → Contains order g → g.0 < f.nets) where
  p_gate : (x : Finger) → Contains f.p x → IsGate f x.gate.0
  p_gate x k = omega (arith, count_there (is_on x.gate.0) f.p x k (eq-eqb x.gate.0 x.gate.0 refl))

  n_gate : (x : Finger) → Contains f.n x → IsGate f x.gate.0
  n_gate x k = omega (arith, count_there (is_on x.gate.0) f.n x k (eq-eqb x.gate.0 x.gate.0 refl))

  all_p : IsPermutation f.p (on_all f.p order)
  all_p = all_keys gate_key order f.p is_order.once (λ x k. (x.gate, is_order.all_gates x.gate (p_gate x k), refl))

  all_n : IsPermutation f.n (on_all f.n order)
  all_n = all_keys gate_key order f.n is_order.once (λ x k. (x.gate, is_order.all_gates x.gate (n_gate x k), refl))

  abbrev most : ℕ → ℕ
  most g = max (on_gate g f.p) (on_gate g f.n)

  each_gate : (gs : List NetNo) → ((g : NetNo) → Contains gs g → g.0 < f.nets)
      → sum_by (columns_at f) gs ≡ sum_by (λ (g : NetNo). most g.0) gs
  each_gate [] within = refl
  each_gate (g ∷ gs) within = omega (
    arith,
    columns_of_gate f g.0 (within g (contains_here g gs)),
    each_gate gs (λ h k. within h (contains_there g gs h k)),
    sum_by-cons (columns_at f) g gs,
    sum_by-cons (λ (h : NetNo). most h.0) g gs,
  )

  some_or_none : (g : NetNo) → (most g.0 ≡ 0) ⊎ Contains order g
  some_or_none g = elim (cases_lt 0 (on_gate g.0 f.p + on_gate g.0 f.n)) [
    | inl some ↦ inr (is_order.all_gates g some)
    | inr none ↦ inl (omega (arith, none))
  ]

  all_columns : sum_by (columns_at f) order ≡ columns_of f
  all_columns = each_gate order below ∙ sum_listed most f.nets order is_order.once below some_or_none

  pub whole : (cs : List (List Edge)) → AreChoices f order cs → Whole f (flat_map (λ (c : List Edge). c) cs)
  whole cs each =
      let t : Together f order (flat_map (λ (c : List Edge). c) cs) = together f order cs each in
      record {
        columns = t.columns;
        edges = t.edges;
        arranges = record {
          columns = t.are;
          p = IsPermutation-trans f.p (on_all f.p order) (fingers_in P t.columns) all_p t.p;
          n = IsPermutation-trans f.n (on_all f.n order) (fingers_in N t.columns) all_n t.n;
          fewest = t.as_many ∙ all_columns;
        };
        filled = t.filled;
        same = t.same;
      }
