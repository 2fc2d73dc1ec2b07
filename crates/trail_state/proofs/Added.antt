-- The columns of a part that are added, and those that are known and left out.
use Rattle.std.proofs.Common.{ℕ, ◌≡◌, ◌<◌, ◌≤◌, ◌+◌, ◌==◌, Bool, true, false, not, if◌then◌else◌, ltb, List, [], ◌∷◌, Some, drop, get_or, length, slice_get, take, refl, sym, ap, subst, arith, ◌∙◌, inl, inr, Contains}
use Rattle.std.specs.List.{flat_map, list_any, position_or_len}
use Rattle.std.proofs.lemmas.Bool.{cases_Bool, cases_lt, eqb-true, false≢true, le-leb, le-ltb, lt-ltb}
use Rattle.std.proofs.lemmas.List.{drop_all, get_or-take, length-take}
use Rattle.std.proofs.lemmas.List.Elements.{Contains-append_left, Contains-append_right, Contains-get_or}
use Rattle.std.proofs.lemmas.List.Sums.{passes_at_first, position_or_len_is}
use Rattle.std.proofs.lemmas.Option.{get_or_from_slice_get, slice_get-get_or, slice_get_within}
use Rattle.cell_num.proofs.In.{contains_flat}
use Rattle.cell_num.proofs.Lists.{contains_none}
use Rattle.cell_num.proofs.Pairs.{Some', test_fails, test_finds}
use Rattle.trail_state.specs.declared.edge.Edge.{Edge}
use Rattle.trail_state.specs.declared.edge.FingerEnds.{FingerEnds}
use Rattle.trail_state.specs.declared.front.Known.{Known}
use Rattle.trail_state.specs.declared.front.Part.{Part}
use Rattle.trail_state.specs.declared.front.Reached.{Reached}
use Rattle.trail_state.specs.declared.gate.Gate.{Gate}
use Rattle.trail_state.specs.Edges.{n_edges, p_edges, pair_edges}
use Rattle.trail_state.specs.Fronts.{paired, paired_with, same_nets, with_all, with_column, without}
use Rattle.trail_state.specs.Known.{AreKnown, AreNext, HasAll, is_again, known_edges, known_parts, parts_of}
use Rattle.trail_state.specs.Same.{nets_decides, nets_same}
use Rattle.trail_state.proofs.Fronts.{all_same}
use Rattle.trail_state.proofs.Known.{alone_next, drop_stands, n_next, pair_next}
use Rattle.trail_state.proofs.Listed.{all_kept, each_there}

pub start_same : (old some : List Part) → HasAll old some → old ≡ with_all old some
start_same old some has = sym (all_same old some has)

pub still_there : (old now some more : List Part) → now ≡ with_all old some → HasAll old more → HasAll now more
still_there old now some more is has p c = subst (λ l. Contains l p) (sym is) (all_kept some old p (has p c))

pub now_there : (old now some : List Part) → now ≡ with_all old some → HasAll now some
now_there old now some is p c = subst (λ l. Contains l p) (sym is) (each_there some old p c)

-- ---- one of the N fingers left

-- none before it has its nets
pub first_at : (y : FingerEnds) (left : List FingerEnds) (at : ℕ) → slice_get left at ≡ Some y → not (list_any (same_nets y) (take at left)) ≡ true → at ≡ position_or_len (same_nets y) left
first_at y left at stands none =
    let off : list_any (same_nets y) (take at left) ≡ false = turned (list_any (same_nets y) (take at left)) none in
    let within : at < length left = slice_get_within left at y stands in
    sym (position_or_len_is (same_nets y) left at y (omega (arith, within))
    (λ k lt. test_fails (same_nets y) (take at left) (get_or left k y) off
    (subst (Contains (take at left)) (get_or-take at left k y lt) (Contains-get_or (take at left) k y (omega (arith, lt, within, length-take at left)))))
    (λ _. (nets_decides y (get_or left at y)).1 (sym (get_or_from_slice_get left at y y stands))))
  where
    turned : (b : Bool) → not b ≡ true → b ≡ false
    turned true h = sym h
    turned false h = refl

-- one before it has its nets: no part is new
pub again_added : (x : FingerEnds) (part : Part) (y : FingerEnds) (at : ℕ) (now : List Part) → not (list_any (same_nets y) (take at part.left)) ≡ false → HasAll now (flat_map (paired_with x part) (take at part.left)) → now ≡ with_all now (paired_with x part y)
again_added x part y at now some has =
    let found : Some' (λ z. same_nets y z ≡ true) (take at part.left) = test_finds (same_nets y) (take at part.left) (turned (list_any (same_nets y) (take at part.left)) some) in
    let same : y ≡ found.it = nets_same y found.it found.holds in
    start_same now (paired_with x part y)
    (λ p c. has p (contains_flat (paired_with x part) (take at part.left) found.it p found.there (subst (λ z. Contains (paired_with x part z) p) same c)))
  where
    turned : (b : Bool) → not b ≡ false → b ≡ true
    turned true h = refl
    turned false h = sym h

pub first_edges : (x : FingerEnds) (part : Part) (y : FingerEnds) (at fingers edges first : ℕ) (d : FingerEnds) (old now some : List Part) → at < length part.left → y ≡ get_or part.left at d → first ≡ (if at == fingers then edges else 0) → now ≡ with_all old some → ((z : FingerEnds) → slice_get part.left fingers ≡ Some z → HasAll old (with_column part (without z part.left) (take edges (pair_edges x z)))) → HasAll now (with_column part (without y part.left) (take first (pair_edges x y)))
first_edges x part y at fingers edges first d old now some within is number so_far has p c = elim (cases_Bool (at == fingers)) [
  | inl on ↦
      let same : first ≡ edges = number ∙ ap (λ b. if b then edges else 0) on in
      let stands : slice_get part.left fingers ≡ Some y = ap (slice_get part.left) (sym (eqb-true at fingers on)) ∙ slice_get-get_or part.left at d within ∙ ap (λ z. Some z) (sym is) in
      still_there old now some (with_column part (without y part.left) (take edges (pair_edges x y))) so_far (has y stands) p (subst (λ n. Contains (with_column part (without y part.left) (take n (pair_edges x y))) p) same c)
  | inr off ↦
      let none : first ≡ 0 = number ∙ ap (λ b. if b then edges else 0) off in
      absurd (contains_none p (subst (λ n. Contains (with_column part (without y part.left) (take n (pair_edges x y))) p) none c))
]

pub pair_known : (gate : Gate) (x : FingerEnds) (xs : List FingerEnds) (part : Part) (y : FingerEnds) (others : List FingerEnds) (at : ℕ) (again : Bool) (edges : List Edge) (old new : List Reached) → at ≡ position_or_len (same_nets y) part.left → at < length part.left → others ≡ without y part.left → (again ≡ true → slice_get others at ≡ Some y) → edges ≡ pair_edges x y → ((g : Gate) (zs : List FingerEnds) → AreNext g zs (parts_of old) part others at again edges → AreKnown g zs old → AreKnown g zs new) → HasAll (parts_of old) (flat_map (paired_with x part) (take at part.left)) → AreKnown gate (x ∷ xs) old → AreKnown gate (x ∷ xs) new
pair_known gate x xs part y others at again edges old new first there is stands both step has known =
    let mine : y ≡ get_or part.left (position_or_len (same_nets y) part.left) y = nets_same y (get_or part.left (position_or_len (same_nets y) part.left) y) (passes_at_first (same_nets y) part.left y (omega (arith, first, there))) in
    let listed : Contains part.left y = subst (Contains part.left) (sym mine) (Contains-get_or part.left (position_or_len (same_nets y) part.left) y (omega (arith, first, there))) in
    step gate (x ∷ xs)
    (subst (λ l. AreNext gate (x ∷ xs) (parts_of old) part l at again edges) (sym is) (subst (AreNext gate (x ∷ xs) (parts_of old) part (without y part.left) at again) (sym both)
    (pair_next gate x xs (parts_of old) part y at again first there (λ on. subst (λ l. slice_get l at ≡ Some y) is (stands on)) listed has)))
    known

-- ---- a P finger alone

pub alone_there : (gate : Gate) (x : FingerEnds) (behind : List FingerEnds) (part : Part) (fingers known first : ℕ) (edges : List Edge) (old : List Part) → length part.left ≤ length behind → edges ≡ p_edges gate.n_fill x → first ≡ (if ltb fingers (length part.left) then 0 else known) → (length part.left ≤ fingers → HasAll old (known_edges gate x behind part known [])) → HasAll old (with_column part part.left (take first edges))
alone_there gate x behind part fingers known first edges old few is number has p c = elim (cases_lt fingers (length part.left)) [
  | inl less ↦
      let none : first ≡ 0 = number ∙ ap (λ b. if b then 0 else known) (lt-ltb fingers (length part.left) less) in
      absurd (contains_none p (subst (λ n. Contains (with_column part part.left (take n edges)) p) none c))
  | inr all ↦
      let same : first ≡ known = number ∙ ap (λ b. if b then 0 else known) (le-ltb fingers (length part.left) all) in
      let whole : known_edges gate x behind part known [] ≡ with_column part part.left (take known (p_edges gate.n_fill x)) =
      ap (λ b. if b then with_column part part.left (take known (p_edges gate.n_fill x)) else []) (le-leb (length part.left) (length behind) few) in
      has all p (subst (λ l. Contains l p) (sym whole) (subst (λ es. Contains (with_column part part.left (take known es)) p) is (subst (λ n. Contains (with_column part part.left (take n edges)) p) same c)))
]

pub alone_known : (gate : Gate) (x : FingerEnds) (behind xs : List FingerEnds) (part : Part) (left : List FingerEnds) (fingers : ℕ) (edges : List Edge) (old new : List Reached) → length part.left ≤ length behind → left ≡ part.left → fingers ≡ length part.left → edges ≡ p_edges gate.n_fill x → ((g : Gate) (zs : List FingerEnds) → AreNext g zs (parts_of old) part left fingers true edges → AreKnown g zs old → AreKnown g zs new) → behind ≡ x ∷ xs → HasAll (parts_of old) (paired x part) → AreKnown gate behind old → AreKnown gate behind new
alone_known gate x behind xs part left fingers edges old new few same many is step next has known =
    let room : length part.left ≤ length xs + 1 = omega (arith, few, ap length next) in
    let start : AreNext gate (x ∷ xs) (parts_of old) part part.left (length part.left) true (p_edges gate.n_fill x) = alone_next gate x xs (parts_of old) part room has in
    step gate behind
    (subst (λ zs. AreNext gate zs (parts_of old) part left fingers true edges) (sym next)
    (subst (λ l. AreNext gate (x ∷ xs) (parts_of old) part l fingers true edges) (sym same)
    (subst (λ n. AreNext gate (x ∷ xs) (parts_of old) part part.left n true edges) (sym many)
    (subst (AreNext gate (x ∷ xs) (parts_of old) part part.left (length part.left) true) (sym is) start))))
    known

-- ---- an N finger alone

pub n_known : (gate : Gate) (part : Part) (y : FingerEnds) (ys left : List FingerEnds) (again : Bool) (edges : List Edge) (old new : List Reached) → left ≡ ys → (again ≡ true → slice_get ys 0 ≡ Some y) → edges ≡ n_edges gate.p_fill y → ((g : Gate) (zs : List FingerEnds) → AreNext g zs (parts_of old) part left 0 again edges → AreKnown g zs old → AreKnown g zs new) → AreKnown gate [] old → AreKnown gate [] new
n_known gate part y ys left again edges old new same stands is step known =
    step gate []
    (subst (λ l. AreNext gate [] (parts_of old) part l 0 again edges) (sym same)
    (subst (AreNext gate [] (parts_of old) part ys 0 again) (sym is) (n_next gate (parts_of old) part y ys again stands)))
    known

-- ---- what is known of each kind of column

pub known_fingers : (gate : Gate) (x : FingerEnds) (behind : List FingerEnds) (part : Part) (known : Known) (old : List Part) → HasAll old (known_parts gate (x ∷ behind) part known) → HasAll old (flat_map (paired_with x part) (take known.fingers part.left))
known_fingers gate x behind part known old has p c = has p (Contains-append_left (flat_map (paired_with x part) (take known.fingers part.left)) (known_edges gate x behind part known.edges (drop known.fingers part.left)) p c)

pub known_after : (gate : Gate) (x : FingerEnds) (behind : List FingerEnds) (part : Part) (known : Known) (old : List Part) → HasAll old (known_parts gate (x ∷ behind) part known) → (y : FingerEnds) → slice_get part.left known.fingers ≡ Some y → HasAll old (with_column part (without y part.left) (take known.edges (pair_edges x y)))
known_after gate x behind part known old has y stands p c =
    has p (Contains-append_right (flat_map (paired_with x part) (take known.fingers part.left)) (known_edges gate x behind part known.edges (drop known.fingers part.left)) p
    (subst (λ l. Contains (known_edges gate x behind part known.edges l) p) (sym (drop_stands known.fingers part.left y stands)) c))

pub known_last : (gate : Gate) (x : FingerEnds) (behind : List FingerEnds) (part : Part) (known : Known) (old now some : List Part) → HasAll old (known_parts gate (x ∷ behind) part known) → now ≡ with_all old some → length part.left ≤ known.fingers → HasAll now (known_edges gate x behind part known.edges [])
known_last gate x behind part known old now some has is all = still_there old now some (known_edges gate x behind part known.edges []) is
    (λ p c. has p (Contains-append_right (flat_map (paired_with x part) (take known.fingers part.left)) (known_edges gate x behind part known.edges (drop known.fingers part.left)) p
    (subst (λ l. Contains (known_edges gate x behind part known.edges l) p) (sym (drop_all known.fingers part.left all)) c)))

pub both_known : (gate : Gate) (x : FingerEnds) (behind : List FingerEnds) (part : Part) (old mid new : List Reached) → is_again (x ∷ behind) ≡ true → parts_of mid ≡ with_all (parts_of old) (paired x part) → ((g : Gate) (zs : List FingerEnds) → AreKnown g (x ∷ zs) old → AreKnown g (x ∷ zs) mid) → ((zs : List FingerEnds) → behind ≡ x ∷ zs → HasAll (parts_of mid) (paired x part) → AreKnown gate behind mid → AreKnown gate behind new) → AreKnown gate behind old → AreKnown gate behind new
both_known gate x [] part old mid new again is first second known = absurd (false≢true again)
both_known gate x (y ∷ ys) part old mid new again is first second known =
    let same : x ≡ y = nets_same x y again in
    let next : (y ∷ ys) ≡ (x ∷ ys) = ap (λ z. z ∷ ys) (sym same) in
    second ys next (now_there (parts_of old) (parts_of mid) (paired x part) is)
    (subst (λ zs. AreKnown gate zs mid) (sym next) (first gate ys (subst (λ zs. AreKnown gate zs old) next known)))
