-- The obstructions are the metal that is no port.
use Rattle.std.proofs.Common.{ℕ, suc, ◌≡◌, ◌≢◌, ◌+◌, ◌≤◌, ◌==◌, not, true, false, List, [], ◌∷◌, ◌++◌, get_or, map, filter, refl, sym, subst, ap, ◌∙◌, inl, inr, arith, append_assoc, All, Contains, IsPermutation}
use Rattle.std.specs.Prelude.{Some, filter_map, slice_get}
use Rattle.std.specs.List.{enumerate_from}
use Rattle.std.proofs.lemmas.Bool.{cases_Bool, eqb-true, eq-eqb}
use Rattle.std.proofs.lemmas.List.{map-append}
use Rattle.std.proofs.lemmas.List.Elements.{All-nil, All-cons, All-head, All-tail, All-contains}
use Rattle.std.proofs.lemmas.List.Kept.{AllPairs-filter, AllPairs-cons}
use Rattle.std.proofs.lemmas.List.Sorted.{IsPermutation-filter_both, IsPermutation-map, IsPermutation-trans, IsPermutation-sym, IsPermutation-append_left}
use Rattle.std.proofs.lemmas.Option.{get_or_from_slice_get}
use Rattle.cell_num.proofs.Lists.{some_same, all_imply}
use Rattle.cell_num.proofs.In.{in_map, contains_map}
use Rattle.cell_num.proofs.Pairs.{Some', test_finds, test_there, pairs_none}
use Rattle.box_geom.specs.declared.layer.Layer.{Layer}
use Rattle.box_geom.specs.declared.layer.Layer.TheVariants.{Metal1, Metal2}
use Rattle.box_geom.specs.declared.shape.Shape.{Shape}
use Rattle.box_geom.specs.Layers.{same_layer}
use Rattle.box_geom.proofs.Filters.{in_filter, contains_filter}
use Rattle.lef_write.specs.declared.port.Port.{Port}
use Rattle.lef_write.specs.Drawn.{shapes_on, all_port_shapes, AreAllMetal}
use Rattle.lef_write.specs.Ports.{place_on, places_on, is_taken, obstruction_on, obstructions_on, IsPort}
use Rattle.lef_write.proofs.Members.{Differ, same_members}
use Rattle.lef_write.proofs.Placed.{one_layer}

-- ---- the places of a layer are different

from_on : (layer : Layer) (xs : List Shape) (n : ℕ) → All (λ k. n ≤ k) (filter_map (place_on layer) (enumerate_from n xs))
from_on layer [] n = All-nil (λ k. n ≤ k)
from_on layer (x ∷ xs) n =
    let later : All (λ k. n ≤ k) (filter_map (place_on layer) (enumerate_from (n + 1) xs)) = all_imply (λ k. n + 1 ≤ k) (λ k. n ≤ k) (filter_map (place_on layer) (enumerate_from (n + 1) xs)) (λ k h. omega (arith, h)) (from_on layer xs (n + 1)) in
    elim (cases_Bool (same_layer x.layer layer)) [
      | inl on ↦ rw on (All-cons (λ k. n ≤ k) n (filter_map (place_on layer) (enumerate_from (n + 1) xs)) (omega arith) later)
      | inr off ↦ rw off later
    ]

pub different : (layer : Layer) (xs : List Shape) (n : ℕ) → Differ (filter_map (place_on layer) (enumerate_from n xs))
different layer [] n = pairs_none (λ (a b : ℕ). a ≢ b)
different layer (x ∷ xs) n =
    let later : All (λ (k : ℕ). n ≢ k) (filter_map (place_on layer) (enumerate_from (n + 1) xs)) = all_imply (λ k. n + 1 ≤ k) (λ k. n ≢ k) (filter_map (place_on layer) (enumerate_from (n + 1) xs)) (λ k h same. omega (arith, h, same)) (from_on layer xs (n + 1)) in
    elim (cases_Bool (same_layer x.layer layer)) [
      | inl on ↦ rw on (AllPairs-cons (λ (a b : ℕ). a ≢ b) n (filter_map (place_on layer) (enumerate_from (n + 1) xs)) later (different layer xs (n + 1)))
      | inr off ↦ rw off (different layer xs (n + 1))
    ]

-- ---- the shapes at places

abbrev look : List Shape → Shape → ℕ → Shape
look rects d k = get_or rects k d

shapes_at : (layer : Layer) (rects : List Shape) (d : Shape) (xs : List Shape) (n : ℕ) → ((k : ℕ) → get_or rects (n + k) d ≡ get_or xs k d) → map (look rects d) (filter_map (place_on layer) (enumerate_from n xs)) ≡ shapes_on layer xs
shapes_at layer rects d [] n same = refl
shapes_at layer rects d (x ∷ xs) n same =
    let e : n + 0 ≡ n = omega arith in
    let here : get_or rects n d ≡ x = sym (ap (λ m. get_or rects m d) e) ∙ same 0 in
    let behind : (k : ℕ) → get_or rects (n + 1 + k) d ≡ get_or xs k d = λ k. let f : n + 1 + k ≡ n + suc k = omega arith in ap (λ m. get_or rects m d) f ∙ same (suc k) in
    elim (cases_Bool (same_layer x.layer layer)) [
      | inl on ↦ rw on (ap (λ s. s ∷ map (look rects d) (filter_map (place_on layer) (enumerate_from (n + 1) xs))) here ∙ ap (λ ss. x ∷ ss) (shapes_at layer rects d xs (n + 1) behind))
      | inr off ↦ rw off (shapes_at layer rects d xs (n + 1) behind)
    ]

-- the obstructions stand at the places that are not taken
obstructions_at : (layer : Layer) (ports : List Port) (rects : List Shape) (d : Shape) (xs : List Shape) (n : ℕ) → ((k : ℕ) → get_or rects (n + k) d ≡ get_or xs k d) → map (look rects d) (filter (λ k. not (is_taken ports k)) (filter_map (place_on layer) (enumerate_from n xs))) ≡ filter_map (obstruction_on layer ports) (enumerate_from n xs)
obstructions_at layer ports rects d [] n same = refl
obstructions_at layer ports rects d (x ∷ xs) n same =
    let e : n + 0 ≡ n = omega arith in
    let here : get_or rects n d ≡ x = sym (ap (λ m. get_or rects m d) e) ∙ same 0 in
    let behind : (k : ℕ) → get_or rects (n + 1 + k) d ≡ get_or xs k d = λ k. let f : n + 1 + k ≡ n + suc k = omega arith in ap (λ m. get_or rects m d) f ∙ same (suc k) in
    let rest = obstructions_at layer ports rects d xs (n + 1) behind in
    elim (cases_Bool (same_layer x.layer layer)) [
      | inl on ↦ elim (cases_Bool (is_taken ports n)) [
        | inl taken ↦ rw (on, taken) rest
        | inr stays ↦ rw (on, stays) (ap (λ s. s ∷ map (look rects d) (filter (λ k. not (is_taken ports k)) (filter_map (place_on layer) (enumerate_from (n + 1) xs)))) here ∙ ap (λ ss. x ∷ ss) rest)
      ]
      | inr off ↦ rw off rest
    ]

-- no port stands on another layer
all_open : (ports : List Port) (rects : List Shape) → All (IsPort rects) ports → (k : ℕ) (s : Shape) → slice_get rects k ≡ Some s → s.layer ≡ Metal2 → is_taken ports k ≡ false
all_open ports rects are k s there on = elim (cases_Bool (is_taken ports k)) [
  | inr stays ↦ stays
  | inl taken ↦
      let port : Some' (λ (p : Port). (p.shape == k) ≡ true) ports = test_finds (λ (p : Port). p.shape == k) ports taken in
      let is : IsPort rects port.it = All-contains (IsPort rects) ports port.it are port.there in
      let same : is.shape ≡ s = some_same is.shape s (sym is.there ∙ (ap (λ (m : ℕ). slice_get rects m) (eqb-true port.it.shape k port.holds) ∙ there)) in
      let one : Metal1 ≡ Metal2 = sym is.on ∙ (ap (λ (z : Shape). z.layer) same ∙ on) in
      absurd (two one)
]
  where
    two : ◌≡◌ {A = Layer} Metal1 Metal2 → ⊥
    two e = absurd cc

whole_layer : (ports : List Port) (rects : List Shape) → All (IsPort rects) ports → (xs : List Shape) (n : ℕ) → ((k : ℕ) → slice_get rects (n + k) ≡ slice_get xs k) → filter_map (obstruction_on Metal2 ports) (enumerate_from n xs) ≡ shapes_on Metal2 xs
whole_layer ports rects are [] n same = refl
whole_layer ports rects are (x ∷ xs) n same =
    let e : n + 0 ≡ n = omega arith in
    let here : slice_get rects n ≡ Some x = sym (ap (λ m. slice_get rects m) e) ∙ same 0 in
    let behind : (k : ℕ) → slice_get rects (n + 1 + k) ≡ slice_get xs k = λ k. let f : n + 1 + k ≡ n + suc k = omega arith in ap (λ m. slice_get rects m) f ∙ same (suc k) in
    elim (cases_Bool (same_layer x.layer Metal2)) [
      | inl on ↦ rw (on, all_open ports rects are n x here (one_layer x.layer Metal2 on)) (ap (λ ss. x ∷ ss) (whole_layer ports rects are xs (n + 1) behind))
      | inr off ↦ rw off (whole_layer ports rects are xs (n + 1) behind)
    ]

port_looks : (rects : List Shape) (d : Shape) (ports : List Port) → All (IsPort rects) ports → all_port_shapes ports rects ≡ map (look rects d) (map (λ (p : Port). p.shape) ports)
port_looks rects d [] are = refl
port_looks rects d (p ∷ ps) are =
    let is : IsPort rects p = All-head (IsPort rects) p ps are in
    rw (is.there, get_or_from_slice_get rects p.shape is.shape d is.there) (ap (λ ss. is.shape ∷ ss) (port_looks rects d ps (All-tail (IsPort rects) p ps are)))

-- ---- the ports and the rest

taken_are : (ports : List Port) (rects : List Shape) → ((p : Port) → Contains ports p → Contains (places_on Metal1 rects) p.shape) → Differ (map (λ (p : Port). p.shape) ports) → IsPermutation (map (λ (p : Port). p.shape) ports) (filter (is_taken ports) (places_on Metal1 rects))
taken_are ports rects on differ =
    same_members (map (λ (p : Port). p.shape) ports) (filter (is_taken ports) (places_on Metal1 rects)) differ (AllPairs-filter (λ (a b : ℕ). a ≢ b) (is_taken ports) (places_on Metal1 rects) (different Metal1 rects 0))
    (λ z there.
    let image = in_map (λ (p : Port). p.shape) ports z there in
    contains_filter (is_taken ports) (places_on Metal1 rects) z (subst (λ k. Contains (places_on Metal1 rects) k) image.is (on image.of image.listed)) (test_there (λ (p : Port). p.shape == z) ports image.of image.listed (eq-eqb image.of.shape z image.is)))
    (λ z there.
    let passed = in_filter (is_taken ports) (places_on Metal1 rects) z there in
    let port = test_finds (λ (p : Port). p.shape == z) ports passed.passes in
    subst (λ k. Contains (map (λ (p : Port). p.shape) ports) k) (eqb-true port.it.shape z port.holds) (contains_map (λ (p : Port). p.shape) ports port.it port.there))

pub all_metal : (ports : List Port) (rects : List Shape) (d : Shape) → All (IsPort rects) ports → ((p : Port) → Contains ports p → Contains (places_on Metal1 rects) p.shape) → Differ (map (λ (p : Port). p.shape) ports) → AreAllMetal ports rects
all_metal ports rects d are on differ =
    let at : (k : ℕ) → get_or rects (0 + k) d ≡ get_or rects k d = λ k. let e : 0 + k ≡ k = omega arith in ap (λ m. get_or rects m d) e in
    let from : (k : ℕ) → slice_get rects (0 + k) ≡ slice_get rects k = λ k. let e : 0 + k ≡ k = omega arith in ap (λ m. slice_get rects m) e in
    let apart : IsPermutation (places_on Metal1 rects) (filter (is_taken ports) (places_on Metal1 rects) ++ filter (λ k. not (is_taken ports k)) (places_on Metal1 rects)) = IsPermutation-filter_both (is_taken ports) (λ k. not (is_taken ports k)) (λ k. refl) (places_on Metal1 rects) in
    let whole : IsPermutation (map (λ (p : Port). p.shape) ports ++ filter (λ k. not (is_taken ports k)) (places_on Metal1 rects)) (places_on Metal1 rects) =
    IsPermutation-trans _ (filter (is_taken ports) (places_on Metal1 rects) ++ filter (λ k. not (is_taken ports k)) (places_on Metal1 rects)) _ (IsPermutation-append_left (filter (λ k. not (is_taken ports k)) (places_on Metal1 rects)) (map (λ (p : Port). p.shape) ports) (filter (is_taken ports) (places_on Metal1 rects)) (taken_are ports rects on differ)) (IsPermutation-sym (places_on Metal1 rects) (filter (is_taken ports) (places_on Metal1 rects) ++ filter (λ k. not (is_taken ports k)) (places_on Metal1 rects)) apart) in
    let shapes : IsPermutation (map (look rects d) (map (λ (p : Port). p.shape) ports ++ filter (λ k. not (is_taken ports k)) (places_on Metal1 rects))) (map (look rects d) (places_on Metal1 rects)) = IsPermutation-map (look rects d) _ (places_on Metal1 rects) whole in
    let left : map (look rects d) (map (λ (p : Port). p.shape) ports ++ filter (λ k. not (is_taken ports k)) (places_on Metal1 rects)) ≡ all_port_shapes ports rects ++ obstructions_on Metal1 ports rects = map-append (look rects d) (map (λ (p : Port). p.shape) ports) (filter (λ k. not (is_taken ports k)) (places_on Metal1 rects)) ∙ (ap (λ ss. ss ++ map (look rects d) (filter (λ k. not (is_taken ports k)) (places_on Metal1 rects))) (sym (port_looks rects d ports are)) ∙ ap (λ ss. all_port_shapes ports rects ++ ss) (obstructions_at Metal1 ports rects d rects 0 at)) in
    let first : IsPermutation (all_port_shapes ports rects ++ obstructions_on Metal1 ports rects) (shapes_on Metal1 rects) = subst (λ ss. IsPermutation ss (shapes_on Metal1 rects)) left (subst (λ ss. IsPermutation (map (look rects d) (map (λ (p : Port). p.shape) ports ++ filter (λ k. not (is_taken ports k)) (places_on Metal1 rects))) ss) (shapes_at Metal1 rects d rects 0 at) shapes) in
    let second : obstructions_on Metal2 ports rects ≡ shapes_on Metal2 rects = whole_layer ports rects are rects 0 from in
    subst (λ ss. IsPermutation ss (shapes_on Metal1 rects ++ shapes_on Metal2 rects)) (append_assoc (all_port_shapes ports rects) (obstructions_on Metal1 ports rects) (obstructions_on Metal2 ports rects)) (subst (λ ss. IsPermutation ((all_port_shapes ports rects ++ obstructions_on Metal1 ports rects) ++ ss) (shapes_on Metal1 rects ++ shapes_on Metal2 rects)) (sym second) (IsPermutation-append_left (shapes_on Metal2 rects) (all_port_shapes ports rects ++ obstructions_on Metal1 ports rects) (shapes_on Metal1 rects) first))
