-- How many fingers a transistor and a row have.
use Rattle.std.proofs.Common.{ℕ, zero, suc, ◌≡◌, ◌+◌, ◌-◌, ◌*◌, ◌/◌, ◌%◌, ◌≤◌, ◌<◌, List, [], ◌∷◌, ◌++◌, length, filter, flat_map, refl, ap, ◌∙◌, arith, replicate, All, inl, inr}
use Rattle.std.specs.Int.{div_ceil}
use Rattle.std.proofs.Math.Nat.{mod-lt, mul-le-mul}
use Rattle.std.proofs.lemmas.Bool.{cases_eq}
use Rattle.std.proofs.lemmas.Grind.{div_ceil_times, flat_map-append}
use Rattle.std.proofs.lemmas.List.{length-replicate, length-append, append-nil}
use Rattle.std.proofs.lemmas.List.Elements.{filter-append, All-head, All-weaker}
use Rattle.std.proofs.lemmas.List.Concat.{flat_map-cons}
use Rattle.cell_num.specs.declared.finger.Row.{Row}
use Rattle.cell_num.specs.declared.finger.Row.TheVariants.{P, N}
use Rattle.cell_num.specs.declared.finger.Fingers.{Fingers}
use Rattle.cell_num.specs.Tests.{same_row}
use Rattle.spice_net.specs.declared.subckt.Device.{Device}
use Rattle.spice_net.specs.declared.subckt.Subckt.{Subckt}
use Rattle.spice_net.specs.Subckts.{IsSubckt, IsDevice}
use Rattle.tech_file.specs.Technology.{Technology, IsTechnology}
use Rattle.finger_fold.specs.Folding.{widest, count_of, finger_of, shared_out, fingers_of, fingers_in, all_fingers}

pub least_widest : (tech : Technology) (row : Row) → IsTechnology tech → 12 ≤ widest tech row
least_widest tech P limits = limits.wmax_p_least
least_widest tech N limits = limits.wmax_n_least

pub most_widest : (tech : Technology) (row : Row) → IsTechnology tech → widest tech row ≤ 400
most_widest tech P limits = limits.wmax_p_most
most_widest tech N limits = limits.wmax_n_most

-- as few of the widest fingers as hold all units; one fewer does not
abbrev few : Technology → Device → ℕ
few tech d = div_ceil d.width (widest tech d.row)

few_hold : (tech : Technology) (d : Device) → IsTechnology tech → (d.width ≤ few tech d * widest tech d.row) × (few tech d * widest tech d.row < d.width + widest tech d.row)
few_hold tech d limits =
    let least : 12 ≤ widest tech d.row = least_widest tech d.row limits in
    div_ceil_times d.width (widest tech d.row) (omega (arith, least))

pub enough : (tech : Technology) (d : Device) → IsTechnology tech → d.width ≤ count_of tech d * widest tech d.row
enough tech d limits =
    let all : d.width ≤ few tech d * widest tech d.row = (few_hold tech d limits).0 in
    let more : few tech d * widest tech d.row ≤ count_of tech d * widest tech d.row = mul-le-mul (omega arith) (omega arith) in
    omega (arith, all, more)

-- w units have at least 6 for each of the fewest fingers of m units that hold them
six_in_each : (w m k : ℕ) → 12 ≤ m → 6 ≤ w → k * m < w + m → 6 * k ≤ w
six_in_each w m zero least units fewest = omega arith
six_in_each w m (suc j) least units fewest =
    let more : j * 12 ≤ j * m = mul-le-mul (omega arith) least in
    omega (arith, more, units, fewest)

-- and so for each of those that are asked for
pub six_units : (tech : Technology) (d : Device) → IsTechnology tech → 6 ≤ d.width → 6 * d.fingers ≤ d.width → 6 * count_of tech d ≤ d.width
six_units tech d limits units asked =
    omega (arith, asked, six_in_each d.width (widest tech d.row) (few tech d) (least_widest tech d.row limits) units (few_hold tech d limits).1)

pub count_positive : (tech : Technology) (d : Device) → IsTechnology tech → 0 < d.width → 0 < count_of tech d
count_positive tech d limits some = elim (cases_eq (count_of tech d) 0) [
  | inl none ↦
      let all : d.width ≤ count_of tech d * widest tech d.row = enough tech d limits in
      let product : count_of tech d * widest tech d.row ≡ 0 = rw none (omega arith) in
      omega (arith, some, all, product)
  | inr other ↦ omega (arith, other)
]

length_shared : (d : Device) (k : ℕ) → d.width % k ≤ k → length (shared_out d k) ≡ k
length_shared d k small =
    omega (arith, small, length-append (replicate (d.width % k) (finger_of d (d.width / k + 1))) (replicate (k - d.width % k) (finger_of d (d.width / k))), length-replicate (d.width % k) (finger_of d (d.width / k + 1)), length-replicate (k - d.width % k) (finger_of d (d.width / k)))

remainder : (tech : Technology) (d : Device) → IsTechnology tech → d.width % count_of tech d ≤ count_of tech d
remainder tech d limits = elim (cases_eq (count_of tech d) 0) [
  | inl none ↦
      let all : d.width ≤ count_of tech d * widest tech d.row = enough tech d limits in
      let product : count_of tech d * widest tech d.row ≡ 0 = rw none (omega arith) in
      let empty : d.width ≡ 0 = omega (arith, all, product) in
      rw (none, empty) (omega arith)
  | inr other ↦
      let positive : 0 < count_of tech d = omega (arith, other) in
      omega (arith, mod-lt d.width positive)
]

pub length_fingers : (tech : Technology) (d : Device) → IsTechnology tech → length (fingers_of tech d) ≡ count_of tech d
length_fingers tech d limits = length_shared d (count_of tech d) (remainder tech d limits)

kept : (row : Row) (d : Device) → d.row ≡ row → filter (λ (x : Device). same_row x.row row) (d ∷ []) ≡ d ∷ []
kept P d e = rw e refl
kept N d e = rw e refl

pub in_row : (row : Row) (tech : Technology) (d : Device) → d.row ≡ row → fingers_in row tech (d ∷ []) ≡ fingers_of tech d
in_row row tech d e = ap (flat_map (fingers_of tech)) (kept row d e) ∙ (flat_map-cons (fingers_of tech) d [] ∙ append-nil (fingers_of tech d))

pub length_in_row : (row : Row) (tech : Technology) (d : Device) → IsTechnology tech → d.row ≡ row → length (fingers_in row tech (d ∷ [])) ≡ count_of tech d
length_in_row row tech d limits e = ap length (in_row row tech d e) ∙ length_fingers tech d limits

pub fingers_append : (row : Row) (tech : Technology) (xs ys : List Device) → fingers_in row tech (xs ++ ys) ≡ fingers_in row tech xs ++ fingers_in row tech ys
fingers_append row tech xs ys = rw (filter-append (λ d. same_row d.row row) xs ys) (flat_map-append (fingers_of tech) (filter (λ d. same_row d.row row) xs) (filter (λ d. same_row d.row row) ys))

pub length_more : (row : Row) (tech : Technology) (xs ys : List Device) → length (fingers_in row tech (xs ++ ys)) ≡ length (fingers_in row tech xs) + length (fingers_in row tech ys)
length_more row tech xs ys = ap length (fingers_append row tech xs ys) ∙ length-append (fingers_in row tech xs) (fingers_in row tech ys)

pub some_width : (cell : Subckt) → IsSubckt cell → All (λ (d : Device). 0 < d.width) cell.devices
some_width cell holds = All-weaker (IsDevice (length cell.nets) cell.pins) (λ (d : Device). 0 < d.width) (λ d h. omega (arith, h.least)) cell.devices holds.devices

-- ---- a subcircuit with a transistor has a finger

first_some : (tech : Technology) (d : Device) (ds : List Device) (own : Row) → d.row ≡ own → IsTechnology tech → 0 < d.width → 1 ≤ length (fingers_in P tech (d ∷ ds)) + length (fingers_in N tech (d ∷ ds))
first_some tech d ds P e limits units = omega (arith, length_more P tech (d ∷ []) ds, length_in_row P tech d limits e, count_positive tech d limits units)
first_some tech d ds N e limits units = omega (arith, length_more N tech (d ∷ []) ds, length_in_row N tech d limits e, count_positive tech d limits units)

some_in_rows : (tech : Technology) (ds : List Device) → IsTechnology tech → 1 ≤ length ds → All (λ (d : Device). 0 < d.width) ds → 1 ≤ length (fingers_in P tech ds) + length (fingers_in N tech ds)
some_in_rows tech [] limits some units = absurd (omega (arith, some))
some_in_rows tech (d ∷ ds) limits some units = first_some tech d ds d.row refl limits (All-head (λ (d : Device). 0 < d.width) d ds units)

pub some_fingers : (tech : Technology) (cell : Subckt) (f : Fingers) → IsTechnology tech → IsSubckt cell → f ≡ all_fingers tech cell → 1 ≤ length cell.devices → 1 ≤ length f.p + length f.n
some_fingers tech cell f limits h e some = rw e (some_in_rows tech cell.devices limits some (some_width cell h))
