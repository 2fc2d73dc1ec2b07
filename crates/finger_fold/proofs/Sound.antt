-- The fingers of a subcircuit are sound for its nets and pins.
use Rattle.std.proofs.Common.{ℕ, zero, suc, ◌≡◌, ◌+◌, ◌-◌, ◌/◌, ◌%◌, ◌≤◌, ◌<◌, ◌⊎◌, inl, inr, List, [], ◌∷◌, ◌++◌, length, get_or, replicate, All, Any, refl, sym, ap, subst, ◌∙◌, arith}
use Rattle.std.proofs.Math.Nat.{min-eq_left, min-eq_right, max-eq_left, max-eq_right, mod-lt}
use Rattle.std.proofs.lemmas.Bool.{cases_lt, cases_eq}
use Rattle.std.proofs.lemmas.List.{get_or_append_left, get_or-append-add, get_or-replicate, length-append, length-replicate}
use Rattle.std.proofs.lemmas.List.Elements.{All-nil, All-append, All-replicate, All-same, All-head, All-tail}
use Rattle.cell_num.specs.declared.net.NetNo.{NetNo}
use Rattle.cell_num.specs.declared.net.Pins.{Pins}
use Rattle.cell_num.specs.declared.finger.Row.{Row}
use Rattle.cell_num.specs.declared.finger.Row.TheVariants.{P, N}
use Rattle.cell_num.specs.declared.finger.Finger.{Finger}
use Rattle.cell_num.specs.declared.finger.Fingers.{Fingers}
use Rattle.cell_num.specs.Fingers.{IsFinger, AreFingers, AreSound, Meets, HasNoEnd, columns_of}
use Rattle.cell_num.specs.Pins.{IsRail}
use Rattle.spice_net.specs.declared.subckt.Device.{Device}
use Rattle.spice_net.specs.declared.subckt.Subckt.{Subckt}
use Rattle.spice_net.specs.Subckts.{IsSubckt, IsDevice, Joins, far_rail}
use Rattle.tech_file.specs.Technology.{Technology, IsTechnology}
use Rattle.finger_fold.specs.Folding.{count_of, finger_of, shared_out, fingers_of, fingers_in, all_fingers}
use Rattle.finger_fold.proofs.Counts.{count_positive, in_row, fingers_append}
use Rattle.finger_fold.proofs.Shares.{HasWidths, widths}

abbrev net_of : ℕ → NetNo
net_of n = record { 0 = n }

-- the ends of a finger are those of its transistor, in one order or in the other
ends : (d : Device) (width : ℕ) → (((finger_of d width).lo ≡ d.drain) × ((finger_of d width).hi ≡ d.source)) ⊎ (((finger_of d width).lo ≡ d.source) × ((finger_of d width).hi ≡ d.drain))
ends d width = elim (cases_lt d.source.0 d.drain.0) [
  | inl less ↦ inr (numbered (min-eq_right (omega (arith, less))), numbered (max-eq_left (omega (arith, less))))
  | inr more ↦ inl (numbered (min-eq_left more), numbered (max-eq_right more))
]
  where
    numbered : {n : ℕ} {net : NetNo} → n ≡ net.0 → net_of n ≡ net
    numbered e = ap net_of e

record IsCut (nets : ℕ) (pins : Pins) (row : Row) (f : Finger) : Type 0 where
  pub finger : IsFinger row nets f
  pub gate : IsRail pins f.gate → ⊥
  pub no_end : HasNoEnd (far_rail pins row) f
  pub width : (6 ≤ f.width) × (f.width ≤ 400)

cut : (nets : ℕ) (pins : Pins) (d : Device) (width : ℕ) → IsDevice nets pins d → 6 ≤ width → width ≤ 400 → IsCut nets pins d.row (finger_of d width)
cut nets pins d width h least most = record {
  finger = record { row = refl; order = omega arith; gate = h.gate; ends = omega (arith, h.drain, h.source) };
  gate = h.gate_no_rail;
  no_end = elim (ends d width) [ inl e ↦ (λ same. h.drain_allowed (sym e.0 ∙ same), λ same. h.source_allowed (sym e.1 ∙ same)) | inr e ↦ (λ same. h.source_allowed (sym e.0 ∙ same), λ same. h.drain_allowed (sym e.1 ∙ same)) ];
  width = (least, most);
}

Any-left : (Q : Finger → Type 0) (xs ys : List Finger) → Any Q xs → Any Q (xs ++ ys)
Any-left Q xs ys h = (h.0, h.1, omega (arith, h.2, length-append xs ys), get_or_append_left xs ys h.1 h.0 h.2 ∙ h.3, h.4)

Any-right : (Q : Finger → Type 0) (xs ys : List Finger) → Any Q ys → Any Q (xs ++ ys)
Any-right Q xs ys h = (length xs + h.0, h.1, omega (arith, h.2, length-append xs ys), get_or-append-add xs ys h.0 h.1 ∙ h.3, h.4)

Any-same : (Q : Finger → Type 0) (xs ys : List Finger) → xs ≡ ys → Any Q ys → Any Q xs
Any-same Q xs ys e h = subst (Any Q) (sym e) h

abbrev wide_ones : Device → ℕ → List Finger
wide_ones d k = replicate (d.width % k) (finger_of d (d.width / k + 1))

abbrev narrow_ones : Device → ℕ → List Finger
narrow_ones d k = replicate (k - d.width % k) (finger_of d (d.width / k))

-- what holds of the finger of each width that is given out holds of all
All-shared : (Q : Finger → Type 0) (d : Device) (k : ℕ) → (0 < d.width % k → Q (finger_of d (d.width / k + 1))) → Q (finger_of d (d.width / k)) → All Q (shared_out d k)
All-shared Q d k more least = All-append Q (wide_ones d k) (narrow_ones d k) first (All-replicate Q (k - d.width % k) (finger_of d (d.width / k)) least)
  where
    first : All Q (wide_ones d k)
    first = elim (cases_eq (d.width % k) 0) [
      | inl none ↦ All-same Q (wide_ones d k) [] (rw none refl) (All-nil Q)
      | inr some ↦ All-replicate Q (d.width % k) (finger_of d (d.width / k + 1)) (more (omega (arith, some)))
    ]

-- a finger without a unit of the remainder is always there
Any-shared : (Q : Finger → Type 0) (d : Device) (k : ℕ) → 0 < k → Q (finger_of d (d.width / k)) → Any Q (shared_out d k)
Any-shared Q d k positive holds =
    let left : 0 < k - d.width % k = omega (arith, mod-lt d.width positive) in
    Any-right Q (wide_ones d k) (narrow_ones d k) (0, finger_of d (d.width / k), omega (arith, left, length-replicate (k - d.width % k) (finger_of d (d.width / k))), get_or-replicate (k - d.width % k) 0 (finger_of d (d.width / k)) (finger_of d (d.width / k)) left, holds)

device_cut : (nets : ℕ) (pins : Pins) (tech : Technology) (d : Device) → IsTechnology tech → IsDevice nets pins d → All (IsCut nets pins d.row) (fingers_of tech d)
device_cut nets pins tech d limits h =
    let w : HasWidths (d.width / count_of tech d) (d.width % count_of tech d) = widths tech d limits h.least h.wide_enough in
    All-shared (IsCut nets pins d.row) d (count_of tech d)
    (λ some. cut nets pins d (d.width / count_of tech d + 1) h (omega (arith, w.least)) (w.more some))
    (cut nets pins d (d.width / count_of tech d) h w.least w.most)

own_cut : (nets : ℕ) (pins : Pins) (tech : Technology) (row : Row) (d : Device) → d.row ≡ row → IsTechnology tech → IsDevice nets pins d → All (IsCut nets pins row) (fingers_in row tech (d ∷ []))
own_cut nets pins tech row d e limits h = All-same (IsCut nets pins row) (fingers_in row tech (d ∷ [])) (fingers_of tech d) (in_row row tech d e) (subst (λ r. All (IsCut nets pins r) (fingers_of tech d)) e (device_cut nets pins tech d limits h))

-- of one transistor, in its own row or in the other, which has none of its fingers
one_cut : (nets : ℕ) (pins : Pins) (tech : Technology) (row own : Row) (d : Device) → d.row ≡ own → IsTechnology tech → IsDevice nets pins d → All (IsCut nets pins row) (fingers_in row tech (d ∷ []))
one_cut nets pins tech P P d e limits h = own_cut nets pins tech P d e limits h
one_cut nets pins tech N N d e limits h = own_cut nets pins tech N d e limits h
one_cut nets pins tech P N d e limits h = All-same (IsCut nets pins P) (fingers_in P tech (d ∷ [])) [] (rw e refl) (All-nil (IsCut nets pins P))
one_cut nets pins tech N P d e limits h = All-same (IsCut nets pins N) (fingers_in N tech (d ∷ [])) [] (rw e refl) (All-nil (IsCut nets pins N))

row_cut : (nets : ℕ) (pins : Pins) (tech : Technology) (row : Row) (ds : List Device) → IsTechnology tech → All (IsDevice nets pins) ds → All (IsCut nets pins row) (fingers_in row tech ds)
row_cut nets pins tech row [] limits h = All-nil (IsCut nets pins row)
row_cut nets pins tech row (d ∷ ds) limits h = All-same (IsCut nets pins row) (fingers_in row tech (d ∷ ds)) (fingers_in row tech (d ∷ []) ++ fingers_in row tech ds) (fingers_append row tech (d ∷ []) ds)
    (All-append (IsCut nets pins row) (fingers_in row tech (d ∷ [])) (fingers_in row tech ds)
    (one_cut nets pins tech row d.row d refl limits (All-head (IsDevice nets pins) d ds h))
    (row_cut nets pins tech row ds limits (All-tail (IsDevice nets pins) d ds h)))

meets : (net : NetNo) (d : Device) (width : ℕ) → Joins net d → Meets net (finger_of d width)
meets net d width (inl gate) = inl gate
meets net d width (inr (inl drain)) = elim (ends d width) [ inl e ↦ inr (inl (e.0 ∙ drain)) | inr e ↦ inr (inr (e.1 ∙ drain)) ]
meets net d width (inr (inr source)) = elim (ends d width) [ inl e ↦ inr (inr (e.1 ∙ source)) | inr e ↦ inr (inl (e.0 ∙ source)) ]

device_meets : (net : NetNo) (tech : Technology) (d : Device) → IsTechnology tech → 6 ≤ d.width → Joins net d → Any (Meets net) (fingers_of tech d)
device_meets net tech d limits units joins = Any-shared (Meets net) d (count_of tech d) (count_positive tech d limits (omega (arith, units))) (meets net d (d.width / count_of tech d) joins)

-- a fact of some finger of a transistor is one of some finger of its row
row_has : (Q : Finger → Type 0) (row : Row) (tech : Technology) (ds : List Device) (k : ℕ) (d : Device) → k < length ds → get_or ds k d ≡ d → d.row ≡ row → Any Q (fingers_of tech d) → Any Q (fingers_in row tech ds)
row_has Q row tech [] k d below same e h = absurd (omega (arith, below))
row_has Q row tech (x ∷ ds) zero d below same e h =
    Any-same Q (fingers_in row tech (x ∷ ds)) (fingers_in row tech (x ∷ []) ++ fingers_in row tech ds) (fingers_append row tech (x ∷ []) ds)
    (Any-left Q (fingers_in row tech (x ∷ [])) (fingers_in row tech ds)
    (Any-same Q (fingers_in row tech (x ∷ [])) (fingers_of tech x) (in_row row tech x (ap (λ (y : Device). y.row) same ∙ e))
    (Any-same Q (fingers_of tech x) (fingers_of tech d) (ap (fingers_of tech) same) h)))
row_has Q row tech (x ∷ ds) (suc k) d below same e h =
    Any-same Q (fingers_in row tech (x ∷ ds)) (fingers_in row tech (x ∷ []) ++ fingers_in row tech ds) (fingers_append row tech (x ∷ []) ds)
    (Any-right Q (fingers_in row tech (x ∷ [])) (fingers_in row tech ds) (row_has Q row tech ds k d (omega (arith, below)) same e h))

rows_meet : (net : NetNo) (tech : Technology) (ds : List Device) (own : Row) (k : ℕ) (d : Device) → d.row ≡ own → IsTechnology tech → 6 ≤ d.width → k < length ds → get_or ds k d ≡ d → Joins net d → (Any (Meets net) (fingers_in P tech ds)) ⊎ (Any (Meets net) (fingers_in N tech ds))
rows_meet net tech ds P k d e limits units below same joins = inl (row_has (Meets net) P tech ds k d below same e (device_meets net tech d limits units joins))
rows_meet net tech ds N k d e limits units below same joins = inr (row_has (Meets net) N tech ds k d below same e (device_meets net tech d limits units joins))

pub sound : (tech : Technology) (cell : Subckt) (f : Fingers) → IsTechnology tech → IsSubckt cell → f ≡ all_fingers tech cell → AreSound cell.nets cell.pins f
sound tech cell f limits h e =
    let p : All (IsCut (length cell.nets) cell.pins P) (fingers_in P tech cell.devices) = row_cut (length cell.nets) cell.pins tech P cell.devices limits h.devices in
    let n : All (IsCut (length cell.nets) cell.pins N) (fingers_in N tech cell.devices) = row_cut (length cell.nets) cell.pins tech N cell.devices limits h.devices in
    rw e (record {
      named = refl;
      names_differ = h.names_differ;
      p = λ k d below. (p k d below).finger;
      n = λ k d below. (n k d below).finger;
      p_gates = λ k d below. (p k d below).gate;
      n_gates = λ k d below. (n k d below).gate;
      p_ends = λ k d below. (p k d below).no_end;
      n_ends = λ k d below. (n k d below).no_end;
      p_widths = λ k d below. (p k d below).width;
      n_widths = λ k d below. (n k d below).width;
      met = λ net below no_rail.
          let a : Any (Joins net) cell.devices = h.met net below no_rail in
          let d : IsDevice (length cell.nets) cell.pins a.1 = subst (IsDevice (length cell.nets) cell.pins) a.3 (h.devices a.0 a.1 a.2) in
          rows_meet net tech cell.devices a.1.row a.0 a.1 refl limits d.least a.2 a.3 a.4;
    })

pub asked : (tech : Technology) (cell : Subckt) (f : Fingers) → IsTechnology tech → IsSubckt cell → f ≡ all_fingers tech cell → columns_of f ≤ 32 → AreFingers f
asked tech cell f limits h e few =
    let s : AreSound cell.nets cell.pins f = sound tech cell f limits h e in
    record { p = s.p; n = s.n; few_nets = rw s.named h.few_nets; few_columns = few }
