-- The inverter of the tests is a sound row.
use Rattle.std.proofs.Common.{ℕ, ◌≡◌, ◌≢◌, ◌<◌, ◌≤◌, List, [], ◌∷◌, Some, codes, false, inl, inr, refl, sym, ap, subst, ◌∙◌, get_or, arith, All, AllPairs, Any, replicate}
use Rattle.std.proofs.lemmas.Bool.{cases_eq}
use Rattle.std.proofs.lemmas.List.Elements.{All-nil, All-cons, All-replicate}
use Rattle.std.proofs.lemmas.List.Kept.{AllPairs-cons}
use Rattle.std.proofs.lemmas.List.Sorted.{IsPermutation-refl}
use Rattle.cell_num.specs.declared.net.NetNo.{NetNo}
use Rattle.cell_num.specs.declared.net.Pins.{Pins}
use Rattle.cell_num.specs.declared.finger.Row.{Row}
use Rattle.cell_num.specs.declared.finger.Row.TheVariants.{P, N}
use Rattle.cell_num.specs.declared.finger.Finger.{Finger}
use Rattle.cell_num.specs.declared.finger.Fingers.{Fingers}
use Rattle.cell_num.specs.Pins.{IsRail, ArePins}
use Rattle.cell_num.specs.Fingers.{IsFinger, Meets, HasNoEnd, AreSound}
use Rattle.cell_num.proofs.Lists.{all_one, contains_here}
use Rattle.cell_num.proofs.Pairs.{any_at, pairs_none}
use Rattle.row_model.specs.declared.column.Column.{Column}
use Rattle.row_model.specs.declared.column.Placed.{Placed}
use Rattle.row_model.specs.Arrangement.{IsColumn, IsArrangement}
use Rattle.cell_draw.specs.Small.{HasWidths}
use Rattle.cell_draw.specs.Sound.{IsSoundRow}

abbrev pub net : ℕ → NetNo
net n = record { 0 = n }

abbrev pub finger : Row → ℕ → ℕ → ℕ → Finger
finger row lo hi width = record { row = row; gate = net 0; lo = net lo; hi = net hi; width = width }

abbrev standing : Row → ℕ → ℕ → ℕ → Placed
standing row lo hi width = record { finger = finger row lo hi width; flipped = false }

abbrev pub column : Column
column = record { p = Some (standing P 1 2 20); n = Some (standing N 1 3 10) }

abbrev pub row : List Column
row = column ∷ []

abbrev pub pins : Pins
pins = record { pins = 4; vdd = net 2; gnd = net 3 }

abbrev pub names : List (List ℕ)
names = codes "a" ∷ codes "y" ∷ codes "vdd" ∷ codes "gnd" ∷ []

abbrev fingers : Fingers
fingers = record { nets = 4; p = finger P 1 2 20 ∷ []; n = finger N 1 3 10 ∷ [] }

pub other_net : (a b : ℕ) → (a ≡ b → ⊥) → net a ≢ net b
other_net a b ne e = ne (ap (λ (n : NetNo). n.0) e)

-- names of different first letters
pub other_name : (a b : List ℕ) (x y : ℕ) → get_or a 0 0 ≡ x → get_or b 0 0 ≡ y → (x ≡ y → ⊥) → a ≢ b
other_name a b x y first second ne e = ne (sym first ∙ (ap (λ zs. get_or zs 0 0) e ∙ second))

pub differ : AllPairs (λ (a b : List ℕ). a ≢ b) names
differ =
    let a : List ℕ = codes "a" in
    let y : List ℕ = codes "y" in
    let vdd : List ℕ = codes "vdd" in
    let gnd : List ℕ = codes "gnd" in
    AllPairs-cons (λ (u v : List ℕ). u ≢ v) a (y ∷ vdd ∷ gnd ∷ [])
    (All-cons (λ v. a ≢ v) y (vdd ∷ gnd ∷ []) (other_name a y 97 121 refl refl (omega arith))
    (All-cons (λ v. a ≢ v) vdd (gnd ∷ []) (other_name a vdd 97 118 refl refl (omega arith)) (all_one (λ v. a ≢ v) gnd (other_name a gnd 97 103 refl refl (omega arith)))))
    (AllPairs-cons (λ (u v : List ℕ). u ≢ v) y (vdd ∷ gnd ∷ [])
    (All-cons (λ v. y ≢ v) vdd (gnd ∷ []) (other_name y vdd 121 118 refl refl (omega arith)) (all_one (λ v. y ≢ v) gnd (other_name y gnd 121 103 refl refl (omega arith))))
    (AllPairs-cons (λ (u v : List ℕ). u ≢ v) vdd (gnd ∷ []) (all_one (λ v. vdd ≢ v) gnd (other_name vdd gnd 118 103 refl refl (omega arith)))
    (AllPairs-cons (λ (u v : List ℕ). u ≢ v) gnd [] (All-nil (λ v. gnd ≢ v)) (pairs_none (λ (u v : List ℕ). u ≢ v)))))

pub no_rail : IsRail pins (net 0) → ⊥
no_rail (inl e) = other_net 0 2 (omega arith) e
no_rail (inr e) = other_net 0 3 (omega arith) e

pub met : (n : NetNo) → n.0 < 4 → (IsRail pins n → ⊥) → Any (Meets n) (finger P 1 2 20 ∷ [])
met n low signal = elim (cases_eq n.0 0) [
  | inl gate ↦ any_at (Meets n) (finger P 1 2 20 ∷ []) (finger P 1 2 20) (contains_here (finger P 1 2 20) []) (inl (ap net (sym gate)))
  | inr other ↦ elim (cases_eq n.0 1) [
    | inl low_end ↦ any_at (Meets n) (finger P 1 2 20 ∷ []) (finger P 1 2 20) (contains_here (finger P 1 2 20) []) (inr (inl (ap net (sym low_end))))
    | inr more ↦ elim (cases_eq n.0 2) [
      | inl vdd ↦ absurd (signal (inl (ap net vdd)))
      | inr last ↦ let gnd : n.0 ≡ 3 = omega (arith, low, other, more, last) in absurd (signal (inr (ap net gnd)))
    ]
  ]
]

sound : AreSound names pins fingers
sound = record {
  named = refl;
  names_differ = differ;
  p = all_one (IsFinger P 4) (finger P 1 2 20) (record { row = refl; order = omega arith; gate = omega arith; ends = omega arith });
  n = all_one (IsFinger N 4) (finger N 1 3 10) (record { row = refl; order = omega arith; gate = omega arith; ends = omega arith });
  p_gates = all_one (λ (x : Finger). IsRail pins x.gate → ⊥) (finger P 1 2 20) no_rail;
  n_gates = all_one (λ (x : Finger). IsRail pins x.gate → ⊥) (finger N 1 3 10) no_rail;
  p_ends = all_one (HasNoEnd pins.gnd) (finger P 1 2 20) (other_net 1 3 (omega arith), other_net 2 3 (omega arith));
  n_ends = all_one (HasNoEnd pins.vdd) (finger N 1 3 10) (other_net 1 2 (omega arith), other_net 3 2 (omega arith));
  p_widths = all_one (λ (x : Finger). (6 ≤ x.width) × (x.width ≤ 400)) (finger P 1 2 20) (omega arith, omega arith);
  n_widths = all_one (λ (x : Finger). (6 ≤ x.width) × (x.width ≤ 400)) (finger N 1 3 10) (omega arith, omega arith);
  met = λ n low signal. inl (met n low signal);
}

arranged : IsArrangement row fingers
arranged = record {
  columns = all_one IsColumn (record { p = Some (standing P 1 2 20); n = Some (standing N 1 3 10) }) (refl, (λ e. refl), (λ e. refl));
  p = IsPermutation-refl (finger P 1 2 20 ∷ []);
  n = IsPermutation-refl (finger N 1 3 10 ∷ []);
  fewest = refl;
}

pub sound_row : IsSoundRow names pins row
sound_row = record { fingers = fingers; sound = sound; few_nets = omega arith; arranged = arranged }

pub pins_are : ArePins 4 pins
pins_are = record { named = omega arith; vdd = omega arith; gnd = omega arith; differ = other_net 2 3 (omega arith) }

pub sound_if : (ns : List (List ℕ)) (ps : Pins) (columns : List Column) → ns ≡ names → ps ≡ pins → columns ≡ row → IsSoundRow ns ps columns
sound_if ns ps columns e f g = subst (λ z. IsSoundRow z ps columns) (sym e) (subst (λ z. IsSoundRow names z columns) (sym f) (subst (λ z. IsSoundRow names pins z) (sym g) sound_row))

-- many columns of this kind
pub many_columns : (columns : List Column) → columns ≡ replicate 32 column → All IsColumn columns
many_columns columns e = subst (λ z. All IsColumn z) (sym e) (All-replicate IsColumn 32 column (refl, (λ e. refl), (λ e. refl)))

pub many_widths : (columns : List Column) → columns ≡ replicate 32 column → All HasWidths columns
many_widths columns e = subst (λ z. All HasWidths z) (sym e) (All-replicate HasWidths 32 column (record { n = (omega arith, omega arith); p = (omega arith, omega arith) }))
