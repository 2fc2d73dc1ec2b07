-- The columns of a row without what is left out, in which a finger still stands, gate by gate.
use Rattle.std.proofs.Common.{ℕ, ◌≡◌, ◌+◌, ◌<◌, ◌==◌, Bool, true, false, List, [], ◌∷◌, length, Option, Some, None}
use Rattle.std.proofs.Common.{option_map, map, refl, sym, ap, subst, arith, ◌∙◌, inl, inr, All, Contains}
use Rattle.std.specs.List.{cons_option, filter}
use Rattle.std.specs.Option.{is_some}
use Rattle.std.proofs.lemmas.Bool.{cases_Bool, eqb-true}
use Rattle.std.proofs.lemmas.List.Elements.{All-contains, All-head, All-tail}
use Rattle.std.proofs.lemmas.List.Sums.{length-filter}
use Rattle.cell_num.specs.declared.finger.Row.{Row}
use Rattle.cell_num.specs.declared.finger.Finger.{Finger}
use Rattle.cell_num.specs.Fingers.{on_gate}
use Rattle.cell_num.proofs.In.{Image, in_map}
use Rattle.cell_num.proofs.Lists.{all_from_contains, contains_here, contains_there}
use Rattle.row_model.specs.declared.column.Placed.{Placed}
use Rattle.row_model.specs.declared.column.Column.{Column}
use Rattle.row_model.specs.Arrangement.{IsColumn, fingers_in, place}
use Rattle.trail_state.specs.Choices.{is_on}
use Rattle.trail_state.proofs.Grouped.{columns_on, fingers_of_gate, gate_at}
use Rattle.trail_state.proofs.Members.{Passes, filter_off, filter_on, passes_from}
use Rattle.fewer_fingers.specs.declared.fewer.LeftOut.{LeftOut}
use Rattle.fewer_fingers.specs.Fewer.{is_out, staying_in}
use Rattle.fewer_fingers.proofs.Thinned.{fingers_beside, fingers_thinned, other, thinned}
use Rattle.fewer_fingers.proofs.Filled.{column_filled, column_same, filled, filled_beside, fingers_filled}
use Rattle.fewer_fingers.proofs.Filled.{place_gone, stays_column}

abbrev pub kept : Row → LeftOut → List Column → List Column
kept r out row = filter filled (map (thinned r out) row)

abbrev is_at : ℕ → Column → Bool
is_at g c = gate_at c == g

pub kept_fingers : (r : Row) (out : LeftOut) (row : List Column) → fingers_in r (kept r out row)
    ≡ staying_in out (fingers_in r row)
kept_fingers r out row = fingers_filled r (map (thinned r out) row) ∙ fingers_thinned r out row

pub kept_beside : (r : Row) (out : LeftOut) (row : List Column) → fingers_in (other r) (kept r out row)
    ≡ fingers_in (other r) row
kept_beside r out row = fingers_filled (other r) (map (thinned r out) row) ∙ fingers_beside r out row

-- where each column has a finger of the row, these are as many
as_many : (r : Row) (cs : List Column) → ((c : Column) → Contains cs c → is_some (place r c) ≡ true)
    → length (fingers_in r cs) ≡ length cs
as_many r [] each = refl
as_many r (c ∷ cs) each =
    omega (
      arith,
      one_more (place r c) (fingers_in r cs) (each c (contains_here c cs)),
      as_many r cs (λ d there. each d (contains_there c cs d there)),
    )
  where
    one_more : (o : Option Placed) (fs : List Finger) → is_some o ≡ true
        → length (cons_option (option_map (λ (x : Placed). x.finger) o) fs) ≡ 1 + length fs
    one_more None fs some = absurd cc
    one_more (Some x) fs some = omega arith

-- the columns of a gate of which no fingers are left out are as before
pub same_on : (r : Row) (out : LeftOut) (g : ℕ) (cs : List Column) → All IsColumn cs → is_out out g ≡ false
    → columns_on g (kept r out cs) ≡ columns_on g cs
same_on r out g [] columns here = refl
same_on r out g (c ∷ cs) columns here =
    let one : IsColumn c = All-head IsColumn c cs columns in
    let rest : columns_on g (kept r out cs) ≡ columns_on g cs =
    same_on r out g cs (All-tail IsColumn c cs columns) here in
    elim (cases_Bool (gate_at c == g)) [
      | inl on ↦
          let same : thinned r out c ≡ c =
          column_same r out c one (ap (is_out out) (eqb-true (gate_at c) g on) ∙ here) in
          ap (columns_on g) (filter_on filled (thinned r out c) (map (thinned r out) cs)
          (ap filled same ∙ column_filled c one) ∙ ap (λ d. d ∷ kept r out cs) same)
          ∙ filter_on (is_at g) c (kept r out cs) on
          ∙ ap (λ ds. c ∷ ds) rest
          ∙ sym (filter_on (is_at g) c cs on)
      | inr off ↦ elim (cases_Bool (filled (thinned r out c))) [
        | inl some ↦
            ap (columns_on g) (filter_on filled (thinned r out c) (map (thinned r out) cs) some)
            ∙ filter_off (is_at g) (thinned r out c) (kept r out cs)
            (ap (λ k. k == g) (stays_column r out c one some).gate ∙ off)
            ∙ rest
            ∙ sym (filter_off (is_at g) c cs off)
        | inr empty ↦
            ap (columns_on g) (filter_off filled (thinned r out c) (map (thinned r out) cs) empty)
            ∙ rest
            ∙ sym (filter_off (is_at g) c cs off)
      ]
    ]

module _ (r : Row) (out : LeftOut) (row : List Column) (columns : All IsColumn row) where
  -- what holds of each column of the row, as it is without what is left out, holds of each that is kept
  of_kept : (F : Column → Type 0)
      → ((c : Column) → Contains row c → IsColumn c → filled (thinned r out c) ≡ true → F (thinned r out c))
      → (d : Column) → Contains (kept r out row) d → F d
  of_kept F each d there =
      let k : Passes filled (map (thinned r out) row) d = passes_from filled (map (thinned r out) row) d there in
      let i : Image (thinned r out) row d = in_map (thinned r out) row d k.there in
      subst F i.is (each i.of i.listed (All-contains IsColumn row i.of columns i.listed) (ap filled i.is ∙ k.passes))

  pub kept_columns : All IsColumn (kept r out row)
  kept_columns =
      all_from_contains IsColumn (kept r out row)
      (of_kept IsColumn (λ c there one some. (stays_column r out c one some).one))

  pub kept_below : (nets : ℕ) → ((c : Column) → Contains row c → gate_at c < nets)
      → All (λ (c : Column). gate_at c < nets) (kept r out row)
  kept_below nets below =
      all_from_contains (λ (c : Column). gate_at c < nets) (kept r out row) (of_kept (λ (c : Column). gate_at c < nets)
      (λ c there one some. omega (arith, below c there, (stays_column r out c one some).gate)))

  -- of a gate of which fingers are left out each column that is kept has a finger of the other row
  pub gate_left : (g : ℕ) → is_out out g ≡ true → length (columns_on g (kept r out row))
      ≡ on_gate g (fingers_in (other r) row)
  gate_left g gone =
      sym (as_many (other r) (columns_on g (kept r out row)) each)
      ∙ ap length (fingers_of_gate (other r) g (kept r out row) kept_columns)
      ∙ length-filter (is_on g) (fingers_in (other r) (kept r out row))
      ∙ ap (on_gate g) (kept_beside r out row)
    where
      beside : (d : Column) → Contains (kept r out row) d → gate_at d ≡ g → is_some (place (other r) d) ≡ true
      beside =
          of_kept (λ d. gate_at d ≡ g → is_some (place (other r) d) ≡ true)
          (λ c there one some at_g. filled_beside r (thinned r out c) some (place_gone r out c one
          (ap (is_out out) (sym (stays_column r out c one some).gate ∙ at_g) ∙ gone)))

      each : (d : Column) → Contains (columns_on g (kept r out row)) d → is_some (place (other r) d) ≡ true
      each d there =
          let k : Passes (is_at g) (kept r out row) d = passes_from (is_at g) (kept r out row) d there in
          beside d k.there (eqb-true (gate_at d) g k.passes)
