-- A technology: lengths, limits, and the names of the rails and of the transistor models.
use Rattle.std.specs.Prelude.{ℕ, ◌≡◌, ◌≢◌, ◌≤◌, ◌%◌, List, [], ◌∷◌, length, codes, All, Contains, IsTrue}
use Rattle.cell_num.specs.Names.{lowered, is_name}

pub record Technology : Type 0 where
  pub lambda_nm : ℕ
  pub wmax_p : ℕ
  pub wmax_n : ℕ
  pub vdd : List ℕ
  pub gnd : List ℕ
  pub p_models : List (List ℕ)
  pub n_models : List (List ℕ)
  pub budget : ℕ
  pub height : ℕ

-- a name in lower case
pub record IsLowerName (name : List ℕ) : Type 0 where
  pub spelled : IsTrue (is_name name)
  pub lower : lowered name ≡ name

-- the models of one kind of transistor
pub record AreModels (names : List (List ℕ)) : Type 0 where
  pub some : 1 ≤ length names
  pub few : length names ≤ 16
  pub spelled : All IsLowerName names

-- What holds of every technology. The lambda is in nanometres, the greatest widths of fingers and the
-- height of cells are in grid units of half a lambda, and the budget is in nodes of the search. A height
-- of 0 leaves the height to each cell.
pub record IsTechnology (t : Technology) : Type 0 where
  pub lambda_even : t.lambda_nm % 2 ≡ 0
  pub lambda_least : 20 ≤ t.lambda_nm
  pub lambda_most : t.lambda_nm ≤ 2000
  pub wmax_p_least : 12 ≤ t.wmax_p
  pub wmax_p_most : t.wmax_p ≤ 400
  pub wmax_n_least : 12 ≤ t.wmax_n
  pub wmax_n_most : t.wmax_n ≤ 400
  pub budget_least : 1 ≤ t.budget
  pub budget_most : t.budget ≤ 1000000
  pub height_most : t.height ≤ 4000
  pub vdd : IsLowerName t.vdd
  pub gnd : IsLowerName t.gnd
  pub rails_differ : t.vdd ≢ t.gnd
  pub p_models : AreModels t.p_models
  pub n_models : AreModels t.n_models
  pub kinds_differ : All (λ name. Contains t.p_models name → ⊥) t.n_models

-- the technology that holds where nothing is said
abbrev pub plain : Technology
plain = record {
  lambda_nm = 300;
  wmax_p = 40;
  wmax_n = 40;
  vdd = codes "vdd";
  gnd = codes "gnd";
  p_models = codes "p" ∷ codes "pmos" ∷ codes "pch" ∷ [];
  n_models = codes "n" ∷ codes "nmos" ∷ codes "nch" ∷ [];
  budget = 200000;
  height = 0;
}
