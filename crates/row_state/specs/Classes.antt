-- The classes of nets that the fingers of a row chain: by their ends, never by their gates.
use Rattle.std.specs.Prelude.{ℕ, ◌≡◌, ◌==◌, if◌then◌else◌, max, min, List, [], ◌∷◌, All}
use Rattle.cell_num.specs.declared.finger.Finger.{Finger}

-- the labels give both ends of each finger one label
abbrev pub IsLabelling : (ℕ → ℕ) → List Finger → Type 0
IsLabelling label fs = All (λ (f : Finger). label f.lo.0 ≡ label f.hi.0) fs

-- Such labels always give the two nets one label: this is the least equivalence that holds for the
-- two ends of each finger.
abbrev pub AreChained : List Finger → ℕ → ℕ → Type 0
AreChained fs u v = (label : ℕ → ℕ) → IsLabelling label fs → label u ≡ label v

-- the class of a net, once the classes a and b are one, which has the lower name
abbrev pub joined : ℕ → ℕ → ℕ → ℕ
joined a b u = if u == max a b then min a b else u

-- the least net that is chained with u: the name of its class
abbrev pub least_chained : List Finger → ℕ → ℕ
least_chained [] u = u
least_chained (f ∷ fs) u = joined (least_chained fs f.lo.0) (least_chained fs f.hi.0) (least_chained fs u)
