-- The law: no arrangement has fewer ends of trails than every list of choices along an order.
use Rattle.std.proofs.Common.{ℕ, ◌≡◌, ◌+◌, ◌-◌, ◌*◌, ◌≤◌, Bool, List, [], ◌∷◌, arith, IsPermutation}
use Rattle.std.proofs.lemmas.List.Sorted.{IsPermutation-append, IsPermutation-refl}
use Rattle.cell_num.specs.declared.finger.Row.{Row}
use Rattle.cell_num.specs.declared.finger.Fingers.{Fingers}
use Rattle.cell_num.specs.declared.net.NetNo.{NetNo}
use Rattle.cell_num.specs.Fingers.{AreFingers}
use Rattle.row_model.specs.declared.column.Column.{Column}
use Rattle.row_model.specs.Arrangement.{IsArrangement}
use Rattle.row_model.specs.Gaps.{gaps_of}
use Rattle.trail_state.specs.Levels.{IsOrder}
use Rattle.trail_state.specs.declared.edge.Edge.{Edge}
use Rattle.trail_state.specs.declared.edge.FingerEnds.{FingerEnds}
use Rattle.trail_halves.specs.declared.choice.OpenChoice.{OpenChoice}
use Rattle.trail_halves.specs.Open.{AreOpenChoices, ArePools, HasOpenChoices, edges_in, halves_in}
use Rattle.trail_halves.specs.Open.{open_ends}
use Rattle.trail_halves.proofs.Opened.{open_choices}
use Rattle.trail_pools.specs.declared.level.PoolLevel.{PoolLevel}
use Rattle.trail_pools.specs.Levels.{AreLevels, AreListed, IsListed, PoolEnds, ends_along}
use Rattle.trail_pools.specs.declared.state.PoolState.{PoolState}
use Rattle.trail_pools.specs.State.{ends_after, start, state_after}
use Rattle.trail_pools.proofs.Along.{along_order}
use Rattle.trail_pools.proofs.Ends.{half_ends_same}

-- ends that every list of choices comes to are those of any such list
ends_true : (n : ℕ) (r : Row) (pool : ℕ → Bool) (ls : List PoolLevel) (s : PoolState) (k : ℕ) (cs : List OpenChoice)
    → AreListed ls cs → PoolEnds n r pool ls s k → k ≤ ends_along n r pool ls s cs
ends_true n r pool [] s k [] listed h = omega (arith, h)
ends_true n r pool [] s k (c ∷ cs) listed h = absurd listed
ends_true n r pool (l ∷ ls) s k [] listed h = absurd listed
ends_true n r pool (l ∷ ls) s k (c ∷ cs) listed h =
    let rest : k - ends_after n r pool l.next s c l.now
    ≤ ends_along n r pool ls (state_after n r pool l.next s c l.now) cs =
    ends_true n r pool ls (state_after n r pool l.next s c l.now) (k - ends_after n r pool l.next s c l.now) cs
    listed.1 (h c listed.0) in
    omega (arith, rest)

-- the listed choices with the same edges and half edges
record Same (ls : List PoolLevel) (cs : List OpenChoice) : Type 0 where
  pub choices : List OpenChoice
  pub listed : AreListed ls choices
  pub edges : IsPermutation (edges_in cs) (edges_in choices)
  pub halves : IsPermutation (halves_in cs) (halves_in choices)

same_listed : (f : Fingers) (r : Row) (counted pool : ℕ → Bool) (gs : List NetNo) (ls : List PoolLevel)
    (cs : List OpenChoice) → AreLevels f r counted pool gs ls → AreOpenChoices f r counted gs cs → Same ls cs
same_listed f r counted pool [] [] [] levels each = record {
  choices = [];
  listed = tt;
  edges = IsPermutation-refl {X = Edge} [];
  halves = IsPermutation-refl {X = FingerEnds} [];
}
same_listed f r counted pool [] [] (c ∷ cs) levels each = absurd each
same_listed f r counted pool [] (l ∷ ls) cs levels each = absurd levels
same_listed f r counted pool (g ∷ gs) [] cs levels each = absurd levels
same_listed f r counted pool (g ∷ gs) (l ∷ ls) [] levels each = absurd each
same_listed f r counted pool (g ∷ gs) (l ∷ ls) (c ∷ cs) levels each =
    let here : IsListed l.choices c = levels.0.all_choices c each.0 in
    let rest : Same ls cs = same_listed f r counted pool gs ls cs levels.2 each.1 in
    record {
      choices = here.it ∷ rest.choices;
      listed = (here.there, rest.listed);
      edges = IsPermutation-append c.edges here.it.edges (edges_in cs) (edges_in rest.choices) here.edges rest.edges;
      halves =
          IsPermutation-append c.halves here.it.halves (halves_in cs) (halves_in rest.choices) here.halves rest.halves;
    }

pub pool_ends : (f : Fingers) → AreFingers f → (r : Row) (counted pool : ℕ → Bool) → ArePools f r counted pool
    → (order : List NetNo) → IsOrder f order → (levels : List PoolLevel) (ends : ℕ)
    → AreLevels f r counted pool order levels → PoolEnds (256 * f.nets) r pool levels start ends
    → (row : List Column) → IsArrangement row f → ends ≤ 2 * (gaps_of row + 1)
pool_ends f ok r counted pool pools order is_order levels ends are h row arranges =
    let o : HasOpenChoices f r counted pool order (2 * (gaps_of row + 1)) =
    open_choices f ok r counted pool pools order is_order row arranges in
    let s : Same levels o.choices = same_listed f r counted pool order levels o.choices are o.each in
    let as_many : open_ends f r pool o.choices ≡ open_ends f r pool s.choices =
    half_ends_same (256 * f.nets) r pool (edges_in o.choices) (edges_in s.choices) (halves_in o.choices)
    (halves_in s.choices) s.edges s.halves in
    omega (
      arith,
      ends_true (256 * f.nets) r pool levels start ends s.choices s.listed h,
      along_order f r counted pool order levels s.choices are s.listed,
      as_many,
      o.few,
    )
