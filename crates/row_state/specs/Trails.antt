-- The open ends of a state, and what columns cost behind them.
use Rattle.std.specs.Prelude.{◌≡◌, ◌+◌, List, [], ◌∷◌, Option, refl}
use Rattle.std.proofs.Common.{arith}
use Rattle.cell_num.specs.declared.finger.Row.{Row}
use Rattle.cell_num.specs.declared.finger.Row.TheVariants.{P, N}
use Rattle.cell_num.specs.declared.net.NetNo.{NetNo}
use Rattle.row_model.specs.declared.column.Column.{Column}
use Rattle.row_model.specs.Gaps.{gaps_of}
use Rattle.row_trails.specs.Trails.{cost_behind, gaps_behind}
use Rattle.row_state.specs.declared.state.State.{State}
use Rattle.row_state.specs.Completion.{first_cost}

-- the open end of a row
abbrev pub end_of : Row → State → Option NetNo
end_of P s = s.p_end
end_of N s = s.n_end

-- behind both ends that is the first cost and the gaps
pub cost_is : (s : State) (cs : List Column) → cost_behind s.p_end s.n_end cs ≡ first_cost s cs + gaps_of cs
cost_is s [] = refl
cost_is s (c ∷ cs) = omega (arith, gaps_behind c cs)
