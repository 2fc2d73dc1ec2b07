-- Each valid state has a number of its own: its counts and ends as the digits of a number of mixed radix.
use Rattle.std.specs.Prelude.{ℕ, zero, suc, ◌≡◌, ◌+◌, ◌*◌, ◌/◌, ◌%◌, List, [], ◌∷◌, Option, Some, None}
use Rattle.cell_num.specs.declared.finger.Row.{Row}
use Rattle.cell_num.specs.declared.net.NetNo.{NetNo}
use Rattle.row_state.specs.declared.kind.Kind.{Kind}
use Rattle.row_state.specs.declared.kind.Kinds.{Kinds}
use Rattle.row_state.specs.declared.state.State.{State}
use Rattle.row_state.specs.Start.{IsState}
use Rattle.row_state.specs.Tests.{kinds_in, left_of}
use Rattle.row_state.specs.Trails.{end_of}

-- how many lists of counts there are: the product of (count + 1) over the kinds
abbrev pub count_lists : List Kind → ℕ
count_lists [] = 1
count_lists (k ∷ ks) = (k.count + 1) * count_lists ks

-- as many numbers as there are lists of counts of each row and open ends, or fewer
abbrev pub most_states : Kinds → ℕ
most_states k = count_lists k.p * count_lists k.n * ((k.nets + 1) * (k.nets + 1))

abbrev pub counts_code : List Kind → List ℕ → ℕ
counts_code [] cs = 0
counts_code (k ∷ ks) [] = 0
counts_code (k ∷ ks) (c ∷ cs) = counts_code ks cs * (k.count + 1) + c

abbrev pub end_code : Option NetNo → ℕ
end_code None = 0
end_code (Some v) = v.0 + 1

abbrev pub state_code : Kinds → State → ℕ
state_code k s = ((counts_code k.p s.p_left * count_lists k.n + counts_code k.n s.n_left) * (k.nets + 1)
    + end_code s.p_end) * (k.nets + 1) + end_code s.n_end

-- the number of what a row has left: its counts, and behind them its open end
abbrev pub row_code : Row → Kinds → State → ℕ
row_code row k s = counts_code (kinds_in row k) (left_of row s) * (k.nets + 1) + end_code (end_of row s)

-- the digits of a number are the counts
abbrev pub counts_of_code : List Kind → ℕ → List ℕ
counts_of_code [] n = []
counts_of_code (k ∷ ks) n = n % (k.count + 1) ∷ counts_of_code ks (n / (k.count + 1))

abbrev pub end_of_code : ℕ → Option NetNo
end_of_code zero = None
end_of_code (suc n) = Some (record { 0 = n })

-- the number behind whose digits the two ends stand
abbrev pub rows_of_code : Kinds → ℕ → ℕ
rows_of_code k code = code / (k.nets + 1) / (k.nets + 1)

-- the state of which this is the number
abbrev pub state_of : Kinds → ℕ → State
state_of k code =
    record {
      p_left = counts_of_code k.p (rows_of_code k code / count_lists k.n);
      n_left = counts_of_code k.n (rows_of_code k code % count_lists k.n);
      p_end = end_of_code (code / (k.nets + 1) % (k.nets + 1));
      n_end = end_of_code (code % (k.nets + 1));
    }

-- some valid state has the number
abbrev pub IsCode : Kinds → ℕ → Type 0
IsCode k code = (s : State) × IsState k s × (state_code k s ≡ code)
