-- The columns that some state allows as its next one, and what each of them changes in the number of a state.
use Rattle.std.specs.Prelude.{ℕ, zero, suc, Bool, ◌&&◌, ◌≡◌, ◌+◌, ◌-◌, ◌*◌, ◌<◌, List, [], ◌∷◌, Option, Some, None, All}
use Rattle.std.specs.Prelude.{Contains, length, map, take, slice_set, slice_index}
use Rattle.std.specs.Option.{option_map}
use Rattle.std.proofs.Common.{ap, arith, ◌∙◌}
use Rattle.std.proofs.Math.Nat.{mul_assoc, mul_comm, add-mul}
use Rattle.cell_num.specs.declared.finger.Row.TheVariants.{P, N}
use Rattle.row_model.specs.Gaps.{right_net}
use Rattle.row_state.specs.declared.kind.Kind.{Kind}
use Rattle.row_state.specs.declared.kind.Kinds.{Kinds}
use Rattle.row_state.specs.declared.state.State.{State}
use Rattle.row_state.specs.declared.step.Side.{Side}
use Rattle.row_state.specs.declared.step.Step.{Step}
use Rattle.row_state.specs.declared.candidate.Candidate.{Candidate}
use Rattle.row_state.specs.declared.numbered.Numbered.{Numbered}
use Rattle.row_state.specs.Code.{count_lists, counts_code, end_code, state_code}
use Rattle.row_state.specs.Decoded.{rows_code}
use Rattle.row_state.specs.Order.{gate_key}
use Rattle.row_state.specs.Runs.{GatesFrom}
use Rattle.row_state.specs.Start.{IsState, start_of}
use Rattle.row_state.specs.Tests.{gate_left, half_test, side_left}
use Rattle.row_state.specs.Steps.{AreSuccessors, IsLeft, IsPossible, column_of, left_after, placed_of, state_after}

-- what a finger of the side's kind counts in the number of a row's counts
abbrev pub digit_of : List Kind → Option Side → ℕ
digit_of kinds None = 0
digit_of kinds (Some side) = count_lists (take side.kind kinds)

-- what the fingers of a column count in the number of both rows' counts
abbrev pub rows_of_step : Kinds → Step → ℕ
rows_of_step k step = digit_of k.p step.p * count_lists k.n + digit_of k.n step.n

-- the open ends behind a column as the last digits of a number
abbrev pub ends_of_step : Kinds → Step → ℕ
ends_of_step k step = end_code (option_map right_net (placed_of P k.p step.p)) * (k.nets + 1)
    + end_code (option_map right_net (placed_of N k.n step.n))

-- the gate of a column that fills a place
abbrev pub gate_of_candidate : Candidate → ℕ
gate_of_candidate c = gate_key c.column.p c.column.n

-- a column that may come first, with its digits and where its gate begins among the kinds of each row
pub record IsCandidate (k : Kinds) (c : Candidate) : Type 0 where
  pub first : IsPossible k (start_of k) c.step
  pub column : c.column ≡ column_of k c.step
  pub rows : c.rows ≡ rows_of_step k c.step
  pub ends : c.ends ≡ ends_of_step k c.step
  pub p_from : GatesFrom k.p (gate_of_candidate c) c.p_from
  pub n_from : GatesFrom k.n (gate_of_candidate c) c.n_from

-- a finger is left for each place of the column, and a half one may stand
abbrev pub may_stand : Kinds → State → Candidate → Bool
may_stand k s c = side_left s.p_left c.step.p && side_left s.n_left c.step.n
    && half_test c.column.p c.column.n (gate_left k.p s.p_left (gate_of_candidate c))
    (gate_left k.n s.n_left (gate_of_candidate c))

abbrev pub candidate_steps : List Candidate → List Step
candidate_steps all = map (λ (c : Candidate). c.step) all

-- no valid state allows a next column that is not among these
abbrev pub HaveEachNext : Kinds → List Step → Type 0
HaveEachNext k steps = (s : State) (step : Step) → IsState k s → IsPossible k s step → Contains steps step

-- all columns that may come first, in order
pub record AreCandidates (k : Kinds) (all : List Candidate) : Type 0 where
  pub each : All (IsCandidate k) all
  pub steps : AreSuccessors k (start_of k) (candidate_steps all)

one_less : (a c : ℕ) → 0 < c → a + c ≡ a + (c - 1) + 1
one_less a c some = omega (arith, some)

spread : (a w r c : ℕ) → (a + w) * r + c ≡ a * r + c + r * w
spread a w r c = omega (arith, add-mul a w r, mul_comm w r)

-- one finger less of a kind
taken_at : (ks : List Kind) (cs : List ℕ) (i : ℕ) → i < length ks → 0 < slice_index cs i → counts_code ks cs
    ≡ counts_code ks (slice_set cs i (slice_index cs i - 1)) + count_lists (take i ks)
taken_at [] cs i l some = absurd (omega (arith, l))
taken_at (k ∷ ks) [] i l some = absurd (omega (arith, some))
taken_at (k ∷ ks) (c ∷ cs) zero l some = one_less (counts_code ks cs * (k.count + 1)) c some
taken_at (k ∷ ks) (c ∷ cs) (suc i) l some =
    ap (λ n. n * (k.count + 1) + c) (taken_at ks cs i (omega (arith, l)) some)
    ∙ spread (counts_code ks (slice_set cs i (slice_index cs i - 1))) (count_lists (take i ks)) (k.count + 1) c

side_taken : (ks : List Kind) (cs : List ℕ) (side : Option Side) → IsLeft ks cs side → counts_code ks cs
    ≡ counts_code ks (left_after cs side) + digit_of ks side
side_taken ks cs None there = omega arith
side_taken ks cs (Some side) there = taken_at ks cs side.kind there.0 there.1

both_taken : (a p l b n : ℕ) → (a + p) * l + (b + n) ≡ a * l + b + (p * l + n)
both_taken a p l b n = omega (arith, add-mul a p l)

-- the fingers of a column are taken off the number of the counts
pub rows_taken : (k : Kinds) (s : State) (step : Step) → IsPossible k s step → rows_code k s
    ≡ rows_code k (state_after k s step) + rows_of_step k step
rows_taken k s step possible =
    ap (λ n. n * count_lists k.n + counts_code k.n s.n_left) (side_taken k.p s.p_left step.p possible.p)
    ∙ ap (λ n. (counts_code k.p (left_after s.p_left step.p) + digit_of k.p step.p) * count_lists k.n + n)
    (side_taken k.n s.n_left step.n possible.n)
    ∙ both_taken (counts_code k.p (left_after s.p_left step.p)) (digit_of k.p step.p) (count_lists k.n)
    (counts_code k.n (left_after s.n_left step.n)) (digit_of k.n step.n)

pub two_digits : (rows e p n : ℕ) → (rows * e + p) * e + n ≡ rows * (e * e) + (p * e + n)
two_digits rows e p n = omega (arith, add-mul (rows * e) p e, mul_assoc rows e e)

rest_of : (a b c : ℕ) → a ≡ b + c → b ≡ a - c
rest_of a b c e = omega (arith, e)

-- the number of the state behind a column, from the number of the counts before it
pub code_behind : (k : Kinds) (s : State) (step : Step) → IsPossible k s step → state_code k (state_after k s step)
    ≡ (rows_code k s - rows_of_step k step) * ((k.nets + 1) * (k.nets + 1)) + ends_of_step k step
code_behind k s step possible =
    two_digits (rows_code k (state_after k s step)) (k.nets + 1)
    (end_code (option_map right_net (placed_of P k.p step.p)))
    (end_code (option_map right_net (placed_of N k.n step.n)))
    ∙ ap (λ n. n * ((k.nets + 1) * (k.nets + 1)) + ends_of_step k step)
    (rest_of (rows_code k s) (rows_code k (state_after k s step)) (rows_of_step k step)
    (rows_taken k s step possible))

-- a valid state with the number of its counts and its own
pub record IsNumbered (k : Kinds) (at : Numbered) : Type 0 where
  pub valid : IsState k at.state
  pub counts : at.counts ≡ rows_code k at.state
  pub code : at.code ≡ state_code k at.state
