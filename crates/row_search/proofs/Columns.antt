-- The steps of a search are columns that a log may list.
use Rattle.std.proofs.Common.{ℕ, zero, suc, ◌≡◌, ◌-◌, ◌<◌, List, [], ◌∷◌, length, map, reverse, Option, Some, None, option_map, slice_get, All, inl, inr, refl, sym, ap, subst, arith, ◌∙◌}
use Rattle.std.proofs.lemmas.List.{get_or-reverse, length-reverse}
use Rattle.cell_num.specs.declared.finger.Row.TheVariants.{P, N}
use Rattle.cell_num.specs.declared.net.NetNo.{NetNo}
use Rattle.row_model.specs.declared.column.Placed.{Placed}
use Rattle.row_model.specs.Arrangement.{AreOneColumn}
use Rattle.row_state.specs.declared.kind.Kind.{Kind}
use Rattle.row_state.specs.declared.kind.Kinds.{Kinds}
use Rattle.row_state.specs.declared.step.Side.{Side}
use Rattle.row_state.specs.declared.step.Step.{Step}
use Rattle.row_state.specs.Order.{gate_key}
use Rattle.row_state.specs.Start.{GatesAreNets}
use Rattle.row_state.specs.Steps.{column_of, placed_of, oriented_of}
use Rattle.cell_num.proofs.Lists.{all_map}
use Rattle.bound_log.specs.Fits.{SideFits, StepFits}
use Rattle.log_check.specs.Accepted.{HasGate, IsListed, columns_listed}
use Rattle.row_search.specs.Steps.{IsStep, gate_of, listed_of, row_of, steps_of}

kind_at : (kinds : List Kind) (i : ℕ) → i < length kinds → (kind : Kind) × (slice_get kinds i ≡ Some kind)
kind_at [] i h = absurd (omega (arith, h))
kind_at (k ∷ ks) zero h = (k, refl)
kind_at (k ∷ ks) (suc i) h = kind_at ks i (omega (arith, h))

has_gate : (kinds : List Kind) (gate : NetNo) (side : Side) (kind : Kind) → slice_get kinds side.kind ≡ Some kind → kind.gate ≡ gate → HasGate kinds gate (Some side)
has_gate kinds gate side kind e same = ap (option_map (λ (x : Kind). x.gate)) e ∙ ap (λ (n : NetNo). Some n) same

abbrev step_of : Option Side → Option Side → Step
step_of p n = record { p = p; n = n }

abbrev gate_at : Option Placed → Option Placed → NetNo
gate_at x y = record { 0 = gate_key x y }

-- the gate of a column is that of its kinds
p_gate : (k : Kinds) (a : Side) (n : Option Side) (kind : Kind) → slice_get k.p a.kind ≡ Some kind → kind.gate ≡ gate_of (column_of k (step_of (Some a) n))
p_gate k a n kind e = ap (λ (o : Option Kind). gate_at (option_map (λ (x : Kind). oriented_of P x a.flipped) o) (placed_of N k.n n)) (sym e)

n_gate : (k : Kinds) (b : Side) (kind : Kind) → slice_get k.n b.kind ≡ Some kind → kind.gate ≡ gate_of (column_of k (step_of None (Some b)))
n_gate k b kind e = ap (λ (o : Option Kind). gate_at None (option_map (λ (x : Kind). oriented_of N x b.flipped) o)) (sym e)

one_gate : (k : Kinds) (a b : Side) (kind other : Kind) → slice_get k.p a.kind ≡ Some kind → slice_get k.n b.kind ≡ Some other → AreOneColumn (placed_of P k.p (Some a)) (placed_of N k.n (Some b)) → kind.gate ≡ other.gate
one_gate k a b kind other e f h =
    let left : AreOneColumn (Some (oriented_of P kind a.flipped)) (placed_of N k.n (Some b)) = subst (λ (o : Option Kind). AreOneColumn (option_map (λ (x : Kind). oriented_of P x a.flipped) o) (placed_of N k.n (Some b))) e h in
    let both : AreOneColumn (Some (oriented_of P kind a.flipped)) (Some (oriented_of N other b.flipped)) = subst (λ (o : Option Kind). AreOneColumn (Some (oriented_of P kind a.flipped)) (option_map (λ (x : Kind). oriented_of N x b.flipped) o)) f left in
    both.0

-- a column that a log may list
record MayList (k : Kinds) (step : Step) : Type 0 where
  pub listed : IsListed k (listed_of k step)
  pub fits : StepFits k (listed_of k step)

net_below : (a b : NetNo) (nets : ℕ) → a ≡ b → a.0 < nets → b.0 < nets
net_below a b nets e h = subst (λ (n : NetNo). n.0 < nets) e h

may_list : (k : Kinds) (p n : Option Side) → GatesAreNets k → SideFits k.p p → SideFits k.n n → AreOneColumn (placed_of P k.p p) (placed_of N k.n n) → MayList k (step_of p n)
may_list k None None nets fp fn h = absurd h
may_list k (Some a) None nets fp fn h =
    let x : (kind : Kind) × (slice_get k.p a.kind ≡ Some kind) = kind_at k.p a.kind fp in
    let gate : x.0.gate ≡ gate_of (column_of k (step_of (Some a) None)) = p_gate k a None x.0 x.1 in
    record {
      listed = record { p = has_gate k.p (gate_of (column_of k (step_of (Some a) None))) a x.0 x.1 gate; n = tt };
      fits = record { gate = net_below x.0.gate (gate_of (column_of k (step_of (Some a) None))) k.nets gate (nets.p a.kind x.0 x.1); p = fp; n = fn; filled = inl (λ e. cc) };
    }
may_list k None (Some b) nets fp fn h =
    let y : (kind : Kind) × (slice_get k.n b.kind ≡ Some kind) = kind_at k.n b.kind fn in
    let gate : y.0.gate ≡ gate_of (column_of k (step_of None (Some b))) = n_gate k b y.0 y.1 in
    record {
      listed = record { p = tt; n = has_gate k.n (gate_of (column_of k (step_of None (Some b)))) b y.0 y.1 gate };
      fits = record { gate = net_below y.0.gate (gate_of (column_of k (step_of None (Some b)))) k.nets gate (nets.n b.kind y.0 y.1); p = fp; n = fn; filled = inr (λ e. cc) };
    }
may_list k (Some a) (Some b) nets fp fn h =
    let x : (kind : Kind) × (slice_get k.p a.kind ≡ Some kind) = kind_at k.p a.kind fp in
    let y : (kind : Kind) × (slice_get k.n b.kind ≡ Some kind) = kind_at k.n b.kind fn in
    let gate : x.0.gate ≡ gate_of (column_of k (step_of (Some a) (Some b))) = p_gate k a (Some b) x.0 x.1 in
    record {
      listed = record { p = has_gate k.p (gate_of (column_of k (step_of (Some a) (Some b)))) a x.0 x.1 gate; n = has_gate k.n (gate_of (column_of k (step_of (Some a) (Some b)))) b y.0 y.1 (sym (one_gate k a b x.0 y.0 x.1 y.1 h) ∙ gate) };
      fits = record { gate = net_below x.0.gate (gate_of (column_of k (step_of (Some a) (Some b)))) k.nets gate (nets.p a.kind x.0 x.1); p = fp; n = fn; filled = inl (λ e. cc) };
    }

step_listed : (k : Kinds) → GatesAreNets k → (step : Step) → IsStep k step → MayList k step
step_listed k nets step h = may_list k step.p step.n nets h.p h.n h.column

all_reverse : {X : Type 0} (Q : X → Type 0) (xs : List X) → All Q xs → All Q (reverse xs)
all_reverse Q xs all i d within =
    subst Q (sym (get_or-reverse xs i d (omega (arith, within, length-reverse xs)))) (all (length xs - 1 - i) d (omega (arith, within, length-reverse xs)))

pub all_listed : (k : Kinds) (found : List Step) → GatesAreNets k → All (IsStep k) found → All (IsListed k) (steps_of k found)
all_listed k found nets all = all_map (IsStep k) (IsListed k) (listed_of k) (reverse found) (λ step h. (step_listed k nets step h).listed) (all_reverse (IsStep k) found all)

pub all_fit : (k : Kinds) (found : List Step) → GatesAreNets k → All (IsStep k) found → All (StepFits k) (steps_of k found)
all_fit k found nets all = all_map (IsStep k) (StepFits k) (listed_of k) (reverse found) (λ step h. (step_listed k nets step h).fits) (all_reverse (IsStep k) found all)

columns_are : (k : Kinds) (steps : List Step) → columns_listed k (map (listed_of k) steps) ≡ map (column_of k) steps
columns_are k [] = refl
columns_are k (x ∷ xs) = ap (λ cs. column_of k x ∷ cs) (columns_are k xs)

-- the columns that the log lists are the row
pub listed_row : (k : Kinds) (found : List Step) → columns_listed k (steps_of k found) ≡ row_of k found
listed_row k found = columns_are k (reverse found)
