-- The nets of what lines ask for are nets of the cell.
use Rattle.std.proofs.Common.{ℕ, ◌≡◌, ◌<◌, ◌||◌, ◌==◌, ◌++◌, Bool, true, false, cond, List, [], ◌∷◌, Option, Some, None, IfSome, slice_get, refl, sym, subst, arith, All, option_map}
use Rattle.std.proofs.lemmas.List.Elements.{All-append, All-cons, All-contains, All-nil}
use Rattle.cell_num.specs.declared.finger.Row.{Row}
use Rattle.cell_num.specs.declared.finger.Row.TheVariants.{P, N}
use Rattle.cell_num.specs.declared.net.NetNo.{NetNo}
use Rattle.cell_num.specs.declared.net.Pins.{Pins}
use Rattle.cell_num.specs.Pins.{is_rail}
use Rattle.cell_num.proofs.Lists.{all_flat, all_imply, contains_get}
use Rattle.row_model.specs.declared.column.Column.{Column}
use Rattle.row_state.specs.declared.kind.Kind.{Kind}
use Rattle.row_state.specs.declared.kind.Kinds.{Kinds}
use Rattle.row_state.specs.declared.state.State.{State}
use Rattle.row_state.specs.declared.step.Side.{Side}
use Rattle.row_state.specs.declared.step.Step.{Step}
use Rattle.row_state.specs.Start.{AreSomeKinds, IsKind, IsState}
use Rattle.row_state.specs.Steps.{column_of, oriented_of, placed_of}
use Rattle.row_place.specs.Steps.{or_else}
use Rattle.track_ways.specs.declared.line.Line.{Line}
use Rattle.track_ways.specs.Paths.{lines_to}
use Rattle.track_ways.specs.Rows.{gate_line, is_gap_behind, left_end, lines_between, node_line}
use Rattle.row_cycles.specs.declared.above.NetAbove.{NetAbove}
use Rattle.row_cycles.specs.Above.{HasNets, above_at, above_end, above_ends, above_step, over}

abbrev IsLow : ℕ → Option NetNo → Type 0
IsLow n end = IfSome end (λ (net : NetNo). net.0 < n)

-- both ends at a line
abbrev AreLow : ℕ → Line → Type 0
AreLow n line = IsLow n line.p × IsLow n line.n

ends_low : (n : ℕ) (pins : Pins) (p q : Option NetNo) → IsLow n p → IsLow n q → All (HasNets n) (above_ends pins p q)
ends_low n pins None q a b = All-nil (HasNets n)
ends_low n pins (Some upper) None a b = All-nil (HasNets n)
ends_low n pins (Some upper) (Some lower) a b = go ((upper.0 == lower.0) || (is_rail pins upper || is_rail pins lower))
  where
    go : (none : Bool) → All (HasNets n) (cond none [] (over upper lower ∷ []))
    go true = All-nil (HasNets n)
    go false = All-cons (HasNets n) (over upper lower) [] (a, b) (All-nil (HasNets n))

side_low : (row : Row) (kinds : List Kind) (side : Option Side) (n : ℕ) → All (IsKind n) kinds → IsLow n (left_end (placed_of row kinds side))
side_low row kinds None n all = tt
side_low row kinds (Some side) n all = go (slice_get kinds side.kind) refl
  where
    turned : (b : Bool) (kind : Kind) → IsKind n kind → (cond b kind.hi kind.lo).0 < n
    turned true kind is = is.ends
    turned false kind is = omega (arith, is.order, is.ends)

    go : (o : Option Kind) → slice_get kinds side.kind ≡ o → IsLow n (left_end (option_map (λ (kind : Kind). oriented_of row kind side.flipped) o))
    go None e = tt
    go (Some kind) e = turned side.flipped kind (All-contains (IsKind n) kinds kind all (contains_get kinds side.kind kind e))

else_low : (n : ℕ) (a b : Option NetNo) → IsLow n a → IsLow n b → IsLow n (or_else a b)
else_low n None b la lb = lb
else_low n (Some a) b la lb = la

lines_low : (n : ℕ) (s : State) (c : Column) → IsLow n s.p_end → IsLow n s.n_end → IsLow n (left_end c.p) → IsLow n (left_end c.n) → All (AreLow n) (lines_to s c)
lines_low n s c p_end n_end p q = All-append (AreLow n) (lines_between s.p_end s.n_end c) (gate_line c ∷ []) (go (is_gap_behind s.p_end s.n_end c)) (All-cons (AreLow n) (gate_line c) [] (tt, tt) (All-nil (AreLow n)))
  where
    go : (b : Bool) → All (AreLow n) (cond b (node_line s.p_end s.n_end ∷ node_line None None ∷ node_line (left_end c.p) (left_end c.n) ∷ []) (node_line (or_else s.p_end (left_end c.p)) (or_else s.n_end (left_end c.n)) ∷ []))
    go true = All-cons (AreLow n) (node_line s.p_end s.n_end) (node_line None None ∷ node_line (left_end c.p) (left_end c.n) ∷ []) (p_end, n_end) (All-cons (AreLow n) (node_line None None) (node_line (left_end c.p) (left_end c.n) ∷ []) (tt, tt) (All-cons (AreLow n) (node_line (left_end c.p) (left_end c.n)) [] (p, q) (All-nil (AreLow n))))
    go false = All-cons (AreLow n) (node_line (or_else s.p_end (left_end c.p)) (or_else s.n_end (left_end c.n))) [] (else_low n s.p_end (left_end c.p) p_end p, else_low n s.n_end (left_end c.n) n_end q) (All-nil (AreLow n))

pub step_nets : (pins : Pins) (k : Kinds) (s : State) (step : Step) → AreSomeKinds k → IsState k s → All (HasNets k.nets) (above_step pins k s step)
step_nets pins k s step some state =
    all_flat (AreLow k.nets) (HasNets k.nets) (above_at pins) (lines_to s (column_of k step)) (λ line low. ends_low k.nets pins line.p line.n low.0 low.1)
    (lines_low k.nets s (column_of k step) state.p_end state.n_end (side_low P k.p step.p k.nets some.p) (side_low N k.n step.n k.nets some.n))

pub end_nets : (pins : Pins) (k : Kinds) (s : State) → IsState k s → All (HasNets k.nets) (above_end pins s)
end_nets pins k s state = ends_low k.nets pins s.p_end s.n_end state.p_end state.n_end

-- so they have entries in a table of all nets
pub few_nets : (k : Kinds) (above : List NetAbove) → AreSomeKinds k → All (HasNets k.nets) above → All (HasNets 256) above
few_nets k above some all = all_imply (HasNets k.nets) (HasNets 256) above (λ a low. (omega (arith, low.0, some.few_nets), omega (arith, low.1, some.few_nets))) all

pub both_nets : (k : Kinds) (first last : List NetAbove) (above : List NetAbove) → AreSomeKinds k → All (HasNets k.nets) first → All (HasNets k.nets) last → above ≡ first ++ last → All (HasNets 256) above
both_nets k first last above some a b is = subst (All (HasNets 256)) (sym is) (few_nets k (first ++ last) some (All-append (HasNets k.nets) first last a b))
