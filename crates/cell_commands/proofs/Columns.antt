-- Columns by the kinds of their fingers.
use Rattle.std.proofs.Common.{ℕ, ◌≡◌, ◌+◌, ◌<◌, ◌≤◌, ◌∷◌, ◌++◌, [], Bool, List, Option, Some, None, All, IfSome, get_or, inl, inr, refl, sym, ap, subst, length, slice_get, take, ◌∙◌}
use Rattle.std.specs.Option.{option_map}
use Rattle.std.proofs.lemmas.List.{map-append, take_all, take_more}
use Rattle.std.proofs.lemmas.List.Elements.{All-nil, All-push}
use Rattle.std.proofs.lemmas.Option.{none-some, same_Some, slice_get-get_or}
use Rattle.cell_num.specs.declared.finger.Row.{Row}
use Rattle.cell_num.specs.declared.finger.Row.TheVariants.{P, N}
use Rattle.cell_num.specs.declared.net.NetNo.{NetNo}
use Rattle.cell_num.proofs.Lists.{all_at}
use Rattle.row_model.specs.declared.column.Column.{Column}
use Rattle.row_model.specs.declared.column.Placed.{Placed}
use Rattle.row_model.specs.Arrangement.{AreOneColumn, IsColumn, gate_in}
use Rattle.row_state.specs.declared.kind.Kind.{Kind}
use Rattle.row_state.specs.declared.kind.Kinds.{Kinds}
use Rattle.row_state.specs.declared.step.Side.{Side}
use Rattle.row_state.specs.Start.{AreSomeKinds, IsKind}
use Rattle.row_state.proofs.Unfold.{placed_gate}
use Rattle.row_state.specs.Steps.{column_of, oriented_of, placed_of}
use Rattle.bound_log.specs.declared.log.LogStep.{LogStep}
use Rattle.bound_log.specs.Fits.{IsFilled, StepFits}
use Rattle.log_check.specs.Accepted.{HasGate, IsListed, columns_listed}
use Rattle.cell_commands.specs.Sides.{IsListedAs, IsSideOf}

blank : Kind
blank = record { gate = record { 0 = 0 }; lo = record { 0 = 0 }; hi = record { 0 = 0 }; width = 0; count = 0 }

-- a column has a gate
pub has_gate : (x y : Option Placed) → AreOneColumn x y → gate_in x y ≡ None → ⊥
has_gate None None one is = one
has_gate (Some x) y one is = none-some _ (sym is)
has_gate None (Some y) one is = none-some _ (sym is)

-- the gate of the column is that of each of its fingers
abbrev IfGate : Option Placed → NetNo → Type 0
IfGate o gate = IfSome o (λ (x : Placed). x.finger.gate ≡ gate)

gates : (x y : Option Placed) (gate : NetNo) → AreOneColumn x y → gate_in x y ≡ Some gate → IfGate x gate × IfGate y gate
gates None None gate one is = absurd one
gates (Some x) None gate one is = (same_Some _ _ is, tt)
gates None (Some y) gate one is = (tt, same_Some _ _ is)
gates (Some x) (Some y) gate one is = (same_Some _ _ is, sym one.0 ∙ same_Some _ _ is)

kind_gate : (row : Row) (o : Option Kind) (flipped : Bool) (place : Option Placed) (gate : NetNo) → option_map (λ (kind : Kind). oriented_of row kind flipped) o ≡ place → (o ≡ None → ⊥) → IfGate place gate → option_map (λ (kind : Kind). kind.gate) o ≡ Some gate
kind_gate row None flipped place gate is some at = absurd (some refl)
kind_gate row (Some kind) flipped place gate is some at =
    let here : kind.gate ≡ gate = subst (λ (q : Option Placed). IfGate q gate) (sym is) at in
    ap (λ (g : NetNo). Some g) here

side_gate : (row : Row) (kinds : List Kind) (place : Option Placed) (side : Option Side) (gate : NetNo) → IsSideOf row kinds place side → IfGate place gate → HasGate kinds gate side
side_gate row kinds place None gate is at = tt
side_gate row kinds place (Some side) gate is at =
    kind_gate row (slice_get kinds side.kind) side.flipped place gate is.placed (λ none. none-some _ (sym none ∙ slice_get-get_or kinds side.kind blank is.fits)) at

-- the gate is a net
gate_few : (x y : Option Placed) (gate : NetNo) (nets : ℕ) → gate_in x y ≡ Some gate → ((z : Placed) → x ≡ Some z → z.finger.gate.0 < nets) → ((z : Placed) → y ≡ Some z → z.finger.gate.0 < nets) → gate.0 < nets
gate_few None None gate nets is p n = absurd (none-some gate is)
gate_few (Some x) y gate nets is p n = subst (λ (g : NetNo). g.0 < nets) (same_Some x.finger.gate gate is) (p x refl)
gate_few None (Some y) gate nets is p n = subst (λ (g : NetNo). g.0 < nets) (same_Some y.finger.gate gate is) (n y refl)

place_few : (row : Row) (kinds : List Kind) (place : Option Placed) (side : Option Side) (nets : ℕ) → All (IsKind nets) kinds → IsSideOf row kinds place side → (z : Placed) → place ≡ Some z → z.finger.gate.0 < nets
place_few row kinds place side nets all is z at = placed_gate row kinds side nets (λ i kind there. (all_at (IsKind nets) kinds i kind all there).gate) z (is.placed ∙ at)

-- a place of the column is filled
filled : (k : Kinds) (x y : Option Placed) (p n : Option Side) → AreOneColumn x y → IsSideOf P k.p x p → IsSideOf N k.n y n → IsFilled (record { p = p; n = n })
filled k None None p n one is_p is_n = absurd one
filled k (Some x) y p n one is_p is_n = inl (λ none. none-some x (ap (placed_of P k.p) (sym none) ∙ is_p.placed))
filled k None (Some y) p n one is_p is_n = inr (λ none. none-some y (ap (placed_of N k.n) (sym none) ∙ is_n.placed))

column_is : (k : Kinds) (c : Column) (p n : Option Side) → placed_of P k.p p ≡ c.p → placed_of N k.n n ≡ c.n → column_of k (record { p = p; n = n }) ≡ c
column_is k c p n is_p is_n =
    ap (λ (x : Option Placed). let made : Column = record { p = x; n = placed_of N k.n n } in made) is_p
    ∙ ap (λ (y : Option Placed). let made : Column = record { p = c.p; n = y } in made) is_n

pub is_listed : (k : Kinds) (c : Column) (gate : NetNo) (p n : Option Side) → AreSomeKinds k → IsColumn c → gate_in c.p c.n ≡ Some gate → IsSideOf P k.p c.p p → IsSideOf N k.n c.n n → IsListedAs k c (record { gate = gate; step = record { p = p; n = n } })
is_listed k c gate p n some one at is_p is_n =
    let both : IfGate c.p gate × IfGate c.n gate = gates c.p c.n gate one at in
    record {
      is = column_is k c p n is_p.placed is_n.placed;
      gate = record { p = side_gate P k.p c.p p gate is_p both.0; n = side_gate N k.n c.n n gate is_n both.1 };
      fits = record {
        gate = gate_few c.p c.n gate k.nets at (place_few P k.p c.p p k.nets some.p is_p) (place_few N k.n c.n n k.nets some.n is_n);
        p = is_p.fits;
        n = is_n.fits;
        filled = filled k c.p c.n p n one is_p is_n;
      };
    }

-- one column more
abbrev pub AreListed : Kinds → List Column → List LogStep → Type 0
AreListed k columns steps = (columns_listed k steps ≡ columns) × All (IsListed k) steps × All (StepFits k) steps

pub listed_none : (k : Kinds) (columns : List Column) → AreListed k (take 0 columns) []
listed_none k columns = (refl, All-nil (IsListed k), All-nil (StepFits k))

pub listed_more : (k : Kinds) (columns : List Column) (i : ℕ) (d : Column) (steps : List LogStep) (step : LogStep) → i < length columns → AreListed k (take i columns) steps → IsListedAs k (get_or columns i d) step → AreListed k (take (i + 1) columns) (steps ++ step ∷ [])
listed_more k columns i d steps step within before is =
    let more : columns_listed k (steps ++ step ∷ []) ≡ columns_listed k steps ++ column_of k step.step ∷ [] = map-append (λ (listed : LogStep). column_of k listed.step) steps (step ∷ []) in (
      more ∙ ap (λ cs. cs ++ column_of k step.step ∷ []) before.0 ∙ ap (λ c. take i columns ++ c ∷ []) is.is ∙ sym (take_more columns i d within),
      All-push (IsListed k) steps step before.1 is.gate,
      All-push (StepFits k) steps step before.2 is.fits,
    )

pub listed_all : (k : Kinds) (columns : List Column) (i : ℕ) (steps : List LogStep) → length columns ≤ i → AreListed k (take i columns) steps → AreListed k columns steps
listed_all k columns i steps past all = subst (λ cs. AreListed k cs steps) (take_all i columns past) all
