-- The kinds that are found for fingers.
use Rattle.std.specs.Prelude.{ℕ, zero, suc, ◌≡◌, ◌↔◌, ◌<◌, ◌≤◌, max, List, length, All}
use Rattle.std.proofs.Common.{sym, subst, arith}
use Rattle.cell_num.specs.declared.finger.Row.{Row}
use Rattle.cell_num.specs.declared.finger.Row.TheVariants.{P, N}
use Rattle.cell_num.specs.declared.finger.Finger.{Finger}
use Rattle.cell_num.specs.declared.finger.Fingers.{Fingers}
use Rattle.cell_num.specs.Fingers.{AreFingers, IsFinger, on_gate, sum_below}
use Rattle.row_model.specs.declared.column.Column.{Column}
use Rattle.row_model.specs.Arrangement.{IsArrangement}
use Rattle.row_state.specs.declared.kind.Kind.{Kind}
use Rattle.row_state.specs.declared.kind.Kinds.{Kinds}
use Rattle.row_state.specs.Completion.{Completes}
use Rattle.row_state.specs.Start.{AreKinds, AreKindsOf, AreSomeKinds, start_of}
use Rattle.cell_num.proofs.Lists.{all_imply}
use Rattle.row_state.specs.Degrees.{all_on_gates}
use Rattle.row_state.proofs.Unfold.{arrangement_of, columns_same, completion_of}

sum_within : (f g : ℕ → ℕ) (n : ℕ) → ((i : ℕ) → f i ≤ g i) → sum_below f n ≤ sum_below g n
sum_within f g zero h = omega arith
sum_within f g (suc n) h = omega (arith, sum_within f g n h, h n)

row_few : (row : Row) (fingers : List Finger) (f : Fingers) → AreFingers f → All (IsFinger row f.nets) fingers → ((gate : ℕ) → on_gate gate fingers ≤ max (on_gate gate f.p) (on_gate gate f.n)) → length fingers ≤ 32
row_few row fingers f sound h within =
    omega (arith, sound.few_columns, all_on_gates fingers f.nets (all_imply (IsFinger row f.nets) (λ (x : Finger). x.gate.0 < f.nets) fingers (λ x i. i.gate) h), sum_within (λ gate. on_gate gate fingers) (λ gate. max (on_gate gate f.p) (on_gate gate f.n)) f.nets within)

-- a row has few fingers
pub few_fingers : (f : Fingers) → AreFingers f → (length f.p ≤ 32) × (length f.n ≤ 32)
few_fingers f sound = (row_few P f.p f sound sound.p (λ gate. omega arith), row_few N f.n f sound sound.n (λ gate. omega arith))

pub row_kinds : (row : Row) (nets : ℕ) (fingers slice : List Finger) (kinds : List Kind) → slice ≡ fingers → ((row : Row) (nets : ℕ) → All (IsFinger row nets) slice → AreKindsOf row nets slice kinds) → All (IsFinger row nets) fingers → AreKindsOf row nets fingers kinds
row_kinds row nets fingers slice kinds same h sound = subst (λ fs. AreKindsOf row nets fs kinds) same (h row nets (subst (All (IsFinger row nets)) (sym same) sound))

pub are_kinds : (f : Fingers) (k : Kinds) → k.nets ≡ f.nets → AreKindsOf P f.nets f.p k.p → AreKindsOf N f.nets f.n k.n → AreKinds f k
are_kinds f k nets p n = record { nets = nets; p = p.fingers; n = n.fingers }

pub some_kinds : (f : Fingers) (k : Kinds) → AreFingers f → k.nets ≡ f.nets → AreKindsOf P f.nets f.p k.p → AreKindsOf N f.nets f.n k.n → AreSomeKinds k
some_kinds f k sound nets p n =
    record {
      p = rw nets p.sound;
      n = rw nets n.sound;
      p_order = p.order;
      n_order = n.order;
      few_nets = omega (arith, sound.few_nets, nets);
      few_columns = omega (arith, sound.few_columns, columns_same f k (are_kinds f k nets p n));
    }

pub arranges : (f : Fingers) (k : Kinds) → AreKinds f k → (row : List Column) → IsArrangement row f ↔ Completes k (start_of k) row
arranges f k kinds row = (completion_of f k row kinds, arrangement_of f k row kinds)
