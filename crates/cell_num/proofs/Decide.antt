-- The tests on fingers decide what they test.
use Rattle.std.proofs.Common.{ℕ, ◌≡◌, ◌↔◌, ◌≤◌, IsTrue, List, refl, arith}
use Rattle.std.specs.Bool.{Decides}
use Rattle.std.specs.List.{list_all}
use Rattle.std.specs.Prelude.{nat_le, All}
use Rattle.std.proofs.lemmas.Bool.Decides.{Decides-and, Decides-like, Decides-by_and, Decides-ltb, nat_tests}
use Rattle.cell_num.specs.declared.finger.Row.{Row}
use Rattle.cell_num.specs.declared.finger.Row.TheVariants.{P, N}
use Rattle.cell_num.specs.declared.finger.Finger.{Finger}
use Rattle.cell_num.specs.declared.finger.Fingers.{Fingers}
use Rattle.cell_num.specs.Fingers.{AreFingers, IsFinger, columns_of}
use Rattle.cell_num.specs.Tests.{same_row, finger_test, fingers_test}

le_decides : (a b : ℕ) → Decides (nat_le a b) (a ≤ b)
le_decides a b = grind (arith, nat_tests)

pub row_decides : (a b : Row) → Decides (same_row a b) (a ≡ b)
row_decides P P = (λ _. refl, λ _. refl)
row_decides P N = (λ e. cc, λ e. cc)
row_decides N P = (λ e. cc, λ e. cc)
row_decides N N = (λ _. refl, λ _. refl)

pub finger_decides : (at : Row) (nets : ℕ) (f : Finger) → Decides (finger_test at nets f) (IsFinger at nets f)
finger_decides at nets f =
    Decides-like _ (λ (((r, o), g), e). record { row = r; order = o; gate = g; ends = e }) (λ h. (((h.row, h.order), h.gate), h.ends))
    (Decides-and _ _ (Decides-and _ _ (Decides-and _ _ (row_decides f.row at) (le_decides f.lo.0 f.hi.0)) (Decides-ltb f.gate.0 nets)) (Decides-ltb f.hi.0 nets))

row_of_decides : (at : Row) (nets : ℕ) (fs : List Finger) → Decides (list_all (finger_test at nets) fs) (All (IsFinger at nets) fs)
row_of_decides at nets fs = Decides-by_and (finger_test at nets) (IsFinger at nets) (list_all (finger_test at nets)) (finger_decides at nets) refl (λ _ _. refl) fs

pub fingers_decide : (f : Fingers) → IsTrue (fingers_test f) ↔ AreFingers f
fingers_decide f =
    Decides-like _ (λ (((k, p), n), c). record { p = p; n = n; few_nets = k; few_columns = c }) (λ a. (((a.few_nets, a.p), a.n), a.few_columns))
    (Decides-and _ _ (Decides-and _ _ (Decides-and _ _ (le_decides f.nets 256) (row_of_decides P f.nets f.p)) (row_of_decides N f.nets f.n)) (le_decides (columns_of f) 32))
