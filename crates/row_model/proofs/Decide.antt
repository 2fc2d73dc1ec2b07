-- The tests on rows decide what they test.
use Rattle.std.proofs.Common.{ℕ, ◌≡◌, ◌↔◌, ◌==◌, IsTrue, List, Option, Some, None, length, refl, ap, arith}
use Rattle.std.specs.Bool.{Decides}
use Rattle.std.specs.List.{list_all}
use Rattle.std.proofs.lemmas.Bool.Decides.{Decides-and, Decides-eqb, Decides-like, Decides-by_and}
use Rattle.cell_num.specs.declared.net.NetNo.{NetNo}
use Rattle.cell_num.specs.declared.finger.Row.{Row}
use Rattle.cell_num.specs.declared.finger.Row.TheVariants.{P, N}
use Rattle.cell_num.specs.declared.finger.Finger.{Finger}
use Rattle.cell_num.specs.declared.finger.Fingers.{Fingers}
use Rattle.row_model.specs.declared.column.Placed.{Placed}
use Rattle.row_model.specs.declared.column.Column.{Column}
use Rattle.cell_num.specs.Fingers.{columns_of}
use Rattle.row_model.specs.Arrangement.{IsArrangement, IsPlaced, AreOneColumn, IsColumn, fingers_in}
use Rattle.cell_num.proofs.Decide.{row_decides}
use Rattle.row_model.specs.Tests.{arrangement_test, placed_test, column_test, same_finger}
use Rattle.cell_num.proofs.Permutations.{counts_decide}

pub net_decides : (a b : NetNo) → Decides (a.0 == b.0) (a ≡ b)
net_decides a b = Decides-like _ (λ e. ap (λ (n : ℕ). let r : NetNo = record { 0 = n } in r) e) (λ e. ap (λ (n : NetNo). n.0) e) (Decides-eqb a.0 b.0)

make : Row → NetNo → NetNo → NetNo → ℕ → Finger
make r g l h w = record { row = r; gate = g; lo = l; hi = h; width = w }

made : {r r' : Row} {g g' l l' h h' : NetNo} {w w' : ℕ} → r ≡ r' → g ≡ g' → l ≡ l' → h ≡ h' → w ≡ w' → make r g l h w ≡ make r' g' l' h' w'
made er eg el eh ew = cc

pub same_from_fields : (a b : Finger) → a.row ≡ b.row → a.gate ≡ b.gate → a.lo ≡ b.lo → a.hi ≡ b.hi → a.width ≡ b.width → a ≡ b
unfolding make
same_from_fields a b r g l h w = made r g l h w

pub finger_decides : (a b : Finger) → Decides (same_finger a b) (a ≡ b)
finger_decides a b =
    Decides-like _ (λ ((((r, g), l), h), w). same_from_fields a b r g l h w) (λ e. ((((ap (λ (x : Finger). x.row) e, ap (λ (x : Finger). x.gate) e), ap (λ (x : Finger). x.lo) e), ap (λ (x : Finger). x.hi) e), ap (λ (x : Finger). x.width) e))
    (Decides-and _ _ (Decides-and _ _ (Decides-and _ _ (Decides-and _ _ (row_decides a.row b.row) (net_decides a.gate b.gate)) (net_decides a.lo b.lo)) (net_decides a.hi b.hi)) (Decides-eqb a.width b.width))

pub placed_decides : (x : Placed) → Decides (placed_test x) (IsPlaced x)
placed_decides x = grind (arith, net_decides x.finger.lo x.finger.hi)

pub column_decides : (p n : Option Placed) → Decides (column_test p n) (AreOneColumn p n)
column_decides None None = (λ e. cc, λ e. absurd e)
column_decides (Some x) None = placed_decides x
column_decides None (Some y) = placed_decides y
column_decides (Some x) (Some y) =
    Decides-like _ (λ ((g, p), n). (g, p, n)) (λ h. ((h.0, h.1), h.2))
    (Decides-and _ _ (Decides-and _ _ (net_decides x.finger.gate y.finger.gate) (placed_decides x)) (placed_decides y))

pub arrangement_decides : (row : List Column) (f : Fingers) → IsTrue (arrangement_test row f) ↔ IsArrangement row f
arrangement_decides row f =
    Decides-like _ (λ (((c, p), n), w). record { columns = c; p = p; n = n; fewest = w }) (λ h. (((h.columns, h.p), h.n), h.fewest))
    (Decides-and _ _ (Decides-and _ _ (Decides-and _ _
    (Decides-by_and (λ c. column_test c.p c.n) IsColumn (list_all (λ c. column_test c.p c.n)) (λ c. column_decides c.p c.n) refl (λ _ _. refl) row)
    (counts_decide same_finger finger_decides f.p (fingers_in P row)))
    (counts_decide same_finger finger_decides f.n (fingers_in N row)))
    (Decides-eqb (length row) (columns_of f)))
