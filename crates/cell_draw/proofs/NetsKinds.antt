-- Pieces of one kind that touch are of one net.
use Rattle.std.proofs.Common.{◌≡◌, ℕ, ◌≤◌, ℤ, arith, inl, refl, sym, subst}
use Rattle.std.proofs.lemmas.Int.{ints}
use Rattle.cell_num.specs.declared.finger.Row.{Row}
use Rattle.cell_num.specs.declared.finger.Row.TheVariants.{P, N}
use Rattle.box_geom.specs.Rectangle.{Rectangle, Holds}
use Rattle.box_geom.specs.Touching.{Touch}
use Rattle.box_geom.proofs.Meeting.{touch_sides}
use Rattle.scmos_rules.specs.Conditions.{Close}
use Rattle.net_extract.specs.declared.piece.Conductor.{Conductor}
use Rattle.net_extract.specs.declared.piece.Conductor.TheVariants.{PDiffusion, NDiffusion, Poly, Metal1, Metal2}
use Rattle.net_extract.specs.Devices.{diffusion_of}
use Rattle.cell_draw.specs.declared.layout.Layout.{Layout}
use Rattle.cell_draw.specs.Laid.{IsLaid}
use Rattle.cell_draw.proofs.NetsFacts.{IsNetted}
use Rattle.cell_draw.proofs.NetsWires.{Wire, metal, branch, gate, half, pad, half_rect, pad_rect, kind_of, rect_of, net_of, IsWire}
use Rattle.cell_draw.proofs.RulesMetal1.{metal_pairs}
use Rattle.cell_draw.proofs.RulesMetal2.{branch_pairs}
use Rattle.cell_draw.proofs.RulesPieces.{close_sides}
use Rattle.cell_draw.proofs.RulesPoly.{piece_pairs}
use Rattle.cell_draw.proofs.NetsHalves.{turn, halves, pad_half, pads}

-- ---- kinds
abbrev IsDiffusion : Conductor → Type 0
IsDiffusion PDiffusion = Unit {0}
IsDiffusion NDiffusion = Unit {0}
IsDiffusion Poly = ⊥
IsDiffusion Metal1 = ⊥
IsDiffusion Metal2 = ⊥

row_diffusion : (row : Row) → IsDiffusion (diffusion_of row)
row_diffusion N = tt
row_diffusion P = tt

is_diffusion : (k : Conductor) (row : Row) → k ≡ diffusion_of row → IsDiffusion k
is_diffusion k row e = subst IsDiffusion (sym e) (row_diffusion row)

same_row : (r s : Row) → diffusion_of r ≡ diffusion_of s → r ≡ s
same_row N N e = refl
same_row P P e = refl
same_row N P e = absurd cc
same_row P N e = absurd cc

widen : (v : ℕ) (a b : Rectangle) → 1 ≤ v → Close 1 a b → Close v a b
widen v a b least c = omega (arith, ints)

-- ---- touching pieces of one kind
near : (l : Layout) (w : IsLaid l) (n : IsNetted l) (a b : Wire) → IsWire l a → IsWire l b → kind_of a ≡ kind_of b → Close 1 (rect_of l n a) (rect_of l n b) → net_of l n a ≡ net_of l n b
near l w n (metal a) (metal b) h k e c = (metal_pairs l w a b h k).same (widen 6 (rect_of l n (metal a)) (rect_of l n (metal b)) (omega arith) c)
near l w n (metal a) (branch b) h k e c = absurd cc
near l w n (metal a) (gate b) h k e c = absurd cc
near l w n (metal a) (half s g) h k e c = absurd (is_diffusion Metal1 s.row e)
near l w n (metal a) (pad d) h k e c = absurd (is_diffusion Metal1 d.row e)
near l w n (branch a) (metal b) h k e c = absurd cc
near l w n (branch a) (branch b) h k e c = (branch_pairs l w a b h k).same (widen 8 (rect_of l n (branch a)) (rect_of l n (branch b)) (omega arith) c)
near l w n (branch a) (gate b) h k e c = absurd cc
near l w n (branch a) (half s g) h k e c = absurd (is_diffusion Metal2 s.row e)
near l w n (branch a) (pad d) h k e c = absurd (is_diffusion Metal2 d.row e)
near l w n (gate a) (metal b) h k e c = absurd cc
near l w n (gate a) (branch b) h k e c = absurd cc
near l w n (gate a) (gate b) h k e c = (piece_pairs l w a b h k).same (widen 6 (rect_of l n (gate a)) (rect_of l n (gate b)) (omega arith) c)
near l w n (gate a) (half s g) h k e c = absurd (is_diffusion Poly s.row e)
near l w n (gate a) (pad d) h k e c = absurd (is_diffusion Poly d.row e)
near l w n (half s g) (metal b) h k e c = absurd (is_diffusion Metal1 s.row (sym e))
near l w n (half s g) (branch b) h k e c = absurd (is_diffusion Metal2 s.row (sym e))
near l w n (half s g) (gate b) h k e c = absurd (is_diffusion Poly s.row (sym e))
near l w n (half s g) (half t d) h k e c = halves l w n s t g d h k (same_row s.row t.row e) c
near l w n (half s g) (pad d) h k e c = sym (pad_half l w n d s g k h (sym (same_row s.row d.row e)) (turn (half_rect l n s g) (pad_rect l d) c))
near l w n (pad d) (metal b) h k e c = absurd (is_diffusion Metal1 d.row (sym e))
near l w n (pad d) (branch b) h k e c = absurd (is_diffusion Metal2 d.row (sym e))
near l w n (pad d) (gate b) h k e c = absurd (is_diffusion Poly d.row (sym e))
near l w n (pad d) (half s g) h k e c = pad_half l w n d s g h k (same_row d.row s.row e) c
near l w n (pad c) (pad d) h k e close = pads l w c d h k (same_row c.row d.row e) close

pub touching_net : (l : Layout) (w : IsLaid l) (n : IsNetted l) (a b : Wire) → IsWire l a → IsWire l b → kind_of a ≡ kind_of b → Touch (rect_of l n a) (rect_of l n b) → net_of l n a ≡ net_of l n b
touching_net l w n a b h k e t = near l w n a b h k e (close_sides 1 (omega arith) (rect_of l n a) (rect_of l n b) (touch_sides (rect_of l n a) (rect_of l n b) t))

-- pieces of one kind that hold one cell
pub meeting_net : (l : Layout) (w : IsLaid l) (n : IsNetted l) (a b : Wire) → IsWire l a → IsWire l b → kind_of a ≡ kind_of b → (x y : ℤ) → Holds (rect_of l n a) x y → Holds (rect_of l n b) x y → net_of l n a ≡ net_of l n b
meeting_net l w n a b h k e x y i j = touching_net l w n a b h k e (record { one = record { x = x; y = y }; other = record { x = x; y = y }; in_a = i; in_b = j; meet = inl refl })
