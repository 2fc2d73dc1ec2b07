-- The conductor cells of a drawing are the cells of its pieces.
use Rattle.std.proofs.Common.{◌≡◌, ℕ, ◌+◌, ◌≤◌, ℤ, pos, ◌≤ℤ◌, ◌<ℤ◌, ◌+ℤ◌, ◌-ℤ◌, arith, inl, inr, refl, sym, ap, subst}
use Rattle.std.specs.List.{All, Contains}
use Rattle.std.proofs.lemmas.Int.{ints, by_lt_z}
use Rattle.cell_num.specs.declared.finger.Row.{Row}
use Rattle.cell_num.specs.declared.finger.Row.TheVariants.{P, N}
use Rattle.cell_num.proofs.Lists.{all_from_contains}
use Rattle.box_geom.specs.Rectangle.{Rectangle, IsProper, Holds, Covers}
use Rattle.box_geom.specs.declared.layer.Layer.TheVariants.{Poly as PolyLayer}
use Rattle.scmos_rules.specs.Layout.{On, Diffusion}
use Rattle.scmos_rules.specs.Conditions.{IsWide}
use Rattle.net_extract.specs.Nets.{Are}
use Rattle.net_extract.specs.declared.piece.Conductor.{Conductor}
use Rattle.net_extract.specs.declared.piece.Conductor.TheVariants.{PDiffusion, NDiffusion, Poly, Metal1, Metal2}
use Rattle.net_extract.specs.Devices.{InRow, diffusion_of}
use Rattle.net_extract.specs.Bonds.{AreDrawn}
use Rattle.cell_draw.specs.declared.layout.Frame.{Frame}
use Rattle.cell_draw.specs.declared.layout.Strip.{Strip}
use Rattle.cell_draw.specs.declared.layout.Contact.{Contact}
use Rattle.cell_draw.specs.declared.layout.Gate.{Gate}
use Rattle.cell_draw.specs.declared.layout.Layout.{Layout}
use Rattle.cell_draw.specs.Shapes.{shapes_of}
use Rattle.cell_draw.specs.Laid.{IsFrame, IsInside, IsStrip, row_height, Crosses, IsLaid}
use Rattle.cell_draw.proofs.NetsFacts.{End, left_end, right_end, IsOver, IsNetted}
use Rattle.cell_draw.proofs.NetsWires.{Wire, metal, branch, gate, half, pad, half_in, half_rect, pad_rect, kind_of, rect_of, IsWire, parts, WireFrom, wire_from, wire_listed}
use Rattle.cell_draw.proofs.RulesActive.{Area, finger_of, finger_in, pad_in, IsArea, area_rect, strip_is}
use Rattle.cell_draw.proofs.RulesActive as area
use Rattle.cell_draw.proofs.RulesCovers.{area_covers, poly_covers, well_covers, area_held, well_holds}
use Rattle.cell_draw.proofs.RulesGates.{GateEnds, gate_ends, AtCrossing, crossing}
use Rattle.cell_draw.proofs.RulesMetal1.{metal_rect, metal_wide}
use Rattle.cell_draw.proofs.RulesMetal2.{branch_rect, branch_wide}
use Rattle.cell_draw.proofs.RulesRows.{InN, InP, inside_of}
use Rattle.cell_draw.proofs.RulesPoly.{strip_of, piece_rect, piece_wide, pad_in as pad_inside}

-- a cell of the row
abbrev InSide : Frame → Row → ℤ → ℤ → Type 0
InSide f N x y = InN f x y
InSide f P x y = InP f x y

finger_side : (f : Frame) (k : ℕ) → IsFrame f k → (row : Row) (s : Strip) → IsStrip f s → s.width ≤ row_height f row → (x y : ℤ) → Holds (finger_in f row s).rect x y → InSide f row x y
finger_side f k fr N s is most x y h = omega (arith, ints)
finger_side f k fr P s is most x y h = omega (arith, ints)

pad_side : (f : Frame) (k : ℕ) → IsFrame f k → (row : Row) (z : ℕ) → IsInside f z → (x y : ℤ) → Holds (pad_in f row z).rect x y → InSide f row x y
pad_side f k fr N z is x y h = omega (arith, ints)
pad_side f k fr P z is x y h = omega (arith, ints)

-- the P row lies in the well, the N row outside it
pub side_well : (l : Layout) (w : IsLaid l) (row : Row) (x y : ℤ) → InSide l.frame row x y → InRow row (shapes_of l) x y
side_well l w N x y h = λ on. let v = well_holds l x y on in let fr = w.frame in omega (arith, ints)
side_well l w P x y h = let fr = w.frame in well_covers l x y (omega (arith, ints))

one_row : (l : Layout) (w : IsLaid l) (row side : Row) (x y : ℤ) → InSide l.frame row x y → InRow side (shapes_of l) x y → row ≡ side
one_row l w N N x y h i = refl
one_row l w P P x y h i = refl
one_row l w N P x y h i = absurd (side_well l w N x y h i)
one_row l w P N x y h i = absurd (i (side_well l w P x y h))

pub strip_side : (l : Layout) (w : IsLaid l) (s : Strip) → Contains l.strips s → (x y : ℤ) → Holds (area_rect l (finger_of s)) x y → InSide l.frame s.row x y
strip_side l w s there x y h = let is = strip_is l w s there in finger_side l.frame w.tracks w.frame s.row s is is.most x y h

-- the gate over a strip goes past it
pub over_ends : (l : Layout) (w : IsLaid l) (s : Strip) (g : Gate) → Contains l.strips s → Contains l.gates g → IsOver s g → GateEnds l.frame s.row s.width g.n g.p g.track
over_ends l w s g hs hg o = by (w.over g s hg hs)
  where
    by : Crosses g s → GateEnds l.frame s.row s.width g.n g.p g.track
    by (inl (before, behind, width)) = gate_ends l.frame w.tracks w.frame s.row s.width g width (λ t e. pad_inside l w g t (record { listed = hg; track = e }))
    by (inr (inl far)) = absurd (omega (arith, o.left))
    by (inr (inr far)) = absurd (omega (arith, o.right))

-- where the gate crosses the strip
pub gate_covers : (l : Layout) (w : IsLaid l) (s : Strip) (g : Gate) → Contains l.strips s → Contains l.gates g → IsOver s g → (x y : ℤ) → Holds (area_rect l (finger_of s)) x y → (pos g.x -ℤ pos 2) ≤ℤ x → x <ℤ (pos g.x +ℤ pos 2) → On PolyLayer (shapes_of l) x y
gate_covers l w s g hs hg o x y h left right = let e = over_ends l w s g hs hg o in poly_covers l (strip_of g) hg x y (omega (arith, ints))

half_holds : (f : Frame) (row : Row) (s : Strip) (z : ℕ) (e : End) → s.left + 8 ≤ z → z + 8 ≤ s.right → (x y : ℤ) → Holds (half_in f row s z e) x y → Holds (finger_in f row s).rect x y
half_holds f N s z left_end a b x y h = omega (arith, ints)
half_holds f N s z right_end a b x y h = omega (arith, ints)
half_holds f P s z left_end a b x y h = omega (arith, ints)
half_holds f P s z right_end a b x y h = omega (arith, ints)

pub half_strip : (l : Layout) (n : IsNetted l) (s : Strip) (e : End) → Contains l.strips s → (x y : ℤ) → Holds (half_rect l n s e) x y → Holds (area_rect l (finger_of s)) x y
half_strip l n s e there x y h = let o = (n.gated s there).1 in half_holds l.frame s.row s (n.over s).x e o.left o.right x y h

left_half : (f : Frame) (row : Row) (s : Strip) (z : ℕ) (x y : ℤ) → Holds (finger_in f row s).rect x y → x <ℤ (pos z -ℤ pos 2) → Holds (half_in f row s z left_end) x y
left_half f N s z x y h less = omega (arith, ints)
left_half f P s z x y h less = omega (arith, ints)

right_half : (f : Frame) (row : Row) (s : Strip) (z : ℕ) (x y : ℤ) → Holds (finger_in f row s).rect x y → (pos z +ℤ pos 2) ≤ℤ x → Holds (half_in f row s z right_end) x y
right_half f N s z x y h most = omega (arith, ints)
right_half f P s z x y h most = omega (arith, ints)

-- a cell of a piece, in the list of its kind
covers_wire : (l : Layout) (n : IsNetted l) (a : Wire) → IsWire l a → (x y : ℤ) → Holds (rect_of l n a) x y → Covers (parts l n (kind_of a)) x y
covers_wire l n a h x y holds = record { rect = rect_of l n a; listed = wire_listed l n a h; holds = holds }

covered_strip : (l : Layout) (w : IsLaid l) (n : IsNetted l) (s : Strip) → Contains l.strips s → (x y : ℤ) → Holds (area_rect l (finger_of s)) x y → (On PolyLayer (shapes_of l) x y → ⊥) → Covers (parts l n (diffusion_of s.row)) x y
covered_strip l w n s there x y h bare =
    let g : Gate = n.over s in
    let o = n.gated s there in
    by_lt_z x (pos g.x -ℤ pos 2)
    (λ less. covers_wire l n (half s left_end) there x y (left_half l.frame s.row s g.x x y h less))
    (λ most. by_lt_z x (pos g.x +ℤ pos 2)
    (λ less. absurd (bare (gate_covers l w s g there o.0 o.1 x y h most less)))
    (λ far. covers_wire l n (half s right_end) there x y (right_half l.frame s.row s g.x x y h far)))

covered_area : (l : Layout) (w : IsLaid l) (n : IsNetted l) (side : Row) (a : Area) → IsArea l a → (x y : ℤ) → Holds (area_rect l a) x y → (On PolyLayer (shapes_of l) x y → ⊥) → InRow side (shapes_of l) x y → Covers (parts l n (diffusion_of side)) x y
covered_area l w n side (finger_of s) there x y h bare i =
    let e : s.row ≡ side = one_row l w s.row side x y (strip_side l w s there x y h) i in
    subst (λ r. Covers (parts l n (diffusion_of r)) x y) e (covered_strip l w n s there x y h bare)
covered_area l w n side (area.pad_of c) there x y h bare i =
    let e : c.row ≡ side = one_row l w c.row side x y (pad_side l.frame w.tracks w.frame c.row c.x (inside_of l w c there) x y h) i in
    subst (λ r. Covers (parts l n (diffusion_of r)) x y) e (covers_wire l n (pad c) there x y h)

covered : (l : Layout) (w : IsLaid l) (n : IsNetted l) (side : Row) (x y : ℤ) → Diffusion (shapes_of l) x y → InRow side (shapes_of l) x y → Covers (parts l n (diffusion_of side)) x y
covered l w n side x y d i = let a = area_held l x y d.0 in covered_area l w n side a.piece a.listed x y a.holds d.1 i

-- a half lies beside its gate
half_clear : (f : Frame) (row : Row) (s : Strip) (z : ℕ) (e : End) (x y : ℤ) → Holds (half_in f row s z e) x y → (pos z -ℤ pos 2) ≤ℤ x → x <ℤ (pos z +ℤ pos 2) → ⊥
half_clear f row s z left_end x y h left right = omega (arith, ints)
half_clear f row s z right_end x y h left right = omega (arith, ints)

record Along (s : Strip) (x : ℤ) : Type 0 where
  left : pos s.left ≤ℤ x
  right : x <ℤ pos s.right

strip_x : (l : Layout) (s : Strip) (x y : ℤ) → Holds (area_rect l (finger_of s)) x y → Along s x
strip_x l s x y h = omega (arith, ints)

half_bare : (l : Layout) (w : IsLaid l) (n : IsNetted l) (s : Strip) (e : End) → Contains l.strips s → (x y : ℤ) → Holds (half_rect l n s e) x y → On PolyLayer (shapes_of l) x y → ⊥
half_bare l w n s e there x y h p = by (w.over c.at.gate s c.at.is_gate there)
  where
    on : Holds (area_rect l (finger_of s)) x y
    on = half_strip l n s e there x y h

    c : AtCrossing l x y x y
    c = crossing l w x y x y (area_covers l (finger_of s) there x y on) p (omega (arith, ints))

    over : IsOver s c.at.gate → ⊥
    over o =
        let same : c.at.gate.x ≡ (n.over s).x = ap (λ (g : Gate). g.x) (n.one_gate s c.at.gate there c.at.is_gate o) in
        let k = c.on_gate in
        half_clear l.frame s.row s (n.over s).x e x y h (omega (arith, ints, same)) (omega (arith, ints, same))

    by : Crosses c.at.gate s → ⊥
    by (inl (before, behind, width)) = over (record { left = before; right = behind })
    by (inr (inl far)) = let k = c.on_gate in let i = strip_x l s x y on in omega (arith, ints)
    by (inr (inr far)) = let k = c.on_gate in let i = strip_x l s x y on in omega (arith, ints)

pad_bare : (l : Layout) (w : IsLaid l) (c : Contact) → Contains l.contacts c → (x y : ℤ) → Holds (pad_rect l c) x y → On PolyLayer (shapes_of l) x y → ⊥
pad_bare l w c there x y h p =
    let a : AtCrossing l x y x y = crossing l w x y x y (area_covers l (area.pad_of c) there x y h) p (omega (arith, ints)) in
    let k = a.on_gate in
    elim (w.beside c a.at.gate there a.at.is_gate) [ inl far ↦ omega (arith, ints) | inr far ↦ omega (arith, ints) ]

are : (l : Layout) (row : Row) (x y : ℤ) → Diffusion (shapes_of l) x y → InRow row (shapes_of l) x y → Are (shapes_of l) (diffusion_of row) x y
are l N x y d i = (d, i)
are l P x y d i = (d, i)

-- a cell of a piece is conductor of its kind
pub conducts : (l : Layout) (w : IsLaid l) (n : IsNetted l) (a : Wire) → IsWire l a → (x y : ℤ) → Holds (rect_of l n a) x y → Are (shapes_of l) (kind_of a) x y
conducts l w n (metal m) there x y h = covers_wire l n (metal m) there x y h
conducts l w n (branch s) there x y h = covers_wire l n (branch s) there x y h
conducts l w n (gate g) there x y h = covers_wire l n (gate g) there x y h
conducts l w n (half s e) there x y h =
    let on : Holds (area_rect l (finger_of s)) x y = half_strip l n s e there x y h in
    are l s.row x y (area_covers l (finger_of s) there x y on, half_bare l w n s e there x y h) (side_well l w s.row x y (strip_side l w s there x y on))
conducts l w n (pad c) there x y h =
    are l c.row x y (area_covers l (area.pad_of c) there x y h, pad_bare l w c there x y h) (side_well l w c.row x y (pad_side l.frame w.tracks w.frame c.row c.x (inside_of l w c there) x y h))

half_proper : (f : Frame) (row : Row) (s : Strip) (z : ℕ) (e : End) → s.left + 8 ≤ z → z + 8 ≤ s.right → 6 ≤ s.width → IsProper (half_in f row s z e)
half_proper f N s z left_end a b wide = omega (arith, ints)
half_proper f N s z right_end a b wide = omega (arith, ints)
half_proper f P s z left_end a b wide = omega (arith, ints)
half_proper f P s z right_end a b wide = omega (arith, ints)

wide_proper : (v : ℕ) (r : Rectangle) → 1 ≤ v → IsWide v r → IsProper r
wide_proper v r some wide = omega (arith, ints)

pub proper : (l : Layout) (w : IsLaid l) (n : IsNetted l) (a : Wire) → IsWire l a → IsProper (rect_of l n a)
proper l w n (metal m) h = wide_proper 6 (metal_rect l m) (omega arith) (metal_wide l w m h)
proper l w n (branch s) h = wide_proper 6 (branch_rect l s) (omega arith) (branch_wide l w s h)
proper l w n (gate g) h = wide_proper 4 (piece_rect l g) (omega arith) (piece_wide l w g h)
proper l w n (half s e) h = let o = (n.gated s h).1 in half_proper l.frame s.row s (n.over s).x e o.left o.right (strip_is l w s h).least
proper l w n (pad c) h = omega (arith, ints)

pub are_drawn : (l : Layout) (w : IsLaid l) (n : IsNetted l) → AreDrawn (shapes_of l) (parts l n)
are_drawn l w n = record { covered = all_covered; conducts = all_conduct; proper = all_proper }
  where
    all_covered : (k : Conductor) (x y : ℤ) → Are (shapes_of l) k x y → Covers (parts l n k) x y
    all_covered PDiffusion x y (d, i) = covered l w n P x y d i
    all_covered NDiffusion x y (d, i) = covered l w n N x y d i
    all_covered Poly x y c = c
    all_covered Metal1 x y c = c
    all_covered Metal2 x y c = c

    all_conduct : (k : Conductor) (x y : ℤ) → Covers (parts l n k) x y → Are (shapes_of l) k x y
    all_conduct k x y c =
        let f : WireFrom l n k c.rect = wire_from l n k c.rect c.listed in
        subst (λ z. Are (shapes_of l) z x y) f.kind (conducts l w n f.wire f.listed x y (subst (λ r. Holds r x y) (sym f.is) c.holds))

    all_proper : (k : Conductor) → All IsProper (parts l n k)
    all_proper k = all_from_contains IsProper (parts l n k) (λ r there. let f : WireFrom l n k r = wire_from l n k r there in subst IsProper f.is (proper l w n f.wire f.listed))
