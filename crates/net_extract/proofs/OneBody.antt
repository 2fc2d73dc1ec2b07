-- A drawing with taps has one netlist with bodies.
use Rattle.std.proofs.Common.{◌≡◌, ℕ, Option, Some, None, List, [], ◌∷◌, refl, sym, subst, ap, ◌∙◌}
use Rattle.std.specs.List.{AllZip, zip}
use Rattle.box_geom.specs.Rectangle.{Rectangle}
use Rattle.box_geom.specs.Chains.{Linked}
use Rattle.box_geom.specs.declared.shape.Shape.{Shape}
use Rattle.box_geom.specs.declared.shape.Shapes.{Shapes}
use Rattle.box_geom.specs.declared.layer.Layer.TheVariants.{Well}
use Rattle.cell_num.specs.declared.finger.Row.{Row}
use Rattle.cell_num.specs.declared.finger.Row.TheVariants.{P, N}
use Rattle.scmos_rules.specs.Layout.{On}
use Rattle.scmos_rules.specs.declared.rules.Deck.TheVariants.{Taps}
use Rattle.number_trees.proofs.Chains.{one, joined}
use Rattle.net_extract.specs.Bodies.{IsTapFor, IsBody, IsBodyOf, ExtractsBodies}
use Rattle.net_extract.specs.Extraction.{ExtractRefused}
use Rattle.net_extract.specs.Nets.{Site, Tied, by_well, by_substrate, tied, Wired, SameNet}
use Rattle.net_extract.specs.Numbering.{AreNets}
use Rattle.net_extract.specs.declared.fault.ExtractFault.{ExtractFault}
use Rattle.net_extract.specs.declared.fault.ExtractFault.TheVariants.{NoMemory}
use Rattle.net_extract.specs.declared.netlist.BodyNetlist.{BodyNetlist}
use Rattle.net_extract.specs.declared.netlist.Drawn.{Drawn}
use Rattle.net_extract.specs.declared.netlist.Netlist.{Netlist}
use Rattle.net_extract.proofs.Netlists.{one_boxes, one_labelling, one_netlist, only_memory}
use Rattle.net_extract.proofs.Numbers.{one_number}
use Rattle.net_extract.proofs.PolyClasses.{cell, class_back}
use Rattle.net_extract.proofs.Siding.{move_net}

-- two taps for one device are tied
both_tied : (s : List Shape) (row : Row) (box : Rectangle) (a b : Site) → IsTapFor row s box a → IsTapFor row s box b → Tied s a b
both_tied s P box a b x y = by_well x.kind y.kind x.select y.select (joined (Linked (On Well s)) a.cell (cell box.x1 box.y1) b.cell (class_back (On Well s) box.x1 box.y1 a.cell.x a.cell.y x.below) y.below)
both_tied s N box a b x y = by_substrate x.kind y.kind x.select y.select

taps_net : (s : List Shape) (row : Row) (box : Rectangle) (a b : Site) → IsTapFor row s box a → IsTapFor row s box b → SameNet Taps s a b
taps_net s row box a b x y = record { conducts = x.conducts; chain = one (Wired Taps s) a b (record { from = x.conducts; to = y.conducts; meets = tied refl (both_tied s row box a b x y) }) }

one_body : (s : List Shape) (firsts : List Site) → AreNets Taps s firsts → (row : Row) (box : Rectangle) (n m : Option ℕ) → IsBody s firsts row box n → IsBody s firsts row box m → n ≡ m
one_body s firsts nets row box (Some n) (Some m) x y = ap (λ k. Some k) (one_number Taps s firsts n m y.tap nets (move_net Taps s firsts n x.tap y.tap x.net (taps_net s row box x.tap y.tap x.is y.is)) y.net)
one_body s firsts nets row box (Some n) None x y = absurd (y x.tap x.is)
one_body s firsts nets row box None (Some m) x y = absurd (x y.tap y.is)
one_body s firsts nets row box None None x y = refl

all_bodies : (s : List Shape) (firsts : List Site) → AreNets Taps s firsts → (ds : List (Rectangle × Drawn)) (bs cs : List (Option ℕ)) → AllZip (IsBodyOf s firsts) ds bs → AllZip (IsBodyOf s firsts) ds cs → bs ≡ cs
all_bodies s firsts nets [] [] [] x y = refl
all_bodies s firsts nets [] [] (c ∷ cs) x y = absurd y
all_bodies s firsts nets [] (b ∷ bs) cs x y = absurd x
all_bodies s firsts nets (d ∷ ds) [] cs x y = absurd x
all_bodies s firsts nets (d ∷ ds) (b ∷ bs) [] x y = absurd y
all_bodies s firsts nets (d ∷ ds) (b ∷ bs) (c ∷ cs) x y = ap (λ z. z ∷ bs) (one_body s firsts nets d.1.row d.0 b c x.0 y.0) ∙ ap (λ zs. c ∷ zs) (all_bodies s firsts nets ds bs cs x.1 y.1)

body_with : Netlist → List (Option ℕ) → BodyNetlist
body_with n bs = record { netlist = n; bodies = bs }

body_made : (n m : Netlist) (bs cs : List (Option ℕ)) → n ≡ m → bs ≡ cs → body_with n bs ≡ body_with m cs
body_made n m bs cs a b = cc

same_body_netlist : (b c : BodyNetlist) → b.netlist ≡ c.netlist → b.bodies ≡ c.bodies → b ≡ c
unfolding body_with
same_body_netlist b c = body_made b.netlist c.netlist b.bodies c.bodies

pub one_body_netlist : (shapes : Shapes) (b c : BodyNetlist) → ExtractsBodies shapes b → ExtractsBodies shapes c → b ≡ c
one_body_netlist shapes b c x y =
    let (firsts, held) = one_labelling Taps shapes x.of.firsts y.of.firsts x.of.held y.of.held x.of.labelled y.of.labelled in
    let boxes : x.of.boxes ≡ y.of.boxes = one_boxes Taps shapes.rects x.of.boxes y.of.boxes x.of.devices y.of.devices in
    let netlist : b.netlist ≡ c.netlist = one_netlist Taps shapes b.netlist c.netlist x.of y.of in
    same_body_netlist b c netlist
    (all_bodies shapes.rects x.of.firsts x.of.labelled.nets (zip x.of.boxes b.netlist.devices) b.bodies c.bodies x.bodies
    (subst (λ fs. AllZip (IsBodyOf shapes.rects fs) (zip x.of.boxes b.netlist.devices) c.bodies) (sym firsts)
    (subst (λ xs. AllZip (IsBodyOf shapes.rects y.of.firsts) (zip xs b.netlist.devices) c.bodies) (sym boxes)
    (subst (λ (n : Netlist). AllZip (IsBodyOf shapes.rects y.of.firsts) (zip y.of.boxes n.devices) c.bodies) (sym netlist) y.bodies))))

pub only_memory_with : (shapes : Shapes) (b : BodyNetlist) (f : ExtractFault) → ExtractsBodies shapes b → ExtractRefused Taps shapes f → f ≡ NoMemory
only_memory_with shapes b f x r = only_memory Taps shapes b.netlist f x.of r
