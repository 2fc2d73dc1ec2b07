-- A drawing that extracts to fingers is refused for want of memory alone.
use Rattle.std.proofs.Common.{◌≡◌, ℕ, ℤ, ◌∷◌, List, length, refl, sym, subst, ◌∙◌, Contains}
use Rattle.std.proofs.lemmas.List.Elements.{Contains-append_right}
use Rattle.cell_num.specs.declared.finger.Fingers.{Fingers}
use Rattle.cell_num.proofs.Lists.{contains_here}
use Rattle.box_geom.specs.Rectangle.{Rectangle, Holds}
use Rattle.box_geom.specs.declared.shape.Label.{Label}
use Rattle.box_geom.specs.declared.shape.Shapes.{Shapes}
use Rattle.scmos_rules.specs.declared.rules.Deck.{Deck}
use Rattle.scmos_rules.specs.Layout.{Gate}
use Rattle.net_extract.specs.declared.fault.ExtractFault.{ExtractFault}
use Rattle.net_extract.specs.declared.fault.ExtractFault.TheVariants.{TooMany, OddDevice, Stray, Short, Split, NoMemory}
use Rattle.net_extract.specs.Devices.{IsSomeDevice}
use Rattle.net_extract.specs.Extraction.{AreFew, IsStrayLabel, IsShortDrawing, IsSplitDrawing, ExtractRefused}
use Rattle.net_extract.specs.Labels.{conductor_labels}
use Rattle.net_extract.specs.Nets.{SameNet}
use Rattle.net_extract.proofs.Agreeing.{short_held, split_held, conductor_label, facing, label_held}
use Rattle.net_extract.proofs.Extracting.{not_many}
use Rattle.net_extract.proofs.Numbers.{one_number}
use Rattle.net_extract.proofs.Siding.{move_net, same_number}
use Rattle.cell_draw.specs.Extracted.{IsFingerAt, ExtractsTo}

-- a device that holds the gate cell
record DeviceAt (deck : Deck) (shapes : Shapes) (x y : ℤ) : Type 0 where
  box : Rectangle
  holds : Holds box x y
  is : IsSomeDevice deck shapes.rects box

device_at : (deck : Deck) (names : List (List ℕ)) (fingers : Fingers) (shapes : Shapes) → ExtractsTo deck names fingers shapes → (x y : ℤ) → Gate shapes.rects x y → DeviceAt deck shapes x y
device_at deck names fingers shapes to x y gate =
    let (k, box, within, stands, holds) = to.gates.all x y gate in
    let (f, at) = facing (IsFingerAt deck names shapes) to.boxes to.drawn box to.devices (k, within, stands) in
    record { box = box; holds = holds; is = record { row = f.row; gate = at.gate; left = at.left; right = at.right; width = f.width; length = 4; is = at.is } }

not_stray : (deck : Deck) (names : List (List ℕ)) (fingers : Fingers) (shapes : Shapes) (name : List ℕ) → ExtractsTo deck names fingers shapes → IsStrayLabel deck shapes name → ⊥
not_stray deck names fingers shapes name to r =
    let l : Label = r.stray.label in
    let there : Contains (conductor_labels shapes.labels) l = subst (λ ls. Contains ls l) (sym r.stray.split) (Contains-append_right r.stray.before (l ∷ r.stray.after) l (contains_here l r.stray.after)) in
    let site = to.nets.belong l (conductor_label shapes.labels l there) in
    r.stray.stray site.site site.belongs

not_short : (deck : Deck) (names : List (List ℕ)) (fingers : Fingers) (shapes : Shapes) (one other : List ℕ) → ExtractsTo deck names fingers shapes → IsShortDrawing deck shapes one other → ⊥
not_short deck names fingers shapes one other to r =
    let s = short_held r.held (length r.firsts) one other r.short in
    let (l, has_l, at_l) = label_held deck shapes.rects r.firsts shapes.labels r.held s.one r.labelled.labels s.has_one in
    let (m, has_m, at_m) = label_held deck shapes.rects r.firsts shapes.labels r.held s.other r.labelled.labels s.has_other in
    let same : SameNet deck shapes.rects at_l.site at_m.site = same_number deck shapes.rects r.firsts s.one.net s.other.net at_l.site at_m.site s.net at_l.net at_m.net in
    let name : l.name ≡ m.name = (to.nets.apart l m at_l.site at_m.site has_l has_m at_l.belongs at_m.belongs).0 same in
    s.names (at_l.name ∙ (name ∙ sym at_m.name))

not_split : (deck : Deck) (names : List (List ℕ)) (fingers : Fingers) (shapes : Shapes) (name : List ℕ) → ExtractsTo deck names fingers shapes → IsSplitDrawing deck shapes name → ⊥
not_split deck names fingers shapes name to r =
    let s = split_held r.held (length r.firsts) name r.split in
    let (l, has_l, at_l) = label_held deck shapes.rects r.firsts shapes.labels r.held s.one r.labelled.labels s.has_one in
    let (m, has_m, at_m) = label_held deck shapes.rects r.firsts shapes.labels r.held s.other r.labelled.labels s.has_other in
    let same : SameNet deck shapes.rects at_l.site at_m.site = (to.nets.apart l m at_l.site at_m.site has_l has_m at_l.belongs at_m.belongs).1 (sym at_l.name ∙ (s.name ∙ at_m.name)) in
    s.nets (one_number deck shapes.rects r.firsts s.one.net s.other.net at_m.site r.labelled.nets (move_net deck shapes.rects r.firsts s.one.net at_l.site at_m.site at_l.net same) at_m.net)

pub only_memory : (deck : Deck) (names : List (List ℕ)) (fingers : Fingers) (shapes : Shapes) (f : ExtractFault) → AreFew shapes → ExtractsTo deck names fingers shapes → ExtractRefused deck shapes f → f ≡ NoMemory
only_memory deck names fingers shapes (TooMany count) few to r = absurd (not_many shapes count few r)
only_memory deck names fingers shapes (OddDevice x y) few to r =
    let d = device_at deck names fingers shapes to x y r.odd.odd.gate in
    absurd (r.odd.odd.odd d.box d.holds d.is)
only_memory deck names fingers shapes (Stray name) few to r = absurd (not_stray deck names fingers shapes name to r)
only_memory deck names fingers shapes (Short one other) few to r = absurd (not_short deck names fingers shapes one other to r)
only_memory deck names fingers shapes (Split name) few to r = absurd (not_split deck names fingers shapes name to r)
only_memory deck names fingers shapes NoMemory few to r = refl
