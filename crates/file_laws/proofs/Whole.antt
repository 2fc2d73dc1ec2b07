-- The library of a drawing takes as many bytes on any lines.
use Rattle.std.specs.Prelude.{ℕ, ◌≡◌, ◌+◌, ◌*◌, ◌≤◌, List, All, length}
use Rattle.std.proofs.Common.{sym, ap, arith, ◌∙◌}
use Rattle.std.proofs.lemmas.List.{length-map}
use Rattle.cell_num.proofs.Lists.{all_map}
use Rattle.cell_num.specs.declared.net.Pins.{Pins}
use Rattle.box_geom.specs.declared.shape.Label.{Label}
use Rattle.box_geom.specs.declared.shape.Shapes.{Shapes}
use Rattle.row_place.specs.declared.placement.Placement.{Placement}
use Rattle.channel_route.specs.declared.routing.Routing.{Routing}
use Rattle.cell_draw.specs.Drawings.{drawn_of}
use Rattle.gds_write.specs.Written.{written, IsWritableLabel, IsWritableName}
use Rattle.file_laws.specs.Size.{label_names, library_bytes}
use Rattle.file_laws.proofs.Bytes.{size_within, written_size}
use Rattle.file_laws.proofs.Labels.{few_names, same_names}
use Rattle.file_laws.proofs.Shapes.{same_rectangles}

pub written_within : (name : List ℕ) (shapes : Shapes) (unit : ℕ) → IsWritableName name → All (IsWritableLabel unit) shapes.labels → length (written name shapes unit) ≤ 139 + 64 * length shapes.rects + 101 * length shapes.labels
written_within name shapes unit named labels =
    let short : All (λ (label : List ℕ). length label ≤ 64) (label_names shapes) = all_map (IsWritableLabel unit) (λ (label : List ℕ). length label ≤ 64) (λ (l : Label). l.name) shapes.labels (λ l is. is.most) labels in
    let many = length-map shapes.labels (λ (l : Label). l.name) in
    omega (arith, written_size name shapes unit, size_within name (length shapes.rects) (label_names shapes) named.most short, many)

pub same_bytes : (name : List ℕ) (names : List (List ℕ)) (pins : Pins) (p : Placement) (r : Routing) (xs ys : List ℕ) (h k u v : ℕ) → length (written name (drawn_of names pins p r xs h).shapes u) ≡ length (written name (drawn_of names pins p r ys k).shapes v)
same_bytes name names pins p r xs ys h k u v =
    let here = (drawn_of names pins p r xs h).shapes in
    let there = (drawn_of names pins p r ys k).shapes in
    written_size name here u
    ∙ (ap (λ (n : ℕ). library_bytes name n (label_names here)) (same_rectangles names pins p r xs ys h k)
    ∙ (ap (library_bytes name (length there.rects)) (same_names names pins p r xs ys h k)
    ∙ sym (written_size name there v)))

pub few_labels : (names : List (List ℕ)) (pins : Pins) (p : Placement) (r : Routing) (xs : List ℕ) (h : ℕ) → length (drawn_of names pins p r xs h).shapes.labels ≤ length names
few_labels names pins p r xs h = omega (arith, few_names names pins p r xs h, length-map (drawn_of names pins p r xs h).shapes.labels (λ (l : Label). l.name))
