-- How many bytes the library of a drawing takes.
use Rattle.std.proofs.Common.{ℕ, ◌≡◌, ◌<◌, ◌≤◌, ◌+◌, ◌*◌, ◌%◌, ◌==◌, List, [], ◌∷◌, All, length, map, sum_by, refl, arith, inl, inr, length-append}
use Rattle.std.proofs.lemmas.Bool.{cases_Bool}
use Rattle.std.proofs.lemmas.List.Elements.{All-head, All-tail, All-weaker}
use Rattle.std.proofs.lemmas.List.Sums.{sum_by-cons}
use Rattle.box_geom.specs.declared.shape.Label.{Label}
use Rattle.box_geom.specs.declared.shape.Shapes.{Shapes}
use Rattle.gds_write.specs.Written.{IsWritableLabel, padded, written}
use Rattle.gds_read.specs.RoundTrip.{IsReadable}
use Rattle.file_laws.specs.Size.{label_size}
use Rattle.file_laws.proofs.Bytes.{written_size}
use Rattle.cell_draw.specs.declared.cell.TheConstants.{MOST_SHAPES}
use Rattle.bench_command.specs.Size.{IsShort, IsSmall, labels_size}

pub padded_few : (text : List ℕ) → length text ≤ 64 → length (padded text) ≤ 65
padded_few text few = elim (cases_Bool (length text % 2 == 0)) [
  | inl even ↦ rw even (omega (arith, few))
  | inr odd ↦ rw odd (omega (arith, few, length-append text (0 ∷ [])))
]

named : (labels : List Label) → labels_size labels ≡ sum_by label_size (map (λ (l : Label). l.name) labels)
named [] = refl
named (l ∷ labels) = omega (arith, sum_by-cons (λ (x : Label). label_size x.name) l labels, sum_by-cons label_size l.name (map (λ (x : Label). x.name) labels), named labels)

pub labels_few : (labels : List Label) → All IsShort labels → labels_size labels ≤ 101 * length labels
labels_few [] short = omega arith
labels_few (l ∷ labels) short = omega (arith, sum_by-cons (λ (x : Label). label_size x.name) l labels, padded_few l.name (All-head IsShort l labels short), labels_few labels (All-tail IsShort l labels short))

-- the bytes are as many as is counted
pub counted_is : (name : List ℕ) (shapes : Shapes) (unit counted : ℕ) → counted ≡ 106 + length (padded name) + 64 * length shapes.rects + labels_size shapes.labels → counted ≡ length (written name shapes unit)
counted_is name shapes unit counted is = omega (arith, is, named shapes.labels, written_size name shapes unit)

-- what can be written, with at most a label for each of 256 nets, is small
pub small_shapes : (name : List ℕ) (shapes : Shapes) (unit : ℕ) → IsReadable name shapes unit → length shapes.rects < MOST_SHAPES → length shapes.labels ≤ 256 → IsSmall name shapes
small_shapes name shapes unit is rects labels = record {
  named = omega (arith, is.named.most);
  rects = rects;
  labels = labels;
  short = All-weaker (IsWritableLabel unit) IsShort (λ l h. h.most) shapes.labels is.labels;
}
