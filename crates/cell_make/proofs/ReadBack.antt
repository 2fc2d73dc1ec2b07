-- A drawing is read back as it is written: its names are spelled as names are, and its places are near.
use Rattle.std.proofs.Common.{ℕ, ◌≡◌, ◌≢◌, ◌≤◌, ◌&&◌, nat_le, true, IsTrue, List, [], ◌∷◌, length, All, Contains, refl, sym, subst}
use Rattle.std.specs.List.{list_all}
use Rattle.std.proofs.lemmas.Bool.{and_parts, leb-true}
use Rattle.std.proofs.lemmas.List.Elements.{All-contains, All-weaker, Contains-append_right}
use Rattle.std.proofs.lemmas.List.Sums.{AllPass-from_list_all}
use Rattle.cell_num.specs.Names.{is_cell, is_name, is_name_byte}
use Rattle.cell_num.proofs.Lists.{all_from_contains, contains_here}
use Rattle.box_geom.specs.declared.shape.Shape.{Shape}
use Rattle.box_geom.specs.declared.shape.Label.{Label}
use Rattle.box_geom.specs.declared.shape.Shapes.{Shapes}
use Rattle.spice_net.specs.Subckts.{AreNames}
use Rattle.cell_draw.specs.Bounds.{IsLabelWithin, IsShapeWithin}
use Rattle.cell_draw.proofs.Bounds.{fits}
use Rattle.gds_write.specs.Written.{IsWritableLabel, IsWritableShape}
use Rattle.gds_read.specs.RoundTrip.{HasNoZeroEnd, IsReadable}
use Rattle.cell_inputs.proofs.Names.{log_name, whole_name}
use Rattle.cell_make.specs.Writable.{AreWritable}

abbrev HasNoZero : List ℕ → Type 0
HasNoZero text = All (λ b. b ≢ 0) text

no_zero_end : (text : List ℕ) → HasNoZero text → HasNoZeroEnd text
no_zero_end text whole front is =
    let there : Contains text 0 = subst (λ (t : List ℕ). Contains t 0) (sym is) (Contains-append_right front (0 ∷ []) 0 (contains_here 0 [])) in
    All-contains (λ b. b ≢ 0) text 0 whole there refl

no_zero_byte : (b : ℕ) → is_name_byte b ≡ true → b ≢ 0
no_zero_byte b h e =
    let at : is_name_byte 0 ≡ true = subst (λ c. is_name_byte c ≡ true) e h in
    cc

-- ---- names

record IsSpelled (name : List ℕ) : Type 0 where
  some : 1 ≤ length name
  most : length name ≤ 64
  whole : HasNoZero name

spelled : (name : List ℕ) → is_name name ≡ true → IsSpelled name
spelled name h =
    let (sized, bytes) = and_parts (nat_le 1 (length name) && nat_le (length name) 64) (list_all is_name_byte name) h in
    let (some, most) = and_parts (nat_le 1 (length name)) (nat_le (length name) 64) sized in
    record {
      some = leb-true 1 (length name) some;
      most = leb-true (length name) 64 most;
      whole = All-weaker (λ b. is_name_byte b ≡ true) (λ b. b ≢ 0) no_zero_byte name (AllPass-from_list_all is_name_byte name bytes);
    }

-- ---- shapes and labels

shape_fits : (unit : ℕ) → unit ≤ 1000 → (s : Shape) → IsShapeWithin s → IsWritableShape unit s
shape_fits unit few s w = record { x1 = fits unit s.rect.x1 w.x1 few; y1 = fits unit s.rect.y1 w.y1 few; x2 = fits unit s.rect.x2 w.x2 few; y2 = fits unit s.rect.y2 w.y2 few }

label_name : (nets : List (List ℕ)) (l : Label) → AreNames nets → Contains nets l.name → IsSpelled l.name
label_name nets l names there = spelled l.name (All-contains (λ name. is_name name ≡ true) nets l.name names there)

label_fits : (unit : ℕ) (l : Label) → unit ≤ 1000 → IsLabelWithin l → IsSpelled l.name → IsWritableLabel unit l
label_fits unit l few w name = record { x = fits unit l.x w.x few; y = fits unit l.y w.y few; some = name.some; most = name.most }

labels_fit : (unit : ℕ) (labels : List Label) → unit ≤ 1000 → All IsLabelWithin labels → All (λ (l : Label). IsSpelled l.name) labels → All (IsWritableLabel unit) labels
labels_fit unit labels few near names = all_from_contains (IsWritableLabel unit) labels (λ l there. label_fits unit l few (All-contains IsLabelWithin labels l near there) (All-contains (λ (x : Label). IsSpelled x.name) labels l names there))

pub readable : (nets : List (List ℕ)) (name : List ℕ) (shapes : Shapes) (unit : ℕ) → AreNames nets → IsTrue (is_cell name) → 10 ≤ unit → unit ≤ 1000 → AreWritable nets shapes → IsReadable name shapes unit
readable nets name shapes unit names cell least few w =
    let named = log_name name cell in
    let all : All (λ (l : Label). IsSpelled l.name) shapes.labels = All-weaker (λ (l : Label). Contains nets l.name) (λ (l : Label). IsSpelled l.name) (λ l there. label_name nets l names there) shapes.labels w.named in
    record {
      enough = least;
      few = w.few;
      named = record { some = named.some; most = named.few };
      named_whole = no_zero_end name (whole_name name cell);
      rects = All-weaker IsShapeWithin (IsWritableShape unit) (shape_fits unit few) shapes.rects w.within.rects;
      limits = w.limits.all;
      labels = labels_fit unit shapes.labels few w.within.labels all;
      labels_whole = All-weaker (λ (l : Label). IsSpelled l.name) (λ (l : Label). HasNoZeroEnd l.name) (λ l is. no_zero_end l.name is.whole) shapes.labels all;
    }
