-- A drawing whose nets are mapped is not refused, and one that is refused is refused for one cause.
use Rattle.std.proofs.Common.{◌≡◌, ℕ, ◌<◌, ◌≤◌, ℤ, ◌≤ℤ◌, ◌⊎◌, inl, inr, ◌∷◌, List, length, Option, Some, None, arith, refl, sym, subst, ap, ◌∙◌}
use Rattle.std.specs.List.{Contains}
use Rattle.std.proofs.lemmas.Int.{ints}
use Rattle.std.proofs.lemmas.List.Elements.{Contains-append_right}
use Rattle.cell_num.proofs.Lists.{all_from_contains, contains_here, some_same}
use Rattle.box_geom.specs.declared.shape.Label.{Label}
use Rattle.box_geom.specs.declared.shape.Shape.{Shape}
use Rattle.box_geom.specs.declared.shape.Shapes.{Shapes}
use Rattle.scmos_rules.specs.declared.rules.Deck.TheVariants.{Plain}
use Rattle.net_extract.specs.Devices.{IsFirstOdd}
use Rattle.net_extract.specs.Extraction.{IsLabelled, IsTooMany, IsStrayLabel, ExtractRefused}
use Rattle.net_extract.specs.Labels.{IsNetLabel, IsStray, IsFirstStray, conductor_labels}
use Rattle.net_extract.specs.NetMaps.{NetMap, Maps}
use Rattle.net_extract.specs.Naming.{IsShort, IsSplit, label_of, other_of, short_net, split_name}
use Rattle.net_extract.specs.Nets.{Site}
use Rattle.net_extract.specs.declared.fault.ExtractFault.{ExtractFault}
use Rattle.net_extract.specs.declared.fault.ExtractFault.TheVariants.{TooMany, OddDevice, Stray, Short, Split, NoMemory}
use Rattle.net_extract.specs.declared.naming.NetLabel.{NetLabel}
use Rattle.net_extract.proofs.Agreeing.{facing}
use Rattle.net_extract.proofs.Extracting.{not_many}
use Rattle.net_extract.proofs.Netlists.{one_labelling}
use Rattle.lef_read.specs.Differences.{HasNetlist, IsFirstNot}
use Rattle.lef_read.proofs.Firsts.{one_first}

-- each label of a drawing belongs to a conductor cell
not_stray : (shapes : Shapes) (firsts : List Site) (held : List NetLabel) (name : List ℕ) → IsLabelled Plain shapes firsts held → IsStrayLabel Plain shapes name → ⊥
not_stray shapes firsts held name has r =
    let l : Label = r.stray.label in
    let there : Contains (conductor_labels shapes.labels) l = subst (λ ls. Contains ls l) (sym r.stray.split) (Contains-append_right r.stray.before (l ∷ r.stray.after) l (contains_here l r.stray.after)) in
    let (h, is) = facing (IsNetLabel Plain shapes.rects firsts) (conductor_labels shapes.labels) held l has.labels there in
    r.stray.stray is.site is.belongs

none_some : {X : Type 0} (o p : Option X) (x : X) → o ≡ None → p ≡ Some x → o ≡ p → ⊥
none_some o p x a b e = cc

pub mapped_accepted : (shapes : Shapes) (m : NetMap) → Maps Plain shapes m → HasNetlist shapes
mapped_accepted shapes m maps (TooMany count) r = absurd (not_many shapes count maps.regular.few r)
mapped_accepted shapes m maps (OddDevice x y) r = absurd (maps.regular.none_odd x y r.odd.odd)
mapped_accepted shapes m maps (Stray name) r = absurd (not_stray shapes maps.firsts maps.held name maps.has r)
mapped_accepted shapes m maps (Short one another) r =
    let (firsts, hs) = one_labelling Plain shapes maps.firsts r.firsts maps.held r.held maps.has r.labelled in
    absurd (none_some (short_net maps.held (length maps.firsts)) (short_net r.held (length r.firsts)) r.short.net maps.agreed.no_short r.short.short
    (ap (λ (z : List NetLabel). short_net z (length maps.firsts)) hs ∙ ap (λ (z : List Site). short_net r.held (length z)) firsts))
mapped_accepted shapes m maps (Split name) r =
    let (firsts, hs) = one_labelling Plain shapes maps.firsts r.firsts maps.held r.held maps.has r.labelled in
    absurd (none_some (split_name maps.held) (split_name r.held) name maps.agreed.no_split r.split.split (ap split_name hs))
mapped_accepted shapes m maps NoMemory r = refl

-- ---- one refusal
counts_same : (shapes : Shapes) (m n : ℕ) → IsTooMany shapes m → IsTooMany shapes n → m ≡ n
counts_same shapes m n a b = by a.which b.which
  where
    by : ((10000 < length shapes.rects) × (m ≡ length shapes.rects)) ⊎ ((length shapes.rects ≤ 10000) × (2000 < length shapes.labels) × (m ≡ length shapes.labels)) → ((10000 < length shapes.rects) × (n ≡ length shapes.rects)) ⊎ ((length shapes.rects ≤ 10000) × (2000 < length shapes.labels) × (n ≡ length shapes.labels)) → m ≡ n
    by (inl (l, e)) (inl (k, f)) = e ∙ sym f
    by (inl (l, e)) (inr (k, j, f)) = absurd (omega (arith, l, k))
    by (inr (k, j, f)) (inl (l, e)) = absurd (omega (arith, l, k))
    by (inr (k, j, e)) (inr (l, i, f)) = e ∙ sym f

odd_same : (s : List Shape) (x y u v : ℤ) → IsFirstOdd Plain s x y → IsFirstOdd Plain s u v → OddDevice x y ≡ OddDevice u v
odd_same s x y u v a b =
    let p = a.first u v b.odd in
    let q = b.first x y a.odd in
    made (same x u (p.column q.row) (q.column p.row)) (same y v p.row q.row)
  where
    same : (m n : ℤ) → m ≤ℤ n → n ≤ℤ m → m ≡ n
    same m n le ge = omega (arith, ints)

    made : x ≡ u → y ≡ v → OddDevice x y ≡ OddDevice u v
    made e f = cc

first_stray : (s : List Shape) (labels : List Label) (name : List ℕ) (r : IsFirstStray s labels name) → IsFirstNot (λ l. IsStray s l → ⊥) (conductor_labels labels) r.label
first_stray s labels name r = record {
  before = r.before;
  after = r.after;
  split = r.split;
  fine = all_from_contains (λ l. IsStray s l → ⊥) r.before r.fine;
  fails = λ no'. no' r.stray;
}

stray_same : (s : List Shape) (labels : List Label) (m n : List ℕ) → IsFirstStray s labels m → IsFirstStray s labels n → m ≡ n
stray_same s labels m n a b = sym a.named ∙ (ap (λ (l : Label). l.name) (one_first (λ l. IsStray s l → ⊥) (conductor_labels labels) a.label b.label (first_stray s labels m a) (first_stray s labels n b)) ∙ b.named)

-- two ways to read the labels of a drawing come to the same
record OneReading (shapes : Shapes) (hs ks : List NetLabel) (fs gs : List Site) : Type 0 where
  held : hs ≡ ks
  count : length fs ≡ length gs

one_reading : (shapes : Shapes) (fs gs : List Site) (hs ks : List NetLabel) → IsLabelled Plain shapes fs hs → IsLabelled Plain shapes gs ks → OneReading shapes hs ks fs gs
one_reading shapes fs gs hs ks a b = let (firsts, held) = one_labelling Plain shapes fs gs hs ks a b in record { held = held; count = ap (λ (z : List Site). length z) firsts }

shorts_same : (hs ks : List NetLabel) (m n : ℕ) (a b c d : List ℕ) → hs ≡ ks → m ≡ n → IsShort hs m a b → IsShort ks n c d → Short a b ≡ Short c d
shorts_same hs ks m n a b c d e f p q =
    let nets : p.net ≡ q.net = some_same p.net q.net (sym p.short ∙ (ap (λ z. short_net z m) e ∙ (ap (λ z. short_net ks z) f ∙ q.short))) in
    made (some_same a c (sym p.first ∙ (ap (λ z. label_of z hs) nets ∙ (ap (λ z. label_of q.net z) e ∙ q.first))))
    (some_same b d (sym p.differs ∙ (ap (λ z. other_of z hs) nets ∙ (ap (λ z. other_of q.net z) e ∙ q.differs))))
  where
    made : a ≡ c → b ≡ d → Short a b ≡ Short c d
    made x y = cc

short_not_split : (hs ks : List NetLabel) (m n : ℕ) (a b c : List ℕ) → hs ≡ ks → m ≡ n → IsShort hs m a b → IsSplit ks n c → ⊥
short_not_split hs ks m n a b c e f p q = none_some (short_net ks n) (short_net hs m) p.net q.no_short p.short (sym (ap (λ z. short_net z m) e ∙ ap (λ z. short_net ks z) f))

splits_same : (hs ks : List NetLabel) (m n : ℕ) (a b : List ℕ) → hs ≡ ks → IsSplit hs m a → IsSplit ks n b → a ≡ b
splits_same hs ks m n a b e p q = some_same a b (sym p.split ∙ (ap split_name e ∙ q.split))

pub one_refusal : (shapes : Shapes) (f g : ExtractFault) → (f ≡ NoMemory → ⊥) → (g ≡ NoMemory → ⊥) → ExtractRefused Plain shapes f → ExtractRefused Plain shapes g → f ≡ g
one_refusal shapes NoMemory g nf ng r s = absurd (nf refl)
one_refusal shapes (TooMany m) NoMemory nf ng r s = absurd (ng refl)
one_refusal shapes (TooMany m) (TooMany n) nf ng r s = ap (λ k. TooMany k) (counts_same shapes m n r s)
one_refusal shapes (TooMany m) (OddDevice x y) nf ng r s = absurd (not_many shapes m s.few r)
one_refusal shapes (TooMany m) (Stray name) nf ng r s = absurd (not_many shapes m s.regular.few r)
one_refusal shapes (TooMany m) (Short a b) nf ng r s = absurd (not_many shapes m s.regular.few r)
one_refusal shapes (TooMany m) (Split name) nf ng r s = absurd (not_many shapes m s.regular.few r)
one_refusal shapes (OddDevice x y) NoMemory nf ng r s = absurd (ng refl)
one_refusal shapes (OddDevice x y) (TooMany n) nf ng r s = absurd (not_many shapes n r.few s)
one_refusal shapes (OddDevice x y) (OddDevice u v) nf ng r s = odd_same shapes.rects x y u v r.odd s.odd
one_refusal shapes (OddDevice x y) (Stray name) nf ng r s = absurd (s.regular.none_odd x y r.odd.odd)
one_refusal shapes (OddDevice x y) (Short a b) nf ng r s = absurd (s.regular.none_odd x y r.odd.odd)
one_refusal shapes (OddDevice x y) (Split name) nf ng r s = absurd (s.regular.none_odd x y r.odd.odd)
one_refusal shapes (Stray m) NoMemory nf ng r s = absurd (ng refl)
one_refusal shapes (Stray m) (TooMany n) nf ng r s = absurd (not_many shapes n r.regular.few s)
one_refusal shapes (Stray m) (OddDevice u v) nf ng r s = absurd (r.regular.none_odd u v s.odd.odd)
one_refusal shapes (Stray m) (Stray n) nf ng r s = ap (λ k. Stray k) (stray_same shapes.rects shapes.labels m n r.stray s.stray)
one_refusal shapes (Stray m) (Short a b) nf ng r s = absurd (not_stray shapes s.firsts s.held m s.labelled r)
one_refusal shapes (Stray m) (Split n) nf ng r s = absurd (not_stray shapes s.firsts s.held m s.labelled r)
one_refusal shapes (Short a b) NoMemory nf ng r s = absurd (ng refl)
one_refusal shapes (Short a b) (TooMany n) nf ng r s = absurd (not_many shapes n r.regular.few s)
one_refusal shapes (Short a b) (OddDevice u v) nf ng r s = absurd (r.regular.none_odd u v s.odd.odd)
one_refusal shapes (Short a b) (Stray n) nf ng r s = absurd (not_stray shapes r.firsts r.held n r.labelled s)
one_refusal shapes (Short a b) (Short c d) nf ng r s = let o = one_reading shapes r.firsts s.firsts r.held s.held r.labelled s.labelled in shorts_same r.held s.held (length r.firsts) (length s.firsts) a b c d o.held o.count r.short s.short
one_refusal shapes (Short a b) (Split n) nf ng r s = let o = one_reading shapes r.firsts s.firsts r.held s.held r.labelled s.labelled in absurd (short_not_split r.held s.held (length r.firsts) (length s.firsts) a b n o.held o.count r.short s.split)
one_refusal shapes (Split m) NoMemory nf ng r s = absurd (ng refl)
one_refusal shapes (Split m) (TooMany n) nf ng r s = absurd (not_many shapes n r.regular.few s)
one_refusal shapes (Split m) (OddDevice u v) nf ng r s = absurd (r.regular.none_odd u v s.odd.odd)
one_refusal shapes (Split m) (Stray n) nf ng r s = absurd (not_stray shapes r.firsts r.held n r.labelled s)
one_refusal shapes (Split m) (Short a b) nf ng r s = let o = one_reading shapes s.firsts r.firsts s.held r.held s.labelled r.labelled in absurd (short_not_split s.held r.held (length s.firsts) (length r.firsts) a b m o.held o.count s.short r.split)
one_refusal shapes (Split m) (Split n) nf ng r s = let o = one_reading shapes r.firsts s.firsts r.held s.held r.labelled s.labelled in ap (λ k. Split k) (splits_same r.held s.held (length r.firsts) (length s.firsts) m n o.held r.split s.split)
