-- The bands of a region as slabs, and the slabs of all layers.
use Rattle.std.proofs.Common.{◌≡◌, ◌↔◌, ℕ, zero, suc, ◌+◌, ◌<◌, ◌≤◌, ℤ, ◌≤ℤ◌, ◌<ℤ◌, List, [], ◌∷◌, ◌++◌, map, length, true, false, get_or, take, drop, arith, inl, inr, ◌⊎◌, refl, sym, subst, ap, ◌∙◌}
use Rattle.std.specs.List.{All, AllPairs, Contains}
use Rattle.std.specs.List.Sorted.{IsPartitionPoint}
use Rattle.std.proofs.lemmas.Bool.{cases_lt}
use Rattle.std.proofs.lemmas.Int.{ints}
use Rattle.std.proofs.lemmas.List.{take-append-drop, length-map}
use Rattle.std.proofs.lemmas.List.Elements.{All-nil, All-head, All-tail, All-append, All-contains, Contains-append_cases, Contains-append_left, Contains-append_right}
use Rattle.std.proofs.lemmas.List.Kept.{AllPairs-cons}
use Rattle.cell_num.proofs.Lists.{contains_none, contains_one, contains_cons, contains_here, all_from_contains, all_imply, all_one}
use Rattle.cell_num.proofs.Pairs.{pairs_none, pairs_one, pairs_head, pairs_tail, pairs_append, cross}
use Rattle.box_geom.specs.Rectangle.{Rectangle, Covers}
use Rattle.box_geom.specs.Ranges.{Apart, Spread}
use Rattle.box_geom.specs.Regions.{IsBlock, Follows, AreBanded}
use Rattle.box_geom.specs.Banding.{in_band}
use Rattle.box_geom.specs.Layers.{layer_no, rects_on}
use Rattle.box_geom.specs.Slabbing.{IsInSlab, SlabsCover, IsSlab, StandsBelow, across, slab_of, AreSlabsOf, AreSlabsUpTo, all_layers}
use Rattle.box_geom.specs.declared.layer.Layer.{Layer}
use Rattle.box_geom.specs.declared.layer.Layer.TheVariants.{Well, Active, PSelect, NSelect, Poly, Contact, Metal1, Via, Metal2}
use Rattle.box_geom.specs.declared.shape.Shape.{Shape}
use Rattle.box_geom.specs.declared.slab.Slab.{Slab}
use Rattle.box_geom.proofs.Moved.{same_rect}
use Rattle.box_geom.proofs.Rising.{begins_by, low_part, high_part}
use Rattle.box_geom.proofs.Stacks.{band_covers}

-- ---- one band
abbrev pub InBand : Rectangle → Rectangle → Type 0
InBand f r = (r.y1 ≡ f.y1) × (r.y2 ≡ f.y2)

same_band : (f r : Rectangle) → IsBlock f → Follows f r → r.y1 ≤ℤ f.y1 → InBand f r × (f.x2 <ℤ r.x1)
same_band f r real (inl up) low = let h = real.proper.high in absurd (omega (arith, ints))
same_band f r real (inr (p, q, right)) low = ((sym p, sym q), right)

behind : (f r : Rectangle) → IsBlock f → Follows f r → f.y1 <ℤ r.y1 → f.y2 ≤ℤ r.y1
behind f r real (inl up) low = up
behind f r real (inr (p, q, right)) low = absurd (omega (arith, ints))

-- rectangles of one band ascend with room between them
band_apart : (f : Rectangle) (at : ℤ) (rs : List Rectangle) → All IsBlock rs → AllPairs Follows rs → All (InBand f) rs → All (λ (r : Rectangle). at <ℤ r.x1) rs → Apart at (map across rs)
band_apart f at [] real order one above = tt
band_apart f at (r ∷ rs) real order one above =
    let here : IsBlock r = All-head IsBlock r rs real in
    let wide = here.proper.wide in
    (All-head (λ (s : Rectangle). at <ℤ s.x1) r rs above, (wide, band_apart f r.x2 rs (All-tail IsBlock r rs real) (pairs_tail Follows r rs order) (All-tail (InBand f) r rs one) (all_from_contains (λ (s : Rectangle). r.x2 <ℤ s.x1) rs (λ s c. later s here c))))
  where
    later : (s : Rectangle) → IsBlock r → Contains rs s → r.x2 <ℤ s.x1
    later s here c =
        let a = (All-head (InBand f) r rs one).0 in
        let b = (All-contains (InBand f) rs s (All-tail (InBand f) r rs one) c).0 in
        (same_band r s here (All-contains (Follows r) rs s (pairs_head Follows r rs order) c) (omega (arith, ints))).1

again : (f : Rectangle) (rs : List Rectangle) → All (InBand f) rs → map (in_band f.y1 f.y2) (map across rs) ≡ rs
again f [] one = refl
again f (r ∷ rs) one =
    let b = All-head (InBand f) r rs one in
    ap (λ z. z ∷ map (in_band f.y1 f.y2) (map across rs)) (same_rect (in_band f.y1 f.y2 (across r)) r (record { x1 = refl; y1 = sym b.0; x2 = refl; y2 = sym b.1 }))
    ∙ ap (λ zs. r ∷ zs) (again f rs (All-tail (InBand f) r rs one))

slab_covers : (on : Layer) (f : Rectangle) (rs : List Rectangle) → All (InBand f) rs → (x y : ℤ) → IsInSlab (slab_of on f rs) on x y ↔ Covers rs x y
slab_covers on f rs one x y = (there, back)
  where
    there : IsInSlab (slab_of on f rs) on x y → Covers rs x y
    there i = subst (λ z. Covers z x y) (again f rs one) ((band_covers f.y1 f.y2 (map across rs) x y i.low i.high).1 i.hit)

    back : Covers rs x y → IsInSlab (slab_of on f rs) on x y
    back c =
        let b = All-contains (InBand f) rs c.rect one c.listed in
        let p = b.0 in
        let q = b.1 in
        let h = c.holds in
        let low : f.y1 ≤ℤ y = omega (arith, ints) in
        let high : y <ℤ f.y2 = omega (arith, ints) in
        record { layer = refl; low = low; high = high; hit = (band_covers f.y1 f.y2 (map across rs) x y low high).0 (subst (λ z. Covers z x y) (sym (again f rs one)) c) }

-- ---- the bands of one layer, one by one
pub record AreCut (on : Layer) (rs rest : List Rectangle) (slabs : List Slab) : Type 0 where
  pub old : List Rectangle
  pub whole : rs ≡ old ++ rest
  pub are : AreSlabsOf on old slabs
  pub below : (s : Slab) (r : Rectangle) → Contains slabs s → Contains rest r → s.y2 ≤ℤ r.y1

none_covers : (on : Layer) (x y : ℤ) → SlabsCover [] on x y ↔ Covers [] x y
none_covers on x y = (λ c. absurd (contains_none c.slab c.listed), λ c. absurd (contains_none c.rect c.listed))

pub none_cut : (on : Layer) (rs : List Rectangle) → AreCut on rs rs []
none_cut on rs = record {
  old = [];
  whole = refl;
  are = record { all = All-nil IsSlab; layers = All-nil (λ (s : Slab). s.layer ≡ on); order = pairs_none StandsBelow; same = none_covers on };
  below = λ s r c d. absurd (contains_none s c);
}

pub all_cut : (on : Layer) (rs rest : List Rectangle) (slabs : List Slab) → rest ≡ [] → AreCut on rs rest slabs → AreSlabsOf on rs slabs
all_cut on rs [] slabs e cut = subst (λ z. AreSlabsOf on z slabs) (sym (cut.whole ∙ append_none cut.old)) cut.are
  where
    append_none : (xs : List Rectangle) → xs ++ [] ≡ xs
    append_none [] = refl
    append_none (z ∷ zs) = ap (λ ws. z ∷ ws) (append_none zs)
all_cut on rs (r ∷ rest) slabs e cut = absurd (cc e)

banded_rest : (old rest : List Rectangle) → AreBanded (old ++ rest) → AreBanded rest
banded_rest [] rest b = b
banded_rest (r ∷ rs) rest b = banded_rest rs rest (record { blocks = All-tail IsBlock r (rs ++ rest) b.blocks; order = pairs_tail Follows r (rs ++ rest) b.order })

pub cut_banded : (on : Layer) (rs rest : List Rectangle) (slabs : List Slab) → AreBanded rs → AreCut on rs rest slabs → AreBanded rest
cut_banded on rs rest slabs b cut = banded_rest cut.old rest (subst AreBanded cut.whole b)

-- the rectangles of the band of the first, and those above it
record IsParted (f : Rectangle) (tail band after : List Rectangle) : Type 0 where
  whole : f ∷ tail ≡ band ++ after
  some : 0 < length band
  one : All (InBand f) band
  above : All (λ (r : Rectangle). f.y2 ≤ℤ r.y1) after

first_in : (f : Rectangle) (tail band after : List Rectangle) → f ∷ tail ≡ band ++ after → All (λ (r : Rectangle). f.y1 <ℤ r.y1) after → 0 < length band
first_in f tail [] after e high = let h : f.y1 <ℤ f.y1 = All-contains (λ (r : Rectangle). f.y1 <ℤ r.y1) after f high (subst (λ z. Contains z f) e (contains_here f tail)) in absurd (omega (arith, ints))
first_in f tail (b ∷ bs) after e high = omega arith

parted : (f : Rectangle) (tail band after : List Rectangle) → AreBanded (f ∷ tail) → f ∷ tail ≡ band ++ after → All (λ (r : Rectangle). r.y1 ≤ℤ f.y1) band → All (λ (r : Rectangle). f.y1 <ℤ r.y1) after → IsParted f tail band after
parted f tail band after b e low high = record { whole = e; some = first_in f tail band after e high; one = all_from_contains (InBand f) band (λ r c. one r c (from r (Contains-append_left band after r c))); above = all_from_contains (λ (r : Rectangle). f.y2 ≤ℤ r.y1) after (λ r c. above r c (from r (Contains-append_right band after r c))) }
  where
    real : IsBlock f
    real = All-head IsBlock f tail b.blocks

    from : (r : Rectangle) → Contains (band ++ after) r → (f ≡ r) ⊎ Follows f r
    from r c = elim (contains_cons f tail r (subst (λ z. Contains z r) (sym e) c)) [ inl same ↦ inl same | inr d ↦ inr (All-contains (Follows f) tail r (pairs_head Follows f tail b.order) d) ]

    one : (r : Rectangle) → Contains band r → (f ≡ r) ⊎ Follows f r → InBand f r
    one r c (inl same) = subst (InBand f) same (refl, refl)
    one r c (inr follows) = (same_band f r real follows (All-contains (λ (s : Rectangle). s.y1 ≤ℤ f.y1) band r low c)).0

    above : (r : Rectangle) → Contains after r → (f ≡ r) ⊎ Follows f r → f.y2 ≤ℤ r.y1
    above r c (inl same) = let h : r.y1 <ℤ r.y1 = subst (λ (z : Rectangle). z.y1 <ℤ r.y1) same (All-contains (λ (s : Rectangle). f.y1 <ℤ s.y1) after r high c) in absurd (omega (arith, ints))
    above r c (inr follows) = behind f r real follows (All-contains (λ (s : Rectangle). f.y1 <ℤ s.y1) after r high c)

banded_band : (band after : List Rectangle) → AreBanded (band ++ after) → AreBanded band
banded_band [] after b = record { blocks = All-nil IsBlock; order = pairs_none Follows }
banded_band (r ∷ rs) after b =
    let rest = banded_band rs after (record { blocks = All-tail IsBlock r (rs ++ after) b.blocks; order = pairs_tail Follows r (rs ++ after) b.order }) in
    record {
      blocks = all_from_contains IsBlock (r ∷ rs) (λ s c. All-contains IsBlock (r ∷ rs ++ after) s b.blocks (Contains-append_left (r ∷ rs) after s c));
      order = AllPairs-cons Follows r rs (all_from_contains (Follows r) rs (λ s c. All-contains (Follows r) (rs ++ after) s (pairs_head Follows r (rs ++ after) b.order) (Contains-append_left rs after s c))) rest.order;
    }

band_spread : (f : Rectangle) (rs : List Rectangle) → AreBanded rs → All (InBand f) rs → Spread (map across rs)
band_spread f [] b one = tt
band_spread f (r ∷ rs) b one =
    let here : IsBlock r = All-head IsBlock r rs b.blocks in
    let wide = here.proper.wide in
    (wide, band_apart f r.x2 rs (All-tail IsBlock r rs b.blocks) (pairs_tail Follows r rs b.order) (All-tail (InBand f) r rs one) (all_from_contains (λ (s : Rectangle). r.x2 <ℤ s.x1) rs (λ s c. later s here c)))
  where
    later : (s : Rectangle) → IsBlock r → Contains rs s → r.x2 <ℤ s.x1
    later s here c =
        let a = (All-head (InBand f) r rs one).0 in
        let d = (All-contains (InBand f) rs s (All-tail (InBand f) r rs one) c).0 in
        (same_band r s here (All-contains (Follows r) rs s (pairs_head Follows r rs b.order) c) (omega (arith, ints))).1

one_more_slab : (on : Layer) (rs tail band after : List Rectangle) (f : Rectangle) (slabs : List Slab) → AreBanded (f ∷ tail) → AreCut on rs (f ∷ tail) slabs → IsParted f tail band after → AreCut on rs after (slabs ++ slab_of on f band ∷ [])
one_more_slab on rs tail band after f slabs b cut parts = record {
  old = cut.old ++ band;
  whole = cut.whole ∙ ap (λ z. cut.old ++ z) parts.whole ∙ append_three cut.old band after;
  are = record {
    all = All-append IsSlab slabs (new ∷ []) cut.are.all (all_one IsSlab new is_slab);
    layers = All-append (λ (s : Slab). s.layer ≡ on) slabs (new ∷ []) cut.are.layers (all_one (λ (s : Slab). s.layer ≡ on) new refl);
    order = pairs_append StandsBelow slabs (new ∷ []) cut.are.order (pairs_one StandsBelow new) (all_from_contains (λ s. All (StandsBelow s) (new ∷ [])) slabs (λ s c. all_one (StandsBelow s) new (inr (All-contains (λ (t : Slab). t.layer ≡ on) slabs s cut.are.layers c, cut.below s f c (contains_here f tail)))));
    same = λ x y. (there x y, back x y);
  };
  below = λ s r c d. below s r (Contains-append_cases slabs (new ∷ []) s c) d;
}
  where
    new : Slab
    new = slab_of on f band

    append_three : (xs ys zs : List Rectangle) → xs ++ (ys ++ zs) ≡ (xs ++ ys) ++ zs
    append_three [] ys zs = refl
    append_three (z ∷ zs) ys ws = ap (λ vs. z ∷ vs) (append_three zs ys ws)

    banded : AreBanded band
    banded = banded_band band after (subst AreBanded parts.whole b)

    is_slab : IsSlab new
    is_slab = let real : IsBlock f = All-head IsBlock f tail b.blocks in let n = parts.some in record { high = real.proper.high; spread = band_spread f band banded parts.one; some = omega (arith, length-map band across) }

    there : (x y : ℤ) → SlabsCover (slabs ++ new ∷ []) on x y → Covers (cut.old ++ band) x y
    there x y c = by (Contains-append_cases slabs (new ∷ []) c.slab c.listed)
      where
        by : Contains slabs c.slab ⊎ Contains (new ∷ []) c.slab → Covers (cut.old ++ band) x y
        by (inl d) = let k = (cut.are.same x y).0 (record { slab = c.slab; listed = d; within = c.within }) in record { rect = k.rect; listed = Contains-append_left cut.old band k.rect k.listed; holds = k.holds }
        by (inr d) = let k = (slab_covers on f band parts.one x y).0 (subst (λ s. IsInSlab s on x y) (sym (contains_one new c.slab d)) c.within) in record { rect = k.rect; listed = Contains-append_right cut.old band k.rect k.listed; holds = k.holds }

    back : (x y : ℤ) → Covers (cut.old ++ band) x y → SlabsCover (slabs ++ new ∷ []) on x y
    back x y c = by (Contains-append_cases cut.old band c.rect c.listed)
      where
        by : Contains cut.old c.rect ⊎ Contains band c.rect → SlabsCover (slabs ++ new ∷ []) on x y
        by (inl d) = let k = (cut.are.same x y).1 (record { rect = c.rect; listed = d; holds = c.holds }) in record { slab = k.slab; listed = Contains-append_left slabs (new ∷ []) k.slab k.listed; within = k.within }
        by (inr d) = record { slab = new; listed = Contains-append_right slabs (new ∷ []) new (contains_here new []); within = (slab_covers on f band parts.one x y).1 (record { rect = c.rect; listed = d; holds = c.holds }) }

    below : (s : Slab) (r : Rectangle) → Contains slabs s ⊎ Contains (new ∷ []) s → Contains after r → s.y2 ≤ℤ r.y1
    below s r (inl c) d = cut.below s r c (subst (λ z. Contains z r) (sym parts.whole) (Contains-append_right band after r d))
    below s r (inr c) d = subst (λ (t : Slab). t.y2 ≤ℤ r.y1) (contains_one new s c) (All-contains (λ (t : Rectangle). f.y2 ≤ℤ t.y1) after r parts.above d)

next_slab : (on : Layer) (rs rest tail band after : List Rectangle) (f : Rectangle) (slabs new : List Slab) (n : ℕ) → AreBanded rs → AreCut on rs rest slabs → rest ≡ f ∷ tail → n ≤ length rest → IsPartitionPoint (λ r. begins_by f.y1 r ≡ true) (λ r. begins_by f.y1 r ≡ false) rest n → band ≡ take n rest → after ≡ drop n rest → new ≡ slabs ++ slab_of on f band ∷ [] → AreCut on rs after new
next_slab on rs rest tail band after f slabs new n b cut is le parts front back more =
    let whole : f ∷ tail ≡ band ++ after = sym is ∙ sym (take-append-drop n rest) ∙ ap (λ xs. xs ++ drop n rest) (sym front) ∙ ap (λ xs. band ++ xs) (sym back) in
    let here : AreBanded (f ∷ tail) = subst AreBanded is (cut_banded on rs rest slabs b cut) in
    subst (AreCut on rs after) (sym more)
    (one_more_slab on rs tail band after f slabs here (subst (λ z. AreCut on rs z slabs) is cut)
    (parted f tail band after here whole (subst (All (λ (r : Rectangle). r.y1 ≤ℤ f.y1)) (sym front) (low_part f.y1 rest n le parts.0)) (subst (All (λ (r : Rectangle). f.y1 <ℤ r.y1)) (sym back) (high_part f.y1 rest n le parts.1))))

pub next_slab_at : (on : Layer) (rs rest band after : List Rectangle) (f : Rectangle) (slabs new : List Slab) (n : ℕ) → AreBanded rs → AreCut on rs rest slabs → 1 ≤ length rest → f ≡ get_or rest 0 f → n ≤ length rest → IsPartitionPoint (λ r. begins_by f.y1 r ≡ true) (λ r. begins_by f.y1 r ≡ false) rest n → band ≡ take n rest → after ≡ drop n rest → new ≡ slabs ++ slab_of on f band ∷ [] → AreCut on rs after new
next_slab_at on rs [] band after f slabs new n b cut some at le parts front back more = absurd (omega (arith, some))
next_slab_at on rs (g ∷ gs) band after f slabs new n b cut some at le parts front back more = next_slab on rs (g ∷ gs) gs band after f slabs new n b cut (ap (λ z. z ∷ gs) (sym at)) le parts front back more

-- ---- layer by layer
abbrev layer_at : ℕ → Layer
layer_at n = get_or all_layers n Well

pub numbered : (i : ℕ) → i < 9 → layer_no (get_or all_layers i Well) ≡ i
numbered zero lt = refl
numbered (suc zero) lt = refl
numbered (suc (suc zero)) lt = refl
numbered (suc (suc (suc zero))) lt = refl
numbered (suc (suc (suc (suc zero)))) lt = refl
numbered (suc (suc (suc (suc (suc zero))))) lt = refl
numbered (suc (suc (suc (suc (suc (suc zero)))))) lt = refl
numbered (suc (suc (suc (suc (suc (suc (suc zero))))))) lt = refl
numbered (suc (suc (suc (suc (suc (suc (suc (suc zero)))))))) lt = refl
numbered (suc (suc (suc (suc (suc (suc (suc (suc (suc i))))))))) lt = absurd (omega (arith, lt))

by_number : (l : Layer) → layer_at (layer_no l) ≡ l
by_number Well = refl
by_number Active = refl
by_number PSelect = refl
by_number NSelect = refl
by_number Poly = refl
by_number Contact = refl
by_number Metal1 = refl
by_number Via = refl
by_number Metal2 = refl

few : (l : Layer) → layer_no l < 9
few Well = omega arith
few Active = omega arith
few PSelect = omega arith
few NSelect = omega arith
few Poly = omega arith
few Contact = omega arith
few Metal1 = omega arith
few Via = omega arith
few Metal2 = omega arith

pub no_layers : (shapes : List Shape) → AreSlabsUpTo 0 shapes []
no_layers shapes = record { all = All-nil IsSlab; early = All-nil (λ (s : Slab). layer_no s.layer < 0); order = pairs_none StandsBelow; same = λ l lt. absurd (omega (arith, lt)) }

pub one_more_layer : (i : ℕ) (on : Layer) (shapes : List Shape) (region : List Rectangle) (slabs made new : List Slab) → i < 9 → on ≡ get_or all_layers i Well → ((x y : ℤ) → Covers region x y ↔ Covers (rects_on on shapes) x y) → AreSlabsOf on region made → new ≡ slabs ++ made → AreSlabsUpTo i shapes slabs → AreSlabsUpTo (i + 1) shapes new
one_more_layer i on shapes region slabs made new lt is cells of e up = subst (AreSlabsUpTo (i + 1) shapes) (sym e) (record {
  all = All-append IsSlab slabs made up.all of.all;
  early = All-append Early slabs made (all_imply (λ (s : Slab). layer_no s.layer < i) Early slabs (λ s h. omega (arith, h)) up.early) (all_imply (λ (s : Slab). s.layer ≡ on) Early made (λ s h. let q : layer_no s.layer ≡ i = ap layer_no h ∙ no in omega (arith, q)) of.layers);
  order = pairs_append StandsBelow slabs made up.order of.order (cross StandsBelow (λ (s : Slab). layer_no s.layer < i) (λ (s : Slab). s.layer ≡ on) slabs made up.early of.layers (λ a b h k. inl (let q : layer_no b.layer ≡ i = ap layer_no k ∙ no in omega (arith, h, q))));
  same = λ l h x y. by l (elim (cases_lt (layer_no l) i) [ inl less ↦ inl less | inr most ↦ inr (omega (arith, h, most)) ]) x y;
})
  where
    Early : Slab → Type 0
    Early s = layer_no s.layer < i + 1

    no : layer_no on ≡ i
    no = ap layer_no is ∙ numbered i lt

    old_one : (l : Layer) → layer_no l < i → (s : Slab) (x y : ℤ) → IsInSlab s l x y → Contains slabs s ⊎ Contains made s → Contains slabs s
    old_one l h s x y in' (inl c) = c
    old_one l h s x y in' (inr c) = let q : layer_no l ≡ i = ap layer_no (sym in'.layer ∙ All-contains (λ (t : Slab). t.layer ≡ on) made s of.layers c) ∙ no in absurd (omega (arith, h, q))

    new_one : (s : Slab) (x y : ℤ) → IsInSlab s on x y → Contains slabs s ⊎ Contains made s → Contains made s
    new_one s x y in' (inr c) = c
    new_one s x y in' (inl c) = let h = All-contains (λ (t : Slab). layer_no t.layer < i) slabs s up.early c in let q : layer_no s.layer ≡ i = ap layer_no in'.layer ∙ no in absurd (omega (arith, h, q))

    this : (x y : ℤ) → SlabsCover (slabs ++ made) on x y ↔ Covers (rects_on on shapes) x y
    this x y = (λ c. (cells x y).0 ((of.same x y).0 (record { slab = c.slab; listed = new_one c.slab x y c.within (Contains-append_cases slabs made c.slab c.listed); within = c.within })), λ c. let k = (of.same x y).1 ((cells x y).1 c) in record { slab = k.slab; listed = Contains-append_right slabs made k.slab k.listed; within = k.within })

    by : (l : Layer) → (layer_no l < i) ⊎ (layer_no l ≡ i) → (x y : ℤ) → SlabsCover (slabs ++ made) l x y ↔ Covers (rects_on l shapes) x y
    by l (inl h) x y = (λ c. (up.same l h x y).0 (record { slab = c.slab; listed = old_one l h c.slab x y c.within (Contains-append_cases slabs made c.slab c.listed); within = c.within }), λ c. let k = (up.same l h x y).1 c in record { slab = k.slab; listed = Contains-append_left slabs made k.slab k.listed; within = k.within })
    by l (inr q) x y = let e : on ≡ l = sym (by_number on) ∙ ap layer_at (no ∙ sym q) ∙ by_number l in subst (λ k. SlabsCover (slabs ++ made) k x y ↔ Covers (rects_on k shapes) x y) e (this x y)

pub whole : (shapes : List Shape) (slabs : List Slab) → AreSlabsUpTo 9 shapes slabs → (l : Layer) (x y : ℤ) → SlabsCover slabs l x y ↔ Covers (rects_on l shapes) x y
whole shapes slabs up l x y = up.same l (few l) x y
