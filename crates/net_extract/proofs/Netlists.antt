-- A drawing has one netlist, and is not refused where it has one.
use Rattle.std.proofs.Common.{◌≡◌, ℕ, ℤ, ◌≤◌, ◌⊎◌, ◌++◌, List, [], ◌∷◌, length, Option, Some, None, inl, inr, arith, refl, sym, subst, ap, ◌∙◌}
use Rattle.std.specs.List.{AllZip}
use Rattle.std.proofs.lemmas.Int.{ints}
use Rattle.box_geom.specs.Rectangle.{Rectangle, IsProper}
use Rattle.box_geom.specs.declared.shape.Label.{Label}
use Rattle.box_geom.specs.declared.shape.Shape.{Shape}
use Rattle.box_geom.specs.declared.shape.Shapes.{Shapes}
use Rattle.box_geom.specs.declared.layer.Layer.TheVariants.{Active}
use Rattle.cell_num.specs.declared.finger.Row.{Row}
use Rattle.cell_num.specs.declared.finger.Row.TheVariants.{P, N}
use Rattle.scmos_rules.proofs.Orders.{ordered_same}
use Rattle.scmos_rules.specs.Layout.{On}
use Rattle.scmos_rules.specs.declared.rules.Deck.{Deck}
use Rattle.net_extract.specs.declared.fault.ExtractFault.{ExtractFault}
use Rattle.net_extract.specs.declared.fault.ExtractFault.TheVariants.{TooMany, OddDevice, Stray, Short, Split, NoMemory}
use Rattle.net_extract.specs.declared.naming.NetLabel.{NetLabel}
use Rattle.net_extract.specs.declared.netlist.Drawn.{Drawn}
use Rattle.net_extract.specs.declared.netlist.Netlist.{Netlist}
use Rattle.net_extract.specs.Devices.{diffusion_of, IsSide, IsClosed, left_of, below, source_side, drain_side, low_end, IsSize, BeginsBefore, AreDevices}
use Rattle.net_extract.specs.Extraction.{IsDrawn, IsLabelled, Extracts, ExtractRefused}
use Rattle.net_extract.specs.Labels.{AreNetLabels, IsNetLabel, conductor_labels}
use Rattle.net_extract.specs.Naming.{names_of, short_net, split_name}
use Rattle.net_extract.specs.Nets.{Site, site_at, Conducts}
use Rattle.net_extract.specs.declared.piece.Conductor.TheVariants.{Poly}
use Rattle.net_extract.specs.Numbering.{AreNets, IsInNet}
use Rattle.net_extract.proofs.Belonging.{one_site}
use Rattle.net_extract.proofs.Extracting.{not_many}
use Rattle.net_extract.proofs.Numbers.{one_number}
use Rattle.net_extract.proofs.Orders.{same_numbering}
use Rattle.net_extract.proofs.Siding.{corner_held, source_proper, drain_proper, move_net, row_one}
use Rattle.net_extract.specs.declared.side.Current.{Current}
use Rattle.net_extract.specs.declared.side.Current.TheVariants.{Rightward, Upward}

-- ---- labels
held_with : List ℕ → ℕ → NetLabel
held_with name net = record { name = name; net = net }

held_made : (name other : List ℕ) (m n : ℕ) → name ≡ other → m ≡ n → held_with name m ≡ held_with other n
held_made name other m n a b = cc

same_held : (h k : NetLabel) → h.name ≡ k.name → h.net ≡ k.net → h ≡ k
unfolding held_with
same_held h k a b = held_made h.name k.name h.net k.net a b

one_held : (deck : Deck) (s : List Shape) (firsts : List Site) (l : Label) (h k : NetLabel) → AreNets deck s firsts → IsNetLabel deck s firsts l h → IsNetLabel deck s firsts l k → h ≡ k
one_held deck s firsts l h k nets a b =
    let site : a.site ≡ b.site = one_site s l a.site b.site a.belongs b.belongs in
    same_held h k (a.name ∙ sym b.name) (one_number deck s firsts h.net k.net a.site nets a.net (subst (IsInNet deck s firsts k.net) (sym site) b.net))

all_net_labels : (deck : Deck) (s : List Shape) (firsts : List Site) (ls : List Label) (hs ks : List NetLabel) → AreNets deck s firsts → AllZip (IsNetLabel deck s firsts) ls hs → AllZip (IsNetLabel deck s firsts) ls ks → hs ≡ ks
all_net_labels deck s firsts [] [] [] nets a b = refl
all_net_labels deck s firsts [] [] (k ∷ ks) nets a b = absurd b
all_net_labels deck s firsts [] (h ∷ hs) ks nets a b = absurd a
all_net_labels deck s firsts (l ∷ ls) [] ks nets a b = absurd a
all_net_labels deck s firsts (l ∷ ls) (h ∷ hs) [] nets a b = absurd b
all_net_labels deck s firsts (l ∷ ls) (h ∷ hs) (k ∷ ks) nets a b =
    let first : h ≡ k = one_held deck s firsts l h k nets a.0 b.0 in
    let rest : hs ≡ ks = all_net_labels deck s firsts ls hs ks nets a.1 b.1 in
    cc

pub one_labelling : (deck : Deck) (shapes : Shapes) (firsts others : List Site) (hs ks : List NetLabel) → IsLabelled deck shapes firsts hs → IsLabelled deck shapes others ks → (firsts ≡ others) × (hs ≡ ks)
one_labelling deck shapes firsts others hs ks a b =
    let same : firsts ≡ others = same_numbering deck shapes.rects firsts others a.nets b.nets in
    (same, all_net_labels deck shapes.rects firsts (conductor_labels shapes.labels) hs ks a.nets a.labels (subst (λ (z : List Site). AreNetLabels deck shapes.rects z shapes.labels ks) (sym same) b.labels))

-- ---- devices
begins_strict : (a b : Rectangle) → BeginsBefore a b → BeginsBefore b a → ⊥
begins_strict a b ab ba = ab.other ba.not_behind

pub one_boxes : (deck : Deck) (s : List Shape) (xs ys : List Rectangle) → AreDevices deck s xs → AreDevices deck s ys → xs ≡ ys
one_boxes deck s xs ys a b = ordered_same BeginsBefore begins_strict xs ys a.ascending b.ascending (λ z c. b.all z (a.devices z c)) (λ z c. a.all z (b.devices z c))

diffusion_active : (s : List Shape) (row : Row) (x y : ℤ) → Conducts s (site_at (diffusion_of row) x y) → On Active s x y
diffusion_active s P x y c = c.0.0
diffusion_active s N x y c = c.0.0

-- a strip of diffusion has active cells
not_closed : (deck : Deck) (s : List Shape) (row : Row) (strip : Rectangle) (a : Site) → IsProper strip → IsSide deck s (diffusion_of row) strip a → IsClosed s strip → ⊥
not_closed deck s row strip a p side closed = closed.closed strip.x1 strip.y1 (corner_held strip p) (diffusion_active s row strip.x1 strip.y1 (side.side strip.x1 strip.y1 (corner_held strip p)).0)

one_current : (deck : Deck) (s : List Shape) (box : Rectangle) (row : Row) (a b : Site) (current way : Current) → IsProper box → IsSide deck s (diffusion_of row) (source_side current box) a → IsClosed s (low_end current box) → IsSide deck s (diffusion_of row) (source_side way box) b → IsClosed s (low_end way box) → current ≡ way
one_current deck s box row a b Rightward Rightward p sa ca sb cb = refl
one_current deck s box row a b Rightward Upward p sa ca sb cb = absurd (not_closed deck s row (left_of box) a (source_proper Rightward box (left_of box) p refl) sa cb)
one_current deck s box row a b Upward Rightward p sa ca sb cb = absurd (not_closed deck s row (below box) a (source_proper Upward box (below box) p refl) sa cb)
one_current deck s box row a b Upward Upward p sa ca sb cb = refl

-- the net along a strip has one number
one_side : (deck : Deck) (s : List Shape) (firsts : List Site) (row : Row) (strip : Rectangle) (a b : Site) → AreNets deck s firsts → IsProper strip → IsSide deck s (diffusion_of row) strip a → IsSide deck s (diffusion_of row) strip b → (m n : ℕ) → IsInNet deck s firsts m a → IsInNet deck s firsts n b → m ≡ n
one_side deck s firsts row strip a b nets p sa sb m n ma nb =
    let at : Site = site_at (diffusion_of row) strip.x1 strip.y1 in
    let held = corner_held strip p in
    one_number deck s firsts m n at nets
    (move_net deck s firsts m a at ma (sa.side strip.x1 strip.y1 held).1)
    (move_net deck s firsts n b at nb (sb.side strip.x1 strip.y1 held).1)

one_size : (current : Current) (box : Rectangle) (w l v m : ℕ) → IsSize current box w l → IsSize current box v m → (w ≡ v) × (l ≡ m)
one_size Rightward box w l v m a b =
    let (e, f) = a.across refl in
    let (g, h) = b.across refl in
    (omega (arith, ints, e, g), omega (arith, ints, f, h))
one_size Upward box w l v m a b =
    let (e, f) = a.upright refl in
    let (g, h) = b.upright refl in
    (omega (arith, ints, e, g), omega (arith, ints, f, h))

-- two ends in order, in either order
one_ends : (a b c d : ℕ) → a ≤ b → c ≤ d → ((a ≡ c) × (b ≡ d)) ⊎ ((a ≡ d) × (b ≡ c)) → (a ≡ c) × (b ≡ d)
one_ends a b c d ab cd (inl e) = e
one_ends a b c d ab cd (inr (e, f)) = (omega (arith, ab, cd, e, f), omega (arith, ab, cd, e, f))

drawn_with : Row → ℕ → ℕ → ℕ → ℕ → ℕ → Drawn
drawn_with row gate lo hi w l = record { row = row; gate = gate; lo = lo; hi = hi; width = w; length = l }

drawn_made : (r q : Row) (g h a b c d w v l m : ℕ) → r ≡ q → g ≡ h → a ≡ b → c ≡ d → w ≡ v → l ≡ m → drawn_with r g a c w l ≡ drawn_with q h b d v m
drawn_made r q g h a b c d w v l m e1 e2 e3 e4 e5 e6 = cc

same_drawn : (d e : Drawn) → d.row ≡ e.row → d.gate ≡ e.gate → d.lo ≡ e.lo → d.hi ≡ e.hi → d.width ≡ e.width → d.length ≡ e.length → d ≡ e
unfolding drawn_with
same_drawn d e = drawn_made d.row e.row d.gate e.gate d.lo e.lo d.hi e.hi d.width e.width d.length e.length

one_drawn : (deck : Deck) (s : List Shape) (firsts : List Site) (box : Rectangle) (d e : Drawn) → AreNets deck s firsts → IsDrawn deck s firsts box d → IsDrawn deck s firsts box e → d ≡ e
one_drawn deck s firsts box d e nets a b = same_drawn d e row gate ends.0 ends.1 size.0 size.1
  where
    row : d.row ≡ e.row
    row = row_one s d.row e.row box.x1 box.y1 (a.is.of_row box.x1 box.y1 (corner_held box a.is.class.proper)) (b.is.of_row box.x1 box.y1 (corner_held box a.is.class.proper))

    gate : d.gate ≡ e.gate
    gate =
        let at : Site = site_at Poly box.x1 box.y1 in
        one_number deck s firsts d.gate e.gate at nets (move_net deck s firsts d.gate a.gate at a.gate_net a.is.gate_net) (move_net deck s firsts e.gate b.gate at b.gate_net b.is.gate_net)

    source : (way : Current) → IsSide deck s (diffusion_of e.row) (source_side way box) b.left → IsSide deck s (diffusion_of d.row) (source_side way box) b.left
    source way = subst (λ r. IsSide deck s (diffusion_of r) (source_side way box) b.left) (sym row)

    current : a.is.current ≡ b.is.current
    current = one_current deck s box d.row a.left b.left a.is.current b.is.current a.is.class.proper a.is.left_side a.is.low (source b.is.current b.is.left_side) b.is.low

    left : (m n : ℕ) → IsInNet deck s firsts m a.left → IsInNet deck s firsts n b.left → m ≡ n
    left = one_side deck s firsts d.row (source_side a.is.current box) a.left b.left nets (source_proper a.is.current box (source_side a.is.current box) a.is.class.proper refl) a.is.left_side (subst (λ w. IsSide deck s (diffusion_of d.row) (source_side w box) b.left) (sym current) (source b.is.current b.is.left_side))

    right : (m n : ℕ) → IsInNet deck s firsts m a.right → IsInNet deck s firsts n b.right → m ≡ n
    right = one_side deck s firsts d.row (drain_side a.is.current box) a.right b.right nets (drain_proper a.is.current box (drain_side a.is.current box) a.is.class.proper refl) a.is.right_side (subst (λ w. IsSide deck s (diffusion_of d.row) (drain_side w box) b.right) (sym current) (subst (λ r. IsSide deck s (diffusion_of r) (drain_side b.is.current box) b.right) (sym row) b.is.right_side))

    size : (d.width ≡ e.width) × (d.length ≡ e.length)
    size = one_size a.is.current box d.width d.length e.width e.length a.is.size (subst (λ w. IsSize w box e.width e.length) (sym current) b.is.size)

    either : (IsInNet deck s firsts d.lo a.left × IsInNet deck s firsts d.hi a.right) ⊎ (IsInNet deck s firsts d.lo a.right × IsInNet deck s firsts d.hi a.left) → (IsInNet deck s firsts e.lo b.left × IsInNet deck s firsts e.hi b.right) ⊎ (IsInNet deck s firsts e.lo b.right × IsInNet deck s firsts e.hi b.left) → ((d.lo ≡ e.lo) × (d.hi ≡ e.hi)) ⊎ ((d.lo ≡ e.hi) × (d.hi ≡ e.lo))
    either (inl (l, r)) (inl (k, q)) = inl (left d.lo e.lo l k, right d.hi e.hi r q)
    either (inl (l, r)) (inr (q, k)) = inr (left d.lo e.hi l k, right d.hi e.lo r q)
    either (inr (r, l)) (inl (k, q)) = inr (right d.lo e.hi r q, left d.hi e.lo l k)
    either (inr (r, l)) (inr (q, k)) = inl (right d.lo e.lo r q, left d.hi e.hi l k)

    ends : (d.lo ≡ e.lo) × (d.hi ≡ e.hi)
    ends = one_ends d.lo d.hi e.lo e.hi a.order b.order (either a.sides b.sides)

all_drawn : (deck : Deck) (s : List Shape) (firsts : List Site) (boxes : List Rectangle) (ds es : List Drawn) → AreNets deck s firsts → AllZip (IsDrawn deck s firsts) boxes ds → AllZip (IsDrawn deck s firsts) boxes es → ds ≡ es
all_drawn deck s firsts [] [] [] nets a b = refl
all_drawn deck s firsts [] [] (e ∷ es) nets a b = absurd b
all_drawn deck s firsts [] (d ∷ ds) es nets a b = absurd a
all_drawn deck s firsts (x ∷ xs) [] es nets a b = absurd a
all_drawn deck s firsts (x ∷ xs) (d ∷ ds) [] nets a b = absurd b
all_drawn deck s firsts (x ∷ xs) (d ∷ ds) (e ∷ es) nets a b =
    let first : d ≡ e = one_drawn deck s firsts x d e nets a.0 b.0 in
    let rest : ds ≡ es = all_drawn deck s firsts xs ds es nets a.1 b.1 in
    cc

-- ---- the netlist
netlist_with : List (List ℕ) → List Drawn → Netlist
netlist_with names devices = record { names = names; devices = devices }

netlist_made : (ns ms : List (List ℕ)) (ds es : List Drawn) → ns ≡ ms → ds ≡ es → netlist_with ns ds ≡ netlist_with ms es
netlist_made ns ms ds es a b = cc

same_netlist : (n m : Netlist) → n.names ≡ m.names → n.devices ≡ m.devices → n ≡ m
unfolding netlist_with
same_netlist n m = netlist_made n.names m.names n.devices m.devices

pub one_netlist : (deck : Deck) (shapes : Shapes) (n m : Netlist) → Extracts deck shapes n → Extracts deck shapes m → n ≡ m
one_netlist deck shapes n m a b =
    let (firsts, held) = one_labelling deck shapes a.firsts b.firsts a.held b.held a.labelled b.labelled in
    let boxes : a.boxes ≡ b.boxes = one_boxes deck shapes.rects a.boxes b.boxes a.devices b.devices in
    let names : n.names ≡ m.names = a.names ∙ (ap (λ hs. names_of hs (length a.firsts)) held ∙ (ap (λ (fs : List Site). names_of b.held (length fs)) firsts ∙ sym b.names)) in
    same_netlist n m names
    (all_drawn deck shapes.rects a.firsts a.boxes n.devices m.devices a.labelled.nets a.drawn
    (subst (λ fs. AllZip (IsDrawn deck shapes.rects fs) a.boxes m.devices) (sym firsts) (subst (λ xs. AllZip (IsDrawn deck shapes.rects b.firsts) xs m.devices) (sym boxes) b.drawn)))

-- ---- a drawing that has a netlist is refused for want of memory alone
zip_middle : {X Y : Type 0} (R : X → Y → Type 0) (before : List X) (x : X) (after : List X) (ys : List Y) → AllZip R (before ++ x ∷ after) ys → (y : Y) × R x y
zip_middle R [] x after [] h = absurd h
zip_middle R [] x after (y ∷ ys) h = (y, h.0)
zip_middle R (b ∷ bs) x after [] h = absurd h
zip_middle R (b ∷ bs) x after (y ∷ ys) h = zip_middle R bs x after ys h.1

none_some : {X : Type 0} (o p : Option X) (x : X) → o ≡ None → p ≡ Some x → o ≡ p → ⊥
none_some o p x a b e = cc

pub only_memory : (deck : Deck) (shapes : Shapes) (n : Netlist) (f : ExtractFault) → Extracts deck shapes n → ExtractRefused deck shapes f → f ≡ NoMemory
only_memory deck shapes n (TooMany count) e r = absurd (not_many shapes count e.few r)
only_memory deck shapes n (OddDevice x y) e r = absurd (e.devices.none_odd x y r.odd.odd)
only_memory deck shapes n (Stray name) e r =
    let (h, is) = zip_middle (IsNetLabel deck shapes.rects e.firsts) r.stray.before r.stray.label r.stray.after e.held (subst (λ (ls : List Label). AllZip (IsNetLabel deck shapes.rects e.firsts) ls e.held) r.stray.split e.labelled.labels) in
    absurd (r.stray.stray is.site is.belongs)
only_memory deck shapes n (Short one another) e r =
    let (firsts, hs) = one_labelling deck shapes e.firsts r.firsts e.held r.held e.labelled r.labelled in
    absurd (none_some (short_net e.held (length e.firsts)) (short_net r.held (length r.firsts)) r.short.net e.agreed.no_short r.short.short
    (ap (λ (z : List NetLabel). short_net z (length e.firsts)) hs ∙ ap (λ (z : List Site). short_net r.held (length z)) firsts))
only_memory deck shapes n (Split name) e r =
    let (firsts, hs) = one_labelling deck shapes e.firsts r.firsts e.held r.held e.labelled r.labelled in
    absurd (none_some (split_name e.held) (split_name r.held) name e.agreed.no_split r.split.split (ap split_name hs))
only_memory deck shapes n NoMemory e r = refl
