-- Each pair of neighbouring lines has one space.
use Rattle.std.proofs.Common.{ℕ, ◌≡◌, ◌+◌, ◌*◌, ◌/◌, ◌<◌, ◌⊎◌, List, Option, Some, None, length, slice_get, map, inl, inr, refl, sym, ap, subst, ◌∙◌, arith}
use Rattle.std.specs.List.{range_with_len}
use Rattle.std.proofs.lemmas.List.FromFn.{length-map-range_with_len, get_or-map-range_with_len}
use Rattle.std.proofs.lemmas.Option.{slice_get_within, get_or_from_slice_get}
use Rattle.cell_num.specs.declared.net.NetNo.{NetNo}
use Rattle.cell_num.specs.declared.net.Pins.{Pins}
use Rattle.cell_num.specs.Pins.{IsRail}
use Rattle.row_place.specs.declared.placement.NodePlace.{NodePlace}
use Rattle.row_place.specs.declared.placement.UnitKind.{UnitKind}
use Rattle.row_place.specs.declared.placement.UnitKind.TheVariants.{Column, Gap}
use Rattle.row_place.specs.declared.placement.Placement.{Placement}
use Rattle.row_place.specs.Trunks.{HasTrunk, IsContacted, lines_of}
use Rattle.row_compact.specs.Allowed.{Stretch, HasContact}
use Rattle.cell_num.proofs.Pairs.{Some'}
use Rattle.line_widths.specs.Spaces.{IsHandedOver, IsBesideContact, IsSpace, AreSpaces}
use Rattle.line_widths.proofs.Decided.{Decided, both, either, none_of, same, less, one_of}

-- ---- a fact in another form

turned : {A B : Type 0} → (A → B) → (B → A) → Decided A → Decided B
turned there back (inl a) = inl (there a)
turned there back (inr other) = inr (λ b. other (back b))

same_net : (a b : NetNo) → Decided (a ≡ b)
same_net a b = turned (λ e. ap (λ (n : ℕ). let r : NetNo = record { 0 = n } in r) e) (λ e. ap (λ (n : NetNo). n.0) e) (same a.0 b.0)

rail : (pins : Pins) (net : NetNo) → Decided (IsRail pins net)
rail pins net = either (same_net net pins.vdd) (same_net net pins.gnd)

trunk : (p : Placement) (pins : Pins) (net : NetNo) → Decided (HasTrunk p pins net)
trunk p pins net = both (none_of (rail pins net)) (either (turned (λ h. omega (arith, h)) (λ h. omega (arith, h)) (less 1 (length (lines_of p net)))) (less net.0 pins.pins))

-- ---- a contacted place

contact : (p : Placement) (pins : Pins) (line : ℕ) → Decided (HasContact p pins line)
contact p pins line = turned
    (λ (s : Some' (λ (node : NodePlace). (node.line ≡ line) × IsContacted p pins node) p.nodes). record { node = s.it; there = s.there; at = s.holds.0; contacted = s.holds.1 })
    (λ h. record { it = h.node; there = h.there; holds = (h.at, h.contacted) })
    (one_of (λ (node : NodePlace). (node.line ≡ line) × IsContacted p pins node) (λ node. both (same node.line line) (either (rail pins node.net) (trunk p pins node.net))) p.nodes)

is_column : (kind : Option UnitKind) → Decided (kind ≡ Some Column)
is_column None = inr (λ e. cc)
is_column (Some Column) = inl refl
is_column (Some Gap) = inr (λ e. cc)

-- the unit of the line is half its number
beside : (p : Placement) (pins : Pins) (line : ℕ) → Decided (IsBesideContact p pins line)
beside p pins line = turned there back (both (is_column (slice_get p.units (line / 2)))
    (either (both (same line (2 * (line / 2))) (contact p pins (2 * (line / 2)))) (both (same line (2 * (line / 2) + 1)) (contact p pins (2 * (line / 2) + 2)))))
  where
    At : ℕ → Type 0
    At unit = (slice_get p.units unit ≡ Some Column) × (((line ≡ 2 * unit) × HasContact p pins (2 * unit)) ⊎ ((line ≡ 2 * unit + 1) × HasContact p pins (2 * unit + 2)))

    there : At (line / 2) → IsBesideContact p pins line
    there h = record { unit = line / 2; column = h.0; contact = h.1 }

    half : (unit : ℕ) → ((line ≡ 2 * unit) × HasContact p pins (2 * unit)) ⊎ ((line ≡ 2 * unit + 1) × HasContact p pins (2 * unit + 2)) → unit ≡ line / 2
    half unit (inl h) = let e : line ≡ 2 * unit = h.0 in omega (arith, e)
    half unit (inr h) = let e : line ≡ 2 * unit + 1 = h.0 in omega (arith, e)

    back : IsBesideContact p pins line → At (line / 2)
    back h = subst At (half h.unit h.contact) (h.column, h.contact)

handed : (stretches : List Stretch) (line : ℕ) → Decided (IsHandedOver stretches line)
handed stretches line = turned
    (λ (s : Some' (λ (a : Stretch). Some' (Meets a) stretches) stretches). record { before = s.it; behind = s.holds.it; ends = s.there; begins = s.holds.there; track = s.holds.holds.0; end = s.holds.holds.1.0; begin = s.holds.holds.1.1 })
    (λ h. record { it = h.before; there = h.ends; holds = record { it = h.behind; there = h.begins; holds = (h.track, (h.end, h.begin)) } })
    (one_of (λ (a : Stretch). Some' (Meets a) stretches) (λ a. one_of (Meets a) (λ b. both (same a.track b.track) (both (same a.right line) (same b.left (line + 1)))) stretches) stretches)
  where
    Meets : Stretch → Stretch → Type 0
    Meets a b = (a.track ≡ b.track) × ((a.right ≡ line) × (b.left ≡ line + 1))

-- ---- the spaces

space : (p : Placement) (pins : Pins) (stretches : List Stretch) (line : ℕ) → (n : ℕ) × IsSpace p pins stretches line n
space p pins stretches line = elim (handed stretches line) [
  | inl h ↦ (14, inl (h, refl))
  | inr none ↦ elim (beside p pins line) [
    | inl h ↦ (11, inr (none, inl (h, refl)))
    | inr other ↦ (8, inr (none, inr (other, refl)))
  ]
]

pub some_spaces : (p : Placement) (pins : Pins) (stretches : List Stretch) → (spaces : List ℕ) × AreSpaces p pins stretches spaces
some_spaces p pins stretches = (
  spaces,
  record {
    count = length-map-range_with_len at 0 lines;
    each = λ line n e.
        let short : line < length spaces = slice_get_within spaces line n e in
        let is : at line ≡ n = sym (get_or-map-range_with_len at 0 lines line line 0 (omega (arith, short, length-map-range_with_len at 0 lines)) (omega arith)) ∙ get_or_from_slice_get spaces line n 0 e in
        subst (IsSpace p pins stretches line) is (space p pins stretches line).1;
  },
)
  where
    lines : ℕ
    lines = 2 * length p.units

    at : ℕ → ℕ
    at line = (space p pins stretches line).0

    spaces : List ℕ
    spaces = map at (range_with_len 0 lines)

-- two spaces from one line to the next are the same
pub one_space : (p : Placement) (pins : Pins) (stretches : List Stretch) (line m n : ℕ) → IsSpace p pins stretches line m → IsSpace p pins stretches line n → m ≡ n
one_space p pins stretches line m n (inl a) (inl b) = a.1 ∙ sym b.1
one_space p pins stretches line m n (inl a) (inr b) = absurd (b.0 a.0)
one_space p pins stretches line m n (inr a) (inl b) = absurd (a.0 b.0)
one_space p pins stretches line m n (inr a) (inr b) = go a.1 b.1
  where
    Rest : ℕ → Type 0
    Rest k = (IsBesideContact p pins line × (k ≡ 11)) ⊎ ((IsBesideContact p pins line → ⊥) × (k ≡ 8))

    go : Rest m → Rest n → m ≡ n
    go (inl x) (inl y) = x.1 ∙ sym y.1
    go (inl x) (inr y) = absurd (y.0 x.0)
    go (inr x) (inl y) = absurd (x.0 y.0)
    go (inr x) (inr y) = x.1 ∙ sym y.1
