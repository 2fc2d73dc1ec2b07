-- The spaces of a row whose nets go straight, from its lines.
use Rattle.std.proofs.Common.{ℕ, zero, suc, ◌≡◌, ◌+◌, ◌*◌, ◌/◌, ◌≤◌, ◌⊎◌, ◌++◌, ◌==◌, ◌&&◌, ◌||◌, Bool, true, false, cond, List, [], ◌∷◌, Option, Some, None, length, length-append, slice_get, sum, inl, inr, refl, sym, ap, subst, arith, All, Contains, ◌∙◌}
use Rattle.std.specs.List.{list_any}
use Rattle.std.proofs.lemmas.Bool.{cases_eq, and_parts, and_from, or_left, or_right, or_cases, eqb-true, eq-eqb}
use Rattle.std.proofs.lemmas.List.Elements.{All-contains}
use Rattle.std.proofs.lemmas.List.Sums.{sum_by-cons}
use Rattle.cell_num.specs.declared.net.NetNo.{NetNo}
use Rattle.cell_num.specs.declared.net.Pins.{Pins}
use Rattle.cell_num.proofs.Lists.{contains_get, some_same}
use Rattle.cell_num.proofs.In.{Image, in_map, contains_map}
use Rattle.cell_num.proofs.Pairs.{Some', test_finds, test_there}
use Rattle.row_model.specs.declared.column.Column.{Column}
use Rattle.row_model.specs.Arrangement.{IsColumn}
use Rattle.row_place.specs.declared.placement.Placement.{Placement}
use Rattle.row_place.specs.declared.placement.UnitKind.{UnitKind}
use Rattle.row_place.specs.declared.placement.UnitKind.TheVariants.{Column as ColumnUnit, Gap}
use Rattle.row_place.specs.Places.{placement_of}
use Rattle.channel_route.specs.declared.routing.Trunk.{Trunk}
use Rattle.row_compact.specs.Allowed.{HasContact, Stretch, stretch_of, stretches_of}
use Rattle.track_ways.specs.declared.line.Line.{Line}
use Rattle.track_ways.specs.Lines.{has_place, is_ahead, with_line}
use Rattle.track_ways.specs.Channel.{AreLinesOf, AreTrunks, IsPlain}
use Rattle.track_ways.specs.Rows.{lines_of_row}
use Rattle.track_ways.proofs.Holding.{Split}
use Rattle.track_ways.proofs.LineParts.{ahead_append, or_none, same_tests}
use Rattle.track_ways.proofs.Placed.{lines_placed}
use Rattle.line_widths.specs.Borders.{Border, border_of, borders_of, has_gate, have_common, space_between, spaces_from, spaces_of}
use Rattle.line_widths.specs.Spaces.{AreSpaces, IsBesideContact, IsHandedOver, IsSpace}
use Rattle.line_widths.proofs.AtLine.{begun_from, begun_there, contact_from, contact_there, ended_from, ended_there}
use Rattle.line_widths.proofs.UnitLines.{AreLines, MiddleOf, is_column, line_count, middle_of, node_gate, row_lines}

-- ---- numbers in both of two lists

record Common (xs ys : List ℕ) : Type 0 where
  pub it : ℕ
  pub left : Contains xs it
  pub right : Contains ys it

common_from : (xs ys : List ℕ) → have_common xs ys ≡ true → Common xs ys
common_from xs ys e =
    let x : Some' (λ x. list_any (λ y. x == y) ys ≡ true) xs = test_finds (λ x. list_any (λ y. x == y) ys) xs e in
    let y : Some' (λ y. (x.it == y) ≡ true) ys = test_finds (λ y. x.it == y) ys x.holds in
    record { it = x.it; left = x.there; right = subst (λ n. Contains ys n) (sym (eqb-true x.it y.it y.holds)) y.there }

common_there : (xs ys : List ℕ) (n : ℕ) → Contains xs n → Contains ys n → have_common xs ys ≡ true
common_there xs ys n left right = test_there (λ x. list_any (λ y. x == y) ys) xs n left (test_there (λ y. n == y) ys n right (eq-eqb n n refl))

-- ---- a unit and its lines

has_gate_some : (o : Option NetNo) → o ≡ None → has_gate o ≡ true → ⊥
has_gate_some o none e = absurd (let f : has_gate o ≡ false = ap has_gate none in cc)

column_from : (kind : UnitKind) → is_column kind ≡ true → kind ≡ ColumnUnit
column_from ColumnUnit e = refl
column_from Gap e = absurd cc

module _ (p : Placement) (pins : Pins) (track : NetNo → ℕ) (trunks : List Trunk) (are : AreTrunks p pins track trunks)
    (lines : List Line) (h : AreLinesOf p lines) (units : AreLines p.units lines) where
  plain : (k : ℕ) (line : Line) → slice_get lines k ≡ Some line → IsPlain line
  plain k line e = All-contains IsPlain lines line h.plain (contains_get lines k line e)

  -- ---- two neighbours

  module _ (k : ℕ) (front : List Line) (a b : Line) (rest : List Line) (sa : Split lines k front a (b ∷ rest)) (sb : Split lines (k + 1) (front ++ a ∷ []) b rest)
      (ga : slice_get lines k ≡ Some a) (gb : slice_get lines (k + 1) ≡ Some b) where
    abbrev first : Border
    first = border_of pins track (is_ahead front) a (is_ahead (b ∷ rest))

    abbrev second : Border
    second = border_of pins track (is_ahead (front ++ a ∷ [])) b (is_ahead rest)

    handed_from : have_common first.ended second.begun ≡ true → IsHandedOver (stretches_of trunks) k
    handed_from e =
        let c : Common first.ended second.begun = common_from first.ended second.begun e in
        let t = ended_from p pins track trunks are lines h k front a (b ∷ rest) sa (plain k a ga) c.it c.left in
        let u = begun_from p pins track trunks are lines h (k + 1) (front ++ a ∷ []) b rest sb (plain (k + 1) b gb) c.it c.right in
        record {
          before = stretch_of t.trunk;
          behind = stretch_of u.trunk;
          ends = contains_map stretch_of trunks t.trunk t.there;
          begins = contains_map stretch_of trunks u.trunk u.there;
          track = t.track' ∙ sym u.track';
          end = t.at;
          begin = u.at;
        }

    handed_there : IsHandedOver (stretches_of trunks) k → have_common first.ended second.begun ≡ true
    handed_there o =
        let t : Image stretch_of trunks o.before = in_map stretch_of trunks o.before o.ends in
        let u : Image stretch_of trunks o.behind = in_map stretch_of trunks o.behind o.begins in
        let same : t.of.track ≡ u.of.track = ap (λ (z : Stretch). z.track) t.is ∙ o.track ∙ sym (ap (λ (z : Stretch). z.track) u.is) in
        common_there first.ended second.begun t.of.track
        (ended_there p pins track trunks are lines h k front a (b ∷ rest) sa (plain k a ga) t.of t.listed (ap (λ (z : Stretch). z.right) t.is ∙ o.end))
        (subst (λ m. Contains second.begun m) (sym same)
        (begun_there p pins track trunks are lines h (k + 1) (front ++ a ∷ []) b rest sb (plain (k + 1) b gb) u.of u.listed (ap (λ (z : Stretch). z.left) u.is ∙ o.begin)))

    -- a line with a gate is in the middle of a column
    column_of_gate : (n : ℕ) (line : Line) → slice_get lines n ≡ Some line → has_gate line.gate ≡ true → (unit : ℕ) × (n ≡ 2 * unit + 1) × (slice_get p.units unit ≡ Some ColumnUnit)
    column_of_gate n line e gate = elim (cases_eq n (2 * (n / 2))) [
      | inl even ↦ absurd (has_gate_some line.gate (node_gate p.units lines units (n / 2) line (subst (λ m. slice_get lines m ≡ Some line) even e)) gate)
      | inr other ↦
          let odd : n ≡ 2 * (n / 2) + 1 = omega (arith, other) in
          let m : MiddleOf p.units (n / 2) line = middle_of p.units lines units (n / 2) line (subst (λ m. slice_get lines m ≡ Some line) odd e) in
          (n / 2, odd, m.there ∙ ap (λ z. Some z) (column_from m.kind (sym m.middle.gate ∙ gate)))
    ]

    gate_of_column : (n unit : ℕ) (line : Line) → slice_get lines n ≡ Some line → n ≡ 2 * unit + 1 → slice_get p.units unit ≡ Some ColumnUnit → has_gate line.gate ≡ true
    gate_of_column n unit line e odd column =
        let m : MiddleOf p.units unit line = middle_of p.units lines units unit line (subst (λ m. slice_get lines m ≡ Some line) odd e) in
        m.middle.gate ∙ ap is_column (some_same m.kind ColumnUnit (sym m.there ∙ column))

    contact_first : first.contact ≡ true → HasContact p pins k
    contact_first c = contact_from p pins track trunks are lines h k front a (b ∷ rest) sa (plain k a ga) c

    contact_second : second.contact ≡ true → HasContact p pins (k + 1)
    contact_second c = contact_from p pins track trunks are lines h (k + 1) (front ++ a ∷ []) b rest sb (plain (k + 1) b gb) c

    beside_from : ((first.gate && second.contact) || (first.contact && second.gate)) ≡ true → IsBesideContact p pins k
    beside_from e = elim (or_cases (first.gate && second.contact) (first.contact && second.gate) e) [
      | inl behind ↦
          let both : (first.gate ≡ true) × (second.contact ≡ true) = and_parts first.gate second.contact behind in
          let c = column_of_gate k a ga both.0 in
          let next : ◌≡◌ {A = ℕ} (k + 1) (2 * c.0 + 2) = let odd : k ≡ 2 * c.0 + 1 = c.1 in omega (arith, odd) in
          record { unit = c.0; column = c.2; contact = inr (c.1, subst (λ n. HasContact p pins n) next (contact_second both.1)) }
      | inr before ↦
          let both : (first.contact ≡ true) × (second.gate ≡ true) = and_parts first.contact second.gate before in
          let c = column_of_gate (k + 1) b gb both.1 in
          let even : k ≡ 2 * c.0 = let odd : k + 1 ≡ 2 * c.0 + 1 = c.1 in omega (arith, odd) in
          record { unit = c.0; column = c.2; contact = inl (even, subst (λ n. HasContact p pins n) even (contact_first both.0)) }
    ]

    beside_there : IsBesideContact p pins k → ((first.gate && second.contact) || (first.contact && second.gate)) ≡ true
    beside_there c = by c.contact
      where
        by : ((k ≡ 2 * c.unit) × HasContact p pins (2 * c.unit)) ⊎ ((k ≡ 2 * c.unit + 1) × HasContact p pins (2 * c.unit + 2)) → ((first.gate && second.contact) || (first.contact && second.gate)) ≡ true
        by (inl (even, contact)) = or_right (first.gate && second.contact) _ (and_from first.contact second.gate
            (contact_there p pins track trunks are lines h k front a (b ∷ rest) sa (plain k a ga) (subst (λ n. HasContact p pins n) (sym even) contact))
            (gate_of_column (k + 1) c.unit b gb (omega (arith, even)) c.column))
        by (inr (odd, contact)) =
            let next : ◌≡◌ {A = ℕ} (2 * c.unit + 2) (k + 1) = omega (arith, odd) in
            or_left (first.gate && second.contact) _ (and_from first.gate second.contact
            (gate_of_column k c.unit a ga odd c.column)
            (contact_there p pins track trunks are lines h (k + 1) (front ++ a ∷ []) b rest sb (plain (k + 1) b gb) (subst (λ n. HasContact p pins n) next contact)))

    is_space : IsSpace p pins (stretches_of trunks) k (space_between first second)
    is_space = by (have_common first.ended second.begun) refl
      where
        none : have_common first.ended second.begun ≡ false → IsHandedOver (stretches_of trunks) k → ⊥
        none e o = absurd (let f : have_common first.ended second.begun ≡ true = handed_there o in cc)

        apart : ((first.gate && second.contact) || (first.contact && second.gate)) ≡ false → IsBesideContact p pins k → ⊥
        apart e c = absurd (let f : ((first.gate && second.contact) || (first.contact && second.gate)) ≡ true = beside_there c in cc)

        Space : Bool → Bool → Type 0
        Space over beside = IsSpace p pins (stretches_of trunks) k (cond over 14 (cond beside 11 8))

        rest' : have_common first.ended second.begun ≡ false → (t : Bool) → ((first.gate && second.contact) || (first.contact && second.gate)) ≡ t → Space false t
        rest' e true f = inr (none e, inl (beside_from f, refl))
        rest' e false f = inr (none e, inr (apart f, refl))

        by : (t : Bool) → have_common first.ended second.begun ≡ t → Space (have_common first.ended second.begun) ((first.gate && second.contact) || (first.contact && second.gate))
        by true e = subst (λ (t : Bool). Space t ((first.gate && second.contact) || (first.contact && second.gate))) (sym e) (inl (handed_from e, refl))
        by false e = subst (λ (t : Bool). Space t ((first.gate && second.contact) || (first.contact && second.gate))) (sym e) (rest' e ((first.gate && second.contact) || (first.contact && second.gate)) refl)

  -- ---- all neighbours

  push : (front : List Line) (line : Line) (rest : List Line) → front ++ line ∷ rest ≡ (front ++ line ∷ []) ++ rest
  push [] line rest = refl
  push (f ∷ front) line rest = ap (λ ls. f ∷ ls) (push front line rest)

  get_here : (front : List Line) (line : Line) (rest : List Line) → slice_get (front ++ line ∷ rest) (length front) ≡ Some line
  get_here [] line rest = refl
  get_here (f ∷ front) line rest = get_here front line rest

  -- no net has a place after the last line
  no_more : (rest : List Line) → ◌≡◌ {A = NetNo → Bool} (λ net. is_ahead rest net || false) (is_ahead rest)
  no_more rest = same_tests (λ net. is_ahead rest net || false) (is_ahead rest) (λ net. or_none (is_ahead rest net))

  seen : (front : List Line) (line : Line) → with_line (is_ahead front) line ≡ is_ahead (front ++ line ∷ [])
  seen front line = same_tests (with_line (is_ahead front) line) (is_ahead (front ++ line ∷ [])) (λ net. ap (λ t. is_ahead front net || t) (sym (or_none (has_place line net))) ∙ sym (ahead_append front (line ∷ []) net))

  abbrev borders : (NetNo → Bool) → List Line → List Border
  borders before rest = borders_of pins track before rest (λ net. false)

  each_space : (front : List Line) (a : Line) (rest : List Line) → lines ≡ front ++ a ∷ rest → (i space : ℕ) → slice_get (spaces_of (borders (is_ahead front) (a ∷ rest))) i ≡ Some space → IsSpace p pins (stretches_of trunks) (length front + i) space
  each_space front a [] is i space e = absurd (past e)
    where
      past : None ≡ Some space → ⊥
      past f = cc
  each_space front a (b ∷ rest) is zero space e =
      let z : length front ≡ length front + 0 = omega arith in
      subst (λ n. IsSpace p pins (stretches_of trunks) n space) z
      (subst (λ n. IsSpace p pins (stretches_of trunks) (length front) n) (same ∙ some_same _ space e) (is_space (length front) front a b rest sa sb ga gb))
    where
      count : length (front ++ a ∷ []) ≡ length front + 1
      count = length-append front (a ∷ [])

      on : lines ≡ (front ++ a ∷ []) ++ b ∷ rest
      on = is ∙ push front a (b ∷ rest)

      sa : Split lines (length front) front a (b ∷ rest)
      sa = record { is = is; count = refl }

      sb : Split lines (length front + 1) (front ++ a ∷ []) b rest
      sb = record { is = on; count = count }

      ga : slice_get lines (length front) ≡ Some a
      ga = subst (λ ls. slice_get ls (length front) ≡ Some a) (sym is) (get_here front a (b ∷ rest))

      gb : slice_get lines (length front + 1) ≡ Some b
      gb = subst (λ n. slice_get lines n ≡ Some b) count (subst (λ ls. slice_get ls (length (front ++ a ∷ [])) ≡ Some b) (sym on) (get_here (front ++ a ∷ []) b rest))

      same : space_between (border_of pins track (is_ahead front) a (is_ahead (b ∷ rest))) (border_of pins track (is_ahead (front ++ a ∷ [])) b (is_ahead rest))
          ≡ space_between (border_of pins track (is_ahead front) a (λ net. is_ahead (b ∷ rest) net || false)) (border_of pins track (with_line (is_ahead front) a) b (λ net. is_ahead rest net || false))
      same =
          ap (λ (t : NetNo → Bool). space_between (border_of pins track (is_ahead front) a t) (border_of pins track (is_ahead (front ++ a ∷ [])) b (is_ahead rest))) (sym (no_more (b ∷ rest)))
          ∙ ap (λ (t : NetNo → Bool). space_between (border_of pins track (is_ahead front) a (λ net. is_ahead (b ∷ rest) net || false)) (border_of pins track t b (is_ahead rest))) (sym (seen front a))
          ∙ ap (λ (t : NetNo → Bool). space_between (border_of pins track (is_ahead front) a (λ net. is_ahead (b ∷ rest) net || false)) (border_of pins track (with_line (is_ahead front) a) b t)) (sym (no_more rest))
  each_space front a (b ∷ rest) is (suc i) space e =
      let next : length (front ++ a ∷ []) + i ≡ length front + suc i = omega (arith, length-append front (a ∷ [])) in
      subst (λ n. IsSpace p pins (stretches_of trunks) n space) next
      (each_space (front ++ a ∷ []) b rest (is ∙ push front a (b ∷ rest)) i space
      (subst (λ (t : NetNo → Bool). slice_get (spaces_of (borders t (b ∷ rest))) i ≡ Some space) (seen front a) e))

  all_spaces : (ls : List Line) → lines ≡ ls → AreSpaces p pins (stretches_of trunks) (spaces_of (borders (is_ahead []) ls))
  all_spaces [] is = absurd (omega (arith, line_count p.units lines units, ap length is))
  all_spaces (a ∷ rest) is = record {
    count = omega (arith, line_count p.units lines units, ap length is, lengths (with_line (is_ahead []) a) (border_of pins track (is_ahead []) a (λ net. is_ahead rest net || false)) rest);
    each = λ line space e. subst (λ n. IsSpace p pins (stretches_of trunks) n space) (let z : 0 + line ≡ line = omega arith in z) (each_space [] a rest is line space e);
  }
    where
      lengths : (before : NetNo → Bool) (first : Border) (rest : List Line) → length (spaces_from first (borders before rest)) ≡ length rest
      lengths before first [] = refl
      lengths before first (b ∷ rest) = omega (arith, lengths (with_line before b) (border_of pins track before b (λ net. is_ahead rest net || false)) rest)

-- ---- the laws

pub by_lines : (row : List Column) (pins : Pins) (track : NetNo → ℕ) (trunks : List Trunk) → All IsColumn row → length row ≤ 32 → AreTrunks (placement_of row) pins track trunks →
    AreSpaces (placement_of row) pins (stretches_of trunks) (spaces_of (borders_of pins track (is_ahead []) (lines_of_row row) (λ net. false)))
by_lines row pins track trunks columns few are = all_spaces (placement_of row) pins track trunks are (lines_of_row row) (lines_placed row columns few) (row_lines None row columns) (lines_of_row row) refl

pub parted : (front : List Border) (line : Border) (rest : List Border) → sum (spaces_of (front ++ line ∷ rest)) ≡ sum (spaces_of (front ++ line ∷ [])) + sum (spaces_from line rest)
parted [] line rest = omega arith
parted (a ∷ front) line rest = from a front
  where
    from : (a : Border) (front : List Border) → sum (spaces_from a (front ++ line ∷ rest)) ≡ sum (spaces_from a (front ++ line ∷ [])) + sum (spaces_from line rest)
    from a [] = omega (arith, sum_by-cons (λ n. n) (space_between a line) (spaces_from line rest))
    from a (b ∷ front) = omega (arith, from b front, sum_by-cons (λ n. n) (space_between a b) (spaces_from b (front ++ line ∷ rest)), sum_by-cons (λ n. n) (space_between a b) (spaces_from b (front ++ line ∷ [])))
