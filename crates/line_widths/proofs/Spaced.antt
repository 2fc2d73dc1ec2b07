-- The least lines stand one space after the other.
use Rattle.std.proofs.Common.{ℕ, zero, suc, ◌≡◌, ◌+◌, ◌-◌, ◌*◌, ◌<◌, ◌≤◌, ◌⊎◌, List, length, map, take, sum, get_or, inl, inr, refl, sym, ap, ◌∙◌, arith, Contains}
use Rattle.std.specs.List.{range_with_len}
use Rattle.std.proofs.lemmas.Bool.{cases_eq, cases_lt}
use Rattle.std.proofs.lemmas.Grind.{same_number_lists}
use Rattle.std.proofs.lemmas.List.{get_or_past, take_all}
use Rattle.std.proofs.lemmas.List.FromFn.{length-map-range_with_len, get_or-map-range_with_len}
use Rattle.std.proofs.lemmas.List.Sums.{sum_by_more}
use Rattle.std.proofs.lemmas.Option.{slice_get_within, slice_get-get_or}
use Rattle.cell_num.specs.declared.net.Pins.{Pins}
use Rattle.row_place.specs.declared.placement.Placement.{Placement}
use Rattle.row_place.specs.declared.placement.UnitKind.TheVariants.{Column}
use Rattle.row_compact.specs.declared.distance.Distances.{Distances}
use Rattle.row_compact.specs.Allowed.{Stretch, HasContact, AreAllowed, AreDistances}
use Rattle.row_compact.specs.Solution.{x_of, IsSolution, IsLeast}
use Rattle.line_widths.specs.Spaces.{IsHandedOver, IsBesideContact, IsSpace, AreSpaces}
use Rattle.line_widths.proofs.Found.{one_space}

abbrev after : List ℕ → ℕ → ℕ
after spaces line = 8 + sum (take line spaces)

next_after : (spaces : List ℕ) (line : ℕ) → line < length spaces → after spaces (line + 1) ≡ after spaces line + get_or spaces line 0
next_after spaces line short = omega (arith, sum_by_more (λ x. x) spaces line 0 short)

-- what a space is, by the cases of its definition
record Asks (p : Placement) (pins : Pins) (stretches : List Stretch) (line space : ℕ) : Type 0 where
  pub some : 8 ≤ space
  pub contact : IsBesideContact p pins line → 11 ≤ space
  pub handed : IsHandedOver stretches line → 14 ≤ space
  -- positions that the row allows keep it
  pub kept : (xs : List ℕ) → AreAllowed p pins stretches xs → line < 2 * length p.units → x_of xs line + space ≤ x_of xs (line + 1)

asks : (p : Placement) (pins : Pins) (stretches : List Stretch) (line space : ℕ) → IsSpace p pins stretches line space → Asks p pins stretches line space
asks p pins stretches line space (inl (over, is)) = record {
  some = omega (arith, is);
  contact = λ _. omega (arith, is);
  handed = λ _. omega (arith, is);
  kept = λ xs ok short. omega (arith, is, ap (x_of xs) over.end, ap (x_of xs) over.begin, ok.apart over.before over.behind over.ends over.begins over.track (omega (arith, over.end, over.begin)));
}
asks p pins stretches line space (inr (none, inl (beside, is))) = record {
  some = omega (arith, is);
  contact = λ _. omega (arith, is);
  handed = λ h. absurd (none h);
  kept = λ xs ok short. by xs ok beside.contact;
}
  where
    by : (xs : List ℕ) → AreAllowed p pins stretches xs → ((line ≡ 2 * beside.unit) × HasContact p pins (2 * beside.unit)) ⊎ ((line ≡ 2 * beside.unit + 1) × HasContact p pins (2 * beside.unit + 2)) → x_of xs line + space ≤ x_of xs (line + 1)
    by xs ok (inl h) = omega (arith, is, ap (x_of xs) h.0, ap (λ n. x_of xs (n + 1)) h.0, ok.left beside.unit beside.column h.1)
    by xs ok (inr h) =
        let e : ◌≡◌ {A = ℕ} (line + 1) (2 * beside.unit + 2) = let l : line ≡ 2 * beside.unit + 1 = h.0 in omega (arith, l) in
        omega (arith, is, ap (x_of xs) h.0, ap (x_of xs) e, ok.right beside.unit beside.column h.1)
asks p pins stretches line space (inr (none, inr (other, is))) = record {
  some = omega (arith, is);
  contact = λ h. absurd (other h);
  handed = λ h. absurd (none h);
  kept = λ xs ok short. omega (arith, is, ok.next line short);
}

module _ (p : Placement) (pins : Pins) (stretches : List Stretch) (spaces : List ℕ) (are : AreSpaces p pins stretches spaces) where
  at : (line : ℕ) → line < 2 * length p.units → Asks p pins stretches line (get_or spaces line 0)
  at line short = asks p pins stretches line (get_or spaces line 0) (are.each line (get_or spaces line 0) (slice_get-get_or spaces line 0 (omega (arith, short, are.count))))

  on : (line : ℕ) → line < 2 * length p.units → after spaces (line + 1) ≡ after spaces line + get_or spaces line 0
  on line short = next_after spaces line (omega (arith, short, are.count))

  further : (line k : ℕ) → line + k ≤ 2 * length p.units → after spaces line + 8 * k ≤ after spaces (line + k)
  further line zero within = let e : ◌≡◌ {A = ℕ} (line + 0) line = omega arith in omega (arith, ap (after spaces) e)
  further line (suc k) within =
      let e : ◌≡◌ {A = ℕ} (line + suc k) (line + k + 1) = omega arith in
      omega (arith, ap (after spaces) e, on (line + k) (omega (arith, within)), (at (line + k) (omega (arith, within))).some, further line k (omega (arith, within)))

  abbrev stepped : List ℕ
  stepped = map (after spaces) (range_with_len 0 (2 * length p.units + 1))

  stepped_at : (line : ℕ) → line ≤ 2 * length p.units → x_of stepped line ≡ after spaces line
  stepped_at line within = get_or-map-range_with_len (after spaces) 0 (2 * length p.units + 1) line line 0 (omega (arith, within)) (omega arith)

  -- the row allows positions that are one space apart, where it allows any
  allowed : (xs : List ℕ) → AreAllowed p pins stretches xs → AreAllowed p pins stretches stepped
  allowed xs ok = record {
    lines = length-map-range_with_len (after spaces) 0 (2 * length p.units + 1);
    first = omega (arith, stepped_at 0 (omega arith));
    next = λ line short. omega (arith, stepped_at line (omega (arith, short)), stepped_at (line + 1) (omega (arith, short)), on line short, (at line short).some);
    left = λ unit e h.
        let short : unit < length p.units = slice_get_within p.units unit Column e in
        let asked : 11 ≤ get_or spaces (2 * unit) 0 = (at (2 * unit) (omega (arith, short))).contact (record { unit = unit; column = e; contact = inl (refl, h) }) in
        omega (arith, stepped_at (2 * unit) (omega (arith, short)), stepped_at (2 * unit + 1) (omega (arith, short)), on (2 * unit) (omega (arith, short)), asked);
    right = λ unit e h.
        let short : unit < length p.units = slice_get_within p.units unit Column e in
        let asked : 11 ≤ get_or spaces (2 * unit + 1) 0 = (at (2 * unit + 1) (omega (arith, short))).contact (record { unit = unit; column = e; contact = inr (refl, h) }) in
        let e2 : ◌≡◌ {A = ℕ} (2 * unit + 1 + 1) (2 * unit + 2) = omega arith in
        omega (arith, stepped_at (2 * unit + 1) (omega (arith, short)), stepped_at (2 * unit + 2) (omega (arith, short)), on (2 * unit + 1) (omega (arith, short)), ap (after spaces) e2, asked);
    apart = apart;
  }
    where
      apart : (a b : Stretch) → Contains stretches a → Contains stretches b → a.track ≡ b.track → a.right < b.left → x_of stepped a.right + 14 ≤ x_of stepped b.left
      apart a b la lb same less = elim (cases_lt (2 * length p.units) b.left) [
        | inl beyond ↦ absurd (omega (arith, ok.apart a b la lb same less, get_or_past xs b.left 0 (omega (arith, ok.lines, beyond))))
        | inr within ↦ elim (cases_eq (a.right + 1) b.left) [
          | inl next ↦
              let asked : 14 ≤ get_or spaces a.right 0 = (at a.right (omega (arith, next, within))).handed (record { before = a; behind = b; ends = la; begins = lb; track = same; end = refl; begin = sym next }) in
              omega (arith, stepped_at a.right (omega (arith, next, within)), stepped_at b.left within, on a.right (omega (arith, next, within)), ap (after spaces) next, asked)
          | inr other ↦
              let e : ◌≡◌ {A = ℕ} (a.right + 2 + (b.left - (a.right + 2))) b.left = omega (arith, less, other) in
              let near : after spaces a.right + 8 * 2 ≤ after spaces (a.right + 2) = further a.right 2 (omega (arith, less, other, within)) in
              omega (arith, stepped_at a.right (omega (arith, less, within)), stepped_at b.left within, near, further (a.right + 2) (b.left - (a.right + 2)) (omega (arith, less, other, within)), ap (after spaces) e)
        ]
      ]

  module _ (d : Distances) (xs : List ℕ) (are_distances : AreDistances p pins stretches d) (least : IsLeast d xs) where
    ok : AreAllowed p pins stretches xs
    ok = (are_distances xs).0 least.solution

    above : (line : ℕ) → line ≤ 2 * length p.units → after spaces line ≤ x_of xs line
    above zero within = omega (arith, ok.first)
    above (suc line) within =
        let e : ◌≡◌ {A = ℕ} (suc line) (line + 1) = omega arith in
        omega (arith, ap (after spaces) e, ap (x_of xs) e, on line (omega (arith, within)), (at line (omega (arith, within))).kept xs ok (omega (arith, within)), above line (omega (arith, within)))

    below : (line : ℕ) → line ≤ 2 * length p.units → x_of xs line ≤ after spaces line
    below line within =
        let s : IsSolution d stepped = (are_distances stepped).1 (allowed xs ok) in
        omega (arith, least.least stepped s line (omega (arith, within, ok.lines, least.solution.lines)), stepped_at line within)

    pub spaced : (line : ℕ) → line ≤ 2 * length p.units → x_of xs line ≡ 8 + sum (take line spaces)
    spaced line within = omega (arith, above line within, below line within)

    pub last : x_of xs (2 * length p.units) ≡ 8 + sum spaces
    last = spaced (2 * length p.units) (omega arith) ∙ ap (λ (ys : List ℕ). 8 + sum ys) (take_all (2 * length p.units) spaces (omega (arith, are.count)))

pub one_list : (p : Placement) (pins : Pins) (stretches : List Stretch) (a b : List ℕ) → AreSpaces p pins stretches a → AreSpaces p pins stretches b → a ≡ b
one_list p pins stretches a b are also = same_number_lists a b (are.count ∙ sym also.count) (λ line short.
    one_space p pins stretches line (get_or a line 0) (get_or b line 0)
    (are.each line (get_or a line 0) (slice_get-get_or a line 0 short))
    (also.each line (get_or b line 0) (slice_get-get_or b line 0 (omega (arith, short, are.count, also.count)))))
