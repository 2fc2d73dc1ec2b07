-- Lines at even distances are spread, and every legal routing allows them.
use Rattle.std.proofs.Common.{ℕ, ◌≡◌, ◌+◌, ◌*◌, ◌<◌, ◌≤◌, List, map, get_or, length, ap, ◌∙◌, arith, Contains}
use Rattle.std.specs.List.{range_with_len}
use Rattle.std.proofs.lemmas.List.{length-map}
use Rattle.std.proofs.lemmas.List.FromFn.{length-range_with_len, get_or-map-range_with_len}
use Rattle.std.proofs.lemmas.Option.{slice_get_within}
use Rattle.cell_num.specs.declared.net.Pins.{Pins}
use Rattle.cell_num.proofs.In.{Image, in_map}
use Rattle.row_place.specs.declared.placement.Placement.{Placement}
use Rattle.row_place.specs.declared.placement.UnitKind.TheVariants.{Column}
use Rattle.row_place.specs.Places.{IsPlacement}
use Rattle.channel_route.specs.declared.routing.Routing.{Routing}
use Rattle.channel_route.specs.Routing.{IsLegal}
use Rattle.channel_route.proofs.LegalWiring.{legal_wiring}
use Rattle.row_compact.specs.Allowed.{Stretch, stretch_of, stretches_of, AreAllowed}
use Rattle.row_compact.specs.Solution.{x_of, AreSpread}
use Rattle.row_compact.proofs.Within.{wired_left}

even_x : (lines : ℕ) (xs : List ℕ) → xs ≡ map (λ line. 8 + 14 * line) (range_with_len 0 lines) → (line : ℕ) → line < lines → x_of xs line ≡ 8 + 14 * line
even_x lines xs e line short = ap (λ (ys : List ℕ). get_or ys line 0) e ∙ get_or-map-range_with_len (λ n. 8 + 14 * n) 0 lines line line 0 short (omega arith)

pub even_spread : (lines : ℕ) (xs : List ℕ) → xs ≡ map (λ line. 8 + 14 * line) (range_with_len 0 lines) → AreSpread lines xs
even_spread lines xs e = record {
  count = ap length e ∙ length-map (range_with_len 0 lines) (λ line. 8 + 14 * line) ∙ length-range_with_len 0 lines;
  first = λ some. omega (arith, even_x lines xs e 0 some);
  next = λ line short. omega (arith, even_x lines xs e line (omega (arith, short)), even_x lines xs e (line + 1) short);
}

pub even_allowed : (lines : ℕ) (xs : List ℕ) → xs ≡ map (λ line. 8 + 14 * line) (range_with_len 0 lines) → (p : Placement) (pins : Pins) (r : Routing) → IsPlacement p → IsLegal p pins r → lines ≡ 2 * length p.units + 1 → AreAllowed p pins (stretches_of r.trunks) xs
even_allowed lines xs e p pins r is legal count = record {
  lines = ap length e ∙ length-map (range_with_len 0 lines) (λ line. 8 + 14 * line) ∙ length-range_with_len 0 lines ∙ count;
  first = omega (arith, at 0 (omega (arith, count)));
  next = λ line short. omega (arith, at line (omega (arith, short, count)), at (line + 1) (omega (arith, short, count)));
  left = λ unit e h. let short = slice_get_within p.units unit Column e in omega (arith, at (2 * unit) (omega (arith, short, count)), at (2 * unit + 1) (omega (arith, short, count)));
  right = λ unit e h. let short = slice_get_within p.units unit Column e in omega (arith, at (2 * unit + 1) (omega (arith, short, count)), at (2 * unit + 2) (omega (arith, short, count)));
  apart = apart;
}
  where
    at : (line : ℕ) → line < lines → x_of xs line ≡ 8 + 14 * line
    at line short = even_x lines xs e line short

    apart : (a b : Stretch) → Contains (stretches_of r.trunks) a → Contains (stretches_of r.trunks) b → a.track ≡ b.track → a.right < b.left → x_of xs a.right + 14 ≤ x_of xs b.left
    apart a b la lb same less =
        let j : Image stretch_of r.trunks b = in_map stretch_of r.trunks b lb in
        let left' : j.of.left ≡ b.left = ap (λ (z : Stretch). z.left) j.is in
        let last : j.of.left ≤ 2 * length p.units = wired_left p pins r is (legal_wiring p pins r legal) j.of j.listed in
        omega (arith, less, at a.right (omega (arith, last, left', less, count)), at b.left (omega (arith, last, left', count)))
