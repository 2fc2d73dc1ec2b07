-- The squares of the taps among themselves: the same on each layer that they are on.
use Rattle.std.proofs.Common.{◌≡◌, ℕ, ◌+◌, ◌≤◌, pos, List, [], ◌∷◌, inl, inr, ◌⊎◌, refl, sym, subst, ◌∙◌, arith}
use Rattle.std.specs.List.{All, Contains}
use Rattle.std.proofs.lemmas.Int.{ints}
use Rattle.std.proofs.lemmas.List.Elements.{All-contains}
use Rattle.cell_num.proofs.In.{In, contains_in}
use Rattle.cell_num.proofs.Lists.{all_from_contains}
use Rattle.box_geom.specs.Rectangle.{Rectangle, Covers, IsProper}
use Rattle.box_geom.specs.Regions.{IsEmpty}
use Rattle.box_geom.specs.Touching.{Touch}
use Rattle.box_geom.specs.declared.layer.Layer.TheVariants.{Active}
use Rattle.box_geom.proofs.Meeting.{Beside, Stacked, touch_sides}
use Rattle.scmos_rules.specs.Conditions.{IsWide, IsSquare, Close, AreAlone}
use Rattle.scmos_rules.specs.Failing.{FailsSpacing}
use Rattle.scmos_rules.proofs.Spacings.{spacing_by_touch}
use Rattle.cell_draw.specs.Shapes.{around}
use Rattle.well_tap.specs.Measures.{TAP_SPACE}
use Rattle.well_tap.proofs.Tapping.{Tapping}

pub data Corner : Type 0 where
  first_low : Corner
  first_high : Corner
  last_low : Corner
  last_high : Corner

abbrev square : Tapping → ℕ → Corner → Rectangle
square g by first_low = (around Active g.first (pos 8) by).rect
square g by first_high = (around Active g.first (pos g.high) by).rect
square g by last_low = (around Active g.last (pos 8) by).rect
square g by last_high = (around Active g.last (pos g.high) by).rect

abbrev pub squares : Tapping → ℕ → List Rectangle
squares g by = square g by first_low ∷ square g by first_high ∷ square g by last_low ∷ square g by last_high ∷ []

corner_of : (g : Tapping) (by : ℕ) (r : Rectangle) → In (squares g by) r → (c : Corner) × (square g by c ≡ r)
corner_of g by r (inl is) = (first_low, is)
corner_of g by r (inr (inl is)) = (first_high, is)
corner_of g by r (inr (inr (inl is))) = (last_low, is)
corner_of g by r (inr (inr (inr (inl is)))) = (last_high, is)
corner_of g by r (inr (inr (inr (inr none)))) = absurd none

pub all_squares : (g : Tapping) (by : ℕ) (Q : Rectangle → Type 0) → ((c : Corner) → Q (square g by c)) → All Q (squares g by)
all_squares g by Q each = all_from_contains Q (squares g by) (λ r c. let o = corner_of g by r (contains_in (squares g by) r c) in subst Q o.1 (each o.0))

-- two that are close are one
lone : (g : Tapping) (by : ℕ) → by ≤ 5 → (c d : Corner) → Close 6 (square g by c) (square g by d) → square g by c ≡ square g by d
lone g by few c d = pair c d
  where
    apart_by : g.first + TAP_SPACE ≤ g.last
    apart_by = g.spread.apart

    tall : 84 ≤ g.high
    tall = let s = g.stacked in let t = g.top in omega (arith, s.n_edge, s.p_edge, s.n_row, s.p_row, t)

    pair : (c d : Corner) → Close 6 (square g by c) (square g by d) → square g by c ≡ square g by d
    pair first_low first_low k = refl
    pair first_low first_high k = absurd (omega (arith, ints, few, tall))
    pair first_low last_low k = absurd (omega (arith, ints, few, apart_by))
    pair first_low last_high k = absurd (omega (arith, ints, few, apart_by))
    pair first_high first_low k = absurd (omega (arith, ints, few, tall))
    pair first_high first_high k = refl
    pair first_high last_low k = absurd (omega (arith, ints, few, apart_by))
    pair first_high last_high k = absurd (omega (arith, ints, few, apart_by))
    pair last_low first_low k = absurd (omega (arith, ints, few, apart_by))
    pair last_low first_high k = absurd (omega (arith, ints, few, apart_by))
    pair last_low last_low k = refl
    pair last_low last_high k = absurd (omega (arith, ints, few, tall))
    pair last_high first_low k = absurd (omega (arith, ints, few, apart_by))
    pair last_high first_high k = absurd (omega (arith, ints, few, apart_by))
    pair last_high last_low k = absurd (omega (arith, ints, few, tall))
    pair last_high last_high k = refl

one_square : (g : Tapping) (by : ℕ) → by ≤ 5 → (a b : Rectangle) → Contains (squares g by) a → Contains (squares g by) b → Close 6 a b → a ≡ b
one_square g by few a b la lb close =
    let o = corner_of g by a (contains_in (squares g by) a la) in
    let p = corner_of g by b (contains_in (squares g by) b lb) in
    sym o.1 ∙ (lone g by few o.0 p.0 (subst (λ r. Close 6 (square g by o.0) r) (sym p.1) (subst (λ r. Close 6 r b) (sym o.1) close)) ∙ p.1)

itself : (r : Rectangle) → IsProper r → Touch r r
itself r p = record { one = record { x = r.x1; y = r.y1 }; other = record { x = r.x1; y = r.y1 }; in_a = omega (arith, ints); in_b = omega (arith, ints); meet = inl refl }

close_sides : (a b : Rectangle) → Beside a b ⊎ Stacked a b → Close 6 a b
close_sides a b (inl t) = omega (arith, ints)
close_sides a b (inr t) = omega (arith, ints)

proper : (g : Tapping) (by : ℕ) → 1 ≤ by → (c : Corner) → IsProper (square g by c)
proper g by some first_low = omega (arith, ints, some)
proper g by some first_high = omega (arith, ints, some)
proper g by some last_low = omega (arith, ints, some)
proper g by some last_high = omega (arith, ints, some)

pub wide : (g : Tapping) (c : Corner) → IsWide 6 (square g 5 c)
wide g first_low = omega (arith, ints)
wide g first_high = omega (arith, ints)
wide g last_low = omega (arith, ints)
wide g last_high = omega (arith, ints)

pub exact : (g : Tapping) (c : Corner) → IsSquare 4 (square g 2 c)
exact g first_low = record { wide = omega (arith, ints); high = omega (arith, ints) }
exact g first_high = record { wide = omega (arith, ints); high = omega (arith, ints) }
exact g last_low = record { wide = omega (arith, ints); high = omega (arith, ints) }
exact g last_high = record { wide = omega (arith, ints); high = omega (arith, ints) }

pub spaced : (g : Tapping) (by : ℕ) → 1 ≤ by → by ≤ 5 → IsEmpty (FailsSpacing (Covers (squares g by)) 6)
spaced g by some few = spacing_by_touch (squares g by) 6 (record {
  touch = λ a b la lb close. subst (Touch a) (one_square g by few a b la lb close) (itself a (All-contains IsProper (squares g by) a (all_squares g by IsProper (proper g by some)) la));
})

pub alone : (g : Tapping) (by : ℕ) → by ≤ 5 → AreAlone (squares g by)
alone g by few = record { same = λ a b la lb touch. one_square g by few a b la lb (close_sides a b (touch_sides a b touch)) }
