-- A move that is composed of two is one after the other.
use Rattle.std.proofs.Common.{◌≡◌, ◌+ℤ◌, ◌*ℤ◌, pos, neg_ℤ, ℤ, Bool, true, false, refl, sym, ap, ◌∙◌, arith}
use Rattle.std.proofs.lemmas.Int.{ints}
use Rattle.gds_area.specs.declared.placement.Turn.{Turn}
use Rattle.gds_area.specs.declared.placement.Turn.TheVariants as turn
use Rattle.gds_area.specs.declared.placement.Vector.{Vector}
use Rattle.gds_area.specs.declared.placement.Move.{Move}
use Rattle.gds_area.specs.declared.area.Area.{Area}
use Rattle.gds_area.specs.Moves.{mirrored, turned, faced, moved, moved_area, first_corner, last_corner, between_corners, quarter_more, both_turns, seen_turn, differ, offset_of, composed}

back : (z : ℤ) → neg_ℤ (neg_ℤ z) ≡ z
back z = omega (arith, ints)

-- ---- how it faces

quarter_after : (t : Turn) (v : Vector) → turned (quarter_more t) v ≡ turned turn.Quarter (turned t v)
quarter_after turn.Zero v = refl
quarter_after turn.Quarter v = refl
quarter_after turn.Half v = rw (back v.y) refl
quarter_after turn.ThreeQuarters v = rw (back v.x) refl

half_after : (t : Turn) (v : Vector) → turned (quarter_more (quarter_more t)) v ≡ turned turn.Half (turned t v)
half_after t v = quarter_after (quarter_more t) v ∙ ap (turned turn.Quarter) (quarter_after t v)

turns_after : (s t : Turn) (v : Vector) → turned (both_turns s t) v ≡ turned s (turned t v)
turns_after turn.Zero t v = refl
turns_after turn.Quarter t v = quarter_after t v
turns_after turn.Half t v = half_after t v
turns_after turn.ThreeQuarters t v =
    quarter_after (quarter_more (quarter_more t)) v
    ∙ (ap (turned turn.Quarter) (half_after t v) ∙ rw (back (turned t v).y) refl)

seen_after : (b : Bool) (t : Turn) (v : Vector) → turned (seen_turn b t) (mirrored b v) ≡ mirrored b (turned t v)
seen_after false t v = refl
seen_after true turn.Zero v = refl
seen_after true turn.Quarter v = refl
seen_after true turn.Half v = refl
seen_after true turn.ThreeQuarters v = rw (back v.x, back v.y) refl

mirrors_after : (a b : Bool) (v : Vector) → mirrored (differ a b) v ≡ mirrored a (mirrored b v)
mirrors_after false b v = refl
mirrors_after true false v = refl
mirrors_after true true v = rw (back v.y) refl

faces_after : (outer inner : Move) (v : Vector) → faced (composed outer inner) v ≡ faced outer (faced inner v)
faces_after outer inner v =
    turns_after outer.turn (seen_turn outer.mirrored inner.turn) (mirrored (differ outer.mirrored inner.mirrored) v)
    ∙ ap (turned outer.turn) (
    ap (turned (seen_turn outer.mirrored inner.turn)) (mirrors_after outer.mirrored inner.mirrored v)
    ∙ seen_after outer.mirrored inner.turn (mirrored inner.mirrored v)
    )

-- ---- where it stands

-- a point in halves of a file unit, moved by file units
abbrev shifted : Vector → Vector → Vector
shifted v by = record { x = v.x +ℤ (pos 2 *ℤ by.x); y = v.y +ℤ (pos 2 *ℤ by.y) }

less : (a b : ℤ) → neg_ℤ (a +ℤ (pos 2 *ℤ b)) ≡ neg_ℤ a +ℤ (pos 2 *ℤ neg_ℤ b)
less a b = omega (arith, ints)

mirror_shifts : (m : Bool) (v by : Vector) → mirrored m (shifted v by) ≡ shifted (mirrored m v) (mirrored m by)
mirror_shifts false v by = refl
mirror_shifts true v by = rw (less v.y by.y) refl

turn_shifts : (t : Turn) (v by : Vector) → turned t (shifted v by) ≡ shifted (turned t v) (turned t by)
turn_shifts turn.Zero v by = refl
turn_shifts turn.Quarter v by = rw (less v.y by.y) refl
turn_shifts turn.Half v by = rw (less v.x by.x, less v.y by.y) refl
turn_shifts turn.ThreeQuarters v by = rw (less v.x by.x) refl

face_shifts : (m : Move) (v by : Vector) → faced m (shifted v by) ≡ shifted (faced m v) (faced m by)
face_shifts m v by = ap (turned m.turn) (mirror_shifts m.mirrored v by) ∙ turn_shifts m.turn (mirrored m.mirrored v) (mirrored m.mirrored by)

twice_more : (a b c : ℤ) → a +ℤ (pos 2 *ℤ (b +ℤ c)) ≡ (a +ℤ (pos 2 *ℤ b)) +ℤ (pos 2 *ℤ c)
twice_more a b c = omega (arith, ints)

shifts_after : (v a b : Vector) → shifted v (record { x = a.x +ℤ b.x; y = a.y +ℤ b.y }) ≡ shifted (shifted v a) b
shifts_after v a b = rw (twice_more v.x a.x b.x, twice_more v.y a.y b.y) refl

pub moves_after : (outer inner : Move) (v : Vector) → moved (composed outer inner) v ≡ moved outer (moved inner v)
moves_after outer inner v =
    ap (λ (w : Vector). shifted w (offset_of (composed outer inner))) (faces_after outer inner v)
    ∙ (shifts_after (faced outer (faced inner v)) (faced outer (offset_of inner)) (offset_of outer)
    ∙ ap (λ (w : Vector). shifted w (offset_of outer)) (sym (face_shifts outer (faced inner v) (offset_of inner))))

pub areas_after : (outer inner : Move) (a : Area) → moved_area (composed outer inner) a ≡ moved_area outer (moved_area inner a)
unfolding moved_area
areas_after outer inner a =
    ap (λ (v : Vector). between_corners v (moved (composed outer inner) (last_corner a))) (moves_after outer inner (first_corner a))
    ∙ ap (between_corners (moved outer (moved inner (first_corner a)))) (moves_after outer inner (last_corner a))
