-- One cycle of pieces is told: a walk of steps has no choice, so two walks from one piece come to one cycle.
use Rattle.std.proofs.Common.{ℕ, ◌≡◌, ◌<◌, ◌⊎◌, List, [], ◌∷◌, inl, inr, refl, sym, ap, subst, arith, All, Contains}
use Rattle.std.proofs.lemmas.List.Elements.{All-contains, All-head, All-tail}
use Rattle.cell_num.specs.declared.net.NetNo.{NetNo}
use Rattle.cell_num.specs.declared.net.Pins.{Pins}
use Rattle.cell_num.proofs.Lists.{contains_none, contains_cons, contains_here, contains_there}
use Rattle.cell_num.proofs.Pairs.{Some'}
use Rattle.row_place.specs.declared.placement.Placement.{Placement}
use Rattle.row_place.specs.Trunks.{IsAbove}
use Rattle.channel_route.specs.declared.routing.WireAbove.{WireAbove}
use Rattle.channel_route.proofs.OneCycle.{cons_same}
use Rattle.dogleg_route.specs.PieceCycles.{GoesDown, next_entry, IsEntryEarlier, BeginsFirst}
use Rattle.dogleg_route.specs.Pieces.{IsPiece}
use Rattle.dogleg_route.specs.PieceTold.{entry_at, AreOnePiece, IsNoLaterEntry, IsPieceStep, IsStepwise, IsPieceTold}
use Rattle.dogleg_route.proofs.Marks.{one_right}

same : (e : WireAbove) → AreOnePiece e e
same e = record { net = refl; left = refl }

turned : (a b : WireAbove) → AreOnePiece a b → AreOnePiece b a
turned a b h = record { net = sym h.net; left = sym h.left }

joined : (a b c : WireAbove) → AreOnePiece a b → AreOnePiece b c → AreOnePiece a c
joined a b c h k = record { net = subst (λ n. a.net ≡ n) k.net h.net; left = omega (arith, h.left, k.left) }

of_equal : (a b : WireAbove) → a ≡ b → AreOnePiece a b
of_equal a b e = record { net = ap (λ (z : WireAbove). z.net) e; left = ap (λ (z : WireAbove). z.left) e }

-- no piece comes before another and behind it
never : (p : Placement) (pins : Pins) (a b : WireAbove) → IsEntryEarlier p pins a b → IsEntryEarlier p pins b a → ⊥
never p pins a b x y = by x.earlier y.earlier
  where
    mine : x.right ≡ y.other_right
    mine = one_right p pins a.net a.left x.right y.other_right x.piece y.other

    other : x.other_right ≡ y.right
    other = one_right p pins b.net b.left x.other_right y.right x.other y.piece

    by : (a.left < b.left) ⊎ ((a.left ≡ b.left) × ((x.right < x.other_right) ⊎ ((x.right ≡ x.other_right) × (a.net.0 < b.net.0)))) → (b.left < a.left) ⊎ ((b.left ≡ a.left) × ((y.right < y.other_right) ⊎ ((y.right ≡ y.other_right) × (b.net.0 < a.net.0)))) → ⊥
    by (inl e) (inl f) = omega (arith, e, f)
    by (inl e) (inr (f, _)) = omega (arith, e, f)
    by (inr (e, _)) (inl f) = omega (arith, e, f)
    by (inr (_, inl e)) (inr (_, inl f)) = omega (arith, e, f, mine, other)
    by (inr (_, inl e)) (inr (_, inr (f, _))) = omega (arith, e, f, mine, other)
    by (inr (_, inr (e, _))) (inr (_, inl f)) = omega (arith, e, f, mine, other)
    by (inr (_, inr (_, e))) (inr (_, inr (_, f))) = omega (arith, e, f)

one_of : (p : Placement) (pins : Pins) (a b : WireAbove) → IsNoLaterEntry p pins a b → IsNoLaterEntry p pins b a → AreOnePiece a b
one_of p pins a b (inl one) _ = one
one_of p pins a b (inr x) (inl one) = turned b a one
one_of p pins a b (inr x) (inr y) = absurd (never p pins a b x y)

-- a step has no choice
record IsOneStep (a b c d : WireAbove) : Type 0 where
  line : a.line ≡ c.line
  next : AreOnePiece b d

moved : (p : Placement) (pins : Pins) (a c d : WireAbove) → AreOnePiece a c → GoesDown p pins c d → GoesDown p pins (entry_at a.net a.left c.line) d
moved p pins a c d one g = record {
  upper_right = g.upper_right;
  upper = subst (λ n. IsPiece p pins n a.left g.upper_right) (sym one.net) (subst (λ k. IsPiece p pins c.net k g.upper_right) (sym one.left) g.upper);
  upper_ends = subst (λ k. (k ≡ c.line) ⊎ (g.upper_right ≡ c.line)) (sym one.left) g.upper_ends;
  lower_right = g.lower_right;
  lower = g.lower;
  lower_ends = g.lower_ends;
  over = subst (λ n. IsAbove p pins n d.net c.line) (sym one.net) g.over;
}

one_step : (p : Placement) (pins : Pins) (a b c d : WireAbove) → AreOnePiece a c → IsPieceStep p pins a b → IsPieceStep p pins c d → IsOneStep a b c d
one_step p pins a b c d one s t = by (s.first c.line d (moved p pins a c d one t.over) t.stuck) (t.first a.line b (moved p pins c a b (turned a c one) s.over) s.stuck)
  where
    by : (a.line < c.line) ⊎ ((a.line ≡ c.line) × IsNoLaterEntry p pins b d) → (c.line < a.line) ⊎ ((c.line ≡ a.line) × IsNoLaterEntry p pins d b) → IsOneStep a b c d
    by (inl e) (inl f) = absurd (omega (arith, e, f))
    by (inl e) (inr (f, _)) = absurd (omega (arith, e, f))
    by (inr (e, _)) (inl f) = absurd (omega (arith, e, f))
    by (inr (e, x)) (inr (_, y)) = record { line = e; next = one_of p pins b d x y }

-- a walk from one piece to another
record Reaches (p : Placement) (pins : Pins) (a b : WireAbove) : Type 0 where
  path : List WireAbove
  walk : IsStepwise p pins path b
  begins : AreOnePiece (next_entry path b) a

-- of two walks from one piece one goes on where the other ends
meets : (p : Placement) (pins : Pins) (xs ys : List WireAbove) (a b : WireAbove) → IsStepwise p pins xs a → IsStepwise p pins ys b → AreOnePiece (next_entry xs a) (next_entry ys b) → Reaches p pins a b ⊎ Reaches p pins b a
meets p pins [] ys a b h k one = inl (record { path = ys; walk = k; begins = turned a (next_entry ys b) one })
meets p pins (x ∷ xs) [] a b h k one = inr (record { path = x ∷ xs; walk = h; begins = one })
meets p pins (x ∷ xs) (y ∷ ys) a b h k one =
    let s : IsOneStep x (next_entry xs a) y (next_entry ys b) = one_step p pins x (next_entry xs a) y (next_entry ys b) one h.0 k.0 in
    meets p pins xs ys a b h.1 k.1 s.next

-- an entry of the piece
abbrev Inside : List WireAbove → WireAbove → Type 0
Inside xs e = Some' (λ (z : WireAbove). AreOnePiece z e) xs

inside_more : (x : WireAbove) (xs : List WireAbove) (e : WireAbove) → Inside xs e → Inside (x ∷ xs) e
inside_more x xs e s = record { it = s.it; there = contains_there x xs s.it s.there; holds = s.holds }

inside_same : (xs : List WireAbove) (a b : WireAbove) → AreOnePiece a b → Inside xs a → Inside xs b
inside_same xs a b one s = record { it = s.it; there = s.there; holds = joined s.it a b s.holds one }

-- the step at an entry of a walk
record StepAt (p : Placement) (pins : Pins) (xs : List WireAbove) (back y : WireAbove) : Type 0 where
  next : WireAbove
  step : IsPieceStep p pins y next
  goes : (next ≡ back) ⊎ Inside xs next

step_at : (p : Placement) (pins : Pins) (xs : List WireAbove) (back y : WireAbove) → IsStepwise p pins xs back → Contains xs y → StepAt p pins xs back y
step_at p pins [] back y h there = absurd (contains_none y there)
step_at p pins (a ∷ more) back y h there =
    elim (contains_cons a more y there) [
      | inl one ↦ subst (λ z. StepAt p pins (a ∷ more) back z) one (first more h)
      | inr rest ↦ later (step_at p pins more back y h.1 rest)
    ]
  where
    first : (more : List WireAbove) → IsStepwise p pins (a ∷ more) back → StepAt p pins (a ∷ more) back a
    first [] h = record { next = back; step = h.0; goes = inl refl }
    first (b ∷ more) h = record { next = b; step = h.0; goes = inr (record { it = b; there = contains_there a (b ∷ more) b (contains_here b more); holds = same b }) }

    later : StepAt p pins more back y → StepAt p pins (a ∷ more) back y
    later s = record { next = s.next; step = s.step; goes = elim s.goes [ inl e ↦ inl e | inr i ↦ inr (inside_more a more s.next i) ] }

-- a walk does not leave a cycle
stays : (p : Placement) (pins : Pins) (f : WireAbove) (r : List WireAbove) → IsStepwise p pins (f ∷ r) f → (path : List WireAbove) (e : WireAbove) → IsStepwise p pins path e → Inside (f ∷ r) (next_entry path e) → Inside (f ∷ r) e
stays p pins f r c [] e h i = i
stays p pins f r c (a ∷ more) e h i = stays p pins f r c more e h.1 (by (step_at p pins (f ∷ r) f i.it c i.there))
  where
    by : StepAt p pins (f ∷ r) f i.it → Inside (f ∷ r) (next_entry more e)
    by s =
        let one : IsOneStep i.it s.next a (next_entry more e) = one_step p pins i.it s.next a (next_entry more e) i.holds s.step h.0 in
        inside_same (f ∷ r) s.next (next_entry more e) one.next (elim s.goes [ inl back ↦ record { it = f; there = contains_here f r; holds = of_equal f s.next (sym back) } | inr there ↦ there ])

-- and comes round to its first entry
round : (p : Placement) (pins : Pins) (xs : List WireAbove) (back y : WireAbove) → IsStepwise p pins xs back → Contains xs y → Reaches p pins y back
round p pins [] back y h there = absurd (contains_none y there)
round p pins (a ∷ more) back y h there =
    elim (contains_cons a more y there) [
      | inl one ↦ record { path = a ∷ more; walk = h; begins = of_equal a y one }
      | inr rest ↦ round p pins more back y h.1 rest
    ]

first_inside : (p : Placement) (pins : Pins) (f : WireAbove) (r : List WireAbove) (e : WireAbove) → All (IsEntryEarlier p pins f) r → Inside (f ∷ r) e → (g : WireAbove) → AreOnePiece e g → IsNoLaterEntry p pins f g
first_inside p pins f r e least i g one =
    elim (contains_cons f r i.it i.there) [
      | inl here ↦ inl (joined f e g (joined f i.it e (of_equal f i.it here) i.holds) one)
      | inr rest ↦ inr (later (All-contains (IsEntryEarlier p pins f) r i.it least rest) (joined i.it e g i.holds one))
    ]
  where
    later : IsEntryEarlier p pins f i.it → AreOnePiece i.it g → IsEntryEarlier p pins f g
    later x h = record {
      right = x.right;
      piece = x.piece;
      other_right = x.other_right;
      other = subst (λ n. IsPiece p pins n g.left x.other_right) h.net (subst (λ k. IsPiece p pins i.it.net k x.other_right) h.left x.other);
      earlier = subst (λ (n : NetNo). (f.left < g.left) ⊎ ((f.left ≡ g.left) × ((x.right < x.other_right) ⊎ ((x.right ≡ x.other_right) × (f.net.0 < n.0))))) h.net (subst (λ k. (f.left < k) ⊎ ((f.left ≡ k) × ((x.right < x.other_right) ⊎ ((x.right ≡ x.other_right) × (f.net.0 < i.it.net.0))))) h.left x.earlier);
    }

-- so one cycle leads to the other and back, and their first pieces are one
heads : (p : Placement) (pins : Pins) (f : WireAbove) (r : List WireAbove) (g : WireAbove) (s : List WireAbove) → IsStepwise p pins (f ∷ r) f → All (IsEntryEarlier p pins f) r → IsStepwise p pins (g ∷ s) g → All (IsEntryEarlier p pins g) s → Reaches p pins f g → AreOnePiece f g
heads p pins f r g s c least d low w =
    let there : Inside (f ∷ r) g = stays p pins f r c w.path g w.walk (record { it = f; there = contains_here f r; holds = turned (next_entry w.path g) f w.begins }) in
    let home : Reaches p pins there.it f = round p pins (f ∷ r) f there.it c there.there in
    let back : Inside (g ∷ s) f = stays p pins g s d home.path f home.walk (record { it = g; there = contains_here g s; holds = joined g there.it (next_entry home.path f) (turned there.it g there.holds) (turned (next_entry home.path f) there.it home.begins) }) in
    one_of p pins f g (first_inside p pins f r g least there g (same g)) (first_inside p pins g s f low back f (same f))

make : NetNo → ℕ → ℕ → WireAbove
make net left line = record { net = net; left = left; line = line }

made : {a b : NetNo} {i j k l : ℕ} → a ≡ b → i ≡ j → k ≡ l → make a i k ≡ make b j l
made e f g = cc

entry_same : (a b : WireAbove) → AreOnePiece a b → a.line ≡ b.line → a ≡ b
unfolding make
entry_same a b one line = made one.net one.left line

-- no piece comes before itself
itself : (p : Placement) (pins : Pins) (f a : WireAbove) → AreOnePiece f a → IsEntryEarlier p pins f a → ⊥
itself p pins f a one x = by x.earlier
  where
    right : x.right ≡ x.other_right
    right = one_right p pins a.net a.left x.right x.other_right (subst (λ n. IsPiece p pins n a.left x.right) one.net (subst (λ k. IsPiece p pins f.net k x.right) one.left x.piece)) x.other

    by : (f.left < a.left) ⊎ ((f.left ≡ a.left) × ((x.right < x.other_right) ⊎ ((x.right ≡ x.other_right) × (f.net.0 < a.net.0)))) → ⊥
    by (inl e) = omega (arith, e, one.left)
    by (inr (_, inl e)) = omega (arith, e, right)
    by (inr (_, inr (_, e))) = omega (arith, e, ap (λ (n : NetNo). n.0) one.net)

same_rest : (p : Placement) (pins : Pins) (f g : WireAbove) (r s : List WireAbove) → AreOnePiece f g → IsStepwise p pins r f → IsStepwise p pins s g → AreOnePiece (next_entry r f) (next_entry s g) → All (IsEntryEarlier p pins f) r → All (IsEntryEarlier p pins g) s → r ≡ s
same_rest p pins f g [] [] fg h k one low high = refl
same_rest p pins f g [] (b ∷ s) fg h k one low high = absurd (itself p pins g b (joined g f b (turned f g fg) one) (All-head (IsEntryEarlier p pins g) b s high))
same_rest p pins f g (a ∷ r) [] fg h k one low high = absurd (itself p pins f a (joined f g a fg (turned a g one)) (All-head (IsEntryEarlier p pins f) a r low))
same_rest p pins f g (a ∷ r) (b ∷ s) fg h k one low high =
    let next : IsOneStep a (next_entry r f) b (next_entry s g) = one_step p pins a (next_entry r f) b (next_entry s g) one h.0 k.0 in
    cons_same a b r s (entry_same a b one next.line) (same_rest p pins f g r s fg h.1 k.1 next.next (All-tail (IsEntryEarlier p pins f) a r low) (All-tail (IsEntryEarlier p pins g) b s high))

pub one_told : (p : Placement) (pins : Pins) (c d : List WireAbove) → IsPieceTold p pins c → BeginsFirst p pins c → IsPieceTold p pins d → BeginsFirst p pins d → c ≡ d
one_told p pins [] d tc fc td fd = absurd tc
one_told p pins (f ∷ r) [] tc fc td fd = absurd td
one_told p pins (f ∷ r) (g ∷ s) tc fc td fd = cons_same f g r s (entry_same f g first step.line) (same_rest p pins f g r s first tc.round.1 td.round.1 step.next fc fd)
  where
    start : AreOnePiece tc.start td.start
    start = one_of p pins tc.start td.start (tc.is_first.none_before td.start td.is_first.stuck) (td.is_first.none_before tc.start tc.is_first.stuck)

    begins : AreOnePiece (next_entry tc.path f) (next_entry td.path g)
    begins = joined (next_entry tc.path f) tc.start (next_entry td.path g) tc.begins (joined tc.start td.start (next_entry td.path g) start (turned (next_entry td.path g) td.start td.begins))

    first : AreOnePiece f g
    first =
        elim (meets p pins tc.path td.path f g tc.down td.down begins) [
          | inl on ↦ heads p pins f r g s tc.round fc td.round fd on
          | inr on ↦ turned g f (heads p pins g s f r td.round fd tc.round fc on)
        ]

    step : IsOneStep f (next_entry r f) g (next_entry s g)
    step = one_step p pins f (next_entry r f) g (next_entry s g) first tc.round.0 td.round.0
