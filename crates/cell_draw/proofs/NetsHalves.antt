-- Pieces of diffusion that touch are of one net.
use Rattle.std.proofs.Common.{◌≡◌, ℕ, ◌+◌, ◌≤◌, arith, inl, inr, refl, sym, ap, subst, ◌∙◌}
use Rattle.std.specs.List.{Contains}
use Rattle.std.proofs.lemmas.Int.{ints}
use Rattle.cell_num.specs.declared.finger.Row.{Row}
use Rattle.cell_num.specs.declared.finger.Row.TheVariants.{P, N}
use Rattle.box_geom.specs.Rectangle.{Rectangle}
use Rattle.scmos_rules.specs.Conditions.{Close}
use Rattle.cell_draw.specs.declared.layout.Frame.{Frame}
use Rattle.cell_draw.specs.declared.layout.Strip.{Strip}
use Rattle.cell_draw.specs.declared.layout.Contact.{Contact}
use Rattle.cell_draw.specs.declared.layout.Layout.{Layout}
use Rattle.cell_draw.specs.Laid.{Follows, MeetsEnd, IsLaid}
use Rattle.cell_draw.proofs.NetsFacts.{End, left_end, right_end, end_x, IsNetted}
use Rattle.cell_draw.proofs.NetsWires.{half_in, half_rect, pad_rect}
use Rattle.cell_draw.proofs.RulesActive.{pad_in}
use Rattle.cell_draw.proofs.RulesPlaces.{TwoStrips, one_strip, after, before, n_under_p, p_over_n, two_strips}

-- ---- pieces of diffusion
-- the gate of a strip stands at x
record StandsOver (s : Strip) (x : ℕ) : Type 0 where
  left : s.left + 8 ≤ x
  right : x + 8 ≤ s.right

-- halves of two strips, the second behind the first, share an end or lie apart
halves_follow : (f : Frame) (row side : Row) (s t : Strip) (x z : ℕ) (e g : End) → StandsOver s x → StandsOver t z → Follows s t → Close 1 (half_in f row s x e) (half_in f side t z g) → end_x e s ≡ end_x g t
halves_follow f row side s t x z right_end left_end o p (inl e) close = e
halves_follow f row side s t x z left_end left_end o p (inl e) close = absurd (omega (arith, ints))
halves_follow f row side s t x z left_end right_end o p (inl e) close = absurd (omega (arith, ints))
halves_follow f row side s t x z right_end right_end o p (inl e) close = absurd (omega (arith, ints))
halves_follow f row side s t x z left_end left_end o p (inr e) close = absurd (omega (arith, ints))
halves_follow f row side s t x z left_end right_end o p (inr e) close = absurd (omega (arith, ints))
halves_follow f row side s t x z right_end left_end o p (inr e) close = absurd (omega (arith, ints))
halves_follow f row side s t x z right_end right_end o p (inr e) close = absurd (omega (arith, ints))

-- the two halves of a strip lie apart
halves_of_one : (f : Frame) (row side : Row) (s : Strip) (x : ℕ) (e g : End) → Close 1 (half_in f row s x e) (half_in f side s x g) → e ≡ g
halves_of_one f row side s x left_end left_end close = refl
halves_of_one f row side s x right_end right_end close = refl
halves_of_one f row side s x left_end right_end close = absurd (omega (arith, ints))
halves_of_one f row side s x right_end left_end close = absurd (omega (arith, ints))

pub turn : (a b : Rectangle) → Close 1 a b → Close 1 b a
turn a b c = omega (arith, ints)

pub halves : (l : Layout) (w : IsLaid l) (n : IsNetted l) (s t : Strip) (e g : End) → Contains l.strips s → Contains l.strips t → s.row ≡ t.row → Close 1 (half_rect l n s e) (half_rect l n t g) → n.nets s.row (end_x e s) ≡ n.nets t.row (end_x g t)
halves l w n s t e g hs ht rows close = by (two_strips l w s t hs ht)
  where
    over : (u : Strip) → Contains l.strips u → StandsOver u (n.over u).x
    over u there = let o = (n.gated u there).1 in record { left = o.left; right = o.right }

    same : end_x e s ≡ end_x g t → n.nets s.row (end_x e s) ≡ n.nets t.row (end_x g t)
    same x = ap (λ r. n.nets r (end_x e s)) rows ∙ ap (λ z. n.nets t.row z) x

    by : TwoStrips s t → n.nets s.row (end_x e s) ≡ n.nets t.row (end_x g t)
    by (one_strip is) = same (
        let here : Close 1 (half_rect l n s e) (half_rect l n s g) = subst (λ z. Close 1 (half_rect l n s e) (half_rect l n z g)) (sym is) close in
        ap (λ z. end_x z s) (halves_of_one l.frame s.row s.row s (n.over s).x e g here) ∙ ap (λ z. end_x g z) is)
    by (after r next) = same (halves_follow l.frame s.row t.row s t (n.over s).x (n.over t).x e g (over s hs) (over t ht) next close)
    by (before r next) = same (sym (halves_follow l.frame t.row s.row t s (n.over t).x (n.over s).x g e (over t ht) (over s hs) next (turn (half_rect l n s e) (half_rect l n t g) close)))
    by (n_under_p a b) = absurd (let wrong : ◌≡◌ {A = Row} N P = sym a ∙ (rows ∙ b) in cc)
    by (p_over_n a b) = absurd (let wrong : ◌≡◌ {A = Row} P N = sym a ∙ (rows ∙ b) in cc)

-- a pad that touches a half stands at its end
pad_at_end : (f : Frame) (row side : Row) (c : Contact) (s : Strip) (x : ℕ) (e : End) → StandsOver s x → MeetsEnd c s → Close 1 (pad_in f row c.x).rect (half_in f side s x e) → c.x ≡ end_x e s
pad_at_end f row side c s x left_end o (inl e) close = e
pad_at_end f row side c s x right_end o (inl e) close = absurd (omega (arith, ints))
pad_at_end f row side c s x left_end o (inr (inl e)) close = absurd (omega (arith, ints))
pad_at_end f row side c s x right_end o (inr (inl e)) close = e
pad_at_end f row side c s x left_end o (inr (inr (inl far))) close = absurd (omega (arith, ints))
pad_at_end f row side c s x right_end o (inr (inr (inl far))) close = absurd (omega (arith, ints))
pad_at_end f row side c s x left_end o (inr (inr (inr far))) close = absurd (omega (arith, ints))
pad_at_end f row side c s x right_end o (inr (inr (inr far))) close = absurd (omega (arith, ints))

pub pad_half : (l : Layout) (w : IsLaid l) (n : IsNetted l) (c : Contact) (s : Strip) (e : End) → Contains l.contacts c → Contains l.strips s → c.row ≡ s.row → Close 1 (pad_rect l c) (half_rect l n s e) → c.net ≡ n.nets s.row (end_x e s)
pad_half l w n c s e hc hs rows close =
    let o = (n.gated s hs).1 in
    let x : c.x ≡ end_x e s = pad_at_end l.frame c.row s.row c s (n.over s).x e (record { left = o.left; right = o.right }) (w.ends c s hc hs rows) close in
    n.contacts c hc ∙ (ap (λ r. n.nets r c.x) rows ∙ ap (λ z. n.nets s.row z) x)

pub pads : (l : Layout) (w : IsLaid l) (c d : Contact) → Contains l.contacts c → Contains l.contacts d → c.row ≡ d.row → Close 1 (pad_rect l c) (pad_rect l d) → c.net ≡ d.net
pads l w c d hc hd rows close = elim (w.spread c d hc hd) [
  | inl line ↦ ap (λ (z : Contact). z.net) (w.single c d hc hd rows line)
  | inr (inl far) ↦ absurd (omega (arith, ints))
  | inr (inr far) ↦ absurd (omega (arith, ints))
]
