-- Vias: of landings, and of bars.
use Rattle.std.proofs.Common.{◌≡◌, ℕ, pos, Option, Some, None, arith, inl, inr, ◌⊎◌, refl, sym, subst, ap, ◌∙◌}
use Rattle.std.specs.List.{Contains}
use Rattle.std.proofs.lemmas.Int.{ints}
use Rattle.cell_num.specs.declared.finger.Row.{Row}
use Rattle.cell_num.specs.declared.finger.Row.TheVariants.{P, N}
use Rattle.box_geom.specs.Rectangle.{Rectangle, IsProper}
use Rattle.box_geom.specs.Layers.{rects_on}
use Rattle.box_geom.specs.declared.shape.Shape.{Shape}
use Rattle.box_geom.specs.declared.layer.Layer.TheVariants.{Via}
use Rattle.scmos_rules.specs.Conditions.{IsSquare}
use Rattle.cell_draw.specs.declared.layout.Frame.{Frame}
use Rattle.cell_draw.specs.declared.layout.Contact.{Contact}
use Rattle.cell_draw.specs.declared.layout.Bar.{Bar}
use Rattle.cell_draw.specs.declared.layout.Layout.{Layout}
use Rattle.cell_draw.specs.Shapes.{around, landing, reach_shapes, pad_shapes, via_shapes, shapes_of}
use Rattle.cell_draw.specs.Laid.{IsFrame, AreFar, IsLaid}
use Rattle.cell_num.proofs.In.{In}
use Rattle.cell_draw.proofs.RulesLayers.{OnPiece, in_pieces, OnGroup, of_frame, of_strip, of_contact, of_gate, of_bar, grouped}
use Rattle.cell_draw.proofs.RulesPieces.{Origin}
use Rattle.cell_draw.proofs.RulesGood.{IsGood, never, besides, itself, flip}
use Rattle.cell_draw.proofs.RulesPlaces.{InChannel, in_channel, two_tracks, TwoContacts, one_contact, far_contacts, n_below_p, p_above_n, two_contacts}
use Rattle.cell_draw.proofs.RulesMetal2.{Signal, IsSignal}

-- a via over the landing of a signal, or on a bar
pub data ViaPlace : Type 0 where
  landing_of : Signal → ViaPlace
  meeting_of : Bar → ℕ → ViaPlace

-- a bar and a line at which it has a via
pub record IsMeeting (l : Layout) (b : Bar) (x : ℕ) : Type 0 where
  pub listed : Contains l.bars b
  pub line : Contains b.vias x

abbrev pub landing_in : Frame → Row → ℕ → Shape
landing_in f row x = around Via x (landing f row) 2

abbrev pub meeting_at : ℕ → ℕ → Shape
meeting_at x y = around Via x (pos y) 2

abbrev pub via_rect : Layout → ViaPlace → Rectangle
via_rect l (landing_of s) = (landing_in l.frame s.contact.row s.contact.x).rect
via_rect l (meeting_of b x) = (meeting_at x b.y).rect

abbrev pub IsViaPlace : Layout → ViaPlace → Type 0
IsViaPlace l (landing_of s) = IsSignal l s
IsViaPlace l (meeting_of b x) = IsMeeting l b x

abbrev pub OnVia : Layout → Rectangle → Type 0
OnVia l r = Origin (IsViaPlace l) (via_rect l) r

reach_via : (l : Layout) (c : Contact) → Contains l.contacts c → (o : Option ℕ) → c.reach ≡ o → (r : Rectangle) → In (rects_on Via (reach_shapes l.frame c.row c.x o)) r → OnVia l r
reach_via l c h None e r i = absurd i
reach_via l c h (Some y) e r (inl is) = record { piece = landing_of (record { contact = c; reach = y }); listed = record { listed = h; signal = e }; is = is }
reach_via l c h (Some y) e r (inr i) = absurd i

no_pad_via : (x : ℕ) (track : Option ℕ) (r : Rectangle) → In (rects_on Via (pad_shapes x track)) r → ⊥
no_pad_via x None r i = i
no_pad_via x (Some y) r i = i

bar_via : (l : Layout) (b : Bar) → Contains l.bars b → (r : Rectangle) → OnPiece Via (via_shapes b.y) b.vias r → OnVia l r
bar_via l b h r p = by p.inside
  where
    by : In (rects_on Via (via_shapes b.y p.of)) r → OnVia l r
    by (inl is) = record { piece = meeting_of b p.of; listed = record { listed = h; line = p.listed }; is = is }
    by (inr i) = absurd i

pub on_via : (l : Layout) (r : Rectangle) → Contains (rects_on Via (shapes_of l)) r → OnVia l r
on_via l r c = from (grouped Via l r c)
  where
    from : OnGroup Via l r → OnVia l r
    from (of_frame i) = absurd i
    from (of_strip s h i) = absurd i
    from (of_contact k h i) = reach_via l k h k.reach refl r i
    from (of_gate g h i) = absurd (no_pad_via g.x g.track r i)
    from (of_bar b h i) = bar_via l b h r (in_pieces Via (via_shapes b.y) b.vias r i)

pub via_square : (l : Layout) (a : ViaPlace) → IsSquare 4 (via_rect l a)
via_square l (landing_of s) = omega (arith, ints)
via_square l (meeting_of b x) = omega (arith, ints)

pub via_proper : (l : Layout) (a : ViaPlace) → IsProper (via_rect l a)
via_proper l (landing_of s) = omega (arith, ints)
via_proper l (meeting_of b x) = omega (arith, ints)

-- what close vias are
abbrev pub OneVia : Layout → ViaPlace → ViaPlace → Type 0
OneVia l a b = via_rect l a ≡ via_rect l b

-- where a bar lies, and whose contact it meets
pub bar_in : (l : Layout) (w : IsLaid l) (b : Bar) → Contains l.bars b → InChannel l.frame b.y
bar_in l w b h = in_channel l.frame w.tracks b.y w.frame (w.bars b h).1

facing_landings : (f : Frame) (k : ℕ) → IsFrame f k → (x z : ℕ) (Same : Type 0) → IsGood 6 (landing_in f N x).rect (landing_in f P z).rect Same
facing_landings f k fr x z Same = never (omega (arith, ints))

far_landings : (f : Frame) (r s : Row) (x z : ℕ) (Same : Type 0) → AreFar 16 x z → IsGood 6 (landing_in f r x).rect (landing_in f s z).rect Same
far_landings f r s x z Same (inl h) = never (omega (arith, ints))
far_landings f r s x z Same (inr h) = never (omega (arith, ints))

landings : (l : Layout) (w : IsLaid l) (s t : Signal) → TwoContacts s.contact t.contact → IsGood 6 (via_rect l (landing_of s)) (via_rect l (landing_of t)) (OneVia l (landing_of s) (landing_of t))
landings l w s t (one_contact e) =
    subst (λ c. IsGood 6 (via_rect l (landing_of s)) (landing_in l.frame c.row c.x).rect (via_rect l (landing_of s) ≡ (landing_in l.frame c.row c.x).rect)) e (itself (via_proper l (landing_of s)) refl)
landings l w s t (far_contacts far) = far_landings l.frame s.contact.row t.contact.row s.contact.x t.contact.x (OneVia l (landing_of s) (landing_of t)) far
landings l w s t (n_below_p e f line) =
    subst (λ r. IsGood 6 (landing_in l.frame r s.contact.x).rect (via_rect l (landing_of t)) (OneVia l (landing_of s) (landing_of t))) (sym e)
    (subst (λ r. IsGood 6 (landing_in l.frame N s.contact.x).rect (landing_in l.frame r t.contact.x).rect (OneVia l (landing_of s) (landing_of t))) (sym f)
    (facing_landings l.frame w.tracks w.frame s.contact.x t.contact.x (OneVia l (landing_of s) (landing_of t))))
landings l w s t (p_above_n e f line) =
    subst (λ r. IsGood 6 (landing_in l.frame r s.contact.x).rect (via_rect l (landing_of t)) (OneVia l (landing_of s) (landing_of t))) (sym e)
    (subst (λ r. IsGood 6 (landing_in l.frame P s.contact.x).rect (landing_in l.frame r t.contact.x).rect (OneVia l (landing_of s) (landing_of t))) (sym f)
    (flip (λ s. s) (facing_landings l.frame w.tracks w.frame t.contact.x s.contact.x (OneVia l (landing_of s) (landing_of t)))))

landing_meeting : (f : Frame) (row : Row) (x z y : ℕ) (Same : Type 0) → InChannel f y → IsGood 6 (landing_in f row x).rect (meeting_at z y).rect Same
landing_meeting f N x z y Same t = never (omega (arith, ints))
landing_meeting f P x z y Same t = never (omega (arith, ints))

far_meetings : (x z y u : ℕ) (Same : Type 0) → AreFar 16 x z → IsGood 6 (meeting_at x y).rect (meeting_at z u).rect Same
far_meetings x z y u Same (inl h) = never (omega (arith, ints))
far_meetings x z y u Same (inr h) = never (omega (arith, ints))

-- at one line: on one track they are one, on two they are far apart
over_meetings : (x z y u : ℕ) → x ≡ z → (y ≡ u) ⊎ AreFar 16 y u → IsGood 6 (meeting_at x y).rect (meeting_at z u).rect ((meeting_at x y).rect ≡ (meeting_at z u).rect)
over_meetings x z y u line (inl same) = besides (omega (arith, ints)) (ap (λ v. (meeting_at v y).rect) line ∙ ap (λ v. (meeting_at z v).rect) same)
over_meetings x z y u line (inr (inl far)) = never (omega (arith, ints))
over_meetings x z y u line (inr (inr far)) = never (omega (arith, ints))

meetings : (l : Layout) (w : IsLaid l) (a b : Bar) (x z : ℕ) → IsMeeting l a x → IsMeeting l b z → IsGood 6 (meeting_at x a.y).rect (meeting_at z b.y).rect (OneVia l (meeting_of a x) (meeting_of b z))
meetings l w a b x z h k =
    let m = w.vias a x h.listed h.line in
    let n = w.vias b z k.listed k.line in
    elim (w.spread m.contact n.contact m.listed n.listed) [
      | inl line ↦ over_meetings x z a.y b.y (sym m.at ∙ (line ∙ n.at)) (two_tracks l.frame w.tracks a.y b.y (w.bars a h.listed).1 (w.bars b k.listed).1)
      | inr far ↦ far_meetings x z a.y b.y (OneVia l (meeting_of a x) (meeting_of b z)) (subst (λ v. AreFar 16 v z) m.at (subst (AreFar 16 m.contact.x) n.at far))
    ]

-- Close vias are one.
pub via_pairs : (l : Layout) (w : IsLaid l) (a b : ViaPlace) → IsViaPlace l a → IsViaPlace l b → IsGood 6 (via_rect l a) (via_rect l b) (OneVia l a b)
via_pairs l w (landing_of s) (landing_of t) h k = landings l w s t (two_contacts l w s.contact t.contact h.listed k.listed)
via_pairs l w (landing_of s) (meeting_of b x) h k = landing_meeting l.frame s.contact.row s.contact.x x b.y (OneVia l (landing_of s) (meeting_of b x)) (bar_in l w b k.listed)
via_pairs l w (meeting_of b x) (landing_of s) h k = flip sym (landing_meeting l.frame s.contact.row s.contact.x x b.y (OneVia l (landing_of s) (meeting_of b x)) (bar_in l w b h.listed))
via_pairs l w (meeting_of a x) (meeting_of b z) h k = meetings l w a b x z h k
