-- Metal2: the branches of contacts.
use Rattle.std.proofs.Common.{◌≡◌, ℕ, ◌+◌, ◌≤◌, Option, Some, None, arith, inl, inr, ◌⊎◌, refl, sym, subst, ap, ◌∙◌}
use Rattle.std.specs.List.{Contains}
use Rattle.std.proofs.lemmas.Int.{ints}
use Rattle.cell_num.specs.declared.finger.Row.{Row}
use Rattle.cell_num.specs.declared.finger.Row.TheVariants.{P, N}
use Rattle.box_geom.specs.Rectangle.{Rectangle}
use Rattle.box_geom.specs.Layers.{rects_on}
use Rattle.box_geom.specs.declared.layer.Layer.TheVariants.{Metal2}
use Rattle.scmos_rules.specs.Conditions.{IsWide}
use Rattle.cell_draw.specs.declared.layout.Frame.{Frame}
use Rattle.cell_draw.specs.declared.layout.Contact.{Contact}
use Rattle.cell_draw.specs.declared.layout.Layout.{Layout}
use Rattle.cell_draw.specs.Shapes.{branch, reach_shapes, pad_shapes, via_shapes, shapes_of}
use Rattle.cell_draw.specs.Laid.{AreFar, IsLaid}
use Rattle.cell_num.proofs.Lists.{some_same}
use Rattle.cell_num.proofs.In.{In}
use Rattle.cell_draw.proofs.RulesLayers.{in_pieces, OnGroup, of_frame, of_strip, of_contact, of_gate, of_bar, grouped}
use Rattle.cell_draw.proofs.RulesPieces.{Origin}
use Rattle.cell_draw.proofs.RulesGood.{IsGood, never, besides, itself, flip}
use Rattle.cell_draw.proofs.RulesPlaces.{InChannel, in_channel, TwoContacts, one_contact, far_contacts, n_below_p, p_above_n, two_contacts}

-- a contact and the track that it reaches
pub record Signal : Type 0 where
  pub contact : Contact
  pub reach : ℕ

pub record IsSignal (l : Layout) (s : Signal) : Type 0 where
  pub listed : Contains l.contacts s.contact
  pub signal : s.contact.reach ≡ Some s.reach

abbrev pub branch_rect : Layout → Signal → Rectangle
branch_rect l s = (branch l.frame s.contact.row s.contact.x s.reach).rect

abbrev pub OnMetal2 : Layout → Rectangle → Type 0
OnMetal2 l r = Origin (IsSignal l) (branch_rect l) r

reach_metal : (l : Layout) (c : Contact) → Contains l.contacts c → (o : Option ℕ) → c.reach ≡ o → (r : Rectangle) → In (rects_on Metal2 (reach_shapes l.frame c.row c.x o)) r → OnMetal2 l r
reach_metal l c h None e r i = absurd i
reach_metal l c h (Some y) e r (inl is) = record { piece = record { contact = c; reach = y }; listed = record { listed = h; signal = e }; is = is }
reach_metal l c h (Some y) e r (inr i) = absurd i

no_pad_metal : (x : ℕ) (track : Option ℕ) (r : Rectangle) → In (rects_on Metal2 (pad_shapes x track)) r → ⊥
no_pad_metal x None r i = i
no_pad_metal x (Some y) r i = i

pub on_metal2 : (l : Layout) (r : Rectangle) → Contains (rects_on Metal2 (shapes_of l)) r → OnMetal2 l r
on_metal2 l r c = from (grouped Metal2 l r c)
  where
    from : OnGroup Metal2 l r → OnMetal2 l r
    from (of_frame i) = absurd i
    from (of_strip s h i) = absurd i
    from (of_contact k h i) = reach_metal l k h k.reach refl r i
    from (of_gate g h i) = absurd (no_pad_metal g.x g.track r i)
    from (of_bar b h i) = absurd ((in_pieces Metal2 (via_shapes b.y) b.vias r i).inside)

far_branches : (f : Frame) (r s : Row) (x z n p : ℕ) (Same : Type 0) → AreFar 16 x z → IsGood 8 (branch f r x n).rect (branch f s z p).rect Same
far_branches f r s x z n p Same (inl h) = never (omega (arith, ints))
far_branches f r s x z n p Same (inr h) = never (omega (arith, ints))

-- at one line those of one net overlap, and those of two keep clear
facing_branches : (f : Frame) (x z n p : ℕ) (Same : Type 0) → x ≡ z → InChannel f n → InChannel f p → ((p ≤ n) × Same) ⊎ (n + 16 ≤ p) → IsGood 8 (branch f N x n).rect (branch f P z p).rect Same
facing_branches f x z n p Same line hn hp (inl (less, same)) = besides (omega (arith, ints)) same
facing_branches f x z n p Same line hn hp (inr far) = never (omega (arith, ints))

branch_high : (f : Frame) (row : Row) (x y : ℕ) → InChannel f y → IsWide 6 (branch f row x y).rect
branch_high f N x y h = omega (arith, ints)
branch_high f P x y h = omega (arith, ints)

pub reach_in : (l : Layout) (w : IsLaid l) (s : Signal) → IsSignal l s → InChannel l.frame s.reach
reach_in l w s h = in_channel l.frame w.tracks s.reach w.frame (w.reaches s.contact s.reach h.listed h.signal)

pub branch_wide : (l : Layout) (w : IsLaid l) (s : Signal) → IsSignal l s → IsWide 6 (branch_rect l s)
branch_wide l w s h = branch_high l.frame s.contact.row s.contact.x s.reach (reach_in l w s h)

abbrev pub SameNet : Signal → Signal → Type 0
SameNet s t = s.contact.net ≡ t.contact.net

pairs : (l : Layout) (w : IsLaid l) (s t : Signal) → IsSignal l s → IsSignal l t → TwoContacts s.contact t.contact → IsGood 8 (branch_rect l s) (branch_rect l t) (SameNet s t)
pairs l w s t h k (one_contact e) =
    let same : s.reach ≡ t.reach = some_same s.reach t.reach (sym h.signal ∙ (ap (λ (c : Contact). c.reach) e ∙ k.signal)) in
    let wide : IsWide 6 (branch_rect l s) = branch_wide l w s h in
    subst (λ c. IsGood 8 (branch_rect l s) (branch l.frame c.row c.x t.reach).rect (s.contact.net ≡ c.net)) e
    (subst (λ y. IsGood 8 (branch_rect l s) (branch l.frame s.contact.row s.contact.x y).rect (s.contact.net ≡ s.contact.net)) same
    (itself (omega (arith, ints)) refl))
pairs l w s t h k (far_contacts far) = far_branches l.frame s.contact.row t.contact.row s.contact.x t.contact.x s.reach t.reach (SameNet s t) far
pairs l w s t h k (n_below_p e f line) =
    subst (λ r. IsGood 8 (branch l.frame r s.contact.x s.reach).rect (branch_rect l t) (SameNet s t)) (sym e)
    (subst (λ r. IsGood 8 (branch l.frame N s.contact.x s.reach).rect (branch l.frame r t.contact.x t.reach).rect (SameNet s t)) (sym f)
    (facing_branches l.frame s.contact.x t.contact.x s.reach t.reach (SameNet s t) line (reach_in l w s h) (reach_in l w t k) (w.clear s.contact t.contact s.reach t.reach h.listed k.listed e f line h.signal k.signal)))
pairs l w s t h k (p_above_n e f line) =
    subst (λ r. IsGood 8 (branch l.frame r s.contact.x s.reach).rect (branch_rect l t) (SameNet s t)) (sym e)
    (subst (λ r. IsGood 8 (branch l.frame P s.contact.x s.reach).rect (branch l.frame r t.contact.x t.reach).rect (SameNet s t)) (sym f)
    (flip sym (facing_branches l.frame t.contact.x s.contact.x t.reach s.reach (SameNet t s) (sym line) (reach_in l w t k) (reach_in l w s h) (w.clear t.contact s.contact t.reach s.reach k.listed h.listed f e (sym line) k.signal h.signal))))

-- Close branches touch and are of one net.
pub branch_pairs : (l : Layout) (w : IsLaid l) (s t : Signal) → IsSignal l s → IsSignal l t → IsGood 8 (branch_rect l s) (branch_rect l t) (SameNet s t)
branch_pairs l w s t h k = pairs l w s t h k (two_contacts l w s.contact t.contact h.listed k.listed)
