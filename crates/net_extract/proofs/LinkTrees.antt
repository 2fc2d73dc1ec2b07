-- Pieces that a contact or a via links come into one tree.
use Rattle.std.proofs.Common.{◌≡◌, ℕ, ◌+◌, ◌<◌, ◌≤◌, ℤ, ◌≤ℤ◌, ◌<ℤ◌, int_le, true, false, List, [], ◌∷◌, ◌++◌, length, get_or, take, arith, refl, sym, subst, ap, ◌∙◌, ◌⊎◌, inl, inr, IsSorted}
use Rattle.std.proofs.lemmas.Int.{ints}
use Rattle.std.proofs.lemmas.Bool.{cases_lt}
use Rattle.std.proofs.lemmas.List.{take_more, take_all}
use Rattle.std.proofs.lemmas.List.Elements.{Contains-append_cases, Contains-append_left, Contains-append_right}
use Rattle.std.proofs.lemmas.Option.{slice_get_within, get_or_from_slice_get, slice_get-get_or}
use Rattle.std.specs.List.{Contains}
use Rattle.box_geom.specs.Chains.{Chain}
use Rattle.box_geom.specs.declared.layer.Layer.{Layer}
use Rattle.box_geom.specs.declared.layer.Layer.TheVariants.{Contact, Via}
use Rattle.box_geom.specs.declared.shape.Shape.{Shape}
use Rattle.scmos_rules.specs.Layout.{On}
use Rattle.scmos_rules.specs.declared.rules.Deck.TheVariants.{Plain}
use Rattle.number_trees.proofs.Chains.{none, one}
use Rattle.net_extract.specs.Bonds.{AreJoined, Bond, touching, joining, tying, Paired}
use Rattle.number_trees.specs.Classes.{AreKin, InTree, AreLow, IsJoined, AreSound, AreTrees, AreTried, IsTried}
use Rattle.net_extract.specs.Connections.{blank}
use Rattle.net_extract.specs.Links.{AreLinked, InTreeOrLinked, AreInOneTree, AreUnder}
use Rattle.net_extract.specs.Meetings.{links_kind, sharing_cell, is_reached}
use Rattle.net_extract.specs.Nets.{Joins, by_contact, by_via, Through}
use Rattle.net_extract.specs.Pieces.{rect_of, piece_cmp}
use Rattle.net_extract.specs.declared.piece.Conductor.{Conductor}
use Rattle.net_extract.specs.declared.piece.Piece.{Piece}
use Rattle.net_extract.proofs.Bonds.{carried_steps}
use Rattle.number_trees.proofs.Classing.{GoesBack, IsBelow, rechained, AreSettled, apart_is, none_tried, more_tried, cut_short, tried_all, none_settled, more_settled, settled_joined}
use Rattle.net_extract.proofs.Filling.{and_parts}
use Rattle.net_extract.proofs.Finding.{shows, shown}
use Rattle.number_trees.proofs.Forests.{class_of_tree, joining_is, tree_back, tree_both, up_tree, sound_low}
use Rattle.net_extract.proofs.Linking.{cell_decides, joined_reached}
use Rattle.net_extract.proofs.Numbers.{swapped}
use Rattle.net_extract.proofs.Pairing.{paired_back}
use Rattle.net_extract.proofs.Ranking.{ordered}

-- ---- linked pieces by number
linked_back : (z : Shape) (ps : List Piece) → GoesBack (AreLinked z ps)
linked_back z ps i j p =
    let l = p.joined in
    record { one = p.other; other = p.one; at_one = p.at_other; at_other = p.at_one; joined = record { x = l.x; y = l.y; in_p = l.in_q; in_q = l.in_p; through = swapped (z ∷ []) l.x l.y p.one.kind p.other.kind l.through } }

linked_below : (z : Shape) (ps : List Piece) → IsBelow (length ps) (AreLinked z ps)
linked_below z ps i j p = (slice_get_within ps i p.one p.at_one, slice_get_within ps j p.other p.at_other)

linked_of : (z : Shape) (ps : List Piece) (i j : ℕ) → i < length ps → j < length ps → AreJoined (z ∷ []) (get_or ps i blank) (get_or ps j blank) → AreLinked z ps i j
linked_of z ps i j li lj h = record { one = get_or ps i blank; other = get_or ps j blank; at_one = slice_get-get_or ps i blank li; at_other = slice_get-get_or ps j blank lj; joined = h }

joined_of : (z : Shape) (ps : List Piece) (i j : ℕ) → AreLinked z ps i j → AreJoined (z ∷ []) (get_or ps i blank) (get_or ps j blank)
joined_of z ps i j p = subst (λ q. AreJoined (z ∷ []) q (get_or ps j blank)) (sym (get_or_from_slice_get ps i p.one blank p.at_one)) (subst (λ q. AreJoined (z ∷ []) p.one q) (sym (get_or_from_slice_get ps j p.other blank p.at_other)) p.joined)

first_reached : (z : Shape) (ps : List Piece) (i j : ℕ) → AreLinked z ps i j → is_reached z (get_or ps i blank) ≡ true
first_reached z ps i j p = joined_reached z (get_or ps i blank) (get_or ps j blank) (joined_of z ps i j p)

other_reached : (z : Shape) (ps : List Piece) (i j : ℕ) → AreLinked z ps i j → is_reached z (get_or ps j blank) ≡ true
other_reached z ps i j p = first_reached z ps j i (linked_back z ps i j p)

-- what begins above a contact or a via is not reached by it
reached_below : (z : Shape) (p : Piece) → is_reached z p ≡ true → p.low <ℤ z.rect.y2
reached_below z p e = let o = (cell_decides (rect_of p) z.rect).0 (and_parts (links_kind z.layer p.kind) (sharing_cell (rect_of p) z.rect) e).1 in o.1.0

pub none_reached : (z : Shape) (ps : List Piece) → IsSorted piece_cmp ps → (k : ℕ) → k < length ps → int_le z.rect.y2 (get_or ps k blank).low ≡ true → (j : ℕ) → k ≤ j → j < length ps → is_reached z (get_or ps j blank) ≡ true → ⊥
none_reached z ps up k lk above j le lj e =
    let b = reached_below z (get_or ps j blank) e in
    let o : (get_or ps k blank).low ≤ℤ (get_or ps j blank).low = (ordered ps blank up k j le lj).row in
    omega (arith, ints, above)

-- ---- trees that stand already, and what a contact or a via links
or_back : (old : List ℕ) (z : Shape) (ps : List Piece) → GoesBack (InTreeOrLinked old z ps)
or_back old z ps i j (inl t) = inl (tree_back old i j t)
or_back old z ps i j (inr h) = inr (linked_back z ps i j h)

self_sound : (old : List ℕ) (z : Shape) (ps : List Piece) → length old ≡ length ps → AreLow old → AreSound (length ps) (InTreeOrLinked old z ps) old
self_sound old z ps e lows = record {
  count = e;
  low = λ i l. lows.low i (omega (arith, e, l));
  reach = λ i l. one (InTreeOrLinked old z ps) i (get_or old i 0) (inl (up_tree old i i (omega (arith, e, l)) (none (AreKin old) i i refl)));
}

-- what is sound by trees is so by the relation that these are sound by
over_sound : (n : ℕ) (R : ℕ → ℕ → Type 0) → GoesBack R → (z : Shape) (ps : List Piece) → ((a b : ℕ) → AreLinked z ps a b → Chain R a b) → (mid new : List ℕ) → AreSound n R mid → AreSound n (InTreeOrLinked mid z ps) new → AreSound n R new
over_sound n R back z ps there mid new was is = record { count = is.count; low = is.low; reach = λ i l. rechained (InTreeOrLinked mid z ps) R step i (get_or new i 0) (is.reach i l) }
  where
    step : (a b : ℕ) → InTreeOrLinked mid z ps a b → Chain R a b
    step a b (inl t) = class_of_tree n R back mid was a b t
    step a b (inr h) = there a b h

here_sound : (old : List ℕ) (z : Shape) (ps : List Piece) (mid new : List ℕ) → AreSound (length ps) (InTreeOrLinked old z ps) mid → AreSound (length ps) (InTreeOrLinked mid z ps) new → AreSound (length ps) (InTreeOrLinked old z ps) new
here_sound old z ps mid new was is = over_sound (length ps) (InTreeOrLinked old z ps) (or_back old z ps) z ps (λ a b h. one (InTreeOrLinked old z ps) a b (inr h)) mid new was is

-- ---- one pair
pub linked_tried : (z : Shape) (ps : List Piece) (i j : ℕ) (old new : List ℕ) → length old ≡ length ps → AreLow old → i < length ps → j < length ps → AreJoined (z ∷ []) (get_or ps i blank) (get_or ps j blank) → IsJoined i j old new → IsTried (length ps) (InTreeOrLinked old z ps) (AreLinked z ps) i j old new
linked_tried z ps i j old new e lows li lj h made = joining_is (length ps) (InTreeOrLinked old z ps) (AreLinked z ps) (or_back old z ps) i j old new li lj (inr (linked_of z ps i j li lj h)) (self_sound old z ps e lows) made

pub apart_tried : (z : Shape) (ps : List Piece) (i j : ℕ) (old : List ℕ) → length old ≡ length ps → AreLow old → (AreJoined (z ∷ []) (get_or ps i blank) (get_or ps j blank) → ⊥) → IsTried (length ps) (InTreeOrLinked old z ps) (AreLinked z ps) i j old old
apart_tried z ps i j old e lows apart = apart_is (length ps) (InTreeOrLinked old z ps) (AreLinked z ps) i j old (self_sound old z ps e lows) (λ p. apart (joined_of z ps i j p))

-- ---- one piece and those behind it
abbrev pub Tried : Shape → List Piece → ℕ → ℕ → List ℕ → List ℕ → Type 0
Tried z ps i k old new = AreTried (length ps) (InTreeOrLinked old z ps) (AreLinked z ps) i k old new

pub first_tried : (z : Shape) (ps : List Piece) (i : ℕ) (old : List ℕ) → length old ≡ length ps → AreLow old → Tried z ps i (i + 1) old old
first_tried z ps i old e lows = none_tried (length ps) (InTreeOrLinked old z ps) (AreLinked z ps) i old (self_sound old z ps e lows)

pub one_more_tried : (z : Shape) (ps : List Piece) (i k : ℕ) (old mid new : List ℕ) → Tried z ps i k old mid → IsTried (length ps) (InTreeOrLinked mid z ps) (AreLinked z ps) i k mid new → Tried z ps i (k + 1) old new
one_more_tried z ps i k old mid new was is = more_tried (length ps) (InTreeOrLinked old z ps) (AreLinked z ps) i k old mid new was (record { sound = here_sound old z ps mid new was.sound is.sound; keeps = is.keeps; joined = is.joined })

pub tried_short : (z : Shape) (ps : List Piece) → IsSorted piece_cmp ps → (i k : ℕ) (old new : List ℕ) → k < length ps → int_le z.rect.y2 (get_or ps k blank).low ≡ true → Tried z ps i k old new → Tried z ps i (length ps) old new
tried_short z ps up i k old new lk above was = cut_short (length ps) (InTreeOrLinked old z ps) (AreLinked z ps) i k old new (λ j le lj p. none_reached z ps up k lk above j le lj (other_reached z ps i j p)) was

pub all_tried : (z : Shape) (ps : List Piece) (i k : ℕ) (old new : List ℕ) → length ps ≤ k → Tried z ps i k old new → Tried z ps i (length ps) old new
all_tried z ps i k old new all was = tried_all (length ps) (InTreeOrLinked old z ps) (AreLinked z ps) i k old new all was

pub tried_low : (z : Shape) (ps : List Piece) (i k : ℕ) (old new : List ℕ) → Tried z ps i k old new → AreLow new
tried_low z ps i k old new is = sound_low (length ps) (InTreeOrLinked old z ps) new is.sound

pub unreached_tried : (z : Shape) (ps : List Piece) (i : ℕ) (old : List ℕ) → length old ≡ length ps → AreLow old → is_reached z (get_or ps i blank) ≡ false → Tried z ps i (length ps) old old
unreached_tried z ps i old e lows out = cut_short (length ps) (InTreeOrLinked old z ps) (AreLinked z ps) i (i + 1) old old (λ j le lj p. let t = first_reached z ps i j p in absurd (cc (sym out ∙ t))) (first_tried z ps i old e lows)

-- ---- all pieces
abbrev pub Settled : Shape → List Piece → ℕ → List ℕ → List ℕ → Type 0
Settled z ps k old new = AreSettled (length ps) (InTreeOrLinked old z ps) (AreLinked z ps) k old new

pub first_settled : (z : Shape) (ps : List Piece) (old : List ℕ) → length old ≡ length ps → AreLow old → Settled z ps 0 old old
first_settled z ps old e lows = none_settled (length ps) (InTreeOrLinked old z ps) (AreLinked z ps) old (self_sound old z ps e lows)

pub one_more_settled : (z : Shape) (ps : List Piece) (k : ℕ) (old mid new : List ℕ) → Settled z ps k old mid → Tried z ps k (length ps) mid new → Settled z ps (k + 1) old new
one_more_settled z ps k old mid new was is = more_settled (length ps) (InTreeOrLinked old z ps) (AreLinked z ps) (linked_below z ps) k old mid new was (record { sound = here_sound old z ps mid new was.sound is.sound; keeps = is.keeps; joined = is.joined })

pub settled_short : (z : Shape) (ps : List Piece) → IsSorted piece_cmp ps → (k : ℕ) (old new : List ℕ) → k < length ps → int_le z.rect.y2 (get_or ps k blank).low ≡ true → Settled z ps k old new → Settled z ps (length ps) old new
settled_short z ps up k old new lk above was = record {
  sound = was.sound;
  keeps = was.keeps;
  joined = λ i j l m p. elim (cases_lt i k) [ inl less ↦ was.joined i j less m p | inr most ↦ absurd (none_reached z ps up k lk above i most l (first_reached z ps i j p)) ];
}

pub settled_low : (z : Shape) (ps : List Piece) (k : ℕ) (old new : List ℕ) → Settled z ps k old new → AreLow new
settled_low z ps k old new is = sound_low (length ps) (InTreeOrLinked old z ps) new is.sound

pub settled_linked : (z : Shape) (ps : List Piece) (k : ℕ) (old new : List ℕ) → length ps ≤ k → Settled z ps k old new → AreTrees (length ps) (InTreeOrLinked old z ps) new
settled_linked z ps k old new all is = record { sound = is.sound; joined = each }
  where
    each : (i j : ℕ) → InTreeOrLinked old z ps i j → InTree new i j
    each i j (inl t) = is.keeps.kept i j t
    each i j (inr p) = settled_joined (length ps) (InTreeOrLinked old z ps) (AreLinked z ps) (linked_back z ps) (linked_below z ps) k old new all is i j p

-- ---- pieces of one tree
pub none_under : (parents : List ℕ) (z : Shape) (ps : List Piece) (i r : ℕ) → AreUnder parents z ps i i r
none_under parents z ps i r = record { under = λ j le l e. absurd (omega (arith, le, l)) }

pub more_under : (parents : List ℕ) (z : Shape) (ps : List Piece) (i k r : ℕ) → (is_reached z (get_or ps k blank) ≡ true → InTree parents k r) → AreUnder parents z ps i k r → AreUnder parents z ps i (k + 1) r
more_under parents z ps i k r here was = record {
  under = λ j le l e. elim (cases_lt j k) [ inl less ↦ was.under j le less e | inr most ↦ (let same : ◌≡◌ {A = ℕ} j k = omega (arith, most, l) in subst (λ n. InTree parents n r) (sym same) (here (subst (λ n. is_reached z (get_or ps n blank) ≡ true) same e))) ];
}

pub under_short : (parents : List ℕ) (z : Shape) (ps : List Piece) → IsSorted piece_cmp ps → (i k r : ℕ) → k < length ps → int_le z.rect.y2 (get_or ps k blank).low ≡ true → AreUnder parents z ps i k r → AreUnder parents z ps i (length ps) r
under_short parents z ps up i k r lk above was = record {
  under = λ j le l e. elim (cases_lt j k) [ inl less ↦ was.under j le less e | inr most ↦ absurd (none_reached z ps up k lk above j most l e) ];
}

pub under_all : (parents : List ℕ) (z : Shape) (ps : List Piece) (i k r : ℕ) → length ps ≤ k → AreUnder parents z ps i k r → AreUnder parents z ps i (length ps) r
under_all parents z ps i k r all was = record { under = λ j le l e. was.under j le (omega (arith, all, l)) e }

-- no piece below number k is reached
pub record AreUnreached (z : Shape) (ps : List Piece) (k : ℕ) : Type 0 where
  pub out : (j : ℕ) → j < k → is_reached z (get_or ps j blank) ≡ true → ⊥

pub none_unreached : (z : Shape) (ps : List Piece) → AreUnreached z ps 0
none_unreached z ps = record { out = λ j l e. absurd (omega (arith, l)) }

pub more_unreached : (z : Shape) (ps : List Piece) (k : ℕ) → is_reached z (get_or ps k blank) ≡ false → AreUnreached z ps k → AreUnreached z ps (k + 1)
more_unreached z ps k here was = record {
  out = λ j l e. elim (cases_lt j k) [ inl less ↦ was.out j less e | inr most ↦ (let same : ◌≡◌ {A = ℕ} j k = omega (arith, most, l) in let t = subst (λ n. is_reached z (get_or ps n blank) ≡ true) same e in absurd (cc (sym here ∙ t))) ];
}

pub under_tree : (parents : List ℕ) (z : Shape) (ps : List Piece) (k r : ℕ) → AreUnreached z ps k → AreUnder parents z ps k (length ps) r → AreInOneTree parents z ps
under_tree parents z ps k r out under = record {
  joined = λ i j p. let b = linked_below z ps i j p in tree_both parents i r j (stands i b.0 (first_reached z ps i j p)) (tree_back parents j r (stands j b.1 (other_reached z ps i j p)));
}
  where
    stands : (i : ℕ) → i < length ps → is_reached z (get_or ps i blank) ≡ true → InTree parents i r
    stands i l e = elim (cases_lt i k) [ inl less ↦ absurd (out.out i less e) | inr most ↦ under.under i most l e ]

pub unreached_tree : (parents : List ℕ) (z : Shape) (ps : List Piece) (k : ℕ) → length ps ≤ k → AreUnreached z ps k → AreInOneTree parents z ps
unreached_tree parents z ps k all out = record { joined = λ i j p. absurd (let l = (linked_below z ps i j p).0 in out.out i (omega (arith, all, l)) (first_reached z ps i j p)) }

pub one_tree_linked : (z : Shape) (ps : List Piece) (old : List ℕ) → length old ≡ length ps → AreLow old → AreInOneTree old z ps → AreTrees (length ps) (InTreeOrLinked old z ps) old
one_tree_linked z ps old e lows is = record { sound = self_sound old z ps e lows; joined = each }
  where
    each : (i j : ℕ) → InTreeOrLinked old z ps i j → InTree old i j
    each i j (inl t) = t
    each i j (inr p) = is.joined i j p

-- ---- one contact or via more
on_within : (s t : List Shape) → ((q : Shape) → Contains s q → Contains t q) → (layer : Layer) (x y : ℤ) → On layer s x y → On layer t x y
on_within s t f layer x y on = let w = shows s layer x y on in shown t layer w.shape x y (f w.shape w.listed) w.on w.holds

joins_within : (s t : List Shape) → ((q : Shape) → Contains s q → Contains t q) → (x y : ℤ) (k l : Conductor) → Joins s x y k l → Joins t x y k l
joins_within s t f x y k l (by_contact u low on) = by_contact u low (on_within s t f Contact x y on)
joins_within s t f x y k l (by_via u v on) = by_via u v (on_within s t f Via x y on)

joined_within : (s t : List Shape) → ((q : Shape) → Contains s q → Contains t q) → (p q : Piece) → AreJoined s p q → AreJoined t p q
joined_within s t f p q j = record { x = j.x; y = j.y; in_p = j.in_p; in_q = j.in_q; through = elim j.through [ inl a ↦ inl (joins_within s t f j.x j.y p.kind q.kind a) | inr a ↦ inr (joins_within s t f j.x j.y q.kind p.kind a) ] }

paired_within : (s t : List Shape) → ((q : Shape) → Contains s q → Contains t q) → (ps : List Piece) (i j : ℕ) → Paired Plain s ps i j → Paired Plain t ps i j
paired_within s t f ps i j p = record { one = p.one; other = p.other; at_one = p.at_one; at_other = p.at_other; bond = by p.bond }
  where
    by : Bond Plain s p.one p.other → Bond Plain t p.one p.other
    by (touching e h) = touching e h
    by (joining b) = joining (joined_within s t f p.one p.other b)
    by (tying e h) = absurd (cc e)

-- a cell of the layer in one of two lists
on_either : (zs : List Shape) (z : Shape) (layer : Layer) (x y : ℤ) → On layer (zs ++ z ∷ []) x y → On layer zs x y ⊎ On layer (z ∷ []) x y
on_either zs z layer x y on =
    let w = shows (zs ++ z ∷ []) layer x y on in
    elim (Contains-append_cases zs (z ∷ []) w.shape w.listed) [
      | inl l ↦ inl (shown zs layer w.shape x y l w.on w.holds)
      | inr l ↦ inr (shown (z ∷ []) layer w.shape x y l w.on w.holds)
    ]

joins_either : (zs : List Shape) (z : Shape) (x y : ℤ) (k l : Conductor) → Joins (zs ++ z ∷ []) x y k l → Joins zs x y k l ⊎ Joins (z ∷ []) x y k l
joins_either zs z x y k l (by_contact u low on) = elim (on_either zs z Contact x y on) [ inl a ↦ inl (by_contact u low a) | inr a ↦ inr (by_contact u low a) ]
joins_either zs z x y k l (by_via u v on) = elim (on_either zs z Via x y on) [ inl a ↦ inl (by_via u v a) | inr a ↦ inr (by_via u v a) ]

joined_either : (zs : List Shape) (z : Shape) (p q : Piece) → AreJoined (zs ++ z ∷ []) p q → AreJoined zs p q ⊎ AreJoined (z ∷ []) p q
joined_either zs z p q j =
    elim j.through [
      | inl a ↦ elim (joins_either zs z j.x j.y p.kind q.kind a) [ inl b ↦ inl (at zs (inl b)) | inr b ↦ inr (at (z ∷ []) (inl b)) ]
      | inr a ↦ elim (joins_either zs z j.x j.y q.kind p.kind a) [ inl b ↦ inl (at zs (inr b)) | inr b ↦ inr (at (z ∷ []) (inr b)) ]
    ]
  where
    at : (s : List Shape) → Through s j.x j.y p.kind q.kind → AreJoined s p q
    at s t = record { x = j.x; y = j.y; in_p = j.in_p; in_q = j.in_q; through = t }

linked_more : (zs : List Shape) (z : Shape) (ps : List Piece) (old new : List ℕ) → AreTrees (length ps) (Paired Plain zs ps) old → AreTrees (length ps) (InTreeOrLinked old z ps) new → AreTrees (length ps) (Paired Plain (zs ++ z ∷ []) ps) new
linked_more zs z ps old new was is = record {
  sound = over_sound (length ps) R (paired_back Plain (zs ++ z ∷ []) ps) z ps there old new wider is.sound;
  joined = λ i j p. each i j p p.bond;
}
  where
    R : ℕ → ℕ → Type 0
    R = Paired Plain (zs ++ z ∷ []) ps

    front : (q : Shape) → Contains zs q → Contains (zs ++ z ∷ []) q
    front q c = Contains-append_left zs (z ∷ []) q c

    back : (q : Shape) → Contains (z ∷ []) q → Contains (zs ++ z ∷ []) q
    back q c = Contains-append_right zs (z ∷ []) q c

    wider : AreSound (length ps) (Paired Plain (zs ++ z ∷ []) ps) old
    wider = record { count = was.sound.count; low = was.sound.low; reach = λ i l. let c = was.sound.reach i l in carried_steps (Paired Plain zs ps) (Paired Plain (zs ++ z ∷ []) ps) (λ n. n) (paired_within zs (zs ++ z ∷ []) front ps) c.count i (get_or old i 0) c.steps }

    there : (a b : ℕ) → AreLinked z ps a b → Chain (Paired Plain (zs ++ z ∷ []) ps) a b
    there a b p = one (Paired Plain (zs ++ z ∷ []) ps) a b (record { one = p.one; other = p.other; at_one = p.at_one; at_other = p.at_other; bond = joining (joined_within (z ∷ []) (zs ++ z ∷ []) back p.one p.other p.joined) })

    each : (i j : ℕ) → (p : Paired Plain (zs ++ z ∷ []) ps i j) → Bond Plain (zs ++ z ∷ []) p.one p.other → InTree new i j
    each i j p (touching e h) = is.joined i j (inl (was.joined i j (record { one = p.one; other = p.other; at_one = p.at_one; at_other = p.at_other; bond = touching e h })))
    each i j p (joining b) = elim (joined_either zs z p.one p.other b) [
      | inl a ↦ is.joined i j (inl (was.joined i j (record { one = p.one; other = p.other; at_one = p.at_one; at_other = p.at_other; bond = joining a })))
      | inr a ↦ is.joined i j (inr (record { one = p.one; other = p.other; at_one = p.at_one; at_other = p.at_other; joined = a }))
    ]
    each i j p (tying d h) = absurd (cc d)

pub more_linked : (zs : List Shape) (k : ℕ) (z d : Shape) (ps : List Piece) (old new : List ℕ) → k < length zs → get_or zs k d ≡ z → AreTrees (length ps) (Paired Plain (take k zs) ps) old → AreTrees (length ps) (InTreeOrLinked old z ps) new → AreTrees (length ps) (Paired Plain (take (k + 1) zs) ps) new
more_linked zs k z d ps old new l e was is = subst (λ s. AreTrees (length ps) (Paired Plain s ps) new) (sym (take_more zs k d l ∙ ap (λ q. take k zs ++ q ∷ []) e)) (linked_more (take k zs) z ps old new was is)

pub all_linked : (zs : List Shape) (k : ℕ) (ps : List Piece) (now : List ℕ) → length zs ≤ k → AreTrees (length ps) (Paired Plain (take k zs) ps) now → AreTrees (length ps) (Paired Plain zs ps) now
all_linked zs k ps now l is = subst (λ s. AreTrees (length ps) (Paired Plain s ps) now) (take_all k zs l) is

pub linked_low : (zs : List Shape) (k : ℕ) (ps : List Piece) (now : List ℕ) → AreTrees (length ps) (Paired Plain (take k zs) ps) now → AreLow now
linked_low zs k ps now is = sound_low (length ps) (Paired Plain (take k zs) ps) now is.sound
