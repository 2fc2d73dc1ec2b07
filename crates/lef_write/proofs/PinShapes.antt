-- The shapes at the ports of a pin.
use Rattle.std.proofs.Common.{ℕ, zero, suc, ◌≡◌, ◌≢◌, ◌+◌, ◌<◌, ◌≤◌, ◌==◌, Bool, true, false, cond, List, [], ◌∷◌, ◌++◌, map, filter, refl, sym, ap, ◌∙◌, inl, inr, arith, All, AllPairs}
use Rattle.std.specs.Prelude.{Option, Some, None, find, filter_map, slice_get, option_map, option_and_then}
use Rattle.std.specs.List.{cons_option, flat_map, range_with_len}
use Rattle.std.proofs.lemmas.Bool.{cases_Bool, cases_eq, eqb-true, eq-eqb, ne_eqb}
use Rattle.std.proofs.lemmas.List.{append-nil}
use Rattle.std.proofs.lemmas.List.Elements.{All-head, All-tail, filter_map-append}
use Rattle.cell_num.proofs.Lists.{some_same, all_imply}
use Rattle.cell_num.proofs.Pairs.{pairs_tail, pairs_head}
use Rattle.box_geom.specs.declared.shape.Shape.{Shape}
use Rattle.channel_route.specs.declared.routing.Trunk.{Trunk}
use Rattle.cell_draw.specs.Layouts.{net_no}
use Rattle.lef_write.specs.declared.port.Port.{Port}
use Rattle.lef_write.specs.Ports.{trunk_ports, shape_of, port_shapes}

abbrev pub shape_at : List Shape → Port → Option Shape
shape_at rects port = slice_get rects port.shape

-- ---- ports of one pin, and of another

abbrev pub AreOf : ℕ → List Port → Type 0
AreOf n ports = All (λ (p : Port). p.pin.0 ≡ n) ports

own_ports : (rects : List Shape) (n : ℕ) (ports : List Port) → AreOf n ports → port_shapes ports rects (net_no n) ≡ filter_map (shape_at rects) ports
own_ports rects n [] are = refl
own_ports rects n (p ∷ ps) are = rw (eq-eqb p.pin.0 n (All-head (λ (q : Port). q.pin.0 ≡ n) p ps are)) (ap (λ z. cons_option (slice_get rects p.shape) z) (own_ports rects n ps (All-tail (λ (q : Port). q.pin.0 ≡ n) p ps are)))

other_ports : (rects : List Shape) (n m : ℕ) (ports : List Port) → m ≢ n → AreOf m ports → port_shapes ports rects (net_no n) ≡ []
other_ports rects n m [] differ are = refl
other_ports rects n m (p ∷ ps) differ are =
    let here : p.pin.0 ≡ m = All-head (λ (q : Port). q.pin.0 ≡ m) p ps are in
    rw (ne_eqb p.pin.0 n (λ same. differ (sym here ∙ same))) (other_ports rects n m ps differ (All-tail (λ (q : Port). q.pin.0 ≡ m) p ps are))

none_before : (rects : List Shape) (g : ℕ → List Port) (n a count : ℕ) → ((m : ℕ) → AreOf m (g m)) → n < a → port_shapes (flat_map g (range_with_len a count)) rects (net_no n) ≡ []
none_before rects g n a zero each less = refl
none_before rects g n a (suc count) each less =
    filter_map-append (shape_of (net_no n) rects) (g a) (flat_map g (range_with_len (a + 1) count))
    ∙ rw (other_ports rects n a (g a) (λ same. omega (arith, less, same)) (each a)) (none_before rects g n (a + 1) count each (omega (arith, less)))

-- of the ports of all pins those of one
pub of_pin : (rects : List Shape) (g : ℕ → List Port) (n a count : ℕ) → ((m : ℕ) → AreOf m (g m)) → a ≤ n → n < a + count → port_shapes (flat_map g (range_with_len a count)) rects (net_no n) ≡ filter_map (shape_at rects) (g n)
of_pin rects g n a zero each least less = absurd (omega (arith, least, less))
of_pin rects g n a (suc count) each least less =
    filter_map-append (shape_of (net_no n) rects) (g a) (flat_map g (range_with_len (a + 1) count)) ∙ elim (cases_eq a n) [
      | inl same ↦ ap (λ z. port_shapes (g a) rects (net_no n) ++ z) (none_before rects g n (a + 1) count each (omega (arith, same))) ∙ (append-nil (port_shapes (g a) rects (net_no n)) ∙ last same)
      | inr other ↦ rw (other_ports rects n a (g a) other (each a)) (of_pin rects g n (a + 1) count each (omega (arith, least, other)) (omega (arith, less)))
    ]
  where
    last : a ≡ n → port_shapes (g a) rects (net_no n) ≡ filter_map (shape_at rects) (g n)
    last same = ap (λ m. port_shapes (g m) rects (net_no n)) same ∙ own_ports rects n (g n) (each n)

-- ---- the trunks of a net

-- where the trunks have these shapes at their places
pub at_trunks : (rects : List Shape) (n : ℕ) (shape : Trunk → Shape) (trunks : List Trunk) (places : List ℕ) → ((k : ℕ) → option_and_then (slice_get rects) (slice_get places k) ≡ option_map shape (slice_get trunks k)) → filter_map (shape_at rects) (trunk_ports (net_no n) trunks places) ≡ map shape (filter (λ (t : Trunk). t.net.0 == n) trunks)
at_trunks rects n shape [] places h = refl
at_trunks rects n shape (t ∷ ts) [] h = absurd (nothing (h 0))
  where
    nothing : ◌≡◌ {A = Option Shape} None (Some (shape t)) → ⊥
    nothing e = absurd cc
at_trunks rects n shape (t ∷ ts) (place ∷ places) h =
    let here : slice_get rects place ≡ Some (shape t) = h 0 in
    let rest : filter_map (shape_at rects) (trunk_ports (net_no n) ts places) ≡ map shape (filter (λ (t : Trunk). t.net.0 == n) ts) = at_trunks rects n shape ts places (λ k. h (suc k)) in
    elim (cases_Bool (t.net.0 == n)) [
      | inl own ↦ rw (own, here) (ap (λ z. shape t ∷ z) rest)
      | inr other ↦ rw other rest
    ]

abbrev pub Ascend : Trunk → Trunk → Type 0
Ascend a b = a.net.0 < b.net.0

none_kept : (n : ℕ) (trunks : List Trunk) → All (λ (t : Trunk). n < t.net.0) trunks → filter (λ (t : Trunk). t.net.0 == n) trunks ≡ []
none_kept n [] all = refl
none_kept n (t ∷ ts) all =
    let less : n < t.net.0 = All-head (λ (u : Trunk). n < u.net.0) t ts all in
    rw (ne_eqb t.net.0 n (λ same. omega (arith, less, same))) (none_kept n ts (All-tail (λ (u : Trunk). n < u.net.0) t ts all))

-- where each net has one trunk, that is the first of its net
pub one_trunk : (n : ℕ) (trunks : List Trunk) (t : Trunk) → AllPairs Ascend trunks → find (λ (u : Trunk). u.net.0 == n) trunks ≡ Some t → filter (λ (u : Trunk). u.net.0 == n) trunks ≡ t ∷ []
one_trunk n [] t order found = absurd cc
one_trunk n (u ∷ us) t order found = by (u.net.0 == n) refl (one_trunk n us t (pairs_tail Ascend u us order))
  where
    by : (b : Bool) → (u.net.0 == n) ≡ b → (find (λ (u : Trunk). u.net.0 == n) us ≡ Some t → filter (λ (u : Trunk). u.net.0 == n) us ≡ t ∷ []) → filter (λ (u : Trunk). u.net.0 == n) (u ∷ us) ≡ t ∷ []
    by true own rest =
        let is : u ≡ t = some_same u t (sym (ap (λ b. cond b (Some u) (find (λ (u : Trunk). u.net.0 == n) us)) own) ∙ found) in
        let net : u.net.0 ≡ n = eqb-true u.net.0 n own in
        rw own (ap (λ z. u ∷ z) (none_kept n us (all_imply (Ascend u) (λ (v : Trunk). n < v.net.0) us (λ v less. omega (arith, less, net)) (pairs_head Ascend u us order))) ∙ ap (λ z. z ∷ []) is)
    by false other rest = rw other (rest (sym (ap (λ b. cond b (Some u) (find (λ (u : Trunk). u.net.0 == n) us)) other) ∙ found))

-- the trunks of a net are the first that is found and others
pub record FirstKept (n : ℕ) (trunks : List Trunk) (t : Trunk) : Type 0 where
  pub others : List Trunk
  pub is : filter (λ (u : Trunk). u.net.0 == n) trunks ≡ t ∷ others

later : (n : ℕ) (u : Trunk) (us : List Trunk) (t : Trunk) → (u.net.0 == n) ≡ false → FirstKept n us t → FirstKept n (u ∷ us) t
later n u us t other k = record { others = k.others; is = rw other k.is }

pub first_kept : (n : ℕ) (trunks : List Trunk) (t : Trunk) → find (λ (u : Trunk). u.net.0 == n) trunks ≡ Some t → FirstKept n trunks t
first_kept n [] t found = absurd cc
first_kept n (u ∷ us) t found = by (u.net.0 == n) refl (first_kept n us t)
  where
    by : (b : Bool) → (u.net.0 == n) ≡ b → (find (λ (u : Trunk). u.net.0 == n) us ≡ Some t → FirstKept n us t) → FirstKept n (u ∷ us) t
    by true own rest =
        let is : u ≡ t = some_same u t (sym (ap (λ b. cond b (Some u) (find (λ (u : Trunk). u.net.0 == n) us)) own) ∙ found) in
        record { others = filter (λ (v : Trunk). v.net.0 == n) us; is = rw own (ap (λ z. z ∷ filter (λ (v : Trunk). v.net.0 == n) us) is) }
    by false other rest = later n u us t other (rest (sym (ap (λ b. cond b (Some u) (find (λ (u : Trunk). u.net.0 == n) us)) other) ∙ found))
