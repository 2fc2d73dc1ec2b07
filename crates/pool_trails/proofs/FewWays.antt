-- Where fingers are left out, no gate of the others has too many ways: its fingers of the row would be left out too.
use Rattle.std.specs.Prelude.{ℕ, ◌≡◌, ◌+◌, ◌<◌, ◌≤◌, ◌==◌, Bool, true, false, not, if◌then◌else◌, ltb, List}
use Rattle.std.specs.Prelude.{[], ◌∷◌, Contains, None, Some, cond, length, map}
use Rattle.std.specs.List.{filter, list_any, range_with_len}
use Rattle.std.proofs.Common.{refl, sym, ap, subst, arith, ◌∙◌, inl, inr}
use Rattle.std.proofs.lemmas.Bool.{both_ways, cases_Bool, eqb-true, false_from_ne_true}
use Rattle.std.proofs.lemmas.Bool.{lt-ltb, ltb-false, ne_eqb}
use Rattle.std.proofs.lemmas.List.{length-map}
use Rattle.std.proofs.lemmas.List.Elements.{All-contains}
use Rattle.std.proofs.lemmas.List.Sums.{count_by-le-length, length-filter}
use Rattle.cell_num.proofs.Pairs.{Some', test_finds}
use Rattle.cell_num.specs.declared.finger.Finger.{Finger}
use Rattle.cell_num.specs.declared.finger.Fingers.{Fingers}
use Rattle.cell_num.specs.declared.finger.Row.{Row}
use Rattle.cell_num.specs.declared.finger.Row.TheVariants.{P, N}
use Rattle.cell_num.specs.declared.net.NetNo.{NetNo}
use Rattle.cell_num.specs.Fingers.{AreFingers, on_gate}
use Rattle.trail_state.specs.declared.edge.FingerEnds.{FingerEnds}
use Rattle.trail_state.specs.Choices.{is_on}
use Rattle.trail_state.specs.Levels.{IsGate}
use Rattle.trail_state.specs.Nodes.{has_net, is_end_in, is_net_in}
use Rattle.trail_state.specs.Pairings as filled
use Rattle.trail_state.specs.Pairings.{gate_of, nets_at, nets_in}
use Rattle.trail_state.proofs.Law.{is_net_gate}
use Rattle.trail_state.proofs.Members.{Passes, filter_off, filter_on, passes_from, passes_to}
use Rattle.trail_state.proofs.Opened.{in_net}
use Rattle.open_gates.specs.declared.gates.OpenGates.{OpenGates}
use Rattle.open_gates.specs.Open.{fingers_at, fingers_beside, has_more}
use Rattle.fewer_fingers.specs.declared.fewer.LeftOut.{LeftOut}
use Rattle.pool_trails.specs.declared.opening.Opening.TheVariants.{Without}
use Rattle.pool_check.specs.Accepted.{has_many_ways}
use Rattle.trail_pools.specs.Choices.{ends_on, first_front, is_long_front}
use Rattle.pool_trails.specs.Ended.{HasManyOpen}
use Rattle.fewer_fingers.specs.Fewer.{is_out, staying, staying_in, without_in}
use Rattle.pool_trails.specs.Opening.{all_nets, gates_left_out, is_left_out, open_with_more, opened_of}
use Rattle.pool_trails.specs.Opening.{other_row, out_of, staying_by}
use Rattle.fewer_fingers.proofs.Thinned.{stays}
use Rattle.fewer_fingers.proofs.Counts.{all_stay, none_stay, staying_fingers}
use Rattle.trail_pools.proofs.LongFronts.{none_long}
use Rattle.trail_search.proofs.Finds.{found_is}
use Rattle.pool_trails.proofs.StayOpen.{has_many, left_open, many_is, nets_have, one_of, open_many, row_is}
use Rattle.pool_trails.proofs.FewerNets.{long_with_more}

-- ---- the fingers on a gate, where some are left out

cons_same : {X : Type 0} (p : X → Bool) (x : X) (ys zs : List X) → filter p ys ≡ filter p zs
    → filter p (x ∷ ys) ≡ filter p (x ∷ zs)
cons_same {X} p x ys zs same = ap (λ (l : List X). cond (p x) (x ∷ l) l) same

module _ (out : LeftOut) where
  -- those on a gate where none is left out
  same_on : (g : ℕ) (fs : List Finger) → is_out out g ≡ false
      → filter (is_on g) (staying_in out fs) ≡ filter (is_on g) fs
  same_on g [] here = refl
  same_on g (x ∷ xs) here =
      elim (cases_Bool (is_out out x.gate.0)) [
        | inl gone ↦
            ap (filter (is_on g)) (filter_off (stays out) x xs (ap not gone)) ∙ same_on g xs here
            ∙ sym (filter_off (is_on g) x xs
            (ne_eqb x.gate.0 g (λ e. both_ways (is_out out g) here (sym (ap (is_out out) e) ∙ gone))))
        | inr kept ↦
            ap (filter (is_on g)) (filter_on (stays out) x xs (ap not kept))
            ∙ cons_same (is_on g) x (staying_in out xs) xs (same_on g xs here)
      ]

  -- nets at the ends of those that stay are nets at ends
  nets_more : (nets : ℕ) (fs : List Finger) → 0 < length (staying_in out fs) → (net : ℕ)
      → Contains (nets_in (staying_in out fs) nets) net → Contains (nets_in fs nets) net
  nets_more nets fs some net there =
      let p : Passes (is_net_in (staying_in out fs)) (range_with_len 0 nets) net =
      passes_from (is_net_in (staying_in out fs)) (range_with_len 0 nets) net there in
      let filled : is_net_in (staying_in out fs) net ≡ is_end_in (staying_in out fs) net =
      ap (λ b. if b then net == 0 else is_end_in (staying_in out fs) net)
      (ne_eqb (length (staying_in out fs)) 0 (λ none. omega (arith, some, none))) in
      let s : Some' (λ x. has_net net x ≡ true) (staying_in out fs) =
      test_finds (has_net net) (staying_in out fs) (sym filled ∙ p.passes) in
      passes_to (is_net_in fs) (range_with_len 0 nets) net p.there
      (in_net fs net s.it (passes_from (stays out) fs s.it s.there).there s.holds)

  some_of : (g : ℕ) (fs : List Finger) → 0 < on_gate g (staying_in out fs) → 0 < length (staying_in out fs)
  some_of g fs some = omega (arith, some, count_by-le-length (is_on g) (staying_in out fs))

  -- a gate that is filled has no more ways than with all fingers
  filled_more : (row : Row) (f : Fingers) (g : ℕ) → is_out out g ≡ false
      → 0 < on_gate g (staying_in out (fingers_beside (other_row row) f))
      → filled.has_long_front 65536 (without_in row out f) g ≡ true → filled.has_long_front 65536 f g ≡ true
  filled_more P f g here some long =
      long_with_more (gate_of (without_in P out f) g) (gate_of f g) (ap (map nets_at) (same_on g f.p here)) refl
      (nets_more f.nets f.p (some_of g f.p some)) (λ net there. there) 65536 long
  filled_more N f g here some long =
      long_with_more (gate_of (without_in N out f) g) (gate_of f g) refl (ap (map nets_at) (same_on g f.n here))
      (λ net there. there) (nets_more f.nets f.n (some_of g f.n some)) 65536 long

  beside_are : (row : Row) (f : Fingers) → fingers_beside (other_row row) (without_in row out f)
      ≡ staying_in out (fingers_beside (other_row row) f)
  beside_are P f = refl
  beside_are N f = refl

  at_are : (row : Row) (f : Fingers) → fingers_at (other_row row) (without_in row out f) ≡ fingers_at (other_row row) f
  at_are P f = refl
  at_are N f = refl

  nets_are : (row : Row) (f : Fingers) → (without_in row out f).nets ≡ f.nets
  nets_are P f = refl
  nets_are N f = refl

some_in : (r : Row) (f : Fingers) (g : ℕ) → IsGate f g
    → 0 < on_gate g (fingers_beside r f) + on_gate g (fingers_at r f)
some_in P f g some = omega (arith, some)
some_in N f g some = omega (arith, some)

-- ---- a gate of those that stay

module _ (row : Row) (out : LeftOut) (f : Fingers) (g : NetNo) (gate : IsGate (without_in row out f) g.0) where
  abbrev r : Row
  r = other_row row

  abbrev others : Fingers
  others = without_in row out f

  -- whose fingers of the row are left out: those of the other row stand alone
  few_gone : is_out out g.0 ≡ true → has_many r others g ≡ false
  few_gone gone =
      let none : on_gate g.0 (fingers_beside r others) ≡ 0 =
      ap (on_gate g.0) (beside_are out row f) ∙ none_stay out g.0 (fingers_beside r f) gone in
      let more : has_more r others g ≡ true =
      lt-ltb (on_gate g.0 (fingers_beside r others)) (on_gate g.0 (fingers_at r others))
      (omega (arith, none, some_in r others g.0 gate)) in
      let ys : List FingerEnds = ends_on g.0 (fingers_beside r others) in
      let short : length ys ≤ 0 =
      omega (
        arith,
        none,
        length-map (filter (is_on g.0) (fingers_beside r others)) nets_at,
        length-filter (is_on g.0) (fingers_beside r others),
      ) in
      ap (λ b. if b then open_many r others g.0 else filled.has_long_front 65536 others g.0) more
      ∙ none_long 65536 r ys 0 (first_front (ends_on g.0 (fingers_at r others))) (open_many r others g.0) refl short

  module _ (here : is_out out g.0 ≡ false) where
    more_same : has_more r others g ≡ has_more r f g
    more_same =
        let beside : on_gate g.0 (fingers_beside r others) ≡ on_gate g.0 (fingers_beside r f) =
        ap (on_gate g.0) (beside_are out row f) ∙ all_stay out g.0 (fingers_beside r f) here in
        ap (λ n. ltb n (on_gate g.0 (fingers_at r others))) beside
        ∙ ap (λ (fs : List Finger). ltb (on_gate g.0 (fingers_beside r f)) (on_gate g.0 fs)) (at_are out row f)

    open_same : open_many r others g.0 ≡ open_many r f g.0
    open_same =
        let on : filter (is_on g.0) (fingers_beside r others) ≡ filter (is_on g.0) (fingers_beside r f) =
        ap (filter (is_on g.0)) (beside_are out row f) ∙ same_on out g.0 (fingers_beside r f) here in
        ap (λ (fs : List Finger). is_long_front 65536 r (first_front (ends_on g.0 fs))
        (ends_on g.0 (fingers_beside r others))) (at_are out row f)
        ∙ ap (λ (fs : List Finger). is_long_front 65536 r (first_front (ends_on g.0 (fingers_at r f)))
        (map nets_at fs)) on

    some_beside : has_more r f g ≡ false → 0 < on_gate g.0 (staying_in out (fingers_beside r f))
    some_beside none = omega (
      arith,
      ap (on_gate g.0) (beside_are out row f),
      some_in r others g.0 gate,
      ltb-false (on_gate g.0 (fingers_beside r others)) (on_gate g.0 (fingers_at r others)) (more_same ∙ none),
    )

    -- which has few ways with all fingers
    few_kept : has_many r f g ≡ false → has_many r others g ≡ false
    few_kept few = elim (cases_Bool (has_more r f g)) [
      | inl more ↦
          ap (λ b. if b then open_many r others g.0 else filled.has_long_front 65536 others g.0) (more_same ∙ more)
          ∙ open_same ∙ sym (is_of true more) ∙ few
      | inr none ↦
          ap (λ b. if b then open_many r others g.0 else filled.has_long_front 65536 others g.0) (more_same ∙ none)
          ∙ false_from_ne_true (filled.has_long_front 65536 others g.0) (λ long.
          both_ways (filled.has_long_front 65536 f g.0) (sym (is_of false none) ∙ few)
          (filled_more out row f g.0 here (some_beside none) long))
    ]
      where
        is_of : (b : Bool) → has_more r f g ≡ b
            → has_many r f g ≡ (if b then open_many r f g.0 else filled.has_long_front 65536 f g.0)
        is_of b e = ap (λ c. if c then open_many r f g.0 else filled.has_long_front 65536 f g.0) e

-- ---- the fingers that stay

no_gates : (gates : List NetNo) → (length gates == 0) ≡ true → gates ≡ []
no_gates [] e = refl
no_gates (g ∷ gs) e = absurd (omega (arith, eqb-true (length (g ∷ gs)) 0 e))

all_in : (out : LeftOut) → out.gates ≡ [] → (fs : List Finger) → staying_in out fs ≡ fs
all_in out none [] = refl
all_in out none (x ∷ xs) =
    filter_on (stays out) x xs (ap (λ gs. not (list_any (λ (h : NetNo). h.0 == x.gate.0) gs)) none)
    ∙ ap (λ l. x ∷ l) (all_in out none xs)

all_of : (row : Row) (out : LeftOut) (f : Fingers) → out.gates ≡ [] → without_in row out f ≡ f
all_of P out f none =
    ap (λ (fs : List Finger). let g : Fingers = record { nets = f.nets; p = fs; n = f.n } in g) (all_in out none f.p)
all_of N out f none =
    ap (λ (fs : List Finger). let g : Fingers = record { nets = f.nets; p = f.p; n = fs } in g) (all_in out none f.n)

module _ (row : Row) (f : Fingers) where
  abbrev gone : LeftOut
  gone = record { row = row; gates = gates_left_out row f }

  stay_are : staying_by (Without row) f ≡ without_in row gone f
  stay_are = by (length gone.gates == 0) refl
    where
      by : (b : Bool) → (length gone.gates == 0) ≡ b
          → staying (if b then None else Some gone) f ≡ without_in row gone f
      by true e = sym (all_of row gone f (no_gates gone.gates e))
      by false e = refl

  few_of : AreFingers (without_in row gone f) → HasManyOpen (Without row) (without_in row gone f) → ⊥
  few_of ok many =
      let rest : Fingers = without_in row gone f in
      let g : NetNo = many.gate in
      let r : Row = other_row row in
      let opened : OpenGates = opened_of (Without row) rest many.order in
      let p : Passes (has_many_ways rest opened) many.order g =
      found_is (has_many_ways rest opened) many.order g many.first in
      let gate : IsGate rest g.0 = All-contains (λ (h : NetNo). IsGate rest h.0) many.order g many.is.gates p.there in
      let low : g.0 < f.nets =
      subst (λ n. g.0 < n) (nets_are gone row f) (is_net_gate rest g.0 ok gate) in
      let ways : has_many_ways rest opened g ≡ has_many r rest g =
      many_is r rest opened g (left_open row rest ok many.order many.is g p.there)
      (row_is row rest ok many.order many.is g p.there) in
      let out_is : is_out gone g.0 ≡ has_many r f g =
      one_of (is_left_out row f) (all_nets f) g (nets_have f g low)
      ∙ many_is r f (open_with_more r f) g (one_of (has_more r f) (all_nets f) g (nets_have f g low)) (λ _. refl) in
      let few : has_many r rest g ≡ false =
      elim (cases_Bool (is_out gone g.0)) [
        | inl on ↦ few_gone row gone f g gate on
        | inr off ↦ few_kept row gone f g gate off (sym out_is ∙ off)
      ] in
      both_ways (has_many_ways rest opened g) (ways ∙ few) p.passes

pub few_ways : (row : Row) (f : Fingers) → AreFingers f → HasManyOpen (Without row) (staying_by (Without row) f) → ⊥
few_ways row f ok many =
    few_of row f (subst AreFingers (stay_are row f) (staying_fingers f ok (out_of (Without row) f)))
    (subst (HasManyOpen (Without row)) (stay_are row f) many)
