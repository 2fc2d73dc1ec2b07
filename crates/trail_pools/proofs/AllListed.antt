-- The open choices of a gate are those that are listed, up to the order of their edges and half edges.
use Rattle.std.proofs.Common.{ℕ, ◌≡◌, ◌≢◌, ◌<◌, ◌&&◌, Bool, true, false, ltb, if◌then◌else◌, List, [], ◌∷◌, ◌++◌}
use Rattle.std.proofs.Common.{append-nil, Option, Some, None, map, refl, sym, ap, subst, arith, ◌∙◌, inl, inr}
use Rattle.std.proofs.Common.{◌↔◌, All, Contains, IsPermutation}
use Rattle.std.specs.List.{filter, filter_map}
use Rattle.std.proofs.lemmas.Bool.{and_from, and_parts, both_ways, cases_Bool, eqb-true, lt-ltb, ltb-true}
use Rattle.std.proofs.lemmas.List.Sorted.{IsPermutation-append_right, IsPermutation-map, IsPermutation-refl}
use Rattle.std.proofs.lemmas.List.Sorted.{IsPermutation-sym, IsPermutation-trans, length_permutation}
use Rattle.std.proofs.lemmas.List.Sums.{length-filter}
use Rattle.cell_num.specs.declared.finger.Finger.{Finger}
use Rattle.cell_num.specs.declared.finger.Fingers.{Fingers}
use Rattle.cell_num.specs.declared.finger.Row.{Row}
use Rattle.cell_num.specs.declared.finger.Row.TheVariants.{P, N}
use Rattle.cell_num.specs.Fingers.{AreFingers, on_gate}
use Rattle.cell_num.proofs.In.{Image, contains_map, in_map}
use Rattle.cell_num.proofs.Lists.{all_from_contains, contains_here, contains_one, contains_there}
use Rattle.row_model.specs.declared.column.Column.{Column}
use Rattle.row_model.specs.Arrangement.{IsArrangement, fingers_in, place}
use Rattle.trail_state.specs.declared.edge.FingerEnds.{FingerEnds}
use Rattle.trail_state.specs.Choices.{AreEdgesOf, HasChoice, IsChoice, fingers_on, is_on}
use Rattle.trail_state.specs.Pairings.{choices_of, nets_at}
use Rattle.trail_state.proofs.Built.{all_choices}
use Rattle.trail_state.proofs.Grouped.{columns_of_gate}
use Rattle.trail_state.proofs.Members.{filter_on, passes_from}
use Rattle.open_gates.specs.Open.{fingers_at, fingers_beside}
use Rattle.trail_halves.specs.declared.choice.OpenChoice.{OpenChoice}
use Rattle.trail_halves.specs.Open.{IsHalfOpen, IsOpenChoice, half_in, is_filled, is_none, row_of}
use Rattle.trail_halves.proofs.Parted.{Alone, alone_in, other_row}
use Rattle.trail_pools.specs.Choices.{ends_on, filled_choice, first_front, front_of, open_choices_of}
use Rattle.trail_pools.specs.Levels.{IsListed}
use Rattle.trail_pools.specs.Meeting.{stays_open}
use Rattle.trail_pools.proofs.Beside.{Found, Made, e_of, found, made, x_of, y_of}
use Rattle.trail_pools.proofs.Columns.{fewer}
use Rattle.trail_pools.proofs.Halved.{Halved, halved, kept_none}
use Rattle.trail_pools.proofs.Standing.{IsOn, Stands, stand}

-- ---- the list

abbrev pub half_front : Fingers → Row → ℕ → List OpenChoice
half_front f r g = front_of r (ends_on g (fingers_at r f)) (ends_on g (fingers_beside r f))

abbrev pub filled_list : Fingers → ℕ → List OpenChoice
filled_list f g = map filled_choice (choices_of f g)

pub open_list : (f : Fingers) (r : Row) (counted : ℕ → Bool) (g : ℕ) → stays_open f r counted g ≡ true
    → open_choices_of f r counted g ≡ half_front f r g
unfolding open_choices_of
open_list f r counted g on = ap (λ b. if b then half_front f r g else filled_list f g) on

pub closed_list : (f : Fingers) (r : Row) (counted : ℕ → Bool) (g : ℕ) → stays_open f r counted g ≡ false
    → open_choices_of f r counted g ≡ filled_list f g
unfolding open_choices_of
closed_list f r counted g off = ap (λ b. if b then half_front f r g else filled_list f g) off

all_filled : (r : Row) (cs : List Column) → ((c : Column) → Contains cs c → half_in r c ≡ None)
    → filter (is_filled r) cs ≡ cs
all_filled r [] none = refl
all_filled r (c ∷ cs) none =
    filter_on (is_filled r) c cs (ap is_none (none c (contains_here c cs)))
    ∙ ap (λ l. c ∷ l) (all_filled r cs (λ d k. none d (contains_there c cs d k)))

no_members : (hs : List FingerEnds) → IsPermutation [] hs → hs ≡ []
no_members [] h = refl
no_members (x ∷ hs) h = absurd (omega (arith, length_permutation [] (x ∷ hs) h))

module _ (f : Fingers) (ok : AreFingers f) (r : Row) (g : ℕ) (within : g < f.nets) where
  -- a gate whose half columns stay open
  module _ (more : on_gate g (row_of (other_row r) f) < on_gate g (row_of r f)) (choice : OpenChoice)
      (h : IsHalfOpen f r g choice) where
    all_stand : (c : Column) → Contains h.columns c → place r c ≢ None
    all_stand c there none = absurd (omega (arith, more, fewer f ok g within h.columns h.arranges r c there none))

    parts : Halved r h.columns h.edges
    parts = halved r f h.columns h.edges all_stand h.filled

    at_row : (s : Row) → IsPermutation (ends_on g (fingers_at s f)) (map nets_at (fingers_in s h.columns))
    at_row P = IsPermutation-map nets_at (fingers_on g f).p (fingers_in P h.columns) h.arranges.p
    at_row N = IsPermutation-map nets_at (fingers_on g f).n (fingers_in N h.columns) h.arranges.n

    beside_row : (s : Row) → IsPermutation (ends_on g (fingers_beside s f))
        (map nets_at (fingers_in (other_row s) h.columns))
    beside_row P = IsPermutation-map nets_at (fingers_on g f).n (fingers_in N h.columns) h.arranges.n
    beside_row N = IsPermutation-map nets_at (fingers_on g f).p (fingers_in P h.columns) h.arranges.p

    half_found : Found (half_front f r g) choice.edges choice.halves
    half_found =
        let m : Halved r h.columns h.edges = parts in
        let xs : List FingerEnds = ends_on g (fingers_at r f) in
        let ys : List FingerEnds = ends_on g (fingers_beside r f) in
        let hs : List FingerEnds = filter_map (half_in r) h.columns in
        let first : OpenChoice = record { edges = []; halves = xs } in
        let xs_are : IsPermutation xs (map x_of m.pairs ++ choice.halves) =
        IsPermutation-trans xs (map nets_at (fingers_in r h.columns)) (map x_of m.pairs ++ choice.halves) (at_row r)
        (IsPermutation-trans (map nets_at (fingers_in r h.columns)) (map x_of m.pairs ++ hs)
        (map x_of m.pairs ++ choice.halves) m.xs
        (IsPermutation-append_right (map x_of m.pairs) hs choice.halves h.halves)) in
        let ys_are : IsPermutation ys (map y_of m.pairs) = subst (IsPermutation ys) m.ys (beside_row r) in
        let l : Found (half_front f r g) (map e_of m.pairs ++ []) choice.halves =
        found r choice.halves ys (first_front xs) first m.pairs (contains_here first []) xs_are ys_are m.are in
        let es : map e_of m.pairs ++ [] ≡ h.edges = append-nil (map e_of m.pairs) ∙ m.edges in
        record {
          it = l.it;
          there = l.there;
          edges =
              IsPermutation-trans choice.edges h.edges l.it.edges (IsPermutation-sym h.edges choice.edges h.listed)
              (subst (λ e. IsPermutation e l.it.edges) es l.edges);
          halves = l.halves;
        }

  listed_half : (list : List OpenChoice) (choice : OpenChoice) → Found list choice.edges choice.halves
      → IsListed list choice
  listed_half list choice k = record {
    it = k.it;
    there = k.there;
    edges = k.edges;
    halves = k.halves;
  }

  -- a gate without half columns of the row, or whose half columns are filled
  listed_filled : (choice : OpenChoice) → IsChoice f g choice.edges → choice.halves ≡ []
      → IsListed (filled_list f g) choice
  listed_filled choice is none =
      let k : HasChoice (choices_of f g) choice.edges = (all_choices f ok g within choice.edges).0 is in
      let it : OpenChoice = filled_choice k.it in
      record {
        it = it;
        there = contains_map filled_choice (choices_of f g) k.it k.there;
        edges = k.same;
        halves = subst (λ l. IsPermutation l []) (sym none) (IsPermutation-refl []);
      }

  module _ (counted : ℕ → Bool) where
    is_more : stays_open f r counted g ≡ true → on_gate g (row_of (other_row r) f) < on_gate g (row_of r f)
    is_more on = by r (ltb-true (on_gate g (fingers_beside r f)) (on_gate g (fingers_at r f))
        (and_parts (counted g) (ltb (on_gate g (fingers_beside r f)) (on_gate g (fingers_at r f))) on).1)
      where
        by : (s : Row) → on_gate g (fingers_beside s f) < on_gate g (fingers_at s f)
            → on_gate g (row_of (other_row s) f) < on_gate g (row_of s f)
        by P less = less
        by N less = less

    opens : counted g ≡ true → (s : Row)
        → on_gate g (row_of (other_row s) f) < on_gate g (row_of (other_row (other_row s)) f)
        → (counted g && ltb (on_gate g (fingers_beside s f)) (on_gate g (fingers_at s f))) ≡ true
    opens on P less =
        and_from (counted g) (ltb (on_gate g f.n) (on_gate g f.p)) on (lt-ltb (on_gate g f.n) (on_gate g f.p) less)
    opens on N less =
        and_from (counted g) (ltb (on_gate g f.p) (on_gate g f.n)) on (lt-ltb (on_gate g f.p) (on_gate g f.n) less)

    -- a counted gate without half columns of the row
    no_half : counted g ≡ true → stays_open f r counted g ≡ false → (cs : List Column)
        → IsArrangement cs (fingers_on g f) → (c : Column) → Contains cs c → half_in r c ≡ None
    no_half on off cs arranges c there = by (half_in r c) refl
      where
        by : (o : Option FingerEnds) → half_in r c ≡ o → half_in r c ≡ None
        by None is = is
        by (Some half) is =
            let a : Alone (place r c) (place (other_row r) c) half = alone_in r c half is in
            absurd (both_ways (stays_open f r counted g) off
            (opens on r (fewer f ok g within cs arranges (other_row r) c there a.none)))

    none_half : (cs : List Column) → ((c : Column) → Contains cs c → half_in r c ≡ None)
        → filter_map (half_in r) cs ≡ []
    none_half [] none = refl
    none_half (c ∷ cs) none =
        kept_none (half_in r) c cs (none c (contains_here c cs))
        ∙ none_half cs (λ d k. none d (contains_there c cs d k))

    -- a choice that has no half edges, though its gate is counted
    full_choice : counted g ≡ true → stays_open f r counted g ≡ false → (choice : OpenChoice)
        → IsHalfOpen f r g choice → IsChoice f g choice.edges × (choice.halves ≡ [])
    full_choice on off choice h =
        let none : (c : Column) → Contains h.columns c → half_in r c ≡ None =
        no_half on off h.columns h.arranges in (
          record {
            columns = h.columns;
            arranges = h.arranges;
            edges = h.edges;
            filled = subst (λ l. AreEdgesOf f l h.edges) (all_filled r h.columns none) h.filled;
            listed = h.listed;
          },
          no_members choice.halves (subst (λ l. IsPermutation l choice.halves) (none_half h.columns none) h.halves),
        )

    all_listed : (choice : OpenChoice) → IsOpenChoice f r counted g choice
        → IsListed (open_choices_of f r counted g) choice
    all_listed choice is = elim (cases_Bool (stays_open f r counted g)) [
      | inl on ↦
          subst (λ l. IsListed l choice) (sym (open_list f r counted g on))
          (listed_half (half_front f r g) choice
          (half_found (is_more on) choice
          (is.0 (and_parts (counted g) (ltb (on_gate g (fingers_beside r f)) (on_gate g (fingers_at r f))) on).0)))
      | inr off ↦
          subst (λ l. IsListed l choice) (sym (closed_list f r counted g off))
          (elim (cases_Bool (counted g)) [
            | inl in_row ↦
                let k : IsChoice f g choice.edges × (choice.halves ≡ []) = full_choice in_row off choice (is.0 in_row) in
                listed_filled choice k.0 k.1
            | inr out ↦ listed_filled choice (is.1 out).0 (is.1 out).1
          ])
    ]

    -- ---- each listed choice is one

    gate_all : (fs : List Finger) → All (IsOn g) (filter (is_on g) fs)
    gate_all fs =
        all_from_contains (IsOn g) (filter (is_on g) fs)
        (λ x k. eqb-true x.gate.0 g (passes_from (is_on g) fs x k).passes)

    on_gate_all : (s : Row) → All (IsOn g) (filter (is_on g) (fingers_at s f))
    on_gate_all P = gate_all f.p
    on_gate_all N = gate_all f.n

    on_gate_beside : (s : Row) → All (IsOn g) (filter (is_on g) (fingers_beside s f))
    on_gate_beside P = gate_all f.n
    on_gate_beside N = gate_all f.p

    module _ (more : on_gate g (row_of (other_row r) f) < on_gate g (row_of r f)) (choice : OpenChoice)
        (it : OpenChoice) (there : Contains (half_front f r g) it) (es : IsPermutation choice.edges it.edges)
        (hs : IsPermutation choice.halves it.halves) where
      abbrev xs : List FingerEnds
      xs = ends_on g (fingers_at r f)

      abbrev ys : List FingerEnds
      ys = ends_on g (fingers_beside r f)

      abbrev mine : List Finger
      mine = filter (is_on g) (fingers_at r f)

      abbrev others : List Finger
      others = filter (is_on g) (fingers_beside r f)

      by_pairs : Made r (first_front xs) ys it
      by_pairs = made r ys (first_front xs) it there

      begun : OpenChoice
      begun = record { edges = []; halves = xs }

      begun_is : begun ≡ by_pairs.choice
      unfolding begun
      begun_is = contains_one begun by_pairs.choice by_pairs.there

      begun_halves : by_pairs.choice.halves ≡ xs
      unfolding begun
      begun_halves = sym (ap (λ (c : OpenChoice). c.halves) begun_is)

      begun_edges : by_pairs.choice.edges ≡ []
      unfolding begun
      begun_edges = sym (ap (λ (c : OpenChoice). c.edges) begun_is)

      columns : Stands f r mine others by_pairs.pairs it.halves
      columns =
          stand f r g it.halves by_pairs.pairs others mine (sym by_pairs.fingers)
          (subst (λ l. IsPermutation l (map x_of by_pairs.pairs ++ it.halves)) begun_halves by_pairs.halves)
          by_pairs.are (on_gate_all r) (on_gate_beside r)

      edges_are : IsPermutation (map e_of by_pairs.pairs) it.edges
      edges_are =
          subst (λ l. IsPermutation l it.edges)
          (ap (λ l. map e_of by_pairs.pairs ++ l) begun_edges ∙ append-nil (map e_of by_pairs.pairs)) by_pairs.edges

      arranged : IsArrangement columns.cs (fingers_on g f)
      arranged = by r more columns
        where
          by : (s : Row) → on_gate g (row_of (other_row s) f) < on_gate g (row_of s f)
              → (k : Stands f s (filter (is_on g) (fingers_at s f)) (filter (is_on g) (fingers_beside s f))
              by_pairs.pairs it.halves) → IsArrangement k.cs (fingers_on g f)
          by P less k = record {
            columns = k.columns;
            p = k.xs;
            n = subst (IsPermutation (filter (is_on g) f.n)) k.ys (IsPermutation-refl (filter (is_on g) f.n));
            fewest = omega (arith, less, k.many, columns_of_gate f g within, length-filter (is_on g) f.p);
          }
          by N less k = record {
            columns = k.columns;
            p = subst (IsPermutation (filter (is_on g) f.p)) k.ys (IsPermutation-refl (filter (is_on g) f.p));
            n = k.xs;
            fewest = omega (arith, less, k.many, columns_of_gate f g within, length-filter (is_on g) f.n);
          }

      half_open : IsHalfOpen f r g choice
      half_open = record {
        columns = columns.cs;
        arranges = arranged;
        edges = map e_of by_pairs.pairs;
        filled = columns.filled;
        listed =
            IsPermutation-trans (map e_of by_pairs.pairs) it.edges choice.edges edges_are
            (IsPermutation-sym choice.edges it.edges es);
        halves =
            IsPermutation-trans (filter_map (half_in r) columns.cs) it.halves choice.halves columns.halves
            (IsPermutation-sym choice.halves it.halves hs);
      }

    -- a choice of a gate whose half columns are filled
    full_open : stays_open f r counted g ≡ false → (choice : OpenChoice) → IsChoice f g choice.edges
        → choice.halves ≡ [] → IsOpenChoice f r counted g choice
    full_open off choice is none = (
      λ on.
          let no : (c : Column) → Contains is.columns c → half_in r c ≡ None = no_half on off is.columns is.arranges in
          record {
            columns = is.columns;
            arranges = is.arranges;
            edges = is.edges;
            filled = subst (λ l. AreEdgesOf f l is.edges) (sym (all_filled r is.columns no)) is.filled;
            listed = is.listed;
            halves =
                subst (λ l. IsPermutation l choice.halves) (sym (none_half is.columns no))
                (subst (IsPermutation []) (sym none) (IsPermutation-refl []));
          },
      λ out. (is, none),
    )

    of_filled : stays_open f r counted g ≡ false → (choice : OpenChoice)
        → IsListed (filled_list f g) choice → IsOpenChoice f r counted g choice
    of_filled off choice k =
        let j : Image filled_choice (choices_of f g) k.it = in_map filled_choice (choices_of f g) k.it k.there in
        let es : j.of ≡ k.it.edges = ap (λ (c : OpenChoice). c.edges) j.is in
        let hs : [] ≡ k.it.halves = ap (λ (c : OpenChoice). c.halves) j.is in
        full_open off choice
        ((all_choices f ok g within choice.edges).1
        (record { it = j.of; there = j.listed; same = subst (IsPermutation choice.edges) (sym es) k.edges }))
        (no_members choice.halves
        (IsPermutation-sym choice.halves [] (subst (IsPermutation choice.halves) (sym hs) k.halves)))

    of_half : stays_open f r counted g ≡ true → (choice : OpenChoice)
        → IsListed (half_front f r g) choice → IsOpenChoice f r counted g choice
    of_half on choice k =
        let counts : counted g ≡ true =
        (and_parts (counted g) (ltb (on_gate g (fingers_beside r f)) (on_gate g (fingers_at r f))) on).0 in (
          λ out. half_open (is_more on) choice k.it k.there k.edges k.halves,
          λ out. absurd (both_ways (counted g) out counts),
        )

    of_list : (choice : OpenChoice) → IsListed (open_choices_of f r counted g) choice
        → IsOpenChoice f r counted g choice
    of_list choice k = elim (cases_Bool (stays_open f r counted g)) [
      | inl on ↦
          of_half on choice (subst (λ l. IsListed l choice) (open_list f r counted g on) k)
      | inr off ↦
          of_filled off choice (subst (λ l. IsListed l choice) (closed_list f r counted g off) k)
    ]

    pub all_open_choices : (choice : OpenChoice) → IsOpenChoice f r counted g choice
        ↔ IsListed (open_choices_of f r counted g) choice
    all_open_choices choice = (all_listed choice, of_list choice)
