-- Each choice is an open one, which it fills. So each arrangement has open choices with few ends.
use Rattle.std.proofs.Common.{ℕ, ◌≡◌, ◌+◌, ◌*◌, ◌≤◌, ◌==◌, Bool, true, false, List, [], ◌∷◌, ◌++◌, append-nil}
use Rattle.std.proofs.Common.{append_assoc, refl, sym, ap, subst, arith, ◌∙◌, IsPermutation}
use Rattle.std.specs.List.{filter_map, flat_map}
use Rattle.std.proofs.lemmas.Bool.{both_ways, eqb-true}
use Rattle.std.proofs.lemmas.List.Elements.{All-append, All-contains, All-nil}
use Rattle.std.proofs.lemmas.List.Sorted.{IsPermutation-append, IsPermutation-append_comm, IsPermutation-append_left}
use Rattle.std.proofs.lemmas.List.Sorted.{IsPermutation-append_right, IsPermutation-refl, IsPermutation-trans}
use Rattle.cell_num.specs.declared.net.NetNo.{NetNo}
use Rattle.cell_num.specs.declared.finger.Row.{Row}
use Rattle.cell_num.specs.declared.finger.Finger.{Finger}
use Rattle.cell_num.specs.declared.finger.Fingers.{Fingers}
use Rattle.cell_num.specs.Fingers.{AreFingers}
use Rattle.cell_num.proofs.Lists.{Kept, all_from_contains, kept_from}
use Rattle.row_model.specs.declared.column.Column.{Column}
use Rattle.row_model.specs.Arrangement.{IsArrangement, place}
use Rattle.row_model.specs.Gaps.{gaps_of}
use Rattle.trail_state.specs.declared.edge.Edge.{Edge}
use Rattle.trail_state.specs.declared.edge.FingerEnds.{FingerEnds}
use Rattle.trail_state.specs.Choices.{IsChoice, fingers_on}
use Rattle.trail_state.specs.Levels.{IsOrder}
use Rattle.trail_state.proofs.Members.{Passes}
use Rattle.trail_check.specs.Rows.{AreChoices, HasChoices, ends_in}
use Rattle.trail_check.proofs.Law.{all_below, choices_of_row, gate_below}
use Rattle.trail_check.proofs.Together.{zip_append}
use Rattle.trail_halves.specs.Halves.{AreFilled, Fills, HavePools}
use Rattle.trail_halves.specs.declared.choice.OpenChoice.{OpenChoice}
use Rattle.trail_halves.specs.Open.{AreOpenChoices, ArePools, HasOpenChoices, IsOpenChoice, edges_in}
use Rattle.trail_halves.specs.Open.{half_in, halves_in, open_ends, row_of}
use Rattle.trail_halves.proofs.Filled.{half_ends_le}
use Rattle.trail_halves.proofs.Parted.{Alone, Parted, alone_in, columns_small, on_row, other_row, parted, stands_there}

-- two pairs of lists, turned
pub crossed : {X : Type 0} (a b c d : List X) → IsPermutation ((a ++ b) ++ (c ++ d)) ((a ++ c) ++ (b ++ d))
crossed a b c d =
    let inner : IsPermutation (b ++ (c ++ d)) (c ++ (b ++ d)) =
    subst (λ l. IsPermutation l (c ++ (b ++ d))) (append_assoc b c d)
    (subst (IsPermutation ((b ++ c) ++ d)) (append_assoc c b d)
    (IsPermutation-append_left d (b ++ c) (c ++ b) (IsPermutation-append_comm b c))) in
    subst (λ l. IsPermutation l ((a ++ c) ++ (b ++ d))) (sym (append_assoc a b (c ++ d)))
    (subst (IsPermutation (a ++ (b ++ (c ++ d)))) (sym (append_assoc a c (b ++ d)))
    (IsPermutation-append_right a (b ++ (c ++ d)) (c ++ (b ++ d)) inner))

module _ (f : Fingers) (ok : AreFingers f) where
  module _ (r : Row) (counted pool : ℕ → Bool) (pools : ArePools f r counted pool) where
    -- a choice of a gate as an open one
    record Opening (g : ℕ) (c : List Edge) : Type 0 where
      pub choice : OpenChoice
      pub is : IsOpenChoice f r counted g choice
      pub have : HavePools pool choice.halves
      pub filled : List Edge
      pub fills : AreFilled r choice.halves filled
      pub same : IsPermutation (choice.edges ++ filled) c

    pooled : (g : ℕ) (columns : List Column) → counted g ≡ true → IsArrangement columns (fingers_on g f)
        → HavePools pool (filter_map (half_in r) columns)
    pooled g columns on arranges =
        all_from_contains (λ (half : FingerEnds). (pool half.lo ≡ true) × (pool half.hi ≡ true))
        (filter_map (half_in r) columns)
        (λ half k. of_column half (kept_from (half_in r) columns half k))
      where
        of_column : (half : FingerEnds) → Kept (half_in r) columns half → (pool half.lo ≡ true) × (pool half.hi ≡ true)
        of_column half k =
            let a : Alone (place r k.from) (place (other_row r) k.from) half = alone_in r k.from half k.gives in
            let mine : Passes (λ (y : Finger). y.gate.0 == g) (row_of r f) a.it.finger =
            on_row r f g a.it.finger (stands_there r columns (fingers_on g f) arranges k.from a.it k.there a.stands) in
            subst (λ (h : FingerEnds). (pool h.lo ≡ true) × (pool h.hi ≡ true)) a.is
            (All-contains
            (λ (x : Finger). counted x.gate.0 ≡ true → (pool x.lo.0 ≡ true) × (pool x.hi.0 ≡ true)) (row_of r f)
            a.it.finger pools mine.there (ap counted (eqb-true a.it.finger.gate.0 g mine.passes) ∙ on))

    opening : (g : ℕ) (c : List Edge) → IsChoice f g c → Opening g c
    opening g c k = by (counted g) refl
      where
        by : (b : Bool) → counted g ≡ b → Opening g c
        by false out = record {
          choice = record { edges = c; halves = [] };
          is = (λ on. absurd (both_ways (counted g) out on), λ e. (k, refl));
          have = All-nil (λ (half : FingerEnds). (pool half.lo ≡ true) × (pool half.hi ≡ true));
          filled = [];
          fills = tt;
          same = subst (λ l. IsPermutation l c) (sym (append-nil c)) (IsPermutation-refl c);
        }
        by true on =
            let p : Parted f ok r k.columns k.edges =
            parted f ok r k.columns k.edges (columns_small f ok g k.columns k.arranges) k.filled in
            record {
              choice = record { edges = p.rest; halves = filter_map (half_in r) k.columns };
              is = (
                λ e. record {
                  columns = k.columns;
                  arranges = k.arranges;
                  edges = p.rest;
                  filled = p.rest_are;
                  listed = IsPermutation-refl p.rest;
                  halves = IsPermutation-refl (filter_map (half_in r) k.columns);
                },
                λ out. absurd (both_ways (counted g) out on),
              );
              have = pooled g k.columns on k.arranges;
              filled = p.filled;
              fills = p.fills;
              same = IsPermutation-trans (p.rest ++ p.filled) k.edges c p.same k.listed;
            }

    -- and all choices
    record Openings (gs : List NetNo) (cs : List (List Edge)) : Type 0 where
      pub choices : List OpenChoice
      pub each : AreOpenChoices f r counted gs choices
      pub have : HavePools pool (halves_in choices)
      pub filled : List Edge
      pub fills : AreFilled r (halves_in choices) filled
      pub same : IsPermutation (edges_in choices ++ filled) (flat_map (λ (c : List Edge). c) cs)

    openings : (gs : List NetNo) (cs : List (List Edge)) → AreChoices f gs cs → Openings gs cs
    openings [] [] h = record {
      choices = [];
      each = tt;
      have = All-nil (λ (half : FingerEnds). (pool half.lo ≡ true) × (pool half.hi ≡ true));
      filled = [];
      fills = tt;
      same = IsPermutation-refl {X = Edge} [];
    }
    openings [] (c ∷ cs) h = absurd h
    openings (g ∷ gs) [] h = absurd h
    openings (g ∷ gs) (c ∷ cs) h =
        let here : Opening g.0 c = opening g.0 c h.0 in
        let more : Openings gs cs = openings gs cs h.1 in
        record {
          choices = here.choice ∷ more.choices;
          each = (here.is, more.each);
          have =
              All-append (λ (half : FingerEnds). (pool half.lo ≡ true) × (pool half.hi ≡ true)) here.choice.halves
              (halves_in more.choices) here.have more.have;
          filled = here.filled ++ more.filled;
          fills =
              zip_append (λ (half : FingerEnds) (e : Edge). Fills r half e) here.choice.halves
              (halves_in more.choices) here.filled more.filled here.fills more.fills;
          same =
              IsPermutation-trans
              ((here.choice.edges ++ edges_in more.choices) ++ (here.filled ++ more.filled))
              ((here.choice.edges ++ here.filled) ++ (edges_in more.choices ++ more.filled))
              (c ++ flat_map (λ (d : List Edge). d) cs)
              (crossed here.choice.edges (edges_in more.choices) here.filled more.filled)
              (IsPermutation-append (here.choice.edges ++ here.filled) c (edges_in more.choices ++ more.filled)
              (flat_map (λ (d : List Edge). d) cs) here.same more.same);
        }

    pub open_choices : (order : List NetNo) → IsOrder f order → (row : List Column) → IsArrangement row f
        → HasOpenChoices f r counted pool order (2 * (gaps_of row + 1))
    open_choices order is_order row arranges =
        let filled : HasChoices f order (2 * (gaps_of row + 1)) = choices_of_row f ok order is_order row arranges in
        let o : Openings order filled.choices = openings order filled.choices filled.each in
        let least : open_ends f r pool o.choices ≤ ends_in f filled.choices =
        half_ends_le (256 * f.nets) r pool (edges_in o.choices) o.filled
        (flat_map (λ (c : List Edge). c) filled.choices) (halves_in o.choices) o.have o.fills o.same
        (all_below f ok order filled.choices (gate_below f ok order is_order) filled.each) in
        record { choices = o.choices; each = o.each; few = omega (arith, least, filled.few) }
