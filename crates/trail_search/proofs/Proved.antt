-- What kept lemmas prove of every arrangement.
use Rattle.std.specs.Prelude.{ℕ, zero, suc, ◌≡◌, ◌+◌, ◌*◌, ◌/◌, ◌%◌, ◌<◌, ◌≤◌, ◌&&◌, Bool, true, false, ltb, nat_lt, List, [], ◌∷◌, Option, Some, None, All, Contains, if◌then◌else◌, ◌==◌, length, map, slice_get}
use Rattle.std.specs.List.{filter, range_with_len}
use Rattle.std.proofs.Common.{inr, refl, sym, ap, subst, arith, ◌∙◌}
use Rattle.std.proofs.lemmas.Bool.{and_parts}
use Rattle.std.proofs.lemmas.List.Elements.{All-cons, All-nil}
use Rattle.std.proofs.lemmas.List.Kept.{AllPairs-filter}
use Rattle.std.proofs.lemmas.Option.{none-some, same_Some}
use Rattle.cell_num.proofs.In.{Image, in_map}
use Rattle.cell_num.proofs.Lists.{all_from_contains}
use Rattle.cell_num.proofs.Pairs.{Some', pairs_map, test_finds}
use Rattle.cell_num.specs.declared.net.NetNo.{NetNo}
use Rattle.cell_num.specs.declared.finger.Row.{Row}
use Rattle.cell_num.specs.declared.finger.Row.TheVariants.{N}
use Rattle.cell_num.specs.declared.finger.Finger.{Finger}
use Rattle.cell_num.specs.declared.finger.Fingers.{Fingers}
use Rattle.cell_num.specs.Fingers.{AreFingers, IsFinger, on_gate}
use Rattle.row_model.specs.declared.column.Column.{Column}
use Rattle.row_model.specs.Arrangement.{IsArrangement}
use Rattle.row_model.specs.Gaps.{gaps_of}
use Rattle.trail_state.specs.declared.edge.Node.{Node}
use Rattle.trail_state.specs.Places.{node_at}
use Rattle.trail_state.specs.declared.level.Level.{Level}
use Rattle.trail_state.proofs.Law.{levels_law}
use Rattle.trail_state.specs.Levels.{AreLevels, IsOrder}
use Rattle.trail_state.proofs.Members.{Passes, passes_from}
use Rattle.trail_state.specs.Nodes.{any_can_meet, can_meet, has_net, is_net_in, is_net_on, may_have, open_nodes}
use Rattle.trail_state.proofs.Opened.{in_net, net_below, range_below}
use Rattle.trail_log.specs.Fits.{LemmaFits}
use Rattle.open_gates.specs.Leveled.{levels_of}
use Rattle.trail_check.specs.declared.lemma.TrailLemma.{TrailLemma}
use Rattle.trail_check.specs.Gates.{first_with_many, has_many_ways}
use Rattle.trail_check.specs.Indexed.{IsIndexOf}
use Rattle.trail_check.specs.Justified.{ends_proved, gaps_proved, unproved}
use Rattle.trail_check.specs.Listed.{lemmas_listed, nodes_of}
use Rattle.trail_check.proofs.Sound.{ends_true}
use Rattle.trail_search.specs.declared.kept.Kept.{Kept}
use Rattle.trail_search.specs.Line.{AllNodes, AreNodes, IsNode}
use Rattle.trail_search.specs.Proof.{AttemptsOnce}
use Rattle.trail_search.specs.Reached.{AreReached, IsWithin}
use Rattle.trail_search.specs.Search.{AreChained, AreKept, AreNew, AreTied}
use Rattle.trail_search.specs.Units.{listed_units, path_units, units_of}
use Rattle.trail_search.proofs.Finds.{found_is}
use Rattle.trail_search.proofs.Lines.{level_nodes}
use Rattle.trail_search.proofs.New.{new_none}
use Rattle.trail_search.proofs.Tied.{units_none}
use Rattle.trail_search.proofs.Orders.{order_short, range_ascends}

-- ---- levels

-- a net that a row can have is one
may_be : (r : Row) (nets : ℕ) (mine other : List Finger) (g net : ℕ) → All (IsFinger r nets) mine → 0 < nets → may_have mine other g net ≡ true → net < nets
may_be r nets mine other g net all some h = net_below r nets mine net all some (by_count (ltb (on_gate g mine) (on_gate g other)) h)
  where
    by_count : (b : Bool) → (if b then is_net_in mine net else is_net_on mine g net) ≡ true → is_net_in mine net ≡ true
    by_count true e = e
    by_count false e =
        let s : Some' (λ (x : Finger). ((x.gate.0 == g) && has_net net x) ≡ true) mine = test_finds (λ (x : Finger). (x.gate.0 == g) && has_net net x) mine e in
        in_net mine net s.it s.there (and_parts (s.it.gate.0 == g) (has_net net s.it) s.holds).1

node_fits : (f : Fingers) (gates : List NetNo) (v : ℕ) → AreFingers f → any_can_meet f gates v ≡ true → v < 256 * f.nets → (v / 256 < f.nets) × (v % 256 < f.nets)
node_fits f gates v ok h l =
    let s : Some' (λ (g : NetNo). can_meet f g.0 v ≡ true) gates = test_finds (λ (g : NetNo). can_meet f g.0 v) gates h in
    let n : may_have f.n f.p s.it.0 (v % 256) ≡ true = (and_parts (may_have f.p f.n s.it.0 (v / 256)) (may_have f.n f.p s.it.0 (v % 256)) s.holds).1 in
    (omega (arith, l), may_be N f.nets f.n f.p s.it.0 (v % 256) ok.n (omega (arith, l)) n)

pub open_are_nodes : (f : Fingers) (gates : List NetNo) → AreFingers f → AreNodes f.nets (open_nodes f gates)
open_are_nodes f gates ok =
    let passing : List ℕ = filter (any_can_meet f gates) (range_with_len 0 (256 * f.nets)) in
    record {
      ascend = pairs_map (λ (a b : ℕ). a < b) (Contains passing) (λ (a b : Node). a.0 < b.0) node_at passing (λ a b _ _ less. less) (all_from_contains (Contains passing) passing (λ v k. k)) (AllPairs-filter (λ (a b : ℕ). a < b) (any_can_meet f gates) (range_with_len 0 (256 * f.nets)) (range_ascends (256 * f.nets)));
      within = all_from_contains (IsNode f.nets) (open_nodes f gates) at;
    }
  where
    at : (v : Node) → Contains (open_nodes f gates) v → IsNode f.nets v
    at v k =
        let i : Image node_at (filter (any_can_meet f gates) (range_with_len 0 (256 * f.nets))) v = in_map node_at (filter (any_can_meet f gates) (range_with_len 0 (256 * f.nets))) v k in
        let p : Passes (any_can_meet f gates) (range_with_len 0 (256 * f.nets)) i.of = passes_from (any_can_meet f gates) (range_with_len 0 (256 * f.nets)) i.of i.listed in
        subst (IsNode f.nets) i.is (node_fits f gates i.of ok p.passes (range_below (256 * f.nets) i.of p.there))

pub level_nodes_of : (f : Fingers) (order : List NetNo) (levels : List Level) → AreFingers f → AreLevels f order levels → AllNodes f.nets levels
level_nodes_of f [] [] ok are = All-nil (λ (level : Level). AreNodes f.nets level.now)
level_nodes_of f [] (l ∷ ls) ok are = absurd are
level_nodes_of f (g ∷ gs) [] ok are = absurd are
level_nodes_of f (g ∷ gs) (l ∷ ls) ok (first, rest) =
    All-cons (λ (level : Level). AreNodes f.nets level.now) l ls (subst (AreNodes f.nets) (sym first.now) (open_are_nodes f (g ∷ gs) ok)) (level_nodes_of f gs ls ok rest)

as_many : (f : Fingers) (order : List NetNo) (levels : List Level) → AreLevels f order levels → length levels ≡ length order
as_many f [] [] are = refl
as_many f [] (l ∷ ls) are = absurd are
as_many f (g ∷ gs) [] are = absurd are
as_many f (g ∷ gs) (l ∷ ls) (first, rest) = ap suc (as_many f gs ls rest)

pub levels_short : (f : Fingers) (order : List NetNo) (levels : List Level) → AreFingers f → IsOrder f order → AreLevels f order levels → length levels ≤ 32
levels_short f order levels ok is are = omega (arith, as_many f order levels are, order_short f order ok is)

-- no gate is left, and no node
none_open : (f : Fingers) → open_nodes f [] ≡ []
none_open f = ap (map node_at) (filter_none (range_with_len 0 (256 * f.nets)))
  where
    filter_none : (xs : List ℕ) → filter (any_can_meet f []) xs ≡ []
    filter_none [] = refl
    filter_none (x ∷ xs) = filter_none xs

first_open : (f : Fingers) (order : List NetNo) (levels : List Level) → AreLevels f order levels → nodes_of (slice_get levels 0) ≡ open_nodes f order
first_open f [] [] are = sym (none_open f)
first_open f [] (l ∷ ls) are = absurd are
first_open f (g ∷ gs) [] are = absurd are
first_open f (g ∷ gs) (l ∷ ls) (first, rest) = first.now

next_open : (f : Fingers) (order : List NetNo) (levels : List Level) → AreLevels f order levels → (i : ℕ) (level : Level) → slice_get levels i ≡ Some level → level.next ≡ nodes_of (slice_get levels (i + 1))
next_open f [] [] are i level at = absurd (none-some level at)
next_open f [] (l ∷ ls) are i level at = absurd are
next_open f (g ∷ gs) [] are i level at = absurd are
next_open f (g ∷ gs) (l ∷ ls) (first, rest) zero level at = ap (λ (x : Level). x.next) (sym (same_Some l level at)) ∙ first.next ∙ sym (first_open f gs ls rest)
next_open f (g ∷ gs) (l ∷ ls) (first, rest) (suc i) level at = let e : suc i + 1 ≡ suc (i + 1) = omega arith in next_open f gs ls rest i level at ∙ ap (λ (n : ℕ). nodes_of (slice_get (l ∷ ls) n)) (sym e)

pub are_chained : (f : Fingers) (order : List NetNo) (levels : List Level) → AreFingers f → AreLevels f order levels → AreChained levels
are_chained f order levels ok are = record {
  ascend = λ i. (level_nodes f.nets levels i (level_nodes_of f order levels ok are)).ascend;
  next = next_open f order levels are;
}

-- ---- what is proved

pub none_kept : (levels : List Level) (kept : Kept) → kept.lemmas ≡ [] → kept.lines ≡ [] → IsIndexOf [] kept.index → AreKept levels kept
unfolding unproved
none_kept levels kept lemmas lines indexed = record {
  listed = ap (lemmas_listed levels) lines ∙ sym lemmas;
  justified = ap (unproved levels [] 5) lemmas;
  new = subst (AreNew levels) (sym lemmas) (new_none levels);
  indexed = subst (λ (ls : List TrailLemma). IsIndexOf ls kept.index) (sym lemmas) indexed;
  fits = λ nets nodes. subst (All (LemmaFits nets)) (sym lines) (All-nil (LemmaFits nets));
}

pub kept_least : (f : Fingers) (order : List NetNo) (levels : List Level) (kept : Kept) (gaps : ℕ) → AreFingers f → IsOrder f order → AreLevels f order levels → AreKept levels kept → gaps ≡ gaps_proved (ends_proved kept.lemmas) → (row : List Column) → IsArrangement row f → gaps ≤ gaps_of row
kept_least f order levels kept gaps ok is are h e row arranges =
    omega (arith, e, levels_law f ok order is levels (ends_proved kept.lemmas) are (ends_true levels kept.lemmas 5 h.justified) row arranges)

-- a gate with too many ways
pub gate_crowded : (f : Fingers) (order : List NetNo) (o : Option NetNo) (gate : NetNo) → o ≡ first_with_many f order → o ≡ Some gate → has_many_ways f gate ≡ true
gate_crowded f order o gate is some = (found_is (has_many_ways f) order gate (sym is ∙ some)).passes

pub refuted : (f : Fingers) (order : List NetNo) (levels : List Level) (kept : Kept) (limit gaps : ℕ) → AreFingers f → IsOrder f order → AreLevels f order levels → AreKept levels kept → gaps ≡ gaps_proved (ends_proved kept.lemmas) → nat_lt limit gaps ≡ true → (row : List Column) → IsArrangement row f → limit < gaps_of row
refuted f order levels kept limit gaps ok is are h e more row arranges =
    omega (arith, below limit gaps more, kept_least f order levels kept gaps ok is are h e row arranges)
  where
    below : (a b : ℕ) → nat_lt a b ≡ true → a < b
    below a b l = grind (arith, l)

-- ---- attempts

-- the choices of all gates were listed
all_listed : (f : Fingers) (order : List NetNo) (levels : List Level) → levels ≡ levels_of f order → first_with_many f order ≡ None → listed_units (first_with_many f order) (levels_of f order) ≡ listed_units None levels
all_listed f order levels same few =
    ap (λ (o : Option NetNo). listed_units o (levels_of f order)) few ∙ ap (λ (ls : List Level). listed_units None ls) (sym same)

-- the units of a search that began without lemmas went for a list of the choices, and for the lemmas that it kept
pub attempted : (f : Fingers) (order : List NetNo) (levels : List Level) (before after : Kept)
    (limit left left_on left_after others : ℕ) → IsOrder f order → levels ≡ levels_of f order →
    first_with_many f order ≡ None → left_on + listed_units None levels ≡ left → before.lemmas ≡ [] →
    AreKept levels after → AreReached levels limit after.lemmas → others ≤ path_units levels + 1 →
    AreTied levels before after left_on left_after others → AttemptsOnce f limit left left_after
attempted f order levels before after limit left left_on left_after others is same few went none h reached more tied =
    let listed : listed_units (first_with_many f order) (levels_of f order) ≡ listed_units None levels = all_listed f order levels same few in
    let lemmas : units_of (levels_of f order) after.lemmas ≡ units_of levels after.lemmas = ap (λ (ls : List Level). units_of ls after.lemmas) (sym same) in
    let path : path_units (levels_of f order) ≡ path_units levels = ap path_units (sym same) in
    let first : units_of levels before.lemmas ≡ 0 = units_none levels before.lemmas none in
    inr (record {
      attempt = record { limit = limit; order = order; lemmas = after.lemmas };
      is = record { order = is; justified = ap (λ (ls : List Level). unproved ls [] 5 after.lemmas) (sym same) ∙ h.justified; new = subst (λ (ls : List Level). AreNew ls after.lemmas) same h.new; reached = subst (λ (ls : List Level). AreReached ls limit after.lemmas) same reached };
      tried = refl;
      many = omega (arith, tied.many, went, more, listed, lemmas, path, first);
    })

-- an attempt without lemmas
alone : (f : Fingers) (order : List NetNo) (limit left left_after : ℕ) → IsOrder f order → left ≤ left_after + listed_units (first_with_many f order) (levels_of f order) → AttemptsOnce f limit left left_after
unfolding unproved
alone f order limit left left_after is few =
    inr (record {
      attempt = record { limit = limit; order = order; lemmas = [] };
      is = record { order = is; justified = refl; new = new_none (levels_of f order); reached = All-nil (IsWithin (levels_of f order) (2 * (limit + 1) + 1)) };
      tried = refl;
      many = omega (arith, few);
    })

-- where too few units were left for a list of the choices
pub listed_alone : (f : Fingers) (order : List NetNo) (levels : List Level) (limit left left_after : ℕ) → IsOrder f order → levels ≡ levels_of f order → first_with_many f order ≡ None → left < listed_units None levels → AttemptsOnce f limit left left_after
listed_alone f order levels limit left left_after is same few less =
    alone f order limit left left_after is (omega (arith, less, all_listed f order levels same few))

-- where a gate has too many
pub crowded_alone : (f : Fingers) (order : List NetNo) (gate : NetNo) (limit left left_after : ℕ) → IsOrder f order → first_with_many f order ≡ Some gate → left ≤ left_after + 1024 → AttemptsOnce f limit left left_after
crowded_alone f order gate limit left left_after is many few =
    let listed : listed_units (first_with_many f order) (levels_of f order) ≡ 1024 = ap (λ (o : Option NetNo). listed_units o (levels_of f order)) many in
    alone f order limit left left_after is (omega (arith, few, listed))
