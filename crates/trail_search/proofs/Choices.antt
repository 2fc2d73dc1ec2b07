-- Choices of gates that are listed already, and levels by them.
use Rattle.std.specs.Prelude.{◌≡◌, ◌&&◌, ◌++◌, true, List, [], ◌∷◌, All}
use Rattle.std.proofs.Common.{subst, sym, ap, ◌∙◌}
use Rattle.std.specs.Cmp.Lexicographic.{pointwise, pointwise_decides}
use Rattle.std.proofs.lemmas.Bool.{and_parts}
use Rattle.std.proofs.lemmas.Bool.Decides.{Decides-eqb}
use Rattle.std.proofs.lemmas.List.Elements.{All-append, All-cons, All-nil}
use Rattle.cell_num.specs.declared.net.NetNo.{NetNo}
use Rattle.cell_num.specs.declared.finger.Fingers.{Fingers}
use Rattle.trail_state.specs.declared.gate.Gate.{Gate}
use Rattle.trail_state.specs.declared.level.Level.{Level}
use Rattle.trail_state.specs.Fronts.{same_nets}
use Rattle.trail_state.specs.Levels.{AreLevels}
use Rattle.trail_state.specs.Nodes.{open_nodes}
use Rattle.trail_state.specs.Pairings.{choices_of}
use Rattle.trail_state.specs.Same.{nets_decides}
use Rattle.trail_state.proofs.Small.{n_small, p_small}
use Rattle.trail_state.proofs.Unions.{long_first, long_later, none_long, stops_later}
use Rattle.open_gates.proofs.Leveled.{are_levels, few_nodes}
use Rattle.trail_search.specs.declared.lists.ListedGate.{ListedGate}
use Rattle.trail_search.specs.Lists.{AreChoicesOf, IsRight, same_fill, same_gate}

pub gate_same : (a b : Gate) → same_gate a b ≡ true → a ≡ b
gate_same a b h =
    let last : ((pointwise same_nets a.p b.p && pointwise same_nets a.n b.n && same_fill a.p_fill b.p_fill) ≡ true) × (same_fill a.n_fill b.n_fill ≡ true) = and_parts (pointwise same_nets a.p b.p && pointwise same_nets a.n b.n && same_fill a.p_fill b.p_fill) (same_fill a.n_fill b.n_fill) h in
    let third : ((pointwise same_nets a.p b.p && pointwise same_nets a.n b.n) ≡ true) × (same_fill a.p_fill b.p_fill ≡ true) = and_parts (pointwise same_nets a.p b.p && pointwise same_nets a.n b.n) (same_fill a.p_fill b.p_fill) last.0 in
    let nets : (pointwise same_nets a.p b.p ≡ true) × (pointwise same_nets a.n b.n ≡ true) = and_parts (pointwise same_nets a.p b.p) (pointwise same_nets a.n b.n) third.0 in
    let p : a.p ≡ b.p = (pointwise_decides nets_decides a.p b.p).0 nets.0 in
    let n : a.n ≡ b.n = (pointwise_decides nets_decides a.n b.n).0 nets.1 in
    let p_fill : a.p_fill ≡ b.p_fill = (pointwise_decides (λ x y. Decides-eqb x y) a.p_fill b.p_fill).0 third.1 in
    let n_fill : a.n_fill ≡ b.n_fill = (pointwise_decides (λ x y. Decides-eqb x y) a.n_fill b.n_fill).0 last.1 in
    λ i. record { p = p i; n = n i; p_fill = p_fill i; n_fill = n_fill i }

pub right_at : (one : ListedGate) (gate : Gate) → IsRight one → one.gate ≡ gate → AreChoicesOf gate one.choices
right_at one gate right same = subst (λ (g : Gate). AreChoicesOf g one.choices) same right

pub right_more : (listed : List ListedGate) (one : ListedGate) (all : List ListedGate) → All IsRight listed → IsRight one → all ≡ listed ++ one ∷ [] → All IsRight all
right_more listed one all right one_right is =
    subst (All IsRight) (sym is) (All-append IsRight listed (one ∷ []) right (All-cons IsRight one [] one_right (All-nil IsRight)))

pub first_level : (f : Fingers) (order : List NetNo) (gate : NetNo) (later : List NetNo) (level : Level) (levels all : List Level) → order ≡ gate ∷ later → level.now ≡ open_nodes f order → level.next ≡ open_nodes f later → level.choices ≡ choices_of f gate.0 → AreLevels f later levels → all ≡ level ∷ levels → AreLevels f order all
first_level f order gate later level levels all first now next choices are is =
    subst (λ (gs : List NetNo). AreLevels f gs all) (sym first) (subst (AreLevels f (gate ∷ later)) (sym is) (
      record {
        now = now ∙ ap (open_nodes f) first;
        next = next;
        choices = choices;
      },
      are,
    ))

pub ruleset list_rules = (long_first, long_later, none_long, stops_later)

pub ruleset filled_rules = (are_levels, few_nodes)

pub ruleset gate_rules = (p_small, n_small)
