-- The walk down from the first piece that can not be placed tells a cycle.
use Rattle.std.proofs.Common.{ℕ, ◌≡◌, ◌<◌, ◌⊎◌, List, [], ◌∷◌, map, length, get_or, inl, inr, refl, sym, ap, subst, arith, All, Contains}
use Rattle.std.proofs.lemmas.List.Elements.{All-head, All-tail, Contains-get_or}
use Rattle.cell_num.specs.declared.net.NetNo.{NetNo}
use Rattle.cell_num.specs.declared.net.Pins.{Pins}
use Rattle.cell_num.proofs.Lists.{all_imply}
use Rattle.row_place.specs.declared.placement.Placement.{Placement}
use Rattle.row_place.specs.Trunks.{IsAbove}
use Rattle.channel_route.specs.declared.cycle.Step.{Step}
use Rattle.channel_route.specs.declared.routing.WireAbove.{WireAbove}
use Rattle.channel_route.specs.declared.wire.Wire.{Wire}
use Rattle.channel_route.specs.declared.wire.PlacedWire.{PlacedWire}
use Rattle.channel_route.specs.Turn.{steps, IsDown}
use Rattle.channel_route.specs.Walk.{next_key, IsWalk, IsKeyCycleBelow}
use Rattle.channel_route.specs.Wires.{constraints_of}
use Rattle.channel_route.proofs.StuckKeys.{AreLeft, left_wire}
use Rattle.dogleg_route.specs.Cuts.{entry_of}
use Rattle.dogleg_route.specs.PieceCycles.{next_entry}
use Rattle.dogleg_route.specs.Pieces.{IsPiece}
use Rattle.dogleg_route.specs.PieceTold.{entry_at, IsStuckPiece, AreOnePiece, IsNoLaterEntry, IsPieceStep, IsStepwise, IsPieceTold}
use Rattle.dogleg_route.specs.PieceWires.{ArePieceWires}
use Rattle.dogleg_route.proofs.PieceChannel.{same_key}
use Rattle.dogleg_route.proofs.PieceSteps.{first_stuck, step_is}
use Rattle.dogleg_route.proofs.StuckPieces.{IsPairDown, pair_down}

-- the walk of a path, whose steps are told by their keys alone
record IsPathOf (p : Placement) (pins : Pins) (wires : List Wire) (key : ℕ) (back : WireAbove) : Type 0 where
  path : List WireAbove
  down : IsStepwise p pins path back
  head : Wire
  head_there : Contains wires head
  head_key : head.key ≡ key
  begins : AreOnePiece (next_entry path back) (entry_at head.net head.left 0)

step_to : (p : Placement) (pins : Pins) (a b c : WireAbove) → AreOnePiece c b → IsPieceStep p pins a b → IsPieceStep p pins a c
step_to p pins a b c one s = record {
  over = record {
    upper_right = s.over.upper_right;
    upper = s.over.upper;
    upper_ends = s.over.upper_ends;
    lower_right = s.over.lower_right;
    lower = subst (λ n. IsPiece p pins n c.left s.over.lower_right) (sym one.net) (subst (λ k. IsPiece p pins b.net k s.over.lower_right) (sym one.left) s.over.lower);
    lower_ends = subst (λ k. (k ≡ a.line) ⊎ (s.over.lower_right ≡ a.line)) (sym one.left) s.over.lower_ends;
    over = subst (λ n. IsAbove p pins a.net n a.line) (sym one.net) s.over.over;
  };
  stuck = subst (λ n. IsStuckPiece p pins n c.left) (sym one.net) (subst (λ k. IsStuckPiece p pins b.net k) (sym one.left) s.stuck);
  first = λ line other g stuck. by line other (s.first line other g stuck);
}
  where
    by : (line : ℕ) (other : WireAbove) → (a.line < line) ⊎ ((a.line ≡ line) × IsNoLaterEntry p pins b other) → (a.line < line) ⊎ ((a.line ≡ line) × IsNoLaterEntry p pins c other)
    by line other (inl less) = inl less
    by line other (inr (same, inl one')) = inr (same, inl (record { net = (let x : c.net ≡ b.net = one.net in let y : b.net ≡ other.net = one'.net in cc); left = omega (arith, one.left, one'.left) }))
    by line other (inr (same, inr x)) = inr (
      same,
      inr (record {
        right = x.right;
        piece = subst (λ n. IsPiece p pins n c.left x.right) (sym one.net) (subst (λ k. IsPiece p pins b.net k x.right) (sym one.left) x.piece);
        other_right = x.other_right;
        other = x.other;
        earlier = subst (λ (n : NetNo). (c.left < other.left) ⊎ ((c.left ≡ other.left) × ((x.right < x.other_right) ⊎ ((x.right ≡ x.other_right) × (n.0 < other.net.0))))) (sym one.net) (subst (λ k. (k < other.left) ⊎ ((k ≡ other.left) × ((x.right < x.other_right) ⊎ ((x.right ≡ x.other_right) × (b.net.0 < other.net.0))))) (sym one.left) x.earlier);
      }),
    )

path_of : (p : Placement) (pins : Pins) (wires left : List Wire) (placed : List PlacedWire) (tracks : ℕ) → ArePieceWires p pins wires → AreLeft wires left (constraints_of wires p.nodes) placed tracks → (path : List Step) (back : Step) → Contains wires back.wire → IsWalk steps (IsDown left (constraints_of wires p.nodes)) path back.wire.key → IsPathOf p pins wires (next_key steps path back.wire.key) (entry_of back)
path_of p pins wires left placed tracks h are [] back there walk = record { path = []; down = tt; head = back.wire; head_there = there; head_key = refl; begins = record { net = refl; left = refl } }
path_of p pins wires left placed tracks h are (a ∷ more) back there walk =
    let rest : IsPathOf p pins wires (next_key steps more back.wire.key) (entry_of back) = path_of p pins wires left placed tracks h are more back there walk.1 in
    let d : IsPairDown p pins wires a.wire.key (next_key steps more back.wire.key) a.line = pair_down p pins wires h a.wire.key (next_key steps more back.wire.key) a.line walk.0.over in
    let under : d.under ≡ rest.head = same_key p pins wires h d.under rest.head d.under_there rest.head_there (omega (arith, d.under_key, rest.head_key)) in
    let down : IsDown left (constraints_of wires p.nodes) d.over.key rest.head.key a.line = subst (λ k. IsDown left (constraints_of wires p.nodes) k rest.head.key a.line) (sym d.over_key) (subst (λ k. IsDown left (constraints_of wires p.nodes) a.wire.key k a.line) (sym rest.head_key) walk.0) in
    let step : IsPieceStep p pins (entry_at d.over.net d.over.left a.line) (entry_at rest.head.net rest.head.left 0) = step_is p pins wires left placed tracks h are d.over rest.head a.line 0 d.over_there rest.head_there down in
    record {
      path = entry_at d.over.net d.over.left a.line ∷ rest.path;
      down = (step_to p pins (entry_at d.over.net d.over.left a.line) (entry_at rest.head.net rest.head.left 0) (next_entry rest.path (entry_of back)) rest.begins step, rest.down);
      head = d.over;
      head_there = d.over_there;
      head_key = d.over_key;
      begins = record { net = refl; left = refl };
    }

round_of : (p : Placement) (pins : Pins) (wires left : List Wire) (placed : List PlacedWire) (tracks : ℕ) → ArePieceWires p pins wires → AreLeft wires left (constraints_of wires p.nodes) placed tracks → (walk : List Step) (back : Step) → All (λ (s : Step). Contains wires s.wire) walk → Contains wires back.wire → IsWalk steps (IsDown left (constraints_of wires p.nodes)) walk back.wire.key → IsStepwise p pins (map entry_of walk) (entry_of back)
round_of p pins wires left placed tracks h are [] back inside there d = tt
round_of p pins wires left placed tracks h are (a ∷ []) back inside there d = (step_is p pins wires left placed tracks h are a.wire back.wire a.line back.line (All-head (λ (s : Step). Contains wires s.wire) a [] inside) there d.0, tt)
round_of p pins wires left placed tracks h are (a ∷ b ∷ more) back inside there d =
    let rest : All (λ (s : Step). Contains wires s.wire) (b ∷ more) = All-tail (λ (s : Step). Contains wires s.wire) a (b ∷ more) inside in
    (step_is p pins wires left placed tracks h are a.wire b.wire a.line b.line (All-head (λ (s : Step). Contains wires s.wire) a (b ∷ more) inside) (All-head (λ (s : Step). Contains wires s.wire) b more rest) d.0, round_of p pins wires left placed tracks h are (b ∷ more) back rest there d.1)

pub told : (p : Placement) (pins : Pins) (wires left : List Wire) (placed : List PlacedWire) (tracks : ℕ) → ArePieceWires p pins wires → AreLeft wires left (constraints_of wires p.nodes) placed tracks → (d : Wire) → 0 < length left → (cycle : List Step) → IsKeyCycleBelow steps (IsDown left (constraints_of wires p.nodes)) (get_or left 0 d).key cycle → All (λ (s : Step). Contains left s.wire) cycle → IsPieceTold p pins (map entry_of cycle)
told p pins wires left placed tracks h are d some [] c inside = absurd c
told p pins wires left placed tracks h are d some (first ∷ rest) c inside = record {
  start = entry_at (get_or left 0 d).net (get_or left 0 d).left 0;
  is_first = first_stuck p pins wires left placed tracks h are d some 0;
  path = path.path;
  begins = record { net = (let x : (next_entry path.path (entry_of first)).net ≡ path.head.net = path.begins.net in let y : path.head.net ≡ (get_or left 0 d).net = ap (λ (z : Wire). z.net) head in cc); left = omega (arith, path.begins.left, ap (λ (z : Wire). z.left) head) };
  down = path.down;
  round = round_of p pins wires left placed tracks h are (first ∷ rest) first all (All-head (λ (s : Step). Contains wires s.wire) first rest all) c.0.above;
}
  where
    in_wires : (w : Wire) → Contains left w → Contains wires w
    in_wires w there = left_wire wires left (constraints_of wires p.nodes) placed tracks are w there

    all : All (λ (s : Step). Contains wires s.wire) (first ∷ rest)
    all = all_imply (λ (s : Step). Contains left s.wire) (λ (s : Step). Contains wires s.wire) (first ∷ rest) (λ s there. in_wires s.wire there) inside

    path : IsPathOf p pins wires (next_key steps c.1.path first.wire.key) (entry_of first)
    path = path_of p pins wires left placed tracks h are c.1.path first (All-head (λ (s : Step). Contains wires s.wire) first rest all) c.1.walk

    head : path.head ≡ get_or left 0 d
    head = same_key p pins wires h path.head (get_or left 0 d) path.head_there (in_wires (get_or left 0 d) (Contains-get_or left 0 d some)) (omega (arith, path.head_key, c.1.begins))
