-- The numbers of nets fit their place in a node's number.
use Rattle.std.proofs.Common.{ℕ, ◌<◌, ◌≤◌, Bool, List, arith, All}
use Rattle.std.specs.List.{filter, range_with_len}
use Rattle.std.proofs.lemmas.List.Elements.{All-filter}
use Rattle.cell_num.specs.declared.finger.Row.{Row}
use Rattle.cell_num.specs.declared.finger.Row.TheVariants.{P, N}
use Rattle.cell_num.specs.declared.finger.Finger.{Finger}
use Rattle.cell_num.specs.declared.finger.Fingers.{Fingers}
use Rattle.cell_num.specs.Fingers.{AreFingers, IsFinger}
use Rattle.cell_num.proofs.Lists.{all_from_contains, all_imply}
use Rattle.trail_state.specs.Choices.{is_on}
use Rattle.trail_state.proofs.Members.{passes_from}
use Rattle.trail_state.specs.Nodes.{is_net_in, may_have}
use Rattle.trail_state.proofs.Opened.{range_below}
use Rattle.trail_state.specs.Pairings.{HasSmallEnds, nets_in}

below : (test : ℕ → Bool) (f : Fingers) → AreFingers f → All (λ (net : ℕ). net < 256) (filter test (range_with_len 0 f.nets))
below test f ok =
    all_from_contains (λ (net : ℕ). net < 256) (filter test (range_with_len 0 f.nets)) (λ v k. omega (arith, range_below f.nets v (passes_from test (range_with_len 0 f.nets) v k).there, ok.few_nets))

pub nets_small : (fs : List Finger) (f : Fingers) → AreFingers f → All (λ (net : ℕ). net < 256) (nets_in fs f.nets)
nets_small fs f ok = below (is_net_in fs) f ok

pub may_small : (mine other : List Finger) (g : ℕ) (f : Fingers) → AreFingers f → All (λ (net : ℕ). net < 256) (filter (may_have mine other g) (range_with_len 0 f.nets))
may_small mine other g f ok = below (may_have mine other g) f ok

small : (r : Row) (nets : ℕ) (fs : List Finger) → nets ≤ 256 → All (IsFinger r nets) fs → All HasSmallEnds fs
small r nets fs few all = all_imply (IsFinger r nets) HasSmallEnds fs (λ x is. (omega (arith, is.order, is.ends, few), omega (arith, is.ends, few))) all

pub p_small : (g : ℕ) (f : Fingers) → AreFingers f → All HasSmallEnds (filter (is_on g) f.p)
p_small g f ok = All-filter (is_on g) HasSmallEnds f.p (small P f.nets f.p ok.few_nets ok.p)

pub n_small : (g : ℕ) (f : Fingers) → AreFingers f → All HasSmallEnds (filter (is_on g) f.n)
n_small g f ok = All-filter (is_on g) HasSmallEnds f.n (small N f.nets f.n ok.few_nets ok.n)
