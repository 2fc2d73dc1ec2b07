-- A text can hold which fingers are left out.
use Rattle.std.specs.Prelude.{ℕ, ◌≡◌, ◌<◌, ◌==◌, ◌≢◌, Bool, true, false, List, [], ◌∷◌, None, Some}
use Rattle.std.specs.Prelude.{All, AllPairs, IfSome, if◌then◌else◌, length}
use Rattle.std.proofs.Common.{refl, sym, ap, subst, arith, get_or}
use Rattle.std.proofs.lemmas.Bool.{and_from, eqb-false, lt-ltb}
use Rattle.std.proofs.lemmas.List.Elements.{All-contains, All-filter}
use Rattle.std.proofs.lemmas.List.FromFn.{get_or-map-range_with_len, length-map-range_with_len}
use Rattle.std.proofs.lemmas.List.Kept.{AllPairs-filter}
use Rattle.cell_num.proofs.Lists.{contains_here}
use Rattle.cell_num.proofs.Pairs.{pairs_head, pairs_tail}
use Rattle.cell_num.specs.declared.finger.Fingers.{Fingers}
use Rattle.cell_num.specs.declared.finger.Row.{Row}
use Rattle.cell_num.specs.declared.net.NetNo.{NetNo}
use Rattle.row_state.specs.declared.kind.Kinds.{Kinds}
use Rattle.row_state.specs.Start.{AreKinds}
use Rattle.trail_log.specs.Fits.{NetFits}
use Rattle.trail_log.specs.Order.{increases, net_rank}
use Rattle.fewer_fingers.specs.declared.fewer.LeftOut.{LeftOut}
use Rattle.fewer_log.specs.Fits.{OutFits}
use Rattle.pool_trails.specs.declared.opening.Opening.{Opening}
use Rattle.pool_trails.specs.declared.opening.Opening.TheVariants.{Crowded, Longer, Without}
use Rattle.pool_trails.specs.Opening.{all_nets, gates_left_out, is_left_out, out_of}

abbrev net_of : ℕ → NetNo
net_of n = record { 0 = n }

-- ---- each net before the next

nets_increase : (gates : List NetNo) → AllPairs (λ (a b : NetNo). a.0 < b.0) gates → increases net_rank gates ≡ true
nets_increase [] h = refl
nets_increase (x ∷ []) h = refl
nets_increase (x ∷ y ∷ ys) h =
    let all : All (λ (b : NetNo). x.0 < b.0) (y ∷ ys) = pairs_head (λ (a b : NetNo). a.0 < b.0) x (y ∷ ys) h in
    let first : x.0 < y.0 = All-contains (λ (b : NetNo). x.0 < b.0) (y ∷ ys) y all (contains_here y ys) in
    and_from _ _ (lt-ltb x.0 y.0 first)
    (nets_increase (y ∷ ys) (pairs_tail (λ (a b : NetNo). a.0 < b.0) x (y ∷ ys) h))

module _ (f : Fingers) where
  net_at : (i : ℕ) (d : NetNo) → i < f.nets → (get_or (all_nets f) i d).0 ≡ i
  net_at i d low = ap (λ (g : NetNo). g.0) (get_or-map-range_with_len net_of 0 f.nets i i d low (omega arith))

  long : length (all_nets f) ≡ f.nets
  long = length-map-range_with_len net_of 0 f.nets

  nets_fit : All (NetFits f.nets) (all_nets f)
  nets_fit i d short =
      let low : i < f.nets = omega (arith, short, long) in
      omega (arith, low, net_at i d low)

  nets_ascend : AllPairs (λ (a b : NetNo). a.0 < b.0) (all_nets f)
  nets_ascend i j d less short =
      let low : j < f.nets = omega (arith, short, long) in
      omega (arith, less, net_at i d (omega (arith, less, low)), net_at j d low)

-- ---- the gates

module _ (row : Row) (f : Fingers) where
  abbrev gates : List NetNo
  gates = gates_left_out row f

  abbrev out : LeftOut
  out = record { row = row; gates = gates }

  out_fits : (length gates == 0) ≡ false → OutFits f.nets out
  out_fits off = record {
    some = let more : length gates ≢ 0 = eqb-false (length gates) 0 off in omega (arith, more);
    gates = All-filter (is_left_out row f) (NetFits f.nets) (all_nets f) (nets_fit f);
    increase = nets_increase gates
        (AllPairs-filter (λ (a b : NetNo). a.0 < b.0) (is_left_out row f) (all_nets f) (nets_ascend f));
  }

  fits_if : (b : Bool) → (length gates == 0) ≡ b → IfSome (if b then None else Some out) (OutFits f.nets)
  fits_if true e = tt
  fits_if false e = out_fits e

fits_nets : (opening : Opening) (f : Fingers) → IfSome (out_of opening f) (OutFits f.nets)
fits_nets Longer f = tt
fits_nets Crowded f = tt
fits_nets (Without row) f = fits_if row f (length (gates_left_out row f) == 0) refl

-- what is left out is in range for the kinds of the fingers
pub out_fits_kinds : (opening : Opening) (f : Fingers) (k : Kinds) → AreKinds f k
    → IfSome (out_of opening f) (OutFits k.nets)
out_fits_kinds opening f k of_f =
    subst (λ (n : ℕ). IfSome (out_of opening f) (OutFits n)) (sym of_f.nets) (fits_nets opening f)
