-- Points are read one after the other.
use Rattle.std.proofs.Common.{ℕ, ◌≡◌, ◌+◌, ◌*◌, List, [], ◌∷◌, ◌++◌, arith}
use Rattle.std.proofs.lemmas.List.FromFn.{map-range_with_len_more}
use Rattle.gds_area.specs.Points.{point_at, first_points}

pub points_more : (xy : List ℕ) (n : ℕ) → first_points (n + 1) xy ≡ first_points n xy ++ point_at (8 * n) xy ∷ []
points_more xy n = map-range_with_len_more (λ i. point_at (8 * i) xy) 0 n n (let e : 0 + n ≡ n = omega arith in e)
