-- Classes of numbers that links chain.
use Rattle.std.specs.Prelude.{◌↔◌, ◌≡◌, ℕ, ◌<◌, List, slice_index, ◌⊎◌}
use Rattle.std.specs.List.{Contains}
use Rattle.box_geom.specs.Chains.{Chain}
use Rattle.number_trees.specs.declared.linking.Link.{Link}

-- both ends are below n
pub record IsLink (n : ℕ) (link : Link) : Type 0 where
  pub one : link.one < n
  pub other : link.other < n

-- a link of the list joins the two, in one order or the other
pub record Tied (links : List Link) (i j : ℕ) : Type 0 where
  pub link : Link
  pub listed : Contains links link
  pub ends : ((link.one ≡ i) × (link.other ≡ j)) ⊎ ((link.one ≡ j) × (link.other ≡ i))

-- labels are equal exactly where links chain the numbers
pub record Separates (n : ℕ) (links : List Link) (labels : List ℕ) : Type 0 where
  pub same : (i j : ℕ) → i < n → j < n → (slice_index labels i ≡ slice_index labels j ↔ Chain (Tied links) i j)
