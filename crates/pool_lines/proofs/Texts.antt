-- Lines that are the text of the state that they list.
use Rattle.std.specs.Prelude.{ℕ, ◌≡◌, Bool, IsTrue, ◌↔◌, List}
use Rattle.std.proofs.Common.{sym, ◌∙◌}
use Rattle.trail_pools.specs.declared.level.PoolLevel.{PoolLevel}
use Rattle.trail_pools.specs.declared.pools.Pools.{Pools}
use Rattle.trail_pools.specs.declared.state.PoolState.{PoolState}
use Rattle.pool_log.specs.declared.lemma.PoolLine.{PoolLine}
use Rattle.pool_lines.specs.Lines.{line_of}
use Rattle.pool_lines.specs.Listed.{state_listed}
use Rattle.pool_lines.specs.Texts.{IsTextOfState}

module _ (pools : Pools) (levels : List PoolLevel) where
  -- no two lines are the text of one state
  one_text : (line other : PoolLine) → IsTextOfState pools levels line → IsTextOfState pools levels other
      → other.bound ≡ line.bound → other.done ≡ line.done
      → state_listed pools levels other ≡ state_listed pools levels line → other ≡ line
  one_text line other is other_is bound done state =
      sym other_is ∙ (λ i. line_of pools (bound i) (done i) (state i)) ∙ is

  pub only_text : (line : PoolLine) (b : Bool) → (IsTrue b ↔ IsTextOfState pools levels line) → IsTrue b
      → (other : PoolLine) → IsTextOfState pools levels other → other.bound ≡ line.bound → other.done ≡ line.done
      → state_listed pools levels other ≡ state_listed pools levels line → other ≡ line
  only_text line b tells yes' other = one_text line other (tells.0 yes')

  -- the line of a state that it lists is its text
  pub text_back : (bound done : ℕ) (s : PoolState) (it : PoolLine) → it ≡ line_of pools bound done s
      → state_listed pools levels it ≡ s → IsTextOfState pools levels it
  text_back bound done s it is back =
      (λ i. line_of pools ((is i).bound) ((is i).done) (back i)) ∙ sym is
