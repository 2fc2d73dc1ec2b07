-- Which lines are the text of the state that they list: each state has one.
use Rattle.std.specs.Prelude.{◌≡◌, List}
use Rattle.trail_pools.specs.declared.level.PoolLevel.{PoolLevel}
use Rattle.trail_pools.specs.declared.pools.Pools.{Pools}
use Rattle.pool_log.specs.declared.lemma.PoolLine.{PoolLine}
use Rattle.pool_lines.specs.Lines.{line_of}
use Rattle.pool_lines.specs.Listed.{state_listed}

-- the line of the state that this one lists, with the same bound after as many gates
abbrev pub text_of_state : Pools → List PoolLevel → PoolLine → PoolLine
text_of_state pools levels line = line_of pools line.bound line.done (state_listed pools levels line)

-- So it lists only what is open, each place in one class, and no place as odd that is not.
abbrev pub IsTextOfState : Pools → List PoolLevel → PoolLine → Type 0
IsTextOfState pools levels line = text_of_state pools levels line ≡ line
