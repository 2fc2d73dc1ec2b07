-- Lemmas whose states are kept by their numbers.
use Rattle.std.specs.Prelude.{ℕ, ◌≡◌, ◌+◌, ◌*◌, List, Some, None, length}
use Rattle.row_state.specs.declared.kind.Kinds.{Kinds}
use Rattle.row_state.specs.declared.state.State.{State}
use Rattle.row_state.specs.Code.{state_of}
use Rattle.bound_log.specs.declared.log.Rule.{Rule}
use Rattle.bound_log.specs.declared.log.Lemma.{Lemma}
use Rattle.bound_log.specs.declared.log.Best.{Best}
use Rattle.bound_log.specs.declared.log.Log.{Log}

-- the number whose lower 64 bits stand behind the higher ones
abbrev pub number_of : ℕ → ℕ → ℕ
number_of high low = high * 18446744073709551616 + low

-- the lemma on the state of which this is the number
abbrev pub numbered_lemma : Kinds → ℕ → ℕ → Rule → Lemma
numbered_lemma k code bound rule = record { state = state_of k code; bound = bound; rule = rule }

-- a lemma whose counts have room for those of another one
pub record HasRoom (room lemma : Lemma) : Type 0 where
  pub p : length room.state.p_left ≡ length lemma.state.p_left
  pub n : length room.state.n_left ≡ length lemma.state.n_left

abbrev pub lemma_of : State → ℕ → Rule → Lemma
lemma_of s bound rule = record { state = s; bound = bound; rule = rule }

-- lemmas that are kept while a search goes on, on the states of these kinds
pub record KeptSoFar : Type 0 where
  pub kinds : Kinds
  pub lemmas : List Lemma

-- the log of kept lemmas, of this version, that lists a row
abbrev pub log_with : ℕ → List Lemma → Best → Log
log_with version kept best = record { version = version; lemmas = kept; best = Some best }

-- and one that lists none
abbrev pub log_without : ℕ → List Lemma → Log
log_without version kept = record { version = version; lemmas = kept; best = None }
