-- The ways in which the trial of the limits ends.
use Rattle.std.proofs.Common.{ℕ, ◌≡◌, ◌+◌, ◌<◌, ◌≤◌, List, [], length, sym, ap, subst, arith, All, ◌∙◌}
use Rattle.std.proofs.lemmas.List.Elements.{All-nil}
use Rattle.cell_num.specs.declared.finger.Row.{Row}
use Rattle.row_state.specs.declared.kind.Kinds.{Kinds}
use Rattle.row_state.specs.declared.state.State.{State}
use Rattle.row_state.specs.declared.step.Step.{Step}
use Rattle.row_state.specs.Start.{AreSomeKinds, columns_left, start_of}
use Rattle.row_state.proofs.Valid.{gates_are_nets}
use Rattle.lemma_check.specs.Reaches.{best_of}
use Rattle.row_search.specs.declared.found.FoundKept.{FoundKept}
use Rattle.row_search.specs.Limits.{IsFound, IsOpen, ProveGaps, found_of}
use Rattle.row_search.specs.Reached.{IsReached, IsWithin}
use Rattle.row_search.specs.SoFar.{KnowsAll, SoFar}
use Rattle.row_search.specs.Steps.{row_of}
use Rattle.row_search.specs.Visit.{AreKept, HasFailed, HasFound, HasSpent, IsAllowed, IsFirstWithin, IsFurther}
use Rattle.row_search.proofs.Grown.{best_grows, kept_none}
use Rattle.row_search.proofs.Least.{within_wider}
use Rattle.row_search.proofs.Reach.{reached_start}

-- the limits below this one failed
pub record HaveFailed (value : Row → State → Kinds → ℕ) (k : Kinds) (budget : ℕ) (start : State) (limit : ℕ) (p : SoFar) : Type 0 where
  pub kept : AreKept value k p.lemmas
  pub knows : KnowsAll k p
  pub nodes : p.nodes ≡ length p.lemmas
  pub few : p.nodes ≤ budget
  pub low : limit ≤ best_of start p.lemmas
  pub within : All (IsWithin k limit) p.lemmas

pub failed_none : (value : Row → State → Kinds → ℕ) (k : Kinds) (budget : ℕ) (start : State) (p : SoFar) → p.nodes ≡ 0 → p.lemmas ≡ [] → KnowsAll k p → HaveFailed value k budget start 0 p
failed_none value k budget start p none same knows =
    record {
      kept = subst (AreKept value k) (sym same) (kept_none value k);
      knows = knows;
      nodes = omega (arith, none, ap length same);
      few = omega (arith, none);
      low = omega arith;
      within = subst (All (IsWithin k 0)) (sym same) (All-nil (IsWithin k 0));
    }

start_allowed : (k : Kinds) (start : State) (limit : ℕ) → AreSomeKinds k → start ≡ start_of k → IsAllowed k limit start limit
start_allowed k start limit kinds e =
    record { gaps = 0; reached = subst (λ (s : State). IsReached k s 0) (sym e) (reached_start k (gates_are_nets k kinds)); within = omega arith }

-- what the lemmas prove when the visit at this limit ends
still_proved : (value : Row → State → Kinds → ℕ) (k : Kinds) (budget : ℕ) (start : State) (limit : ℕ) (p q : SoFar) → AreSomeKinds k → start ≡ start_of k → HaveFailed value k budget start limit p → IsFurther value k budget (columns_left k start + 1) start limit p q → ProveGaps value k limit q.lemmas
still_proved value k budget start limit p q kinds e h i =
    record {
      kept = i.lemmas;
      within = i.within limit (start_allowed k start limit kinds e) h.within;
      low = omega (arith, h.low, best_grows k (columns_left k start + 1) start p.lemmas q.lemmas i.grown, ap (λ (s : State). best_of s q.lemmas) e);
    }

pub failed_more : (value : Row → State → Kinds → ℕ) (k : Kinds) (budget : ℕ) (start : State) (limit : ℕ) (p q : SoFar) → AreSomeKinds k → start ≡ start_of k → HaveFailed value k budget start limit p → IsFurther value k budget (columns_left k start + 1) start limit p q → HasFailed k start limit p q → HaveFailed value k budget start (limit + 1) q
failed_more value k budget start limit p q kinds e h i failed =
    record {
      kept = i.lemmas;
      knows = failed.knows;
      nodes = omega (arith, failed.counted, h.nodes);
      few = i.nodes;
      low = omega (arith, failed.proves);
      within = within_wider k limit (limit + 1) q.lemmas (omega arith) (still_proved value k budget start limit p q kinds e h i).within;
    }

-- the kept lemmas prove that the limit fails
pub failed_known : (value : Row → State → Kinds → ℕ) (k : Kinds) (budget : ℕ) (start : State) (limit : ℕ) (p : SoFar) → HaveFailed value k budget start limit p → limit < best_of start p.lemmas → HaveFailed value k budget start (limit + 1) p
failed_known value k budget start limit p h above =
    record { kept = h.kept; knows = h.knows; nodes = h.nodes; few = h.few; low = omega (arith, above); within = within_wider k limit (limit + 1) p.lemmas (omega arith) h.within }

pub found_at : (value : Row → State → Kinds → ℕ) (k : Kinds) (budget : ℕ) (start : State) (limit : ℕ) (steps : List Step) (p q : SoFar) (found : FoundKept) → AreSomeKinds k → start ≡ start_of k → HaveFailed value k budget start limit p → IsFurther value k budget (columns_left k start + 1) start limit p q → HasFound k start limit steps p q → found ≡ found_of k q limit steps → IsFound value k budget found
found_at value k budget start limit steps p q found kinds e h i has is =
    record {
      gaps = limit;
      steps = steps;
      p = q;
      is = is;
      last = record {
        first = subst (λ (s : State). IsFirstWithin k s limit (row_of k steps)) e has.row;
        sound = has.sound;
        lemmas = still_proved value k budget start limit p q kinds e h i;
        nodes = omega (arith, has.counted, h.nodes);
        few = i.nodes;
      };
    }

pub open_at : (value : Row → State → Kinds → ℕ) (k : Kinds) (budget : ℕ) (start : State) (limit proved : ℕ) (p q : SoFar) → AreSomeKinds k → start ≡ start_of k → HaveFailed value k budget start limit p → IsFurther value k budget (columns_left k start + 1) start limit p q → HasSpent k budget start p q → proved ≡ best_of start q.lemmas → IsOpen value k budget q.lemmas proved
open_at value k budget start limit proved p q kinds e h i spent is =
    let so_far : ProveGaps value k limit q.lemmas = still_proved value k budget start limit p q kinds e h i in
    let best_is : proved ≡ best_of (start_of k) q.lemmas = is ∙ ap (λ (s : State). best_of s q.lemmas) e in
    record {
      lemmas = record { kept = i.lemmas; within = within_wider k limit proved q.lemmas (omega (arith, so_far.low, best_is)) so_far.within; low = omega (arith, best_is) };
      proved_is = best_is;
      many = omega (arith, spent.nodes, spent.most, h.nodes, ap (columns_left k) e);
      few = omega (arith, spent.nodes, i.fewer, h.nodes);
    }
