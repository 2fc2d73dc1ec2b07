-- What a search keeps, how it goes on, and the units that it spends.
use Rattle.std.specs.Prelude.{ℕ, ◌≡◌, ◌≤◌, ◌<◌, ◌+◌, ◌++◌, ◌⊎◌, false, List, [], Some, None, All, AllPairs, Contains}
use Rattle.std.specs.Prelude.{length, slice_get}
use Rattle.trail_state.specs.declared.edge.Node.{Node}
use Rattle.trail_state.specs.declared.state.Place.{Place}
use Rattle.trail_state.specs.declared.level.Level.{Level}
use Rattle.trail_check.specs.declared.lemma.TrailLemma.{TrailLemma}
use Rattle.trail_check.specs.Indexed.{IsIndexOf}
use Rattle.trail_check.specs.Justified.{is_known, says, unproved}
use Rattle.trail_log.specs.Fits.{LemmaFits}
use Rattle.trail_check.specs.Listed.{lemmas_listed, nodes_of}
use Rattle.trail_search.specs.declared.kept.Kept.{Kept}
use Rattle.trail_search.specs.Line.{AllNodes}
use Rattle.trail_search.specs.Reached.{IsWithin}
use Rattle.trail_search.specs.Units.{units_of}

-- few enough nodes to count them
abbrev pub AreSmall : List Level → Type 0
AreSmall levels = All (λ (level : Level). length level.now ≤ 65536) levels

-- the nodes of a level ascend, and those that later gates can meet are the nodes of the next level
pub record AreChained (levels : List Level) : Type 0 where
  pub ascend : (i : ℕ) → AllPairs (λ (a b : Node). a.0 < b.0) (nodes_of (slice_get levels i))
  pub next : (i : ℕ) (level : Level) → slice_get levels i ≡ Some level
      → level.next ≡ nodes_of (slice_get levels (i + 1))

-- a place at the node of this number, which names its own class
pub record Names (s : List Place) (name : ℕ) : Type 0 where
  pub it : Place
  pub there : Contains s it
  pub node : it.node.0 ≡ name
  pub class : it.class.0 ≡ name

-- Places at some of the nodes, in ascending order. The first place of a class names it, and all of its places have
-- one flag.
pub record IsStateOf (nodes : List Node) (s : List Place) : Type 0 where
  pub ascend : AllPairs (λ (p q : Place). p.node.0 < q.node.0) s
  pub within : (p : Place) → Contains s p → Contains nodes p.node
  pub low : (p : Place) → Contains s p → p.class.0 ≤ p.node.0
  pub named : (p : Place) → Contains s p → Names s p.class.0
  pub alike : (p q : Place) → Contains s p → Contains s q → p.class.0 ≡ q.class.0 → p.flagged ≡ q.flagged

abbrev pub lemma_of : ℕ → List Place → ℕ → TrailLemma
lemma_of done state bound = record { bound = bound; done = done; state = state }

-- Each lemma has a bound, and is on a state of the nodes that its gates leave open. No earlier one says as much of it.
pub record AreNew (levels : List Level) (lemmas : List TrailLemma) : Type 0 where
  pub some : All (λ (l : TrailLemma). 0 < l.bound) lemmas
  pub states : All (λ (l : TrailLemma). IsStateOf (nodes_of (slice_get levels l.done)) l.state) lemmas
  pub unsaid : AllPairs (λ (a b : TrailLemma). says b.done b.state b.bound a ≡ false) lemmas

-- The lines list the lemmas, each of which those before it justify, and do not say. A text can hold them. The index
-- knows them all.
pub record AreKept (levels : List Level) (kept : Kept) : Type 0 where
  pub listed : lemmas_listed levels kept.lines ≡ kept.lemmas
  pub justified : unproved levels [] 5 kept.lemmas ≡ None
  pub new : AreNew levels kept.lemmas
  pub indexed : IsIndexOf kept.lemmas kept.index
  pub fits : (nets : ℕ) → AllNodes nets levels → All (LemmaFits nets) kept.lines

-- lemmas were added, if any
pub record IsFurther (levels : List Level) (before after : Kept) : Type 0 where
  pub kept : AreKept levels after
  pub more : List TrailLemma
  pub grown : after.lemmas ≡ before.lemmas ++ more

-- the units of each lemma that was added were spent, and at most so many others
pub record AreTied (levels : List Level) (before after : Kept) (left left_after others : ℕ) : Type 0 where
  pub few : left_after + units_of levels after.lemmas ≤ left + units_of levels before.lemmas
  pub many : left + units_of levels before.lemmas ≤ left_after + units_of levels after.lemmas + others

-- where choices lead to the state, they lead to the states of all lemmas that were added
abbrev pub StayWithin : List Level → ℕ → List Place → ℕ → Kept → Kept → Type 0
StayWithin levels done s bound before after = (most : ℕ) → IsWithin levels most (lemma_of done s bound)
    → All (IsWithin levels most) before.lemmas → All (IsWithin levels most) after.lemmas

-- No more is known of states behind fewer gates, nor of more ends than the bound behind as many.
abbrev pub StayAs : ℕ → ℕ → Kept → Kept → Type 0
StayAs done bound before after = (d : ℕ) (s : List Place) (need : ℕ) → (d < done) ⊎ ((d ≡ done) × (bound < need))
    → is_known after.lemmas d s need ≡ is_known before.lemmas d s need
