-- Which lemmas are justified by those before them, and what justified lemmas prove.
use Rattle.std.specs.Prelude.{ℕ, ◌+◌, ◌-◌, ◌/◌, ◌==◌, ◌&&◌, ◌||◌, Bool, false, nat_le, cond, max, List, [], ◌∷◌, ◌++◌}
use Rattle.std.specs.Prelude.{Option, Some, None, drop, fold, length, slice_get, if◌then◌else◌}
use Rattle.std.proofs.Math.Bool.{beq}
use Rattle.std.specs.Cmp.Lexicographic.{pointwise}
use Rattle.std.specs.List.{list_all, list_any}
use Rattle.trail_state.specs.declared.edge.Edge.{Edge}
use Rattle.trail_state.specs.declared.state.Place.{Place}
use Rattle.trail_state.specs.Settling.{ends_after, state_after}
use Rattle.trail_state.specs.declared.level.Level.{Level}
use Rattle.trail_state.specs.Levels.{Ends}
use Rattle.trail_check.specs.declared.lemma.TrailLemma.{TrailLemma}

abbrev pub same_place : Place → Place → Bool
same_place a b = (a.node.0 == b.node.0) && (a.class.0 == b.class.0) && beq a.odd b.odd && beq a.flagged b.flagged

-- place by place
abbrev pub same_state : List Place → List Place → Bool
same_state a b = pointwise same_place a b

-- a lemma on the state behind so many gates, with this bound or a greater one
abbrev pub says : ℕ → List Place → ℕ → TrailLemma → Bool
says done state need lemma = (lemma.done == done) && same_state lemma.state state && nat_le need lemma.bound

-- so many ends more are known to come: none, or as an earlier lemma says
abbrev pub is_known : List TrailLemma → ℕ → List Place → ℕ → Bool
is_known earlier done state need = (need == 0) || list_any (says done state need) earlier

-- behind this choice the lemma's bound, less the ends that are certain then, is known
abbrev pub choice_reaches : List TrailLemma → Level → TrailLemma → List Edge → Bool
choice_reaches earlier level lemma choice =
    is_known earlier (lemma.done + 1) (state_after level.now level.next lemma.state choice)
    (lemma.bound - ends_after level.now level.next lemma.state choice)

abbrev pub level_reaches : List TrailLemma → TrailLemma → Option Level → Bool
level_reaches earlier lemma None = false
level_reaches earlier lemma (Some level) = list_all (choice_reaches earlier level lemma) level.choices

-- a gate is left, and each of its choices reaches the bound
abbrev pub is_justified : List Level → List TrailLemma → TrailLemma → Bool
is_justified levels earlier lemma = level_reaches earlier lemma (slice_get levels lemma.done)

-- the line of the first lemma that is not justified by those before it, where these stand before the line n
unfoldable pub unproved : List Level → List TrailLemma → ℕ → List TrailLemma → Option ℕ
unproved levels earlier n [] = None
unproved levels earlier n (lemma ∷ lemmas) =
    if is_justified levels earlier lemma then unproved levels (earlier ++ lemma ∷ []) (n + 1) lemmas else Some n

-- the lemma is true: from its state on, each list of choices of the gates left results in as many ends
abbrev pub IsTrueOf : List Level → TrailLemma → Type 0
IsTrueOf levels lemma = Ends (drop lemma.done levels) lemma.state lemma.bound

-- a lemma on the state before the first gate
abbrev pub is_start : TrailLemma → Bool
is_start lemma = (lemma.done == 0) && (length lemma.state == 0)

abbrev pub better : ℕ → TrailLemma → ℕ
better most lemma = cond (is_start lemma) (max most lemma.bound) most

-- the greatest bound of a lemma on that state, 0 if none
abbrev pub ends_proved : List TrailLemma → ℕ
ends_proved lemmas = fold better 0 lemmas

-- a row that must have so many ends has so many gaps: the half of the ends, rounded up, less one
abbrev pub gaps_proved : ℕ → ℕ
gaps_proved ends = (ends - 1) / 2
