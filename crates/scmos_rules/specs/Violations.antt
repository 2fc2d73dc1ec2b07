-- The broken rules of a layout.
use Rattle.std.specs.Prelude.{◌≡◌, ◌↔◌, ◌⊎◌, ℕ, ◌<◌, ◌≤◌, List, length, Option, Some, None, slice_get}
use Rattle.std.specs.List.{Contains, AllPairs}
use Rattle.box_geom.specs.Regions.{IsEmpty, IsFirst}
use Rattle.box_geom.specs.declared.shape.Shape.{Shape}
use Rattle.scmos_rules.specs.Numbers.{numbers_of}
use Rattle.scmos_rules.specs.Rules.{Fails}
use Rattle.scmos_rules.specs.declared.number.RuleNo.{RuleNo}
use Rattle.scmos_rules.specs.declared.rules.Deck.{Deck}
use Rattle.scmos_rules.specs.declared.violation.Violation.{Violation}
use Rattle.scmos_rules.specs.declared.violation.RuleFault.{RuleFault}
use Rattle.scmos_rules.specs.declared.violation.RuleFault.TheVariants.{TooMany, NoMemory}

-- a stands before b in the list
pub record StandsBefore {X : Type 0} (xs : List X) (a b : X) : Type 0 where
  pub i : ℕ
  pub j : ℕ
  pub before : i < j
  pub first : slice_get xs i ≡ Some a
  pub second : slice_get xs j ≡ Some b

-- one of the violations is of the rule
abbrev pub Lists : List Violation → RuleNo → Type 0
Lists vs rule = (v : Violation) × Contains vs v × (v.rule ≡ rule)

-- The violations list each of the rules that some cell fails, with the first cell that fails it, and no other
-- rule, in the order of the rules. A rule that they do not list is failed by no cell.
pub record AreBroken (d : Deck) (s : List Shape) (rules : List RuleNo) (vs : List Violation) : Type 0 where
  pub listed : (v : Violation) → Contains vs v ↔ (Contains rules v.rule × IsFirst (Fails d v.rule s) v.x v.y)
  pub order : AllPairs (λ (v w : Violation). StandsBefore rules v.rule w.rule) vs
  pub each : (rule : RuleNo) → Contains rules rule → Lists vs rule ⊎ IsEmpty (Fails d rule s)

-- the violation of one rule, where some cell fails it
pub record IsViolation (d : Deck) (s : List Shape) (number : RuleNo) (v : Violation) : Type 0 where
  pub rule : v.rule ≡ number
  pub first : IsFirst (Fails d number s) v.x v.y

abbrev pub IsVerdict : Deck → List Shape → RuleNo → Option Violation → Type 0
IsVerdict d s rule None = IsEmpty (Fails d rule s)
IsVerdict d s rule (Some v) = IsViolation d s rule v

abbrev pub AreViolations : Deck → List Shape → List Violation → Type 0
AreViolations d s vs = AreBroken d s (numbers_of d) vs

-- too many rectangles exactly above 10,000
abbrev pub IsFaultOf : List Shape → RuleFault → Type 0
IsFaultOf s (TooMany count) = (count ≡ length s) × (10000 < length s)
IsFaultOf s NoMemory = length s ≤ 10000
