-- When next columns leave a lemma justified.
use Rattle.std.proofs.Common.{ℕ, ◌≡◌, ◌≤◌, ◌↔◌, ◌++◌, Bool, List, [], ◌∷◌, Some, slice_get, length, take, ap, inl, inr, refl, sym, subst, arith, All, Any, ◌∙◌}
use Rattle.std.specs.Prelude.{IsTrue}
use Rattle.std.proofs.Math.Seq.{take-append_seam}
use Rattle.std.proofs.lemmas.List.{length-append}
use Rattle.std.proofs.lemmas.List.Elements.{All-head, All-nil, Contains-append_left}
use Rattle.cell_num.specs.declared.finger.Row.{Row}
use Rattle.cell_num.specs.declared.net.Pins.{Pins}
use Rattle.cell_num.proofs.Pairs.{Some', any_at, some_from_any}
use Rattle.row_state.specs.declared.kind.Kinds.{Kinds}
use Rattle.row_state.specs.declared.state.State.{State}
use Rattle.row_state.specs.declared.step.Step.{Step}
use Rattle.row_state.specs.Steps.{state_after}
use Rattle.track_ways.specs.Certificate.{NeedsMore}
use Rattle.row_cycles.specs.declared.above.NetAbove.{NetAbove}
use Rattle.row_cycles.specs.declared.lemma.CycleLemma.{CycleLemma}
use Rattle.row_cycles.specs.Above.{Follows, HasCycle, above_end, above_step}
use Rattle.row_cycles.specs.Certificate.{Branches, Covers, CoversAll}
use Rattle.row_cycles.specs.Noted.{IsPassedBy}
use Rattle.row_cycles.specs.Steps.{LeftIsRefuted}
use Rattle.row_cycles.proofs.Noted.{covered_at, passed_at}
use Rattle.row_cycles.proofs.Paths.{cycle_more}

-- nothing follows from nothing
none_below : (a : NetAbove) → Follows [] a → ⊥
none_below a ([], there) = absurd (omega (arith, there.1))
none_below a (net ∷ between, h) = absurd (omega (arith, h.0.1))

no_pairs : (pairs : List NetAbove) → All (Follows []) pairs → pairs ≡ []
no_pairs [] all = refl
no_pairs (a ∷ more) all = absurd (none_below a (All-head (Follows []) a more all))

-- a lemma that covers what asks for nothing asks for nothing
pub bare_is_all : (s : State) (gaps : ℕ) (lemmas : List CycleLemma) → Any (Covers s gaps []) lemmas ↔ Any (CoversAll s gaps) lemmas
bare_is_all s gaps lemmas = (
  λ any.
      let found : Some' (Covers s gaps []) lemmas = some_from_any (Covers s gaps []) lemmas any in
      any_at (CoversAll s gaps) lemmas found.it found.there (record { state = found.holds.state; enough = found.holds.enough; any = no_pairs found.it.above found.holds.follow }),
  λ any.
      let found : Some' (CoversAll s gaps) lemmas = some_from_any (CoversAll s gaps) lemmas any in
      any_at (Covers s gaps []) lemmas found.it found.there (record { state = found.holds.state; enough = found.holds.enough; follow = subst (All (Follows [])) (sym found.holds.any) (All-nil (Follows [])) }),
)

-- what is at a place covers or does not
pub covered_there : (s : State) (gaps : ℕ) (above : List NetAbove) (lemmas : List CycleLemma) (at : ℕ) (lemma : CycleLemma) → slice_get lemmas at ≡ Some lemma → Covers s gaps above lemma → Any (Covers s gaps above) lemmas
covered_there s gaps above lemmas at lemma is covers = covered_at (Covers s gaps above) lemmas at lemma is covers

pub passed_there : (s : State) (gaps : ℕ) (above : List NetAbove) (lemmas : List CycleLemma) (at : ℕ) (lemma : CycleLemma) → slice_get lemmas at ≡ Some lemma → (Covers s gaps above lemma → ⊥) → IsPassedBy (Covers s gaps above) lemmas at
passed_there s gaps above lemmas at lemma is none = passed_at (Covers s gaps above) lemmas at lemma is none

-- a lemma whose pairs have a cycle by themselves
pub cyclic_branches : (value : Row → State → Kinds → ℕ) (pins : Pins) (k : Kinds) (earlier : List CycleLemma) (lemma : CycleLemma) → HasCycle lemma.above → Branches value pins k earlier lemma
cyclic_branches value pins k earlier lemma cycle = record {
  steps = λ step left possible sum. inr (inl (more (above_step pins k lemma.state step)));
  ends = λ none. more (above_end pins lemma.state);
}
  where
    more : (pairs : List NetAbove) → HasCycle (lemma.above ++ pairs)
    more pairs = cycle_more lemma.above (lemma.above ++ pairs) (λ a there. Contains-append_left lemma.above pairs a there) cycle

-- the pairs of the lemma are the first ones
pub first_part : (first last above : List NetAbove) (n : ℕ) → n ≡ length first → above ≡ first ++ last → take n above ≡ first
first_part first last above n is grown = ap (λ i. take i above) is ∙ ap (take (length first)) grown ∙ take-append_seam first last

pub first_within : (first last above : List NetAbove) (n : ℕ) → n ≡ length first → above ≡ first ++ last → n ≤ length above
first_within first last above n is grown = omega (arith, is, ap length grown, length-append first last)

-- with neither more gaps nor a cycle, an earlier lemma must be about the state
pub left_decides : (value : Row → State → Kinds → ℕ) (pins : Pins) (k : Kinds) (earlier : List CycleLemma) (lemma : CycleLemma) (step : Step) (left : ℕ) (s : State) (above : List NetAbove) (known : Bool) → s ≡ state_after k lemma.state step → above ≡ lemma.above ++ above_step pins k lemma.state step → (HasCycle above → ⊥) → (NeedsMore value k s left → ⊥) → IsTrue known ↔ Any (Covers s left above) earlier → IsTrue known ↔ LeftIsRefuted value pins k earlier lemma step left
left_decides value pins k earlier lemma step left s above known after grown none few decides = (
  λ yes'. inr (inr (subst (λ pairs. Any (Covers (state_after k lemma.state step) left pairs) earlier) grown (subst (λ z. Any (Covers z left above) earlier) after (decides.0 yes')))),
  λ refuted. elim refuted [
    | inl more ↦ absurd (few (subst (λ z. NeedsMore value k z left) (sym after) more))
    | inr rest ↦ elim rest [
      | inl cycle ↦ absurd (none (subst HasCycle (sym grown) cycle))
      | inr known' ↦ decides.1 (subst (λ z. Any (Covers z left above) earlier) (sym after) (subst (λ pairs. Any (Covers (state_after k lemma.state step) left pairs) earlier) (sym grown) known'))
    ]
  ],
)
