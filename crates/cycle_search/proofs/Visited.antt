-- What a visit shows of its lemmas.
use Rattle.std.proofs.Common.{ℕ, Option, Some, None, IfSome, ◌≡◌, ◌+◌, ◌-◌, ◌<◌, ◌≤◌, ◌++◌, List, [], ◌∷◌, length, get_or, take, take_all, inl, inr, refl, sym, ap, subst, arith, All, Any, Contains, ◌∙◌, append_assoc, append-nil}
use Rattle.std.specs.Prelude.{IfNone}
use Rattle.std.proofs.lemmas.List.{get_or_default}
use Rattle.std.proofs.lemmas.List.Elements.{All-append, All-contains, All-more, All-nil, All-weaker, Contains-append_right}
use Rattle.std.proofs.lemmas.List.Quantifiers.{all_pairs_push}
use Rattle.cell_num.specs.declared.finger.Row.{Row}
use Rattle.cell_num.specs.declared.net.NetNo.{NetNo}
use Rattle.cell_num.specs.declared.net.Pins.{Pins}
use Rattle.cell_num.proofs.Lists.{all_from_contains, all_imply, all_one, contains_here}
use Rattle.cell_num.proofs.Pairs.{Some', any_append_left, any_at, pairs_none, some_from_any}
use Rattle.row_state.specs.declared.candidate.Candidate.{Candidate}
use Rattle.row_state.specs.declared.kind.Kinds.{Kinds}
use Rattle.row_state.specs.declared.state.State.{State}
use Rattle.row_state.specs.declared.step.Step.{Step}
use Rattle.row_state.specs.Candidates.{AreCandidates}
use Rattle.row_state.specs.Completion.{cost_of}
use Rattle.row_state.specs.Start.{AreSomeKinds, HasFingers, IsState}
use Rattle.row_state.specs.Steps.{IsPossible, column_of, state_after}
use Rattle.row_cycles.specs.declared.above.NetAbove.{NetAbove}
use Rattle.cycle_search.specs.declared.ahead.Ahead.{Ahead}
use Rattle.row_cycles.specs.declared.lemma.CycleLemma.{CycleLemma}
use Rattle.cycle_search.specs.declared.progress.Progress.{Progress}
use Rattle.cycle_search.specs.declared.search.WiredRow.{WiredRow}
use Rattle.cycle_search.specs.declared.search.WiredRow.TheVariants as ended
use Rattle.row_cycles.specs.Above.{Follows, HasCycle, HasNets, above_end, above_step, over}
use Rattle.row_cycles.specs.Certificate.{Covers, IsJustified, IsRefuted}
use Rattle.row_cycles.specs.Fits.{CycleFits, IsWithin}
use Rattle.row_cycles.specs.Noted.{AreNoted}
use Rattle.cycle_search.specs.Search.{AreKept, HasReason, lemmas_in}
use Rattle.row_cycles.specs.Steps.{LeftIsRefuted, StepIsRefuted}
use Rattle.cycle_search.specs.Visit.{AreSame, IsAhead, IsGrown, IsKept, IsOpen, lemma_at}
use Rattle.row_cycles.proofs.Nets.{few_nets}
use Rattle.row_cycles.proofs.Certified.{each_push}
use Rattle.row_cycles.proofs.Left.{each_left, same_left}
use Rattle.row_cycles.proofs.Paths.{cycle_beside, cycle_through, first_pair, follows_beside, follows_through, last_pair, one_above}
use Rattle.cycle_search.specs.Ways.{AddsNeeded}
use Rattle.cycle_search.proofs.Needs.{adds_all, adds_there, among_last}

-- the column leaves the lemma of these pairs justified
abbrev pub StepFails : (Row → State → Kinds → ℕ) → Pins → Kinds → List CycleLemma → State → ℕ → List NetAbove → Candidate → Type 0
StepFails value pins k lemmas s allowed above c = StepIsRefuted value pins k lemmas (lemma_at s allowed above) c.step

refuted_more : (value : Row → State → Kinds → ℕ) (k : Kinds) (xs ys more : List CycleLemma) (s : State) (gaps : ℕ) (above : List NetAbove) → ys ≡ xs ++ more → IsRefuted value k xs s gaps above → IsRefuted value k ys s gaps above
refuted_more value k xs ys more s gaps above is (inl d) = inl d
refuted_more value k xs ys more s gaps above is (inr (inl cycle)) = inr (inl cycle)
refuted_more value k xs ys more s gaps above is (inr (inr any)) = inr (inr (subst (Any (Covers s gaps above)) (sym is) (any_append_left (Covers s gaps above) xs more any)))

pub steps_fail_more : (value : Row → State → Kinds → ℕ) (pins : Pins) (k : Kinds) (xs ys more : List CycleLemma) (s : State) (allowed : ℕ) (above : List NetAbove) (items : List Candidate) → ys ≡ xs ++ more → All (StepFails value pins k xs s allowed above) items → All (StepFails value pins k ys s allowed above) items
steps_fail_more value pins k xs ys more s allowed above items is all =
    All-weaker (StepFails value pins k xs s allowed above) (StepFails value pins k ys s allowed above) (λ c h left possible sum.
    refuted_more value k xs ys more (state_after k s c.step) left (above ++ above_step pins k s c.step) is (h left possible sum)) items all

-- the visit of the state after the column has kept a lemma on it
pub ahead_fails : (value : Row → State → Kinds → ℕ) (pins : Pins) (k : Kinds) (lemmas : List CycleLemma) (s : State) (allowed : ℕ) (above need : List NetAbove) (step : Step) (ahead : Ahead) → IsAhead pins k s above allowed step ahead → Any (Covers ahead.state.state ahead.left (need ++ ahead.new)) lemmas → StepIsRefuted value pins k lemmas (lemma_at s allowed need) step
ahead_fails value pins k lemmas s allowed above need step ahead a any left possible sum =
    inr (inr (subst (λ n. Any (Covers (state_after k s step) n (need ++ above_step pins k s step)) lemmas) (same_left (cost_of s (column_of k step)) ahead.left left allowed a.left sum)
    (subst (λ z. Any (Covers z ahead.left (need ++ above_step pins k s step)) lemmas) a.is.state
    (subst (λ ps. Any (Covers ahead.state.state ahead.left (need ++ ps)) lemmas) a.is.new any))))

-- where each next column fails and the end does, the lemma of these pairs is justified
pub all_justified : (value : Row → State → Kinds → ℕ) (pins : Pins) (k : Kinds) (lemmas : List CycleLemma) (s : State) (allowed : ℕ) (above : List NetAbove) (all : List Candidate) (i : ℕ) → AreCandidates k all → IsState k s → All (HasNets k.nets) above → length all ≤ i → All (StepFails value pins k lemmas s allowed above) (take i all) → ((HasFingers k s → ⊥) → HasCycle (above ++ above_end pins s)) → IsJustified value pins k lemmas (lemma_at s allowed above)
all_justified value pins k lemmas s allowed above all i are state nets past fails ends =
    let each : All (StepFails value pins k lemmas s allowed above) all = subst (All (StepFails value pins k lemmas s allowed above)) (take_all i all past) fails in
    record {
      state = state;
      nets = nets;
      holds = inr (record {
        steps = λ step left possible sum. each_left k s allowed all (LeftIsRefuted value pins k lemmas (lemma_at s allowed above)) state are each step left possible sum;
        ends = ends;
      });
    }

-- a lemma that is about some pairs is about those from which they follow
pub covers_through : (lemmas : List CycleLemma) (s : State) (gaps : ℕ) (above other : List NetAbove) → ((a : NetAbove) → Contains above a → Follows other a) → Any (Covers s gaps above) lemmas → Any (Covers s gaps other) lemmas
covers_through lemmas s gaps above other each any =
    let found : Some' (Covers s gaps above) lemmas = some_from_any (Covers s gaps above) lemmas any in
    any_at (Covers s gaps other) lemmas found.it found.there (record {
      state = found.holds.state;
      enough = found.holds.enough;
      follow = follows_through above other found.it.above each found.holds.follow;
    })

refuted_follow : (value : Row → State → Kinds → ℕ) (k : Kinds) (lemmas : List CycleLemma) (s : State) (gaps : ℕ) (above other : List NetAbove) → ((a : NetAbove) → Contains above a → Follows other a) → IsRefuted value k lemmas s gaps above → IsRefuted value k lemmas s gaps other
refuted_follow value k lemmas s gaps above other each (inl d) = inl d
refuted_follow value k lemmas s gaps above other each (inr (inl cycle)) = inr (inl (cycle_through above other each cycle))
refuted_follow value k lemmas s gaps above other each (inr (inr any)) = inr (inr (covers_through lemmas s gaps above other each any))

-- a column that fails with some pairs fails with those from which they follow
pub step_follow : (value : Row → State → Kinds → ℕ) (pins : Pins) (k : Kinds) (lemmas : List CycleLemma) (s : State) (allowed : ℕ) (above other : List NetAbove) (c : Candidate) → All (Follows other) above → StepFails value pins k lemmas s allowed above c → StepFails value pins k lemmas s allowed other c
step_follow value pins k lemmas s allowed above other c follow h left possible sum =
    refuted_follow value k lemmas (state_after k s c.step) left (above ++ above_step pins k s c.step) (other ++ above_step pins k s c.step) (follows_beside above other (above_step pins k s c.step) follow) (h left possible sum)

pub steps_follow : (value : Row → State → Kinds → ℕ) (pins : Pins) (k : Kinds) (lemmas : List CycleLemma) (s : State) (allowed : ℕ) (above other : List NetAbove) (items : List Candidate) → All (Follows other) above → All (StepFails value pins k lemmas s allowed above) items → All (StepFails value pins k lemmas s allowed other) items
steps_follow value pins k lemmas s allowed above other items follow all = all_imply (StepFails value pins k lemmas s allowed above) (StepFails value pins k lemmas s allowed other) items (λ c h. step_follow value pins k lemmas s allowed above other c follow h) all

follows_same : (above other : List NetAbove) → All (Contains other) above → All (Follows other) above
follows_same above other h = all_imply (Contains other) (Follows other) above (λ a there. one_above other a there) h

-- the same pairs in another order are justified, too
pub justified_same : (value : Row → State → Kinds → ℕ) (pins : Pins) (k : Kinds) (lemmas : List CycleLemma) (s : State) (gaps : ℕ) (above : List NetAbove) (lemma : CycleLemma) → IsJustified value pins k lemmas (lemma_at s gaps above) → lemma ≡ lemma_at s gaps lemma.above → AreSame above lemma.above → All (HasNets k.nets) lemma.above → IsJustified value pins k lemmas lemma
justified_same value pins k lemmas s gaps above lemma h is same nets =
    let follow : All (Follows lemma.above) above = follows_same above lemma.above same.to in
    subst (IsJustified value pins k lemmas) (sym is) (record {
      state = h.state;
      nets = nets;
      holds = elim h.holds [
        | inl d ↦ inl d
        | inr b ↦ inr (record {
          steps = λ step left possible sum. refuted_follow value k lemmas (state_after k s step) left (above ++ above_step pins k s step) (lemma.above ++ above_step pins k s step) (follows_beside above lemma.above (above_step pins k s step) follow) (b.steps step left possible sum);
          ends = λ none. cycle_beside above lemma.above (above_end pins s) follow (b.ends none);
        })
      ];
    })

-- pairs that are the same as some that follow
pub follow_same : (above some other : List NetAbove) → AreSame some other → All (Follows above) some → All (Follows above) other
follow_same above some other same h = all_imply (Contains some) (Follows above) other (λ a there. All-contains (Follows above) some a h there) same.from

pub follow_self : (above other : List NetAbove) → AreSame above other → All (Follows above) other
follow_self above other same = follows_same other above same.from

-- a kept lemma that is about the pairs of another is about those from which they follow
pub covers_follow : (lemmas : List CycleLemma) (s : State) (gaps : ℕ) (above : List NetAbove) (lemma : CycleLemma) → lemma ≡ lemma_at s gaps lemma.above → All (Follows above) lemma.above → Any (Covers s lemma.gaps lemma.above) lemmas → Any (Covers s gaps above) lemmas
covers_follow lemmas s gaps above lemma is follow any =
    let found : Some' (Covers s lemma.gaps lemma.above) lemmas = some_from_any (Covers s lemma.gaps lemma.above) lemmas any in
    any_at (Covers s gaps above) lemmas found.it found.there (record {
      state = found.holds.state;
      enough = omega (arith, found.holds.enough, ap (λ (l : CycleLemma). l.gaps) is);
      follow = follows_through lemma.above above found.it.above (λ a there. All-contains (Follows above) lemma.above a follow there) found.holds.follow;
    })

pub same_nets : (nets : ℕ) (above other : List NetAbove) → AreSame above other → All (HasNets nets) above → All (HasNets nets) other
same_nets nets above other same all = all_imply (Contains above) (HasNets nets) other (λ a there. All-contains (HasNets nets) above a all there) same.from

pub few_of : (k : Kinds) (above slice : List NetAbove) → AreSomeKinds k → All (HasNets k.nets) above → slice ≡ above → All (HasNets 256) slice
few_of k above slice some all is = subst (All (HasNets 256)) (sym is) (few_nets k above some all)

-- ---- what the refutations of next columns need

follow_net : (n : ℕ) (above : List NetAbove) (a : NetAbove) → All (HasNets n) above → Follows above a → HasNets n a
follow_net n above a all (between, h) =
    let first : (next : NetNo) × Contains above (over a.upper next) = first_pair above a.upper between a.lower h in
    let last : (net : NetNo) × Contains above (over net a.lower) = last_pair above a.upper between a.lower h in
    ((All-contains (HasNets n) above (over a.upper first.0) all first.1).0, (All-contains (HasNets n) above (over last.0 a.lower) all last.1).1)

pub follow_nets : (n : ℕ) (above need : List NetAbove) → All (HasNets n) above → All (Follows above) need → All (HasNets n) need
follow_nets n above need all follow = all_imply (Follows above) (HasNets n) need (λ a h. follow_net n above a all h) follow

-- a lemma that is about what is ahead refutes it
pub open_covered : (pins : Pins) (k : Kinds) (s : State) (above : List NetAbove) (left : ℕ) (step : Step) (ahead : Ahead) (need : List NetAbove) (lemmas : List CycleLemma) → IsOpen pins k s above left step ahead → Any (Covers ahead.state.state ahead.left (need ++ ahead.new)) lemmas → Any (Covers (state_after k s step) left (need ++ above_step pins k s step)) lemmas
open_covered pins k s above left step ahead need lemmas a any =
    subst (λ n. Any (Covers (state_after k s step) n (need ++ above_step pins k s step)) lemmas) a.gaps
    (subst (λ z. Any (Covers z ahead.left (need ++ above_step pins k s step)) lemmas) a.state
    (subst (λ ps. Any (Covers ahead.state.state ahead.left (need ++ ps)) lemmas) a.new any))

-- all pairs suffice
pub covers_all : (lemmas : List CycleLemma) (s : State) (gaps : ℕ) (above need after new onward : List NetAbove) → after ≡ need ++ above → onward ≡ above ++ new → Any (Covers s gaps onward) lemmas → Any (Covers s gaps (after ++ new)) lemmas
covers_all lemmas s gaps above need after new onward is grown any =
    covers_through lemmas s gaps (above ++ new) (after ++ new) (λ a there. one_above (after ++ new) a (among_last need above after new is a there)) (subst (λ ps. Any (Covers s gaps ps) lemmas) grown any)

-- each of these columns fails with the needed pairs, and so does the end
pub record Fail (value : Row → State → Kinds → ℕ) (pins : Pins) (k : Kinds) (lemmas : List CycleLemma) (s : State) (allowed : ℕ) (need : List NetAbove) (items : List Candidate) : Type 0 where
  pub each : All (StepFails value pins k lemmas s allowed need) items
  pub ends : (HasFingers k s → ⊥) → HasCycle (need ++ above_end pins s)

adds_follow : (above need after : List NetAbove) → AddsNeeded above need after → All (Follows after) need
adds_follow above need after adds = all_from_contains (Follows after) need (λ a there. one_above after a (adds_there above need after adds a there))

-- with more lemmas and more pairs they fail still
pub fail_still : (value : Row → State → Kinds → ℕ) (pins : Pins) (k : Kinds) (xs ys more : List CycleLemma) (s : State) (allowed : ℕ) (above need after : List NetAbove) (items : List Candidate) → ys ≡ xs ++ more → AddsNeeded above need after → Fail value pins k xs s allowed need items → Fail value pins k ys s allowed after items
fail_still value pins k xs ys more s allowed above need after items is adds h = record {
  each = steps_fail_more value pins k xs ys more s allowed after items is
      (steps_follow value pins k xs s allowed need after items (adds_follow above need after adds) h.each);
  ends = λ none. cycle_beside need after (above_end pins s) (adds_follow above need after adds) (h.ends none);
}

pub fail_push : (value : Row → State → Kinds → ℕ) (pins : Pins) (k : Kinds) (lemmas : List CycleLemma) (s : State) (allowed : ℕ) (need : List NetAbove) (items : List Candidate) (i : ℕ) (d : Candidate) → i < length items → Fail value pins k lemmas s allowed need (take i items) → StepIsRefuted value pins k lemmas (lemma_at s allowed need) (get_or items i d).step → Fail value pins k lemmas s allowed need (take (i + 1) items)
fail_push value pins k lemmas s allowed need items i d within h fails = record {
  each = All-more (StepFails value pins k lemmas s allowed need) items i d within h.each fails;
  ends = h.ends;
}

-- what they need follows
pub first_needed : (above need after : List NetAbove) → need ≡ [] → AddsNeeded above need after → All (Follows above) after
first_needed above need after none adds = adds_all above need after (subst (All (Follows above)) (sym none) (All-nil (Follows above))) adds

-- the lemma of what they need is justified, in any order
pub need_justified : (value : Row → State → Kinds → ℕ) (pins : Pins) (k : Kinds) (lemmas : List CycleLemma) (s : State) (allowed : ℕ) (need : List NetAbove) (all : List Candidate) (i : ℕ) (lemma : CycleLemma) → AreCandidates k all → IsState k s → All (HasNets k.nets) need → length all ≤ i → Fail value pins k lemmas s allowed need (take i all) → lemma ≡ lemma_at s allowed lemma.above → AreSame need lemma.above → All (HasNets k.nets) lemma.above → IsJustified value pins k lemmas lemma
need_justified value pins k lemmas s allowed need all i lemma are state nets past h is same also =
    justified_same value pins k lemmas s allowed need lemma (all_justified value pins k lemmas s allowed need all i are state nets past h.each h.ends) is same also

-- ---- the state after a column

refuted_left : (value : Row → State → Kinds → ℕ) (pins : Pins) (k : Kinds) (lemmas : List CycleLemma) (s : State) (above : List NetAbove) (allowed cost : ℕ) (step : Step) → cost ≡ cost_of s (column_of k step) → cost ≤ allowed → IsRefuted value k lemmas (state_after k s step) (allowed - cost) (above ++ above_step pins k s step) → StepIsRefuted value pins k lemmas (lemma_at s allowed above) step
refuted_left value pins k lemmas s above allowed cost step is low h left possible sum =
    let same : allowed - cost ≡ left = omega (arith, is, low, sum) in
    subst (λ n. IsRefuted value k lemmas (state_after k s step) n (above ++ above_step pins k s step)) same h

pub none_left : (value : Row → State → Kinds → ℕ) (pins : Pins) (k : Kinds) (lemmas : List CycleLemma) (s : State) (above : List NetAbove) (allowed cost : ℕ) (step : Step) (o : Option Ahead) → cost ≡ cost_of s (column_of k step) → cost ≤ allowed → IfNone o (IsRefuted value k lemmas (state_after k s step) (allowed - cost) (above ++ above_step pins k s step)) → IfNone o (StepIsRefuted value pins k lemmas (lemma_at s allowed above) step)
none_left value pins k lemmas s above allowed cost step None is low h = refuted_left value pins k lemmas s above allowed cost step is low h
none_left value pins k lemmas s above allowed cost step (Some ahead) is low h = tt

pub ahead_some : (pins : Pins) (k : Kinds) (s : State) (above : List NetAbove) (allowed cost : ℕ) (step : Step) (o : Option Ahead) → IsPossible k s step → cost ≡ cost_of s (column_of k step) → cost ≤ allowed → IfSome o (IsOpen pins k s above (allowed - cost) step) → IfSome o (IsAhead pins k s above allowed step)
ahead_some pins k s above allowed cost step None possible is low h = tt
ahead_some pins k s above allowed cost step (Some ahead) possible is low h = record {
  possible = possible;
  left = omega (arith, is, low, h.gaps);
  is = record { numbered = h.numbered; state = h.state; gaps = refl; new = h.new; onward = h.onward; asked = h.asked };
}

-- ---- one lemma more

abbrev pub Differ : CycleLemma → CycleLemma → Type 0
Differ earlier lemma = Covers lemma.state lemma.gaps lemma.above earlier → ⊥

-- a justified lemma that follows from no earlier one
pub kept_push : (value : Row → State → Kinds → ℕ) (pins : Pins) (k : Kinds) (gaps : ℕ) (xs ys : List CycleLemma) (x : CycleLemma) (s : State) → ys ≡ xs ++ x ∷ [] → x.state ≡ s → AreKept value pins k gaps xs → IsJustified value pins k xs x → IsWithin k gaps x → (Any (Covers s x.gaps x.above) xs → ⊥) → AreKept value pins k gaps ys
kept_push value pins k gaps xs ys x s is state kept here within none = subst (AreKept value pins k gaps) (sym is) (record {
  justified = each_push (IsJustified value pins k) xs x kept.justified here;
  own = all_pairs_push Differ xs x kept.own (λ i d less covers.
      none (subst (λ z. Any (Covers z x.gaps x.above) xs) state (any_at (Covers x.state x.gaps x.above) xs (get_or xs i d) (i, less, get_or_default xs i (get_or xs i d) d less) covers)));
  within = All-append (IsWithin k gaps) xs (x ∷ []) kept.within (all_one (IsWithin k gaps) x within);
})

pub push_covers : (k : Kinds) (xs ys : List CycleLemma) (x : CycleLemma) (s : State) → ys ≡ xs ++ x ∷ [] → x.state ≡ s → Any (Covers s x.gaps x.above) ys
push_covers k xs ys x s is state =
    any_at (Covers s x.gaps x.above) ys x (subst (λ zs. Contains zs x) (sym is) (Contains-append_right xs (x ∷ []) x (contains_here x [])))
    (record { state = state; enough = omega arith; follow = follow_self x.above x.above (record { to = here; from = here }) })
  where
    here : All (Contains x.above) x.above
    here = all_from_contains (Contains x.above) x.above (λ a there. there)

-- ---- lemmas grow

pub grown_none : (p : Progress) → IsGrown p p
grown_none p = record { more = []; is = sym (append-nil p.lemmas) }

pub grown_same : (p q : Progress) → q.lemmas ≡ p.lemmas → IsGrown p q
grown_same p q same = record { more = []; is = same ∙ sym (append-nil p.lemmas) }

pub grown_push : (p q : Progress) (x : CycleLemma) → q.lemmas ≡ p.lemmas ++ x ∷ [] → IsGrown p q
grown_push p q x is = record { more = x ∷ []; is = is }

pub grown_on : (p q r : Progress) → IsGrown p q → IsGrown q r → IsGrown p r
grown_on p q r g h = record {
  more = g.more ++ h.more;
  is = h.is ∙ ap (λ xs. xs ++ h.more) g.is ∙ append_assoc p.lemmas g.more h.more;
}

-- ---- at the start

pub no_pairs : (nets : ℕ) (above : List NetAbove) → above ≡ [] → All (HasNets nets) above
no_pairs nets above none = subst (All (HasNets nets)) (sym none) (All-nil (HasNets nets))

pub start_kept : (value : Row → State → Kinds → ℕ) (pins : Pins) (k : Kinds) (gaps budget : ℕ) (p : Progress) → p.lemmas ≡ [] → AreNoted k p.lemmas p.places → IsKept value pins k gaps budget p
start_kept value pins k gaps budget p none noted = record {
  kept = subst (AreKept value pins k gaps) (sym none) (record {
    justified = λ i d within. absurd (omega (arith, within));
    own = pairs_none Differ;
    within = All-nil (IsWithin k gaps);
  });
  few = omega (arith, ap length none);
  noted = noted;
}

-- lemmas on no more than 63 gaps fit into texts
pub fit_texts : (value : Row → State → Kinds → ℕ) (pins : Pins) (k : Kinds) (gaps budget : ℕ) (r : WiredRow) → gaps ≤ 63 → HasReason value pins k gaps budget r → All (CycleFits k) (lemmas_in r)
fit_texts value pins k gaps budget (ended.Found row) few h = All-nil (CycleFits k)
fit_texts value pins k gaps budget (ended.None lemmas) few h = all_imply (IsWithin k gaps) (CycleFits k) lemmas (λ lemma w. record { state = w.state; gaps = omega (arith, w.gaps, few); nets = w.nets; order = w.order }) h.0.within
fit_texts value pins k gaps budget ended.Spent few h = All-nil (CycleFits k)
