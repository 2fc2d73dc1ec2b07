use Rattle.std.proofs.Common.{◌≡◌, ◌∙◌, All, ap, inl, inr, subst, sym}
use Rattle.std.proofs.lemmas.Bool.{both_ways}
use Rattle.row_state.specs.declared.kind.Kinds.{Kinds}
use Rattle.row_state.specs.Start.{IsState}
use Rattle.track_ways.specs.Certificate.{NeedsMore}
use Rattle.row_cycles.specs.Above.{HasNets}
use Rattle.row_cycles.proofs.Loops.{no_from, yes_from}
use Rattle.row_cycles.proofs.justified.is_justified.Goals as goal

pub returns-then-not-is_state : goal.returns-then-not-is_state
returns-then-not-is_state g c = no_from (λ j. both_ways c.is_state.result c.if-not-is_state.true (c.is_state.ensures.1 j.state))

pub returns-then-not-have_nets : goal.returns-then-not-have_nets
returns-then-not-have_nets g c =
    let same : c.kinds.inside.nets ≡ c.args.grounds.now.kinds.now.nets = ap (λ (k : Kinds). k.nets) c.kinds.view_is in
    no_from (λ j. both_ways c.have_nets.result c.if-not-have_nets.true (c.have_nets.ensures.1 (subst (All (HasNets c.kinds.inside.nets)) (sym c.as_slice.ensures) (subst (λ n. All (HasNets n) c.args.lemma.now.above) (sym same) j.nets))))

pub new-from-requires : goal.new-from-requires
new-from-requires g c = record { state = subst (IsState c.args.grounds.now.kinds.now) (sym c.in_ok-state.ensures) (c.is_state.ensures.0 c.if-not-is_state.false) }

pub returns-then-needs_more : goal.returns-then-needs_more
returns-then-needs_more g c =
    let same : c.kinds.inside.nets ≡ c.args.grounds.now.kinds.now.nets = ap (λ (k : Kinds). k.nets) c.kinds.view_is in
    let nets : All (HasNets c.args.grounds.now.kinds.now.nets) c.args.lemma.now.above = subst (λ n. All (HasNets n) c.args.lemma.now.above) same (subst (All (HasNets c.kinds.inside.nets)) c.as_slice.ensures (c.have_nets.ensures.0 c.if-not-have_nets.false)) in
    yes_from (record { state = c.is_state.ensures.0 c.if-not-is_state.false; nets = nets; holds = inl (subst (λ s. NeedsMore (g.B.GapBound.value c.args.grounds.now.bound.now) c.args.grounds.now.kinds.now s c.args.lemma.now.gaps) (c.new-from.ensures.state ∙ c.in_ok-state.ensures) (c.needs_more.ensures.0 c.if-needs_more.true)) })

pub branches-requires : goal.branches-requires
branches-requires g c =
    let same : c.kinds.inside.nets ≡ c.args.grounds.now.kinds.now.nets = ap (λ (k : Kinds). k.nets) c.kinds.view_is in
    let nets : All (HasNets c.args.grounds.now.kinds.now.nets) c.args.lemma.now.above = subst (λ n. All (HasNets n) c.args.lemma.now.above) same (subst (All (HasNets c.kinds.inside.nets)) c.as_slice.ensures (c.have_nets.ensures.0 c.if-not-have_nets.false)) in
    record { candidates = c.requires.candidates; nets = nets; numbered = c.new-from.ensures.numbered; state = c.new-from.ensures.state ∙ c.in_ok-state.ensures; noted = c.requires.noted }

pub returns : goal.returns
returns g c =
    let same : c.kinds.inside.nets ≡ c.args.grounds.now.kinds.now.nets = ap (λ (k : Kinds). k.nets) c.kinds.view_is in
    let nets : All (HasNets c.args.grounds.now.kinds.now.nets) c.args.lemma.now.above = subst (λ n. All (HasNets n) c.args.lemma.now.above) same (subst (All (HasNets c.kinds.inside.nets)) c.as_slice.ensures (c.have_nets.ensures.0 c.if-not-have_nets.false)) in (
      λ e. record { state = c.is_state.ensures.0 c.if-not-is_state.false; nets = nets; holds = inr (c.in_ok-refuted.ensures.0 e) },
      λ j. c.in_ok-refuted.ensures.1 (elim j.holds [ inl more ↦ absurd (both_ways c.needs_more.result c.if-needs_more.false (c.needs_more.ensures.1 (subst (λ s. NeedsMore (g.B.GapBound.value c.args.grounds.now.bound.now) c.args.grounds.now.kinds.now s c.args.lemma.now.gaps) (sym (c.new-from.ensures.state ∙ c.in_ok-state.ensures)) more))) | inr b ↦ b ]),
    )
