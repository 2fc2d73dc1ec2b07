use Rattle.std.proofs.Common.{rules, ◌≡◌, ◌+◌, ◌*◌, ◌<◌, ◌≤◌, [], ◌∷◌, ap, arith, All, length, refl, subst, sym, ◌∙◌, take_all}
use Rattle.std.specs.List.{range_with_len}
use Rattle.std.proofs.lemmas.Bool.{both_ways, false≢true}
use Rattle.std.proofs.lemmas.List.{nil_from_length}
use Rattle.std.proofs.lemmas.List.Elements.{All-contains, All-get_or, All-head, All-more, All-tail}
use Rattle.track_ways.specs.Fillings.{in_range}
use Rattle.track_ways.specs.Tables.{HasEntries, marked}
use Rattle.track_ways.specs.Ways.{nets_below, on_track}
use Rattle.all_ways.specs.Onward.{AllOnward, fit_first}
use Rattle.all_ways.proofs.Passing.{PassesFurther, end_pass, fewer_lines, fewer_nets, onward_net, onward_unfit, range_one, way_pass, ways_pass}
use Rattle.all_ways.proofs.through.+all_onward.Goals as goal

pub all_onward-requires : goal.all_onward-requires
all_onward-requires g t c =
    let nets_is : c.args.nets.now ≡ c.in-Some.net.now ∷ c.in-Some.others.now = search rules in
    let shorter : length c.args.nets.now ≡ length c.in-Some.others.now + 1 = ap length nets_is ∙ omega arith in
    let less : length c.args.lines.now * (c.args.task.now.nets + 1) + length c.in-Some.others.now < length c.args.lines.now * (c.args.task.now.nets + 1) + length c.args.nets.now = fewer_nets (length c.args.lines.now) (length c.args.nets.now) (length c.in-Some.others.now) c.args.task.now.nets shorter in
    let few : length c.in-Some.others.now ≤ c.args.task.now.nets = omega (arith, c.requires.few, shorter) in
    search rules

pub all_onward-requires-in-loop-way : goal.all_onward-requires-in-loop-way
all_onward-requires-in-loop-way g t c =
    let lines_is : c.args.lines.now ≡ c.in-Some-split_first.line.now ∷ c.in-Some-split_first.rest.now = search rules in
    let shorter : length c.args.lines.now ≡ length c.in-Some-split_first.rest.now + 1 = ap length lines_is ∙ omega arith in
    let few : length c.deref-in-loop-way-2.result.now ≤ c.args.task.now.nets = subst (λ ns. length ns ≤ c.args.task.now.nets) (sym c.deref-in-loop-way-2.ensures.value) c.in_ok-split.ensures.few in
    let less : length c.in-Some-split_first.rest.now * (c.args.task.now.nets + 1) + length c.deref-in-loop-way-2.result.now < length c.args.lines.now * (c.args.task.now.nets + 1) + length c.args.nets.now = fewer_lines (length c.args.lines.now) (length c.in-Some-split_first.rest.now) (length c.args.nets.now) (length c.deref-in-loop-way-2.result.now) c.args.task.now.nets shorter few in
    let entries : All (HasEntries 256) c.in-Some-split_first.rest.now = All-tail (HasEntries 256) c.in-Some-split_first.line.now c.in-Some-split_first.rest.now (subst (All (HasEntries 256)) lines_is c.requires.lines) in
    search rules

pub with_line-after-requires : goal.with_line-after-requires
with_line-after-requires g t c =
    let lines_is : c.args.lines.now ≡ c.in-Some-split_first.line.now ∷ c.in-Some-split_first.rest.now = search rules in
    All-head (HasEntries 256) c.in-Some-split_first.line.now c.in-Some-split_first.rest.now (subst (All (HasEntries 256)) lines_is c.requires.lines)

pub is_passed-requires : goal.is_passed-requires
is_passed-requires g t c = record { ready = c.requires.ready }

-- ---- net by net

pub loop-track-preserved : goal.loop-track-preserved
loop-track-preserved g t c =
    let longer_is : c.in_ok-longer.longer.items ≡ on_track c.in-Some.net.now c.loop-track.track ∷ c.args.tracks.items = search rules in
    range_one (λ track. AllOnward (g.T.WayTest.passes c.args.task.now.test.now) g.R.TrackRule.ways c.args.task.now.pins.now c.args.task.now.limit (nets_below c.args.task.now.nets) (marked c.args.before.now) c.args.lines.now (marked c.args.task.now.behind.now) c.in-Some.others.now (on_track c.in-Some.net.now track ∷ c.args.tracks.items)) c.loop-track.track c.loop-track.invariant (subst (AllOnward (g.T.WayTest.passes c.args.task.now.test.now) g.R.TrackRule.ways c.args.task.now.pins.now c.args.task.now.limit (nets_below c.args.task.now.nets) (marked c.args.before.now) c.args.lines.now (marked c.args.task.now.behind.now) c.in-Some.others.now) longer_is (c.in_ok-all_onward.ensures.0 c.if-not-branch.false))

pub loop-track-preserved-then-not-fit_first : goal.loop-track-preserved-then-not-fit_first
loop-track-preserved-then-not-fit_first g t c =
    let longer_is : c.in_ok-longer.longer.items ≡ on_track c.in-Some.net.now c.loop-track.track ∷ c.args.tracks.items = search rules in
    range_one (λ track. AllOnward (g.T.WayTest.passes c.args.task.now.test.now) g.R.TrackRule.ways c.args.task.now.pins.now c.args.task.now.limit (nets_below c.args.task.now.nets) (marked c.args.before.now) c.args.lines.now (marked c.args.task.now.behind.now) c.in-Some.others.now (on_track c.in-Some.net.now track ∷ c.args.tracks.items)) c.loop-track.track c.loop-track.invariant
    (onward_unfit (g.T.WayTest.passes c.args.task.now.test.now) g.R.TrackRule.ways c.args.task.now.pins.now c.args.task.now.limit (nets_below c.args.task.now.nets) (marked c.args.before.now) c.args.lines.now (marked c.args.task.now.behind.now) c.in-Some.others.now (on_track c.in-Some.net.now c.loop-track.track ∷ c.args.tracks.items) g.met.R.Splitting.unfit
    (ap (fit_first c.args.task.now.limit c.args.lines.now) (sym longer_is ∙ sym c.deref-in-loop-track.ensures.value) ∙ sym c.fit_first.ensures ∙ c.if-not-fit_first.true))

pub returns-in-Some : goal.returns-in-Some
returns-in-Some g t c =
    let nets_is : c.args.nets.now ≡ c.in-Some.net.now ∷ c.in-Some.others.now = search rules in
    let end : c.loop-track.track ≡ c.args.task.now.limit = search rules in
    (λ _. subst (λ ns. AllOnward (g.T.WayTest.passes c.args.task.now.test.now) g.R.TrackRule.ways c.args.task.now.pins.now c.args.task.now.limit (nets_below c.args.task.now.nets) (marked c.args.before.now) c.args.lines.now (marked c.args.task.now.behind.now) ns c.args.tracks.items) (sym nets_is) ((onward_net (g.T.WayTest.passes c.args.task.now.test.now) g.R.TrackRule.ways c.args.task.now.pins.now c.args.task.now.limit (nets_below c.args.task.now.nets) (marked c.args.before.now) c.args.lines.now (marked c.args.task.now.behind.now) c.in-Some.net.now c.in-Some.others.now c.args.tracks.items).1 (subst (λ n. All (λ track. AllOnward (g.T.WayTest.passes c.args.task.now.test.now) g.R.TrackRule.ways c.args.task.now.pins.now c.args.task.now.limit (nets_below c.args.task.now.nets) (marked c.args.before.now) c.args.lines.now (marked c.args.task.now.behind.now) c.in-Some.others.now (on_track c.in-Some.net.now track ∷ c.args.tracks.items)) (range_with_len 0 n)) end c.loop-track.invariant)), λ _. refl)

pub returns-then-not-branch : goal.returns-then-not-branch
returns-then-not-branch g t c =
    let nets_is : c.args.nets.now ≡ c.in-Some.net.now ∷ c.in-Some.others.now = search rules in
    let longer_is : c.in_ok-longer.longer.items ≡ on_track c.in-Some.net.now c.loop-track.track ∷ c.args.tracks.items = search rules in
    let low : c.loop-track.track < c.args.task.now.limit = search rules in (
      λ e. absurd (false≢true e),
      λ h. absurd (both_ways c.in_ok-all_onward.field-0 c.if-not-branch.true (c.in_ok-all_onward.ensures.1 (subst (AllOnward (g.T.WayTest.passes c.args.task.now.test.now) g.R.TrackRule.ways c.args.task.now.pins.now c.args.task.now.limit (nets_below c.args.task.now.nets) (marked c.args.before.now) c.args.lines.now (marked c.args.task.now.behind.now) c.in-Some.others.now) (sym longer_is)
          (All-contains (λ track. AllOnward (g.T.WayTest.passes c.args.task.now.test.now) g.R.TrackRule.ways c.args.task.now.pins.now c.args.task.now.limit (nets_below c.args.task.now.nets) (marked c.args.before.now) c.args.lines.now (marked c.args.task.now.behind.now) c.in-Some.others.now (on_track c.in-Some.net.now track ∷ c.args.tracks.items)) (range_with_len 0 c.args.task.now.limit) c.loop-track.track ((onward_net (g.T.WayTest.passes c.args.task.now.test.now) g.R.TrackRule.ways c.args.task.now.pins.now c.args.task.now.limit (nets_below c.args.task.now.nets) (marked c.args.before.now) c.args.lines.now (marked c.args.task.now.behind.now) c.in-Some.net.now c.in-Some.others.now c.args.tracks.items).0 (subst (λ ns. AllOnward (g.T.WayTest.passes c.args.task.now.test.now) g.R.TrackRule.ways c.args.task.now.pins.now c.args.task.now.limit (nets_below c.args.task.now.nets) (marked c.args.before.now) c.args.lines.now (marked c.args.task.now.behind.now) ns c.args.tracks.items) nets_is h)) (in_range c.args.task.now.limit c.loop-track.track low))))),
    )

-- ---- line by line

pub loop-way-preserved : goal.loop-way-preserved
loop-way-preserved g t c =
    let passed : (PassesFurther (g.T.WayTest.passes c.args.task.now.test.now) g.R.TrackRule.ways c.args.task.now.pins.now c.args.task.now.limit (nets_below c.args.task.now.nets) (marked c.with_line-after.result) c.in-Some-split_first.rest.now (marked c.args.task.now.behind.now)) c.as_slice.result.now = (way_pass (g.T.WayTest.passes c.args.task.now.test.now) g.R.TrackRule.ways c.args.task.now.pins.now c.args.task.now.nets c.args.task.now.limit (marked c.with_line-after.result) c.in-Some-split_first.rest.now (marked c.args.task.now.behind.now) c.as_slice.result.now c.in_ok-kept.kept.items c.deref-in-loop-way.result.now c.in_ok-split.split.items c.deref-in-loop-way-2.result.now
    c.in_ok-kept.ensures c.deref-in-loop-way.ensures.value c.deref-in-loop-way-2.ensures.value c.in_ok-split.ensures c.in_ok-all_onward-2.ensures).0 c.if-not-branch-2.false in
    All-more (PassesFurther (g.T.WayTest.passes c.args.task.now.test.now) g.R.TrackRule.ways c.args.task.now.pins.now c.args.task.now.limit (nets_below c.args.task.now.nets) (marked c.with_line-after.result) c.in-Some-split_first.rest.now (marked c.args.task.now.behind.now)) c.as_slice-way-items.result.now c.loop-way.way-index c.way-item.result c.loop-way-test.true c.loop-way.invariant (subst (PassesFurther (g.T.WayTest.passes c.args.task.now.test.now) g.R.TrackRule.ways c.args.task.now.pins.now c.args.task.now.limit (nets_below c.args.task.now.nets) (marked c.with_line-after.result) c.in-Some-split_first.rest.now (marked c.args.task.now.behind.now)) (c.as_slice.ensures ∙ c.way-item.is) passed)

pub returns : goal.returns
returns g t c =
    let none : c.args.nets.now ≡ [] = nil_from_length c.args.nets.now c.in_default.ensures.cases in
    let lines_is : c.args.lines.now ≡ c.in-Some-split_first.line.now ∷ c.in-Some-split_first.rest.now = search rules in
    (λ _. (ways_pass (g.T.WayTest.passes c.args.task.now.test.now) g.R.TrackRule.ways c.args.task.now.pins.now c.args.task.now.limit (nets_below c.args.task.now.nets) (marked c.args.before.now) (marked c.with_line-after.result) c.args.lines.now c.in-Some-split_first.line.now c.in-Some-split_first.rest.now (marked c.args.task.now.behind.now) c.args.nets.now c.args.tracks.items c.as_slice-way-items.result.now none lines_is c.with_line-after.ensures (c.as_slice-way-items.ensures ∙ c.in_ok-here.ensures)).1 (subst (All (PassesFurther (g.T.WayTest.passes c.args.task.now.test.now) g.R.TrackRule.ways c.args.task.now.pins.now c.args.task.now.limit (nets_below c.args.task.now.nets) (marked c.with_line-after.result) c.in-Some-split_first.rest.now (marked c.args.task.now.behind.now))) (take_all c.loop-way.way-index c.as_slice-way-items.result.now c.loop-way-test.false) c.loop-way.invariant), λ _. refl)

pub returns-then-not-branch-2 : goal.returns-then-not-branch-2
returns-then-not-branch-2 g t c =
    let none : c.args.nets.now ≡ [] = nil_from_length c.args.nets.now c.in_default.ensures.cases in
    let lines_is : c.args.lines.now ≡ c.in-Some-split_first.line.now ∷ c.in-Some-split_first.rest.now = search rules in (
      λ e. absurd (false≢true e),
      λ h. absurd (both_ways c.in_ok-all_onward-2.field-0 c.if-not-branch-2.true ((way_pass (g.T.WayTest.passes c.args.task.now.test.now) g.R.TrackRule.ways c.args.task.now.pins.now c.args.task.now.nets c.args.task.now.limit (marked c.with_line-after.result) c.in-Some-split_first.rest.now (marked c.args.task.now.behind.now) c.as_slice.result.now c.in_ok-kept.kept.items c.deref-in-loop-way.result.now c.in_ok-split.split.items c.deref-in-loop-way-2.result.now
          c.in_ok-kept.ensures c.deref-in-loop-way.ensures.value c.deref-in-loop-way-2.ensures.value c.in_ok-split.ensures c.in_ok-all_onward-2.ensures).1
          (subst (PassesFurther (g.T.WayTest.passes c.args.task.now.test.now) g.R.TrackRule.ways c.args.task.now.pins.now c.args.task.now.limit (nets_below c.args.task.now.nets) (marked c.with_line-after.result) c.in-Some-split_first.rest.now (marked c.args.task.now.behind.now)) (sym (c.as_slice.ensures ∙ c.way-item.is)) (All-get_or (PassesFurther (g.T.WayTest.passes c.args.task.now.test.now) g.R.TrackRule.ways c.args.task.now.pins.now c.args.task.now.limit (nets_below c.args.task.now.nets) (marked c.with_line-after.result) c.in-Some-split_first.rest.now (marked c.args.task.now.behind.now)) c.as_slice-way-items.result.now c.loop-way.way-index c.way-item.result c.loop-way-test.true ((ways_pass (g.T.WayTest.passes c.args.task.now.test.now) g.R.TrackRule.ways c.args.task.now.pins.now c.args.task.now.limit (nets_below c.args.task.now.nets) (marked c.args.before.now) (marked c.with_line-after.result) c.args.lines.now c.in-Some-split_first.line.now c.in-Some-split_first.rest.now (marked c.args.task.now.behind.now) c.args.nets.now c.args.tracks.items c.as_slice-way-items.result.now none lines_is c.with_line-after.ensures (c.as_slice-way-items.ensures ∙ c.in_ok-here.ensures)).0 h))))),
    )

pub returns-in_default-split_first : goal.returns-in_default-split_first
returns-in_default-split_first g t c =
    let none : c.args.nets.now ≡ [] = nil_from_length c.args.nets.now c.in_default.ensures.cases in
    let past : c.args.lines.now ≡ [] = nil_from_length c.args.lines.now c.in_default-split_first.ensures.cases in
    end_pass (g.T.WayTest.passes c.args.task.now.test.now) g.R.TrackRule.ways c.args.task.now.pins.now c.args.task.now.limit (nets_below c.args.task.now.nets) (marked c.args.before.now) c.args.lines.now (marked c.args.task.now.behind.now) c.args.nets.now c.args.tracks.items c.deref-in_default-split_first.result.now none past c.deref-in_default-split_first.ensures.value c.is_passed.ensures
