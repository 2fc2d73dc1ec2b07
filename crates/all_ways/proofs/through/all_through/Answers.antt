use Rattle.std.proofs.Common.{◌≤◌, length, subst, sym}
use Rattle.track_ways.specs.Tables.{marked}
use Rattle.all_ways.proofs.Passing.{all_pass}
use Rattle.all_ways.proofs.through.all_through.Goals as goal

pub all_onward-requires : goal.all_onward-requires
all_onward-requires g c = record {
  ready = c.requires.ready;
  lines = c.requires.lines;
  few = subst (λ ns. length ns ≤ c.args.nets) (sym c.deref-2.ensures.value) c.in_ok-split.ensures.few;
}

pub returns : goal.returns
returns g c = all_pass (g.T.WayTest.passes c.args.test.now) g.R.TrackRule.ways c.args.pins.now c.args.nets c.args.limit (marked c.args.before.now) c.args.lines.now (marked c.args.behind.now) c.args.tracks.now c.in_ok-kept.kept.items c.deref.result.now c.in_ok-split.split.items c.deref-2.result.now
    c.in_ok-kept.ensures c.deref.ensures.value c.deref-2.ensures.value c.in_ok-split.ensures c.in_ok-all.ensures
