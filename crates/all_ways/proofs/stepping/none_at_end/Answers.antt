use Rattle.std.proofs.Common.{rules, ◌≡◌, ◌↔◌, All, [], ap, refl, subst, ◌∙◌}
use Rattle.std.specs.Prelude.{IsTrue}
use Rattle.track_ways.specs.Tables.{marked}
use Rattle.track_ways.specs.Ways.{ends_ways_by, nets_below, pass_ways_by}
use Rattle.track_ways.proofs.Nets.{end_entries}
use Rattle.track_ways.proofs.Through.{ends_is}
use Rattle.all_ways.proofs.Passing.{none_all}
use Rattle.all_ways.proofs.stepping.none_at_end.Goals as goal

pub all_through-requires : goal.all_through-requires
all_through-requires g c = record {
  ready = tt;
  lines = end_entries c.args.kinds.now c.args.state.now c.deref.result.now c.show_limits.ensures c.requires.state (c.deref.ensures.value ∙ c.in_ok-lines.ensures);
}

pub returns : goal.returns
returns g c =
    let is : pass_ways_by g.R.TrackRule.ways c.args.pins.now c.args.limit (nets_below c.args.kinds.now.nets) (marked c.args.before.now) c.deref.result.now (marked c.no_nets.result) c.args.tracks.now ≡ ends_ways_by g.R.TrackRule.ways c.args.pins.now c.args.limit c.args.kinds.now c.args.state.now c.args.tracks.now =
    ends_is g.R.TrackRule.ways c.args.pins.now c.args.limit c.args.kinds.now c.args.state.now c.args.tracks.now (marked c.args.before.now) (marked c.no_nets.result) c.deref.result.now
    (pass_ways_by g.R.TrackRule.ways c.args.pins.now c.args.limit (nets_below c.args.kinds.now.nets) (marked c.args.before.now) c.deref.result.now (marked c.no_nets.result) c.args.tracks.now)
    (c.deref.ensures.value ∙ c.in_ok-lines.ensures) c.requires.before c.no_nets.ensures refl in
    let seen : IsTrue c.in_ok-none.none ↔ All (λ way. ⊥) (pass_ways_by g.R.TrackRule.ways c.args.pins.now c.args.limit (nets_below c.args.kinds.now.nets) (marked c.args.before.now) c.deref.result.now (marked c.no_nets.result) c.as_slice.result.now) = search rules in
    let decides : IsTrue c.in_ok-none.none ↔ All (λ way. ⊥) (ends_ways_by g.R.TrackRule.ways c.args.pins.now c.args.limit c.args.kinds.now c.args.state.now c.args.tracks.now) =
    subst (λ ways. IsTrue c.in_ok-none.none ↔ All (λ way. ⊥) ways)
    (ap (pass_ways_by g.R.TrackRule.ways c.args.pins.now c.args.limit (nets_below c.args.kinds.now.nets) (marked c.args.before.now) c.deref.result.now (marked c.no_nets.result)) c.as_slice.ensures ∙ is) seen in
    let empty : All (λ way. ⊥) (ends_ways_by g.R.TrackRule.ways c.args.pins.now c.args.limit c.args.kinds.now c.args.state.now c.args.tracks.now) ↔ (ends_ways_by g.R.TrackRule.ways c.args.pins.now c.args.limit c.args.kinds.now c.args.state.now c.args.tracks.now ≡ []) =
    none_all (ends_ways_by g.R.TrackRule.ways c.args.pins.now c.args.limit c.args.kinds.now c.args.state.now c.args.tracks.now) in
    (λ e. empty.0 (decides.0 e), λ h. decides.1 (empty.1 h))
