use Rattle.std.proofs.Common.{◌≡◌, true, All, subst, sym}
use Rattle.std.proofs.lemmas.Bool.{both_ways}
use Rattle.track_ways.specs.States.{is_open_at}
use Rattle.track_ways.specs.declared.track.NetTrack.{NetTrack}
use Rattle.track_ways.specs.Tracks.{IsSingle}
use Rattle.row_cycles.proofs.Loops.{no_from}
use Rattle.track_check.proofs.valid.is_valid.Goals as goal

pub returns-then-not-ends_fit : goal.returns-then-not-ends_fit
returns-then-not-ends_fit c = no_from (λ v. both_ways c.ends_fit.result c.if-not-ends_fit.true ((c.ends_fit.ensures c.args.kinds.now c.args.lemma.now.state c.requires.all c.requires.here).1 v.ends))

pub returns-then-not-are_open : goal.returns-then-not-are_open
returns-then-not-are_open c = no_from (λ v. both_ways c.are_open.result c.if-not-are_open.true ((c.are_open.ensures c.args.kinds.now c.args.lemma.now.state (c.state_nets-nets.ensures c.args.kinds.now c.args.lemma.now.state c.requires.all c.requires.here)).1 (subst (All (λ (t : NetTrack). is_open_at c.args.pins.now c.args.kinds.now c.args.lemma.now.state t.net ≡ true)) (sym c.as_slice-tracks.ensures) v.open')))

pub returns : goal.returns
returns c = (
  λ e. record {
    state = c.requires.state;
    ends = (c.ends_fit.ensures c.args.kinds.now c.args.lemma.now.state c.requires.all c.requires.here).0 c.if-not-ends_fit.false;
    open' = subst (All (λ (t : NetTrack). is_open_at c.args.pins.now c.args.kinds.now c.args.lemma.now.state t.net ≡ true)) c.as_slice-tracks.ensures ((c.are_open.ensures c.args.kinds.now c.args.lemma.now.state (c.state_nets-nets.ensures c.args.kinds.now c.args.lemma.now.state c.requires.all c.requires.here)).0 c.if-not-are_open.false);
    one = subst IsSingle c.as_slice-tracks.ensures (c.are_single.ensures.0 e);
  },
  λ v. c.are_single.ensures.1 (subst IsSingle (sym c.as_slice-tracks.ensures) v.one),
)
