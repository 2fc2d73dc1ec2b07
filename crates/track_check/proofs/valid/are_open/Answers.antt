use Rattle.std.proofs.Common.{◌≡◌, true, sym, ◌∙◌}
use Rattle.std.proofs.lemmas.List.Elements.{All-get_or, All-more}
use Rattle.std.proofs.lemmas.Bool.{both_ways}
use Rattle.track_ways.specs.States.{is_open_at}
use Rattle.track_ways.specs.declared.track.NetTrack.{NetTrack}
use Rattle.row_cycles.proofs.Loops.{all_end, no_from, yes_from}
use Rattle.track_check.proofs.valid.are_open.Goals as goal

pub returns-then-not-is_open : goal.returns-then-not-is_open
returns-then-not-is_open c k s are = no_from (λ all. both_ways c.is_open.result c.if-not-is_open.true (c.is_open.ensures k s are ∙ All-get_or (λ (t : NetTrack). is_open_at c.args.pins.now k s t.net ≡ true) c.args.tracks.now c.loop-t.t-index _ c.loop-t-test.true all))

pub loop-t-preserved : goal.loop-t-preserved
loop-t-preserved c k s are = All-more (λ (t : NetTrack). is_open_at c.args.pins.now k s t.net ≡ true) c.args.tracks.now c.loop-t.t-index _ c.loop-t-test.true (c.loop-t.invariant k s are) (sym (c.is_open.ensures k s are) ∙ c.if-not-is_open.false)

pub returns : goal.returns
returns c k s are = yes_from (all_end (λ (t : NetTrack). is_open_at c.args.pins.now k s t.net ≡ true) c.args.tracks.now c.loop-t.t-index c.loop-t-test.false (c.loop-t.invariant k s are))
