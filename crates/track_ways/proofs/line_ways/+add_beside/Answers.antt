use Rattle.std.proofs.Common.{rules, ◌≡◌, ◌∙◌, ◌∷◌, ◌<◌, true, sym, ap}
use Rattle.track_ways.specs.Ways.{on_track}
use Rattle.track_ways.proofs.Listing.{dropped, goes, beside_next, taken}
use Rattle.track_ways.proofs.line_ways.+add_beside.Goals as goal
use Rattle.track_ways.proofs.line_ways.+add_beside.Goals.{then-goes_with+in_ok-longer+in_ok-add_beside, else-goes_with}

pub add_beside-requires : goal.add_beside-requires
add_beside-requires t c =
    let is : c.deref.result.now ≡ c.args.tracks.items = search rules in
    let test : c.goes_with.result ≡ goes c.args.line.now (on_track c.in-Some.net.now c.loop-track.track) c.deref.result.now c.args.others.now = search rules in
    let longer_is : c.in_ok-longer.longer.items ≡ on_track c.in-Some.net.now c.loop-track.track ∷ c.args.tracks.items = search rules in
    let low : c.loop-track.track < c.args.limit = search rules in
    let went : goes c.args.line.now (on_track c.in-Some.net.now c.loop-track.track) c.args.tracks.items c.args.others.now ≡ true = sym (test ∙ ap (λ ts. goes c.args.line.now (on_track c.in-Some.net.now c.loop-track.track) ts c.args.others.now) is) ∙ c.if-goes_with.true in
    (search rules, taken c.args.limit c.args.line.now c.args.others.now c.in-Some.net.now c.loop-track.track c.args.tracks.items c.in_ok-longer.longer.items low c.requires.fit went longer_is)

pub loop-track-preserved : goal.loop-track-preserved
loop-track-preserved t c =
    let is : c.deref.result.now ≡ c.args.tracks.items = search rules in
    let test : c.goes_with.result ≡ goes c.args.line.now (on_track c.in-Some.net.now c.loop-track.track) c.deref.result.now c.args.others.now = search rules in
    elim c.if-goes_with.branch [
      | then-goes_with+in_ok-longer+in_ok-add_beside w ↦
          beside_next c.args.limit c.args.line.now c.args.others.now c.in-Some.net.now c.in-Some.rest.now c.args.tracks.items w.in_ok-longer.longer.items c.loop-track.track c.args.ways.now c.loop-track.ways c.if-goes_with.ways c.loop-track.invariant (search rules) (search rules)
      | else-goes_with w ↦
          dropped c.args.limit c.args.line.now c.args.others.now c.in-Some.net.now c.in-Some.rest.now c.args.tracks.items c.loop-track.track c.args.ways.now c.if-goes_with.ways
          (sym (test ∙ ap (λ ts. goes c.args.line.now (on_track c.in-Some.net.now c.loop-track.track) ts c.args.others.now) is) ∙ w.if-goes_with.false) (w.ways-is ∙ c.loop-track.invariant)
    ]
