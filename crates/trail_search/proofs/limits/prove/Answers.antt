use Rattle.std.proofs.Common.{◌≡◌, ◌+◌, List, Some, None, ap, arith, refl}
use Rattle.trail_state.specs.declared.level.Level.{Level}
use Rattle.open_gates.specs.Open.{open_in}
use Rattle.trail_check.specs.Gates.{first_with_many}
use Rattle.trail_check.specs.Justified.{ends_proved, gaps_proved}
use Rattle.trail_check.specs.Leveled.{levels_for}
use Rattle.trail_search.specs.Filling.{closed_gates}
use Rattle.trail_search.specs.Proof.{IsClosedWithMany, gate_units}
use Rattle.trail_search.specs.Units.{path_units}
use Rattle.trail_search.proofs.Ends.{most_is}
use Rattle.trail_search.proofs.OpenLevels.{open_chained}
use Rattle.trail_search.proofs.Proved.{none_kept}
use Rattle.trail_search.proofs.Proving.{is_proof}
use Rattle.trail_search.proofs.Tied.{spent_is}
use Rattle.trail_search.proofs.limits.prove.Goals as goal

pub refute_limits-requires-clause-kept : goal.refute_limits-requires-clause-kept
refute_limits-requires-clause-kept c = none_kept c.in-Ok.listing.levels c.new-kept.result c.new-kept.ensures.lemmas c.new-kept.ensures.lines c.new-kept.ensures.indexed

pub returns-in-Err-Long-clause-stopped : goal.returns-in-Err-Long-clause-stopped
returns-in-Err-Long-clause-stopped c =
    let first : first_with_many c.args.fingers.now (closed_gates c.args.fingers.now c.in_ok-order.order) ≡ Some c.in-Err-Long.gate = rw c.in-Err-Long.field-0-is at c.in-Err-Long.ensures.stops in
    let told : IsClosedWithMany c.args.fingers.now c.in-Err-Long.gate = record { order = c.in_ok-order.order; is = c.in_ok-order.ensures; first = first } in
    rw c.in-Err-Long.field-0-is told

pub returns-then-whole-clause-proof : goal.returns-then-whole-clause-proof
returns-then-whole-clause-proof c =
    is_proof c.args.fingers.now (record { trails = record { fill = c.in-Ok.listing.fill; order = c.in_ok-order.order; lemmas = c.refute_limits.new.kept.lines; best = None }; opened = c.in-Ok.listing.opened; gaps = c.gaps.result }) c.in-Ok.listing.levels c.refute_limits.new.kept c.requires.fingers c.in_ok-order.ensures
    c.in-Ok.ensures.few_ways c.in-Ok.ensures.levels
    c.in_ok-whole.ensures.further.kept c.in_ok-whole.ensures.reached c.in-Ok.ensures.opened
    c.in-Ok.ensures.fill
    refl refl c.gaps.ensures

pub refute_limits-requires-clause-chained : goal.refute_limits-requires-clause-chained
refute_limits-requires-clause-chained c = open_chained c.args.fingers.now (open_in c.args.fingers.now c.in-Ok.listing.fill c.in_ok-order.order) c.in_ok-order.order c.in-Ok.listing.levels c.requires.fingers c.in-Ok.ensures.levels

pub returns-then-whole-clause-most : goal.returns-then-whole-clause-most
returns-then-whole-clause-most c = λ few.
    most_is c.in-Ok.listing.levels (levels_for c.args.fingers.now (record { fill = c.in-Ok.listing.fill; order = c.in_ok-order.order; lemmas = c.refute_limits.new.kept.lines; best = None })) c.gaps.result (gaps_proved (ends_proved c.refute_limits.new.kept.lemmas)) c.in-Ok.ensures.levels c.gaps.ensures
    (c.in_ok-whole.ensures.most c.if-whole.true (omega (arith, few, c.gaps.ensures)))

pub returns-then-whole-clause-units : goal.returns-then-whole-clause-units
returns-then-whole-clause-units c =
    spent_is c.args.fingers.now c.in-Ok.listing.levels (record {
      fill = c.in-Ok.listing.fill;
      order = c.in_ok-order.order;
      lemmas = c.refute_limits.new.kept.lines;
      best = None;
    }) c.new-kept.result c.refute_limits.new.kept
    c.args.left.now c.refute_limits.new.left (path_units c.in-Ok.listing.levels + 1)
    (gate_units c.args.fingers.now (record {
      fill = c.in-Ok.listing.fill;
      order = c.in_ok-order.order;
      lemmas = c.refute_limits.new.kept.lines;
      best = None;
    }) + 1)
    c.in-Ok.ensures.levels c.in_ok-whole.ensures.further.kept refl c.new-kept.ensures.lemmas
    (ap (λ (ls : List Level). path_units ls + 1) c.in-Ok.ensures.levels)
    c.in_ok-whole.ensures.path

pub returns-clause-stopped : goal.returns-clause-stopped
returns-clause-stopped c = record {
  none = c.in_ok-whole.ensures.spent c.if-whole.false;
  proved = is_proof c.args.fingers.now (record { trails = record { fill = c.in-Ok.listing.fill; order = c.in_ok-order.order; lemmas = c.refute_limits.new.kept.lines; best = None }; opened = c.in-Ok.listing.opened; gaps = c.gaps.result }) c.in-Ok.listing.levels c.refute_limits.new.kept c.requires.fingers c.in_ok-order.ensures
      c.in-Ok.ensures.few_ways c.in-Ok.ensures.levels
      c.in_ok-whole.ensures.further.kept c.in_ok-whole.ensures.reached c.in-Ok.ensures.opened
      c.in-Ok.ensures.fill
      refl refl c.gaps.ensures;
  units = spent_is c.args.fingers.now c.in-Ok.listing.levels (record
      { fill = c.in-Ok.listing.fill; order = c.in_ok-order.order; lemmas = c.refute_limits.new.kept.lines; best = None })
      c.new-kept.result c.refute_limits.new.kept c.args.left.now c.refute_limits.new.left
      (path_units c.in-Ok.listing.levels) (gate_units c.args.fingers.now
      (record {
        fill = c.in-Ok.listing.fill;
        order = c.in_ok-order.order;
        lemmas = c.refute_limits.new.kept.lines;
        best = None;
      }))
      c.in-Ok.ensures.levels c.in_ok-whole.ensures.further.kept refl c.new-kept.ensures.lemmas
      (ap path_units c.in-Ok.ensures.levels)
      (c.in_ok-whole.ensures.spent_path c.if-whole.false);
}
