use Rattle.std.proofs.Common.{rules, None, Some, ◌≡◌, ◌↔◌}
use Rattle.row_state.specs.Component.{component_value}
use Rattle.row_needs.specs.Above.{IsAboveGaps}
use Rattle.row_needs.specs.Bound.{need_by, value_by}
use Rattle.row_needs.proofs.Bounds.{above_known, above_unknown}
use Rattle.row_needs.proofs.need_bound.NeedBoundGapBound.needs_more.Goals as goal

pub returns-in-Some : goal.returns-in-Some
returns-in-Some c =
    let known : Some c.in-Some.need ≡ need_by c.args.self.now c.args.at.now.state c.args.kinds.now = search rules in
    above_known c.args.self.now c.args.at.now.state c.args.kinds.now c.args.gaps c.in-Some.need known

pub returns-in-None : goal.returns-in-None
returns-in-None c =
    let unknown : None ≡ need_by c.args.self.now c.args.at.now.state c.args.kinds.now = search rules in
    let same : IsAboveGaps component_value c.args.kinds.now c.args.at.now.state c.args.gaps ↔ IsAboveGaps (value_by c.args.self.now) c.args.kinds.now c.args.at.now.state c.args.gaps = above_unknown c.args.self.now c.args.at.now.state c.args.kinds.now c.args.gaps unknown in
    (λ h. same.0 (c.component_needs_more.ensures.0 h), λ h. c.component_needs_more.ensures.1 (same.1 h))
