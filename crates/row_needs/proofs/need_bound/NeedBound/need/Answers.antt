use Rattle.std.proofs.Common.{rules, Some, sym, ◌≡◌, ◌∙◌}
use Rattle.row_needs.proofs.Bounds.{by_other, by_read}
use Rattle.row_needs.proofs.Rests.{not_both}
use Rattle.row_needs.proofs.need_bound.NeedBound.need.Goals as goal

pub returns-then-not-are_same : goal.returns-then-not-are_same
returns-then-not-are_same c = sym (by_other c.args.self.now c.args.at.now.state c.args.kinds.now (λ same. not_both c.are_same.result (c.are_same.ensures.1 same) c.if-not-are_same.true))

pub returns-in-Some : goal.returns-in-Some
returns-in-Some c =
    let there : c.args.self.now.needs ≡ Some c.in-Some.needs = search rules in
    c.read.ensures ∙ by_read c.args.self.now c.in-Some.needs c.args.at.now.state c.args.kinds.now c.args.at.now.counts (c.are_same.ensures.0 c.if-not-are_same.false) there c.requires.numbered.counts
