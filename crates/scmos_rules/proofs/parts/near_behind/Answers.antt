use Rattle.std.proofs.Common.{◌+◌, ◌++◌, drop, sym, ap, ◌∙◌}
use Rattle.std.proofs.lemmas.List.{append-nil}
use Rattle.scmos_rules.specs.Near.{near_from, some_close}
use Rattle.scmos_rules.proofs.Nearing.{near_step, near_end, append_three}
use Rattle.scmos_rules.proofs.parts.near_behind.Goals as goal

pub returns-then-not-is_close_upward : goal.returns-then-not-is_close_upward
returns-then-not-is_close_upward c =
    sym (append-nil c.loop-other.near.items)
    ∙ ap (λ z. c.loop-other.near.items ++ z) (sym (near_end c.args.by c.args.part.now c.args.behind.now c.loop-other.other-index c.other-item.result c.loop-other-test.true c.other-item.is (sym c.is_close_upward.ensures ∙ c.if-not-is_close_upward.true)))
    ∙ c.loop-other.invariant

pub loop-other-preserved : goal.loop-other-preserved
loop-other-preserved c =
    ap (λ z. z ++ near_from c.args.by c.args.part.now (drop (c.loop-other.other-index + 1) c.args.behind.now)) c.in_ok-add_close.ensures
    ∙ append_three c.loop-other.near.items (some_close c.args.by c.args.part.now c.other-item.result) (near_from c.args.by c.args.part.now (drop (c.loop-other.other-index + 1) c.args.behind.now))
    ∙ ap (λ z. c.loop-other.near.items ++ z) (sym (near_step c.args.by c.args.part.now c.args.behind.now c.loop-other.other-index c.other-item.result c.loop-other-test.true c.other-item.is (sym c.is_close_upward.ensures ∙ c.if-not-is_close_upward.false)))
    ∙ c.loop-other.invariant
