use Rattle.std.proofs.Common.{◌≡◌, false, true, get_or, subst, sym, ◌∙◌}
use Rattle.std.proofs.lemmas.Bool.{both_ways}
use Rattle.row_cycles.proofs.Loops.{no_from}
use Rattle.cycle_search.proofs.below.Below.has.Goals as goal

pub returns-then-not-is_net : goal.returns-then-not-is_net
returns-then-not-is_net c = no_from (λ h. both_ways c.is_net.result c.if-not-is_net.true (c.is_net.ensures.1 h.0))

pub returns : goal.returns
returns c = (
  λ e. (c.is_net.ensures.0 c.if-not-is_net.false, subst (λ p. get_or c.args.self.now.marks.items p false ≡ true) c.place.ensures (sym c.mark_at.ensures ∙ e)),
  λ h. c.mark_at.ensures ∙ subst (λ p. get_or c.args.self.now.marks.items p false ≡ true) (sym c.place.ensures) h.1,
)
