use Rattle.std.proofs.Common.{◌≡◌, ◌&&◌, ◌∙◌, ap, arith, refl, sym}
use Rattle.row_state.specs.Tests.{keeps_lead, leads_below}
use Rattle.row_state.proofs.Gates.{leads_last, leads_step}
use Rattle.row_state.proofs.state.has_leads.Goals as goal
use Rattle.row_state.proofs.state.has_leads.Goals.{then-has_lead, else-has_lead}

pub gates-init : goal.gates-init
gates-init c = (ap (leads_below c.args.kinds.now c.args.state.now) (sym c.first_gates-cursor.ensures.start), c.first_gates-cursor.ensures.cursor c.args.kinds.now)

pub gates-preserved : goal.gates-preserved
gates-preserved c =
    let is : c.has_lead.result ≡ keeps_lead c.args.kinds.now c.args.state.now c.in-Some.on.gate = c.has_lead.ensures c.args.kinds.now c.args.state.now c.in-Some.ensures.on in
    let now : c.if-has_lead.kept ≡ (c.has_lead.result && c.gates.kept) = elim c.if-has_lead.branch [
      | then-has_lead w ↦ w.kept-is ∙ sym (ap (λ b. b && c.gates.kept) w.if-has_lead.true)
      | else-has_lead w ↦ w.kept-is ∙ w.if-has_lead.false ∙ sym (ap (λ b. b && c.gates.kept) w.if-has_lead.false)
    ] in (
      leads_step c.args.kinds.now c.args.state.now c.gates.cursor c.behind-cursor.result c.in-Some.on.gate c.has_lead.result c.gates.kept c.if-has_lead.kept c.gates.invariant.1 c.in-Some.ensures.next c.behind-cursor.ensures.gate is c.gates.invariant.0 now,
      c.behind-cursor.ensures.cursor c.args.kinds.now c.args.state.now c.in-Some.ensures.on (omega (arith, c.in-Some.ensures.next.below)),
    )

pub returns : goal.returns
returns c = c.gates.invariant.0 ∙ sym (leads_last c.args.kinds.now c.args.state.now c.gates.cursor c.gates.invariant.1 (c.in_default.ensures.last refl))
