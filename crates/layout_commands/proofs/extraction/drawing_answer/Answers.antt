use Rattle.std.proofs.Common.{◌≡◌, ◌∙◌, ◌==◌, ap, IsTrue, length, [], subst}
use Rattle.scmos_rules.specs.declared.rules.Deck.{Deck}
use Rattle.scmos_rules.specs.Violations.{AreViolations}
use Rattle.layout_commands.proofs.Extracted.{no_items, none_listed}
use Rattle.layout_commands.proofs.extraction.drawing_answer.Goals as goal

pub extract_legal-requires-clause-obeys : goal.extract_legal-requires-clause-obeys
extract_legal-requires-clause-obeys c =
    let empty : c.in-Ok.found ≡ [] = no_items c.in-Ok.found (subst IsTrue (c.is_empty.ensures ∙ ap (λ z. length z == 0) c.as_slice.ensures) c.if-is_empty.true) in
    none_listed c.args.rules c.args.shapes.now.rects c.in-Ok.found empty (subst (λ (d : Deck). AreViolations d c.args.shapes.now.rects c.in-Ok.found) c.rules_of.ensures c.in-Ok.ensures.found)
