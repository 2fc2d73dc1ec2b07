-- A cell of a GDSII file calls for one end of its extraction.
use Rattle.std.proofs.Common.{ℕ, ℤ, suc, ◌≡◌, ◌≢◌, ◌==◌, IsTrue, ◌≤◌, ◌<◌, List, [], ◌∷◌, length, Option, Some, Result, IfOk, inl, inr, refl, sym, ap, ◌∙◌, subst, arith}
use Rattle.std.specs.List.{Contains}
use Rattle.std.proofs.lemmas.Bool.Decides.{Decides-eqb}
use Rattle.std.proofs.lemmas.Result.{IfOk-weaker}
use Rattle.box_geom.specs.declared.shape.Shape.{Shape}
use Rattle.box_geom.specs.declared.shape.Shapes.{Shapes}
use Rattle.cell_num.proofs.Lists.{contains_none}
use Rattle.cell_num.specs.declared.list.NoMemory.{NoMemory}
use Rattle.scmos_rules.specs.declared.number.RuleNo.{RuleNo}
use Rattle.scmos_rules.specs.declared.rules.Deck.{Deck}
use Rattle.scmos_rules.specs.declared.rules.Deck.TheVariants as deck
use Rattle.scmos_rules.specs.declared.violation.RuleFault.{RuleFault}
use Rattle.scmos_rules.specs.declared.violation.RuleFault.TheVariants as rules
use Rattle.scmos_rules.specs.declared.violation.Violation.{Violation}
use Rattle.scmos_rules.specs.Rules.{Fails, InDeck, Obeys}
use Rattle.scmos_rules.specs.Violations.{AreViolations, IsFaultOf}
use Rattle.net_extract.specs.declared.fault.ExtractFault.{ExtractFault}
use Rattle.net_extract.specs.declared.fault.ExtractFault.TheVariants as no_netlist
use Rattle.net_extract.specs.Bodies.{ExtractsBodies}
use Rattle.net_extract.specs.Extraction.{ExtractRefused}
use Rattle.net_extract.specs.declared.netlist.Netlist.{Netlist}
use Rattle.net_extract.proofs.Netlists.{only_memory}
use Rattle.call_end.specs.declared.end.End.{End}
use Rattle.layout_commands.specs.declared.extraction.ExtractAnswer.{ExtractAnswer}
use Rattle.layout_commands.specs.declared.extraction.ExtractAnswer.TheVariants.{Extracted, Broken, Unchecked, Refused}
use Rattle.layout_commands.specs.declared.gds_cell.GdsCell.{GdsCell}
use Rattle.call_end.specs.declared.status.Status.{Status}
use Rattle.call_end.specs.declared.status.Status.TheVariants as status
use Rattle.layout_commands.specs.Extract.{BreaksRule, ExtractsTo, HasLayoutFault, HasNetlist, IsDrawingAnswer, IsLayoutFault, IsSmall, extract_end}

-- ---- no rule is listed

pub no_items : {X : Type 0} → (xs : List X) → IsTrue (length xs == 0) → xs ≡ []
no_items [] is = refl
no_items (x ∷ xs) is = absurd (let k : suc (length xs) ≡ 0 = (Decides-eqb (suc (length xs)) 0).0 is in omega arith)

-- ---- rules

disobeys : (d : Deck) (s : List Shape) (found : List Violation) (v : Violation) → AreViolations d s found → Contains found v → Obeys d s → ⊥
disobeys d s found v are c obeys =
    let listed = (are.listed v).0 c in
    obeys.none v.rule listed.0 v.x v.y listed.1.covered

pub none_listed : (d : Deck) (s : List Shape) (found : List Violation) → found ≡ [] → AreViolations d s found → Obeys d s
none_listed d s found is are = record {
  none = λ rule listed. elim (are.each rule listed) [
    | inl (v, c, same) ↦ absurd (contains_none v (subst (λ (vs : List Violation). Contains vs v) is c))
    | inr none ↦ none
  ];
}

not_many : (s : List Shape) (f : RuleFault) → length s ≤ 10000 → IsFaultOf s f → f ≢ rules.NoMemory → ⊥
not_many s (rules.TooMany count) few is other = absurd (omega (arith, few, is.1))
not_many s rules.NoMemory few is other = other refl

-- ---- one status

abbrev status_of : List ℕ → ExtractAnswer → Status
status_of name answer = (extract_end name answer).status

one_drawing : (name : List ℕ) (d : Deck) (shapes : Shapes) (a b : ExtractAnswer) → IsDrawingAnswer d shapes a → IsDrawingAnswer d shapes b → status_of name a ≡ status_of name b
one_drawing name d shapes (Extracted n bs) (Extracted m cs) x y = refl
one_drawing name d shapes (Extracted n bs) (Broken vs) (obeys, extracts, bodied) (small, are, (v, c)) = absurd (disobeys d shapes.rects vs v are c obeys)
one_drawing name d shapes (Extracted n bs) (Unchecked f) (obeys, extracts, bodied) (other, is) = absurd (not_many shapes.rects f extracts.few.rects is other)
one_drawing name d shapes (Extracted n bs) (Refused f) (obeys, extracts, bodied) (other, small, also, is) = absurd (other (only_memory d shapes n f extracts is))
one_drawing name d shapes (Broken vs) (Extracted n bs) (small, are, (v, c)) (obeys, extracts, bodied) = absurd (disobeys d shapes.rects vs v are c obeys)
one_drawing name d shapes (Broken vs) (Broken ws) x y = refl
one_drawing name d shapes (Broken vs) (Unchecked f) (small, are, (v, c)) (other, is) = absurd (not_many shapes.rects f small is other)
one_drawing name d shapes (Broken vs) (Refused f) (small, are, (v, c)) (other, also, obeys, is) = absurd (disobeys d shapes.rects vs v are c obeys)
one_drawing name d shapes (Unchecked f) (Extracted n bs) (other, is) (obeys, extracts, bodied) = absurd (not_many shapes.rects f extracts.few.rects is other)
one_drawing name d shapes (Unchecked f) (Broken vs) (other, is) (small, are, (v, c)) = absurd (not_many shapes.rects f small is other)
one_drawing name d shapes (Unchecked f) (Unchecked g) x y = refl
one_drawing name d shapes (Unchecked f) (Refused g) x y = refl
one_drawing name d shapes (Refused f) (Extracted n bs) (other, small, also, is) (obeys, extracts, bodied) = absurd (other (only_memory d shapes n f extracts is))
one_drawing name d shapes (Refused f) (Broken vs) (other, also, obeys, is) (small, are, (v, c)) = absurd (disobeys d shapes.rects vs v are c obeys)
one_drawing name d shapes (Refused f) (Unchecked g) x y = refl
one_drawing name d shapes (Refused f) (Refused g) x y = refl

-- ---- what calls for an end comes to it

told_status : (cell : GdsCell) (end : End) (answer : ExtractAnswer) → IsDrawingAnswer cell.rules cell.shapes answer → ExtractsTo cell end → end.status ≡ status_of cell.name answer
told_status cell end answer x (other, y, is) = ap (λ (e : End). e.status) is ∙ one_drawing cell.name cell.rules cell.shapes other answer y x

fault_status : (name : List ℕ) (answer : ExtractAnswer) → IsLayoutFault answer → status_of name answer ≡ status.Layout
fault_status name (Extracted n bs) is = absurd is
fault_status name (Broken vs) is = absurd is
fault_status name (Unchecked f) is = refl
fault_status name (Refused f) is = refl

pub extracts_where : (cell : GdsCell) (end : End) → HasNetlist cell → ExtractsTo cell end → end.status ≡ status.Done
extracts_where cell end (n, bs, is) to = told_status cell end (Extracted n bs) is to

pub refuses_where : (cell : GdsCell) (end : End) → HasLayoutFault cell → ExtractsTo cell end → end.status ≡ status.Layout
refuses_where cell end (answer, fault, is) to = told_status cell end answer is to ∙ fault_status cell.name answer fault

broken_status : (name : List ℕ) (d : Deck) (shapes : Shapes) (rule : RuleNo) (x y : ℤ) (answer : ExtractAnswer) → IsSmall shapes → InDeck d rule → Fails d rule shapes.rects x y → IsDrawingAnswer d shapes answer → status_of name answer ≡ status.Rejected
broken_status name d shapes rule x y (Extracted n bs) small listed fails (obeys, extracts, bodied) = absurd (obeys.none rule listed x y fails)
broken_status name d shapes rule x y (Broken vs) small listed fails is = refl
broken_status name d shapes rule x y (Unchecked f) small listed fails (other, is) = absurd (not_many shapes.rects f small is other)
broken_status name d shapes rule x y (Refused f) small listed fails (other, also, obeys, is) = absurd (obeys.none rule listed x y fails)

pub breaks_where : (cell : GdsCell) (end : End) → BreaksRule cell → ExtractsTo cell end → end.status ≡ status.Rejected
breaks_where cell end breaks (answer, is, same) = ap (λ (e : End). e.status) same ∙ broken_status cell.name cell.rules cell.shapes breaks.rule breaks.x breaks.y answer breaks.small breaks.listed breaks.fails is

-- ---- from what the parts answered

pub unchecked_answers : (d : Deck) (shapes : Shapes) (f : RuleFault) (r : Result ExtractAnswer NoMemory) → IsFaultOf shapes.rects f → IfOk r (λ (told : ExtractAnswer). (f ≢ rules.NoMemory) × (told ≡ Unchecked f)) → IfOk r (IsDrawingAnswer d shapes)
unchecked_answers d shapes f r is = IfOk-weaker r (λ (told : ExtractAnswer). (f ≢ rules.NoMemory) × (told ≡ Unchecked f)) (IsDrawingAnswer d shapes) (λ told (other, same). subst (IsDrawingAnswer d shapes) (sym same) (other, is))

pub refused_answers : (d : Deck) (shapes : Shapes) (f : ExtractFault) (r : Result ExtractAnswer NoMemory) → IsSmall shapes → Obeys d shapes.rects → ExtractRefused d shapes f → IfOk r (λ (told : ExtractAnswer). (f ≢ no_netlist.NoMemory) × (told ≡ Refused f)) → IfOk r (IsDrawingAnswer d shapes)
refused_answers d shapes f r small obeys is = IfOk-weaker r (λ (told : ExtractAnswer). (f ≢ no_netlist.NoMemory) × (told ≡ Refused f)) (IsDrawingAnswer d shapes) (λ told (other, same). subst (IsDrawingAnswer d shapes) (sym same) (other, small, obeys, is))

pub bodied_answers : (shapes : Shapes) (netlist : Netlist) (bodies : List (Option ℕ)) → Obeys deck.Taps shapes.rects → ExtractsBodies shapes (record { netlist = netlist; bodies = bodies }) → IsDrawingAnswer deck.Taps shapes (Extracted netlist (Some bodies))
bodied_answers shapes netlist bodies obeys extracts = (obeys, extracts.of, extracts)

pub obeys_same : (d e : Deck) (s : List Shape) → d ≡ e → Obeys d s → Obeys e s
obeys_same d e s same obeys = subst (λ (x : Deck). Obeys x s) same obeys

pub answers_same : (d e : Deck) (shapes : Shapes) (r : Result ExtractAnswer NoMemory) → d ≡ e → IfOk r (IsDrawingAnswer e shapes) → IfOk r (IsDrawingAnswer d shapes)
answers_same d e shapes r same answers = subst (λ (x : Deck). IfOk r (IsDrawingAnswer x shapes)) (sym same) answers

pub some_listed : (found : List Violation) → 0 < length found → (v : Violation) × Contains found v
some_listed [] some = absurd (omega (arith, some))
some_listed (v ∷ vs) some = (v, (0, omega arith, refl))
