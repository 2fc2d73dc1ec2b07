-- A comparison calls for one end.
use Rattle.std.proofs.Common.{◌≡◌, ◌≢◌, Result, IfOk, refl, sym, ap, ◌∙◌, subst}
use Rattle.std.proofs.lemmas.Result.{IfOk-weaker}
use Rattle.cell_num.specs.declared.list.NoMemory.{NoMemory}
use Rattle.lef_read.specs.Differences.{DiffersBy}
use Rattle.lef_read.specs.declared.differ.Differ.{Differ}
use Rattle.lef_read.specs.declared.differ.Differ.TheVariants as differ
use Rattle.lef_read.proofs.OneAnswer.{agrees_alone, one_answer}
use Rattle.lef_read.specs.declared.cell.Macro.{Macro}
use Rattle.call_end.specs.declared.end.End.{End}
use Rattle.call_end.specs.declared.status.Status.{Status}
use Rattle.call_end.specs.declared.status.Status.TheVariants as status
use Rattle.layout_commands.specs.Agree.{AgreesTo, DoesAgree, HasDifference, IsAgreeAnswer, IsDisagreement, IsUnextracted, agree_end, differ_status}
use Rattle.layout_commands.specs.declared.agreement.AgreeAnswer.{AgreeAnswer}
use Rattle.layout_commands.specs.declared.agreement.AgreeAnswer.TheVariants.{Agreed, Differs}
use Rattle.layout_commands.specs.declared.compared.Compared.{Compared}

pub differs_answers : (c : Compared) (d : Differ) (r : Result AgreeAnswer NoMemory) → DiffersBy c.shapes c.cell d → IfOk r (λ (told : AgreeAnswer). (d ≢ differ.NoMemory) × (told ≡ Differs d)) → IfOk r (IsAgreeAnswer c)
differs_answers c d r is = IfOk-weaker r (λ (told : AgreeAnswer). (d ≢ differ.NoMemory) × (told ≡ Differs d)) (IsAgreeAnswer c) (λ told (other, same). subst (IsAgreeAnswer c) (sym same) (other, is))

-- ---- one answer

abbrev status_of : Macro → AgreeAnswer → Status
status_of cell answer = (agree_end cell answer).status

one_status : (c : Compared) (a b : AgreeAnswer) → IsAgreeAnswer c a → IsAgreeAnswer c b → status_of c.cell a ≡ status_of c.cell b
one_status c Agreed Agreed x y = refl
one_status c Agreed (Differs d) (netlist, agrees) (other, differs) = absurd (other (agrees_alone c.shapes c.cell d netlist agrees differs))
one_status c (Differs d) Agreed (other, differs) (netlist, agrees) = absurd (other (agrees_alone c.shapes c.cell d netlist agrees differs))
one_status c (Differs d) (Differs e) (one, x) (two, y) = ap differ_status (one_answer c.shapes c.cell d e one two x y)

told_status : (c : Compared) (end : End) (answer : AgreeAnswer) → IsAgreeAnswer c answer → AgreesTo c end → end.status ≡ status_of c.cell answer
told_status c end answer x (other, y, is) = ap (λ (e : End). e.status) is ∙ one_status c other answer y x

-- ---- what calls for an end comes to it

pub agrees_where : (c : Compared) (end : End) → DoesAgree c → AgreesTo c end → end.status ≡ status.Done
agrees_where c end does to = told_status c end Agreed does to

pub unextracted_where : (c : Compared) (end : End) → HasDifference IsUnextracted c → AgreesTo c end → end.status ≡ status.Layout
unextracted_where c end (d, layout, is) to = told_status c end (Differs d) is to ∙ layout

pub disagrees_where : (c : Compared) (end : End) → HasDifference IsDisagreement c → AgreesTo c end → end.status ≡ status.Disagree
disagrees_where c end (d, disagree, is) to = told_status c end (Differs d) is to ∙ disagree
