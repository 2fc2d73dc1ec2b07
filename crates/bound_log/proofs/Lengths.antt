-- How long the lines are.
use Rattle.std.specs.Prelude.{ℕ, ◌≡◌, ◌+◌, ◌*◌, ◌<◌, ◌≤◌, Bool, true, false, List, [], ◌∷◌, ◌++◌, Option, Some, None, All, IfSome, length, codes, decimal}
use Rattle.std.proofs.Common.{ap, arith, inl, inr, subst, sym}
use Rattle.std.proofs.lemmas.Fmt.{length-decimal-le}
use Rattle.std.proofs.lemmas.List.{length-append}
use Rattle.std.proofs.lemmas.List.Elements.{All-head, All-tail}
use Rattle.cell_num.specs.declared.net.NetNo.{NetNo}
use Rattle.row_state.specs.declared.kind.Kind.{Kind}
use Rattle.row_state.specs.declared.step.Side.{Side}
use Rattle.row_state.specs.Versions.{IsVersion}
use Rattle.row_state.proofs.Valid.{gates_few, kinds_few}
use Rattle.bound_log.specs.declared.log.Rule.{Rule}
use Rattle.bound_log.specs.declared.log.Rule.TheVariants as by
use Rattle.bound_log.specs.declared.log.Lemma.{Lemma}
use Rattle.bound_log.specs.declared.log.LogStep.{LogStep}
use Rattle.bound_log.specs.Fits.{ForSome, IsLogName, LemmaFits, SideFits, StepFits}
use Rattle.bound_log.specs.Text.{column_line, counts_text, end_text, flip_text, gaps_line, head_lines, lemma_line, more_counts_text, rule_text, side_text}
use Rattle.bound_log.proofs.Again.{few_counts, few_each}
use Rattle.bound_log.proofs.Texts.{joined_apart, state_apart}

both : (a b : List ℕ) (m n : ℕ) → length a ≤ m → length b ≤ n → length (a ++ b) ≤ m + n
both a b m n h g = omega (arith, length-append a b, h, g)

two_digits : (n : ℕ) → n < 100 → length (decimal n) ≤ 2
two_digits n h = length-decimal-le 2 n (omega arith) (omega (arith, h)) (omega (arith, h))

three_digits : (n : ℕ) → n < 1000 → length (decimal n) ≤ 3
three_digits n h = length-decimal-le 3 n (omega arith) (omega (arith, h)) (omega (arith, h))

more_counts : (counts : List ℕ) → All (λ (c : ℕ). c ≤ 64) counts → length (more_counts_text counts) ≤ 3 * length counts
more_counts [] h = omega arith
more_counts (c ∷ cs) h =
    let few : c ≤ 64 = All-head (λ (c : ℕ). c ≤ 64) c cs h in
    let rest : length (more_counts_text cs) ≤ 3 * length cs = more_counts cs (All-tail (λ (c : ℕ). c ≤ 64) c cs h) in
    let first : length (decimal c) ≤ 2 = two_digits c (omega (arith, few)) in
    omega (arith, first, rest, length-append (44 ∷ decimal c) (more_counts_text cs))

counts_short : (counts : List ℕ) → All (λ (c : ℕ). c ≤ 64) counts → length counts ≤ 32 → length (counts_text counts) ≤ 96
counts_short [] h few = omega arith
counts_short (c ∷ cs) h few =
    let most : c ≤ 64 = All-head (λ (c : ℕ). c ≤ 64) c cs h in
    let first : length (decimal c) ≤ 2 = two_digits c (omega (arith, most)) in
    let rest : length (more_counts_text cs) ≤ 3 * length cs = more_counts cs (All-tail (λ (c : ℕ). c ≤ 64) c cs h) in
    let apart : length (counts_text (c ∷ cs)) ≡ length (decimal c ++ more_counts_text cs) = ap length (joined_apart c cs) in
    omega (arith, apart, first, rest, few, length-append (decimal c) (more_counts_text cs))

end_short : (nets : ℕ) (end : Option NetNo) → nets ≤ 256 → IfSome end (λ v. v.0 < nets) → length (end_text end) ≤ 3
end_short nets None few h = omega arith
end_short nets (Some v) few h = three_digits v.0 (omega (arith, few, h))

rule_short : (rule : Rule) → length (rule_text rule) ≤ 1
rule_short by.P = omega arith
rule_short by.N = omega arith
rule_short by.Branch = omega arith

fields_short : (bound rule p n e f : List ℕ) → length bound ≤ 2 → length rule ≤ 1 → length p ≤ 96 → length n ≤ 96 → length e ≤ 3 → length f ≤ 3 → length (codes "lemma " ++ bound ++ codes " " ++ rule ++ codes " " ++ p ++ codes " " ++ n ++ codes " " ++ e ++ codes " " ++ f ++ codes "\n") ≤ 301
fields_short bound rule p n e f hb hr hp hn he hf =
    let front : length (codes "lemma " ++ bound ++ codes " " ++ rule ++ codes " ") ≤ 11 = omega (arith, both (codes "lemma " ++ bound ++ codes " " ++ rule) (codes " ") 10 1 (both (codes "lemma " ++ bound ++ codes " ") rule 9 1 (both (codes "lemma " ++ bound) (codes " ") 8 1 (both (codes "lemma ") bound 6 2 (omega arith) hb) (omega arith)) hr) (omega arith)) in
    let counts : length (codes "lemma " ++ bound ++ codes " " ++ rule ++ codes " " ++ p ++ codes " " ++ n ++ codes " ") ≤ 205 = both (codes "lemma " ++ bound ++ codes " " ++ rule ++ codes " " ++ p ++ codes " " ++ n) (codes " ") 204 1 (both (codes "lemma " ++ bound ++ codes " " ++ rule ++ codes " " ++ p ++ codes " ") n 108 96 (both (codes "lemma " ++ bound ++ codes " " ++ rule ++ codes " " ++ p) (codes " ") 107 1 (both (codes "lemma " ++ bound ++ codes " " ++ rule ++ codes " ") p 11 96 front hp) (omega arith)) hn) (omega arith) in
    let whole = both (codes "lemma " ++ bound ++ codes " " ++ rule ++ codes " " ++ p ++ codes " " ++ n ++ codes " " ++ e ++ codes " " ++ f) (codes "\n") 212 1 (both (codes "lemma " ++ bound ++ codes " " ++ rule ++ codes " " ++ p ++ codes " " ++ n ++ codes " " ++ e ++ codes " ") f 209 3 (both (codes "lemma " ++ bound ++ codes " " ++ rule ++ codes " " ++ p ++ codes " " ++ n ++ codes " " ++ e) (codes " ") 208 1 (both (codes "lemma " ++ bound ++ codes " " ++ rule ++ codes " " ++ p ++ codes " " ++ n ++ codes " ") e 205 3 counts he) (omega arith)) hf) (omega arith) in
    omega (arith, whole)

pub lemma_short : (lemma : Lemma) → ForSome (λ k. LemmaFits k lemma) → length (lemma_line lemma) ≤ 301
lemma_short lemma (k, some, fits) =
    let apart = state_apart (codes "lemma " ++ decimal lemma.bound ++ codes " " ++ rule_text lemma.rule ++ codes " ") (codes " ") (codes "\n") (counts_text lemma.state.p_left) (counts_text lemma.state.n_left) (end_text lemma.state.p_end) (end_text lemma.state.n_end) in
    subst (λ (bs : List ℕ). length bs ≤ 301) (sym apart) (fields_short (decimal lemma.bound) (rule_text lemma.rule) (counts_text lemma.state.p_left) (counts_text lemma.state.n_left) (end_text lemma.state.p_end) (end_text lemma.state.n_end)
    (two_digits lemma.bound (omega (arith, fits.few)))
    (rule_short lemma.rule)
    (counts_short lemma.state.p_left (few_counts k.p lemma.state.p_left (few_each k.p (λ gate. (gates_few k gate some).0)) fits.state.p_kinds fits.state.p_counts) (omega (arith, fits.state.p_kinds, (kinds_few k some).0)))
    (counts_short lemma.state.n_left (few_counts k.n lemma.state.n_left (few_each k.n (λ gate. (gates_few k gate some).1)) fits.state.n_kinds fits.state.n_counts) (omega (arith, fits.state.n_kinds, (kinds_few k some).1)))
    (end_short k.nets lemma.state.p_end some.few_nets fits.state.p_end)
    (end_short k.nets lemma.state.n_end some.few_nets fits.state.n_end))

flip_short : (flipped : Bool) → length (flip_text flipped) ≤ 1
flip_short true = omega arith
flip_short false = omega arith

side_short : (kinds : List Kind) (side : Option Side) → length kinds ≤ 32 → SideFits kinds side → length (side_text side) ≤ 4
side_short kinds None few h = omega arith
side_short kinds (Some side) few h =
    both (decimal side.kind ++ codes " ") (flip_text side.flipped) 3 1 (both (decimal side.kind) (codes " ") 2 1 (two_digits side.kind (omega (arith, few, h))) (omega arith)) (flip_short side.flipped)

places_short : (gate p n : List ℕ) → length gate ≤ 3 → length p ≤ 4 → length n ≤ 4 → length (codes "column " ++ gate ++ codes " " ++ p ++ codes " " ++ n ++ codes "\n") ≤ 301
places_short gate p n hg hp hn =
    let whole = both (codes "column " ++ gate ++ codes " " ++ p ++ codes " " ++ n) (codes "\n") 20 1 (both (codes "column " ++ gate ++ codes " " ++ p ++ codes " ") n 16 4 (both (codes "column " ++ gate ++ codes " " ++ p) (codes " ") 15 1 (both (codes "column " ++ gate ++ codes " ") p 11 4 (both (codes "column " ++ gate) (codes " ") 10 1 (both (codes "column ") gate 7 3 (omega arith) hg) (omega arith)) hp) (omega arith)) hn) (omega arith) in
    omega (arith, whole)

pub column_short : (listed : LogStep) → ForSome (λ k. StepFits k listed) → length (column_line listed) ≤ 301
column_short listed (k, some, fits) =
    places_short (decimal listed.gate.0) (side_text listed.step.p) (side_text listed.step.n)
    (three_digits listed.gate.0 (omega (arith, fits.gate, some.few_nets)))
    (side_short k.p listed.step.p (kinds_few k some).0 fits.p)
    (side_short k.n listed.step.n (kinds_few k some).1 fits.n)

pub gaps_short : (gaps : ℕ) → gaps ≤ 63 → length (gaps_line gaps) ≤ 301
gaps_short gaps few = let whole = both (codes "gaps " ++ decimal gaps) (codes "\n") 7 1 (both (codes "gaps ") (decimal gaps) 5 2 (omega arith) (two_digits gaps (omega (arith, few)))) (omega arith) in omega (arith, whole)

lines_short : (version name : List ℕ) → length version ≤ 2 → length name ≤ 32 → length (codes "cellgen-log " ++ version ++ codes "\n" ++ codes "cell " ++ name ++ codes "\n") ≤ 301
lines_short version name hv hn =
    let front : length (codes "cellgen-log " ++ version ++ codes "\n" ++ codes "cell ") ≤ 20 = both (codes "cellgen-log " ++ version ++ codes "\n") (codes "cell ") 15 5 (both (codes "cellgen-log " ++ version) (codes "\n") 14 1 (both (codes "cellgen-log ") version 12 2 (omega arith) hv) (omega arith)) (omega arith) in
    let whole = both (codes "cellgen-log " ++ version ++ codes "\n" ++ codes "cell " ++ name) (codes "\n") 52 1 (both (codes "cellgen-log " ++ version ++ codes "\n" ++ codes "cell ") name 20 32 front hn) (omega arith) in
    omega (arith, whole)

pub head_short : (version : ℕ) (name : List ℕ) → IsVersion version → IsLogName name → length (head_lines version name) ≤ 301
head_short version name known is =
    let few : version < 100 = elim known [ inl e ↦ omega (arith, e) | inr e ↦ omega (arith, e) ] in
    lines_short (decimal version) name (two_digits version few) is.few
