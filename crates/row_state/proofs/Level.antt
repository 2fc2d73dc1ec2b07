-- Rows that have as many fingers left on each gate.
use Rattle.std.specs.Prelude.{ℕ, zero, suc, ◌≡◌, ◌==◌, true, ltb, leb, List, [], ◌∷◌, length, cond}
use Rattle.std.specs.List.{zip, list_all}
use Rattle.std.proofs.Common.{refl, ap, arith, ◌∙◌}
use Rattle.std.proofs.lemmas.Bool.{and_from, and_parts, eqb-true, le-leb, or_right}
use Rattle.std.proofs.lemmas.List.Sums.{sum_by-cons}
use Rattle.cell_num.specs.Fingers.{sum_below}
use Rattle.cell_num.specs.declared.finger.Row.{Row}
use Rattle.cell_num.specs.declared.finger.Row.TheVariants.{P, N}
use Rattle.row_state.specs.declared.kind.Kind.{Kind}
use Rattle.row_state.specs.declared.kind.Kinds.{Kinds}
use Rattle.row_state.specs.declared.state.State.{State}
use Rattle.row_state.specs.Tests.{counts_fit, empty_test, gate_left, keeps_lead, leads_below, left_of_kind}
use Rattle.row_state.specs.Start.{counts_of}

-- kinds on the same gates one by one, with the same counts
pub same_left : (ps ns : List Kind) (left : List ℕ) (gate : ℕ) → length ps ≡ length ns → list_all (λ (pair : Kind × Kind). pair.0.gate.0 == pair.1.gate.0) (zip ps ns) ≡ true → gate_left ps left gate ≡ gate_left ns left gate
same_left [] [] left gate long same = refl
same_left [] (n ∷ ns) left gate long same = absurd (omega (arith, long))
same_left (p ∷ ps) [] left gate long same = absurd (omega (arith, long))
same_left (p ∷ ps) (n ∷ ns) [] gate long same = refl
same_left (p ∷ ps) (n ∷ ns) (c ∷ cs) gate long same =
    let parts : ((p.gate.0 == n.gate.0) ≡ true) × (list_all (λ (pair : Kind × Kind). pair.0.gate.0 == pair.1.gate.0) (zip ps ns) ≡ true) = and_parts _ _ same in
    let one : left_of_kind gate (p, c) ≡ left_of_kind gate (n, c) = ap (λ (g : ℕ). cond (g == gate) c 0) (eqb-true _ _ parts.0) in
    let shorter : length ps ≡ length ns = omega (arith, long) in
    omega (arith, one, same_left ps ns cs gate shorter parts.1, sum_by-cons (left_of_kind gate) (p, c) (zip ps cs), sum_by-cons (left_of_kind gate) (n, c) (zip ns cs))

-- the same counts of kinds on the same gates
pub level_left : (k : Kinds) (s : State) → counts_fit k.p s.p_left ≡ true → counts_fit k.n s.n_left ≡ true → s.p_left ≡ s.n_left → list_all (λ (pair : Kind × Kind). pair.0.gate.0 == pair.1.gate.0) (zip k.p k.n) ≡ true → (gate : ℕ) → gate_left k.p s.p_left gate ≡ gate_left k.n s.n_left gate
level_left k s p n same gates gate =
    let p' : ((length s.p_left == length k.p) ≡ true) × (list_all (λ (pair : Kind × ℕ). leb pair.1 pair.0.count) (zip k.p s.p_left) ≡ true) = and_parts _ _ p in
    let n' : ((length s.n_left == length k.n) ≡ true) × (list_all (λ (pair : Kind × ℕ). leb pair.1 pair.0.count) (zip k.n s.n_left) ≡ true) = and_parts _ _ n in
    let p_long : length s.p_left ≡ length k.p = eqb-true _ _ p'.0 in
    let n_long : length s.n_left ≡ length k.n = eqb-true _ _ n'.0 in
    let long : length k.p ≡ length k.n = omega (arith, p_long, n_long, ap length same) in
    same_left k.p k.n s.p_left gate long gates ∙ ap (λ (left : List ℕ). gate_left k.n left gate) same

pub level_keeps : (k : Kinds) (s : State) (gate : ℕ) → gate_left k.p s.p_left gate ≡ gate_left k.n s.n_left gate → keeps_lead k s gate ≡ true
level_keeps k s gate same =
    let n_le : leb (gate_left k.n s.n_left gate) (gate_left k.p s.p_left gate) ≡ true = le-leb _ _ (omega (arith, same)) in
    let p_le : leb (gate_left k.p s.p_left gate) (gate_left k.n s.n_left gate) ≡ true = le-leb _ _ (omega (arith, same)) in
    and_from _ _ (or_right (ltb (gate_left k.p (counts_of k.p) gate) (gate_left k.n (counts_of k.n) gate)) _ n_le) (or_right (ltb (gate_left k.n (counts_of k.n) gate) (gate_left k.p (counts_of k.p) gate)) _ p_le)

pub level_leads : (k : Kinds) (s : State) (nets : ℕ) → ((gate : ℕ) → gate_left k.p s.p_left gate ≡ gate_left k.n s.n_left gate) → leads_below k s nets ≡ true
level_leads k s zero level = refl
level_leads k s (suc n) level = and_from _ _ (level_keeps k s n (level n)) (level_leads k s n level)

none_empty : (row : Row) (k : Kinds) (s : State) (gate : ℕ) → gate_left k.p s.p_left gate ≡ gate_left k.n s.n_left gate → empty_test row s k gate ≡ 0
none_empty P k s gate same = omega (arith, same)
none_empty N k s gate same = omega (arith, same)

pub level_empty : (row : Row) (k : Kinds) (s : State) (nets : ℕ) → ((gate : ℕ) → gate_left k.p s.p_left gate ≡ gate_left k.n s.n_left gate) → sum_below (empty_test row s k) nets ≡ 0
level_empty row k s zero level = refl
level_empty row k s (suc n) level = omega (arith, none_empty row k s n (level n), level_empty row k s n level)
