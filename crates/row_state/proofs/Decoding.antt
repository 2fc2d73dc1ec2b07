-- What a number of a state says of its parts.
use Rattle.std.proofs.Common.{ℕ, zero, suc, ◌≡◌, ◌+◌, ◌/◌, ◌%◌, ◌<◌, List, [], ◌∷◌, ◌++◌, length, take, drop, set, get_or, refl, sym, ap, subst, arith, ◌∙◌}
use Rattle.std.proofs.lemmas.List.{append_assoc, take_more_set}
use Rattle.row_state.specs.declared.kind.Kind.{Kind}
use Rattle.row_state.specs.declared.kind.Kinds.{Kinds}
use Rattle.row_state.specs.Code.{IsCode, counts_of_code, rows_of_code, state_code, state_of}
use Rattle.row_state.specs.Decoded.{decoded, rows_found}
use Rattle.row_state.specs.Start.{AreSomeKinds, IsState}
use Rattle.row_state.proofs.Codes.{rows_few}

-- one digit more is a count
counts_drop_more : (kinds : List Kind) (i n : ℕ) (k : Kind) → i < length kinds → counts_of_code (drop i kinds) n ≡ n % ((get_or kinds i k).count + 1) ∷ counts_of_code (drop (suc i) kinds) (n / ((get_or kinds i k).count + 1))
counts_drop_more [] i n k l = absurd (omega (arith, l))
counts_drop_more (x ∷ xs) zero n k l = refl
counts_drop_more (x ∷ xs) (suc i) n k l = counts_drop_more xs i n k (omega (arith, l))

pub counts_put : (kinds : List Kind) (counts before : List ℕ) (i n : ℕ) (k : Kind) → i < length kinds → length before ≡ length kinds → take i before ++ counts_of_code (drop i kinds) n ≡ counts → take (i + 1) (set before i (n % ((get_or kinds i k).count + 1))) ++ counts_of_code (drop (i + 1) kinds) (n / ((get_or kinds i k).count + 1)) ≡ counts
counts_put kinds counts before i n k l same e =
    let one : i + 1 ≡ suc i = omega arith in
    ap (λ xs. xs ++ counts_of_code (drop (i + 1) kinds) (n / ((get_or kinds i k).count + 1))) (take_more_set before i (n % ((get_or kinds i k).count + 1)) (omega (arith, l, same)))
    ∙ append_assoc (take i before) (n % ((get_or kinds i k).count + 1) ∷ []) (counts_of_code (drop (i + 1) kinds) (n / ((get_or kinds i k).count + 1)))
    ∙ ap (λ j. take i before ++ n % ((get_or kinds i k).count + 1) ∷ counts_of_code (drop j kinds) (n / ((get_or kinds i k).count + 1))) one
    ∙ ap (λ ds. take i before ++ ds) (sym (counts_drop_more kinds i n k l))
    ∙ e

pub code_few : (k : Kinds) (code : ℕ) → AreSomeKinds k → IsCode k code → rows_of_code k code < 18446744073709551616
code_few k code some c = omega (arith, ap (rows_of_code k) c.2, rows_found k c.0 c.1, rows_few k c.0 some c.1)

pub code_is : (k : Kinds) (code : ℕ) (c : IsCode k code) → state_of k code ≡ c.0
code_is k code c = ap (state_of k) (sym c.2) ∙ decoded k c.0 c.1

pub code_valid : (k : Kinds) (code : ℕ) → IsCode k code → IsState k (state_of k code)
code_valid k code c = subst (IsState k) (sym (code_is k code c)) c.1

pub code_again : (k : Kinds) (code : ℕ) → IsCode k code → state_code k (state_of k code) ≡ code
code_again k code c = ap (state_code k) (code_is k code c) ∙ c.2
